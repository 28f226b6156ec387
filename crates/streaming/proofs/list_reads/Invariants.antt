-- What holds between two reads. Each read but the last takes the count nearer to its limit.
use Rattle.std.proofs.Common.{◌-◌}
use Rattle.line.specs.Record.{limit}
use Rattle.streaming.proofs.ReadsLaws.{ReadSoFar}
use Rattle.streaming.proofs.list_reads.Given as goal

abbrev pub invariant-loop-input : goal.invariant-loop-input
invariant-loop-input l = ReadSoFar l.initial.c.reader l.c l.bytes l.lines l.read

abbrev pub decreases-loop-input : goal.decreases-loop-input
decreases-loop-input l = limit - l.c.reader.head.fed
