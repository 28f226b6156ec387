-- What is left to list is what was to be listed; each turn takes a byte or is the last.
use Rattle.std.proofs.Common.{length}
use Rattle.streaming.proofs.ChunkLaws.{Partly}
use Rattle.streaming.proofs.list_chunk.Given as goal

abbrev pub invariant-parts : goal.invariant-parts
invariant-parts l = Partly l.r l.g l.s l.initial.lines l.lines l.rest

abbrev pub decreases-parts : goal.decreases-parts
decreases-parts l = length l.rest
