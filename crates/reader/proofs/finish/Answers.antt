-- `reader::finish` meets its contract: each act as the table has it.
use Rattle.reader.specs.Moving.{turned}
use Rattle.reader.proofs.Finishing.{finish_quiet, finish_refused, finish_reopened, finish_ended}
use Rattle.reader.proofs.finish.Goals as goal

pub returns-in-Quiet : goal.returns-in-Quiet
unfolding turned
returns-in-Quiet c l =
    rw (c.resume.ensures, c.in-Quiet.is) (finish_quiet c.args.h c.args.t.now c.args.t.at c.args.d.now l c.requires.place_bound.1 c.requires.place_bound.2)

pub returns-in-Refused : goal.returns-in-Refused
unfolding turned
returns-in-Refused c l =
    rw (c.dismiss.ensures, c.in-Refused.is) (finish_refused c.args.h c.args.t.now c.args.t.at c.args.d.now l c.requires.place_bound.1 c.requires.place_bound.2 _)

pub returns-in-Reopened : goal.returns-in-Reopened
unfolding turned
returns-in-Reopened c l =
    rw (c.reopen.ensures, c.in-Reopened.is)
    (finish_reopened c.args.h c.args.t.now c.args.t.at c.args.d.now l c.requires.place_bound.1 c.requires.place_bound.2 _ c.in-Reopened.b)

pub returns-in-Ended : goal.returns-in-Ended
unfolding turned
returns-in-Ended c l =
    rw (c.conclude.ensures, c.in-Ended.is)
    (finish_ended c.args.h c.args.t.now c.args.t.at c.args.d.now l c.requires.place_bound.1 c.requires.place_bound.2 _ c.judge-judged.ensures)
