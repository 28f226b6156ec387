-- Every list of calls on a fresh reader of mode 0 or 1 has a trace; and the accounts of two readers added still balance.
use mathlib.Core.List.{List, [], ◌∷◌, ◌++◌, append-nil}
use mathlib.Core.Path.{◌≡◌, refl, ap, subst⁻¹}
use Prim.Native.Nat.{ℕ, ◌+◌, ◌≤◌}
use native.Mathlib.Omega.{arith}
use borrow.Author.Tests.{le-leb}
use lib.Seq.{append_snoc}
use Rattle.line.specs.Record.{Rec, Possible}
use Rattle.line.specs.Calls.{Call, History, Trace, taken, step_took}
use Rattle.line.specs.Calls.Call.{step, feed}
use Rattle.line.specs.Calls.History.{start, call}
use Rattle.line.specs.Calls.Trace.{begun, stepped, fed}
use Rattle.line.specs.Steps.{Run}
use Rattle.line.proofs.Mirror.{mirror, is_possible}
use Rattle.line.proofs.Outcome.{outcome, feed_meets, step_meets}
use Rattle.line.proofs.Each.{so_far}
use Rattle.line.proofs.Demand3.{demand3}

-- the record of a trace is possible, and of mode 0 or 1
traced_possible : (m : ℕ) {h : History} {r : Rec} → Trace m h r → Possible r
traced_possible m {h} t = subst⁻¹ Possible (so_far m t).mirrors (is_possible m (taken h))

traced_mode : (m : ℕ) {h : History} {r : Rec} → Trace m h r → r.mode ≤ 1
traced_mode m t = rw (so_far m t).mirrors (so_far m t).mode

fresh_run : (m : ℕ) → m ≤ 1 → Run m []
fresh_run m g = record { history = start; reader = mirror m []; trace = begun {r = mirror m []} (rw (le-leb m 1 g)); calls = refl }

one_more_lem : {m : ℕ} {cs : List Call} → Run m cs → (c : Call) → Run m (cs ++ (c ∷ []))
one_more_lem {m} x (step b) =
    record {
      history = call x.history (step b) (step_took (outcome x.reader (b ∷ [])).answer) (outcome x.reader (b ∷ [])).answer;
      reader = (outcome x.reader (b ∷ [])).after;
      trace = stepped x.trace (step_meets x.reader b (traced_mode m x.trace) (traced_possible m x.trace));
      calls = ap (λ l. l ++ (step b ∷ [])) x.calls;
    }
one_more_lem {m} x (feed bs) =
    record {
      history = call x.history (feed bs) (outcome x.reader bs).taken (outcome x.reader bs).answer;
      reader = (outcome x.reader bs).after;
      trace = fed x.trace (feed_meets x.reader bs (traced_mode m x.trace) (traced_possible m x.trace));
      calls = ap (λ l. l ++ (feed bs ∷ [])) x.calls;
    }

more : {m : ℕ} {cs : List Call} → Run m cs → (ds : List Call) → Run m (cs ++ ds)
more {m} {cs} x [] = rw append-nil x
more {m} {cs} x (d ∷ ds) = rw (← append_snoc cs d ds) (more (one_more_lem x d) ds)

pub every_list_runs : (m : ℕ) → m ≤ 1 → (cs : List Call) → Run m cs
every_list_runs m g cs = more (fresh_run m g) cs

-- a clock with two receivers
pub two_receivers : (m n : ℕ) {h k : History} {r s : Rec} → Trace m h r → Trace n k s
    → r.fed + s.fed ≡ (r.accepted + s.accepted) + (r.refused + s.refused) + (r.outside + s.outside) + (r.pending + s.pending)
two_receivers m n t u = omega (arith, (demand3 m t).sum, (demand3 n u).sum)
