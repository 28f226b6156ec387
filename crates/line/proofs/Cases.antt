-- The proved cases: one table, computed; and questions 1 to 3 of some records.
use mathlib.Core.List.{[], ◌∷◌, map}
use mathlib.Core.Path.{◌≡◌, refl, ap}
use Prim.Native.Nat.{ℕ, ◌+◌}
use native.Mathlib.Omega.{arith}
use lib.Dec.{lit<}
use Rattle.numbers.specs.Number.{number_of, number_at}
use Rattle.numbers.specs.Signed.{signed}
use Rattle.stuffing.specs.Stuffing.{stuffed}
use Rattle.checksum.specs.Checksum.{shifted, shifted_by, after_byte, after_bytes, checksum}
use Rattle.ranges.specs.Ranges.{all, count}
use Rattle.kinds.specs.Kinds.{table, row_in, allows, chosen_49, length_ok, content}
use Rattle.line.specs.Frame.{mode_of, class_of}
use Rattle.line.specs.Table.State.{W}
use Rattle.line.specs.Record.{Rec, Possible}
use Rattle.line.specs.Record.Place.{at}
use Rattle.line.specs.Calls.{History, Trace, taken}
use Rattle.line.specs.Cases.{Case, seen, cases, record_at, QuestionCases}
use Rattle.line.proofs.Each.{so_far}

-- what a reader counts, of the bytes it took, is what the cases see
pub counts_seen : (m : ℕ) {h : History} {r : Rec} → Trace m h r
    → r.accepted ∷ r.refused ∷ r.outside ∷ r.pending ∷ [] ≡ (seen (mode_of m) (taken h)).counts
counts_seen m t = ap (λ r. r.accepted ∷ r.refused ∷ r.outside ∷ r.pending ∷ []) (so_far m t).mirrors

pub cases_hold : map (λ (c : Case). seen (mode_of c.mode) c.bytes) cases ≡ map (λ (c : Case). c.expected) cases
unfolding cases class_of stuffed number_of number_at signed shifted shifted_by after_byte after_bytes checksum all count table row_in allows chosen_49 length_ok content
cases_hold = refl

counted : (f : ℕ) → f ≡ 0 + 0 + f + 0 → Possible (record_at 0 (at W) f)
counted f e =
    record {
      place = tt;
      mode = tt;
      identifier = tt;
      size = tt;
      pending = refl;
      fed = e;
      latest_43 = tt;
      latest_46 = tt;
      latest_4a = tt;
      latest_4b = tt;
      latest_eb = tt;
    }

pub questions_hold : QuestionCases
unfolding class_of
questions_hold =
    record {
      no_reader = refl;
      first = record { step = λ b r a p. p.one (lit< tt); feed = λ b bs r a n p. p.one (lit< tt) };
      second = record { step = λ b r a p. p.two (omega arith) (λ q. q.place); feed = λ b bs r a n p. p.two (omega arith) (λ q. q.place) };
      third =
          record {
            step = λ b r a p. p.three (omega arith) (counted 18446744073709551615 refl) tt (omega arith);
            feed = λ b bs r a n p. p.three (omega arith) (counted 18446744073709551615 refl) (omega arith) (omega arith);
          };
      empty = λ r a n p. let w = p.rest (omega arith) (counted 18446744073709551615 refl) (λ o. absurd (omega arith)) in (w.1, w.2);
      last = λ r a n p. p.rest (omega arith) (counted 18446744073709551614 refl) (λ o. lit< tt);
    }
