-- `record::Reader::fresh` meets its contract: a blank_record record is fresh in mode 0 and 1.
use mathlib.Core.Bool.{Bool, true, false, cond}
use mathlib.Core.List.{[]}
use mathlib.Core.Option.{none}
use mathlib.Core.Path.{◌≡◌, refl, sym, ap, ◌∙◌}
use Prim.Native.Nat.{ℕ, ◌≤◌}
use native.Mathlib.Omega.{arith}
use borrow.Author.Tests.{le-leb, le-ltb, lt-ltb}
use Rattle.std.specs.Prelude.{Option}
use Rattle.std.specs.Bool.{then_some}
use Rattle.refusals.specs.declared.Refusal.{Refusal}
use Rattle.refusals.specs.Numbers.{number, why}
use Rattle.line.specs.Record.{Kept, fresh}
use Rattle.line.specs.Record.Fresh.{made, refused}
use Rattle.line.specs.Record.Kept.{k_43, k_46, k_4a, k_4b, k_eb}
use Rattle.record.specs.View.{place_of, view}
use Rattle.latest.specs.Latest.{latest_of}
use Rattle.record.specs.Posts.{blank_record}
use Rattle.line.proofs.Mirror.{mirror}
use Rattle.record.proofs.Reader.fresh.Goals as goal

no_latest : (m : ℕ) (k : Kept) → none ≡ latest_of (blank_record m).latest k
no_latest m k_43 = refl
no_latest m k_46 = refl
no_latest m k_4a = refl
no_latest m k_4b = refl
no_latest m k_eb = refl

-- what a fresh reader is, is what a blank_record record shows
fresh_blank : (m : ℕ) → m ≤ 1 → fresh m ≡ made (view (blank_record m))
unfolding place_of
fresh_blank m g =
    ap (λ t. cond t (made (mirror m [])) (refused 1)) (le-leb m 1 g)
    ∙ (λ i. made (record { mode = m; place = place_of 0 0 [] 0 0; fed = 0; accepted = 0; refused = 0; outside = 0; pending = 0; latest = λ k. no_latest m k i }))

-- what `then_some` gives, by its test
none_refused : (t : Bool) (r : Refusal) (o : Option Refusal) → o ≡ then_some t r → t ≡ false → why o ≡ 0
none_refused t r o e f = ap why (e ∙ ap (λ k. then_some k r) f)

refused_by : (t : Bool) (r : Refusal) (o : Option Refusal) → o ≡ then_some t r → t ≡ true → why o ≡ number r
refused_by t r o e f = ap why (e ∙ ap (λ k. then_some k r) f)

pub returns : goal.returns
returns c =
    record {
      good = λ g. (
        none_refused _ _ _ c.then_some.ensures (le-ltb _ c.args.mode (omega (arith, g))),
        fresh_blank c.args.mode g ∙ ap (λ r. made (view r)) (sym c.blank.ensures),
      );
      bad = λ b. refused_by _ _ _ c.then_some.ensures (lt-ltb _ c.args.mode (omega (arith, b)));
      whole = c.blank.ensures;
    }
