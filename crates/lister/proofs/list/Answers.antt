-- `list` meets its contract: refused as the fresh reader is, measured, and written where it fits.
use Rattle.std.proofs.Common.{List, [], ◌≡◌, refl, sym, ap, ◌∙◌, ℕ, ◌≤◌, arith, length, rules, Err}
use mathlib.Core.Path.{subst⁻¹}
use Rattle.octets.specs.Placing.{placed}
use Rattle.refusals.specs.Numbers.{number, why}
use Rattle.refusals.proofs.NumberLaws.{positive}
use Rattle.octets.specs.Delivery.{Written, written, written_of}
use Rattle.octets.proofs.DeliveryLaws.{refuses, refused_none, writes, written_judged}
use Rattle.record.specs.View.{view}
use Rattle.lister.specs.Listing.{text}
use Rattle.lister.proofs.FreshLaws.{fresh_refused_by, fresh_good}
use Rattle.lister.proofs.list.Goals as goal
use Rattle.lister.proofs.list.Goals.{In_default}

-- what was measured and is not refused has room
fits : (t b : List ℕ) (w : Written) → w ≡ written_of 0 t b → w.refusal ≡ 0 → length t ≤ length b
fits t b w e z = (written_judged 0 t b (sym (ap (λ (v : Written). v.refusal) e) ∙ z)).1

pub returns-in-Some : goal.returns-in-Some
returns-in-Some c =
    let f = c.in-Some.refusal in
    let r = refuses (number f) [] c.args.buf.now (positive f) in
    rw (fresh_refused_by _ c.fresh-f.result f c.fresh-f.ensures c.in-Some.is) (sym r.0, sym r.1)

-- none is refused
made : (c : In_default) → why c.fresh-f.result.refusal ≡ 0
made c = search rules

pub returns-in_err-list_parts : goal.returns-in_err-list_parts
returns-in_err-list_parts c =
    let a = c.args in
    let e = fresh_good a.mode c.fresh-f.result c.fresh-f.ensures (made (goal.at.returns-in_err-list_parts c).In_default) in
    let t = text (view c.fresh-f.result.reader) a.s.now in
    let r = c.in_err-list_parts.field-0.0 in
    let g : c.from_residual.result ≡ Err r = search rules in
    let q = c.in_err-list_parts.ensures in
    let none = refused_none 0 t a.buf.now (λ z. positive r (ap (λ (w : Written). w.refusal) q.0 ∙ z)) in
    rw (g, e.0) (q.0, q.1 ∙ sym none.1)

pub list_parts-requires-2 : goal.list_parts-requires-2
list_parts-requires-2 c =
    let a = c.args in
    let t = text (view c.fresh-f.result.reader) a.s.now in
    let q = c.list_parts.ensures in (
      (fresh_good a.mode c.fresh-f.result c.fresh-f.ensures (made (goal.at.list_parts-requires-2 c).In_default)).1,
      λ z.
          subst⁻¹ (λ (y : List ℕ). length t ≤ length y) q.1
          (fits t a.buf.now _ q.0 (ap (λ x. (written x).refusal) c.in_ok-list_parts.was)),
    )

pub returns : goal.returns
returns c =
    let a = c.args in
    let e = fresh_good a.mode c.fresh-f.result c.fresh-f.ensures (made (goal.at.returns c).In_default) in
    let t = text (view c.fresh-f.result.reader) a.s.now in
    let same = c.list_parts.ensures.1 in
    let q = c.list_parts-2.ensures in
    let k = fits t a.buf.now _ c.list_parts.ensures.0 (ap (λ x. (written x).refusal) c.in_ok-list_parts.was) in (
    rw e.0 (q.0 ∙ ap (written_of 0 t) same, q.1 ∙ ap (λ (y : List ℕ). placed y 0 t) same ∙ sym (writes 0 t a.buf.now refl k).1)
    )
