-- `put_line` meets its contract: no line is longer than the room.
use mathlib.Core.Path.{◌≡◌, refl, sym, ap, ◌∙◌}
use mathlib.Core.List.{List, []}
use mathlib.Core.Logic.{◌⊎◌, inl, inr}
use Prim.Native.Nat.{ℕ, ◌≤◌}
use native.Mathlib.Omega.{arith}
use lib.ListN.{length}
use Rattle.octets.specs.Placing.{placed}
use Rattle.octets.proofs.PlacingLaws.{placed_nil}
use Rattle.octets.specs.Delivery.{filled_of}
use Rattle.octets.proofs.DeliveryLaws.{writes}
use Rattle.record.specs.View.{Event, told, event_number}
use Rattle.record.specs.declared.Event.{Event as Held}
use Rattle.refusals.specs.declared.Refusal.{Refusal}
use Rattle.listing.specs.Text.{event_line, longest_event}
use Rattle.lister.specs.Posts.{line_shown}
use Rattle.lister.proofs.PartLaws.{delivered, delivered_length}
use Rattle.lister.proofs.put_line.Goals as goal

-- what the call wrote: the line u, of this length
abbrev Wrote : ℕ → List ℕ → List ℕ → List ℕ → Type 0
Wrote k u b b' = (k ≡ length u) × (b' ≡ placed b 0 u) × (k ≤ length b)

-- what fits is written whole
whole : (t u b b' : List ℕ) → u ≡ t → longest_event ≤ length b → b' ≡ filled_of 0 t b → length t ≤ longest_event → (k : ℕ) → k ≡ length t
    → Wrote k u b b'
whole t u b b' q h f l k e =
    let p = writes 0 t b refl (omega arith) in
    (e ∙ ap length (sym q), f ∙ p.1 ∙ ap (placed b 0) (sym q), omega arith)

-- there is no line
silent : (u b : List ℕ) → u ≡ [] → Wrote 0 u b b
silent u b e = (sym (ap length e), sym (ap (placed b 0) e ∙ placed_nil b 0), omega arith)

-- the line of an event that is known
line : (offset id n : ℕ) (e e' : Event) → e ≡ e' → line_shown offset e id n ≡ line_shown offset e' id n
line offset id n e e' q = λ i. line_shown offset (q i) id n

-- that of one that is no `Nothing`, by its number
numbered : (offset id n : ℕ) (e : Held) → (e ≡ Held.Message) ⊎ ((r : Refusal) × e ≡ Held.Refusal r)
    → line_shown offset (told e) id n ≡ event_line offset id (event_number (told e)) n
numbered offset id n e (inl q) = line offset id n _ _ (ap told q) ∙ ap (λ (k : Event). event_line offset id (event_number k) n) (sym (ap told q))
numbered offset id n e (inr q) = line offset id n _ _ (ap told q.1) ∙ ap (λ (k : Event). event_line offset id (event_number k) n) (sym (ap told q.1))

pub unwrap-requires : goal.unwrap-requires
unwrap-requires c =
    delivered _ _ _ c.event_line.ensures.value.0 (omega (arith, c.event_line.ensures.longest, c.requires))

pub returns-in-Message : goal.returns-in-Message
returns-in-Message c =
    let a = c.args in
    whole _ _ a.buf.now _
    (numbered a.offset a.id a.closed a.e c.in-Message.is ∙ ap (λ (v : ℕ). event_line a.offset a.id v a.closed) (sym (c.why-number.ensures ∙ c.refusal.ensures))) c.requires
    c.event_line.ensures.value.1 c.event_line.ensures.longest
    c.unwrap.result
    (delivered_length _ _ _ c.event_line.ensures.value.0 (omega (arith, c.event_line.ensures.longest, c.requires)) c.unwrap.result c.unwrap.ensures)

pub returns-in-Nothing : goal.returns-in-Nothing
returns-in-Nothing c =
    let a = c.args in
    silent _ _ (line a.offset a.id a.closed _ _ (ap told c.in-Nothing.is))
