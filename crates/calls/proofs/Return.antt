-- Whoever feeds what was written to a fresh reader gets the message, however it is cut into calls: demand 3 of the reader, and the
-- writer's contract.
use mathlib.Core.Bool.{Bool, true, false}
use mathlib.Core.List.{List, ◌++◌}
use mathlib.Core.Path.{◌≡◌, refl, sym, ap, ◌∙◌}
use Prim.Native.Nat.{ℕ, ◌+◌, ◌≤◌}
use native.Mathlib.Omega.{arith}
use borrow.Author.Tests.{leb-true, leb-false}
use lib.Dec.{leb}
use lib.ListN.{length, take, length-append}
use Rattle.octets.specs.Delivery.{Written}
use Rattle.line.specs.Frame.{Mode, mode_of}
use Rattle.line.specs.Table.{Event}
use Rattle.line.specs.Table.Event.{message}
use Rattle.line.specs.Calls.{Call, History, taken, offered, Every, Right, Message, line, Delivers}
use Rattle.line.specs.Calls.History.{start, call}
use Rattle.line.proofs.Demand3.{demand3, from_fresh}
use Rattle.record.specs.declared.Reader.{Reader}
use Rattle.writer.specs.Writing.{frame_written, frame_filled}
use Rattle.writer.proofs.WritingLaws.{written_judged, written_back}
use Rattle.calls.specs.Calls.{Trace}
use Rattle.calls.proofs.Demand3.{lift}

-- a call of the list answered the message, closed its frame length
pub data Given (m : Mode) (x : Message) : History → Type 0 where
  here : {h : History} {c : Call} {n : ℕ} {a : Event} → a ≡ message x.id x.body (length (line m x)) → Given m x (call h c n a)
  earlier : {h : History} {c : Call} {n : ℕ} {a : Event} → Given m x h → Given m x (call h c n a)

-- where all of the frame was taken, some call took its last byte: this one or one before
one_call : (m : Mode) (x : Message) (h : History) (c : Call) (n : ℕ) (a : Event) → (length (line m x) ≤ length (taken h) → Given m x h)
    → Right m (taken h) (offered c) n a → Delivers m x 0 (taken h) (offered c) n a → length (line m x) ≤ length (taken (call h c n a))
    → Given m x (call h c n a)
one_call m x h c n a before r d l = by (leb (length (line m x)) (length (taken h))) refl
  where
    t : List ℕ
    t = take n (offered c)

    all : length (taken h ++ t) ≡ length (taken h) + n
    all = length-append (taken h) t ∙ ap (λ (k : ℕ). length (taken h) + k) (ap length r.takes ∙ sym r.counts)

    by : (s : Bool) → leb (length (line m x)) (length (taken h)) ≡ s → Given m x (call h c n a)
    by true e = earlier (before (leb-true _ _ e))
    by false e = let z = leb-false (length (line m x)) (length (taken h)) e in here (d.gives (omega arith) (omega (arith, all)))

given : (m : Mode) (x : Message) (h : History) → Every (Right m) h → Every (Delivers m x 0) h → length (line m x) ≤ length (taken h)
    → Given m x h
given m x start rs ds l = absurd (omega arith)
given m x (call h c n a) (rs, r) (ds, d) l = one_call m x h c n a (given m x h rs ds) r d l

module _ (m : ℕ) {h : History} {r : Reader} (t : Trace m h r) where
  -- the frame, and any bytes after it: the call that takes its last byte ends there and gives the message, and none before it answers
  pub frame_returns : (x : Message) (rest : List ℕ) → taken h ≡ line (mode_of m) x ++ rest → Every (Delivers (mode_of m) x 0) h
  frame_returns x rest e = from_fresh m (lift t) x rest e

  pub frame_given : (x : Message) (rest : List ℕ) → taken h ≡ line (mode_of m) x ++ rest → Given (mode_of m) x h
  frame_given x rest e =
      given (mode_of m) x h (demand3 m (lift t)).calls (frame_returns x rest e) (omega (arith, ap length e, length-append (line (mode_of m) x) rest))

-- what the writer accepted
abbrev pub sent : (m id : ℕ) (d b : List ℕ) → (frame_written m id d b).refusal ≡ 0 → Message
sent m id d b z = record { id = id; body = d; acceptable = (written_judged m id d b z).1 }

-- THE THEOREM: the bytes that the writer says it wrote, w of the buffer b' that it left, give its message back
pub returned : (m id : ℕ) (d b : List ℕ) (z : (frame_written m id d b).refusal ≡ 0) (w : Written) (b' : List ℕ) → w ≡ frame_written m id d b
    → b' ≡ frame_filled m id d b → {h : History} {r : Reader} → Trace m h r → (rest : List ℕ) → taken h ≡ take w.length b' ++ rest
    → Every (Delivers (mode_of m) (sent m id d b z) 0) h × Given (mode_of m) (sent m id d b z) h
returned m id d b z w b' ew eb {h} t rest e = (frame_returns m t x rest f, frame_given m t x rest f)
  where
    x : Message
    x = sent m id d b z

    f : taken h ≡ line (mode_of m) x ++ rest
    f = e ∙ ap (λ (l : List ℕ). l ++ rest) ((λ i. take (ew i).length (eb i)) ∙ written_back m id d b z)
