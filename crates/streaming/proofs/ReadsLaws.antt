-- One read after the other: the bytes of all of them, and that each takes the count nearer to its limit.
use mathlib.Core.Bool.{Bool, true, false, cond}
use mathlib.Core.List.{List, ◌++◌}
use mathlib.Core.Path.{◌≡◌, refl, sym, ap, ◌∙◌, subst⁻¹}
use Prim.Native.Nat.{ℕ, ◌-◌, ◌≤◌, ◌<◌}
use native.Mathlib.Omega.{arith}
use lib.Dec.{leb}
use lib.ListN.{length, take}
use lib.Seq.{length-take-le}
use Rattle.std.specs.Prelude.{Option, Some, None, is_some}
use Rattle.std.specs.Option.{unwrap_or}
use Rattle.refusals.specs.declared.Refusal.{Refusal}
use Rattle.refusals.proofs.NumberLaws.{positive}
use Rattle.line.specs.Record.{Rec, Fresh, limit, fresh}
use Rattle.line.specs.Record.Fresh.{made, refused}
use Rattle.record.specs.declared.Reader.{Reader}
use Rattle.record.specs.View.{view}
use Rattle.listing.specs.Text.{total_of}
use Rattle.refusals.specs.Numbers.{why}
use Rattle.lister.specs.Posts.{Good}
use Rattle.streaming.specs.declared.Chunk.{Chunk}
use Rattle.streaming.specs.declared.Reads.{Reads}
use Rattle.streaming.specs.declared.Ended.{Ended}
use Rattle.streaming.specs.Through.{Through, until, through}
use Rattle.streaming.specs.Posts.{Moved, Status, read_number, through_of, ReadsPost, TotalPost, InputPost}
use Rattle.streaming.proofs.ThroughLaws.{through_more, through_fed, through_limit, through_below}

-- whether there is a refusal, and its number
pub refuses : (o : Option Refusal) → is_some o ≡ true → why o ≡ 0 → ⊥
refuses None e z = absurd (let g : ◌≡◌ {A = Bool} false true = e in cc)
refuses (Some r) e z = positive r z

pub refuses_none : (o : Option Refusal) → is_some o ≡ false → why o ≡ 0
refuses_none None e = refl
refuses_none (Some r) e = absurd (let g : ◌≡◌ {A = Bool} true false = e in cc)

-- between two reads: the bytes of those before were all counted
pub record ReadSoFar (r : Reader) (c : Chunk) (bytes lines : List ℕ) (read : ℕ) : Type 0 where
  pub long : 65536 ≡ length bytes
  pub room : 65536 ≡ length lines
  pub good : Good c.reader
  pub taken : List ℕ
  pub after : until 0 (view c.reader) ≡ through (view r) taken
  pub refusal : why c.refusal ≡ 0
  pub count : length taken ≡ read

pub before : {r : Reader} {c : Chunk} {bytes lines : List ℕ} {read : ℕ} (w : ReadSoFar r c bytes lines read)
    → through_of c ≡ through (view r) w.taken
before {c = c} w = ap (λ (v : ℕ). until v (view c.reader)) w.refusal ∙ w.after

-- the bytes are not more than can be counted
pub countable : (r g : Reader) (l : List ℕ) → r.head.fed ≡ 0 → until 0 (view g) ≡ through (view r) l → length l ≤ limit
countable r g l z a =
    let q : (through (view r) l).refusal ≡ 0 = sym (ap (λ (t : Through). t.refusal) a) in
    omega (arith, through_fed l (view r) q, through_limit l (view r) (omega arith) q)

-- a chunk more
pub further : (r g : Reader) (l s : List ℕ) (x : Chunk) → until 0 (view g) ≡ through (view r) l → through_of x ≡ through (view g) s
    → through_of x ≡ through (view r) (l ++ s)
further r g l s x a e =
    e
    ∙ ap (λ (t : Through). through t.after s) a
    ∙ sym (through_more l s (view r) (sym (ap (λ (t : Through). t.refusal) a)))

-- the count of bytes is nearer to its limit
pub nearer : (g : Reader) (s : List ℕ) (x : Chunk) → through_of x ≡ through (view g) s → why x.refusal ≡ 0 → 0 < length s
    → limit - x.reader.head.fed < limit - g.head.fed
nearer g s x e z n =
    let q : (through (view g) s).refusal ≡ 0 = sym (ap (λ (t : Through). t.refusal) e) ∙ z in
    omega (arith, ap (λ (t : Through). t.after.fed) e, through_fed s (view g) q, through_below s (view g) n q)

-- a read that brings nothing is answered by 0 or none
pub none : (n : ℕ) (o : Option ℕ) → Moved n (read_number o) → unwrap_or o 0 ≡ 0 → Status (read_number o)
none n (Some k) m e = e
none n None m e = m

-- and none brings more than it was handed
pub brought : (n : ℕ) (o : Option ℕ) → Moved n (read_number o) → unwrap_or o 0 ≤ n
brought n (Some k) m = m
brought n None m = omega arith

pub brought_long : (n k : ℕ) (o : Option ℕ) (b : List ℕ) → Moved n (read_number o) → k ≡ unwrap_or o 0 → n ≡ length b → length (take k b) ≡ k
brought_long n k o b m e l = length-take-le k b (omega (arith, brought n o m))

-- the reads with the total of their reader
pub totalled : (r : Rec) (x : Reads) (e : Ended) → ReadsPost r x → TotalPost x e → InputPost r e
totalled r x e p t =
    record {
      bytes = p.bytes;
      read = omega (arith, p.read, t.read, t.rest);
      after = (λ i. until (why (t.refusal i)) (view (t.reader i))) ∙ p.after;
      total = t.total ∙ sym (ap (λ (g : Reader). total_of (view g)) t.reader);
      rest = λ z. t.rest ∙ p.rest (sym (ap why t.refusal) ∙ z);
      last = λ w z. subst⁻¹ (λ (o : Option ℕ). Status (read_number o)) t.last (p.last (t.written w) (sym (ap why t.refusal) ∙ z));
    }

-- a fresh reader has counted nothing
pub fresh_fed : (m : ℕ) (r : Rec) → fresh m ≡ made r → r.fed ≡ 0
fresh_fed m r e = sym (ap fed_of e) ∙ by (leb m 1) _ refl
  where
    fed_of : Fresh → ℕ
    fed_of (made r) = r.fed
    fed_of (refused v) = 0

    by : (t : Bool) (r : Rec) → r.fed ≡ 0 → fed_of (cond t (made r) (refused 1)) ≡ 0
    by true r z = z
    by false r z = refl
