-- Question 2: the clauses as the code asks them, and as the paper has them.
use mathlib.Core.Bool.{Bool, true, false, ◌&&◌}
use mathlib.Core.List.{List}
use mathlib.Core.Path.{◌≡◌, refl, sym, ap, ◌∙◌, subst, subst⁻¹}
use Prim.Native.Nat.{ℕ, suc, zero-le, ◌+◌, ◌≤◌, ◌<◌}
use native.Mathlib.Omega.{arith}
use borrow.Author.Tests.{eqb-true, eqb-false, eq-eqb, ne_eqb}
use lib.Dec.{eqb}
use lib.ListN.{length, take}
use Rattle.std.specs.Prelude.{Option, Some, None, IfSome}
use Rattle.stuffing.specs.Stuffing.{stuffed, dles}
use Rattle.stuffing.proofs.StuffingLaws.{length_stuffed}
use Rattle.kinds.specs.Kinds.{content}
use Rattle.kinds.proofs.OnlyLaws.{test_4a, test_4b}
use Rattle.line.specs.Frame.{Mode, mode_of, class_of}
use Rattle.line.specs.Frame.Mode.{plain, summed}
use Rattle.line.specs.Frame.Class.{other}
use Rattle.line.specs.Table.{pending}
use Rattle.line.specs.Record.{Place, Known, Fit, Possible, state_of, PlaceOk}
use Rattle.line.specs.Record.Place.{unknown}
use Rattle.record.specs.View.{place_of, first_bytes, view}
use Rattle.latest.specs.Latest.{perhaps, LatestOk}
use Rattle.questions.specs.Question.{Opened, Plausible, Held}
use Rattle.record.specs.declared.Reader.{Reader}
use Rattle.record.proofs.Data.{tested, data_take, data_length}

-- a number from 0 to 7, or one above
up : (k n : ℕ) → k ≤ n → eqb n k ≡ false → suc k ≤ n
up k n l e = let z = eqb-false n k e in omega arith

numbered : (P : Type 0) (n : ℕ) → (n ≡ 0 → P) → (n ≡ 1 → P) → (n ≡ 2 → P) → (n ≡ 3 → P) → (n ≡ 4 → P) → (n ≡ 5 → P) → (n ≡ 6 → P)
    → (n ≡ 7 → P) → (8 ≤ n → P) → P
numbered P n a b c d e f g h i =
    tested (eqb n 0) (λ t. a (eqb-true n 0 t)) λ t₀.
    tested (eqb n 1) (λ t. b (eqb-true n 1 t)) λ t₁.
    tested (eqb n 2) (λ t. c (eqb-true n 2 t)) λ t₂.
    tested (eqb n 3) (λ t. d (eqb-true n 3 t)) λ t₃.
    tested (eqb n 4) (λ t. e (eqb-true n 4 t)) λ t₄.
    tested (eqb n 5) (λ t. f (eqb-true n 5 t)) λ t₅.
    tested (eqb n 6) (λ t. g (eqb-true n 6 t)) λ t₆.
    tested (eqb n 7) (λ t. h (eqb-true n 7 t)) λ t₇.
    i (up 7 n (up 6 n (up 5 n (up 4 n (up 3 n (up 2 n (up 1 n (up 0 n zero-le t₀) t₁) t₂) t₃) t₄) t₅) t₆) t₇)

-- the clauses on place and pending bytes
pub record Clauses (m : Mode) (p : Place) (h : ℕ) : Type 0 where
  pub place : Known p
  pub ok : PlaceOk m (state_of p)
  pub pending : h ≡ pending (state_of p)

-- what the code asks of an open frame
pub record Asks (m : Mode) (n id : ℕ) (d : List ℕ) (h : ℕ) : Type 0 where
  pub known : n < 8
  pub summed : m ≡ plain → n < 4
  pub usable : class_of id ≡ other
  pub short : length d ≤ 1024
  pub pending : h ≡ n + (length d + dles d)

is_summed : (m : Mode) (n : ℕ) → (m ≡ plain → n < 4) → 4 ≤ n → m ≡ summed
is_summed plain n f h = absurd (let z : ⊥ = omega (arith, f refl) in z)
is_summed summed n f h = refl

module _ (m : Mode) (n id : ℕ) (d : List ℕ) (c1 c2 h : ℕ) where
  abbrev here : Place
  here = place_of n id d c1 c2

  above : 8 ≤ n → here ≡ unknown n
  unfolding place_of
  above l =
      simp (ne_eqb n 0 (λ e. omega arith), ne_eqb n 1 (λ e. omega arith), ne_eqb n 2 (λ e. omega arith), ne_eqb n 3 (λ e. omega arith), ne_eqb n 4 (λ e. omega arith), ne_eqb n 5 (λ e. omega arith), ne_eqb n 6 (λ e. omega arith), ne_eqb n 7 (λ e. omega arith))

  at : (k : ℕ) → n ≡ k → Clauses m (place_of k id d c1 c2) h → Clauses m here h
  at k e c = subst⁻¹ (λ (i : ℕ). Clauses m (place_of i id d c1 c2) h) e c

  from : (k : ℕ) → n ≡ k → Clauses m here h → Clauses m (place_of k id d c1 c2) h
  from k e c = subst (λ (i : ℕ). Clauses m (place_of i id d c1 c2) h) e c

  -- in W and WD
  pub low_clauses : n < 2 → h ≡ n → Clauses m here h
  unfolding place_of
  low_clauses l e =
      tested (eqb n 0)
      (λ t.
      let q = eqb-true n 0 t in
      at 0 q (record { place = tt; ok = record { mode = tt; identifier = tt; size = tt }; pending = e ∙ q }))
      (λ t.
      let q : n ≡ 1 = (let z = eqb-false n 0 t in omega arith) in
      at 1 q (record { place = tt; ok = record { mode = tt; identifier = tt; size = tt }; pending = e ∙ q }))

  pub clauses_low : n < 2 → Clauses m here h → h ≡ n
  unfolding place_of
  clauses_low l c =
      tested (eqb n 0) (λ t. let q = eqb-true n 0 t in (from 0 q c).pending ∙ sym q)
      (λ t. let q : n ≡ 1 = (let z = eqb-false n 0 t in omega arith) in (from 1 q c).pending ∙ sym q)

  -- from F on
  pub open_clauses : 2 ≤ n → Asks m n id d h → Clauses m here h
  unfolding place_of
  open_clauses l a =
      numbered (Clauses m here h) n (λ q. no (omega arith)) (λ q. no (omega arith))
      (λ q. at 2 q (record { place = tt; ok = record { mode = tt; identifier = a.usable; size = a.short }; pending = long q }))
      (λ q. at 3 q (record { place = tt; ok = record { mode = tt; identifier = a.usable; size = a.short }; pending = long q }))
      (λ q. at 4 q (record { place = tt; ok = record { mode = sums (omega arith); identifier = a.usable; size = a.short }; pending = long q }))
      (λ q. at 5 q (record { place = tt; ok = record { mode = sums (omega arith); identifier = a.usable; size = a.short }; pending = long q }))
      (λ q. at 6 q (record { place = tt; ok = record { mode = sums (omega arith); identifier = a.usable; size = a.short }; pending = long q }))
      (λ q. at 7 q (record { place = tt; ok = record { mode = sums (omega arith); identifier = a.usable; size = a.short }; pending = long q }))
      (λ q. no (omega (arith, a.known)))
    where
      no : ⊥ → Clauses m here h
      no z = absurd z

      sums : 4 ≤ n → m ≡ summed
      sums g = is_summed m n a.summed g

      long : {k : ℕ} → n ≡ k → h ≡ length (stuffed d) + k
      long q = omega (arith, a.pending, length_stuffed d)

  pub clauses_open : 2 ≤ n → Clauses m here h → Asks m n id d h
  unfolding place_of
  clauses_open l c =
      numbered (Asks m n id d h) n (λ q. no (omega arith)) (λ q. no (omega arith))
      (λ q. asks 2 q (λ e. omega arith) (from 2 q c).ok.identifier (from 2 q c).ok.size (from 2 q c).pending (omega arith))
      (λ q. asks 3 q (λ e. omega arith) (from 3 q c).ok.identifier (from 3 q c).ok.size (from 3 q c).pending (omega arith))
      (λ q. asks 4 q (λ e. clash e (from 4 q c).ok.mode) (from 4 q c).ok.identifier (from 4 q c).ok.size (from 4 q c).pending (omega arith))
      (λ q. asks 5 q (λ e. clash e (from 5 q c).ok.mode) (from 5 q c).ok.identifier (from 5 q c).ok.size (from 5 q c).pending (omega arith))
      (λ q. asks 6 q (λ e. clash e (from 6 q c).ok.mode) (from 6 q c).ok.identifier (from 6 q c).ok.size (from 6 q c).pending (omega arith))
      (λ q. asks 7 q (λ e. clash e (from 7 q c).ok.mode) (from 7 q c).ok.identifier (from 7 q c).ok.size (from 7 q c).pending (omega arith))
      (λ q. no (subst Known (above q) c.place))
    where
      no : ⊥ → Asks m n id d h
      no z = absurd z

      clash : m ≡ plain → m ≡ summed → n < 4
      clash e f = let z : ◌≡◌ {A = ℕ} 0 1 = cc in absurd (omega arith)

      asks : (k : ℕ) → n ≡ k → (m ≡ plain → n < 4) → class_of id ≡ other → length d ≤ 1024 → h ≡ length (stuffed d) + k → k < 8 → Asks m n id d h
      asks k q s u v w x =
          record { known = omega arith; summed = s; usable = u; short = v; pending = omega (arith, w, length_stuffed d) }

-- any data of their length are an acceptable 4Ah and 4Bh
free_4a : (o : Option (List ℕ)) → IfSome o (λ d. length d ≡ 33) → Fit 0x4A (perhaps o)
free_4a (Some d) e = eqb-true (content 0x4A d) 0 (sym (test_4a d) ∙ ap (λ (b : Bool). b && true) (eq-eqb (length d) 33 e))
free_4a None e = tt

free_4b : (o : Option (List ℕ)) → IfSome o (λ d. length d ≡ 42) → Fit 0x4B (perhaps o)
free_4b (Some d) e = eqb-true (content 0x4B d) 0 (sym (test_4b d) ∙ ap (λ (b : Bool). b && true) (eq-eqb (length d) 42 e))
free_4b None e = tt

-- a record of this reader, by the clauses
module _ (r : Reader) where
  abbrev pub Placed : Type 0
  Placed =
      Clauses (mode_of r.head.mode) (place_of r.head.place r.head.id (first_bytes r.head.len r.bytes) r.head.c1 r.head.c2)
      r.head.pending

  pub to_possible : Placed → r.head.fed ≡ r.head.accepted + r.head.refused + r.head.outside + r.head.pending → LatestOk r.latest
      → IfSome r.latest.d4a (λ d. length d ≡ 33) → IfSome r.latest.d4b (λ d. length d ≡ 42) → Possible (view r)
  to_possible c f l a b =
      record {
        place = c.place;
        mode = c.ok.mode;
        identifier = c.ok.identifier;
        size = c.ok.size;
        pending = c.pending;
        fed = f;
        latest_43 = l.ok_43;
        latest_46 = l.ok_46;
        latest_4a = free_4a r.latest.d4a a;
        latest_4b = free_4b r.latest.d4b b;
        latest_eb = l.ok_eb;
      }

  pub of_possible : Possible (view r) → Placed
  of_possible p =
      record { place = p.place; ok = record { mode = p.mode; identifier = p.identifier; size = p.size }; pending = p.pending }

  -- an open frame, as the code asks
  pub asks_open : (d : List ℕ) → first_bytes r.head.len r.bytes ≡ d → Opened r.head → r.head.pending ≡ r.head.place + (r.head.len + dles d)
      → Asks (mode_of r.head.mode) r.head.place r.head.id (first_bytes r.head.len r.bytes) r.head.pending
  asks_open d e o h =
      record {
        known = o.known;
        summed = λ q. o.summed (zero_mode r.head.mode q);
        usable = o.usable;
        short = omega (arith, o.short, data_length r.head.len r.bytes);
        pending = h ∙ (λ i. r.head.place + (sym (data_length r.head.len r.bytes) i + dles (sym e i)));
      }
    where
      zero_mode : (n : ℕ) → mode_of n ≡ plain → n ≡ 0
      zero_mode Prim.Native.Nat.ℕ.zero q = refl
      zero_mode (suc n) q = let z : ◌≡◌ {A = ℕ} 0 1 = cc in absurd (omega arith)

  pub opened_asks : Asks (mode_of r.head.mode) r.head.place r.head.id (first_bytes r.head.len r.bytes) r.head.pending → Opened r.head
  opened_asks a =
      record {
        known = a.known;
        summed = λ q. a.summed (ap mode_of q);
        short = omega (arith, a.short, data_length r.head.len r.bytes);
        usable = a.usable;
      }

  -- the record is possible by what the code asks, and only so
  pub possible_low : Plausible r.head r.latest → r.head.place < 2
      → IfSome r.latest.d4a (λ d. length d ≡ 33) → IfSome r.latest.d4b (λ d. length d ≡ 42) → Possible (view r)
  possible_low p l a b =
      to_possible
      (low_clauses (mode_of r.head.mode) r.head.place r.head.id (first_bytes r.head.len r.bytes) r.head.c1 r.head.c2 r.head.pending l (p.low l))
      p.fed p.latest a b

  pub possible_open : Plausible r.head r.latest → 2 ≤ r.head.place → Held r.head r.bytes → length r.bytes ≡ 1024
      → IfSome r.latest.d4a (λ d. length d ≡ 33) → IfSome r.latest.d4b (λ d. length d ≡ 42) → Possible (view r)
  possible_open p l h w a b =
      let o = p.opened l in
      let t = data_take r.head.len r.bytes (omega (arith, o.short)) in
      to_possible
      (open_clauses (mode_of r.head.mode) r.head.place r.head.id (first_bytes r.head.len r.bytes) r.head.c1 r.head.c2 r.head.pending l
      (asks_open (take r.head.len r.bytes) t o h))
      p.fed p.latest a b

  asked : Possible (view r) → 2 ≤ r.head.place
      → Asks (mode_of r.head.mode) r.head.place r.head.id (first_bytes r.head.len r.bytes) r.head.pending
  asked p l =
      clauses_open (mode_of r.head.mode) r.head.place r.head.id (first_bytes r.head.len r.bytes) r.head.c1 r.head.c2 r.head.pending l
      (of_possible p)

  pub plausible_of : Possible (view r) → Plausible r.head r.latest
  plausible_of p =
      record {
        fed = p.fed;
        latest = record { ok_43 = p.latest_43; ok_46 = p.latest_46; ok_eb = p.latest_eb };
        low = λ l. clauses_low (mode_of r.head.mode) r.head.place r.head.id (first_bytes r.head.len r.bytes) r.head.c1 r.head.c2 r.head.pending l (of_possible p);
        opened = λ l. opened_asks (asked p l);
      }

  pub held_of : Possible (view r) → 2 ≤ r.head.place → length r.bytes ≡ 1024 → Held r.head r.bytes
  held_of p l w =
      let a = asked p l in
      let t = data_take r.head.len r.bytes (omega (arith, (opened_asks a).short)) in
      a.pending ∙ (λ i. r.head.place + (data_length r.head.len r.bytes i + dles (t i)))
