-- From any state a whole frame of a usable identifier leaves the table waiting.
use mathlib.Core.List.{List, [], ◌∷◌, ◌++◌}
use mathlib.Core.Path.{◌≡◌, refl, subst⁻¹}
use Prim.Native.Nat.{ℕ}
use lib.Dec.{ltb}
use lib.ListN.{length}
use Rattle.stuffing.specs.Stuffing.{DLE, stuffed}
use Rattle.stuffing.proofs.StuffingLaws.{stuffed_nil}
use Rattle.checksum.specs.Checksum.{c1_of, c2_of}
use Rattle.line.specs.Frame.{ETX, Mode, Class, class_of, sum_field, frame}
use Rattle.line.specs.Frame.Mode.{plain, summed}
use Rattle.line.specs.Frame.Class.{dle, etx, sum, other}
use Rattle.line.specs.Table.{State, capacity, go, refuse, join, row, next, after}
use Rattle.line.specs.Table.State.{W, WD, F, FD, C0, C1, E, ED}
use Rattle.line.proofs.Classes.{class_dle, doubled, stuffed_by}
use Rattle.line.proofs.Account.{cond_both}

pub after_append : (m : Mode) (s : State) (xs ys : List ℕ) → after m s (xs ++ ys) ≡ after m (after m s xs) ys
after_append m s [] ys = refl
after_append m s (x ∷ xs) ys = after_append m (next m s x).to xs ys

-- a byte of a known class
on : (m : Mode) (s : State) (b : ℕ) (t : List ℕ) {k : Class} {z : State} → class_of b ≡ k → after m (row m s k b).to t ≡ z
    → after m s (b ∷ t) ≡ z
on m s b t {z} e h = subst⁻¹ (λ k. after m (row m s k b).to t ≡ z) e h

-- what follows the stuffed data of a frame
abbrev tail : Mode → ℕ → List ℕ → List ℕ
tail m id d = sum_field m id d ++ (DLE ∷ ETX ∷ [])

-- c1 c2 DLE ETX, read while waiting
astray : (m : Mode) (k l : Class) (c1 c2 : ℕ) → after m (row m (row m W k c1).to l c2).to (DLE ∷ ETX ∷ []) ≡ W
unfolding class_of
astray m dle dle c1 c2 = refl
astray m dle etx c1 c2 = refl
astray m dle sum c1 c2 = refl
astray plain dle other c1 c2 = refl
astray summed dle other c1 c2 = refl
astray m etx dle c1 c2 = refl
astray m etx etx c1 c2 = refl
astray m etx sum c1 c2 = refl
astray m etx other c1 c2 = refl
astray m sum dle c1 c2 = refl
astray m sum etx c1 c2 = refl
astray m sum sum c1 c2 = refl
astray m sum other c1 c2 = refl
astray m other dle c1 c2 = refl
astray m other etx c1 c2 = refl
astray m other sum c1 c2 = refl
astray m other other c1 c2 = refl

w_tail : (m : Mode) (id : ℕ) (x : List ℕ) → after m W (tail m id x) ≡ W
unfolding class_of
w_tail plain id x = refl
w_tail summed id x = astray summed (class_of (c1_of id x)) (class_of (c2_of id x)) (c1_of id x) (c2_of id x)

f_tail : (m : Mode) (id : ℕ) (d : List ℕ) (i : ℕ) (x : List ℕ) → after m (F id d) (tail m i x) ≡ W
unfolding class_of
f_tail plain id d i x = refl
f_tail summed id d i x = refl

e_tail : (m : Mode) (id : ℕ) (d : List ℕ) (c1 c2 i : ℕ) (x : List ℕ) → after m (E id d c1 c2) (tail m i x) ≡ W
unfolding class_of
e_tail plain id d c1 c2 i x = refl
e_tail summed id d c1 c2 i x = astray summed (class_of (c1_of i x)) (class_of (c2_of i x)) (c1_of i x) (c2_of i x)

-- stuffed data and what follows it, in each state in which it may begin
w_body : (m : Mode) (d t : List ℕ) → after m W t ≡ W → after m W (stuffed d ++ t) ≡ W
w_body m [] t h = rw stuffed_nil h
w_body m (b ∷ d) t h = rw (stuffed_by b d (class_of b) refl) (one (class_of b) refl (w_body m d t h))
  where
    one : (k : Class) → class_of b ≡ k → after m W (stuffed d ++ t) ≡ W → after m W (doubled k b ++ stuffed d ++ t) ≡ W
    one dle e w = on m W b (b ∷ stuffed d ++ t) e (on m WD b (stuffed d ++ t) e w)
    one etx e w = on m W b (stuffed d ++ t) e w
    one sum e w = on m W b (stuffed d ++ t) e w
    one other e w = on m W b (stuffed d ++ t) e w

-- a byte that joins the data leaves F or W
joins : (m : Mode) (id : ℕ) (d : List ℕ) (b n : ℕ) (t : List ℕ) → ((d' : List ℕ) → after m (F id d') t ≡ W) → after m W t ≡ W
    → after m (join id d b n).to t ≡ W
joins m id d b n t f w =
    cond_both (λ s. after m s.to t ≡ W) (ltb (length d) capacity) (go (F id (d ++ (b ∷ [])))) (refuse 4 id n)
    (f (d ++ (b ∷ []))) w

f_body : (m : Mode) (id : ℕ) (x d : List ℕ) (t : List ℕ) → ((d' : List ℕ) → after m (F id d') t ≡ W) → after m W t ≡ W
    → after m (F id d) (stuffed x ++ t) ≡ W
f_body m id [] d t f w = rw stuffed_nil (f d)
f_body m id (b ∷ x) d t f w =
    rw (stuffed_by b x (class_of b) refl) (one (class_of b) refl (λ d'. f_body m id x d' t f w) (w_body m x t w))
  where
    one : (k : Class) → class_of b ≡ k → ((d' : List ℕ) → after m (F id d') (stuffed x ++ t) ≡ W) → after m W (stuffed x ++ t) ≡ W
        → after m (F id d) (doubled k b ++ stuffed x ++ t) ≡ W
    one dle e f w =
        on m (F id d) b (b ∷ stuffed x ++ t) e (on m (FD id d) b (stuffed x ++ t) e (joins m id d b _ (stuffed x ++ t) f w))
    one etx e f w = on m (F id d) b (stuffed x ++ t) e (joins m id d b _ (stuffed x ++ t) f w)
    one sum e f w = on m (F id d) b (stuffed x ++ t) e (joins m id d b _ (stuffed x ++ t) f w)
    one other e f w = on m (F id d) b (stuffed x ++ t) e (joins m id d b _ (stuffed x ++ t) f w)

e_body : (m : Mode) (id : ℕ) (d : List ℕ) (c1 c2 : ℕ) (x t : List ℕ) → after m (E id d c1 c2) t ≡ W → after m W t ≡ W
    → after m (E id d c1 c2) (stuffed x ++ t) ≡ W
e_body m id d c1 c2 [] t f w = rw stuffed_nil f
e_body m id d c1 c2 (b ∷ x) t f w = rw (stuffed_by b x (class_of b) refl) (one (class_of b) refl (w_body m x t w))
  where
    one : (k : Class) → class_of b ≡ k → after m W (stuffed x ++ t) ≡ W
        → after m (E id d c1 c2) (doubled k b ++ stuffed x ++ t) ≡ W
    one dle e w = on m (E id d c1 c2) b (b ∷ stuffed x ++ t) e (on m (ED id d c1 c2) b (stuffed x ++ t) e w)
    one etx e w = on m (E id d c1 c2) b (stuffed x ++ t) e w
    one sum e w = on m (E id d c1 c2) b (stuffed x ++ t) e w
    one other e w = on m (E id d c1 c2) b (stuffed x ++ t) e w

pub resync : (m : Mode) (s : State) (id : ℕ) (x : List ℕ) → class_of id ≡ other → after m s (frame m id x) ≡ W
resync m s id x e = from s
  where
    t : List ℕ
    t = stuffed x ++ tail m id x

    w : after m W t ≡ W
    w = w_body m x (tail m id x) (w_tail m id x)

    f : (i : ℕ) (d : List ℕ) → after m (F i d) t ≡ W
    f i d = f_body m i x d (tail m id x) (λ d'. f_tail m i d' id x) (w_tail m id x)

    from : (s : State) → after m s (DLE ∷ id ∷ t) ≡ W
    from W = on m W DLE (id ∷ t) class_dle (on m WD id t e (f id []))
    from WD = on m WD DLE (id ∷ t) class_dle (on m W id t e w)
    from (F i d) = on m (F i d) DLE (id ∷ t) class_dle (on m (FD i d) id t e (f id []))
    from (FD i d) =
        on m (FD i d) DLE (id ∷ t) class_dle
        (joins m i d DLE _ (id ∷ t) (λ d'. on m (F i d') id t e (joins m i d' id _ t (f i) w)) (on m W id t e w))
    from (C0 i d) = e_body m i d DLE id x (tail m id x) (e_tail m i d DLE id id x) (w_tail m id x)
    from (C1 i d c1) = on m (E i d c1 DLE) id t e w
    from (E i d c1 c2) = on m (E i d c1 c2) DLE (id ∷ t) class_dle (on m (ED i d c1 c2) id t e (f id []))
    from (ED i d c1 c2) = on m (ED i d c1 c2) DLE (id ∷ t) class_dle (on m W id t e w)
