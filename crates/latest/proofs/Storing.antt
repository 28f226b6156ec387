-- The latest messages, once a message is given.
use mathlib.Core.Bool.{Bool, true, false, cond}
use mathlib.Core.List.{List}
use mathlib.Core.Option.{Option, some}
use mathlib.Core.Path.{◌≡◌, refl, sym, ap, ◌∙◌, subst}
use Prim.Native.Nat.{ℕ}
use borrow.Author.Tests.{eqb-true, eq-eqb}
use lib.Dec.{eqb}
use lib.ListN.{length}
use Rattle.std.specs.Prelude.{Option as Held}
use Rattle.kinds.specs.Kinds.{length_of}
use Rattle.kinds.proofs.OnlyLaws.{long_43, long_46, long_4a, long_4b, long_eb}
use Rattle.line.specs.Frame.{Acceptable}
use Rattle.line.specs.Table.Event.{message}
use Rattle.line.specs.Record.{Kept, id_of, replaced, update}
use Rattle.line.specs.Record.Kept.{k_43, k_46, k_4a, k_4b, k_eb}
use Rattle.latest.specs.Latest.{latest_of, perhaps, stored_of}
use Rattle.latest.specs.declared.Latest.{Latest}

either : {A : Type 0} (t : Bool) (y : A) → y ≡ cond t y y
either true y = refl
either false y = refl

length_kept : (k : Kept) (d : List ℕ) → Acceptable (id_of k) d → length d ≡ length_of (id_of k)
length_kept k_43 d a = long_43 d a
length_kept k_46 d a = long_46 d a
length_kept k_4a d a = long_4a d a
length_kept k_4b d a = long_4b d a
length_kept k_eb d a = long_eb d a

module _ (id : ℕ) (d : List ℕ) (y : Kept → Option (List ℕ)) where
  -- an identifier that is not the kind's
  unlike : (k : Kept) → eqb id (id_of k) ≡ false → y k ≡ stored_of id d y k
  unlike k q =
      either (eqb (length d) (length_of (id_of k))) (y k)
      ∙ ap (λ t. cond (eqb (length d) (length_of (id_of k))) (replaced t d (y k)) (y k)) (sym q)

  -- of an acceptable message: as `line` has it
  pub stored_acceptable : Acceptable id d → (k : Kept) → stored_of id d y k ≡ update k (message id d 0) (y k)
  stored_acceptable a k = by (eqb id (id_of k)) refl
    where
      by : (t : Bool) → eqb id (id_of k) ≡ t → stored_of id d y k ≡ update k (message id d 0) (y k)
      by true q =
          ap (λ t. cond t (update k (message id d 0) (y k)) (y k))
          (eq-eqb (length d) (length_of (id_of k)) (length_kept k d (subst (λ j. Acceptable j d) (eqb-true id (id_of k) q) a)))
      by false q = sym (unlike k q) ∙ ap (λ t. replaced t d (y k)) (sym q)

-- a message of a kind is given: the kind's latest is of these data, or as before where the kind can't have them; the other kinds' are as before
module _ (l : Latest) (id : ℕ) (d : List ℕ) (y : Held (List ℕ)) where
  abbrev pub Newer : Kept → Type 0
  Newer k = perhaps y ≡ cond (eqb (length d) (length_of (id_of k))) (some d) (latest_of l k)

  same : (k : Kept) → id ≡ id_of k → Newer k → perhaps y ≡ stored_of id d (latest_of l) k
  same k e q =
      q ∙ ap (λ t. cond (eqb (length d) (length_of (id_of k))) (replaced t d (latest_of l k)) (latest_of l k)) (sym (eq-eqb id (id_of k) e))

  away : (a : ℕ) (k : Kept) → id ≡ a → eqb a (id_of k) ≡ false → latest_of l k ≡ stored_of id d (latest_of l) k
  away a k e q = unlike id d (latest_of l) k (ap (λ j. eqb j (id_of k)) e ∙ q)

  pub store_43 : id ≡ 0x43 → Newer k_43 → (i : Kept)
      → latest_of (record { d43 = y; d46 = l.d46; d4a = l.d4a; d4b = l.d4b; deb = l.deb }) i ≡ stored_of id d (latest_of l) i
  store_43 e q k_43 = same k_43 e q
  store_43 e q k_46 = away 0x43 k_46 e refl
  store_43 e q k_4a = away 0x43 k_4a e refl
  store_43 e q k_4b = away 0x43 k_4b e refl
  store_43 e q k_eb = away 0x43 k_eb e refl

  pub store_46 : id ≡ 0x46 → Newer k_46 → (i : Kept)
      → latest_of (record { d43 = l.d43; d46 = y; d4a = l.d4a; d4b = l.d4b; deb = l.deb }) i ≡ stored_of id d (latest_of l) i
  store_46 e q k_43 = away 0x46 k_43 e refl
  store_46 e q k_46 = same k_46 e q
  store_46 e q k_4a = away 0x46 k_4a e refl
  store_46 e q k_4b = away 0x46 k_4b e refl
  store_46 e q k_eb = away 0x46 k_eb e refl

  pub store_4a : id ≡ 0x4A → Newer k_4a → (i : Kept)
      → latest_of (record { d43 = l.d43; d46 = l.d46; d4a = y; d4b = l.d4b; deb = l.deb }) i ≡ stored_of id d (latest_of l) i
  store_4a e q k_43 = away 0x4A k_43 e refl
  store_4a e q k_46 = away 0x4A k_46 e refl
  store_4a e q k_4a = same k_4a e q
  store_4a e q k_4b = away 0x4A k_4b e refl
  store_4a e q k_eb = away 0x4A k_eb e refl

  pub store_4b : id ≡ 0x4B → Newer k_4b → (i : Kept)
      → latest_of (record { d43 = l.d43; d46 = l.d46; d4a = l.d4a; d4b = y; deb = l.deb }) i ≡ stored_of id d (latest_of l) i
  store_4b e q k_43 = away 0x4B k_43 e refl
  store_4b e q k_46 = away 0x4B k_46 e refl
  store_4b e q k_4a = away 0x4B k_4a e refl
  store_4b e q k_4b = same k_4b e q
  store_4b e q k_eb = away 0x4B k_eb e refl

  pub store_eb : id ≡ 0xEB → Newer k_eb → (i : Kept)
      → latest_of (record { d43 = l.d43; d46 = l.d46; d4a = l.d4a; d4b = l.d4b; deb = y }) i ≡ stored_of id d (latest_of l) i
  store_eb e q k_43 = away 0xEB k_43 e refl
  store_eb e q k_46 = away 0xEB k_46 e refl
  store_eb e q k_4a = away 0xEB k_4a e refl
  store_eb e q k_4b = away 0xEB k_4b e refl
  store_eb e q k_eb = same k_eb e q
