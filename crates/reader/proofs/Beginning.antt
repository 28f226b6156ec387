-- From a possible record to the moving numbers, and from what a run says to what is left to do.
use mathlib.Core.Bool.{cond}
use mathlib.Core.List.{List}
use mathlib.Core.Path.{◌≡◌, sym, ap, ◌∙◌, subst⁻¹}
use Prim.Native.Nat.{ℕ, ◌+◌, ◌≤◌, ◌<◌}
use native.Mathlib.Omega.{arith}
use borrow.Author.Tests.{ltb-true, ltb-false, eqb-true, eqb-false}
use lib.Dec.{eqb, ltb}
use lib.ListN.{length, take}
use Rattle.line.specs.Frame.{mode_of}
use Rattle.line.specs.Record.{Possible, limit, state_of, walk, PlaceOk}
use Rattle.record.specs.View.{place_of, first_bytes, view}
use Rattle.latest.specs.Latest.{latest_of}
use Rattle.reader.specs.Closing.{Ready}
use Rattle.reader.specs.Moving.{see, place_now, start_of, base_of, turned, result_of, Pends, Sound, Fits, Ran}
use Rattle.record.specs.declared.Reader.{Reader}
use Rattle.reader.specs.declared.Moved.{Moved}
use Rattle.record.proofs.Data.{tested, data_take, data_length}
use Rattle.reader.proofs.Feeding.{closes}
use Rattle.questions.proofs.Asking.{Asks, clauses_open, of_possible}

-- in W and WD the data do not count
place_low : (n id : ℕ) (d d' : List ℕ) (c1 c2 : ℕ) → n < 2 → place_of n id d c1 c2 ≡ place_of n id d' c1 c2
unfolding place_of
place_low n id d d' c1 c2 l =
    tested (eqb n 0) (λ t. let q = eqb-true n 0 t in ap (λ i. place_of i id d c1 c2) q ∙ ap (λ i. place_of i id d' c1 c2) (sym q))
    (λ t.
    let q : n ≡ 1 = (let z = eqb-false n 0 t in omega arith) in
    ap (λ i. place_of i id d c1 c2) q ∙ ap (λ i. place_of i id d' c1 c2) (sym q))

module _ (r : Reader) (whole : length r.bytes ≡ 1024) (p : Possible (view r)) where
  asked : 2 ≤ r.head.place → Asks (mode_of r.head.mode) r.head.place r.head.id (first_bytes r.head.len r.bytes) r.head.pending
  asked g =
      clauses_open (mode_of r.head.mode) r.head.place r.head.id (first_bytes r.head.len r.bytes) r.head.c1 r.head.c2 r.head.pending g
      (of_possible r p)

  short_len : 2 ≤ r.head.place → r.head.len ≤ 1024
  short_len g = omega (arith, (asked g).short, data_length r.head.len r.bytes)

  start_place : place_now (start_of r.head) r.bytes ≡ (view r).place
  start_place =
      tested (ltb r.head.place 2)
      (λ t. place_low r.head.place r.head.id _ _ r.head.c1 r.head.c2 (ltb-true r.head.place 2 t))
      (λ t.
      let g = ltb-false r.head.place 2 t in
      ap (λ c. place_of r.head.place r.head.id (take (cond c 0 r.head.len) r.bytes) r.head.c1 r.head.c2) t
      ∙ ap (λ d. place_of r.head.place r.head.id d r.head.c1 r.head.c2)
      (sym (data_take r.head.len r.bytes (omega (arith, short_len g)))))

  pub start_pends : Pends (start_of r.head) r.bytes
  start_pends = p.pending ∙ ap (λ x. Rattle.line.specs.Table.pending (state_of x)) (sym start_place)

  pub start_sound : Sound r.head.mode (start_of r.head) r.bytes
  start_sound =
      subst⁻¹ (λ x. PlaceOk (mode_of r.head.mode) (state_of x)) start_place
      (record { mode = p.mode; identifier = p.identifier; size = p.size })

  pub start_fits : (n : ℕ) → r.head.fed + n ≤ limit → Fits (start_of r.head) 0 n
  start_fits n l =
      record {
        known = tested (ltb r.head.place 2) (λ t. omega (arith, ltb-true r.head.place 2 t)) (λ t. (asked (ltb-false r.head.place 2 t)).known);
        short =
            tested (ltb r.head.place 2) (λ t. rw t (omega arith)) (λ t. rw t (short_len (ltb-false r.head.place 2 t)));
        room = omega (arith, p.fed, l);
      }

  see_view : see r.head.mode (base_of r.head (latest_of r.latest)) (start_of r.head) r.bytes r.head.fed ≡ view r
  see_view =
      λ i.
      record {
        mode = r.head.mode;
        place = start_place i;
        fed = r.head.fed;
        accepted = r.head.accepted;
        refused = r.head.refused;
        outside = r.head.outside;
        pending = r.head.pending;
        latest = latest_of r.latest;
      }

  -- the whole slice, from what `run` says
  ran_walk : (s : List ℕ) (n : ℕ) (t : Moved) (a : List ℕ) → Ran r.head.mode (start_of r.head) r.bytes a s n t → r.head.fed + n ≤ limit
      → (n < length s → r.head.fed + n ≡ limit)
      → walk (view r) s
      ≡ result_of (turned r.head.mode (base_of r.head (latest_of r.latest)) t.act t.now a (r.head.fed + t.at)) t.at
  ran_walk s n t a g l u =
      ap (λ x. walk x s) (sym see_view)
      ∙ g.says (base_of r.head (latest_of r.latest)) l
      ∙ closes r.head.mode (base_of r.head (latest_of r.latest)) t.act t.now a s t.at
      (λ e h. let i = g.through e in let v = u (omega (arith, i, h)) in omega (arith, i, v))

  pub ready_of : (s : List ℕ) (n : ℕ) (t : Moved) (a : List ℕ) → Ran r.head.mode (start_of r.head) r.bytes a s n t → r.head.fed + n ≤ limit
      → (n < length s → r.head.fed + n ≡ limit) → Ready r a s t
  ready_of s n t a g l u =
      record {
        says = ran_walk s n t a g l u;
        room = omega (arith, g.most, l);
        sum = omega (arith, g.tally, p.fed);
        known = g.fits.known;
        short = g.fits.short;
        busy = g.busy;
        whole = g.whole;
      }
