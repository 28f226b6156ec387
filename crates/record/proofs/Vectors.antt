-- The numbers of the places, and each part of a record in memory where `view` shows it, computed.
use mathlib.Core.List.{List, [], ◌∷◌, map}
use mathlib.Core.Option.{none}
use mathlib.Core.Path.{◌≡◌, refl}
use Prim.Native.Nat.{ℕ}
use Rattle.line.specs.Table.State.{W, WD, F, FD, C0, C1, E, ED}
use Rattle.line.specs.Record.{Kept}
use Rattle.line.specs.Record.Kept.{k_43, k_46, k_4a, k_4b, k_eb}
use Rattle.line.specs.Record.Place.{at, unknown}
use Rattle.latest.specs.Latest.{latest_of}
use Rattle.record.specs.View.{place_of, first_bytes, view}
use Rattle.record.specs.Posts.{blank_record}

pub places : (id : ℕ) (d : List ℕ) (c1 c2 : ℕ)
    → map (λ n. place_of n id d c1 c2) (0 ∷ 1 ∷ 2 ∷ 3 ∷ 4 ∷ 5 ∷ 6 ∷ 7 ∷ 8 ∷ [])
    ≡ at W ∷ at WD ∷ at (F id d) ∷ at (FD id d) ∷ at (C0 id d) ∷ at (C1 id d c1) ∷ at (E id d c1 c2) ∷ at (ED id d c1 c2) ∷ unknown 8 ∷ []
unfolding place_of
places id d c1 c2 = refl

-- a length above the array's is seen
pub data_first : first_bytes 2 (1 ∷ 2 ∷ 3 ∷ []) ≡ 1 ∷ 2 ∷ []
unfolding first_bytes
data_first = refl

pub data_above : first_bytes 3 (1 ∷ []) ≡ 1 ∷ 0 ∷ 0 ∷ []
unfolding first_bytes
data_above = refl

absent : (k : Kept) → latest_of (blank_record 0).latest k ≡ none
absent k_43 = refl
absent k_46 = refl
absent k_4a = refl
absent k_4b = refl
absent k_eb = refl

-- every number another
pub viewed : view
    (record {
      head =
          record { mode = 1; place = 6; id = 0x21; c1 = 0xB4; c2 = 0xA0; len = 1; accepted = 40; refused = 30; outside = 20; pending = 8; fed = 98 };
      latest = (blank_record 0).latest;
      bytes = 0x10 ∷ 0x11 ∷ [];
    })
    ≡ record {
      mode = 1;
      place = at (E 0x21 (0x10 ∷ []) 0xB4 0xA0);
      fed = 98;
      accepted = 40;
      refused = 30;
      outside = 20;
      pending = 8;
      latest = λ k. none;
    }
unfolding place_of first_bytes
viewed = λ i. record { mode = 1; place = at (E 0x21 (0x10 ∷ []) 0xB4 0xA0); fed = 98; accepted = 40; refused = 30; outside = 20; pending = 8; latest = λ k. absent k i }
