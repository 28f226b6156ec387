-- Each part of an old record where `view32` shows it, computed: every number another.
use mathlib.Core.Bool.{Bool, true, false, not}
use mathlib.Core.List.{[], ◌∷◌, map}
use mathlib.Core.Option.{none, some}
use mathlib.Core.Path.{◌≡◌, refl}
use lib.ListN.{replicate}
use Rattle.line.specs.Table.State.{E}
use Rattle.line.specs.Record.Place.{at}
use Rattle.latest.proofs.Vectors.{kept}
use Rattle.record.specs.View.{place_of, first_bytes}
use Rattle.takeover.specs.declared.Latest32.{Latest32}
use Rattle.takeover.specs.Takeover.{latest32_of, view32}

pub viewed : (l : Latest32)
    → view32
    (record {
      head =
          record { mode = 1; place = 6; id = 0x21; c1 = 0xB4; c2 = 0xA0; len = 1; accepted = 40; refused = 30; outside = 20; pending = 8; fed = 98 };
      latest = l;
      bytes = 0x10 ∷ 0x11 ∷ [];
    })
    ≡ record {
      mode = 1;
      place = at (E 0x21 (0x10 ∷ []) 0xB4 0xA0);
      fed = 98;
      accepted = 40;
      refused = 30;
      outside = 20;
      pending = 8;
      latest = latest32_of l;
    }
unfolding place_of first_bytes
viewed l = refl

-- every other kind is there, as t says; the others have data too, which are not seen
abbrev pub marked : Bool → Latest32
marked t =
    record {
      has43 = t;
      d43 = replicate 6 1;
      has46 = not t;
      d46 = replicate 10 2;
      has4a = t;
      d4a = replicate 33 3;
      has4b = not t;
      d4b = replicate 42 4;
      haseb = t;
      deb = replicate 26 5;
    }

pub odd_ones : map (latest32_of (marked true)) kept ≡ some (replicate 6 1) ∷ none ∷ some (replicate 33 3) ∷ none ∷ some (replicate 26 5) ∷ []
odd_ones = refl

pub even_ones : map (latest32_of (marked false)) kept ≡ none ∷ some (replicate 10 2) ∷ none ∷ some (replicate 42 4) ∷ none ∷ []
even_ones = refl
