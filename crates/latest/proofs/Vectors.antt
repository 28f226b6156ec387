-- Each kept kind has its own data, if it is there, computed.
use mathlib.Core.Bool.{Bool, true, false, not}
use mathlib.Core.List.{List, [], ◌∷◌, map}
use mathlib.Core.Option.{none, some}
use mathlib.Core.Path.{◌≡◌, refl}
use Prim.Native.Nat.{ℕ}
use lib.ListN.{replicate}
use Rattle.std.specs.Prelude.{Option as Held, Some, None}
use Rattle.line.specs.Record.{Kept}
use Rattle.line.specs.Record.Kept.{k_43, k_46, k_4a, k_4b, k_eb}
use Rattle.latest.specs.Latest.{latest_of}
use Rattle.latest.specs.declared.Latest.{Latest}

abbrev pub when : Bool → List ℕ → Held (List ℕ)
when true d = Some d
when false d = None

-- every other kind is there, as t says
abbrev pub marked : Bool → Latest
marked t =
    record {
      d43 = when t (replicate 6 1);
      d46 = when (not t) (replicate 10 2);
      d4a = when t (replicate 33 3);
      d4b = when (not t) (replicate 42 4);
      deb = when t (replicate 26 5);
    }

abbrev pub kept : List Kept
kept = k_43 ∷ k_46 ∷ k_4a ∷ k_4b ∷ k_eb ∷ []

pub odd_ones : map (latest_of (marked true)) kept ≡ some (replicate 6 1) ∷ none ∷ some (replicate 33 3) ∷ none ∷ some (replicate 26 5) ∷ []
odd_ones = refl

pub even_ones : map (latest_of (marked false)) kept ≡ none ∷ some (replicate 10 2) ∷ none ∷ some (replicate 42 4) ∷ none ∷ []
even_ones = refl
