-- A Bool that decides, after a test of it.
use mathlib.Core.Bool.{Bool, true, false, not}
use mathlib.Core.Path.{◌≡◌, subst}
use borrow.Author.Tests.{not-true, not-false}
use Rattle.octets.specs.Deciding.{Decides}

-- after `if !f(..) { .. }`, where f decides P
pub decided_yes : {P : Type 0} (t : Bool) → Decides P t → not t ≡ false → P
decided_yes {P} t d e = subst (Decides P) (not-false t e) d

pub decided_no : {P : Type 0} (t : Bool) → Decides P t → not t ≡ true → P → ⊥
decided_no {P} t d e = subst (Decides P) (not-true t e) d
