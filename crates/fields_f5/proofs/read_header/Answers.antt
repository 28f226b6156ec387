-- `read_header` meets its contract: field by field, by what the readers ensure. They ask nothing.
use mathlib.Core.Path.{◌∙◌}
use borrow.Author.Rules.{sfits_of}
use mir.Facts.{to_z-of_z}
use mir.Syntax.{w8}
use Rattle.fields_f5.specs.Fields.{header_of}
use Rattle.fields_f5.proofs.read_header.Goals as goal

pub returns : goal.returns
unfolding header_of
returns c =
    λ k. record {
      time = c.u64_at.ensures k;
      week = c.u16_at.ensures k;
      gps_shift = c.u64_at-2.ensures k;
      glonass_shift = c.u64_at-3.ensures k;
      correction = (to_z-of_z {w = w8} (sfits_of c.int8s_at.type_inv) ∙ c.int8s_at.ensures) k;
    }
