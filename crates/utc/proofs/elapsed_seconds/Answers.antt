-- `elapsed_seconds` meets its contract: no step leaves 32 bits.
use Rattle.std.proofs.lemmas.Grind.{common_steps}
use Rattle.std.proofs.Common.{arith}
use mir.ValLaws.{to_z-of_z, to_z_pos}
use Rattle.utc.proofs.SizeLaws.{fits_32}
use Rattle.utc.proofs.ElapsedLaws.{near, seconds_size, weeks_size, product_size, elapsed_size}
use Rattle.utc.proofs.elapsed_seconds.Goals as goal

pub overflow_cast-result : goal.overflow_cast-result
overflow_cast-result c = grind (arith, common_steps, near, to_z_pos, fits_32, seconds_size, weeks_size, product_size, elapsed_size)

pub overflow_cast-result-2 : goal.overflow_cast-result-2
overflow_cast-result-2 c = grind (arith, common_steps, near, to_z_pos, fits_32, seconds_size, weeks_size, product_size, elapsed_size)

pub overflow_sub-result : goal.overflow_sub-result
overflow_sub-result c = grind (arith, common_steps, near, to_z_pos, fits_32, seconds_size, weeks_size, product_size, elapsed_size)

pub overflow_mul-result : goal.overflow_mul-result
overflow_mul-result c = grind (arith, common_steps, to_z-of_z, near, to_z_pos, fits_32, seconds_size, weeks_size, product_size, elapsed_size)

pub overflow_add-result : goal.overflow_add-result
overflow_add-result c = grind (arith, common_steps, to_z-of_z, near, to_z_pos, fits_32, seconds_size, weeks_size, product_size, elapsed_size)

pub returns : goal.returns
returns c = grind (arith, common_steps, to_z-of_z, near, to_z_pos, fits_32, seconds_size, weeks_size, product_size, elapsed_size)
