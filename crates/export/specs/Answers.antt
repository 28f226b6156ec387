-- What a call that fills a buffer returns: the length, or where it is refused 2^64 less the refusal's number.
use Rattle.std.specs.Prelude.{cond, ℕ, ◌-◌, ◌^◌, eqb}
use Rattle.octets.specs.Delivery.{Written}

abbrev pub answer_of : Written → ℕ
answer_of w = cond (eqb w.refusal 0) w.length (2 ^ 64 - w.refusal)
