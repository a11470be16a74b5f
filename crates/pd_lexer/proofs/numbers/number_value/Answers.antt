use Rattle.std.proofs.Common.{arith}
use Rattle.pd_lexer.proofs.numbers.number_value.Goals as goal

pub split_at-requires-2 : goal.split_at-requires-2
split_at-requires-2 c = omega (arith, c.hex_len-hex.ensures.within (omega (arith, c.if-hex-eq0.false)))

pub split_at-requires-3 : goal.split_at-requires-3
split_at-requires-3 c = omega (arith, c.split_at-2.ensures.back_len, c.hex_len-hex.ensures.within (omega (arith, c.if-hex-eq0.false)))
