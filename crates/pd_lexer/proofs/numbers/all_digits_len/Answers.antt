use Rattle.std.proofs.Common.{arith}
use Rattle.pd_lexer.proofs.numbers.all_digits_len.Goals as goal

pub returns-else-hex-eq0-clause-within : goal.returns-else-hex-eq0-clause-within
returns-else-hex-eq0-clause-within c = c.hex_len-hex.ensures.within (omega (arith, c.if-hex-eq0.false))
