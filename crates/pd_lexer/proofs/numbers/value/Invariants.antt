use Rattle.std.proofs.Common.{◌≡◌, ◌<◌, ◌^◌, drop}
use Rattle.pd_lexer.specs.Numbers.{value_after}
use Rattle.pd_lexer.proofs.numbers.value.Given as goal

abbrev pub invariant-loop-digit : goal.invariant-loop-digit
invariant-loop-digit l = (value_after l.base l.number (drop l.digit-index l.digits) ≡ value_after l.base 0 l.digits) × (l.number < 2 ^ 63)
