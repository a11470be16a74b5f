use Rattle.std.proofs.Common.{subst, ◌≤◌, ◌^◌}
use Rattle.pd_lexer.proofs.NumberLemmas.{stays_great}
use Rattle.pd_lexer.proofs.numbers.value.Goals as goal

pub returns-in-None : goal.returns-in-None
returns-in-None c =
    subst (λ n. 2 ^ 63 ≤ n) c.loop-digit.invariant.0
    (stays_great c.args.base (2 ^ 63) c.loop-digit.number c.loop-digit.digit-index c.args.digits.now c.requires.at_least c.loop-digit-test.true
    c.in-None.ensures)
