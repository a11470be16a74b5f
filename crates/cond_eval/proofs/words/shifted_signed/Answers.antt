use Rattle.std.proofs.Common.{arith, ap, ◌-◌, ◌/◌, ◌^◌, ◌≤◌, ◌∙◌}
use Rattle.cond_eval.proofs.ReadingLemmas.{shifted_high}
use Rattle.cond_eval.proofs.words.shifted_signed.Goals as goal

pub returns-else-a-power_of_two-clause-value : goal.returns-else-a-power_of_two-clause-value
returns-else-a-power_of_two-clause-value c =
    let p = c.args.precision in
    let high : 2 ^ (p - 1) ≤ c.args.a =
    omega (arith, c.power_of_two.ensures, c.if-a-power_of_two.false) in
    c.complement-else-a-power_of_two.ensures.value
    ∙ ap (λ n. 2 ^ p - 1 - n / 2 ^ c.args.places) c.complement.ensures.value
    ∙ shifted_high p c.args.a c.args.places c.requires.word high
