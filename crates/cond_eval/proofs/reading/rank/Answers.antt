use Rattle.std.proofs.Common.{arith, ◌-◌, ◌^◌, ◌<◌}
use Rattle.cond_eval.proofs.ReadingLemmas.{room}
use Rattle.cond_eval.proofs.reading.rank.Goals as goal

pub overflow_add-result : goal.overflow_add-result
overflow_add-result c =
    let half = c.power_of_two-half.ensures in
    let low : c.args.a < 2 ^ (c.args.reading.precision - 1) =
    omega (arith, half, c.if-a-half.true) in
    omega (arith, half, room _ c.args.a c.requires.some c.requires.precision low)
