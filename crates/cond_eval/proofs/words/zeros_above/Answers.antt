use Rattle.std.proofs.Common.{arith}
use Rattle.cond_eval.proofs.CountLemmas.{enough_above}
use Rattle.cond_eval.proofs.words.zeros_above.Goals as goal

pub overflow_sub-result-2 : goal.overflow_sub-result-2
overflow_sub-result-2 c =
    let enough = enough_above c.args.precision c.args.a c.requires.precision c.requires.word in
    omega (arith, c.from.ensures, enough)
