use Rattle.std.proofs.Common.{arith, ◌≡◌, ◌-◌, ◌^◌, ◌∙◌}
use Rattle.std.proofs.lemmas.Nat.{pow_pos}
use Rattle.std.proofs.Math.Pow.{pow_mono}
use Rattle.pm_wide.proofs.Residues.{ones}
use Rattle.cond_eval.proofs.reading.extended.Goals as goal

pub overflow_add-result : goal.overflow_add-result
overflow_add-result c =
    let p = c.args.reading.precision in
    let all : c.lowest.result ≡ 2 ^ p - 1 =
    c.lowest.ensures.value ∙ ones p (omega (arith, c.requires.precision)) in
    omega (arith, all, c.requires.word, pow_mono c.requires.precision, pow_pos p)
