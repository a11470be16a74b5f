use Rattle.std.proofs.Common.{◌<◌, length, arith}
use Rattle.gim_ssa.proofs.UsesLemmas.{next_stmt, noted_on}
use Rattle.gim_ssa.proofs.uses.push_stmts.Goals as goal

pub loop-before-preserved : goal.loop-before-preserved
loop-before-preserved c =
    let inside : c.loop-before.before < length c.args.stmts.now = omega arith in
    record {
      counted = omega (arith, c.loop-before.invariant.counted);
      uses = noted_on _ _ _ _ _ _ c.in_ok-push_rhs.ensures c.loop-before.invariant.uses
          (next_stmt c.args.block c.loop-before.item c.args.stmts.now c.loop-before.before c.index-stmts-before.result inside c.index-stmts-before.is);
    }
