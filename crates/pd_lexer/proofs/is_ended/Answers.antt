use Rattle.std.proofs.Common.{arith}
use Rattle.pd_lexer.proofs.Scanning.{goes_on, some_open, sought_to}
use Rattle.pd_lexer.proofs.is_ended.Goals as goal

pub loop-at-smaller : goal.loop-at-smaller
loop-at-smaller c =
    let on = goes_on c.args.source.now _ c.loop-at-test.true c.piece_at-piece.ensures c.end-at.ensures in
    omega (arith, on, c.loop-at-test.true)

pub loop-at-preserved : goal.loop-at-preserved
loop-at-preserved c =
    let open_still = some_open _ c.is_ground.result c.is_ground.ensures c.if-is_ground.false in
    sought_to c.loop-at.invariant c.loop-at-test.true c.piece_at-piece.ensures open_still c.in_ok-pass.ensures c.end-at.ensures
