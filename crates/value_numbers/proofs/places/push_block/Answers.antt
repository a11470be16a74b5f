use Rattle.std.proofs.Common.{◌≡◌, ◌<◌, ◌++◌, Some, length, map, ap, ◌∙◌, arith}
use Rattle.value_numbers.specs.Spots.{spot_at}
use Rattle.value_numbers.proofs.SpotLists.{one_place_more, whole_block}
use Rattle.value_numbers.proofs.places.push_block.Goals as goal

pub loop-stmt-preserved : goal.loop-stmt-preserved
loop-stmt-preserved c = λ home at.
    let f = c.args.function.now in
    let so_far = c.loop-stmt.invariant home at in
    let within : c.loop-stmt.stmt < length home.stmts = omega (arith, so_far.1) in (
      ap (map (spot_at f)) c.in_ok-push.ensures.ok
          ∙ one_place_more f c.args.block c.loop-stmt.stmt home c.loop-stmt.places (map (spot_at f) c.args.places.now) at within so_far.0,
      so_far.1,
    )

pub returns : goal.returns
returns c = λ home at.
    let f = c.args.function.now in
    let so_far = c.loop-stmt.invariant home at in
    let all : c.loop-stmt.stmt ≡ length home.stmts = omega (arith, so_far.1) in
    so_far.0 ∙ ap (λ l. map (spot_at f) c.args.places.now ++ map Some l) (whole_block home c.loop-stmt.stmt all)
