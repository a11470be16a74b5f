use Rattle.std.proofs.Common.{◌<◌, length, arith}
use Rattle.value_numbers.proofs.SpotLists.{some_there, one_block_more, all_blocks}
use Rattle.value_numbers.proofs.places.places.Goals as goal

pub loop-block-preserved : goal.loop-block-preserved
loop-block-preserved c =
    let f = c.args.function.now in
    let inside : c.loop-block.block < length f.blocks = omega arith in
    let there = some_there f.blocks c.loop-block.block inside in
    one_block_more f c.loop-block.block there.0 c.loop-block.places c.push_block.new.places there.1 c.loop-block.invariant
    (c.in_ok-push_block.ensures there.0 there.1)

pub returns : goal.returns
returns c = all_blocks c.args.function.now c.loop-block.block c.loop-block.places (omega arith) c.loop-block.invariant
