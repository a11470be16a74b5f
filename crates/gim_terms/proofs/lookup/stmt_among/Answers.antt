use Rattle.std.proofs.Common.{◌<◌, length, sym, ◌∙◌, arith}
use Rattle.gim_terms.specs.Lookups.{assigns}
use Rattle.gim_terms.proofs.BlockLookups.{found_in_block, not_in_block}
use Rattle.gim_terms.proofs.lookup.stmt_among.Goals as goal

pub returns-in-Some : goal.returns-in-Some
returns-in-Some c =
    let within : c.loop-block.block-index < length c.args.blocks.now = omega arith in
    sym (found_in_block (assigns c.args.version) c.args.blocks.now c.loop-block.block-index c.block-item.result c.as_slice.result.now c.in-Some.stmt.now within c.block-item.is c.as_slice.ensures c.in-Some.ensures)
    ∙ c.loop-block.invariant

pub loop-block-preserved : goal.loop-block-preserved
loop-block-preserved c =
    let within : c.loop-block.block-index < length c.args.blocks.now = omega arith in
    sym (not_in_block (assigns c.args.version) c.args.blocks.now c.loop-block.block-index c.block-item.result c.as_slice.result.now within c.block-item.is c.as_slice.ensures c.in-None.ensures)
    ∙ c.loop-block.invariant
