use Rattle.std.proofs.Common.{sym, ap, ◌∙◌, arith}
use Rattle.gim_ast.specs.declared.function.Block.{Block}
use Rattle.gim_tables.proofs.Firsts.{turn_back}
use Rattle.gim_tables.proofs.places.rights_in.Goals as goal

pub loop-at-preserved : goal.loop-at-preserved
loop-at-preserved c =
    let stmts = c.as_slice.ensures ∙ ap (λ (block : Block). block.stmts) (sym c.index-blocks-at.is) in
    λ q. turn_back q c.args.blocks.now c.loop-at.at c.index-blocks-at.result c.as_slice.result.now _ _ (omega arith) (omega arith)
    c.index-blocks-at.is stmts (c.loop-at.invariant q) (c.in_ok-add_stmts.ensures q)
