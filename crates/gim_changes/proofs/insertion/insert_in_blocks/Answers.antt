use Rattle.std.proofs.Common.{List, ap, ◌∙◌, slice_set}
use Rattle.gim_ast.specs.declared.function.Block.{Block}
use Rattle.gim_ast.specs.declared.function.Stmt.{Stmt}
use Rattle.gim_changes.specs.Insertion.{insert_in_block}
use Rattle.gim_changes.proofs.Insertions.{set_changed}
use Rattle.gim_changes.proofs.insertion.insert_in_blocks.Goals as goal

pub returns-clause-ok : goal.returns-clause-ok
returns-clause-ok c =
    let home = c.at_mut-home.result.now in
    let with_stmts : List Stmt → List Block = λ stmts. slice_set c.args.blocks.now c.args.block (record home { stmts = stmts }) in
    ap with_stmts c.in_ok-insert.ensures.ok
    ∙ set_changed c.args.block (insert_in_block c.args.before c.args.stmt) c.args.blocks.now home c.at_mut-home.ensures.item
