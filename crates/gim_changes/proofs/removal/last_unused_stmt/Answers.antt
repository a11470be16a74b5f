use Rattle.std.proofs.Common.{◌≡◌, sym, ◌∙◌, arith}
use Rattle.gim_ast.specs.Functions.{stmt_name}
use Rattle.gim_changes.proofs.Unused.{used_turn, unused_turn}
use Rattle.gim_changes.proofs.removal.last_unused_stmt.Goals as goal
use Rattle.gim_changes.proofs.removal.last_unused_stmt.Goals.{then-not-uses, else-not-uses}

pub loop-stmt-preserved : goal.loop-stmt-preserved
loop-stmt-preserved c =
    let f = c.args.function.now in
    elim c.if-not-uses.branch [
      | then-not-uses w ↦
          let turn = unused_turn stmt_name f c.loop-stmt.found c.args.stmts.now c.loop-stmt.stmt-index c.stmt-item.result (omega arith) c.stmt-item.is (sym c.uses.ensures ∙ w.if-not-uses.true) in
          let found : c.if-not-uses.found ≡ _ = w.found-is in
          cc
      | else-not-uses w ↦
          let turn = used_turn stmt_name f c.loop-stmt.found c.args.stmts.now c.loop-stmt.stmt-index c.stmt-item.result (omega arith) c.stmt-item.is (sym c.uses.ensures ∙ w.if-not-uses.false) in
          let found : c.if-not-uses.found ≡ _ = w.found-is in
          cc
    ]
