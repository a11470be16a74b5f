use Rattle.std.proofs.Common.{◌≡◌, sym, ◌∙◌, arith}
use Rattle.gim_ast.specs.Functions.{stmt_name}
use Rattle.gim_changes.proofs.Unused.{used_turn, unused_turn}
use Rattle.gim_tables.proofs.removal.last_stmt.Goals as goal
use Rattle.gim_tables.proofs.removal.last_stmt.Goals.{then-not-is_used, else-not-is_used}

pub loop-stmt-preserved : goal.loop-stmt-preserved
loop-stmt-preserved c =
    let f = c.args.function.now in
    elim c.if-not-is_used.branch [
      | then-not-is_used w ↦
          let turn = unused_turn stmt_name f c.loop-stmt.found c.args.stmts.now c.loop-stmt.stmt-index c.stmt-item.result
          (omega arith) c.stmt-item.is (sym c.is_used.ensures ∙ w.if-not-is_used.true) in
          let found : c.if-not-is_used.found ≡ _ = w.found-is in
          cc
      | else-not-is_used w ↦
          let turn = used_turn stmt_name f c.loop-stmt.found c.args.stmts.now c.loop-stmt.stmt-index c.stmt-item.result
          (omega arith) c.stmt-item.is (sym c.is_used.ensures ∙ w.if-not-is_used.false) in
          let found : c.if-not-is_used.found ≡ _ = w.found-is in
          cc
    ]
