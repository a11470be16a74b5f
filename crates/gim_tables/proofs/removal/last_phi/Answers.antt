use Rattle.std.proofs.Common.{◌≡◌, sym, ◌∙◌, arith}
use Rattle.gim_ast.specs.Functions.{phi_name}
use Rattle.gim_changes.proofs.Unused.{used_turn, unused_turn}
use Rattle.gim_tables.proofs.removal.last_phi.Goals as goal
use Rattle.gim_tables.proofs.removal.last_phi.Goals.{then-not-is_used, else-not-is_used}

pub loop-phi-preserved : goal.loop-phi-preserved
loop-phi-preserved c =
    let f = c.args.function.now in
    elim c.if-not-is_used.branch [
      | then-not-is_used w ↦
          let turn = unused_turn phi_name f c.loop-phi.found c.args.phis.now c.loop-phi.phi-index c.phi-item.result
          (omega arith) c.phi-item.is (sym c.is_used.ensures ∙ w.if-not-is_used.true) in
          let found : c.if-not-is_used.found ≡ _ = w.found-is in
          cc
      | else-not-is_used w ↦
          let turn = used_turn phi_name f c.loop-phi.found c.args.phis.now c.loop-phi.phi-index c.phi-item.result
          (omega arith) c.phi-item.is (sym c.is_used.ensures ∙ w.if-not-is_used.false) in
          let found : c.if-not-is_used.found ≡ _ = w.found-is in
          cc
    ]
