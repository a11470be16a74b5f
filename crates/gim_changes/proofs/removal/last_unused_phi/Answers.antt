use Rattle.std.proofs.Common.{◌≡◌, sym, ◌∙◌, arith}
use Rattle.gim_ast.specs.Functions.{phi_name}
use Rattle.gim_changes.proofs.Unused.{used_turn, unused_turn}
use Rattle.gim_changes.proofs.removal.last_unused_phi.Goals as goal
use Rattle.gim_changes.proofs.removal.last_unused_phi.Goals.{then-not-uses, else-not-uses}

pub loop-phi-preserved : goal.loop-phi-preserved
loop-phi-preserved c =
    let f = c.args.function.now in
    elim c.if-not-uses.branch [
      | then-not-uses w ↦
          let turn = unused_turn phi_name f c.loop-phi.found c.args.phis.now c.loop-phi.phi-index c.phi-item.result (omega arith) c.phi-item.is (sym c.uses.ensures ∙ w.if-not-uses.true) in
          let found : c.if-not-uses.found ≡ _ = w.found-is in
          cc
      | else-not-uses w ↦
          let turn = used_turn phi_name f c.loop-phi.found c.args.phis.now c.loop-phi.phi-index c.phi-item.result (omega arith) c.phi-item.is (sym c.uses.ensures ∙ w.if-not-uses.false) in
          let found : c.if-not-uses.found ≡ _ = w.found-is in
          cc
    ]
