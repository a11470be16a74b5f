use Rattle.std.proofs.Common.{arith, refl, sym, ap, ◌∙◌}
use Rattle.gim_ast.specs.declared.function.Function.{Function}
use Rattle.gim_changes.proofs.LoopLemmas.{filtered_start, filtered_fails, filtered_passes}
use Rattle.gim_tables.proofs.Kept.{stays_by}
use Rattle.gim_tables.proofs.removal.trim_by.Goals as goal

pub loop-i-init : goal.loop-i-init
loop-i-init c = (filtered_start _ c.len-i.ensures, refl)

pub loop-i-preserved-then-not-stays : goal.loop-i-preserved-then-not-stays
loop-i-preserved-then-not-stays c =
    let row = c.at.result.now in
    let stays = stays_by c.args.counts.now c.args.names.now c.args.function.now row c.requires.uses c.requires.assigned in (
      filtered_fails c.loop-i.invariant.0 _ (omega arith) row c.at.ensures.item
          (sym stays ∙ (sym c.stays.ensures ∙ c.if-not-stays.true)) c.remove_row.ensures,
      ap (λ (f : Function). record f { names = c.remove_row.new.rows }) c.loop-i.invariant.1,
    )

pub loop-i-preserved : goal.loop-i-preserved
loop-i-preserved c =
    let row = c.at.result.now in
    let stays = stays_by c.args.counts.now c.args.names.now c.args.function.now row c.requires.uses c.requires.assigned in (
      filtered_passes c.loop-i.invariant.0 _ (omega arith) row c.at.ensures.item
          (sym stays ∙ (sym c.stays.ensures ∙ c.if-not-stays.false)),
      c.loop-i.invariant.1,
    )
