use Rattle.std.proofs.Common.{ap, ◌∙◌}
use Rattle.pm_wide.specs.declared.operand.Operand.TheVariants.{Name}
use Rattle.gim_changes.specs.Substitution.{put_in_all}
use Rattle.value_numbers.proofs.RowsAfterMerge.{merged_by_steps}
use Rattle.value_numbers.proofs.carrying.merge.Goals as goal

pub returns : goal.returns
returns c =
    let f = c.args.function.now in
    let x = c.args.name in
    let y = c.args.taken in
    merged_by_steps f c.requires.valid x y c.requires.merge c.put_in_all.new.function c.remove_name.new.function c.remove_rows.new.rows
    (c.put_in_all.ensures ∙ ap (λ t. put_in_all x (Name y t) f) c.type_of.ensures) c.remove_name.ensures c.remove_rows.ensures
