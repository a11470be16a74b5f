use Rattle.std.proofs.Common.{◌<◌, length, sym, ap, subst, ◌∙◌}
use Rattle.gim_ast.specs.declared.function.Function.{Function}
use Rattle.gim_ast.specs.Functions.{assigned}
use Rattle.gim_changes.specs.Removal.{pruned}
use Rattle.gim_changes.proofs.Unused.{fewer_assigned, pruned_end, pruned_more}
use Rattle.gim_tables.proofs.removal.prune.Goals as goal

pub loop-name-smaller : goal.loop-name-smaller
loop-name-smaller c =
    let P : Function → Type 0 = λ g. length (assigned g) < length (assigned c.loop-name.function) in
    subst P (sym c.remove_name.ensures) (fewer_assigned c.loop-name.function c.in-Some.name (sym c.in_ok-name.ensures ∙ c.in-Some.is))

pub loop-name-preserved : goal.loop-name-preserved
loop-name-preserved c =
    ap pruned c.remove_name.ensures
    ∙ (pruned_more c.loop-name.function c.in-Some.name (sym c.in_ok-name.ensures ∙ c.in-Some.is) ∙ c.loop-name.invariant)

pub returns : goal.returns
returns c = sym (pruned_end c.loop-name.function (sym c.in_ok-name.ensures ∙ c.in_default.is)) ∙ c.loop-name.invariant
