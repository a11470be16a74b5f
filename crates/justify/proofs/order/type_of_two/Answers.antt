use Rattle.std.proofs.Common.{Some, ap, sym, ◌∙◌}
use Rattle.justify.proofs.OperandLists.{pair_has_type}
use Rattle.justify.proofs.order.type_of_two.Goals as goal

pub returns-in-len2 : goal.returns-in-len2
returns-in-len2 c = ap Some c.type_of.ensures ∙ sym (pair_has_type c.args.xs.now c.a-item.result c.in-len2.len_at_least c.in-len2.len_below c.a-item.is)
