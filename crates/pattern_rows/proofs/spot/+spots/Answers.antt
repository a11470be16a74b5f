use Rattle.std.proofs.Common.{rules, arith}
use Rattle.std.proofs.lemmas.Grind.{common_steps}
use Rattle.std.proofs.lemmas.Result.{on_ok_weaker}
use Rattle.pd_ast.specs.declared.pattern.PatNode.{the_lemmas}
use Rattle.pattern_rows.proofs.Operands.{few_operands, operands_expanded, listed}
use Rattle.pattern_rows.proofs.spot.+spots.Goals as goal

pub list_node-list_operands-requires : goal.list_node-list_operands-requires
list_node-list_operands-requires t c = (
  first_of (search (rules, the_lemmas), search (rules, the_lemmas, c.as_slice.ensures, c.decreases), grind (arith, common_steps, the_lemmas)),
  (
    few_operands c.args.node.now c.as_slice.result.now c.as_slice.ensures c.requires,
    operands_expanded c.args.node.now c.as_slice.result.now c.as_slice.ensures c.requires,
  ),
)

pub list_node-returns-in_ok-push_spot-in-Fixed : goal.list_node-returns-in_ok-push_spot-in-Fixed
list_node-returns-in_ok-push_spot-in-Fixed t c =
    on_ok_weaker c.list_operands.result
    (λ rest. listed c.args.node.now _ c.as_slice.result.now c.args.at.now c.args.spots.now _ _ c.in-Fixed.is c.as_slice.ensures c.in_ok-push_spot-in-Fixed.ensures rest)
    c.list_operands.ensures
