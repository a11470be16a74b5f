use Rattle.pattern_rows.proofs.Operands.{expanded_where_full, not_expanded_where_not}
use Rattle.pattern_rows.proofs.expanded.+expanded.Goals as goal

pub is_expanded_node-returns-then-len-arity : goal.is_expanded_node-returns-then-len-arity
is_expanded_node-returns-then-len-arity t c =
    expanded_where_full c.args.node.now _ c.as_slice.result.now _ _ _ c.in-Fixed.is c.as_slice.ensures c.len.ensures c.arity.ensures c.if-len-arity.true c.are_expanded.ensures

pub is_expanded_node-returns-else-len-arity : goal.is_expanded_node-returns-else-len-arity
is_expanded_node-returns-else-len-arity t c =
    not_expanded_where_not c.args.node.now _ _ _ c.in-Fixed.is c.len.ensures c.arity.ensures c.if-len-arity.false
