-- Marked operations, whose operands are tried in both orders: how many there are, and the first one
-- whose operation may not be exchanged.
use Rattle.std.specs.Prelude.{ℕ, ◌+◌, ◌||◌, Bool, false, if◌then◌else◌, List, [], ◌∷◌, Option, Some, None}
use Rattle.pm_ops.specs.Codes.{is_commutative_code, is_comparison_code}
use Rattle.pm_ops.specs.declared.fault.PatternFault.{PatternFault}
use Rattle.pm_ops.specs.declared.fault.PatternKind.TheVariants.{NotCommutative}
use Rattle.pm_places.specs.FirstFaults.{first_fault, or_fault}
use Rattle.pd_ast.specs.declared.pattern.Commute.{Commute}
use Rattle.pd_ast.specs.declared.pattern.Commute.TheVariants.{No, Checked, Forced}
use Rattle.pd_ast.specs.declared.pattern.OpRef.{OpRef}
use Rattle.pd_ast.specs.declared.pattern.OpRef.TheVariants.{Fixed, Chosen, Listed, Null}
use Rattle.pd_ast.specs.declared.pattern.Pat.{Pat, Pat-F, fold-Pat}
use Rattle.pd_ast.specs.declared.pattern.Pat.TheOpen as layer
use Rattle.pd_ast.specs.declared.pattern.PatNode.{PatNode, PatNode-F, fold-PatNode}

-- the sum of a list
abbrev pub total : List ℕ → ℕ
total [] = 0
total (n ∷ ns) = n + total ns

abbrev pub mark_count : Commute → ℕ
mark_count No = 0
mark_count Checked = 1
mark_count Forced = 1

abbrev pub marks_in_layer : Pat-F ℕ ℕ → ℕ
marks_in_layer (layer.Hole cap) = 0
marks_in_layer (layer.Test pred cap) = 0
marks_in_layer (layer.Call name args cap) = total args
marks_in_layer (layer.Node count) = count

abbrev pub marks_in_node : PatNode-F ℕ ℕ → ℕ
marks_in_node node = mark_count node.flags.commute + total node.args

-- how many marked operations a pattern has
abbrev pub marks : Pat → ℕ
marks = fold-Pat ℕ ℕ marks_in_layer marks_in_node

abbrev pub node_marks : PatNode → ℕ
node_marks = fold-PatNode ℕ ℕ marks_in_layer marks_in_node

-- the operation commutes or compares
abbrev pub may_exchange : OpRef → Bool
may_exchange (Fixed code) = is_commutative_code code || is_comparison_code code
may_exchange (Chosen name) = false
may_exchange (Listed name) = false
may_exchange Null = false

-- `c` on an operation that neither commutes nor compares, at its name
abbrev pub wrong_mark : Commute → OpRef → ℕ → ℕ → Option PatternFault
wrong_mark No op at len = None
wrong_mark Checked op at len =
    if may_exchange op then None else Some (record { kind = NotCommutative; at = at; len = len })
wrong_mark Forced op at len = None

abbrev pub wrong_in_layer : Pat-F (Option PatternFault) (Option PatternFault) → Option PatternFault
wrong_in_layer (layer.Hole cap) = None
wrong_in_layer (layer.Test pred cap) = None
wrong_in_layer (layer.Call name args cap) = first_fault args
wrong_in_layer (layer.Node fault) = fault

abbrev pub wrong_in_node : PatNode-F (Option PatternFault) (Option PatternFault) → Option PatternFault
wrong_in_node node =
    or_fault (wrong_mark node.flags.commute node.op node.at node.len) (first_fault node.args)

-- the first operation, an operation before its operands, that is wrongly marked
abbrev pub first_wrong_mark : Pat → Option PatternFault
first_wrong_mark = fold-Pat (Option PatternFault) (Option PatternFault) wrong_in_layer wrong_in_node

abbrev pub node_wrong_mark : PatNode → Option PatternFault
node_wrong_mark = fold-PatNode (Option PatternFault) (Option PatternFault) wrong_in_layer wrong_in_node
