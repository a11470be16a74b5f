-- The orders of operands: of a marked operation as written and then exchanged, an operation slower
-- than those in its operands, and an earlier operand slower than a later one.
use Rattle.std.specs.Prelude.{ℕ, List, [], ◌∷◌, ◌++◌, map, Option, Some, None}
use Rattle.pm_ops.specs.Codes.{swapped_code}
use Rattle.pd_ast.specs.declared.pattern.Cap.{Cap}
use Rattle.pd_ast.specs.declared.pattern.Commute.{Commute}
use Rattle.pd_ast.specs.declared.pattern.Commute.TheVariants.{No, Checked, Forced}
use Rattle.pd_ast.specs.declared.pattern.Flags.{Flags}
use Rattle.pd_ast.specs.declared.pattern.OpRef.{OpRef}
use Rattle.pd_ast.specs.declared.pattern.OpRef.TheVariants.{Fixed, Chosen, Listed, Null}
use Rattle.pd_ast.specs.declared.pattern.Pat.{Pat, Pat-F, fold-Pat}
use Rattle.pd_ast.specs.declared.pattern.Pat.TheOpen as layer
use Rattle.pd_ast.specs.declared.pattern.Pat.TheVariants as pat
use Rattle.pd_ast.specs.declared.pattern.PatNode.{PatNode, PatNode-F, fold-PatNode}
use Rattle.commute_expand.specs.Choices.{choices}
use Rattle.commute_expand.specs.Groups.{operation}

-- two operands in the other order
abbrev pub exchanged : List Pat → List Pat
exchanged (a ∷ b ∷ []) = b ∷ a ∷ []
exchanged args = args

-- a comparison on exchanged operands has the exchanged code; a commuting operation has its own
abbrev pub swapped_op : OpRef → OpRef
swapped_op (Fixed code) = Fixed (swapped_code code)
swapped_op (Chosen name) = Chosen name
swapped_op (Listed name) = Listed name
swapped_op Null = Null

-- the operation on exchanged operands, where both orders are tried: by `C` it is the same
-- operation whatever it means
abbrev pub exchanged_op : Commute → OpRef → Option OpRef
exchanged_op No op = None
exchanged_op Checked op = Some (swapped_op op)
exchanged_op Forced op = Some op

-- an operation without its mark
abbrev pub unmarked : Flags → Flags
unmarked flags = record { commute = No; single = flags.single; optional = flags.optional }

-- the operation on each of these lists of operands
abbrev pub on_each : OpRef → Flags → Option Cap → ℕ → ℕ → List (List Pat) → List Pat
on_each op flags cap at len lists = map (λ args. operation op (unmarked flags) cap args at len) lists

abbrev pub exchanged_orders : Option OpRef → Flags → Option Cap → ℕ → ℕ → List (List Pat) → List Pat
exchanged_orders None flags cap at len lists = []
exchanged_orders (Some op) flags cap at len lists = on_each op flags cap at len (map exchanged lists)

-- an operation in its orders, where its operands are one of these lists
abbrev pub orders_on : OpRef → Flags → Option Cap → ℕ → ℕ → List (List Pat) → List Pat
orders_on op flags cap at len lists =
    on_each op flags cap at len lists
    ++ exchanged_orders (exchanged_op flags.commute op) flags cap at len lists

abbrev pub orders_of_layer : Pat-F (List Pat) (List Pat) → List Pat
orders_of_layer (layer.Hole cap) = pat.Hole cap ∷ []
orders_of_layer (layer.Test pred cap) = pat.Test pred cap ∷ []
orders_of_layer (layer.Call name args cap) = map (λ chosen. pat.Call name chosen cap) (choices args)
orders_of_layer (layer.Node patterns) = patterns

abbrev pub orders_of_node : PatNode-F (List Pat) (List Pat) → List Pat
orders_of_node node =
    orders_on node.op node.flags node.cap node.at node.len (choices node.args)

-- a pattern in all its orders
abbrev pub orders : Pat → List Pat
orders = fold-Pat (List Pat) (List Pat) orders_of_layer orders_of_node

abbrev pub node_orders : PatNode → List Pat
node_orders = fold-PatNode (List Pat) (List Pat) orders_of_layer orders_of_node
