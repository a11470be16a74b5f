-- Optional operations: those of one group are present or absent together, wherever they stand.
use Rattle.std.specs.Prelude.{ℕ, ◌==◌, ◌||◌, Bool, true, false, if◌then◌else◌, List, [], ◌∷◌, Option, Some, None}
use Rattle.std.specs.List.{flat_map}
use Rattle.pd_ast.specs.declared.pattern.Cap.{Cap}
use Rattle.pd_ast.specs.declared.pattern.Flags.{Flags}
use Rattle.pd_ast.specs.declared.pattern.OpRef.{OpRef}
use Rattle.pd_ast.specs.declared.pattern.Pat.{Pat, Pat-F, fold-Pat, out-Pat}
use Rattle.pd_ast.specs.declared.pattern.Pat.TheOpen as layer
use Rattle.pd_ast.specs.declared.pattern.Pat.TheVariants as pat
use Rattle.pd_ast.specs.declared.pattern.PatNode.{PatNode, PatNode-F, fold-PatNode, out-PatNode, roll-PatNode}

-- the operation is of the group
abbrev pub is_of_group : ℕ → Option ℕ → Bool
is_of_group group None = false
is_of_group group (Some g) = g == group

-- some of these is true
abbrev pub some_true : List Bool → Bool
some_true [] = false
some_true (b ∷ bs) = b || some_true bs

abbrev pub in_layer : Pat-F Bool Bool → Bool
in_layer (layer.Hole cap) = false
in_layer (layer.Test pred cap) = false
in_layer (layer.Call name args cap) = some_true args
in_layer (layer.Node found) = found

abbrev pub in_node : ℕ → PatNode-F Bool Bool → Bool
in_node group node = is_of_group group node.flags.optional || some_true node.args

-- the pattern has an operation of the group
abbrev pub has_group : ℕ → Pat → Bool
has_group group = fold-Pat Bool Bool in_layer (in_node group)

abbrev pub node_has_group : ℕ → PatNode → Bool
node_has_group group = fold-PatNode Bool Bool in_layer (in_node group)

-- an operation with these parts
abbrev pub operation : OpRef → Flags → Option Cap → List Pat → ℕ → ℕ → Pat
operation op flags cap args at len =
    pat.Node (roll-PatNode (record { op = op; flags = flags; cap = cap; args = args; at = at; len = len }))

-- the pattern, with this capture in place of its own
abbrev pub captured_layer : Cap → Pat-F Pat PatNode → Pat
captured_layer cap (layer.Hole own) = pat.Hole cap
captured_layer cap (layer.Test pred own) = pat.Test pred (Some cap)
captured_layer cap (layer.Call name args own) = pat.Call name args (Some cap)
captured_layer cap (layer.Node node) =
    let n = out-PatNode node in operation n.op n.flags (Some cap) n.args n.at n.len

abbrev pub captured : Option Cap → Pat → Pat
captured None pattern = pattern
captured (Some cap) pattern = captured_layer cap (out-Pat pattern)

-- an operation that is no longer optional
abbrev pub not_optional : Flags → Flags
not_optional flags = record { commute = flags.commute; single = flags.single; optional = None }

abbrev pub kept : OpRef → Flags → Option Cap → List Pat → ℕ → ℕ → Pat
kept op flags cap args at len = operation op (not_optional flags) cap args at len

-- In the place of an absent operation stands its operand, and takes its capture. An operation that
-- hasn't one operand can't be absent.
abbrev pub left_out : OpRef → Flags → Option Cap → List Pat → ℕ → ℕ → Pat
left_out op flags cap (operand ∷ []) at len = captured cap operand
left_out op flags cap args at len = kept op flags cap args at len

-- an operation, its operands done, with the operations of the group present or absent
abbrev pub settled_parts : ℕ → Bool → OpRef → Flags → Option Cap → List Pat → ℕ → ℕ → Pat
settled_parts group present op flags cap args at len =
    if is_of_group group flags.optional
    then (if present then kept op flags cap args at len else left_out op flags cap args at len)
    else operation op flags cap args at len

abbrev pub settled_layer : Pat-F Pat Pat → Pat
settled_layer (layer.Hole cap) = pat.Hole cap
settled_layer (layer.Test pred cap) = pat.Test pred cap
settled_layer (layer.Call name args cap) = pat.Call name args cap
settled_layer (layer.Node pattern) = pattern

abbrev pub settled_node_layer : ℕ → Bool → PatNode-F Pat Pat → Pat
settled_node_layer group present node =
    settled_parts group present node.op node.flags node.cap node.args node.at node.len

-- the pattern with the operations of the group present or absent
abbrev pub settled : ℕ → Bool → Pat → Pat
settled group present = fold-Pat Pat Pat settled_layer (settled_node_layer group present)

abbrev pub settled_node : ℕ → Bool → PatNode → Pat
settled_node group present = fold-PatNode Pat Pat settled_layer (settled_node_layer group present)

-- the choices of one group, where the pattern has it: present, then absent
abbrev pub group_choices : ℕ → Pat → List Pat
group_choices group pattern =
    if has_group group pattern
    then settled group true pattern ∷ settled group false pattern ∷ []
    else pattern ∷ []

-- the choices of all groups, the first group slowest
abbrev pub optional_choices : Pat → List Pat
optional_choices pattern =
    flat_map (group_choices 2) (flat_map (group_choices 1) (group_choices 0 pattern))
