-- The captures of a pattern.
use Rattle.std.specs.Prelude.{List, [], ◌∷◌, ◌++◌, Option, Some, None, Bool, true, false}
use Rattle.pm_ops.specs.Names.{Name}
use Rattle.pd_ast.specs.declared.pattern.Cap.{Cap}
use Rattle.pd_ast.specs.declared.pattern.Pat.{Pat, Pat-F, fold-Pat, out-Pat}
use Rattle.pd_ast.specs.declared.pattern.Pat.TheOpen as layer
use Rattle.pd_ast.specs.declared.pattern.Pat.TheVariants as pat
use Rattle.pd_ast.specs.declared.pattern.PatNode.{PatNode, PatNode-F, fold-PatNode, out-PatNode, roll-PatNode}

abbrev pub joined : {A : Type 0} → List (List A) → List A
joined [] = []
joined (xs ∷ xss) = xs ++ joined xss

-- a pattern's own capture
abbrev pub capture_of_layer : Pat-F Pat PatNode → Option Cap
capture_of_layer (layer.Hole cap) = Some cap
capture_of_layer (layer.Test pred cap) = cap
capture_of_layer (layer.Call name args cap) = cap
capture_of_layer (layer.Node node) = (out-PatNode node).cap

abbrev pub capture_of : Pat → Option Cap
capture_of pattern = capture_of_layer (out-Pat pattern)

-- the pattern with this capture as its own
abbrev pub captured_node : Cap → PatNode-F Pat PatNode → Pat
captured_node cap node =
    pat.Node (roll-PatNode (record {
      op = node.op;
      flags = node.flags;
      cap = Some cap;
      args = node.args;
      at = node.at;
      len = node.len;
    }))

abbrev pub captured_layer : Cap → Pat-F Pat PatNode → Pat
captured_layer cap (layer.Hole own) = pat.Hole cap
captured_layer cap (layer.Test pred own) = pat.Test pred (Some cap)
captured_layer cap (layer.Call name args own) = pat.Call name args (Some cap)
captured_layer cap (layer.Node node) = captured_node cap (out-PatNode node)

abbrev pub captured : Cap → Pat → Pat
captured cap pattern = captured_layer cap (out-Pat pattern)

-- a capture alone
abbrev pub is_hole_layer : Pat-F Pat PatNode → Bool
is_hole_layer (layer.Hole cap) = true
is_hole_layer (layer.Test pred cap) = false
is_hole_layer (layer.Call name args cap) = false
is_hole_layer (layer.Node node) = false

abbrev pub is_hole : Pat → Bool
is_hole pattern = is_hole_layer (out-Pat pattern)

-- the names of all captures of a pattern, in preorder, each at each of its occurrences
abbrev pub own_name : Option Cap → List Name
own_name None = []
own_name (Some cap) = cap.name ∷ []

abbrev pub names_in_layer : Pat-F (List Name) (List Name) → List Name
names_in_layer (layer.Hole cap) = cap.name ∷ []
names_in_layer (layer.Test pred cap) = own_name cap
names_in_layer (layer.Call name args cap) = own_name cap ++ joined args
names_in_layer (layer.Node names) = names

abbrev pub names_in_node : PatNode-F (List Name) (List Name) → List Name
names_in_node node = own_name node.cap ++ joined node.args

abbrev pub capture_names : Pat → List Name
capture_names = fold-Pat (List Name) (List Name) names_in_layer names_in_node

abbrev pub capture_names_of_node : PatNode → List Name
capture_names_of_node = fold-PatNode (List Name) (List Name) names_in_layer names_in_node
