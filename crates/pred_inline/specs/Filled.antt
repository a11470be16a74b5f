-- The pattern of a case as it stands for a use. Its captures are called as the use has them. An
-- argument that is no capture alone stands at the first place where its parameter stands alone.
use Rattle.std.specs.Prelude.{not, Bool, if◌then◌else◌, List, [], ◌∷◌, ◌++◌, Option, Some, None, option_map}
use Rattle.std.specs.List.{list_any}
use Rattle.std.specs.Str.{bytes_eq}
use Rattle.pm_ops.specs.Names.{Name}
use Rattle.pd_ast.specs.declared.pattern.Cap.{Cap}
use Rattle.pd_ast.specs.declared.pattern.Pat.{Pat, Pat-F, fold-Pat}
use Rattle.pd_ast.specs.declared.pattern.Pat.TheOpen as layer
use Rattle.pd_ast.specs.declared.pattern.Pat.TheVariants as pat
use Rattle.pd_ast.specs.declared.pattern.PatNode.{PatNode, PatNode-F, fold-PatNode, roll-PatNode}
use Rattle.pd_substitution.specs.Chosen.{cap_with}
use Rattle.pd_substitution.specs.declared.substitution.Substitution.{Substitution}
use Rattle.pattern_uses.specs.Captures.{capture_of, captured}
use Rattle.pred_inline.specs.Arguments.{argument_for, moved, occurs_again}
use Rattle.pred_inline.specs.declared.case.Case.{Case}

-- an argument in the place of its parameter, whose capture it takes where that occurs again and the
-- argument has none of its own
abbrev pub standing : Bool → Option Cap → Cap → Pat → Pat
standing again None cap arg = if again then captured cap arg else arg
standing again (Some own) cap arg = arg

-- what stands in the place of a capture alone, by whether it is the first of its name, whether its
-- name occurs again, and the argument that is to stand there
abbrev pub in_place : Bool → Bool → Cap → Option Pat → Pat
in_place first again cap None = pat.Hole cap
in_place first again cap (Some arg) = if first then standing again (capture_of arg) cap arg else pat.Hole cap

-- behind captures alone of these names
abbrev pub hole_filled : Substitution → Case → List Pat → Cap → List Name → Pat
hole_filled by case args cap before =
    in_place (not (list_any (bytes_eq cap.name) before)) (occurs_again case cap.name) (cap_with by cap)
    (moved (argument_for case.params args cap.name))

-- the captures alone in a pattern, and what becomes of it behind captures alone of these names
pub record Filling : Type 0 where
  pub holes : List Name
  pub filled : List Name → Pat

pub record NodeFilling : Type 0 where
  pub holes : List Name
  pub filled : List Name → PatNode

abbrev pub all_holes : List Filling → List Name
all_holes [] = []
all_holes (one ∷ rest) = one.holes ++ all_holes rest

abbrev pub all_filled : List Filling → List Name → List Pat
all_filled [] before = []
all_filled (one ∷ rest) before = one.filled before ∷ all_filled rest (before ++ one.holes)

abbrev pub fill_layer : Substitution → Case → List Pat → Pat-F Filling NodeFilling → Filling
fill_layer by case args (layer.Hole cap) =
    record { holes = cap.name ∷ []; filled = hole_filled by case args cap }
fill_layer by case args (layer.Test pred cap) =
    record { holes = []; filled = λ before. pat.Test pred (option_map (cap_with by) cap) }
fill_layer by case args (layer.Call name inner cap) =
    record {
      holes = all_holes inner;
      filled = λ before. pat.Call name (all_filled inner before) (option_map (cap_with by) cap);
    }
fill_layer by case args (layer.Node node) =
    record { holes = node.holes; filled = λ before. pat.Node (node.filled before) }

abbrev pub fill_node_layer : Substitution → PatNode-F Filling NodeFilling → NodeFilling
fill_node_layer by node =
    record {
      holes = all_holes node.args;
      filled = λ before. roll-PatNode (record {
        op = node.op;
        flags = node.flags;
        cap = option_map (cap_with by) node.cap;
        args = all_filled node.args before;
        at = node.at;
        len = node.len;
      });
    }

abbrev pub filling : Substitution → Case → List Pat → Pat → Filling
filling by case args = fold-Pat Filling NodeFilling (fill_layer by case args) (fill_node_layer by)

abbrev pub node_filling : Substitution → Case → List Pat → PatNode → NodeFilling
node_filling by case args = fold-PatNode Filling NodeFilling (fill_layer by case args) (fill_node_layer by)

-- the whole pattern of the case
abbrev pub case_filled : Substitution → Case → List Pat → Pat
case_filled by case args = (filling by case args case.row.pattern).filled []
