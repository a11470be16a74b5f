-- The text of patterns. Of the flags only `s` is printed, since a row has no other; what is printed
-- for an operator without a code and for the use of a predicate of the file, neither of which stands
-- in a row, is how a file spells them.
use Rattle.std.specs.Prelude.{ℕ, Bool, if◌then◌else◌, List, [], ◌∷◌, ◌++◌, Option, Some, None, codes}
use Rattle.pm_ops.specs.Names.{Name, code_name}
use Rattle.pm_ops.specs.Predicates.{pred_name}
use Rattle.pd_ast.specs.declared.pattern.Cap.{Cap}
use Rattle.pd_ast.specs.declared.pattern.OpRef.{OpRef}
use Rattle.pd_ast.specs.declared.pattern.OpRef.TheVariants as op
use Rattle.pd_ast.specs.declared.pattern.Pat.{Pat, Pat-F, fold-Pat}
use Rattle.pd_ast.specs.declared.pattern.Pat.TheOpen as layer
use Rattle.pd_ast.specs.declared.pattern.PatNode.{PatNode, PatNode-F, fold-PatNode}
use Rattle.row_printing.specs.Texts.{all_spaced, in_parentheses}

-- `@@` where constants are compared by their number alone
abbrev pub marks_text : Bool → List ℕ
marks_text by_value = if by_value then codes "@@" else codes "@"

abbrev pub cap_text : Cap → List ℕ
cap_text cap = marks_text cap.by_value ++ cap.name

abbrev pub own_cap_text : Option Cap → List ℕ
own_cap_text None = []
own_cap_text (Some cap) = cap_text cap

abbrev pub op_text : OpRef → Name
op_text (op.Fixed code) = code_name code
op_text (op.Chosen name) = name
op_text (op.Listed name) = name
op_text op.Null = codes "null"

-- `:s` where the operation is used once
abbrev pub flag_text : Bool → List ℕ
flag_text single = if single then codes ":s" else []

-- a predicate without arguments stands as it is, and one with arguments as an operation does
abbrev pub use_text : Name → List (List ℕ) → Option Cap → List ℕ
use_text name [] cap = name ++ own_cap_text cap
use_text name (arg ∷ args) cap =
    in_parentheses (name ++ own_cap_text cap ++ all_spaced (arg ∷ args))

abbrev pub pattern_layer : Pat-F (List ℕ) (List ℕ) → List ℕ
pattern_layer (layer.Hole cap) = cap_text cap
pattern_layer (layer.Test pred cap) = pred_name pred ++ own_cap_text cap
pattern_layer (layer.Call name args cap) = use_text name args cap
pattern_layer (layer.Node text) = text

-- `(name:s@0 OPERANDS)`
abbrev pub operation_layer : PatNode-F (List ℕ) (List ℕ) → List ℕ
operation_layer node =
    in_parentheses (op_text node.op ++ flag_text node.flags.single ++ own_cap_text node.cap ++ all_spaced node.args)

-- the text of a pattern, and of an operation
abbrev pub pattern_text : Pat → List ℕ
pattern_text = fold-Pat (List ℕ) (List ℕ) pattern_layer operation_layer

abbrev pub operation_text : PatNode → List ℕ
operation_text = fold-PatNode (List ℕ) (List ℕ) pattern_layer operation_layer
