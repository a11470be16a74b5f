-- The rules on types, and the first place of a file at which one is broken.
use Rattle.std.specs.Prelude.{ℕ, Bool, ◌&&◌, Option, Some, None, List, [], ◌∷◌, ◌++◌, map, if◌then◌else◌}
use Rattle.std.specs.List.{flat_map}
use Rattle.pm_ops.specs.Codes.{is_comparison_code}
use Rattle.pm_wide.specs.Types.{Ty, same_type}
use Rattle.gim_ast.specs.WellFormed.{type_of, rhs_fits}
use Rattle.pm_places.specs.declared.span.Span.{Span}
use Rattle.gim_text.specs.declared.fault.GimpleFault.{GimpleFault}
use Rattle.gim_text.specs.declared.fault.GimpleKind.TheVariants.{TypeMismatch}
use Rattle.gim_text.specs.declared.tree.ArgText.{ArgText}
use Rattle.gim_text.specs.declared.tree.BlockText.{BlockText}
use Rattle.gim_text.specs.declared.tree.EndText.{EndText}
use Rattle.gim_text.specs.declared.tree.EndText.TheVariants.{Goto, If, Return}
use Rattle.gim_text.specs.declared.tree.FunctionText.{FunctionText}
use Rattle.gim_text.specs.declared.tree.ItemText.{ItemText}
use Rattle.gim_text.specs.declared.tree.ItemText.TheVariants.{Phi, Stmt}
use Rattle.gim_text.specs.declared.tree.OperandText.{OperandText}
use Rattle.gim_text.specs.declared.tree.OperandText.TheVariants.{Name, Default, Literal}
use Rattle.gim_text.specs.declared.tree.RightForm.{RightForm}
use Rattle.gim_text.specs.declared.tree.RightForm.TheVariants.{Cast}
use Rattle.gim_text.specs.Faults.{fault_at}
use Rattle.pm_places.specs.FirstFaults.{first_fault}
use Rattle.gim_typing.specs.Operands.{operand_of, rhs_of}
use Rattle.gim_typing.specs.Declarations.{Declarations, declarations_of, type_of_name}

abbrev pub type_of_operand : Declarations → OperandText → Ty
type_of_operand known a = type_of (operand_of known a)

-- a right side that is assigned to a name of this type: a cast is to that type, and its operation is well typed
abbrev pub form_fits : Declarations → Ty → RightForm → Bool
form_fits known t (Cast to a) = same_type to t && rhs_fits t (rhs_of known (Cast to a))
form_fits known t form = rhs_fits t (rhs_of known form)

-- the first token of an operand
abbrev pub start_of : OperandText → Span
start_of (Name at) = at
start_of (Default at) = at
start_of (Literal literal) = literal.start

-- a place where a rule on types is kept, or broken
abbrev pub mismatch : Bool → Span → Option GimpleFault
mismatch fits at = if fits then None else Some (fault_at TypeMismatch at)

-- an argument of a phi that assigns a name of this type has that type
abbrev pub place_of_arg : Declarations → Ty → ArgText → Option GimpleFault
place_of_arg known t arg = mismatch (same_type (type_of_operand known arg.operand) t) arg.from

abbrev pub places_of_item : Declarations → ItemText → List (Option GimpleFault)
places_of_item known (Phi name args) = map (place_of_arg known (type_of_name known name)) args
places_of_item known (Stmt name right) = mismatch (form_fits known (type_of_name known name) right.form) right.start ∷ []

-- a condition compares two operands of one type, and what is returned has the type of the result
abbrev pub places_of_end : Declarations → Ty → Option EndText → List (Option GimpleFault)
places_of_end known result None = []
places_of_end known result (Some (Goto to)) = []
places_of_end known result (Some (If code left right yes_to no_to)) =
    mismatch (is_comparison_code code && same_type (type_of_operand known left) (type_of_operand known right)) (start_of left) ∷ []
places_of_end known result (Some (Return a)) = mismatch (same_type (type_of_operand known a) result) (start_of a) ∷ []

abbrev pub places_of_block : Declarations → Ty → BlockText → List (Option GimpleFault)
places_of_block known result block = flat_map (places_of_item known) block.items ++ places_of_end known result block.end

abbrev pub places_of_function : List ℕ → FunctionText → List (Option GimpleFault)
places_of_function source tree = flat_map (places_of_block (declarations_of source tree) tree.result) tree.blocks

-- the first place of the file at which a rule on types is broken
unfoldable pub types_fault : List ℕ → List FunctionText → Option GimpleFault
types_fault source functions = first_fault (flat_map (places_of_function source) functions)
