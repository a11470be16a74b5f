-- The raw result of a row: an operand, or an operation over trees, with the places of its marked
-- operations. It has no numbers of new names.
use Rattle.std.specs.Prelude.{◌≡◌, Option, Some, None, List}
use Rattle.std.specs.Option.{option_map, option_and_then}
use Rattle.either.specs.declared.Either.{Either}
use Rattle.either.specs.declared.Either.TheVariants.{Left, Right}
use Rattle.pm_wide.specs.declared.operand.Operand.{Operand}
use Rattle.pm_wide.specs.declared.operand.Operand.TheVariants.{Name, Const}
use Rattle.pm_wide.specs.Types.{Ty}
use Rattle.pm_term.specs.Trees.{Tree, name, constant, node, type_of}
use Rattle.pd_ast.specs.declared.result.Out.{Out}
use Rattle.pattern_rows.specs.declared.caps.Caps.{Caps}
use Rattle.pattern_rows.specs.declared.row.Place.{Place}
use Rattle.pattern_rows.specs.Places.{outermost}
use Rattle.cond_eval.specs.declared.environment.CEnv.{CEnv}
use Rattle.result_types.specs.Drafts.{Shape}
use Rattle.result_build.specs.declared.raw.Raw.{Raw}
use Rattle.result_build.specs.Given.{given}
use Rattle.result_build.specs.Marks.{marks}
use Rattle.result_build.specs.TypedResults.{typed, outermost_of}

-- the operand that a tree without operations is
abbrev pub operand_in : Tree → Option Operand
operand_in (name version ty) = Some (Name version ty)
operand_in (constant word) = Some (Const word)
operand_in (node code ty args) = None

abbrev pub operand_or : Option Operand → Tree → Either Operand Tree
operand_or None tree = Right tree
operand_or (Some operand) tree = Left operand

-- an operand, or an operation over trees
abbrev pub body_of : Tree → Either Operand Tree
body_of tree = operand_or (operand_in tree) tree

abbrev pub raw : Tree → List Place → Raw
raw tree places = record { body = body_of tree; marked = places }

-- of a draft whose outermost operation has its type
abbrev pub raw_of_typed : Shape → Option Raw
raw_of_typed shape = option_map (λ tree. raw tree (marks None outermost shape)) (typed None shape)

-- of a draft, for a subject of that type
abbrev pub raw_of : Ty → Shape → Option Raw
raw_of t shape = option_and_then raw_of_typed (outermost_of t shape)

-- of a result, with these captures, where `type` is the subject's type
abbrev pub raw_result : Out → Caps → CEnv → Option Raw
raw_result out caps env = option_and_then (raw_of env.ty) (given caps out env)

-- an operation has that type; of an operand nothing is said
abbrev pub OperationHas : Ty → Either Operand Tree → Type 0
OperationHas t (Left operand) = Unit {0}
OperationHas t (Right tree) = type_of tree ≡ t
