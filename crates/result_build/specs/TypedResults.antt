-- The term of a draft.
use Rattle.std.specs.Prelude.{Bool, true, false, ◌&&◌, if◌then◌else◌, Option, Some, None, List, [], ◌∷◌, map}
use Rattle.std.specs.Option.{option_map, option_and_then}
use Rattle.pm_ops.specs.declared.code.Code.{Code}
use Rattle.pm_ops.specs.declared.code.Code.TheVariants.{Convert}
use Rattle.pm_ops.specs.Codes.{same_code}
use Rattle.pm_wide.specs.Types.{Ty, same_type}
use Rattle.pm_wide.specs.Typing.{well_typed_operation}
use Rattle.pm_term.specs.Trees.{Tree, node, leaf as operand_tree, trees, type_of}
use Rattle.result_types.specs.declared.draft.Head.{Head}
use Rattle.result_types.specs.Drafts.{Shape, leaf, one, two, three}
use Rattle.result_types.specs.IntegerTypes.{integer_types}
use Rattle.result_types.specs.OwnTypes.{own, type_in}
use Rattle.result_types.specs.TypeRules.{asked_by_code}

-- a conversion to the type that its operand has of its own
abbrev pub is_dropped : Code → Option Ty → Option Ty → Bool
is_dropped code None had = false
is_dropped code (Some t) None = false
is_dropped code (Some t) (Some u) = same_code code Convert && same_type u t

-- what an operation of a type asks of its operands, from the own types of the first two
abbrev pub asked : Code → Option Ty → Option Ty → Option Ty → Option Ty × Option Ty × Option Ty
asked code None a b = (None, None, None)
asked code (Some t) a b = asked_by_code integer_types code t a b

-- ---- the term

-- an operation on these trees, where it is well typed
abbrev pub operation : Code → Ty → List Tree → Option Tree
operation code t args =
    if well_typed_operation code t (map type_of args) then Some (node code t (trees args)) else None

-- on trees that are there, where there is a type
abbrev pub on_one : Code → Option Ty → Option Tree → Option Tree
on_one code None a = None
on_one code (Some t) a = option_and_then (λ x. operation code t (x ∷ [])) a

abbrev pub on_two : Code → Option Ty → Option Tree → Option Tree → Option Tree
on_two code None a b = None
on_two code (Some t) a b =
    option_and_then (λ x. option_and_then (λ y. operation code t (x ∷ y ∷ [])) b) a

abbrev pub on_three : Code → Option Ty → Option Tree → Option Tree → Option Tree → Option Tree
on_three code None a b c = None
on_three code (Some t) a b c =
    option_and_then (λ x. option_and_then (λ y.
    option_and_then (λ z. operation code t (x ∷ y ∷ z ∷ [])) c) b) a

-- on one tree, or that tree where the conversion is dropped
abbrev pub converted : Code → Option Ty → Option Ty → Option Tree → Option Tree
converted code t had a = if is_dropped code t had then a else on_one code t a

-- The term of a draft for which a type may be asked: each operation has its own type, else the one that is
-- asked for, and asks types of its operands. None where an operation has no type, or isn't well typed.
-- A conversion to the type of its operand is that operand; it asks for none, so that is the operand's own type.
abbrev pub typed : Option Ty → Shape → Option Tree
typed wanted (leaf a) = Some (operand_tree a)
typed wanted (one head a) =
    let t = type_in wanted (one head a) in
    converted head.code t (own a) (typed (asked head.code t (own a) None).0 a)
typed wanted (two head a b) =
    let t = type_in wanted (two head a b) in
    on_two head.code t (typed (asked head.code t (own a) (own b)).0 a)
    (typed (asked head.code t (own a) (own b)).1 b)
typed wanted (three head a b c) =
    let t = type_in wanted (three head a b c) in
    on_three head.code t (typed (asked head.code t (own a) (own b)).0 a)
    (typed (asked head.code t (own a) (own b)).1 b)
    (typed (asked head.code t (own a) (own b)).2 c)

-- ---- the outermost operation

-- the subject's type is the only one that may stand after its `:`
abbrev pub may_be : Ty → Option Ty → Bool
may_be t None = true
may_be t (Some written) = same_type written t

abbrev pub with_type : Ty → Head → Option Head
with_type t head =
    if may_be t head.ty
    then Some (record { code = head.code; must_fold = head.must_fold; ty = Some t }) else None

-- an outermost operation has the subject's type; an operand keeps its own
abbrev pub outermost_of : Ty → Shape → Option Shape
outermost_of t (leaf a) = Some (leaf a)
outermost_of t (one head a) = option_map (λ h. one h a) (with_type t head)
outermost_of t (two head a b) = option_map (λ h. two h a b) (with_type t head)
outermost_of t (three head a b c) = option_map (λ h. three h a b c) (with_type t head)
