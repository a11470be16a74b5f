-- The types of drafts.
use Rattle.std.specs.Prelude.{Option, Some, None}
use Rattle.std.specs.Option.{option_or}
use Rattle.pm_wide.specs.Operands.{type_of_operand}
use Rattle.pm_wide.specs.Types.{Ty}
use Rattle.result_types.specs.declared.draft.Head.{Head}
use Rattle.result_types.specs.Drafts.{Shape, leaf, one, two, three}
use Rattle.result_types.specs.IntegerTypes.{integer_types}
use Rattle.result_types.specs.TypeRules.{own_of_code}

-- the own type of an operation, from those of its operands: the one after `:`, else by its code
abbrev pub own_under : Head → Option Ty → Option Ty → Option Ty → Option Ty
own_under head a b c = option_or head.ty (own_of_code integer_types head.code a b c)

-- the type that a draft has of its own: an operand that of its values
abbrev pub own : Shape → Option Ty
own (leaf a) = Some (type_of_operand a)
own (one head a) = own_under head (own a) None None
own (two head a b) = own_under head (own a) (own b) None
own (three head a b c) = own_under head (own a) (own b) (own c)

-- its type under an operation that may ask for one: its own, else the one that is asked for
abbrev pub type_in : Option Ty → Shape → Option Ty
type_in asked shape = option_or (own shape) asked
