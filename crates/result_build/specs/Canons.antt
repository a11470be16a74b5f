-- What becomes of one operation on operands: a constant before a name is exchanged where the code has a
-- swapped one, and an operation on constants alone becomes its value, if it has one.
use Rattle.std.specs.Prelude.{Bool, false, ◌||◌, if◌then◌else◌, Option, Some, None, List, [], ◌∷◌}
use Rattle.std.specs.Option.{option_map, option_and_then}
use Rattle.pm_ops.specs.declared.code.Code.{Code}
use Rattle.pm_ops.specs.Codes.{is_commutative_code, is_comparison_code, swapped_code}
use Rattle.pm_wide.specs.declared.operand.Operand.{Operand}
use Rattle.pm_wide.specs.declared.operand.Operand.TheVariants.{Name, Const}
use Rattle.pm_wide.specs.Types.{Ty, Word}
use Rattle.pm_wide.specs.Operations.{operation_value}
use Rattle.result_build.specs.declared.canon.Canon.{Canon}
use Rattle.result_build.specs.declared.canon.Canon.TheVariants.{Same, Swapped, Folded}

-- a constant before a name, under a code whose operands may be exchanged
abbrev pub is_exchanged : Code → List Operand → Bool
is_exchanged code (Const w ∷ Name x t ∷ []) = is_commutative_code code || is_comparison_code code
is_exchanged code operands = false

-- the words of operands that are all constants
abbrev pub words_of : List Operand → Option (List Word)
words_of [] = Some []
words_of (Const w ∷ operands) = option_map (λ ws. w ∷ ws) (words_of operands)
words_of (Name x t ∷ operands) = None

-- the value of an operation on constants
abbrev pub folded : Code → Ty → List Operand → Option Word
folded code t operands = option_and_then (operation_value code t) (words_of operands)

abbrev pub by_value : Option Word → Canon
by_value None = Same
by_value (Some word) = Folded word

abbrev pub canon_of : Code → Ty → List Operand → Canon
canon_of code t operands =
    if is_exchanged code operands then Swapped (swapped_code code) else by_value (folded code t operands)
