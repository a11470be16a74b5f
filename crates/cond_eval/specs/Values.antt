-- Values of C text.
use Rattle.std.specs.Prelude.{ℕ, ◌<◌, ◌≤◌, ◌^◌, ◌==◌, Bool, if◌then◌else◌, ℤ, Option, Some, None, ⊤}
use Rattle.std.specs.Option.{option_and_then}
use Rattle.pd_ast.specs.declared.c_text.CType.{CType}
use Rattle.pd_ast.specs.declared.c_text.CType.TheVariants as static
use Rattle.pm_wide.specs.declared.operand.Operand.TheVariants.{Const}
use Rattle.pm_wide.specs.Residues.{residue}
use Rattle.pm_wide.specs.Types.{Ty, in_range, long_type, word}
use Rattle.cond_eval.specs.declared.value.CValue.{CValue}
use Rattle.cond_eval.specs.declared.value.CValue.TheVariants.{Truth, Int, TypeRef, Oper, WideRef, Sign, CodeRef}
use Rattle.cond_eval.specs.declared.pair.Pair.{Pair}

-- the static type of a value
abbrev pub type_of_value : CValue → CType
type_of_value (Truth truth) = static.Truth
type_of_value (Int number) = static.Int
type_of_value (TypeRef ty) = static.TypeRef
type_of_value (Oper operand) = static.Oper
type_of_value (WideRef precision bits) = static.WideRef
type_of_value (Sign unsigned) = static.Sign
type_of_value (CodeRef code) = static.CodeRef

-- static types by number
abbrev pub type_number : CType → ℕ
type_number static.Truth = 0
type_number static.Int = 1
type_number static.TypeRef = 2
type_number static.Oper = 3
type_number static.WideRef = 4
type_number static.Sign = 5
type_number static.CodeRef = 6

-- a value, where it has that static type
abbrev pub of_static_type : CType → CValue → Option CValue
of_static_type ty v = if type_number ty == type_number (type_of_value v) then Some v else None

-- a word has a precision from 1 to 128, and is below 2 to the precision
abbrev pub IsValue : CValue → Type 0
IsValue (Truth truth) = ⊤
IsValue (Int number) = ⊤
IsValue (TypeRef ty) = ⊤
IsValue (Oper operand) = ⊤
IsValue (WideRef precision bits) = (0 < precision) × (precision ≤ 128) × (bits < 2 ^ precision)
IsValue (Sign unsigned) = ⊤
IsValue (CodeRef code) = ⊤

-- the same of two words of one precision
abbrev pub IsPair : Pair → Type 0
IsPair pair =
    (0 < pair.precision) × (pair.precision ≤ 128)
    × (pair.left < 2 ^ pair.precision) × (pair.right < 2 ^ pair.precision)

-- a truth
abbrev pub truth : Bool → Option CValue
truth b = Some (Truth b)

-- a whole number, from -2^63 to 2^63 - 1 alone
abbrev pub whole : ℤ → Option CValue
whole z = if in_range long_type z then Some (Int z) else None

-- the word of a whole number
abbrev pub wide : ℕ → ℤ → Option CValue
wide precision z = Some (WideRef precision (residue precision z))

-- the constant of a type for a whole number
abbrev pub constant : Ty → ℤ → Option CValue
constant ty z = Some (Oper (Const (word ty z)))

-- what two values give that are there, and three
abbrev pub on_two : {C : Type 0} → (CValue → CValue → Option C)
    → Option CValue → Option CValue → Option C
on_two f a b = option_and_then (λ x. option_and_then (f x) b) a

abbrev pub on_three : {C : Type 0} → (CValue → CValue → CValue → Option C)
    → Option CValue → Option CValue → Option CValue → Option C
on_three f a b c = option_and_then (λ x. on_two (f x) b c) a

-- two words of one precision: a whole number beside a word is reduced to its precision, and words
-- of unequal precision don't go together
abbrev pub words_of : CValue → CValue → Option Pair
words_of (WideRef p a) (WideRef q b) =
    if p == q then Some (record { precision = p; left = a; right = b }) else None
words_of (WideRef p a) (Int n) = Some (record { precision = p; left = a; right = residue p n })
words_of (Int n) (WideRef p b) = Some (record { precision = p; left = residue p n; right = b })
words_of a b = None
