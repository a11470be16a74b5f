-- The values of calls, one line a call, by what their arguments are. A call has no value on
-- arguments for which there is no line.
use Rattle.std.specs.Prelude.{ℕ, ◌-◌, ◌/◌, ◌^◌, ◌==◌, ◌&&◌, Bool, true, false, not, if◌then◌else◌, ℤ, pos, negsuc, neg_ℤ, ◌+ℤ◌, ◌-ℤ◌, ◌*ℤ◌, bit_and, bit_or, bit_xor, count_ones, List, [], ◌∷◌, Option, Some, None}
use Rattle.std.specs.Int.{int_div_euclid, int_signum}
use Rattle.std.specs.Int.RustNames.{int_lt, int_le, unsigned_abs}
use Rattle.std.specs.Option.{option_map, option_and_then}
use Rattle.pd_ast.specs.declared.call.Call.{Call}
use Rattle.pd_ast.specs.declared.call.Call.TheVariants.{Holds, TreeType, TypePrecision, ElementPrecision, TypeSign, TypeUnsigned, IntegralType, AnyIntegralType, FloatType, VectorType, PointerType, OverflowSanitized, OverflowTraps, OverflowUndefined, OverflowWraps, HasModePrecision, TypesMatch, NopConversion, SignedTypeFor, UnsignedTypeFor, SingleUse, CstSign, ToWide, Add, Sub, Mul, Neg, BitAnd, BitOr, BitXor, BitNot, Lshift, Lrshift, Arshift, MinValue, MaxValue, Popcount, Clz, Ctz, ExactLog2, EqP, NeP, LtP, LeP, GtP, GeP, LtsP, LtuP, LesP, LeuP, GtsP, GtuP, GesP, GeuP, BuildZero, BuildOne, BuildMinusOne, BuildAllOnes, BuildInt, ToTree}
use Rattle.pd_ast.specs.Predicates.{holds_of}
use Rattle.pm_wide.specs.declared.operand.Operand.{Operand}
use Rattle.pm_wide.specs.declared.operand.Operand.TheVariants.{Name, Const}
use Rattle.pm_wide.specs.Operations.{shifts}
use Rattle.pm_wide.specs.Operands.{type_of_operand}
use Rattle.pm_wide.specs.Residues.{residue}
use Rattle.pm_wide.specs.Types.{Ty, least, greatest, same_type, value}
use Rattle.cond_eval.specs.declared.pair.Pair.{Pair}
use Rattle.cond_eval.specs.declared.value.CValue.{CValue}
use Rattle.cond_eval.specs.declared.value.CValue.TheVariants.{Truth, Int, TypeRef, Oper, WideRef, Sign}
use Rattle.cond_eval.specs.Environments.{is_single}
use Rattle.cond_eval.specs.Values.{truth, wide, constant, on_two, on_three, words_of}
use Rattle.cond_eval.specs.Words.{numbers, read, clz_of, ctz_of}

-- the type of that width and sign; `_Bool` has no signed one
abbrev pub with_sign : Bool → Ty → Option CValue
with_sign unsigned ty =
    if not unsigned && (ty.width == 1) then None
    else Some (TypeRef (record { width = ty.width; unsigned = unsigned }))

-- of a type
abbrev pub of_type : Call → Ty → Option CValue
of_type TypePrecision ty = Some (Int (pos ty.width))
of_type ElementPrecision ty = Some (Int (pos ty.width))
of_type TypeSign ty = Some (Sign ty.unsigned)
of_type TypeUnsigned ty = truth ty.unsigned
of_type IntegralType ty = truth true
of_type AnyIntegralType ty = truth true
of_type FloatType ty = truth false
of_type VectorType ty = truth false
of_type PointerType ty = truth false
of_type OverflowSanitized ty = truth false
of_type OverflowTraps ty = truth false
of_type OverflowUndefined ty = truth (not ty.unsigned)
of_type OverflowWraps ty = truth ty.unsigned
of_type HasModePrecision ty = truth (not (ty.width == 1))
of_type SignedTypeFor ty = with_sign false ty
of_type UnsignedTypeFor ty = with_sign true ty
of_type MinValue ty = wide ty.width (least ty)
of_type MaxValue ty = wide ty.width (greatest ty)
of_type BuildZero ty = constant ty (pos 0)
of_type BuildOne ty = constant ty (pos 1)
of_type BuildMinusOne ty = constant ty (negsuc 0)
of_type BuildAllOnes ty = constant ty (negsuc 0)
of_type _ ty = None

-- the sign and the word of a constant; a name has neither
abbrev pub sign_of : Operand → Option CValue
sign_of (Name version ty) = None
sign_of (Const word) = Some (Int (int_signum (value word)))

abbrev pub word_of_operand : Operand → Option CValue
word_of_operand (Name version ty) = None
word_of_operand (Const word) = Some (WideRef word.ty.width word.bits)

-- of an operand, where names are used so often
abbrev pub of_operand : Call → List (ℕ × ℕ) → Operand → Option CValue
of_operand (Holds pred) uses operand = truth (holds_of pred operand)
of_operand TreeType uses operand = Some (TypeRef (type_of_operand operand))
of_operand ElementPrecision uses operand = Some (Int (pos (type_of_operand operand).width))
of_operand SingleUse uses operand = option_map (λ t. Truth t) (is_single uses operand)
of_operand CstSign uses operand = sign_of operand
of_operand ToWide uses operand = word_of_operand operand
of_operand _ uses operand = None

-- of a word of that precision
abbrev pub of_word : Call → ℕ → ℕ → Option CValue
of_word Neg p a = wide p (neg_ℤ (pos a))
of_word BitNot p a = Some (WideRef p (2 ^ p - 1 - a))
of_word Popcount p a = Some (Int (pos (count_ones a)))
of_word Clz p a = Some (Int (pos (clz_of p a)))
of_word Ctz p a = Some (Int (pos (ctz_of p a)))
of_word ExactLog2 p a = Some (Int (if count_ones a == 1 then pos (ctz_of p a) else negsuc 0))
of_word _ p a = None

-- of two types
abbrev pub of_types : Call → Ty → Ty → Option CValue
of_types TypesMatch s t = truth (same_type s t)
of_types NopConversion s t = truth (s.width == t.width)
of_types _ s t = None

-- of a type and an operand's, in either order, or of the types of two operands
abbrev pub of_operand_types : Call → Ty → Ty → Option CValue
of_operand_types TypesMatch s t = truth (same_type s t)
of_operand_types _ s t = None

-- of a type and a whole number
abbrev pub of_number : Call → Ty → ℤ → Option CValue
of_number BuildInt ty n = constant ty n
of_number _ ty n = None

-- of a type and a word, which is read with the type's sign
abbrev pub of_type_word : Call → Ty → ℕ → ℕ → Option CValue
of_type_word ToTree ty p a = constant ty (read ty.unsigned p a)
of_type_word _ ty p a = None

-- of two words of one precision
abbrev pub of_words : Call → Pair → Option CValue
of_words Add w = wide w.precision (pos w.left +ℤ pos w.right)
of_words Sub w = wide w.precision (pos w.left -ℤ pos w.right)
of_words Mul w = wide w.precision (pos w.left *ℤ pos w.right)
of_words BitAnd w = Some (WideRef w.precision (bit_and w.left w.right))
of_words BitOr w = Some (WideRef w.precision (bit_or w.left w.right))
of_words BitXor w = Some (WideRef w.precision (bit_xor w.left w.right))
of_words EqP w = truth (w.left == w.right)
of_words NeP w = truth (not (w.left == w.right))
of_words LtsP w = truth (int_lt (read false w.precision w.left) (read false w.precision w.right))
of_words LesP w = truth (int_le (read false w.precision w.left) (read false w.precision w.right))
of_words GtsP w = truth (int_lt (read false w.precision w.right) (read false w.precision w.left))
of_words GesP w = truth (int_le (read false w.precision w.right) (read false w.precision w.left))
of_words LtuP w = truth (int_lt (read true w.precision w.left) (read true w.precision w.right))
of_words LeuP w = truth (int_le (read true w.precision w.left) (read true w.precision w.right))
of_words GtuP w = truth (int_lt (read true w.precision w.right) (read true w.precision w.left))
of_words GeuP w = truth (int_le (read true w.precision w.right) (read true w.precision w.left))
of_words _ w = None

-- of two words of one precision, read by a sign
abbrev pub of_read_words : Call → Bool → Pair → Option CValue
of_read_words LtP u w = truth (int_lt (read u w.precision w.left) (read u w.precision w.right))
of_read_words LeP u w = truth (int_le (read u w.precision w.left) (read u w.precision w.right))
of_read_words GtP u w = truth (int_lt (read u w.precision w.right) (read u w.precision w.left))
of_read_words GeP u w = truth (int_le (read u w.precision w.right) (read u w.precision w.left))
of_read_words _ u w = None

-- a word shifted by a number of places that is below its precision
abbrev pub shifted : Call → ℕ → ℕ → ℕ → Option CValue
shifted Lshift p a n = wide p (pos a *ℤ pos (2 ^ n))
shifted Lrshift p a n = Some (WideRef p (a / 2 ^ n))
shifted Arshift p a n = wide p (int_div_euclid (read false p a) (pos (2 ^ n)))
shifted _ p a n = None

abbrev pub is_shift : Call → Bool
is_shift Lshift = true
is_shift Lrshift = true
is_shift Arshift = true
is_shift _ = false

-- of a word and a whole number: places to shift by, or a word of the same precision
abbrev pub of_word_number : Call → ℕ → ℕ → ℤ → Option CValue
of_word_number call p a n =
    if is_shift call then
    (if shifts (numbers true p) n then shifted call p a (unsigned_abs n) else None)
    else of_words call (record { precision = p; left = a; right = residue p n })

-- one argument
abbrev pub of_one : Call → List (ℕ × ℕ) → CValue → Option CValue
of_one call uses (TypeRef ty) = of_type call ty
of_one call uses (Oper operand) = of_operand call uses operand
of_one call uses (WideRef p a) = of_word call p a
of_one call uses _ = None

-- two arguments
abbrev pub of_two : Call → CValue → CValue → Option CValue
of_two call (TypeRef s) (TypeRef t) = of_types call s t
of_two call (TypeRef s) (Oper b) = of_operand_types call s (type_of_operand b)
of_two call (Oper a) (TypeRef t) = of_operand_types call (type_of_operand a) t
of_two call (Oper a) (Oper b) = of_operand_types call (type_of_operand a) (type_of_operand b)
of_two call (TypeRef ty) (Int n) = of_number call ty n
of_two call (TypeRef ty) (WideRef p a) = of_type_word call ty p a
of_two call (WideRef p a) (Int n) = of_word_number call p a n
of_two call a b = option_and_then (of_words call) (words_of a b)

-- three arguments
abbrev pub of_three : Call → CValue → CValue → CValue → Option CValue
of_three call a b (Sign u) = option_and_then (of_read_words call u) (words_of a b)
of_three call a b _ = None

-- a call on its arguments' values: none where one has none
abbrev pub call_value : Call → List (ℕ × ℕ) → List (Option CValue) → Option CValue
call_value call uses (a ∷ []) = option_and_then (of_one call uses) a
call_value call uses (a ∷ b ∷ []) = on_two (of_two call) a b
call_value call uses (a ∷ b ∷ c ∷ []) = on_three (of_three call) a b c
call_value call uses _ = None
