-- The operation table: the value of each operation on whole numbers without bound, or none where
-- it is undefined. `int_div` rounds toward zero and `int_rem` is what it leaves; `int_div_euclid`
-- by a power of two rounds down. Operations on the bits of words are those of the words as
-- numbers.
use Rattle.std.specs.Prelude.{ℕ, ◌-◌, ◌^◌, ◌==◌, Bool, not, ◌&&◌, ◌||◌, if◌then◌else◌, Option, Some, None, List, [], ◌∷◌, ℤ, pos, negsuc, neg_ℤ, ◌+ℤ◌, ◌-ℤ◌, ◌*ℤ◌, bit_and, bit_or, bit_xor}
use Rattle.std.specs.Int.{int_div_euclid, int_min, int_max}
use Rattle.std.specs.Int.RustNames.{int_lt, int_le, int_div, int_rem, unsigned_abs}
use Rattle.pm_ops.specs.declared.code.Code.{Code}
use Rattle.pm_ops.specs.declared.code.Code.TheVariants.{Convert, Plus, Minus, Mult, TruncDiv, TruncMod, Negate, Abs, Absu, BitAnd, BitIor, BitXor, BitNot, Lshift, Rshift, Min, Max, Eq, Ne, Lt, Le, Gt, Ge, Cond}
use Rattle.pm_wide.specs.Types.{Ty, Word, least, value, word, in_range, bool_type}

-- an exact result: reduced where the type has no sign, undefined out of range where it has one
abbrev pub exact : Ty → ℤ → Option Word
exact t z = if t.unsigned || in_range t z then Some (word t z) else None

-- a result that is always there, reduced
abbrev pub reduced : Ty → ℤ → Option Word
reduced t z = Some (word t z)

-- a result that comes as a word
abbrev pub as_word : Ty → ℕ → Option Word
as_word t n = Some (record { bits = n; ty = t })

-- a comparison's _Bool
abbrev pub truth : Bool → Option Word
truth b = as_word bool_type (if b then 1 else 0)

-- the two are one number
abbrev pub int_same : ℤ → ℤ → Bool
int_same x y = int_le x y && int_le y x

-- the quotient toward zero is there: the divisor isn't 0, and the quotient is a value of the type
abbrev pub divides : Ty → ℤ → ℤ → Bool
divides t x y = not (int_same y (pos 0)) && in_range t (int_div x y)

-- the one quotient that leaves a signed type: of the least value by -1
abbrev pub least_by_minus_one : Ty → ℤ → ℤ → Bool
least_by_minus_one t x y = not t.unsigned && (int_same x (least t) && int_same y (negsuc 0))

-- a count of places is there: from 0 to below the width of what is shifted
abbrev pub shifts : Ty → ℤ → Bool
shifts t n = int_le (pos 0) n && int_lt n (pos t.width)

-- one operand: conversion, negative, size, size in the unsigned type, complement
abbrev pub unary_value : Code → Ty → Word → Option Word
unary_value Convert t a = reduced t (value a)
unary_value Negate t a = exact t (neg_ℤ (value a))
unary_value Abs t a = exact t (pos (unsigned_abs (value a)))
unary_value Absu t a = reduced t (pos (unsigned_abs (value a)))
unary_value BitNot t a = as_word t (2 ^ t.width - 1 - a.bits)
unary_value _ t a = None

-- two operands: arithmetic by value, bits by word, shifts, and order by value
abbrev pub binary_value : Code → Ty → Word → Word → Option Word
binary_value Plus t a b = exact t (value a +ℤ value b)
binary_value Minus t a b = exact t (value a -ℤ value b)
binary_value Mult t a b = exact t (value a *ℤ value b)
binary_value TruncDiv t a b = if divides t (value a) (value b) then reduced t (int_div (value a) (value b)) else None
binary_value TruncMod t a b = if divides t (value a) (value b) then reduced t (int_rem (value a) (value b)) else None
binary_value BitAnd t a b = as_word t (bit_and a.bits b.bits)
binary_value BitIor t a b = as_word t (bit_or a.bits b.bits)
binary_value BitXor t a b = as_word t (bit_xor a.bits b.bits)
binary_value Lshift t a b = if shifts t (value b) then reduced t (value a *ℤ pos (2 ^ unsigned_abs (value b))) else None
binary_value Rshift t a b = if shifts t (value b) then reduced t (int_div_euclid (value a) (pos (2 ^ unsigned_abs (value b)))) else None
binary_value Min t a b = reduced t (int_min (value a) (value b))
binary_value Max t a b = reduced t (int_max (value a) (value b))
binary_value Eq t a b = truth (int_same (value a) (value b))
binary_value Ne t a b = truth (not (int_same (value a) (value b)))
binary_value Lt t a b = truth (int_lt (value a) (value b))
binary_value Le t a b = truth (int_le (value a) (value b))
binary_value Gt t a b = truth (int_lt (value b) (value a))
binary_value Ge t a b = truth (int_le (value b) (value a))
binary_value _ t a b = None

-- three operands: the second where the first is 1, else the third
abbrev pub ternary_value : Code → Ty → Word → Word → Word → Option Word
ternary_value Cond t a b c = if a.bits == 1 then Some b else Some c
ternary_value _ t a b c = None

-- the value of an operation on well-typed words, by the number of its operands
unfoldable pub operation_value : Code → Ty → List Word → Option Word
operation_value code t (a ∷ []) = unary_value code t a
operation_value code t (a ∷ b ∷ []) = binary_value code t a b
operation_value code t (a ∷ b ∷ c ∷ []) = ternary_value code t a b c
operation_value code t _ = None
