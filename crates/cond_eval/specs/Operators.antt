-- The values of operators on values, one line an operator.
use Rattle.std.specs.Prelude.{ℕ, ◌-◌, ◌^◌, ◌==◌, Bool, true, false, not, if◌then◌else◌, ℤ, pos, neg_ℤ, ◌+ℤ◌, ◌-ℤ◌, ◌*ℤ◌, bit_and, bit_or, bit_xor, Option, Some, None}
use Rattle.std.specs.Int.RustNames.{int_lt, int_le}
use Rattle.std.specs.Option.{option_map, option_and_then}
use Rattle.pd_ast.specs.declared.operator.UnaryOperator.{UnaryOperator}
use Rattle.pd_ast.specs.declared.operator.UnaryOperator.TheVariants.{Not, Complement, Negate}
use Rattle.pd_ast.specs.declared.operator.BinaryOperator.{BinaryOperator}
use Rattle.pd_ast.specs.declared.operator.BinaryOperator.TheVariants.{Or, And, BitOr, BitXor, BitAnd, Eq, Ne, Lt, Le, Gt, Ge, Plus, Minus, Times}
use Rattle.pm_ops.specs.Codes.{same_code}
use Rattle.pm_wide.specs.Operations.{int_same}
use Rattle.pm_wide.specs.Types.{same_type}
use Rattle.cond_eval.specs.declared.value.CValue.{CValue}
use Rattle.cond_eval.specs.declared.value.CValue.TheVariants.{Truth, Int, TypeRef, WideRef, Sign, CodeRef}
use Rattle.cond_eval.specs.Values.{truth, whole, wide, words_of}

-- one operand
abbrev pub not_value : CValue → Option CValue
not_value (Truth a) = truth (not a)
not_value _ = None

abbrev pub complement_value : CValue → Option CValue
complement_value (WideRef p a) = Some (WideRef p (2 ^ p - 1 - a))
complement_value _ = None

abbrev pub negative_value : CValue → Option CValue
negative_value (Int n) = whole (neg_ℤ n)
negative_value (WideRef p a) = wide p (neg_ℤ (pos a))
negative_value _ = None

abbrev pub unary_value : UnaryOperator → CValue → Option CValue
unary_value Not a = not_value a
unary_value Complement a = complement_value a
unary_value Negate a = negative_value a

-- sums, differences and products, of whole numbers or of words
abbrev pub arithmetic : (ℤ → ℤ → ℤ) → CValue → CValue → Option CValue
arithmetic f (Int m) (Int n) = whole (f m n)
arithmetic f a b =
    option_and_then (λ w. wide w.precision (f (pos w.left) (pos w.right))) (words_of a b)

-- bits of two words of one precision
abbrev pub bitwise : (ℕ → ℕ → ℕ) → CValue → CValue → Option CValue
bitwise f (WideRef p a) (WideRef q b) = if p == q then Some (WideRef p (f a b)) else None
bitwise f _ _ = None

-- the order of whole numbers
abbrev pub ordered : (ℤ → ℤ → Bool) → CValue → CValue → Option CValue
ordered f (Int m) (Int n) = truth (f m n)
ordered f _ _ = None

-- two values of one static type are one; operands aren't compared
abbrev pub equal : CValue → CValue → Option Bool
equal (Truth a) (Truth b) = Some (if a then b else not b)
equal (Int a) (Int b) = Some (int_same a b)
equal (TypeRef a) (TypeRef b) = Some (same_type a b)
equal (Sign a) (Sign b) = Some (if a then b else not b)
equal (CodeRef a) (CodeRef b) = Some (same_code a b)
equal a b = option_map (λ w. w.left == w.right) (words_of a b)

-- two operands that both have values; `||` and `&&` don't need both
abbrev pub binary_value : BinaryOperator → CValue → CValue → Option CValue
binary_value Or a b = None
binary_value And a b = None
binary_value BitOr a b = bitwise bit_or a b
binary_value BitXor a b = bitwise bit_xor a b
binary_value BitAnd a b = bitwise bit_and a b
binary_value Eq a b = option_map (λ t. Truth t) (equal a b)
binary_value Ne a b = option_map (λ t. Truth (not t)) (equal a b)
binary_value Lt a b = ordered (λ m n. int_lt m n) a b
binary_value Le a b = ordered (λ m n. int_le m n) a b
binary_value Gt a b = ordered (λ m n. int_lt n m) a b
binary_value Ge a b = ordered (λ m n. int_le n m) a b
binary_value Plus a b = arithmetic (λ m n. m +ℤ n) a b
binary_value Minus a b = arithmetic (λ m n. m -ℤ n) a b
binary_value Times a b = arithmetic (λ m n. m *ℤ n) a b

-- `a && b`, `a || b` and `a ? b : c` evaluate only what they need
abbrev pub and_value : Option CValue → Option CValue → Option CValue
and_value (Some (Truth true)) b = b
and_value (Some (Truth false)) b = truth false
and_value _ b = None

abbrev pub or_value : Option CValue → Option CValue → Option CValue
or_value (Some (Truth true)) b = truth true
or_value (Some (Truth false)) b = b
or_value _ b = None

abbrev pub chosen_value : Option CValue → Option CValue → Option CValue → Option CValue
chosen_value (Some (Truth true)) b c = b
chosen_value (Some (Truth false)) b c = c
chosen_value _ b c = None
