-- The rules on the types of results, over any kind of types: over integer types where a result is
-- made, and over 'known' alone where only the text of a pattern is there.
use Rattle.std.specs.Prelude.{Option, Some, None}
use Rattle.std.specs.Option.{option_map, option_or}
use Rattle.pm_ops.specs.declared.code.Code.{Code}
use Rattle.pm_ops.specs.declared.code.Code.TheVariants.{Convert, Plus, Minus, Mult, TruncDiv, TruncMod, Negate, Abs, Absu, BitAnd, BitIor, BitXor, BitNot, Lshift, Rshift, Min, Max, Eq, Ne, Lt, Le, Gt, Ge, Cond}

-- which type is `_Bool`, and which has the width of a type without a sign, or with one if there is one
pub record Kind (T : Type 0) : Type 0 where
  pub truth : T
  pub without_sign : T → T
  pub with_sign : T → Option T

-- The type that an operation of a code has of its own, from the own types of its operands; none stands
-- for an operand without one, and for one that isn't there. `convert` has none; a comparison is a
-- `_Bool`; `cond` goes by what it chooses between, a shift by what is shifted; any other operation by
-- its first operand, else by its second.
abbrev pub own_of_code : {T : Type 0} → Kind T → Code → Option T → Option T → Option T → Option T
own_of_code kind Convert a b c = None
own_of_code kind Plus a b c = option_or a b
own_of_code kind Minus a b c = option_or a b
own_of_code kind Mult a b c = option_or a b
own_of_code kind TruncDiv a b c = option_or a b
own_of_code kind TruncMod a b c = option_or a b
own_of_code kind Negate a b c = a
own_of_code kind Abs a b c = a
own_of_code kind Absu a b c = option_map kind.without_sign a
own_of_code kind BitAnd a b c = option_or a b
own_of_code kind BitIor a b c = option_or a b
own_of_code kind BitXor a b c = option_or a b
own_of_code kind BitNot a b c = a
own_of_code kind Lshift a b c = a
own_of_code kind Rshift a b c = a
own_of_code kind Min a b c = option_or a b
own_of_code kind Max a b c = option_or a b
own_of_code kind Eq a b c = Some kind.truth
own_of_code kind Ne a b c = Some kind.truth
own_of_code kind Lt a b c = Some kind.truth
own_of_code kind Le a b c = Some kind.truth
own_of_code kind Gt a b c = Some kind.truth
own_of_code kind Ge a b c = Some kind.truth
own_of_code kind Cond a b c = option_or b c

-- What an operation of a code and a type asks of its first, second and third operand, from the own types
-- a and b of the first two: `convert` nothing, `cond` a `_Bool` and its own type twice, `absu` the type
-- with a sign, a comparison of each operand the own type of the other, and any other operation its own
-- type.
abbrev pub asked_by_code : {T : Type 0} → Kind T → Code → T → Option T → Option T → Option T × Option T × Option T
asked_by_code kind Convert t a b = (None, None, None)
asked_by_code kind Absu t a b = (kind.with_sign t, None, None)
asked_by_code kind Eq t a b = (b, a, None)
asked_by_code kind Ne t a b = (b, a, None)
asked_by_code kind Lt t a b = (b, a, None)
asked_by_code kind Le t a b = (b, a, None)
asked_by_code kind Gt t a b = (b, a, None)
asked_by_code kind Ge t a b = (b, a, None)
asked_by_code kind Cond t a b = (Some kind.truth, Some t, Some t)
asked_by_code kind _ t a b = (Some t, Some t, Some t)
