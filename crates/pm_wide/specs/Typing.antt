-- Which types the operands of an operation may have, and which its result then has.
use Rattle.std.specs.Prelude.{◌==◌, Bool, true, false, not, ◌&&◌, List, [], ◌∷◌}
use Rattle.pm_ops.specs.declared.code.Code.{Code}
use Rattle.pm_ops.specs.declared.code.Code.TheVariants.{Convert, Plus, Minus, Mult, TruncDiv, TruncMod, Negate, Abs, Absu, BitAnd, BitIor, BitXor, BitNot, Lshift, Rshift, Min, Max, Eq, Ne, Lt, Le, Gt, Ge, Cond}
use Rattle.pm_wide.specs.Types.{Ty, same_type, bool_type}

-- one operand: any type to any type; T to T; signed T to T; signed to the unsigned type of its
-- width
abbrev pub well_typed_unary : Code → Ty → Ty → Bool
well_typed_unary Convert t a = true
well_typed_unary Negate t a = same_type a t
well_typed_unary BitNot t a = same_type a t
well_typed_unary Abs t a = same_type a t && not a.unsigned
well_typed_unary Absu t a = t.unsigned && not a.unsigned && (a.width == t.width)
well_typed_unary _ t a = false

-- two operands: T, T to T; a shift counts in any type; two of one type are compared, with a _Bool
-- as the result
abbrev pub well_typed_binary : Code → Ty → Ty → Ty → Bool
well_typed_binary Plus t a b = same_type a t && same_type b t
well_typed_binary Minus t a b = same_type a t && same_type b t
well_typed_binary Mult t a b = same_type a t && same_type b t
well_typed_binary TruncDiv t a b = same_type a t && same_type b t
well_typed_binary TruncMod t a b = same_type a t && same_type b t
well_typed_binary BitAnd t a b = same_type a t && same_type b t
well_typed_binary BitIor t a b = same_type a t && same_type b t
well_typed_binary BitXor t a b = same_type a t && same_type b t
well_typed_binary Min t a b = same_type a t && same_type b t
well_typed_binary Max t a b = same_type a t && same_type b t
well_typed_binary Lshift t a b = same_type a t
well_typed_binary Rshift t a b = same_type a t
well_typed_binary Eq t a b = same_type a b && same_type t bool_type
well_typed_binary Ne t a b = same_type a b && same_type t bool_type
well_typed_binary Lt t a b = same_type a b && same_type t bool_type
well_typed_binary Le t a b = same_type a b && same_type t bool_type
well_typed_binary Gt t a b = same_type a b && same_type t bool_type
well_typed_binary Ge t a b = same_type a b && same_type t bool_type
well_typed_binary _ t a b = false

-- three operands: a _Bool chooses between two of one type
abbrev pub well_typed_ternary : Code → Ty → Ty → Ty → Ty → Bool
well_typed_ternary Cond t a b c = same_type a bool_type && same_type b t && same_type c t
well_typed_ternary _ t a b c = false

-- an operation of that code on operands of these types has a result of that type
unfoldable pub well_typed_operation : Code → Ty → List Ty → Bool
well_typed_operation code t (a ∷ []) = well_typed_unary code t a
well_typed_operation code t (a ∷ b ∷ []) = well_typed_binary code t a b
well_typed_operation code t (a ∷ b ∷ c ∷ []) = well_typed_ternary code t a b c
well_typed_operation code t _ = false
