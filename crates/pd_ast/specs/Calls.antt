-- The names of the calls of C text, one line for each.
use Rattle.std.specs.Prelude.{List, [], ◌∷◌, ◌++◌, map, Option, codes, find}
use Rattle.std.specs.Str.{bytes_eq}
use Rattle.pm_ops.specs.Names.{Name}
use Rattle.pm_ops.specs.Predicates.{all_preds, pred_name}
use Rattle.pd_ast.specs.declared.call.Call.{Call}
use Rattle.pd_ast.specs.declared.call.Call.TheVariants.{Holds, TreeType, TypePrecision, ElementPrecision, TypeSign, TypeUnsigned, IntegralType, AnyIntegralType, FloatType, VectorType, PointerType, OverflowSanitized, OverflowTraps, OverflowUndefined, OverflowWraps, HasModePrecision, TypesMatch, NopConversion, SignedTypeFor, UnsignedTypeFor, SingleUse, CstSign, ToWide, Add, Sub, Mul, Neg, BitAnd, BitOr, BitXor, BitNot, Lshift, Lrshift, Arshift, MinValue, MaxValue, Popcount, Clz, Ctz, ExactLog2, EqP, NeP, LtP, LeP, GtP, GeP, LtsP, LtuP, LesP, LeuP, GtsP, GtuP, GesP, GeuP, BuildZero, BuildOne, BuildMinusOne, BuildAllOnes, BuildInt, ToTree}

-- every call
abbrev pub all_calls : List Call
all_calls =
    map Holds all_preds
    ++ TreeType ∷ TypePrecision ∷ ElementPrecision ∷ TypeSign ∷ TypeUnsigned ∷
    IntegralType ∷ AnyIntegralType ∷ FloatType ∷ VectorType ∷ PointerType ∷
    OverflowSanitized ∷ OverflowTraps ∷ OverflowUndefined ∷ OverflowWraps ∷
    HasModePrecision ∷ TypesMatch ∷ NopConversion ∷ SignedTypeFor ∷ UnsignedTypeFor ∷
    SingleUse ∷ CstSign ∷ ToWide ∷ Add ∷ Sub ∷ Mul ∷ Neg ∷ BitAnd ∷ BitOr ∷ BitXor ∷
    BitNot ∷ Lshift ∷ Lrshift ∷ Arshift ∷ MinValue ∷ MaxValue ∷ Popcount ∷ Clz ∷ Ctz ∷
    ExactLog2 ∷ EqP ∷ NeP ∷ LtP ∷ LeP ∷ GtP ∷ GeP ∷ LtsP ∷ LtuP ∷ LesP ∷ LeuP ∷ GtsP ∷
    GtuP ∷ GesP ∷ GeuP ∷ BuildZero ∷ BuildOne ∷ BuildMinusOne ∷ BuildAllOnes ∷
    BuildInt ∷ ToTree ∷ []

-- its name, with `wi::` where it has that
abbrev pub call_name : Call → Name
call_name (Holds pred) = pred_name pred
call_name TreeType = codes "TREE_TYPE"
call_name TypePrecision = codes "TYPE_PRECISION"
call_name ElementPrecision = codes "element_precision"
call_name TypeSign = codes "TYPE_SIGN"
call_name TypeUnsigned = codes "TYPE_UNSIGNED"
call_name IntegralType = codes "INTEGRAL_TYPE_P"
call_name AnyIntegralType = codes "ANY_INTEGRAL_TYPE_P"
call_name FloatType = codes "FLOAT_TYPE_P"
call_name VectorType = codes "VECTOR_TYPE_P"
call_name PointerType = codes "POINTER_TYPE_P"
call_name OverflowSanitized = codes "TYPE_OVERFLOW_SANITIZED"
call_name OverflowTraps = codes "TYPE_OVERFLOW_TRAPS"
call_name OverflowUndefined = codes "TYPE_OVERFLOW_UNDEFINED"
call_name OverflowWraps = codes "TYPE_OVERFLOW_WRAPS"
call_name HasModePrecision = codes "type_has_mode_precision_p"
call_name TypesMatch = codes "types_match"
call_name NopConversion = codes "tree_nop_conversion_p"
call_name SignedTypeFor = codes "signed_type_for"
call_name UnsignedTypeFor = codes "unsigned_type_for"
call_name SingleUse = codes "single_use"
call_name CstSign = codes "tree_int_cst_sgn"
call_name ToWide = codes "wi::to_wide"
call_name Add = codes "wi::add"
call_name Sub = codes "wi::sub"
call_name Mul = codes "wi::mul"
call_name Neg = codes "wi::neg"
call_name BitAnd = codes "wi::bit_and"
call_name BitOr = codes "wi::bit_or"
call_name BitXor = codes "wi::bit_xor"
call_name BitNot = codes "wi::bit_not"
call_name Lshift = codes "wi::lshift"
call_name Lrshift = codes "wi::lrshift"
call_name Arshift = codes "wi::arshift"
call_name MinValue = codes "wi::min_value"
call_name MaxValue = codes "wi::max_value"
call_name Popcount = codes "wi::popcount"
call_name Clz = codes "wi::clz"
call_name Ctz = codes "wi::ctz"
call_name ExactLog2 = codes "wi::exact_log2"
call_name EqP = codes "wi::eq_p"
call_name NeP = codes "wi::ne_p"
call_name LtP = codes "wi::lt_p"
call_name LeP = codes "wi::le_p"
call_name GtP = codes "wi::gt_p"
call_name GeP = codes "wi::ge_p"
call_name LtsP = codes "wi::lts_p"
call_name LtuP = codes "wi::ltu_p"
call_name LesP = codes "wi::les_p"
call_name LeuP = codes "wi::leu_p"
call_name GtsP = codes "wi::gts_p"
call_name GtuP = codes "wi::gtu_p"
call_name GesP = codes "wi::ges_p"
call_name GeuP = codes "wi::geu_p"
call_name BuildZero = codes "build_zero_cst"
call_name BuildOne = codes "build_one_cst"
call_name BuildMinusOne = codes "build_minus_one_cst"
call_name BuildAllOnes = codes "build_all_ones_cst"
call_name BuildInt = codes "build_int_cst"
call_name ToTree = codes "wide_int_to_tree"

-- the call of this name; none where no call has it
unfoldable pub call_named : Name → Option Call
call_named name = find (λ call. bytes_eq (call_name call) name) all_calls
