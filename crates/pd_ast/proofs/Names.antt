-- The names of calls and operators are read back.
use Rattle.std.proofs.Common.{◌≡◌, ◌↔◌, Some, refl}
use Rattle.pm_ops.proofs.FindLemmas.{found_has_name, read_exactly}
use Rattle.pm_ops.specs.declared.predicate.Pred.TheVariants as pred
use Rattle.pm_ops.specs.Names.{Name}
use Rattle.pd_ast.specs.declared.call.Call.{Call}
use Rattle.pd_ast.specs.declared.call.Call.TheVariants.{Holds, TreeType, TypePrecision, ElementPrecision, TypeSign, TypeUnsigned, IntegralType, AnyIntegralType, FloatType, VectorType, PointerType, OverflowSanitized, OverflowTraps, OverflowUndefined, OverflowWraps, HasModePrecision, TypesMatch, NopConversion, SignedTypeFor, UnsignedTypeFor, SingleUse, CstSign, ToWide, Add, Sub, Mul, Neg, BitAnd, BitOr, BitXor, BitNot, Lshift, Lrshift, Arshift, MinValue, MaxValue, Popcount, Clz, Ctz, ExactLog2, EqP, NeP, LtP, LeP, GtP, GeP, LtsP, LtuP, LesP, LeuP, GtsP, GtuP, GesP, GeuP, BuildZero, BuildOne, BuildMinusOne, BuildAllOnes, BuildInt, ToTree}
use Rattle.pd_ast.specs.declared.operator.UnaryOperator.{UnaryOperator}
use Rattle.pd_ast.specs.declared.operator.UnaryOperator.TheVariants as unary
use Rattle.pd_ast.specs.declared.operator.BinaryOperator.{BinaryOperator}
use Rattle.pd_ast.specs.declared.operator.BinaryOperator.TheVariants as binary
use Rattle.pd_ast.specs.Calls.{all_calls, call_name, call_named}
use Rattle.pd_ast.specs.Operators.{all_unary, unary_name, unary_named, all_binary, binary_name, binary_named}

-- each call is read from its name, and from no other
call_named-call_name : (call : Call) → call_named (call_name call) ≡ Some call
unfolding call_named
call_named-call_name (Holds pred.Zero) = refl
call_named-call_name (Holds pred.One) = refl
call_named-call_name (Holds pred.AllOnes) = refl
call_named-call_name (Holds pred.MinusOne) = refl
call_named-call_name (Holds pred.Pow2) = refl
call_named-call_name (Holds pred.True) = refl
call_named-call_name (Holds pred.Cst) = refl
call_named-call_name (Holds pred.Ssa) = refl
call_named-call_name TreeType = refl
call_named-call_name TypePrecision = refl
call_named-call_name ElementPrecision = refl
call_named-call_name TypeSign = refl
call_named-call_name TypeUnsigned = refl
call_named-call_name IntegralType = refl
call_named-call_name AnyIntegralType = refl
call_named-call_name FloatType = refl
call_named-call_name VectorType = refl
call_named-call_name PointerType = refl
call_named-call_name OverflowSanitized = refl
call_named-call_name OverflowTraps = refl
call_named-call_name OverflowUndefined = refl
call_named-call_name OverflowWraps = refl
call_named-call_name HasModePrecision = refl
call_named-call_name TypesMatch = refl
call_named-call_name NopConversion = refl
call_named-call_name SignedTypeFor = refl
call_named-call_name UnsignedTypeFor = refl
call_named-call_name SingleUse = refl
call_named-call_name CstSign = refl
call_named-call_name ToWide = refl
call_named-call_name Add = refl
call_named-call_name Sub = refl
call_named-call_name Mul = refl
call_named-call_name Neg = refl
call_named-call_name BitAnd = refl
call_named-call_name BitOr = refl
call_named-call_name BitXor = refl
call_named-call_name BitNot = refl
call_named-call_name Lshift = refl
call_named-call_name Lrshift = refl
call_named-call_name Arshift = refl
call_named-call_name MinValue = refl
call_named-call_name MaxValue = refl
call_named-call_name Popcount = refl
call_named-call_name Clz = refl
call_named-call_name Ctz = refl
call_named-call_name ExactLog2 = refl
call_named-call_name EqP = refl
call_named-call_name NeP = refl
call_named-call_name LtP = refl
call_named-call_name LeP = refl
call_named-call_name GtP = refl
call_named-call_name GeP = refl
call_named-call_name LtsP = refl
call_named-call_name LtuP = refl
call_named-call_name LesP = refl
call_named-call_name LeuP = refl
call_named-call_name GtsP = refl
call_named-call_name GtuP = refl
call_named-call_name GesP = refl
call_named-call_name GeuP = refl
call_named-call_name BuildZero = refl
call_named-call_name BuildOne = refl
call_named-call_name BuildMinusOne = refl
call_named-call_name BuildAllOnes = refl
call_named-call_name BuildInt = refl
call_named-call_name ToTree = refl

name_of_call_named : (name : Name) (call : Call) → call_named name ≡ Some call → name ≡ call_name call
unfolding call_named
name_of_call_named name call found = found_has_name call_name all_calls name call found

pub call_read_exactly : (name : Name) (call : Call) → (call_named name ≡ Some call) ↔ (name ≡ call_name call)
call_read_exactly = read_exactly call_named call_name call_named-call_name name_of_call_named

-- the same of operators before one operand
unary_named-unary_name : (one : UnaryOperator) → unary_named (unary_name one) ≡ Some one
unfolding unary_named
unary_named-unary_name unary.Not = refl
unary_named-unary_name unary.Complement = refl
unary_named-unary_name unary.Negate = refl

name_of_unary_named : (name : Name) (one : UnaryOperator) → unary_named name ≡ Some one → name ≡ unary_name one
unfolding unary_named
name_of_unary_named name one found = found_has_name unary_name all_unary name one found

pub unary_read_exactly : (name : Name) (one : UnaryOperator) → (unary_named name ≡ Some one) ↔ (name ≡ unary_name one)
unary_read_exactly = read_exactly unary_named unary_name unary_named-unary_name name_of_unary_named

-- the same of operators between two
binary_named-binary_name : (one : BinaryOperator) → binary_named (binary_name one) ≡ Some one
unfolding binary_named
binary_named-binary_name binary.Or = refl
binary_named-binary_name binary.And = refl
binary_named-binary_name binary.BitOr = refl
binary_named-binary_name binary.BitXor = refl
binary_named-binary_name binary.BitAnd = refl
binary_named-binary_name binary.Eq = refl
binary_named-binary_name binary.Ne = refl
binary_named-binary_name binary.Lt = refl
binary_named-binary_name binary.Le = refl
binary_named-binary_name binary.Gt = refl
binary_named-binary_name binary.Ge = refl
binary_named-binary_name binary.Plus = refl
binary_named-binary_name binary.Minus = refl
binary_named-binary_name binary.Times = refl

name_of_binary_named : (name : Name) (one : BinaryOperator) → binary_named name ≡ Some one → name ≡ binary_name one
unfolding binary_named
name_of_binary_named name one found = found_has_name binary_name all_binary name one found

pub binary_read_exactly : (name : Name) (one : BinaryOperator) → (binary_named name ≡ Some one) ↔ (name ≡ binary_name one)
binary_read_exactly = read_exactly binary_named binary_name binary_named-binary_name name_of_binary_named
