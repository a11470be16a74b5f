-- What operators and calls take, and what they give: the static types.
use Rattle.std.specs.Prelude.{Bool, true, false, ◌&&◌, List, [], ◌∷◌, Option, Some, None, if◌then◌else◌}
use Rattle.pd_ast.specs.declared.c_text.CType.{CType}
use Rattle.pd_ast.specs.declared.c_text.CType.TheVariants.{Truth, Int, TypeRef, Oper, WideRef, Sign, CodeRef}
use Rattle.pd_ast.specs.declared.call.Call.{Call}
use Rattle.pd_ast.specs.declared.call.Call.TheVariants as calls
use Rattle.pd_ast.specs.declared.operator.UnaryOperator.{UnaryOperator}
use Rattle.pd_ast.specs.declared.operator.UnaryOperator.TheVariants as unaries
use Rattle.pd_ast.specs.declared.operator.BinaryOperator.{BinaryOperator}
use Rattle.pd_ast.specs.declared.operator.BinaryOperator.TheVariants as binaries
use Rattle.cond_subset.specs.declared.signatures.Arguments.{Arguments}
use Rattle.cond_subset.specs.declared.signatures.Arguments.TheVariants as takes

-- `!` takes a truth value, `~` a word, `-` a whole number or a word
abbrev pub unary_type : UnaryOperator → CType → Option CType
unary_type unaries.Not Truth = Some Truth
unary_type unaries.Complement WideRef = Some WideRef
unary_type unaries.Negate Int = Some Int
unary_type unaries.Negate WideRef = Some WideRef
unary_type op a = None

-- sums, differences and products: two whole numbers, two words, or one of each
abbrev pub sum_type : CType → CType → Option CType
sum_type Int Int = Some Int
sum_type WideRef WideRef = Some WideRef
sum_type WideRef Int = Some WideRef
sum_type Int WideRef = Some WideRef
sum_type a b = None

-- two of one type but operands, or a word and a whole number
abbrev pub are_comparable : CType → CType → Bool
are_comparable Truth Truth = true
are_comparable Int Int = true
are_comparable TypeRef TypeRef = true
are_comparable WideRef WideRef = true
are_comparable Sign Sign = true
are_comparable CodeRef CodeRef = true
are_comparable WideRef Int = true
are_comparable Int WideRef = true
are_comparable a b = false

-- what is given where both are of this type
abbrev pub same_type : CType → CType → Bool
same_type Truth Truth = true
same_type Int Int = true
same_type TypeRef TypeRef = true
same_type Oper Oper = true
same_type WideRef WideRef = true
same_type Sign Sign = true
same_type CodeRef CodeRef = true
same_type a b = false

abbrev pub both : CType → CType → CType → CType → Option CType
both wanted a b gives = if same_type a wanted && same_type b wanted then Some gives else None

abbrev pub binary_type : BinaryOperator → CType → CType → Option CType
binary_type binaries.Or a b = both Truth a b Truth
binary_type binaries.And a b = both Truth a b Truth
binary_type binaries.BitOr a b = both WideRef a b WideRef
binary_type binaries.BitXor a b = both WideRef a b WideRef
binary_type binaries.BitAnd a b = both WideRef a b WideRef
binary_type binaries.Eq a b = if are_comparable a b then Some Truth else None
binary_type binaries.Ne a b = if are_comparable a b then Some Truth else None
binary_type binaries.Lt a b = both Int a b Truth
binary_type binaries.Le a b = both Int a b Truth
binary_type binaries.Gt a b = both Int a b Truth
binary_type binaries.Ge a b = both Int a b Truth
binary_type binaries.Plus a b = sum_type a b
binary_type binaries.Minus a b = sum_type a b
binary_type binaries.Times a b = sum_type a b

-- the arguments that a call takes, and the type of what it gives
abbrev pub signature : Call → Arguments × CType
signature (calls.Holds pred) = (takes.Operand, Truth)
signature calls.TreeType = (takes.Operand, TypeRef)
signature calls.TypePrecision = (takes.Type, Int)
signature calls.ElementPrecision = (takes.Typed, Int)
signature calls.TypeSign = (takes.Type, Sign)
signature calls.TypeUnsigned = (takes.Type, Truth)
signature calls.IntegralType = (takes.Type, Truth)
signature calls.AnyIntegralType = (takes.Type, Truth)
signature calls.FloatType = (takes.Type, Truth)
signature calls.VectorType = (takes.Type, Truth)
signature calls.PointerType = (takes.Type, Truth)
signature calls.OverflowSanitized = (takes.Type, Truth)
signature calls.OverflowTraps = (takes.Type, Truth)
signature calls.OverflowUndefined = (takes.Type, Truth)
signature calls.OverflowWraps = (takes.Type, Truth)
signature calls.HasModePrecision = (takes.Type, Truth)
signature calls.TypesMatch = (takes.TwoTyped, Truth)
signature calls.NopConversion = (takes.TwoTypes, Truth)
signature calls.SignedTypeFor = (takes.Type, TypeRef)
signature calls.UnsignedTypeFor = (takes.Type, TypeRef)
signature calls.SingleUse = (takes.Operand, Truth)
signature calls.CstSign = (takes.Operand, Int)
signature calls.ToWide = (takes.Operand, WideRef)
signature calls.Add = (takes.TwoWords, WideRef)
signature calls.Sub = (takes.TwoWords, WideRef)
signature calls.Mul = (takes.TwoWords, WideRef)
signature calls.Neg = (takes.Word, WideRef)
signature calls.BitAnd = (takes.TwoWords, WideRef)
signature calls.BitOr = (takes.TwoWords, WideRef)
signature calls.BitXor = (takes.TwoWords, WideRef)
signature calls.BitNot = (takes.Word, WideRef)
signature calls.Lshift = (takes.WordAndCount, WideRef)
signature calls.Lrshift = (takes.WordAndCount, WideRef)
signature calls.Arshift = (takes.WordAndCount, WideRef)
signature calls.MinValue = (takes.Type, WideRef)
signature calls.MaxValue = (takes.Type, WideRef)
signature calls.Popcount = (takes.Word, Int)
signature calls.Clz = (takes.Word, Int)
signature calls.Ctz = (takes.Word, Int)
signature calls.ExactLog2 = (takes.Word, Int)
signature calls.EqP = (takes.TwoWords, Truth)
signature calls.NeP = (takes.TwoWords, Truth)
signature calls.LtP = (takes.TwoWordsAndSign, Truth)
signature calls.LeP = (takes.TwoWordsAndSign, Truth)
signature calls.GtP = (takes.TwoWordsAndSign, Truth)
signature calls.GeP = (takes.TwoWordsAndSign, Truth)
signature calls.LtsP = (takes.TwoWords, Truth)
signature calls.LtuP = (takes.TwoWords, Truth)
signature calls.LesP = (takes.TwoWords, Truth)
signature calls.LeuP = (takes.TwoWords, Truth)
signature calls.GtsP = (takes.TwoWords, Truth)
signature calls.GtuP = (takes.TwoWords, Truth)
signature calls.GesP = (takes.TwoWords, Truth)
signature calls.GeuP = (takes.TwoWords, Truth)
signature calls.BuildZero = (takes.Type, Oper)
signature calls.BuildOne = (takes.Type, Oper)
signature calls.BuildMinusOne = (takes.Type, Oper)
signature calls.BuildAllOnes = (takes.Type, Oper)
signature calls.BuildInt = (takes.TypeAndNumber, Oper)
signature calls.ToTree = (takes.TypeAndWord, Oper)

-- a type, or an operand, which has one
abbrev pub has_type : CType → Bool
has_type TypeRef = true
has_type Oper = true
has_type t = false

-- two words, or a word and a whole number
abbrev pub are_words : CType → CType → Bool
are_words WideRef WideRef = true
are_words WideRef Int = true
are_words Int WideRef = true
are_words a b = false

-- the arguments are such
abbrev pub fit : Arguments → List CType → Bool
fit takes.Operand (Oper ∷ []) = true
fit takes.Type (TypeRef ∷ []) = true
fit takes.Typed (a ∷ []) = has_type a
fit takes.TwoTypes (TypeRef ∷ TypeRef ∷ []) = true
fit takes.TwoTyped (a ∷ b ∷ []) = has_type a && has_type b
fit takes.Word (WideRef ∷ []) = true
fit takes.TwoWords (a ∷ b ∷ []) = are_words a b
fit takes.TwoWordsAndSign (a ∷ b ∷ Sign ∷ []) = are_words a b
fit takes.WordAndCount (WideRef ∷ Int ∷ []) = true
fit takes.TypeAndNumber (TypeRef ∷ Int ∷ []) = true
fit takes.TypeAndWord (TypeRef ∷ WideRef ∷ []) = true
fit arguments types = false

-- what a call gives of arguments of these types
abbrev pub call_type : Call → List CType → Option CType
call_type c types = if fit (signature c).0 types then Some (signature c).1 else None
