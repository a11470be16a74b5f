-- Two comparisons related by the differences of their operands.
use Rattle.std.specs.Prelude.{ℕ, ◌≡◌, ◌⊎◌, IsTrue, Bool, true, false, not, Option, Some, None, ℤ, pos}
use Rattle.std.specs.Int.RustNames.{int_lt, int_le}
use Rattle.pm_ops.specs.Codes.{is_comparison_code, swapped_code}
use Rattle.pm_ops.specs.declared.code.Code.{Code}
use Rattle.pm_ops.specs.declared.code.Code.TheVariants.{Eq, Ne, Lt, Le, Gt, Ge}
use Rattle.pm_wide.specs.Operations.{int_same, truth}
use Rattle.pm_wide.specs.Types.{Ty, Word, bool_type}
use Rattle.pm_term.specs.Trees.{Tree, constant, node, Trees, nil, cons, type_of, types_of}
use Rattle.ring_forms.specs.Differences.{AreOneExactly, exact_number, AreOneModulo, ring_number}

-- two operands in the other order; their difference is the opposite
abbrev pub turned : Trees → Trees
turned (cons a (cons b nil)) = cons b (cons a nil)
turned _ = nil

abbrev pub is_equality : Code → Bool
is_equality Eq = true
is_equality Ne = true
is_equality _ = false

-- first: the same comparison of operands with the same exact difference, or the swapped one of
-- operands with the opposite one. Types with a sign alone have exact forms.
unfoldable pub HasExactDifference : Code → Trees → Code → Trees → Type 0
HasExactDifference code xs d ys = ((d ≡ code) × AreOneExactly xs ys) ⊎ ((d ≡ swapped_code code) × AreOneExactly (turned xs) ys)

-- second: the same equality of operands, of that type, whose ring difference is the same or the
-- opposite
unfoldable pub HasRingDifference : Code → Ty → Trees → Code → Trees → Type 0
HasRingDifference code ty xs d ys = (d ≡ code) × IsTrue (is_equality code) × (AreOneModulo ty.width xs ys ⊎ AreOneModulo ty.width (turned xs) ys)

-- either of a right side whose operands have the types of these
abbrev pub IsLikeComparison : Code → Ty → Trees → Tree → Type 0
IsLikeComparison code ty xs (node d t ys) = (types_of ys ≡ types_of xs) × (HasExactDifference code xs d ys ⊎ HasRingDifference code ty xs d ys)
IsLikeComparison code ty xs _ = ⊥

-- what a comparison tells of operands with that difference
abbrev pub told : Code → ℤ → Bool
told Eq z = int_same z (pos 0)
told Ne z = not (int_same z (pos 0))
told Lt z = int_lt z (pos 0)
told Le z = int_le z (pos 0)
told Gt z = int_lt (pos 0) z
told Ge z = int_le (pos 0) z
told _ z = false

-- third: a constant that is told by an exact difference that is a number, or of an equality by such
-- a ring difference
abbrev pub IsToldExactly : Code → Trees → Word → Type 0
IsToldExactly code xs word = (z : ℤ) × (exact_number xs ≡ Some z) × (truth (told code z) ≡ Some word)

abbrev pub IsToldModulo : Code → Ty → Trees → Word → Type 0
IsToldModulo code ty xs word = IsTrue (is_equality code) × (n : ℕ) × (ring_number ty.width xs ≡ Some n) × (truth (told code (pos n)) ≡ Some word)

abbrev pub IsToldConstant : Code → Ty → Trees → Tree → Type 0
IsToldConstant code ty xs (constant word) = IsToldExactly code xs word ⊎ IsToldModulo code ty xs word
IsToldConstant code ty xs _ = ⊥

-- the type of the first of two operands
abbrev pub type_of_two : Trees → Option Ty
type_of_two (cons a (cons b nil)) = Some (type_of a)
type_of_two _ = None

-- a comparison of two operands and a right side of type _Bool in one of these cases
abbrev pub IsRelatedAt : Code → Ty → Trees → Tree → Type 0
IsRelatedAt code ty xs right =
    IsTrue (is_comparison_code code) × (type_of right ≡ bool_type) × (IsLikeComparison code ty xs right ⊎ IsToldConstant code ty xs right)

unfoldable pub HasRelatedOperands : Code → Trees → Tree → Type 0
HasRelatedOperands code xs right = (ty : Ty) × (type_of_two xs ≡ Some ty) × IsRelatedAt code ty xs right

abbrev pub AreRelatedByOrder : Tree → Tree → Type 0
AreRelatedByOrder (node code ty xs) right = HasRelatedOperands code xs right
AreRelatedByOrder _ right = ⊥
