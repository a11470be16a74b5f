-- When each operation of a right side is known to have a value wherever the left side has one.
use Rattle.std.specs.Prelude.{◌≡◌, ◌==◌, ◌⊎◌, ⊤, IsTrue, Bool, true, false, not, ◌&&◌, Option, Some, None, List, [], ◌∷◌, ℤ, pos, negsuc}
use Rattle.pm_ops.specs.declared.code.Code.{Code}
use Rattle.pm_ops.specs.declared.code.Code.TheVariants.{Plus, Minus, Mult, TruncDiv, TruncMod, Negate, Abs, Lshift, Rshift}
use Rattle.pm_wide.specs.Operations.{int_same, shifts}
use Rattle.pm_wide.specs.Types.{Ty, Word, value, in_range, same_type, bool_type}
use Rattle.pm_term.specs.Trees.{Tree, name, constant, node, Trees, nil, cons, type_of, types_of}
use Rattle.ring_forms.specs.Differences.{AreOneExactly, exact_number}
use Rattle.ring_forms.specs.RingForms.{AreRingEqual}

-- first: the operation has a value on all words of its operands' types. A shift is so by a _Bool
-- alone, of a type that has more bits than one.
abbrev pub has_truth_count : Ty → List Ty → Bool
has_truth_count ty (a ∷ b ∷ []) = same_type b bool_type && not (ty.width == 1)
has_truth_count ty _ = false

abbrev pub always_has_value : Code → Ty → List Ty → Bool
always_has_value Plus ty types = ty.unsigned
always_has_value Minus ty types = ty.unsigned
always_has_value Mult ty types = ty.unsigned
always_has_value Negate ty types = ty.unsigned
always_has_value Lshift ty types = has_truth_count ty types
always_has_value Rshift ty types = has_truth_count ty types
always_has_value TruncDiv ty types = false
always_has_value TruncMod ty types = false
always_has_value Abs ty types = false
always_has_value _ ty types = true

-- some node of a tree, a leaf or an operation, is such
abbrev mutual
  pub HasNode : (Tree → Type 0) → Tree → Type 0
  HasNode P (name version ty) = P (name version ty)
  HasNode P (constant word) = P (constant word)
  HasNode P (node code ty args) = P (node code ty args) ⊎ HaveNode P args

  pub HaveNode : (Tree → Type 0) → Trees → Type 0
  HaveNode P nil = ⊥
  HaveNode P (cons t ts) = HasNode P t ⊎ HaveNode P ts

abbrev pub AreRingEqualInOrder : Trees → Trees → Type 0
AreRingEqualInOrder nil nil = ⊤
AreRingEqualInOrder (cons t ts) (cons u us) = AreRingEqual t u × AreRingEqualInOrder ts us
AreRingEqualInOrder _ _ = ⊥

-- second: a node of the left side has its code and type, and ring-equal operands in order
abbrev pub IsTwin : Code → Ty → Trees → Tree → Type 0
IsTwin code ty args (node c t xs) = (c ≡ code) × (t ≡ ty) × AreRingEqualInOrder xs args
IsTwin code ty args _ = ⊥

-- third: a node of the left side of its type has its exact form, or that is a number in its range
abbrev pub HasExactForm : Tree → Tree → Type 0
HasExactForm t u = (type_of u ≡ type_of t) × AreOneExactly (cons u nil) (cons t nil)

abbrev pub IsNumberInRange : Tree → Type 0
IsNumberInRange t = (z : ℤ) × (exact_number (cons t nil) ≡ Some z) × IsTrue (in_range (type_of t) z)

unfoldable pub IsKnownExactly : Tree → Tree → Type 0
IsKnownExactly left t = HasNode (HasExactForm t) left ⊎ IsNumberInRange t

-- fourth: a shift by a constant in range, or a division or remainder by a constant other than 0 and
-- -1, which no word of an unsigned type has as its value
abbrev pub constant_of : Tree → Option Word
constant_of (constant word) = Some word
constant_of _ = None

abbrev pub second_constant : Trees → Option Word
second_constant (cons a (cons b nil)) = constant_of b
second_constant _ = None

abbrev pub IsFineConstant : Code → Ty → Word → Type 0
IsFineConstant Lshift ty word = IsTrue (shifts ty (value word))
IsFineConstant Rshift ty word = IsTrue (shifts ty (value word))
IsFineConstant TruncDiv ty word = IsTrue (not (int_same (value word) (pos 0)) && not (int_same (value word) (negsuc 0)))
IsFineConstant TruncMod ty word = IsTrue (not (int_same (value word) (pos 0)) && not (int_same (value word) (negsuc 0)))
IsFineConstant _ ty word = ⊥

abbrev pub HasFineConstant : Code → Ty → Trees → Type 0
HasFineConstant code ty args = (word : Word) × (second_constant args ≡ Some word) × IsFineConstant code ty word

-- an operation is defined by rule by itself, or from the left side
unfoldable pub IsDefinedAlone : Code → Ty → Trees → Type 0
IsDefinedAlone code ty args = IsTrue (always_has_value code ty (types_of args)) ⊎ HasFineConstant code ty args

unfoldable pub IsKnownFrom : Tree → Code → Ty → Trees → Type 0
IsKnownFrom left code ty args = HasNode (IsTwin code ty args) left ⊎ IsKnownExactly left (node code ty args)

abbrev pub IsDefinedByRule : Tree → Code → Ty → Trees → Type 0
IsDefinedByRule left code ty args = IsDefinedAlone code ty args ⊎ IsKnownFrom left code ty args

abbrev mutual
  -- each operation of a right side is defined by rule
  pub IsDefined : Tree → Tree → Type 0
  IsDefined left (name version ty) = ⊤
  IsDefined left (constant word) = ⊤
  IsDefined left (node code ty args) = IsDefinedByRule left code ty args × AreDefined left args

  pub AreDefined : Tree → Trees → Type 0
  AreDefined left nil = ⊤
  AreDefined left (cons t ts) = IsDefined left t × AreDefined left ts
