-- The ring form of a term modulo 2 ^ m: a map from products of atoms to coefficients.
use Rattle.std.specs.Prelude.{ℕ, zero, suc, ◌≡◌, ◌^◌, ◌+◌, ◌==◌, nat_lt, nat_le, bytes_eq, Bool, true, false, not, ◌&&◌, if◌then◌else◌, Option, Some, None, List, [], ◌∷◌, ◌++◌, length, map, pos, negsuc, is_some, unwrap_or, IsTrue}
use Rattle.std.specs.List.{list_all, filter}
use Rattle.std.specs.Set.{distinct_count}
use Rattle.pm_ops.specs.declared.code.Code.{Code}
use Rattle.pm_ops.specs.declared.code.Code.TheVariants.{Convert, Plus, Minus, Mult, Negate, BitNot, Lshift}
use Rattle.pm_ops.specs.Names.{code_name}
use Rattle.pm_wide.specs.Residues.{residue}
use Rattle.pm_wide.specs.Types.{Ty, same_type}
use Rattle.pm_term.specs.Trees.{Tree, name, constant, node, Trees, nil, cons, type_of, operations}
use Rattle.ring_forms.specs.Sums.{Sum, same_product, coefficient, negated, scaled, product}

-- a constant whose word is below a width: such a word is its own value
abbrev pub small_constant : ℕ → Tree → Option ℕ
small_constant width (constant word) = if nat_lt word.bits width then Some word.bits else None
small_constant width _ = None

-- the places of a shift by a constant in range
abbrev pub constant_places : Ty → Trees → Option ℕ
constant_places ty (cons a (cons b nil)) = small_constant ty.width b
constant_places ty _ = None

-- a conversion whose operand has at least m bits
abbrev pub has_bits : ℕ → Trees → Bool
has_bits m (cons a nil) = nat_le m (type_of a).width
has_bits m _ = false

-- whether the form of an operation is made of the forms of its operands
abbrev pub goes_by_parts : ℕ → Code → Ty → Trees → Bool
goes_by_parts m Plus ty args = true
goes_by_parts m Minus ty args = true
goes_by_parts m Mult ty args = true
goes_by_parts m Negate ty args = true
goes_by_parts m BitNot ty args = true
goes_by_parts m Convert ty args = has_bits m args
goes_by_parts m Lshift ty args = is_some (constant_places ty args)
goes_by_parts m _ ty args = false

-- an operation on sums: `~x` is `-1 - x`, and a shift by a constant a product
abbrev pub unary_sum : Code → Sum Tree → Sum Tree
unary_sum Negate f = negated f
unary_sum BitNot f = (negsuc 0, []) ∷ negated f
unary_sum _ f = f

abbrev pub binary_sum : Code → ℕ → Sum Tree → Sum Tree → Sum Tree
binary_sum Minus places f g = f ++ negated g
binary_sum Mult places f g = product f g
binary_sum Lshift places f g = scaled (pos (2 ^ places)) f
binary_sum _ places f g = f ++ g

abbrev pub combined_sum : Code → ℕ → List (Sum Tree) → Sum Tree
combined_sum code places (f ∷ []) = unary_sum code f
combined_sum code places (f ∷ g ∷ []) = binary_sum code places f g
combined_sum code places _ = []

abbrev pub atom : Tree → Sum Tree
atom t = (pos 1, t ∷ []) ∷ []

abbrev mutual
  -- a term multiplied out: names, and operations that don't go by parts, are atoms; a constant goes
  -- by its word, which is its value modulo 2 ^ m
  pub expanded : ℕ → Tree → Sum Tree
  expanded m (name version ty) = atom (name version ty)
  expanded m (constant word) = (pos word.bits, []) ∷ []
  expanded m (node code ty args) =
      if goes_by_parts m code ty args then combined_sum code (unwrap_or (constant_places ty args) 0) (all_expanded m args) else atom (node code ty args)

  pub all_expanded : ℕ → Trees → List (Sum Tree)
  all_expanded m nil = []
  all_expanded m (cons t ts) = expanded m t ∷ all_expanded m ts

-- ---- forms, where a test tells which atoms are the same

-- the coefficient of a product of atoms modulo 2 ^ m
abbrev pub form_coefficient : (Tree → Tree → Bool) → ℕ → List Tree → Sum Tree → ℕ
form_coefficient same m p f = residue m (coefficient same p f)

-- the products of a sum
abbrev pub products : Sum Tree → List (List Tree)
products f = map (λ e. e.1) f

-- two sums are one form: each product has one coefficient in both
abbrev pub same_form : (Tree → Tree → Bool) → ℕ → Sum Tree → Sum Tree → Bool
same_form same m f g = list_all (λ p. form_coefficient same m p f == form_coefficient same m p g) (products f ++ products g)

-- the products whose coefficient isn't 0
abbrev pub monomials : (Tree → Tree → Bool) → ℕ → Sum Tree → List (List Tree)
monomials same m f = filter (λ p. not (form_coefficient same m p f == 0)) (products f)

-- at most 64 of them, each of at most eight factors
abbrev pub is_within : (Tree → Tree → Bool) → ℕ → Sum Tree → Bool
is_within same m f = nat_le (distinct_count (same_product same) (monomials same m f)) 64 && list_all (λ p. nat_le (length p) 8) (monomials same m f)

abbrev mutual
  -- a term has a form where each of its parts is within the limits, and each operand of an atom has
  -- a form at its full width
  pub has_form : (Tree → Tree → Bool) → ℕ → Tree → Bool
  has_form same m (name version ty) = true
  has_form same m (constant word) = true
  has_form same m (node code ty args) =
      is_within same m (expanded m (node code ty args)) && (if goes_by_parts m code ty args then have_forms same m args else have_full_forms same args)

  pub have_forms : (Tree → Tree → Bool) → ℕ → Trees → Bool
  have_forms same m nil = true
  have_forms same m (cons t ts) = has_form same m t && have_forms same m ts

  pub have_full_forms : (Tree → Tree → Bool) → Trees → Bool
  have_full_forms same nil = true
  have_full_forms same (cons t ts) = has_form same (type_of t).width t && have_full_forms same ts

-- ---- which atoms are the same

-- operands of one type and one form at full width, in order
abbrev pub same_operands : (Tree → Tree → Bool) → Trees → Trees → Bool
same_operands same nil nil = true
same_operands same (cons t ts) (cons u us) =
    same_type (type_of t) (type_of u) && same_form same (type_of t).width (expanded (type_of t).width t) (expanded (type_of u).width u) && same_operands same ts us
same_operands same _ _ = false

-- the same name, or one code and type with the same operands
abbrev pub same_by : (Tree → Tree → Bool) → Tree → Tree → Bool
same_by same (name v s) (name w t) = (v == w) && same_type s t
same_by same (node c s xs) (node d t ys) = bytes_eq (code_name c) (code_name d) && same_type s t && same_operands same xs ys
same_by same _ _ = false

-- the same atom, where atoms stand in one another at most that deep
abbrev pub same_atom : ℕ → Tree → Tree → Bool
same_atom zero a b = false
same_atom (suc depth) a b = same_by (same_atom depth) a b

-- ---- two terms

-- atoms stand in one another less deep than there are operations
abbrev pub same_within : Tree → Tree → Tree → Tree → Bool
same_within left right = same_atom (suc (operations left + operations right))

-- one type, both have a form at full width, and the two forms are one
abbrev pub AreRingEqual : Tree → Tree → Type 0
AreRingEqual left right =
    (type_of left ≡ type_of right)
    × IsTrue (has_form (same_within left right) (type_of left).width left)
    × IsTrue (has_form (same_within left right) (type_of right).width right)
    × IsTrue (same_form (same_within left right) (type_of left).width (expanded (type_of left).width left) (expanded (type_of right).width right))
