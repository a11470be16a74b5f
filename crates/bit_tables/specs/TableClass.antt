-- The terms whose equality is decided by single bit positions: sums of bitwise terms.
use Rattle.std.specs.Prelude.{ℕ, ◌≡◌, ◌≤◌, ◌==◌, ◌⊎◌, ◌++◌, Bool, true, false, ◌&&◌, IsTrue, ⊤}
use Rattle.std.specs.Set.{distinct_count}
use Rattle.pm_ops.specs.declared.code.Code.{Code}
use Rattle.pm_ops.specs.declared.code.Code.TheVariants.{Convert, Plus, Minus, Mult, Negate, BitAnd, BitIor, BitXor, BitNot}
use Rattle.pm_wide.specs.Types.{Ty, same_type}
use Rattle.pm_term.specs.Trees.{Tree, name, constant, node, Trees, nil, cons, type_of, names_in}

abbrev pub is_conversion : Code → Bool
is_conversion Convert = true
is_conversion _ = false

abbrev mutual
  -- a constant of width p, or conversions of one between types of that width
  pub IsConstant : ℕ → Tree → Type 0
  IsConstant p (name version ty) = ⊥
  IsConstant p (constant word) = word.ty.width ≡ p
  IsConstant p (node code ty args) = IsTrue (is_conversion code) × (ty.width ≡ p) × AreConstant p args

  pub AreConstant : ℕ → Trees → Type 0
  AreConstant p nil = ⊤
  AreConstant p (cons t ts) = IsConstant p t × AreConstant p ts

-- one of these trees is a constant, or conversions of one
abbrev pub HasConstant : ℕ → Trees → Type 0
HasConstant p nil = ⊥
HasConstant p (cons t ts) = IsConstant p t ⊎ HasConstant p ts

-- operations on the bits of words, and conversions, which keep them
abbrev pub keeps_to_bits : Code → Bool
keeps_to_bits BitAnd = true
keeps_to_bits BitIor = true
keeps_to_bits BitXor = true
keeps_to_bits BitNot = true
keeps_to_bits Convert = true
keeps_to_bits _ = false

abbrev mutual
  -- made of names and constants of width p by operations on bits and by conversions to width p
  pub IsBitwise : ℕ → Tree → Type 0
  IsBitwise p (name version ty) = ty.width ≡ p
  IsBitwise p (constant word) = word.ty.width ≡ p
  IsBitwise p (node code ty args) = IsTrue (keeps_to_bits code) × (ty.width ≡ p) × AreBitwise p args

  pub AreBitwise : ℕ → Trees → Type 0
  AreBitwise p nil = ⊤
  AreBitwise p (cons t ts) = IsBitwise p t × AreBitwise p ts

-- what an operation of this code asks: of itself as a bitwise term, of its parts, and of a constant
-- among them
abbrev pub IsBuiltBy : Code → Type 0 → Type 0 → Type 0 → Type 0
IsBuiltBy Plus bitwise built factor = built
IsBuiltBy Minus bitwise built factor = built
IsBuiltBy Negate bitwise built factor = built
IsBuiltBy Convert bitwise built factor = built
IsBuiltBy Mult bitwise built factor = built × factor
IsBuiltBy _ bitwise built factor = bitwise

abbrev mutual
  -- made of bitwise terms of width p by sums, differences, negatives, conversions to width p, and
  -- products with a constant
  pub IsBuilt : ℕ → Tree → Type 0
  IsBuilt p (name version ty) = ty.width ≡ p
  IsBuilt p (constant word) = word.ty.width ≡ p
  IsBuilt p (node code ty args) =
      IsBuiltBy code (IsTrue (keeps_to_bits code) × (ty.width ≡ p) × AreBitwise p args) ((ty.width ≡ p) × AreBuilt p args) (HasConstant p args)

  pub AreBuilt : ℕ → Trees → Type 0
  AreBuilt p nil = ⊤
  AreBuilt p (cons t ts) = IsBuilt p t × AreBuilt p ts

-- the two are one name: one version at one type
abbrev pub same_name : ℕ × Ty → ℕ × Ty → Bool
same_name a b = (a.0 == b.0) && same_type a.1 b.1

-- two terms of one type, each so built, with at most six names together
abbrev pub AreInClass : Tree → Tree → Type 0
AreInClass left right =
    (type_of left ≡ type_of right)
    × IsBuilt (type_of left).width left
    × IsBuilt (type_of left).width right
    × (distinct_count same_name (names_in left ++ names_in right) ≤ 6)
