-- What value numbering is: one merge after the other, until there is none.
use Rattle.std.specs.Prelude.{◌≡◌, ℕ, ◌≤◌, Some, List, [], ◌∷◌, ◌++◌}
use Rattle.std.specs.List.{AllByRecursion}
use Rattle.pm_wide.specs.declared.operand.Operand.TheVariants.{Name}
use Rattle.gim_ast.specs.declared.function.Function.{Function}
use Rattle.gim_ast.specs.Functions.{right_of}
use Rattle.gim_ast.specs.Readable.{IsReadable}
use Rattle.gim_ast.specs.Runs.{name_type}
use Rattle.gim_changes.specs.Removal.{without}
use Rattle.gim_changes.specs.Substitution.{put_in_all}
use Rattle.gim_changes.specs.Trimming.{trimmed}
use Rattle.value_numbers.specs.Spots.{Spot, spots_of}

-- y may be taken for the name of the statement: it is another name, a statement assigns it that has
-- the same type and right side, operand by operand, and it is readable before the statement
pub record MayTake (f : Function) (spot : Spot) (y : ℕ) : Type 0 where
  pub other : y ≡ spot.stmt.name → ⊥
  pub right : right_of f y ≡ Some spot.stmt.rhs
  pub type : name_type f y ≡ name_type f spot.stmt.name
  pub readable : IsReadable f y spot.home spot.left

-- no name may
abbrev pub HasNone : Function → Spot → Type 0
HasNone f spot = (y : ℕ) → MayTake f spot y → ⊥

-- the least version that may
pub record IsLeast (f : Function) (spot : Spot) (y : ℕ) : Type 0 where
  pub may : MayTake f spot y
  pub least : (z : ℕ) → MayTake f spot z → y ≤ z

-- the name x of the first of these statements for which there is a y, and the least such y
pub record IsFirst (f : Function) (spots : List Spot) (x y : ℕ) : Type 0 where
  pub before : List Spot
  pub spot : Spot
  pub after : List Spot
  pub in_order : spots ≡ before ++ spot ∷ after
  pub none_before : AllByRecursion (HasNone f) before
  pub name : spot.stmt.name ≡ x
  pub least : IsLeast f spot y

-- the next merge of a function: x goes, and y stands for it
abbrev pub IsMerge : Function → ℕ → ℕ → Type 0
IsMerge f x y = IsFirst f (spots_of f) x y

-- y is put for x in every use, and the statement of x goes
abbrev pub merged : ℕ → ℕ → Function → Function
merged x y f = trimmed (without x (put_in_all x (Name y (name_type f y)) f))

-- `Numbers f merges g`: these are the merges, one after the other, until there is none, and g is
-- what they leave
pub data Numbers : Function → List (ℕ × ℕ) → Function → Type 0 where
  done : (f : Function) → AllByRecursion (HasNone f) (spots_of f) → Numbers f [] f
  merge : (f g : Function) (x y : ℕ) (merges : List (ℕ × ℕ)) → IsMerge f x y →
      Numbers (merged x y f) merges g → Numbers f ((x, y) ∷ merges) g
