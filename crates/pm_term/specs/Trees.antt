-- Terms as plain trees: what every definition over terms goes by, with no pointer, row or list of
-- lists in sight.
use Rattle.std.specs.Prelude.{ℕ, ◌+◌, List, [], ◌∷◌, ◌++◌, ⊤, IsTrue}
use Rattle.pm_ops.specs.declared.code.Code.{Code}
use Rattle.pm_wide.specs.declared.operand.Operand.{Operand}
use Rattle.pm_wide.specs.declared.operand.Operand.TheVariants.{Name, Const}
use Rattle.pm_wide.specs.Types.{Ty, IsType, Word, IsWord}
use Rattle.pm_wide.specs.Typing.{well_typed_operation}

-- a name by its version, with its type; a constant; an operation on trees, with the type of its
-- result
mutual
  pub data Tree : Type 0 where
    name : ℕ → Ty → Tree
    constant : Word → Tree
    node : Code → Ty → Trees → Tree

  pub data Trees : Type 0 where
    nil : Trees
    cons : Tree → Trees → Trees

-- the trees of a list
abbrev pub trees : List Tree → Trees
trees [] = nil
trees (t ∷ ts) = cons t (trees ts)

-- the tree of an operand
abbrev pub leaf : Operand → Tree
leaf (Name version ty) = name version ty
leaf (Const word) = constant word

-- the type of a tree's value
abbrev pub type_of : Tree → Ty
type_of (name version ty) = ty
type_of (constant word) = word.ty
type_of (node code ty args) = ty

abbrev pub types_of : Trees → List Ty
types_of nil = []
types_of (cons t ts) = type_of t ∷ types_of ts

abbrev mutual
  -- each type is one of the eleven, each constant a word of its type, and each operation well typed
  pub IsWellTyped : Tree → Type 0
  IsWellTyped (name version ty) = IsType ty
  IsWellTyped (constant word) = IsType word.ty × IsWord word
  IsWellTyped (node code ty args) = IsType ty × IsTrue (well_typed_operation code ty (types_of args)) × AreWellTyped args

  pub AreWellTyped : Trees → Type 0
  AreWellTyped nil = ⊤
  AreWellTyped (cons t ts) = IsWellTyped t × AreWellTyped ts

abbrev mutual
  -- how many operations a tree has, conversions too; one that stands twice counts twice
  pub operations : Tree → ℕ
  operations (name version ty) = 0
  operations (constant word) = 0
  operations (node code ty args) = 1 + operations_of args

  pub operations_of : Trees → ℕ
  operations_of nil = 0
  operations_of (cons t ts) = operations t + operations_of ts

abbrev mutual
  -- the names of a tree from left to right, each as often as it stands there: a version at two types
  -- is two names
  pub names_in : Tree → List (ℕ × Ty)
  names_in (name version ty) = (version, ty) ∷ []
  names_in (constant word) = []
  names_in (node code ty args) = names_of args

  pub names_of : Trees → List (ℕ × Ty)
  names_of nil = []
  names_of (cons t ts) = names_in t ++ names_of ts
