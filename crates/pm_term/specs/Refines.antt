-- What it is for one term to refine another: to have its value wherever that has one, and to add no
-- undefined operation.
use Rattle.std.specs.Prelude.{ℕ, ◌≡◌, Some, IsSome, ⊤}
use Rattle.pm_wide.specs.Types.{Ty, Word}
use Rattle.pm_term.specs.Environments.{GivesWords}
use Rattle.pm_term.specs.Terms.{term_value}
use Rattle.pm_term.specs.Trees.{Tree, name, constant, node, Trees, nil, cons, type_of}

abbrev mutual
  -- each node of a tree has a value, also in the part of a `cond` that isn't chosen
  pub HasValues : (ℕ → Ty → Word) → Tree → Type 0
  HasValues words (name version ty) = ⊤
  HasValues words (constant word) = ⊤
  HasValues words (node code ty args) = IsSome (term_value words (node code ty args)) × HaveValues words args

  pub HaveValues : (ℕ → Ty → Word) → Trees → Type 0
  HaveValues words nil = ⊤
  HaveValues words (cons t ts) = HasValues words t × HaveValues words ts

-- under all words of the names' own types under which `left` has a value: each node of `right` has
-- one, and the whole has the value and the type of `left`
abbrev pub Refines : Tree → Tree → Type 0
Refines left right =
    (words : ℕ → Ty → Word) (r : Word) → GivesWords words → term_value words left ≡ Some r
    → HasValues words right × (term_value words right ≡ Some r) × (type_of right ≡ type_of left)
