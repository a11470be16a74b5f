-- The value of a term.
use Rattle.std.specs.Prelude.{ℕ, Option, Some, None, List, [], ◌∷◌}
use Rattle.pm_ops.specs.declared.code.Code.{Code}
use Rattle.pm_wide.specs.Types.{Ty, Word}
use Rattle.pm_wide.specs.Operations.{operation_value}
use Rattle.pm_term.specs.Trees.{Tree, name, constant, node, Trees, nil, cons}

-- the value of an operation whose operands all have values
abbrev pub operation_on : Code → Ty → Option (List Word) → Option Word
operation_on code ty None = None
operation_on code ty (Some words) = operation_value code ty words

-- two values in a row, if both are there
abbrev pub with_value : Option Word → Option (List Word) → Option (List Word)
with_value None rest = None
with_value (Some word) None = None
with_value (Some word) (Some words) = Some (word ∷ words)

abbrev mutual
  -- the value of a tree where each name has the word that `words` gives its version and type: none
  -- where any node has none, also in the part of a `cond` that isn't chosen
  pub term_value : (ℕ → Ty → Word) → Tree → Option Word
  term_value words (name version ty) = Some (words version ty)
  term_value words (constant word) = Some word
  term_value words (node code ty args) = operation_on code ty (term_values words args)

  -- the values of trees, if each has one
  pub term_values : (ℕ → Ty → Word) → Trees → Option (List Word)
  term_values words nil = Some []
  term_values words (cons t ts) = with_value (term_value words t) (term_values words ts)
