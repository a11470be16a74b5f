-- What holds of functions without a fault of limits.
use Rattle.std.specs.Prelude.{◌≤◌, ℕ, IsTrue, IsSome, Option, Some, None, List, length}
use Rattle.std.specs.List.{AllByRecursion}
use Rattle.lexing.specs.Numbers.{is_number_text, number_below}
use Rattle.gim_text.specs.declared.limits.TheConstants.{BLOCK_LIMIT, NAME_LIMIT, NUMBER_LIMIT}
use Rattle.gim_text.specs.declared.tree.FunctionText.{FunctionText}
use Rattle.gim_text.specs.Occurrences.{occurrences_of}
use Rattle.gim_limits.specs.Limits.{digits_at, versions_of, different}

-- digits without a leading zero write a number below the limit
abbrev pub NumberFits : Option (List ℕ) → Type 0
NumberFits None = Unit {0}
NumberFits (Some digits) = IsTrue (is_number_text digits) → IsSome (number_below NUMBER_LIMIT digits)

pub record KeepsLimits (source : List ℕ) (function : FunctionText) : Type 0 where
  pub blocks : length function.blocks ≤ BLOCK_LIMIT
  pub names : different (versions_of source (occurrences_of function)) ≤ NAME_LIMIT
  pub numbers : AllByRecursion (λ occurrence. NumberFits (digits_at source occurrence)) (occurrences_of function)
