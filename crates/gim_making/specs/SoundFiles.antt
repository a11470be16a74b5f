-- A file that is read and keeps every rule.
use Rattle.std.specs.Prelude.{◌≡◌, ℕ, None, List}
use Rattle.std.specs.List.{AllByRecursion}
use Rattle.gim_text.specs.declared.tree.FunctionText.{FunctionText}
use Rattle.gim_names.specs.NamesFault.{names_fault}
use Rattle.gim_shape.specs.Shape.{shape_fault}
use Rattle.gim_limits.specs.Limits.{limits_fault}
use Rattle.gim_typing.specs.Types.{types_fault}
use Rattle.gim_making.specs.Written.{IsWritten}

-- Its functions are what tokens can write, and no name, shape, type or limit is at fault.
pub record IsSound (source : List ℕ) (functions : List FunctionText) : Type 0 where
  pub written : AllByRecursion (IsWritten source) functions
  pub names : names_fault source functions ≡ None
  pub shape : shape_fault source functions ≡ None
  pub types : types_fault source functions ≡ None
  pub limits : limits_fault source functions ≡ None
