-- Phis that have one operand: it is put for their names.
use Rattle.std.specs.Prelude.{ℕ, Bool, ◌||◌, if◌then◌else◌, Option, Some, None, List}
use Rattle.std.specs.List.{list_all}
use Rattle.std.specs.Option.{option_map, option_map_or}
use Rattle.pm_wide.specs.declared.operand.Operand.{Operand}
use Rattle.gim_ast.specs.declared.function.Function.{Function}
use Rattle.gim_ast.specs.declared.function.Block.{Block}
use Rattle.gim_ast.specs.declared.function.Phi.{Phi}
use Rattle.gim_ast.specs.Functions.{is_name, same_operand}
use Rattle.gim_changes.specs.Removal.{without}
use Rattle.gim_changes.specs.Substitution.{put_in_all}
use Rattle.cfg_tidy.specs.Branches.{first_some}

-- the operand of an argument that isn't the name
abbrev pub other_operand : ℕ → ℕ × Operand → Option Operand
other_operand x arg = if is_name x arg.1 then None else Some arg.1

-- each argument is the operand, or the name
abbrev pub all_are : ℕ → Operand → List (ℕ × Operand) → Bool
all_are x a = list_all (λ (arg : ℕ × Operand). is_name x arg.1 || same_operand a arg.1)

-- the one operand that the arguments are, but for those that are the name of the phi; there is at least one
abbrev pub only_operand : Phi → Option Operand
only_operand phi =
    option_map_or (λ a. if all_are phi.name a phi.args then Some a else None) (first_some (other_operand phi.name) phi.args) None

-- the first phi in program order that has such an operand: its name, and the operand
abbrev pub copy_of : Phi → Option (ℕ × Operand)
copy_of phi = option_map (λ a. (phi.name, a)) (only_operand phi)

abbrev pub first_copy : List Block → Option (ℕ × Operand)
first_copy = first_some (λ (block : Block). first_some copy_of block.phis)

-- the operand is put for the name in every use, and what assigned it goes
abbrev pub replaced : ℕ → Operand → Function → Function
replaced x by f = without x (put_in_all x by f)
