-- The search for the last unused name, as the code goes through parts of a function. This is the code's concern alone.
use Rattle.std.specs.Prelude.{ℕ, not, Option, List, filter}
use Rattle.gim_ast.specs.declared.function.Function.{Function}
use Rattle.gim_ast.specs.Functions.{is_used}
use Rattle.gim_changes.specs.Removal.{last_or}

-- the last of the names that the function doesn't use, or what is told where it uses them all
abbrev pub last_unused_of : Function → Option ℕ → List ℕ → Option ℕ
last_unused_of f found xs = last_or found (filter (λ x. not (is_used f x)) xs)
