-- What the words of names tell: their types, and the values that operations give on them.
use Rattle.std.specs.Prelude.{◌≡◌, ℕ, Some, List}
use Rattle.pm_wide.specs.Types.{IsWord}
use Rattle.gim_ast.specs.declared.function.Function.{Function}
use Rattle.gim_ast.specs.declared.function.Rhs.{Rhs}
use Rattle.gim_ast.specs.Functions.{right_of}
use Rattle.gim_ast.specs.Readable.{IsReadable}
use Rattle.gim_ast.specs.Runs.{Env, rhs_value, name_type}

-- each name has a word of its type
abbrev pub AreTyped : Function → Env → Type 0
AreTyped f env = (x : ℕ) → ((env x).ty ≡ name_type f x) × IsWord (env x)

-- the name has the value that its operation gives on the present words of its operands. A default
-- definition and the name of a phi have no operation
abbrev pub HasItsValue : Function → Env → ℕ → Type 0
HasItsValue f env x = (rhs : Rhs) → right_of f x ≡ Some rhs →
    rhs_value (name_type f x) env rhs ≡ Some (env x)

-- the words that names may have where `left` is still to be assigned in block n, as far as types
-- and operations tell: they are of their names' types, and each name that is readable there has its
-- value
pub record ArePossible (f : Function) (n : ℕ) (left : List ℕ) (env : Env) : Type 0 where
  pub typed : AreTyped f env
  pub values : (x : ℕ) → IsReadable f x n left → HasItsValue f env x
