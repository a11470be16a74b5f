-- What a function comes to by at most so many steps, by cases: no subject has a choice; one has, and no step is left; or
-- the first one's step is made, and then more. It is the rewriting, without its recursion.
use Rattle.std.specs.Prelude.{◌≡◌, ℕ, suc, Bool, true, false, Option, Some, None, List, [], ◌∷◌}
use Rattle.pm_wide.specs.declared.operand.Operand.{Operand}
use Rattle.gim_ast.specs.declared.function.Function.{Function}
use Rattle.first_patterns.specs.Subjects.{Subject, View}
use Rattle.first_rewriting.specs.Rewriting.{Choice, Firing, first_choice, stepped, firing_of}

pub data Reaches (row_at : View → Subject → Option (ℕ × Operand)) : ℕ → Function → Function → List Firing → Bool → Type 0 where
  Done : (left : ℕ) (f : Function) → first_choice row_at f ≡ None → Reaches row_at left f f [] false
  Spent : (f : Function) (found : Subject × Choice) → first_choice row_at f ≡ Some found → Reaches row_at 0 f f [] true
  Step : (left : ℕ) (f : Function) (found : Subject × Choice) (end : Function) (firings : List Firing)
      (exhausted : Bool) → first_choice row_at f ≡ Some found
      → Reaches row_at left (stepped row_at f found) end firings exhausted
      → Reaches row_at (suc left) f end (firing_of row_at f found ∷ firings) exhausted
