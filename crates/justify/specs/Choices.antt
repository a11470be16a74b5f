-- Words of names by numbers, and what holds of two terms there.
use Rattle.std.specs.Prelude.{ℕ, ◌/◌, ◌%◌, ◌^◌, ◌≡◌, Some, List, [], ◌∷◌}
use Rattle.pm_wide.specs.Types.{Ty, Word}
use Rattle.pm_term.specs.Environments.{assigned, HasNames}
use Rattle.pm_term.specs.Terms.{term_value}
use Rattle.pm_term.specs.Trees.{Tree}

-- the words of names that a number chooses: its lowest bits are the word of the first name, and so on
abbrev pub chosen : List (ℕ × Ty) → ℕ → List (ℕ × Word)
chosen [] choice = []
chosen (n ∷ ns) choice = (n.0, record { bits = choice % 2 ^ n.1.width; ty = n.1 }) ∷ chosen ns (choice / 2 ^ n.1.width)

-- where `left` has a value, `right` has it
abbrev pub HoldsAt : Tree → Tree → List (ℕ × Word) → Type 0
HoldsAt left right words = (r : Word) → term_value (assigned words) left ≡ Some r → term_value (assigned words) right ≡ Some r

-- `left` has a value that `right` hasn't
abbrev pub FailsAt : Tree → Tree → List (ℕ × Word) → Type 0
FailsAt left right words = (r : Word) × (term_value (assigned words) left ≡ Some r) × ¬ (term_value (assigned words) right ≡ Some r)

-- all names of both terms are among these
abbrev pub AreNamed : List (ℕ × Ty) → Tree → Tree → Type 0
AreNamed names left right = (choice : ℕ) → HasNames (chosen names choice) left × HasNames (chosen names choice) right
