use Rattle.first_rewriting.proofs.Ends.{first_row, only_first_row, no_row}
use Rattle.first_rewriting.proofs.laws.chosen_row_is_the_first.Goals as goal

pub returns-clause-found : goal.returns-clause-found
returns-clause-found c = λ rows view s n operand is. first_row rows s.rhs n operand is

pub returns-clause-only : goal.returns-clause-only
returns-clause-only c = λ rows view s n operand first. only_first_row rows s.rhs n operand first

pub returns-clause-none : goal.returns-clause-none
returns-clause-none c = λ rows view s k row none there. no_row 0 rows s.rhs k row none there
