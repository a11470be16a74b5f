use Rattle.pm_wide.specs.Types.{unsigned_int_type}
use Rattle.first_tests.proofs.rewriting.function.Goals as goal

pub returns : goal.returns
returns c = record { ty = λ x. unsigned_int_type; names = c.in_ok-names-3.ensures; blocks = c.in_ok-blocks.ensures }
