use Rattle.std.proofs.Common.{refl}
use Rattle.gim_names.proofs.judge.kind_of.Goals as goal

pub returns : goal.returns
returns c = λ all before d r s. rw (
  c.first_kind.ensures,
  c.is_redefined-redefined.ensures before r s,
  c.is_undeclared-undeclared.ensures all d,
  c.is_wide.ensures,
) refl
