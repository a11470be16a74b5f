use Rattle.pm_wide.proofs.Values.{converted_congruent, converted_is, size_well_typed, complement_congruent}
use Rattle.pm_wide.proofs.laws.single_operands.Goals as goal

pub returns-clause-converted : goal.returns-clause-converted
returns-clause-converted c = converted_congruent

pub returns-clause-kept : goal.returns-clause-kept
returns-clause-kept c = converted_is

pub returns-clause-size : goal.returns-clause-size
returns-clause-size c = size_well_typed

pub returns-clause-complement : goal.returns-clause-complement
returns-clause-complement c = complement_congruent
