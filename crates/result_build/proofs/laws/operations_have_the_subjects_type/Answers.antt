use Rattle.result_build.proofs.RawTypes.{result_has}
use Rattle.result_build.proofs.laws.operations_have_the_subjects_type.Goals as goal

pub returns : goal.returns
returns c = λ out caps env raw made. result_has out caps env raw made
