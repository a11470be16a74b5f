use Rattle.result_build.proofs.TermTypes.{term_type}
use Rattle.result_build.proofs.laws.terms_have_their_types.Goals as goal

pub returns : goal.returns
returns c = λ wanted draft term made. term_type wanted draft term made
