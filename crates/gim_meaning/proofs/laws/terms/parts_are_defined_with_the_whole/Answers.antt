use Rattle.gim_meaning.proofs.PartsOfTerms.{parts_are_defined}
use Rattle.gim_meaning.proofs.laws.terms.parts_are_defined_with_the_whole.Goals as goal

pub returns : goal.returns
returns c = parts_are_defined
