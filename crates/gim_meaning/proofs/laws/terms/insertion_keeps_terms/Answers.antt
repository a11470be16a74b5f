use Rattle.gim_meaning.proofs.AllowedInsertions.{new_stmt}
use Rattle.gim_meaning.proofs.TermsAfterInsertion.{stands_still, right_stands_still, new_stands_for}
use Rattle.gim_meaning.proofs.laws.terms.insertion_keeps_terms.Goals as goal

pub returns-clause-operands : goal.returns-clause-operands
returns-clause-operands c = λ f place before stmt decl a term well allowed. stands_still f well
    place allowed.home allowed.at before stmt decl
    (new_stmt f place before stmt decl allowed) a term

pub returns-clause-right_sides : goal.returns-clause-right_sides
returns-clause-right_sides c = λ f place before stmt decl t rhs term well allowed.
    right_stands_still f well place allowed.home allowed.at before stmt decl
    (new_stmt f place before stmt decl allowed) t rhs term

pub returns-clause-new : goal.returns-clause-new
returns-clause-new c = λ f place before stmt decl t term well allowed. new_stands_for f well place
    allowed.home allowed.at before stmt decl (new_stmt f place before stmt decl allowed) t term
