use Rattle.pd_lexer.proofs.Cutting.{parts_stand}
use Rattle.pd_lexer.proofs.laws.parts_stand.Goals as goal

pub returns : goal.returns
returns c = parts_stand
