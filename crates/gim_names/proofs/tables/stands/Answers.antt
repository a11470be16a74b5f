use Rattle.std.proofs.Common.{◌∙◌}
use Rattle.gim_names.proofs.tables.stands.Goals as goal

pub returns-in-Some : goal.returns-in-Some
returns-in-Some c = λ texts h. rw c.in-Some.is (c.contains.ensures ∙ h c.in-Some.text.now)
