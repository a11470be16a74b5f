use Rattle.gim_ast.proofs.ReadableLemmas.{support_is_readable}
use Rattle.gim_changes.proofs.laws.readability.support_is_readable.Goals as goal

pub returns : goal.returns
returns c = λ f x y n left valid readable supports. support_is_readable f valid x y n left readable supports
