use Rattle.std.proofs.Common.{sym}
use Rattle.result_build.proofs.Folding.{no_value}
use Rattle.result_build.proofs.canon.value.Goals as goal

pub returns-in-len4-up : goal.returns-in-len4-up
returns-in-len4-up c = sym (no_value c.args.code c.args.ty c.args.args.now c.in-len4-up.len_at_least)
