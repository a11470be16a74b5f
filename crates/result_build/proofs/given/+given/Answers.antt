use Rattle.std.proofs.Common.{sym}
use Rattle.result_build.proofs.Operands.{many_operands}
use Rattle.result_build.proofs.given.+given.Goals as goal

pub draft_of_operands-returns-in-len4-up : goal.draft_of_operands-returns-in-len4-up
draft_of_operands-returns-in-len4-up t c =
    sym (many_operands c.args.caps.now c.args.env.now c.args.operands.now c.args.head c.in-len4-up.len_at_least)
