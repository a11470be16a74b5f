use Rattle.match_top.proofs.FunctionLemmas.{ends_at}
use Rattle.match_top.proofs.functions.judge.Goals as goal

pub returns-in-Err-NotReadable-clause-invalid : goal.returns-in-Err-NotReadable-clause-invalid
returns-in-Err-NotReadable-clause-invalid c =
    ends_at _ c.in-Err-NotReadable.field-0 c.in-Err-NotReadable.block c.in-Err-NotReadable.item c.in-Err-NotReadable.name _ c.in-Err-NotReadable.field-0-is c.in-Err-NotReadable.ensures.first c.unreadable.ensures
