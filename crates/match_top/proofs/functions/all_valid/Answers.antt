use Rattle.std.proofs.lemmas.Result.{err_from_is_err_and}
use Rattle.match_top.proofs.FunctionLemmas.{well_formed_first, next_valid, ends_at_first}
use Rattle.match_top.proofs.functions.all_valid.Goals as goal

pub judge-requires : goal.judge-requires
judge-requires c = well_formed_first c.args.functions.now c.loop-rest.rest.now c.function-item.result c.in-len1-up.len_at_least c.function-item.is c.loop-rest.invariant

pub returns-in_err-judge-clause-invalid : goal.returns-in_err-judge-clause-invalid
returns-in_err-judge-clause-invalid c =
    let p = err_from_is_err_and c.from_residual.result c.from_residual.ensures.1 in
    rw (p.1, p.2) (ends_at_first c.args.functions.now c.loop-rest.rest.now c.function-item.result _ c.in-len1-up.len_at_least c.function-item.is c.loop-rest.invariant c.in_err-judge.ensures.invalid)

pub loop-rest-preserved : goal.loop-rest-preserved
loop-rest-preserved c = next_valid c.args.functions.now c.loop-rest.rest.now c.function-item.result c.in-len1-up.len_at_least c.function-item.is c.loop-rest.invariant c.in_ok-judge.ensures.valid
