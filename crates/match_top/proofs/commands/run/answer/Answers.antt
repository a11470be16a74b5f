-- Read this, then work.
use Rattle.std.proofs.lemmas.Result.{err_from_is_err_and}
use Rattle.std.proofs.Common.{[], List, subst}
use Rattle.gim_ast.specs.declared.function.Function.{Function}
use Rattle.match_top.specs.Answer.{IsOrMemory}
use Rattle.match_top.specs.Run.{Runs, ran}
use Rattle.match_top.specs.declared.needs.Kind.TheVariants.{Functions}
use Rattle.match_top.proofs.GivenLemmas.{named, goes_on, ends_here, works}
use Rattle.match_top.proofs.commands.run.answer.Goals as goal

pub returns-in_err-functions : goal.returns-in_err-functions
returns-in_err-functions g c =
    let p = err_from_is_err_and c.from_residual.result c.from_residual.ensures.1 in
    let command = c.args.command.now in
    rw (p.1, p.2) (ends_here (record { kind = Functions; name = command.functions }) [] (Runs command) _ _ _ (named Functions _ _ _ _ _ c.as_str.ensures c.in_err-functions.ensures.staged))

pub returns : goal.returns
returns g c =
    let command = c.args.command.now in
    goes_on (record { kind = Functions; name = command.functions }) [] (Runs command) _ _ _ c.in_ok-functions.functions _
    (named Functions _ _ _ _ _ c.as_str.ensures c.in_ok-functions.ensures.staged)
    (works (Runs command c.in_ok-functions.functions) _ _ (subst (λ (fs : List Function). IsOrMemory (ran command fs) c.run_named.result) c.as_slice.ensures c.run_named.ensures))
