-- Read this, then work.
use Rattle.std.proofs.lemmas.Result.{err_from_is_err_and}
use Rattle.std.proofs.Common.{[], List, subst}
use Rattle.gim_ast.specs.declared.function.Function.{Function}
use Rattle.match_top.specs.Answer.{RightOrMemory}
use Rattle.match_top.specs.Passes.{Passes}
use Rattle.match_top.specs.declared.needs.Kind.TheVariants.{Functions}
use Rattle.match_top.proofs.GivenLemmas.{named, goes_on, ends_here, works}
use Rattle.match_top.proofs.passes.answer.Goals as goal

pub returns-in_err-functions : goal.returns-in_err-functions
returns-in_err-functions g c =
    let p = err_from_is_err_and c.from_residual.result c.from_residual.ensures.1 in
    rw (p.1, p.2) (ends_here (record { kind = Functions; name = c.args.name.now }) [] (Passes c.args.pass) _ _ _ (named Functions _ _ _ _ _ c.as_str.ensures c.in_err-functions.ensures.staged))

pub returns : goal.returns
returns g c =
    goes_on (record { kind = Functions; name = c.args.name.now }) [] (Passes c.args.pass) _ _ _ c.in_ok-functions.functions _
    (named Functions _ _ _ _ _ c.as_str.ensures c.in_ok-functions.ensures.staged)
    (works (Passes c.args.pass c.in_ok-functions.functions) _ _ (subst (λ (fs : List Function). RightOrMemory (Passes c.args.pass fs) c.through.result) c.as_slice.ensures c.through.ensures))
