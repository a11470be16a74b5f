-- Read this, then that, then work.
use Rattle.std.proofs.lemmas.Result.{err_from_is_err_and}
use Rattle.std.proofs.Common.{◌∷◌, []}
use Rattle.match_top.specs.Needs.{Need}
use Rattle.match_top.specs.Simplify.{Simplifies}
use Rattle.match_top.specs.declared.needs.Kind.TheVariants.{Patterns, FirstForm}
use Rattle.match_top.proofs.GivenLemmas.{named, goes_on, ends_here, works}
use Rattle.match_top.proofs.commands.simplify.answer.Goals as goal

pub returns-in_err-patterns : goal.returns-in_err-patterns
returns-in_err-patterns g c =
    let p = err_from_is_err_and c.from_residual.result c.from_residual.ensures.1 in
    let command = c.args.command.now in
    rw (p.1, p.2) (ends_here (record { kind = Patterns; name = command.patterns }) (record { kind = FirstForm; name = command.functions } ∷ []) Simplifies _ _ _
    (named Patterns _ _ _ _ _ c.as_str.ensures c.in_err-patterns.ensures.staged))

pub returns-in_err-function : goal.returns-in_err-function
returns-in_err-function g c =
    let p = err_from_is_err_and c.from_residual-in_err-function.result c.from_residual-in_err-function.ensures.1 in
    let command = c.args.command.now in
    let second : Need = record { kind = FirstForm; name = command.functions } in
    rw (p.1, p.2) (goes_on (record { kind = Patterns; name = command.patterns }) (second ∷ []) Simplifies _ _ _ c.in_ok-patterns.patterns _
    (named Patterns _ _ _ _ _ c.as_str.ensures c.in_ok-patterns.ensures.staged)
    (ends_here second [] (Simplifies c.in_ok-patterns.patterns) _ _ _ (named FirstForm _ _ _ _ _ c.as_str-2.ensures c.in_err-function.ensures.staged)))

pub returns : goal.returns
returns g c =
    let command = c.args.command.now in
    let second : Need = record { kind = FirstForm; name = command.functions } in
    goes_on (record { kind = Patterns; name = command.patterns }) (second ∷ []) Simplifies _ _ _ c.in_ok-patterns.patterns _
    (named Patterns _ _ _ _ _ c.as_str.ensures c.in_ok-patterns.ensures.staged)
    (goes_on second [] (Simplifies c.in_ok-patterns.patterns) _ _ _ c.in_ok-function.function _ (named FirstForm _ _ _ _ _ c.as_str-2.ensures c.in_ok-function.ensures.staged)
    (works (Simplifies c.in_ok-patterns.patterns c.in_ok-function.function) _ _ c.rewrite.ensures))
