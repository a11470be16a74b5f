-- What the search leaves of the contract of `read_further_parameters`.
use Rattle.std.proofs.Common.{◌≡◌, [], ◌∷◌, ◌++◌, Ok, ap, sym, ◌∙◌, arith}
use Rattle.grammar.specs.Reading.{and_item, more_at}
use Rattle.grammar.proofs.ItemLoops.{goes_on}
use Rattle.pd_files.specs.FormReaders.{is_parameter, parameter_at}
use Rattle.pd_files.proofs.list.read_further_parameters.Goals as goal

pub loop-rest-preserved : goal.loop-rest-preserved
loop-rest-preserved c =
    let before = c.loop-rest.parameters in
    let rest = c.loop-rest.rest.now in
    let after = c.in_ok-parameter.after.now in
    let pushed : c.push.new.self ≡ before ++ c.in_ok-parameter.parameter ∷ [] = c.in_ok-push.ensures.ok in
    let one : and_item before (parameter_at rest) ≡ Ok (c.push.new.self, after) =
    ap (and_item before) c.in_ok-parameter.ensures.reads ∙ ap (λ l. Ok (l, after)) (sym pushed) in (
      goes_on is_parameter parameter_at (more_at is_parameter parameter_at c.args.first c.args.symbols.now) before rest c.loop-rest.invariant.0
          (sym c.begins_parameter.ensures ∙ c.loop-rest-test.true) c.push.new.self after one c.in_ok-parameter.ensures.shorter,
      omega (arith, c.loop-rest.invariant.1, c.in_ok-parameter.ensures.shorter),
    )
