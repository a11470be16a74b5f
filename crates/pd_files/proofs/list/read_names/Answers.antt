-- What the search leaves of the contract of `read_names`.
use Rattle.std.proofs.Common.{◌≡◌, [], ◌∷◌, ◌++◌, Ok, ap, sym, ◌∙◌, arith}
use Rattle.grammar.specs.Reading.{and_item, more_at}
use Rattle.grammar.proofs.ItemLoops.{goes_on}
use Rattle.pd_forms.specs.SymbolReaders.{identifier_at}
use Rattle.pd_files.specs.FormReaders.{is_name}
use Rattle.pd_files.proofs.list.read_names.Goals as goal

pub loop-rest-preserved : goal.loop-rest-preserved
loop-rest-preserved c =
    let before = c.loop-rest.names in
    let rest = c.loop-rest.rest.now in
    let after = c.in_ok-name.after.now in
    let pushed : c.push.new.self ≡ before ++ c.in_ok-name.name ∷ [] = c.in_ok-push.ensures.ok in
    let one : and_item before (identifier_at rest) ≡ Ok (c.push.new.self, after) =
    ap (and_item before) c.in_ok-name.ensures.reads ∙ ap (λ l. Ok (l, after)) (sym pushed) in (
      goes_on is_name identifier_at (more_at is_name identifier_at [] c.args.symbols.now) before rest c.loop-rest.invariant.0
          (sym c.begins_name.ensures ∙ c.loop-rest-test.true) c.push.new.self after one c.in_ok-name.ensures.shorter,
      omega (arith, c.loop-rest.invariant.1, c.in_ok-name.ensures.shorter),
    )
