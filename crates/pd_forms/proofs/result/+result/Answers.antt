-- What the search leaves of the contracts of the readers of results.
use Rattle.std.proofs.Common.{◌≡◌, [], ◌∷◌, ◌++◌, map, Ok, Some, ap, subst, sym, ◌∙◌, arith}
use Rattle.std.proofs.lemmas.List.{map-append}
use Rattle.grammar.specs.Reading.{and_item}
use Rattle.grammar.specs.Gives.{GivesInMemory}
use Rattle.grammar.proofs.Loops.{runs_on}
use Rattle.pd_forms.specs.Results.{result_of}
use Rattle.pd_forms.specs.ResultReaders.{ends_with_case, switch_step, items_at, results_at}
use Rattle.pd_forms.proofs.Depths.{one_deeper}
use Rattle.pd_forms.proofs.SwitchItems.{ends_with_last, item_step}
use Rattle.pd_forms.proofs.result.+result.Goals as goal

pub read_within-returns-clause-reads : goal.read_within-returns-clause-reads
read_within-returns-clause-reads t c =
    subst (λ answer. GivesInMemory (λ x. (result_of x.0, x.1.now)) c.read_any.result answer)
    (sym (one_deeper (λ k. results_at k c.args.symbols.now) c.args.room (omega (arith, c.requires.roomy)))) c.read_any.ensures.reads

pub read_items-loop-after_case-preserved : goal.read_items-loop-after_case-preserved
read_items-loop-after_case-preserved t c =
    let inner = results_at c.args.room in
    let before = map result_of c.loop-after_case.items in
    let rest = c.loop-after_case.rest.now in
    let after = c.in_ok-item.after.now in
    let (still, fits, is) = c.loop-after_case.invariant in
    let pushed : c.push.new.self ≡ c.loop-after_case.items ++ c.in_ok-item.item ∷ [] = c.in_ok-push.ensures.ok in
    let now : map result_of c.push.new.self ≡ before ++ result_of c.in_ok-item.item ∷ [] =
    ap (map result_of) pushed ∙ map-append result_of c.loop-after_case.items (c.in_ok-item.item ∷ []) in
    let item : and_item before (inner rest) ≡ Ok (map result_of c.push.new.self, after) =
    ap (and_item before) c.in_ok-item.ensures.reads ∙ ap (λ l. Ok (l, after)) (sym now) in
    let step : switch_step inner before rest ≡ Some (Ok (map result_of c.push.new.self, after)) =
    item_step inner before rest (Ok (map result_of c.push.new.self, after)) (sym is ∙ c.loop-after_case-test.true) (sym c.begins_result.ensures ∙ c.if-begins_result.true) item in (
      runs_on (switch_step inner) (items_at inner (map result_of c.args.first) c.args.symbols.now) before rest still (map result_of c.push.new.self) after step c.in_ok-item.ensures.shorter,
      omega (arith, fits, c.in_ok-item.ensures.shorter),
      c.is_case-after_case.ensures ∙ sym (ends_with_last before (result_of c.in_ok-item.item)) ∙ ap ends_with_case (sym now),
    )
