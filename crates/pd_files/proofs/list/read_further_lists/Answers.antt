-- What the search leaves of the contract of `read_further_lists`.
use Rattle.std.proofs.Common.{◌≡◌, [], ◌∷◌, ◌++◌, Ok, ap, sym, ◌∙◌, arith}
use Rattle.grammar.specs.Reading.{and_item, more_at}
use Rattle.grammar.proofs.ItemLoops.{goes_on}
use Rattle.pd_files.specs.FormReaders.{is_name, list_at}
use Rattle.pd_files.proofs.list.read_further_lists.Goals as goal

pub loop-alloc-preserved : goal.loop-alloc-preserved
loop-alloc-preserved c =
    let before = c.loop-alloc.lists in
    let rest = c.loop-alloc.rest.now in
    let after = c.in_ok-list.after.now in
    let pushed : c.push.new.self ≡ before ++ c.in_ok-list.list ∷ [] = c.in_ok-push.ensures.ok in
    let one : and_item before (list_at rest) ≡ Ok (c.push.new.self, after) =
    ap (and_item before) c.in_ok-list.ensures.reads ∙ ap (λ l. Ok (l, after)) (sym pushed) in (
      goes_on is_name list_at (more_at is_name list_at c.args.first c.args.symbols.now) before rest c.loop-alloc.invariant.0
          (sym c.begins_name.ensures ∙ c.loop-alloc-test.true) c.push.new.self after one c.in_ok-list.ensures.shorter,
      omega (arith, c.loop-alloc.invariant.1, c.in_ok-list.ensures.shorter),
    )
