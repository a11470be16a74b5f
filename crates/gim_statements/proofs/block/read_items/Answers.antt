-- What the search leaves of the contract of `read_items`.
use Rattle.std.proofs.Common.{Ok, ◌++◌, [], ◌∷◌, sym, ◌∙◌}
use Rattle.grammar.proofs.Loops.{stops_whole}
use Rattle.grammar.proofs.ItemLoops.{stops, ends}
use Rattle.gim_statements.specs.ItemReaders.{item_at}
use Rattle.gim_statements.specs.BlockReaders.{begins_item, items_at}
use Rattle.gim_statements.proofs.block.read_items.Goals as goal

pub returns-clause-reads : goal.returns-clause-reads
returns-clause-reads c =
    ends begins_item item_at (items_at c.args.tokens.now) c.loop-alloc.items c.loop-alloc.rest.now c.loop-alloc.invariant.0
    (sym c.begins_item.ensures ∙ c.loop-alloc-test.false)

pub returns-in-Err-clause-reads : goal.returns-in-Err-clause-reads
returns-in-Err-clause-reads c =
    let items = c.loop-alloc.items in
    let rest = c.loop-alloc.rest.now in
    rw c.into.ensures
    (stops begins_item item_at (items_at c.args.tokens.now) items rest c.loop-alloc.invariant.0 (sym c.begins_item.ensures ∙ c.loop-alloc-test.true)
    c.in-Err.fault (stops_whole c.in-Err.fault (item_at rest) (λ x. Ok (items ++ x.0 ∷ [], x.1)) c.in-Err.ensures.reads))
