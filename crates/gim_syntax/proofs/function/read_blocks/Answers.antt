-- What the search leaves of the contract of `read_blocks`.
use Rattle.std.proofs.Common.{sym, ◌∙◌}
use Rattle.std.proofs.lemmas.Result.{err_from_is_err_and}
use Rattle.gim_statements.specs.BlockReaders.{block_at}
use Rattle.gim_syntax.specs.Readers.{begins_block, blocks_at}
use Rattle.grammar.proofs.ItemLoops.{stops, ends}
use Rattle.gim_syntax.proofs.function.read_blocks.Goals as goal

pub returns-clause-reads : goal.returns-clause-reads
returns-clause-reads c =
    ends begins_block block_at (blocks_at c.args.tokens.now) c.loop-alloc.found c.loop-alloc.rest.now c.loop-alloc.invariant.0
    (sym c.begins_block.ensures ∙ c.loop-alloc-test.false)

pub returns-in_err-rest-clause-reads : goal.returns-in_err-rest-clause-reads
returns-in_err-rest-clause-reads c =
    let p = err_from_is_err_and c.from_residual.result c.from_residual.ensures.1 in
    rw (p.1, p.2)
    (stops begins_block block_at (blocks_at c.args.tokens.now) c.loop-alloc.found c.loop-alloc.rest.now c.loop-alloc.invariant.0
    (sym c.begins_block.ensures ∙ c.loop-alloc-test.true) c.in_err-rest.field-0.0 c.in_err-rest.ensures.reads)
