-- What the search leaves of the contract of `read_decls`.
use Rattle.std.proofs.Common.{map, sym, ◌∙◌}
use Rattle.grammar.proofs.ItemLoops.{ends}
use Rattle.cond_subset.specs.Declarations.{decl_of}
use Rattle.cond_subset.specs.DeclarationReaders.{begins_decl, decl_at, block_at}
use Rattle.cond_subset.proofs.declaration.read_decls.Goals as goal

pub returns-clause-reads : goal.returns-clause-reads
returns-clause-reads c =
    ends begins_decl decl_at (block_at c.args.symbols.now) (map decl_of c.loop-alloc.decls) c.loop-alloc.rest.now c.loop-alloc.invariant.0
    (sym c.begins_decl.ensures ∙ c.loop-alloc-test.false)
