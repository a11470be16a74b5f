-- What the search leaves of the contract of `block_of`.
use Rattle.std.proofs.Common.{map}
use Rattle.cond_subset.specs.Declarations.{decl_of, SpellsBlock}
use Rattle.cond_subset.specs.DeclarationReaders.{IsInBlock, block_at}
use Rattle.cond_subset.proofs.DeclarationsExact.{block_reads}
use Rattle.cond_subset.proofs.SyntaxAnswers.{found_in, only_in, fault_in}
use Rattle.cond_subset.proofs.part.block_of.Goals as goal

pub returns-clause-found : goal.returns-clause-found
returns-clause-found c =
    let symbols = c.args.symbols.now in
    found_in SpellsBlock IsInBlock (map decl_of) symbols (block_at symbols) (block_reads.exact symbols) c.whole_block.result c.whole_block.ensures c.in_source.result c.in_source.ensures

pub returns-clause-only : goal.returns-clause-only
returns-clause-only c =
    let symbols = c.args.symbols.now in
    only_in SpellsBlock IsInBlock (map decl_of) symbols (block_at symbols) (block_reads.exact symbols) c.whole_block.result c.whole_block.ensures c.in_source.result c.in_source.ensures

pub returns-clause-fault : goal.returns-clause-fault
returns-clause-fault c =
    let symbols = c.args.symbols.now in
    fault_in SpellsBlock IsInBlock (map decl_of) symbols (block_at symbols) (block_reads.exact symbols) c.whole_block.result c.whole_block.ensures c.in_source.result c.in_source.ensures
