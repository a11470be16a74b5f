-- What the loop of `read_decls` keeps.
use Rattle.std.proofs.Common.{◌≤◌, length, map}
use Rattle.grammar.proofs.Loops.{StillRuns}
use Rattle.grammar.specs.Reading.{item_step}
use Rattle.cond_subset.specs.Declarations.{decl_of}
use Rattle.cond_subset.specs.DeclarationReaders.{begins_decl, decl_at, block_at}
use Rattle.cond_subset.proofs.declaration.read_decls.Given as goal

abbrev pub invariant-loop-alloc : goal.invariant-loop-alloc
invariant-loop-alloc l = StillRuns (item_step begins_decl decl_at) (block_at l.symbols) (map decl_of l.decls) l.rest × (length l.rest ≤ length l.symbols)

abbrev pub decreases-loop-alloc : goal.decreases-loop-alloc
decreases-loop-alloc l = length l.rest
