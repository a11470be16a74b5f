-- What the loop of `read_decls` keeps.
use Rattle.std.proofs.Common.{◌≤◌, length}
use Rattle.grammar.proofs.Loops.{StillRuns}
use Rattle.grammar.specs.Reading.{item_step}
use Rattle.gim_syntax.specs.Readers.{begins_type, decl_at, decls_at}
use Rattle.gim_syntax.proofs.declarations.read_decls.Given as goal

abbrev pub invariant-loop-decls : goal.invariant-loop-decls
invariant-loop-decls l = StillRuns (item_step begins_type decl_at) (decls_at l.tokens) l.decls l.rest × (length l.rest ≤ length l.tokens)

abbrev pub decreases-loop-decls : goal.decreases-loop-decls
decreases-loop-decls l = length l.rest
