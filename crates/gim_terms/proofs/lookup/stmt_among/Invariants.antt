use Rattle.std.proofs.Common.{◌≡◌, drop}
use Rattle.std.specs.List.{flat_map}
use Rattle.gim_ast.specs.Functions.{first_where}
use Rattle.gim_terms.specs.Lookups.{assigns, stmts_in}
use Rattle.gim_terms.proofs.lookup.stmt_among.Given as goal

abbrev pub invariant-loop-block : goal.invariant-loop-block
invariant-loop-block l =
    first_where (assigns l.version) (flat_map stmts_in (drop l.block-index l.blocks)) ≡ first_where (assigns l.version) (flat_map stmts_in l.blocks)
