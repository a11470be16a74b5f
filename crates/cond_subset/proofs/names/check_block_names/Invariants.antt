-- What the loop of `check_block_names` keeps.
use Rattle.std.proofs.Common.{◌≡◌, [], map, drop}
use Rattle.cond_subset.specs.Declarations.{decl_of}
use Rattle.cond_subset.specs.Names.{unknown_in}
use Rattle.cond_subset.proofs.names.check_block_names.Given as goal

abbrev pub invariant-loop-decl : goal.invariant-loop-decl
invariant-loop-decl l = unknown_in l.source l.scope [] (map decl_of l.decls) ≡ unknown_in l.source l.scope l.block.items (map decl_of (drop l.decl-index l.decls))
