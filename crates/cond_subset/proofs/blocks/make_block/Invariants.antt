-- What the loop over declarations keeps.
use Rattle.std.proofs.Common.{◌≡◌, [], map, drop}
use Rattle.cond_subset.specs.Declarations.{decl_of}
use Rattle.cond_subset.specs.Blocks.{made_in}
use Rattle.cond_subset.proofs.blocks.make_block.Given as goal

abbrev pub invariant-loop-decl : goal.invariant-loop-decl
invariant-loop-decl l =
    made_in l.source l.scope [] [] (map decl_of l.decls) ≡ made_in l.source l.scope l.block.items l.made (map decl_of (drop l.decl-index l.decls))
