-- What the loop of `check_block` keeps.
use Rattle.std.proofs.Common.{◌≡◌, [], map, drop}
use Rattle.cond_subset.specs.Declarations.{decl_of}
use Rattle.pd_names.specs.Blocks.{block_fault}
use Rattle.pd_names.proofs.blocks.check_block.Given as goal

abbrev pub invariant-loop-decl : goal.invariant-loop-decl
invariant-loop-decl l =
    block_fault l.source l.known l.sight [] (map decl_of l.decls) ≡ block_fault l.source l.known l.sight l.block (map decl_of (drop l.decl-index l.decls))
