-- What the loop of `declare_all` keeps.
use Rattle.std.proofs.Common.{◌≡◌, ◌++◌, map, drop}
use Rattle.cond_subset.specs.Declarations.{decl_of}
use Rattle.pd_names.specs.Blocks.{declared_in}
use Rattle.pd_names.proofs.sight.declare_all.Given as goal

abbrev pub invariant-loop-decl : goal.invariant-loop-decl
invariant-loop-decl l = l.block ++ declared_in (map decl_of (drop l.decl-index l.decls)) ≡ l.initial.block ++ declared_in (map decl_of l.decls)
