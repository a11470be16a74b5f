use Rattle.std.proofs.Common.{◌≡◌, take}
use Rattle.std.specs.List.{flat_map}
use Rattle.pattern_uses.specs.Mentions.{mentions_of_decl}
use Rattle.pattern_uses.proofs.mention.mentions_of_decls.Given as goal

abbrev pub invariant-loop-decl : goal.invariant-loop-decl
invariant-loop-decl l = l.made ≡ flat_map mentions_of_decl (take l.decl-index l.decls)
