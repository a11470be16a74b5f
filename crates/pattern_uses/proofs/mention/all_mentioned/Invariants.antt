use Rattle.std.proofs.Common.{◌≡◌, ◌++◌, drop}
use Rattle.std.specs.List.{filter_map}
use Rattle.pattern_uses.specs.Mentions.{mentioned}
use Rattle.pattern_uses.proofs.mention.all_mentioned.Given as goal

abbrev pub invariant-loop-mention : goal.invariant-loop-mention
invariant-loop-mention l =
    l.made ++ filter_map mentioned (drop l.mention-index l.mentions) ≡ filter_map mentioned l.mentions
