use Rattle.std.proofs.Common.{◌≡◌, drop}
use Rattle.std.specs.List.{list_any}
use Rattle.pattern_uses.specs.Mentions.{is_subject}
use Rattle.pattern_uses.proofs.mention.some_subject.Given as goal

abbrev pub invariant-loop-mention : goal.invariant-loop-mention
invariant-loop-mention l = list_any is_subject (drop l.mention-index l.mentions) ≡ list_any is_subject l.mentions
