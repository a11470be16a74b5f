use Rattle.std.proofs.Common.{◌≡◌, ◌++◌, drop}
use Rattle.justify.specs.Choices.{chosen}
use Rattle.justify.proofs.enumeration.words_of.Given as goal

abbrev pub invariant-loop-version : goal.invariant-loop-version
invariant-loop-version l = l.words ++ chosen (drop l.version-index l.names) l.rest ≡ chosen l.names l.choice
