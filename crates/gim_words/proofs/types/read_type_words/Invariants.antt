-- What the loop of `read_type_words` keeps.
use Rattle.std.proofs.Common.{◌≡◌, ◌≤◌, length}
use Rattle.grammar.specs.Reading.{run}
use Rattle.gim_words.specs.TypeReaders.{type_words_after}
use Rattle.gim_words.specs.declared.type_words.TypeWords.TheVariants.{SaysInteger}
use Rattle.gim_words.specs.declared.type_words.SignWords.TheVariants.{NoSign}
use Rattle.gim_words.specs.declared.type_words.SizeWords.TheVariants.{NoSize}
use Rattle.gim_words.proofs.types.read_type_words.Given as goal

abbrev pub decreases-loop-rest : goal.decreases-loop-rest
decreases-loop-rest l = length l.rest

abbrev pub invariant-loop-rest : goal.invariant-loop-rest
invariant-loop-rest l = (run type_words_after (SaysInteger NoSign NoSize) l.tokens ≡ run type_words_after l.words l.rest) × (length l.rest ≤ length l.tokens)
