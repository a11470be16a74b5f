use Rattle.std.proofs.Common.{◌≡◌, ◌+◌, map, drop, string_bytes}
use Rattle.match_top.specs.Words.{first_option}
use Rattle.match_top.proofs.words.first_option.Given as goal

-- no option stands before the next word
abbrev pub invariant-loop-word : goal.invariant-loop-word
invariant-loop-word l = (l.before ≡ l.word-index) × (first_option (map string_bytes l.words) ≡ first_option (map string_bytes (drop l.word-index l.words)) + l.word-index)
