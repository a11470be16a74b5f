use Rattle.std.proofs.Common.{◌≡◌, map, take, string_bytes}
use Rattle.match_top.proofs.words.copies.Given as goal

-- the copies so far
abbrev pub invariant-loop-word : goal.invariant-loop-word
invariant-loop-word l = l.copies ≡ map string_bytes (take l.word-index l.words)
