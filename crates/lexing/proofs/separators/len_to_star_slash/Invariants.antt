use Rattle.std.proofs.Common.{◌≡◌, ◌+◌, drop, option_map}
use Rattle.lexing.specs.Separators.{length_to_star_slash}
use Rattle.lexing.proofs.separators.len_to_star_slash.Given as goal

-- the end is behind what was passed
abbrev pub invariant-loop-at : goal.invariant-loop-at
invariant-loop-at l = option_map (λ n. l.at + n) (length_to_star_slash (drop l.at l.text)) ≡ length_to_star_slash l.text
