use Rattle.std.proofs.Common.{◌≡◌, map, drop, string_bytes}
use Rattle.std.specs.List.{list_all}
use Rattle.match_top.specs.Run.{is_value}
use Rattle.match_top.proofs.commands.run.are_values.Given as goal

abbrev pub invariant-loop-word : goal.invariant-loop-word
invariant-loop-word l = list_all is_value (map string_bytes l.words) ≡ list_all is_value (map string_bytes (drop l.word-index l.words))
