use Rattle.std.proofs.Common.{◌≡◌, map, length, string_bytes}
use Rattle.match_top.specs.Options.{settings_of}
use Rattle.match_top.proofs.OptionLemmas.{behind}
use Rattle.match_top.proofs.options.settings.Given as goal

-- the settings so far stand before what is still to be read
abbrev pub invariant-loop-rest : goal.invariant-loop-rest
invariant-loop-rest l = settings_of (map string_bytes l.words) ≡ behind l.settings (settings_of (map string_bytes l.rest))

abbrev pub decreases-loop-rest : goal.decreases-loop-rest
decreases-loop-rest l = length l.rest
