use Rattle.std.proofs.Common.{◌≡◌, drop}
use Rattle.match_top.specs.Options.{number_or}
use Rattle.match_top.proofs.options.number_or.Given as goal

abbrev pub invariant-loop-setting : goal.invariant-loop-setting
invariant-loop-setting l = number_or l.flag l.other l.settings ≡ number_or l.flag l.other (drop l.setting-index l.settings)
