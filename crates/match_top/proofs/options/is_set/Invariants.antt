use Rattle.std.proofs.Common.{◌≡◌, drop}
use Rattle.match_top.specs.Options.{is_set}
use Rattle.match_top.proofs.options.is_set.Given as goal

abbrev pub invariant-loop-setting : goal.invariant-loop-setting
invariant-loop-setting l = is_set l.flag l.settings ≡ is_set l.flag (drop l.setting-index l.settings)
