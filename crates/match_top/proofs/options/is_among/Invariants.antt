use Rattle.std.proofs.Common.{◌≡◌, drop}
use Rattle.std.specs.List.{list_any}
use Rattle.match_top.specs.Options.{is_same}
use Rattle.match_top.proofs.options.is_among.Given as goal

abbrev pub invariant-loop-other : goal.invariant-loop-other
invariant-loop-other l = list_any (λ other. is_same other l.flag) l.allowed ≡ list_any (λ other. is_same other l.flag) (drop l.other-index l.allowed)
