use Rattle.std.proofs.Common.{◌≡◌, take, map}
use Rattle.std.specs.List.{flat_map}
use Rattle.match_top.specs.Report.{firing_line}
use Rattle.first_rewriting.specs.Views.{firing_told}
use Rattle.match_top.proofs.report.report.Given as goal

-- the lines of the steps so far
abbrev pub invariant-loop-firing : goal.invariant-loop-firing
invariant-loop-firing l = l.out ≡ flat_map (firing_line l.source l.rows l.name) (map firing_told (take l.firing-index l.firing-items))
