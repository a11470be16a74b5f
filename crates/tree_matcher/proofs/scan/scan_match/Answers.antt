use Rattle.std.proofs.Common.{◌-◌, length, drop}
use Rattle.tree_matcher.specs.Scanning.{fits_caps}
use Rattle.tree_matcher.proofs.Rounds.{all_left, all_front}
use Rattle.tree_matcher.proofs.scan.scan_match.Goals as goal

pub scan_behind-requires-clause-fit : goal.scan_behind-requires-clause-fit
scan_behind-requires-clause-fit g c =
    all_front fits_caps (drop c.match-after.passed c.args.rows.now) (length c.args.rows.now - c.match-after.passed)
    (all_left fits_caps c.args.rows.now c.match-after.passed c.requires.fit)
