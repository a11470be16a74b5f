use Rattle.std.proofs.Common.{◌≡◌, ◌+◌, true, drop}
use Rattle.std.specs.List.{list_all}
use Rattle.pattern_rows.specs.Counting.{counted}
use Rattle.tree_matcher.specs.Looks.{looks_in}
use Rattle.tree_matcher.specs.Scanning.{first_found, fits_caps}
use Rattle.tree_matcher.proofs.scan.scan_behind.Given as goal

abbrev pub invariant-loop-i : goal.invariant-loop-i
invariant-loop-i g l = record {
  fit : list_all fits_caps (drop l.i l.rows) ≡ true;
  answer : first_found (g.S.Subject.holds l.subject) (g.S.Subject.operand_at l.subject) (l.passed + l.i) (drop l.i l.rows) ≡ first_found (g.S.Subject.holds l.subject) (g.S.Subject.operand_at l.subject) l.passed l.rows;
  count : counted l.steps (looks_in (g.S.Subject.holds l.subject) (g.S.Subject.operand_at l.subject) (drop l.i l.rows)) ≡ counted l.initial.steps (looks_in (g.S.Subject.holds l.subject) (g.S.Subject.operand_at l.subject) l.rows);
}
