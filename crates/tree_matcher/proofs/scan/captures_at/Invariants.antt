use Rattle.std.proofs.Common.{◌≡◌, ◌-◌, ◌++◌, None, drop, take, replicate}
use Rattle.std.specs.Prelude.{is_some}
use Rattle.std.specs.List.{list_all}
use Rattle.pattern_rows.specs.Counting.{counted}
use Rattle.pattern_rows.specs.Found.{operands_of}
use Rattle.tree_matcher.specs.Looks.{asked}
use Rattle.tree_matcher.proofs.scan.captures_at.Given as goal

abbrev pub invariant-loop-i : goal.invariant-loop-i
invariant-loop-i g l = record {
  slots : l.slots ≡ operands_of (g.S.Subject.operand_at l.subject) (take l.i l.holes) ++ replicate (32 - l.i) None;
  all : list_all is_some (operands_of (g.S.Subject.operand_at l.subject) (drop l.i l.holes)) ≡ list_all is_some (operands_of (g.S.Subject.operand_at l.subject) l.holes);
  count : counted l.steps (asked (g.S.Subject.operand_at l.subject) (drop l.i l.holes)) ≡ counted l.initial.steps (asked (g.S.Subject.operand_at l.subject) l.holes);
}
