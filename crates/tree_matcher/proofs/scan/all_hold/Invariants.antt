use Rattle.std.proofs.Common.{◌≡◌, drop}
use Rattle.std.specs.List.{list_all}
use Rattle.pattern_rows.specs.Counting.{counted}
use Rattle.tree_matcher.specs.Looks.{tried}
use Rattle.tree_matcher.proofs.scan.all_hold.Given as goal

abbrev pub invariant-loop-test : goal.invariant-loop-test
invariant-loop-test g l =
    (list_all (g.S.Subject.holds l.subject) (drop l.test-index l.tests) ≡ list_all (g.S.Subject.holds l.subject) l.tests)
    × (counted l.steps (tried (g.S.Subject.holds l.subject) (drop l.test-index l.tests)) ≡ counted l.initial.steps (tried (g.S.Subject.holds l.subject) l.tests))
