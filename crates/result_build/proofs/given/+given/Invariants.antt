use Rattle.std.proofs.Common.{◌≡◌, drop, map}
use Rattle.result_build.specs.Given.{first_case, given_by_case}
use Rattle.result_build.proofs.given.+given.Given as goal

abbrev pub invariant-draft_of_cases-loop-case : goal.invariant-draft_of_cases-loop-case
invariant-draft_of_cases-loop-case l =
    first_case l.env (map (given_by_case l.caps) (drop l.case-index l.cases)) ≡ first_case l.env (map (given_by_case l.caps) l.cases)
