use Rattle.std.proofs.Common.{arith}
use Rattle.pm_term.proofs.TreeLemmas.{too_few_terms, too_many_terms}
use Rattle.pm_term.proofs.value.+value.Goals as goal
use Rattle.pm_term.proofs.value.+value.Goals.{value_on-in_default-via-then-args-lt1, value_on-in_default-via-else-args-lt1+else-args-lt2+else-args-lt3+else-args-lt4}

pub value_on-returns-in_default-clause-value : goal.value_on-returns-in_default-clause-value
value_on-returns-in_default-clause-value t c =
    let yes = c.requires.operation in
    elim c.in_default.branch [
      | value_on-in_default-via-then-args-lt1 w ↦
          let no = too_few_terms c.args.code c.args.ty c.args.args.now (grind arith) in cc
      | value_on-in_default-via-else-args-lt1+else-args-lt2+else-args-lt3+else-args-lt4 w ↦
          let no = too_many_terms c.args.code c.args.ty c.args.args.now (grind arith) in cc
    ]
