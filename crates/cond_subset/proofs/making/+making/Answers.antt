-- What the search leaves of the contract of `make`.
use Rattle.cond_subset.proofs.ThirdFault.{handed_out, choice_fault}
use Rattle.cond_subset.proofs.making.+making.Goals as goal

pub make-returns-in_err-b-in-Choose : goal.make-returns-in_err-b-in-Choose
make-returns-in_err-b-in-Choose t c =
    handed_out _ c.in_err-b-in-Choose.field-0.0 c.from_residual-in_err-b-in-Choose.result c.from_residual-in_err-b-in-Choose.ensures
    (rw c.in-Choose.is (choice_fault c.args.source.now c.args.scope.now c.args.block.now c.in-Choose.at c.in-Choose.c c.in-Choose.a c.in-Choose.b c.get-in-Choose.result.now c.get-in-Choose-2.result.now c.get-in-Choose-3.result.now c.in_ok-c-in-Choose.c c.in_ok-a-in-Choose.a c.in_err-b-in-Choose.field-0.0
    c.get-in-Choose.ensures c.get-in-Choose-2.ensures c.get-in-Choose-3.ensures c.in_ok-c-in-Choose.ensures c.in_ok-a-in-Choose.ensures c.in_err-b-in-Choose.ensures))
