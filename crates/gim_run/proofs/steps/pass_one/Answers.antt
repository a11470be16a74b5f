use Rattle.std.proofs.Common.{◌≡◌, Some, sym, subst, ◌∙◌, arith}
use Rattle.std.specs.Prelude.{IsTrue}
use Rattle.gim_ast.specs.WellFormed.{rhs_fits}
use Rattle.gim_ast.specs.Runs.{rhs_value}
use Rattle.gim_run.specs.Slots.{env_of}
use Rattle.gim_run.proofs.SlotLemmas.{stmt_known, stmt_typed, stmt_within, right_type}
use Rattle.gim_run.proofs.steps.pass_one.Goals as goal

pub right-requires-clause-typed : goal.right-requires-clause-typed
right-requires-clause-typed c = subst (λ t. IsTrue (rhs_fits t c.args.stmt.now.rhs)) (sym c.type_of_name-ty.ensures) (stmt_typed c.args.function.now c.args.stmt.now c.requires.holds)

pub put-requires-clause-row : goal.put-requires-clause-row
put-requires-clause-row c = stmt_within c.args.function.now c.args.stmt.now c.requires.holds

pub put-requires-clause-typed : goal.put-requires-clause-typed
put-requires-clause-typed c =
    let value : rhs_value c.type_of_name-ty.result (env_of c.args.function.now.names c.args.slots.now) c.args.stmt.now.rhs ≡ Some c.in_ok-word.word = grind arith in
    right_type c.args.function.now c.args.slots.now c.type_of_name-ty.result c.args.stmt.now.rhs c.in_ok-word.word c.requires.slots
    (stmt_known c.args.function.now c.args.stmt.now c.requires.holds)
    (subst (λ t. IsTrue (rhs_fits t c.args.stmt.now.rhs)) (sym c.type_of_name-ty.ensures) (stmt_typed c.args.function.now c.args.stmt.now c.requires.holds))
    value
    ∙ c.type_of_name-ty.ensures
