use Rattle.std.proofs.Common.{◌<◌, ◌⊎◌, inl, inr, length, sym, ap, arith}
use Rattle.std.specs.Option.{ok_or}
use Rattle.gim_ast.specs.Runs.{word_of_operand}
use Rattle.gim_run.specs.Slots.{env_of}
use Rattle.gim_run.proofs.SlotLemmas.{no_value}
use Rattle.gim_run.proofs.steps.operation.Goals as goal
use Rattle.gim_run.proofs.steps.operation.Goals.{in_default-via-then-operands-lt1, in_default-via-else-operands-lt1+else-operands-lt2+else-operands-lt3+else-operands-lt4}

pub returns-in_default : goal.returns-in_default
returns-in_default c =
    let count : (length c.args.operands.now < 1) ⊎ (3 < length c.args.operands.now) =
    elim c.in_default.branch [
      | in_default-via-then-operands-lt1 w ↦ inl (grind arith)
      | in_default-via-else-operands-lt1+else-operands-lt2+else-operands-lt3+else-operands-lt4 w ↦ inr (grind arith)
    ] in
    ap (λ o. ok_or o (record {})) (sym (no_value c.args.code c.args.ty (word_of_operand (env_of c.args.function.now.names c.args.slots.now)) c.args.operands.now count))
