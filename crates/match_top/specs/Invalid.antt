-- Why the judging of GIMPLE files ends the work.
use Rattle.std.specs.Prelude.{◌≡◌, ◌⊎◌, ℕ, List}
use Rattle.gim_ast.specs.declared.function.Function.{Function}
use Rattle.gim_ast.specs.Readable.{IsFirstUnreadable}
use Rattle.gim_text.specs.declared.fault.GimpleFault.{GimpleFault}
use Rattle.gim_text.specs.declared.fault.GimpleKind.{GimpleKind}
use Rattle.gim_text.specs.declared.fault.GimpleKind.TheVariants as kinds
use Rattle.match_top.specs.Answer.{refusal, OrMemory}
use Rattle.match_top.specs.Functions.{IsFirstInvalid, gimple_fault_text, unreadable_text}
use Rattle.match_top.specs.declared.answer.Stop.{Stop}
use Rattle.match_top.specs.declared.answer.Stop.TheVariants.{Memory}
use Rattle.match_top.specs.declared.status.Cause.TheVariants.{BadFunctions}

-- the first function that isn't valid ends the work, or want of memory does
pub record EndsAtInvalid (fs : List Function) (stop : Stop) : Type 0 where
  pub function : Function
  pub block : ℕ
  pub item : ℕ
  pub name : ℕ
  pub first : IsFirstInvalid fs function block item name
  pub answered : stop ≡ refusal BadFunctions (unreadable_text function block item name)

abbrev pub IsInvalid : List Function → Stop → Type 0
IsInvalid fs stop = (stop ≡ Memory) ⊎ EndsAtInvalid fs stop

-- a fault ends the work: want of memory as such, and any other with its line
abbrev pub EndsAtFault : GimpleKind → List ℕ → GimpleFault → Stop → Type 0
EndsAtFault kinds.Memory source fault stop = stop ≡ Memory
EndsAtFault kind source fault stop = OrMemory (refusal BadFunctions (gimple_fault_text source fault)) stop

-- a function that isn't valid ends the work at its first use that isn't readable, or want of memory does
pub record EndsAtUnreadable (f : Function) (stop : Stop) : Type 0 where
  pub block : ℕ
  pub item : ℕ
  pub name : ℕ
  pub unreadable : IsFirstUnreadable f block item name
  pub answered : stop ≡ refusal BadFunctions (unreadable_text f block item name)

abbrev pub IsInvalidOne : Function → Stop → Type 0
IsInvalidOne f stop = (stop ≡ Memory) ⊎ EndsAtUnreadable f stop
