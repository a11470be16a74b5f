-- What stands at a place of an operation, where names are looked through to the operations that
-- statements assign to them; and which tests hold there. An absent place fails every test.
use Rattle.std.specs.Prelude.{ℕ, Bool, false, Option, Some, None, List, [], ◌∷◌, slice_get}
use Rattle.std.specs.Option.{option_and_then}
use Rattle.pm_ops.specs.declared.code.Code.{Code}
use Rattle.pm_ops.specs.Codes.{same_code}
use Rattle.pm_wide.specs.Types.{value}
use Rattle.pm_wide.specs.Operations.{int_same}
use Rattle.pm_wide.specs.declared.operand.Operand.{Operand}
use Rattle.pm_wide.specs.declared.operand.Operand.TheVariants.{Name, Const}
use Rattle.pd_ast.specs.Predicates.{holds_of}
use Rattle.gim_ast.specs.Functions.{same_operand}
use Rattle.pattern_rows.specs.declared.row.Place.{Place}
use Rattle.pattern_rows.specs.declared.row.Probe.{Probe}
use Rattle.pattern_rows.specs.declared.row.Probe.TheVariants.{IsCode, Holds, SameAs, SameNumberAs}
use Rattle.pattern_rows.specs.declared.row.ProbeAt.{ProbeAt}
use Rattle.gim_terms.specs.Views.{View, Operation, operation_behind}

-- ---- places

-- the operand at a position
abbrev pub operand_of : ℕ → Operation → Option Operand
operand_of position on = slice_get on.operands position

-- the operand that the positions lead to from an operand on
abbrev pub reached : View → Operand → List ℕ → Option Operand
reached view a [] = Some a
reached view a (position ∷ positions) =
    option_and_then (λ b. reached view b positions) (option_and_then (operand_of position) (operation_behind view a))

-- the operand at a place below an operation; the outermost place has none
abbrev pub operand_at_steps : View → Operation → List ℕ → Option Operand
operand_at_steps view on [] = None
operand_at_steps view on (position ∷ positions) = option_and_then (λ b. reached view b positions) (operand_of position on)

abbrev pub operand_at : View → Operation → Place → Option Operand
operand_at view on at = operand_at_steps view on at.steps

-- the operation at a place
abbrev pub operation_at_steps : View → Operation → List ℕ → Option Operation
operation_at_steps view on [] = Some on
operation_at_steps view on (position ∷ positions) =
    option_and_then (operation_behind view) (operand_at_steps view on (position ∷ positions))

abbrev pub operation_at : View → Operation → Place → Option Operation
operation_at view on at = operation_at_steps view on at.steps

-- ---- sameness

-- one name, or constants of one number whatever their types
abbrev pub same_number : Operand → Operand → Bool
same_number (Name x t) (Name y u) = same_operand (Name x t) (Name y u)
same_number (Const v) (Const w) = int_same (value v) (value w)
same_number (Name x t) (Const w) = false
same_number (Const v) (Name y u) = false

-- both are there, and the test holds of them
abbrev pub both : (Operand → Operand → Bool) → Option Operand → Option Operand → Bool
both same None _ = false
both same (Some a) None = false
both same (Some a) (Some b) = same a b

-- ---- tests

abbrev pub has_code : Code → Option Operation → Bool
has_code code None = false
has_code code (Some on) = same_code code on.code

-- the operand is there, and the test holds of it
abbrev pub is_there_with : (Operand → Bool) → Option Operand → Bool
is_there_with test None = false
is_there_with test (Some a) = test a

abbrev pub probe_holds : View → Operation → Place → Probe → Bool
probe_holds view on at (IsCode code) = has_code code (operation_at view on at)
probe_holds view on at (Holds pred) = is_there_with (holds_of pred) (operand_at view on at)
probe_holds view on at (SameAs first) = both same_operand (operand_at view on first) (operand_at view on at)
probe_holds view on at (SameNumberAs first) = both same_number (operand_at view on first) (operand_at view on at)

abbrev pub holds_at : View → Operation → ProbeAt → Bool
holds_at view on test = probe_holds view on test.place test.probe
