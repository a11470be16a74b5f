-- Where a test row holds, and the operands of its captures.
use Rattle.std.specs.Prelude.{ℕ, ◌-◌, Bool, if◌then◌else◌, Option, Some, None, is_some, List, ◌++◌, map, length, replicate, slice_get}
use Rattle.std.specs.List.{list_all}
use Rattle.pm_ops.specs.Names.{Name}
use Rattle.pm_wide.specs.declared.operand.Operand.{Operand}
use Rattle.pattern_rows.specs.declared.row.Place.{Place}
use Rattle.pattern_rows.specs.declared.row.ProbeAt.{ProbeAt}
use Rattle.pattern_rows.specs.declared.row.TestRow.{TestRow}
use Rattle.pattern_rows.specs.declared.caps.Caps.{Caps}

-- captures in their order, and nothing past the last one
abbrev pub caps_of : List (Option Operand) → Caps
caps_of operands = record { slots = operands ++ replicate (32 - length operands) None }

-- what a slot holds
abbrev pub held_in : Option (Option Operand) → Option Operand
held_in None = None
held_in (Some held) = held

abbrev pub held : Caps → ℕ → Option Operand
held caps slot = held_in (slice_get caps.slots slot)

-- what stands at the places of holes
abbrev pub operands_of : (Place → Option Operand) → List (Name × Place) → List (Option Operand)
operands_of operand_at holes = map (λ (hole : Name × Place). operand_at hole.1) holes

-- the captures of holes, where each has an operand
abbrev pub filled : (Place → Option Operand) → List (Name × Place) → Option Caps
filled operand_at holes = if list_all is_some (operands_of operand_at holes) then Some (caps_of (operands_of operand_at holes)) else None

-- the captures of a row, where it holds: every test does, and each capture has an operand
abbrev pub found : (ProbeAt → Bool) → (Place → Option Operand) → TestRow → Option Caps
found holds operand_at row = if list_all holds row.tests then filled operand_at row.holes else None
