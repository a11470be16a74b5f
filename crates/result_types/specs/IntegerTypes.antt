-- The integer types, as a kind of types.
use Rattle.std.specs.Prelude.{◌==◌, Option, Some, None, false, true, if◌then◌else◌}
use Rattle.pm_wide.specs.Types.{Ty, bool_type}
use Rattle.result_types.specs.TypeRules.{Kind}

-- the unsigned type of that width
abbrev pub unsigned_one : Ty → Ty
unsigned_one t = record { width = t.width; unsigned = true }

-- the signed type of that width; `_Bool` has none
abbrev pub signed_one : Ty → Option Ty
signed_one t = if t.width == 1 then None else Some (record { width = t.width; unsigned = false })

abbrev pub integer_types : Kind Ty
integer_types = record { truth = bool_type; without_sign = unsigned_one; with_sign = signed_one }
