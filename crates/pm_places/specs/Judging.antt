-- What a stage that looks for faults answers, for every kind of fault of which some are want of memory.
use Rattle.std.specs.Prelude.{◌≡◌, Bool, true, false, Option, Some, None, Result, Ok, Err}

-- the fault is want of memory, or else the expected one
abbrev pub IsFault : {F : Type 0} → Bool → F → Option F → Type 0
IsFault true fault expected = Unit {0}
IsFault false fault expected = expected ≡ Some fault

-- A stage answers exactly this fault, or none, unless memory runs out. The test says which faults are want of memory
abbrev pub Judges : {X F : Type 0} → (F → Bool) → Option F → Result X F → Type 0
Judges is_memory expected (Ok x) = expected ≡ None
Judges is_memory expected (Err fault) = IsFault (is_memory fault) fault expected
