-- Faults of a GIMPLE file, and what a stage that looks for them answers.
use Rattle.std.specs.Prelude.{◌-◌, Bool, true, false, Option, Result}
use Rattle.pm_places.specs.declared.span.Span.{Span}
use Rattle.pm_places.specs.Judging as judging
use Rattle.gim_text.specs.declared.fault.GimpleFault.{GimpleFault}
use Rattle.gim_text.specs.declared.fault.GimpleKind.{GimpleKind}
use Rattle.gim_text.specs.declared.fault.GimpleKind.TheVariants.{Memory}

abbrev pub memory_fault : GimpleFault
memory_fault = record { kind = Memory; at = 0; len = 0 }

-- a fault at the token of a place
abbrev pub fault_at : GimpleKind → Span → GimpleFault
fault_at kind span = record { kind = kind; at = span.from; len = span.to - span.from }

-- want of memory
abbrev pub is_memory : GimpleKind → Bool
is_memory Memory = true
is_memory kind = false

-- the fault is want of memory, or the expected one
abbrev pub IsFault : GimpleKind → GimpleFault → Option GimpleFault → Type 0
IsFault kind fault expected = judging.IsFault (is_memory kind) fault expected

-- A stage answers exactly this fault, or none, unless memory runs out.
abbrev pub Judges : {X : Type 0} → Option GimpleFault → Result X GimpleFault → Type 0
Judges expected result = judging.Judges (λ (fault : GimpleFault). is_memory fault.kind) expected result
