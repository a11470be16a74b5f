-- What a function of a program gives, against a reader on lists.
use Rattle.std.specs.Prelude.{◌≡◌, List, Result, Ok, Err}
use Rattle.grammar.specs.declared.stop.Fault.{Fault}
use Rattle.grammar.specs.declared.stop.Stop.{Stop}
use Rattle.grammar.specs.declared.stop.Stop.TheVariants as stops

-- What a function returned, seen by `seen`, is what is read.
abbrev pub Gives : {T E X Y : Type 0} → (X → Y) → Result X (Fault T E) → Result Y (E × List T) → Type 0
Gives seen (Ok x) read = read ≡ Ok (seen x)
Gives seen (Err fault) read = read ≡ Err (fault.kind, fault.rest.now)

-- a function stopped where a reader faults, unless memory ran out
abbrev pub StopsAs : {T E Y : Type 0} → Stop T E → Result Y (E × List T) → Type 0
StopsAs stops.Memory read = Unit {0}
StopsAs (stops.Fault fault) read = read ≡ Err (fault.kind, fault.rest.now)

-- What a function returned, seen by `seen`, is what is read, unless memory ran out.
abbrev pub GivesInMemory : {T E X Y : Type 0} → (X → Y) → Result X (Stop T E) → Result Y (E × List T) → Type 0
GivesInMemory seen (Ok x) read = read ≡ Ok (seen x)
GivesInMemory seen (Err stop) read = StopsAs stop read
