-- What the calls on inputs answer, where the inputs tell which bytes each name holds.
use Rattle.std.specs.Prelude.{◌≡◌, ℕ, ◌<◌, ◌≤◌, Bool, true, false, List, [], ◌++◌, length, take, Option, Some, None, IsSome, IsSomeAnd, Result, Ok, Err, Vec, ⊤}
use Rattle.std.specs.declared.alloc.Global.{Global}
use Rattle.pm_io.specs.declared.faults.ReadFault.{ReadFault}
use Rattle.pm_io.specs.declared.faults.ReadFault.TheVariants.{Missing, Read, TooLong, Memory}

-- starting a file begins one exactly where it answers true
abbrev pub is_begun_by : {E : Type 0} → Result Bool E → Bool
is_begun_by (Ok found) = found
is_begun_by (Err _) = false

-- Starting a file, by what its name holds and what is left of the begun file after:
-- true begins it at its first byte, and false says that there is none.
abbrev pub Starts : {E : Type 0} → Option (List ℕ) → List ℕ → Result Bool E → Type 0
Starts held left (Ok true) = held ≡ Some left
Starts held left (Ok false) = held ≡ None
Starts held left (Err _) = ⊤

-- Reading a piece, by the bytes left before and after, and the buffer after: the next bytes stand at
-- its front. A count of 0 for a buffer that isn't empty says that none were left.
abbrev pub Reads : {E : Type 0} → List ℕ → List ℕ → List ℕ → Result ℕ E → Type 0
Reads before after buffer (Ok count) =
    (before ≡ take count buffer ++ after) × (count ≡ 0 → 0 < length buffer → before ≡ [])
Reads before after buffer (Err _) = after ≡ before

-- Reading a whole file, by what its name holds, the limit, and the bytes left of the begun file after.
-- Want of memory comes only after the file was found.
abbrev pub ReadsWhole : Option (List ℕ) → ℕ → List ℕ → Result (Vec ℕ Global) ReadFault → Type 0
ReadsWhole held limit left (Ok bytes) = (held ≡ Some bytes.items) × (length bytes.items ≤ limit) × (left ≡ [])
ReadsWhole held limit left (Err Missing) = held ≡ None
ReadsWhole held limit left (Err TooLong) = IsSomeAnd held (λ file. limit < length file)
ReadsWhole held limit left (Err Memory) = IsSome held
ReadsWhole held limit left (Err Read) = ⊤

-- Whether a file is begun after reading a whole one: none where there was no such file; where the
-- inputs failed, one or none by the call that failed.
abbrev pub LeavesBegun : {T : Type 0} → Bool → Result T ReadFault → Type 0
LeavesBegun begun (Err Missing) = begun ≡ false
LeavesBegun begun (Err Read) = ⊤
LeavesBegun begun _ = begun ≡ true
