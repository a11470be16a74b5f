-- The number of each status.
use Rattle.std.specs.Prelude.{ℕ}
use Rattle.match_top.specs.declared.status.Cause.{Cause}
use Rattle.match_top.specs.declared.status.Cause.TheVariants.{NoCommand, BadPatterns, BadFunctions, NoFile, Undefined, OutOfFuel, NoRun}
use Rattle.match_top.specs.declared.status.Status.{Status}
use Rattle.match_top.specs.declared.status.Status.TheVariants.{Done, Refused, WriteFailed, Exhausted, NoMemory}

abbrev pub code : Status → ℕ
code Done = 0
code (Refused NoCommand) = 2
code (Refused BadPatterns) = 3
code (Refused BadFunctions) = 4
code (Refused NoFile) = 5
code WriteFailed = 6
code Exhausted = 7
code NoMemory = 8
code (Refused Undefined) = 9
code (Refused OutOfFuel) = 10
code (Refused NoRun) = 11
