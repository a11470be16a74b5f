-- Why a source is refused.
use Rattle.std.specs.Prelude.{◌≡◌, ◌⊎◌, ◌+◌, ◌<◌, ◌≤◌, List, ℕ}
use Rattle.pm_ops.specs.declared.fault.PatternFault.{PatternFault}
use Rattle.pm_ops.specs.declared.fault.PatternKind.{PatternKind}
use Rattle.pm_ops.specs.declared.fault.PatternKind.TheVariants.{BadByte, OpenComment, OpenString, LongNumber, Directive}
use Rattle.pm_ops.specs.Faults.{memory_fault}
use Rattle.pd_lexer.specs.Cuts.{IsLexFault}

-- memory ran out, or this is the first fault of the source
abbrev pub IsCause : List ℕ → PatternFault → Type 0
IsCause source fault = (fault ≡ memory_fault) ⊎ IsLexFault source fault

-- the kinds of faults of lexing, of which a number that is too great has bytes alone
abbrev pub IsLexical : PatternKind → ℕ → Type 0
IsLexical BadByte bytes = bytes ≡ 0
IsLexical OpenComment bytes = bytes ≡ 0
IsLexical OpenString bytes = bytes ≡ 0
IsLexical Directive bytes = bytes ≡ 0
IsLexical LongNumber bytes = 0 < bytes
IsLexical kind bytes = ⊥

-- a fault of lexing stands from one place up to another
pub record FaultStands (from to : ℕ) (fault : PatternFault) : Type 0 where
  pub behind : from ≤ fault.at
  pub before : fault.at < to
  pub within : fault.at + fault.len ≤ to
  pub lexical : IsLexical fault.kind fault.len
