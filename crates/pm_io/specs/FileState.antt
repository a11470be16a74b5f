-- What is known of the files of a runtime.
use Rattle.std.specs.Prelude.{ℕ, Bool}

-- whether a file is begun, and how often a call failed
pub record FileState : Type 0 where
  pub begun : Bool
  pub faults : ℕ
