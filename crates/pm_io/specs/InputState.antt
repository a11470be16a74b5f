-- What contracts see of inputs.
use Rattle.std.specs.Prelude.{ℕ, Bool, List, Option}

pub record InputState : Type 0 where
  -- the bytes that each name holds, or none where there is no such file; `None` where that isn't told
  pub holds : Option (List ℕ → Option (List ℕ))
  -- the names that were asked for so far, in their order; `None` where they aren't told
  pub asked : Option (List (List ℕ))
  -- whether a file is begun
  pub begun : Bool
  -- the bytes of the begun file that are left, where `holds` is told and a file is begun
  pub left : List ℕ
  -- how often the inputs failed, counted up to 2 ^ 64 - 1
  pub faults : ℕ
