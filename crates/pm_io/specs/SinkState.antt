-- What contracts see of a sink.
use Rattle.std.specs.Prelude.{ℕ, List, Option}

pub record SinkState : Type 0 where
  -- the bytes that were taken so far; `None` where the sink doesn't tell them
  pub taken : Option (List ℕ)
  -- how many bytes in all it takes before a write fails; `None` where it promises nothing of the kind
  pub room : Option ℕ
  -- how often the sink failed, counted up to 2 ^ 64 - 1
  pub faults : ℕ
