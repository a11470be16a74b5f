use Rattle.std.proofs.Common.{◌≡◌, ◌+◌, ◌≤◌, ◌-◌, ◌^◌, drop}
use Rattle.std.specs.Prelude.{min}
use Rattle.justify.specs.Enumeration.{bits_of}
use Rattle.justify.proofs.names.bits_of.Given as goal

abbrev pub invariant-loop-ty : goal.invariant-loop-ty
invariant-loop-ty l = (min (l.bits + bits_of (drop l.ty-index l.names)) (2 ^ 64 - 1) ≡ min (bits_of l.names) (2 ^ 64 - 1)) × (l.bits ≤ 2 ^ 64 - 1)
