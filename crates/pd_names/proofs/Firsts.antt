-- The first of two numbers that is there, and of three.
use Rattle.std.proofs.Common.{◌≡◌, ℕ, Option, Some, None, refl}
use Rattle.pd_pattern_names.specs.Known.{or_else}

pub or_none : (a : Option ℕ) → or_else a None ≡ a
or_none None = refl
or_none (Some n) = refl

pub or_or : (a b c : Option ℕ) → or_else (or_else a b) c ≡ or_else a (or_else b c)
or_or None b c = refl
or_or (Some n) b c = refl
