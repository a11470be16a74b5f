-- A choice of two tests, the second asked only where the first fails.
use Rattle.std.proofs.Common.{◌≡◌, Bool, true, false}
use Rattle.std.specs.Prelude.{◌||◌}

pub or_first : (a b x : Bool) → x ≡ a → x ≡ true → x ≡ (a || b)
or_first true b x is holds = holds
or_first false b x is holds = absurd cc

pub or_second : (a b x y : Bool) → x ≡ a → x ≡ false → y ≡ b → y ≡ (a || b)
or_second true b x y is fails other = absurd cc
or_second false b x y is fails other = other
