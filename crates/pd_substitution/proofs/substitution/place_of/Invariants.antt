use Rattle.std.proofs.Common.{◌≡◌, ◌+◌, drop}
use Rattle.pd_substitution.specs.Chosen.{place_of}
use Rattle.pd_substitution.proofs.substitution.place_of.Given as goal

abbrev pub invariant-loop-i : goal.invariant-loop-i
invariant-loop-i l = l.i + place_of (drop l.i l.names) l.name ≡ place_of l.names l.name
