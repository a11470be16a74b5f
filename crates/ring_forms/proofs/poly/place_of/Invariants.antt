use Rattle.std.proofs.Common.{◌≡◌, ◌+◌, drop}
use Rattle.ring_forms.specs.Polynomials.{ranked_place}
use Rattle.ring_forms.proofs.poly.place_of.Given as goal

abbrev pub invariant-loop-i : goal.invariant-loop-i
invariant-loop-i l = l.i + ranked_place l.own (drop l.i l.made) ≡ ranked_place l.own l.made
