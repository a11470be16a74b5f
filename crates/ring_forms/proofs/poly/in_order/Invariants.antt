use Rattle.std.proofs.Common.{◌≡◌, ◌-◌, drop, length}
use Rattle.ring_forms.specs.Polynomials.{in_rank_order}
use Rattle.ring_forms.proofs.poly.in_order.Given as goal

abbrev pub invariant-loop-i : goal.invariant-loop-i
invariant-loop-i l = l.made ≡ in_rank_order (drop (length l.form - l.i) l.form)
