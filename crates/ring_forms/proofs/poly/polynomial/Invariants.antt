use Rattle.std.proofs.Common.{◌≡◌, take}
use Rattle.ring_forms.specs.Polynomials.{in_rank_order, terms_of}
use Rattle.ring_forms.proofs.poly.polynomial.Given as goal

abbrev pub invariant-loop-part : goal.invariant-loop-part
invariant-loop-part l = (l.terms ≡ terms_of l.nodes (take l.part-index l.part-items)) × (l.part-items ≡ in_rank_order l.form)
