use Rattle.std.proofs.Common.{◌≡◌, drop}
use Rattle.ring_forms.specs.Forms.{sum_form}
use Rattle.ring_forms.proofs.arithmetic.sum.Given as goal

abbrev pub invariant-loop-part : goal.invariant-loop-part
invariant-loop-part l = sum_form l.ty.width (drop l.part-index l.first) l.form ≡ sum_form l.ty.width l.first l.second
