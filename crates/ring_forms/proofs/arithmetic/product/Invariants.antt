use Rattle.std.proofs.Common.{◌≡◌, drop, []}
use Rattle.ring_forms.specs.Forms.{form_times}
use Rattle.ring_forms.proofs.arithmetic.product.Given as goal

abbrev pub invariant-loop-part : goal.invariant-loop-part
invariant-loop-part l = form_times l.ty.width (drop l.part-index l.first) l.second l.form ≡ form_times l.ty.width l.first l.second []
