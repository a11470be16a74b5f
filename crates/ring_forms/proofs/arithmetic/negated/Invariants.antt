use Rattle.std.proofs.Common.{◌≡◌, take}
use Rattle.ring_forms.specs.Forms.{negated_form}
use Rattle.ring_forms.proofs.arithmetic.negated.Given as goal

abbrev pub invariant-loop-part : goal.invariant-loop-part
invariant-loop-part l = l.made ≡ negated_form l.ty.width (take l.part-index l.form)
