use Rattle.std.proofs.Common.{◌≡◌, drop}
use Rattle.ring_forms.specs.Forms.{part_times}
use Rattle.ring_forms.proofs.arithmetic.add_products.Given as goal

abbrev pub invariant-loop-other : goal.invariant-loop-other
invariant-loop-other l = part_times l.ty.width l.part (drop l.other-index l.second) l.form ≡ part_times l.ty.width l.part l.second l.initial.form
