use Rattle.std.proofs.Common.{◌≡◌, take}
use Rattle.ring_forms.proofs.form.copied.Given as goal

abbrev pub invariant-loop-part : goal.invariant-loop-part
invariant-loop-part l = l.made ≡ take l.part-index l.form
