use Rattle.std.proofs.Common.{◌≡◌, drop}
use Rattle.ring_forms.specs.Digests.{form_digest}
use Rattle.ring_forms.proofs.table.form_digest.Given as goal

abbrev pub invariant-loop-part : goal.invariant-loop-part
invariant-loop-part l = form_digest l.digest (drop l.part-index l.form) ≡ form_digest l.from l.form
