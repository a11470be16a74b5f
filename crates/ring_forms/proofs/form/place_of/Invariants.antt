use Rattle.std.proofs.Common.{◌≡◌, ◌+◌, drop}
use Rattle.ring_forms.specs.Places.{form_place}
use Rattle.ring_forms.proofs.form.place_of.Given as goal

abbrev pub invariant-loop-i : goal.invariant-loop-i
invariant-loop-i l = l.i + form_place l.atoms (drop l.i l.form) ≡ form_place l.atoms l.form
