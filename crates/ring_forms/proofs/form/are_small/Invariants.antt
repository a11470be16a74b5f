use Rattle.std.proofs.Common.{◌≡◌, drop, length}
use Rattle.std.specs.Prelude.{nat_le}
use Rattle.std.specs.List.{list_all}
use Rattle.ring_forms.proofs.form.are_small.Given as goal

abbrev pub invariant-loop-part : goal.invariant-loop-part
invariant-loop-part l =
    list_all (λ p. nat_le (length p.atoms) 8) (drop l.part-index l.form) ≡ list_all (λ p. nat_le (length p.atoms) 8) l.form
