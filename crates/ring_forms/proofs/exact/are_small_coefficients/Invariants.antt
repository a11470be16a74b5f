use Rattle.std.proofs.Common.{◌≡◌, drop}
use Rattle.std.specs.List.{list_all}
use Rattle.ring_forms.specs.ExactTables.{is_small}
use Rattle.ring_forms.proofs.exact.are_small_coefficients.Given as goal

abbrev pub invariant-loop-part : goal.invariant-loop-part
invariant-loop-part l = list_all (λ p. is_small p.coefficient) (drop l.part-index l.form) ≡ list_all (λ p. is_small p.coefficient) l.form
