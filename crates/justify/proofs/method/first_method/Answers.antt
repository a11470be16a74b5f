use Rattle.std.proofs.Common.{refl}
use Rattle.std.specs.Prelude.{IsTrue}
use Rattle.justify.proofs.method.first_method.Goals as goal

pub returns-then-branch-4 : goal.returns-then-branch-4
returns-then-branch-4 c =
    let no_sum = c.if-branch.false in
    let no_bit = c.if-branch-2.false in
    let no_order = c.if-branch-3.false in (
      c.if-not-are_within_limits.ensures.0 refl,
      (λ h. let t : IsTrue c.in_ok-are_equal_as_sums.field-0 = c.in_ok-are_equal_as_sums.ensures.1 h in cc),
      (λ h. let t : IsTrue c.in_ok-are_equal_as_bits.field-0 = c.in_ok-are_equal_as_bits.ensures.1 h in cc),
      (λ h. let t : IsTrue c.in_ok-are_equal_by_order.field-0 = c.in_ok-are_equal_by_order.ensures.1 h in cc),
      c.in_ok-are_enumerated.ensures.0 c.if-branch-4.true,
    )

pub returns-then-branch-3 : goal.returns-then-branch-3
returns-then-branch-3 c =
    let no_sum = c.if-branch.false in
    let no_bit = c.if-branch-2.false in (
      c.if-not-are_within_limits.ensures.0 refl,
      (λ h. let t : IsTrue c.in_ok-are_equal_as_sums.field-0 = c.in_ok-are_equal_as_sums.ensures.1 h in cc),
      (λ h. let t : IsTrue c.in_ok-are_equal_as_bits.field-0 = c.in_ok-are_equal_as_bits.ensures.1 h in cc),
      c.in_ok-are_equal_by_order.ensures.0 c.if-branch-3.true,
    )
