use Rattle.std.proofs.Common.{◌≡◌, ◌-◌, ◌^◌, sym, subst, ◌∙◌, arith}
use Rattle.std.specs.Prelude.{min}
use Rattle.justify.specs.Choices.{AreNamed}
use Rattle.justify.specs.Enumeration.{bits_of}
use Rattle.justify.proofs.Choosing.{named}
use Rattle.justify.proofs.EnumerationLaw.{answer}
use Rattle.justify.proofs.Results.{if_ok}
use Rattle.justify.proofs.enumeration.are_enumerated.Goals as goal

pub holds_everywhere-requires-clause-named : goal.holds_everywhere-requires-clause-named
holds_everywhere-requires-clause-named c =
    subst (λ ns. AreNamed ns c.args.left.now c.args.right.now) (sym (c.as_slice-2.ensures ∙ c.in_ok-names.ensures)) (named c.args.left.now c.args.right.now)

pub returns : goal.returns
returns c =
    if_ok _ _ c.holds_everywhere.result
    (λ b. answer c.args.left.now c.args.right.now c.term-left_typed.ensures.well_typed c.term-right_typed.ensures.well_typed
    c.as_slice-2.result.now c.bits_of-bits.result (c.as_slice-2.ensures ∙ c.in_ok-names.ensures) (subst (λ ns. c.bits_of-bits.result ≡ min (bits_of ns) (2 ^ 64 - 1)) (c.as_slice.ensures ∙ sym c.as_slice-2.ensures) c.bits_of-bits.ensures) (omega arith) b)
    c.holds_everywhere.ensures
