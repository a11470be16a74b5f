-- Types that the test of sameness takes for one are one.
use Rattle.std.proofs.Common.{◌≡◌, ◌==◌, Bool, true, false, refl, ap, sym, ◌∙◌, eqb-true}
use Rattle.std.specs.Prelude.{not, if◌then◌else◌}
use Rattle.std.proofs.lemmas.Bool.{and_parts}
use Rattle.pm_wide.specs.Types.{Ty, same_type}

same_sign : (a b : Bool) → (if a then b else not b) ≡ true → a ≡ b
same_sign true true h = refl
same_sign false false h = refl
same_sign true false h = sym h
same_sign false true h = h

pub same_type_is : (a b : Ty) → same_type a b ≡ true → a ≡ b
same_type_is a b h =
    let parts = and_parts (a.width == b.width) (if a.unsigned then b.unsigned else not b.unsigned) h in
    let width : a.width ≡ b.width = eqb-true a.width b.width parts.0 in
    let sign : a.unsigned ≡ b.unsigned = same_sign a.unsigned b.unsigned parts.1 in
    ap (λ w. record { width = w; unsigned = a.unsigned }) width ∙ ap (λ u. record { width = b.width; unsigned = u }) sign
