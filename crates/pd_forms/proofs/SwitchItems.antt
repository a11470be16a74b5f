-- The loop over the items of a `switch`: whether the last is a case, and what a step reads.
use Rattle.std.proofs.Common.{◌≡◌, Bool, true, false, ◌&&◌, if◌then◌else◌, List, [], ◌∷◌, ◌++◌, Some, None, refl, ap, ◌∙◌}
use Rattle.grammar.specs.Reading.{first_is, and_item}
use Rattle.pd_text.specs.declared.symbol.Symbol.{Symbol}
use Rattle.pd_forms.specs.SymbolReaders.{Read}
use Rattle.pd_forms.specs.Results.{Result}
use Rattle.pd_forms.specs.LeafReaders.{begins_result}
use Rattle.pd_forms.specs.ResultReaders.{Inner, is_case, ends_with_case, switch_step}

pub ends_with_last : (before : List Result) (x : Result) → ends_with_case (before ++ x ∷ []) ≡ is_case x
ends_with_last [] x = refl
ends_with_last (r ∷ []) x = refl
ends_with_last (r ∷ s ∷ rs) x = ends_with_last (s ∷ rs) x

both : {X : Type 0} (p q : Bool) (a : X) → p ≡ true → q ≡ true → (if p && q then Some a else None) ≡ Some a
both true true a p q = refl
both true false a p q = absurd (cc)
both false r a p q = absurd (cc)

pub item_step : (inner : Inner) (before : List Result) (input : List Symbol) (answer : Read (List Result)) → ends_with_case before ≡ true → first_is begins_result input ≡ true
    → and_item before (inner input) ≡ answer → switch_step inner before input ≡ Some answer
item_step inner before input answer after_case begun is =
    both (ends_with_case before) (first_is begins_result input) (and_item before (inner input)) after_case begun ∙ ap (λ a. Some a) is
