-- Tables of texts, one step further.
use Rattle.std.proofs.Common.{◌≡◌, ℕ, Bool, true, false, cond, List, [], ◌∷◌, ◌++◌, Option, Some, None, Vec, append-nil, refl, sym, ap, ◌∙◌}
use Rattle.std.specs.Prelude.{if◌then◌else◌, ◌||◌}
use Rattle.std.specs.Option.{option_map_or}
use Rattle.std.proofs.lemmas.List.Folds.{list_any-append}
use Rattle.gim_ast.specs.WellFormed.{same_text}
use Rattle.pm_places.specs.declared.span.Span.{Span}
use Rattle.gim_shape.specs.Blocks.{is_among}
use Rattle.gim_text.proofs.SameTexts.{same_text_symm}

either_way : (a b c d : Bool) → a ≡ b → c ≡ d → cond a true c ≡ (d || (b || false))
either_way true true c true e f = refl
either_way true true c false e f = refl
either_way false false c true e f = f
either_way false false c false e f = f
either_way true false c d e f = absurd cc
either_way false true c d e f = absurd cc

-- a text is among some and one more
pub among_more : (texts : List (List ℕ)) (text q : List ℕ) (old new : Bool) → new ≡ cond (same_text text q) true old
    → old ≡ is_among texts q
    → new ≡ is_among (texts ++ text ∷ []) q
among_more texts text q old new adds has =
    adds ∙ either_way (same_text text q) (same_text q text) old (is_among texts q) (same_text_symm text q) has
    ∙ sym (list_any-append (same_text q) texts (text ∷ []))

abbrev pub places_in : {A : Type 0} → Option (Vec Span A) → List Span
places_in found = option_map_or (λ v. v.items) found []

-- what a table has for another text than the one that was taken out
pub other_place : {A : Type 0} (same : Bool) (now past : Option (Vec Span A)) → now ≡ cond same None past → same ≡ false
    → places_in now ≡ places_in past
other_place true now past is other = absurd cc
other_place false now past is other = ap places_in is

-- what a table has for one text, after a place was added for a text that is the same or another
pub put_place : {A : Type 0} (same same' : Bool) (now past : Option (Vec Span A)) (after : Vec Span A)
    (taken before : List Span) (from : Span)
    → now ≡ cond same (Some after) past → (same ≡ false → places_in past ≡ before) → (same ≡ true → taken ≡ before) → same ≡ same'
    → after.items ≡ taken ++ from ∷ [] → places_in now ≡ before ++ (if same' then from ∷ [] else [])
put_place true true now past after taken before from is other here e new = rw is (new ∙ ap (λ xs. xs ++ from ∷ []) (here refl))
put_place false false now past after taken before from is other here e new = rw is (other refl ∙ sym (append-nil before))
put_place true false now past after taken before from is other here e new = absurd cc
put_place false true now past after taken before from is other here e new = absurd cc
