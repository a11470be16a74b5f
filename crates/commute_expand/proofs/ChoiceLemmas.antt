-- Choices from lists of one element, and how many choices there are.
use Rattle.std.proofs.Common.{◌≡◌, ℕ, ◌*◌, List, [], ◌∷◌, ◌++◌, length, map, refl, sym, ap, ◌∙◌, append_assoc, arith}
use Rattle.std.proofs.lemmas.List.{append-nil, length-append}
use Rattle.commute_expand.specs.Choices.{one_followed, followed, choices_behind, choices}

-- a choice from lists of one element each is those elements
single_choices : {A : Type 0} (front args : List A) → choices_behind (front ∷ []) (map (λ a. a ∷ []) args) ≡ (front ++ args) ∷ []
single_choices front [] = ap (λ f. f ∷ []) (sym (append-nil front))
single_choices front (a ∷ args) = single_choices (front ++ a ∷ []) args ∙ ap (λ f. f ∷ []) (append_assoc front (a ∷ []) args)

pub only_choice : {A : Type 0} (args : List A) → choices (map (λ a. a ∷ []) args) ≡ args ∷ []
only_choice args = single_choices [] args

length-one_followed : {A : Type 0} (front xs : List A) → length (one_followed front xs) ≡ length xs
length-one_followed front [] = refl
length-one_followed front (x ∷ xs) = omega (arith, length-one_followed front xs)

length-followed : {A : Type 0} (fronts : List (List A)) (xs : List A) → length (followed fronts xs) ≡ length fronts * length xs
length-followed [] xs = omega arith
length-followed (front ∷ fronts) xs =
    let here = length-one_followed front xs in
    let all = length-append (one_followed front xs) (followed fronts xs) in
    let rest = length-followed fronts xs in
    omega arith

-- how many choices there are, by the lengths of the lists
abbrev pub lengths_product : {A : Type 0} → List (List A) → ℕ
lengths_product [] = 1
lengths_product (xs ∷ xss) = length xs * lengths_product xss

pub length-choices_behind : {A : Type 0} (fronts xss : List (List A)) → length (choices_behind fronts xss) ≡ length fronts * lengths_product xss
length-choices_behind fronts [] = omega arith
length-choices_behind fronts (xs ∷ xss) =
    length-choices_behind (followed fronts xs) xss ∙ ap (λ n. n * lengths_product xss) (length-followed fronts xs) ∙ omega arith

pub length-choices : {A : Type 0} (xss : List (List A)) → length (choices xss) ≡ lengths_product xss
length-choices xss = length-choices_behind ([] ∷ []) xss ∙ omega arith
