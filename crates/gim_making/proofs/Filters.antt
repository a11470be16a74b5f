-- Filters of lists: of one element more, and of two lists that give the same.
use Rattle.std.proofs.lemmas.List.Elements.{filter_map-append}
use Rattle.std.proofs.Common.{◌≡◌, Option, Some, None, List, [], ◌∷◌, map, option_map, refl}
use Rattle.std.proofs.Common.{ap, ◌∙◌, inl, inr, ℕ, ◌+◌, ◌<◌, ◌++◌, length, get_or, take}
use Rattle.std.specs.List.{filter_map, cons_option}
use Rattle.gim_text.proofs.FrontsAndRests.{take_step}
use Rattle.gim_text.proofs.Membership.{Has}

pub kept_of_images : {X Y Z : Type 0} (picks : X → Option Z) (others : Y → Option Z) (v : X → Y)
    → ((x : X) → picks x ≡ others (v x)) → (xs : List X)
    → filter_map picks xs ≡ filter_map others (map v xs)
kept_of_images picks others v same [] = refl
kept_of_images picks others v same (x ∷ xs) = ap (λ o. cons_option o (filter_map picks xs)) (same x)
    ∙ ap (λ l. cons_option (others (v x)) l) (kept_of_images picks others v same xs)

pub images_kept : {X Y Z : Type 0} (picks : X → Option Z) (others : X → Option Y) (g : Y → Z) (xs : List X)
    → ((x : X) → Has xs x → picks x ≡ option_map g (others x)) → filter_map picks xs ≡ map g (filter_map others xs)
images_kept picks others g [] same = refl
images_kept picks others g (x ∷ xs) same =
    ap (λ o. cons_option o (filter_map picks xs)) (same x (inl refl))
    ∙ ap (λ l. cons_option (option_map g (others x)) l) (images_kept picks others g xs (λ y there. same y (inr there)))
    ∙ by (others x) where
      by : (o : Option _) → cons_option (option_map g o) (map g (filter_map others xs)) ≡ map g (cons_option o (filter_map others xs))
      by None = refl
      by (Some y) = refl

-- a filter of one element more
pub filter_map_more : {X Y : Type 0} (h : X → Option Y) (xs : List X) (i : ℕ) (x : X) → i < length xs
    → x ≡ get_or xs i x → filter_map h (take (i + 1) xs) ≡ filter_map h (take i xs) ++ cons_option (h x) []
filter_map_more h xs i x lt is = ap (filter_map h) (take_step xs i x lt is) ∙ filter_map-append h (take i xs) (x ∷ [])
