-- Lists whose elements correspond place by place.
use Rattle.std.proofs.Common.{◌≡◌, List, [], ◌∷◌, ◌++◌, map, refl, ap, subst, ◌∙◌, inl, inr}
use Rattle.std.specs.List.{AllZip, flat_map}
use Rattle.gim_text.proofs.Membership.{Has}

-- what stands beside an element of the first list, and of the second
pub beside_first : {A B : Type 0} (R : A → B → Type 0) (xs : List A) (ys : List B) → AllZip R xs ys → (x : A) → Has xs x
    → (y : B) × Has ys y × R x y
beside_first R [] ys pairs x h = absurd h
beside_first R (a ∷ xs) [] pairs x h = absurd pairs
beside_first R (a ∷ xs) (b ∷ ys) pairs x (inl e) = (b, inl refl, subst (λ z. R z b) e pairs.0)
beside_first R (a ∷ xs) (b ∷ ys) pairs x (inr h) = let r = beside_first R xs ys pairs.1 x h in (r.0, inr r.1, r.2)

pub beside_second : {A B : Type 0} (R : A → B → Type 0) (xs : List A) (ys : List B) → AllZip R xs ys → (y : B)
    → Has ys y → (x : A) × Has xs x × R x y
beside_second R xs [] pairs y h = absurd h
beside_second R [] (b ∷ ys) pairs y h = absurd pairs
beside_second R (a ∷ xs) (b ∷ ys) pairs y (inl e) = (a, inl refl, subst (λ z. R a z) e pairs.0)
beside_second R (a ∷ xs) (b ∷ ys) pairs y (inr h) = let r = beside_second R xs ys pairs.1 y h in (r.0, inr r.1, r.2)

-- a weaker relation
pub paired_by : {A B : Type 0} (R S : A → B → Type 0) (xs : List A) (ys : List B) → AllZip R xs ys → ((x : A) (y : B) → R x y → S x y)
    → AllZip S xs ys
paired_by R S [] [] pairs weaker = tt
paired_by R S [] (b ∷ ys) pairs weaker = absurd pairs
paired_by R S (a ∷ xs) [] pairs weaker = absurd pairs
paired_by R S (a ∷ xs) (b ∷ ys) pairs weaker = (weaker a b pairs.0, paired_by R S xs ys pairs.1 weaker)

-- where each element is the image of the one beside it, or all that this one gives
pub map_is : {A B : Type 0} (R : A → B → Type 0) (v : A → B) (xs : List A) (ys : List B) → AllZip R xs ys
    → ((x : A) (y : B) → Has ys y → R x y → v x ≡ y) → map v xs ≡ ys
map_is R v [] [] pairs each = refl
map_is R v [] (b ∷ ys) pairs each = absurd pairs
map_is R v (a ∷ xs) [] pairs each = absurd pairs
map_is R v (a ∷ xs) (b ∷ ys) pairs each =
    ap (λ z. z ∷ map v xs) (each a b (inl refl) pairs.0) ∙ ap (λ l. b ∷ l) (map_is R v xs ys pairs.1 (λ x y there. each x y (inr there)))

pub flat_map_is : {A B : Type 0} (R : A → B → Type 0) (v : A → List B) (xs : List A) (ys : List B) → AllZip R xs ys
    → ((x : A) (y : B) → Has ys y → R x y → v x ≡ y ∷ []) → flat_map v xs ≡ ys
flat_map_is R v [] [] pairs each = refl
flat_map_is R v [] (b ∷ ys) pairs each = absurd pairs
flat_map_is R v (a ∷ xs) [] pairs each = absurd pairs
flat_map_is R v (a ∷ xs) (b ∷ ys) pairs each =
    ap (λ l. l ++ flat_map v xs) (each a b (inl refl) pairs.0)
    ∙ ap (λ l. b ∷ l) (flat_map_is R v xs ys pairs.1 (λ x y there. each x y (inr there)))

pub nothing_is : {A B C : Type 0} (R : A → B → Type 0) (v : A → List C) (xs : List A) (ys : List B) → AllZip R xs ys
    → ((x : A) (y : B) → R x y → v x ≡ []) → flat_map v xs ≡ []
nothing_is R v [] ys pairs each = refl
nothing_is R v (a ∷ xs) [] pairs each = absurd pairs
nothing_is R v (a ∷ xs) (b ∷ ys) pairs each = ap (λ l. l ++ flat_map v xs) (each a b pairs.0) ∙ nothing_is R v xs ys pairs.1 each

-- ---- images

pub same_images : {X Y A : Type 0} (R : X → Y → Type 0) (g : X → A) (h : Y → A) (xs : List X) (ys : List Y)
    → ((x : X) (y : Y) → R x y → g x ≡ h y)
    → AllZip R xs ys → map g xs ≡ map h ys
same_images R g h [] [] each pairs = refl
same_images R g h [] (y ∷ ys) each pairs = absurd pairs
same_images R g h (x ∷ xs) [] each pairs = absurd pairs
same_images R g h (x ∷ xs) (y ∷ ys) each pairs =
    ap (λ a. a ∷ map g xs) (each x y pairs.0) ∙ ap (λ l. h y ∷ l) (same_images R g h xs ys each pairs.1)

pub same_flat_images : {X Y A : Type 0} (R : X → Y → Type 0) (g : X → List A) (h : Y → List A) (xs : List X) (ys : List Y)
    → ((x : X) (y : Y) → R x y → g x ≡ h y) → AllZip R xs ys → flat_map g xs ≡ flat_map h ys
same_flat_images R g h [] [] each pairs = refl
same_flat_images R g h [] (y ∷ ys) each pairs = absurd pairs
same_flat_images R g h (x ∷ xs) [] each pairs = absurd pairs
same_flat_images R g h (x ∷ xs) (y ∷ ys) each pairs = ap (λ a. a ++ flat_map g xs) (each x y pairs.0)
    ∙ ap (λ l. h y ++ l) (same_flat_images R g h xs ys each pairs.1)
