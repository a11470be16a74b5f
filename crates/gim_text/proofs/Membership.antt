-- What stands in a list.
use Rattle.std.proofs.Common.{◌≡◌, ◌⊎◌, suc, Bool, true, false, List, [], ◌∷◌, ◌++◌, map, Contains}
use Rattle.std.proofs.Common.{Option, Some, None, refl, sym, ap, subst, ◌∙◌, inl, inr, arith}
use Rattle.std.specs.Prelude.{◌||◌}
use Rattle.std.specs.List.{flat_map, filter_map, cons_option, list_any, list_all, AllByRecursion}
use Rattle.std.proofs.lemmas.Bool.{and_parts, and_from, false≢true}
use Rattle.std.proofs.lemmas.Grind.{flat_map-append}

-- the element is in the list
abbrev pub Has : {X : Type 0} → List X → X → Type 0
Has [] x = ⊥
Has (y ∷ ys) x = (y ≡ x) ⊎ Has ys x

pub has_contains : {X : Type 0} (xs : List X) (x : X) → Has xs x → Contains xs x
has_contains [] x h = absurd h
has_contains (y ∷ ys) x (inl e) = (0, omega arith, e)
has_contains (y ∷ ys) x (inr h) = let c = has_contains ys x h in (suc c.0, omega (arith, c.1), c.2)

-- ---- in parts

pub has_left : {X : Type 0} (xs ys : List X) (x : X) → Has xs x → Has (xs ++ ys) x
has_left [] ys x h = absurd h
has_left (y ∷ xs) ys x (inl e) = inl e
has_left (y ∷ xs) ys x (inr h) = inr (has_left xs ys x h)

pub has_right : {X : Type 0} (xs ys : List X) (x : X) → Has ys x → Has (xs ++ ys) x
has_right [] ys x h = h
has_right (y ∷ xs) ys x h = inr (has_right xs ys x h)

pub has_either : {X : Type 0} (xs ys : List X) (x : X) → Has (xs ++ ys) x → Has xs x ⊎ Has ys x
has_either [] ys x h = inr h
has_either (y ∷ xs) ys x (inl e) = inl (inl e)
has_either (y ∷ xs) ys x (inr h) = elim (has_either xs ys x h) [ inl l ↦ inl (inr l) | inr r ↦ inr r ]

-- ---- in images

pub has_map : {X Y : Type 0} (f : X → Y) (xs : List X) (x : X) → Has xs x → Has (map f xs) (f x)
has_map f [] x h = absurd h
has_map f (y ∷ xs) x (inl e) = inl (ap f e)
has_map f (y ∷ xs) x (inr h) = inr (has_map f xs x h)

pub from_map : {X Y : Type 0} (f : X → Y) (xs : List X) (y : Y) → Has (map f xs) y → (x : X) × Has xs x × (f x ≡ y)
from_map f [] y h = absurd h
from_map f (x ∷ xs) y (inl e) = (x, inl refl, e)
from_map f (x ∷ xs) y (inr h) = let r = from_map f xs y h in (r.0, inr r.1, r.2)

pub has_flat : {X Y : Type 0} (f : X → List Y) (xs : List X) (x : X) (y : Y) → Has xs x → Has (f x) y → Has (flat_map f xs) y
has_flat f [] x y h there = absurd h
has_flat f (z ∷ xs) x y (inl e) there = has_left (f z) (flat_map f xs) y (subst (λ w. Has (f w) y) (sym e) there)
has_flat f (z ∷ xs) x y (inr h) there = has_right (f z) (flat_map f xs) y (has_flat f xs x y h there)

flat_later : {X Y : Type 0} (f : X → List Y) (x : X) (xs : List X) (y : Y) → ((z : X) × Has xs z × Has (f z) y)
    → (z : X) × Has (x ∷ xs) z × Has (f z) y
flat_later f x xs y r = (r.0, inr r.1, r.2)

pub from_flat : {X Y : Type 0} (f : X → List Y) (xs : List X) (y : Y) → Has (flat_map f xs) y → (x : X) × Has xs x × Has (f x) y
from_flat f [] y h = absurd h
from_flat f (x ∷ xs) y h =
    elim (has_either (f x) (flat_map f xs) y h) [
      | inl l ↦ (x, inl refl, l)
      | inr r ↦ flat_later f x xs y
          (from_flat f xs y r)
    ]

-- ---- in what a filter keeps

with_later : {X : Type 0} (o : Option X) (xs : List X) (x : X) → Has xs x → Has (cons_option o xs) x
with_later None xs x h = h
with_later (Some y) xs x h = inr h

pub has_said : {M X : Type 0} (says : M → Option X) (ms : List M) (m : M) (x : X) → Has ms m → says m ≡ Some x → Has (filter_map says ms) x
has_said says [] m x h e = absurd h
has_said says (n ∷ ms) m x (inl same) e = let here : says n ≡ Some x = ap says same ∙ e in
    subst (λ o. Has (cons_option o (filter_map says ms)) x) (sym here) (inl refl)
has_said says (n ∷ ms) m x (inr h) e = with_later (says n) (filter_map says ms) x (has_said says ms m x h e)

said_by : {M X : Type 0} (says : M → Option X) (n : M) (ms : List M) (x : X) (o : Option X) → says n ≡ o
    → (Has (filter_map says ms) x → (m : M) × Has ms m × (says m ≡ Some x)) → Has (cons_option o (filter_map says ms)) x
    → (m : M) × Has (n ∷ ms) m × (says m ≡ Some x)
said_by says n ms x None is later h = let r = later h in (r.0, inr r.1, r.2)
said_by says n ms x (Some y) is later (inl e) = (n, inl refl, is ∙ ap Some e)
said_by says n ms x (Some y) is later (inr h) = let r = later h in (r.0, inr r.1, r.2)

pub from_said : {M X : Type 0} (says : M → Option X) (ms : List M) (x : X) → Has (filter_map says ms) x → (m : M)
    × Has ms m × (says m ≡ Some x)
from_said says [] x h = absurd h
from_said says (n ∷ ms) x h = said_by says n ms x (says n) refl (from_said says ms x) h

-- ---- tests

pub each_has : {X : Type 0} (P : X → Type 0) (xs : List X) → AllByRecursion P xs → (x : X) → Has xs x → P x
each_has P [] all x h = absurd h
each_has P (y ∷ xs) all x (inl e) = subst P e all.0
each_has P (y ∷ xs) all x (inr h) = each_has P xs all.1 x h

pub all_from_has : {X : Type 0} (p : X → Bool) (xs : List X) → ((x : X) → Has xs x → p x ≡ true) → list_all p xs ≡ true
all_from_has p [] h = refl
all_from_has p (x ∷ xs) h = and_from (p x) (list_all p xs) (h x (inl refl)) (all_from_has p xs (λ y there. h y (inr there)))

pub all_has : {X : Type 0} (p : X → Bool) (xs : List X) → list_all p xs ≡ true → (x : X) → Has xs x → p x ≡ true
all_has p [] all x h = absurd h
all_has p (y ∷ xs) all x (inl e) = subst (λ z. p z ≡ true) e (and_parts (p y) (list_all p xs) all).0
all_has p (y ∷ xs) all x (inr h) = all_has p xs (and_parts (p y) (list_all p xs) all).1 x h

any_by : (b c : Bool) → b ≡ true → (b || c) ≡ true
any_by true c h = refl
any_by false c h = absurd (false≢true h)

any_later : (b c : Bool) → c ≡ true → (b || c) ≡ true
any_later true c h = refl
any_later false c h = h

pub any_from_has : {X : Type 0} (p : X → Bool) (xs : List X) (x : X) → Has xs x → p x ≡ true → list_any p xs ≡ true
any_from_has p [] x h t = absurd h
any_from_has p (y ∷ xs) x (inl e) t = any_by (p y) (list_any p xs) (subst (λ z. p z ≡ true) (sym e) t)
any_from_has p (y ∷ xs) x (inr h) t = any_later (p y) (list_any p xs) (any_from_has p xs x h t)

any_here : {X : Type 0} (p : X → Bool) (y : X) (xs : List X) (b : Bool) → p y ≡ b
    → (list_any p xs ≡ true → (x : X) × Has xs x × (p x ≡ true)) → (b || list_any p xs) ≡ true → (x : X)
    × Has (y ∷ xs) x × (p x ≡ true)
any_here p y xs true is later any = (y, inl refl, is)
any_here p y xs false is later any = let r = later any in (r.0, inr r.1, r.2)

pub any_has : {X : Type 0} (p : X → Bool) (xs : List X) → list_any p xs ≡ true → (x : X) × Has xs x × (p x ≡ true)
any_has p [] any = absurd (false≢true any)
any_has p (y ∷ xs) any = any_here p y xs (p y) refl (λ later. any_has p xs later) any

-- no element passes
pub none_has : {X : Type 0} (p : X → Bool) (xs : List X) → list_any p xs ≡ false → (x : X) → Has xs x → p x ≡ true → ⊥
none_has p xs none_there x h t = false≢true (sym none_there ∙ any_from_has p xs x h t)

false_from : (b : Bool) → (b ≡ true → ⊥) → b ≡ false
false_from true h = absurd (h refl)
false_from false h = refl

pub none_from_has : {X : Type 0} (p : X → Bool) (xs : List X) → ((x : X) → Has xs x → p x ≡ true → ⊥) → list_any p xs ≡ false
none_from_has p xs h = false_from (list_any p xs) (λ any. let r = any_has p xs any in h r.0 r.1 r.2)

-- ---- images of images

pub flat_of_map : {X M A : Type 0} (P : M → List A) (v : X → M) (h : X → List A) (xs : List X)
    → ((x : X) → P (v x) ≡ h x) → flat_map P (map v xs) ≡ flat_map h xs
flat_of_map P v h [] each = refl
flat_of_map P v h (x ∷ xs) each = ap (λ l. l ++ flat_map P (map v xs)) (each x) ∙ ap (λ l. h x ++ l) (flat_of_map P v h xs each)

pub flat_of_flat : {X M A : Type 0} (P : M → List A) (v : X → List M) (h : X → List A) (xs : List X)
    → ((x : X) → Has xs x → flat_map P (v x) ≡ h x) → flat_map P (flat_map v xs) ≡ flat_map h xs
flat_of_flat P v h [] each = refl
flat_of_flat P v h (x ∷ xs) each =
    flat_map-append P (v x) (flat_map v xs) ∙ ap (λ l. l ++ flat_map P (flat_map v xs)) (each x (inl refl))
    ∙ ap (λ l. h x ++ l) (flat_of_flat P v h xs (λ y there. each y (inr there)))

pub flat_of_nothing : {X A : Type 0} (f : X → List A) (xs : List X) → ((x : X) → f x ≡ []) → flat_map f xs ≡ []
flat_of_nothing f [] each = refl
flat_of_nothing f (x ∷ xs) each = ap (λ l. l ++ flat_map f xs) (each x) ∙ flat_of_nothing f xs each

pub flat_of_map_at : {X M A : Type 0} (P : M → List A) (v : X → M) (h : X → List A) (xs : List X)
    → ((x : X) → Has xs x → P (v x) ≡ h x) → flat_map P (map v xs) ≡ flat_map h xs
flat_of_map_at P v h [] each = refl
flat_of_map_at P v h (x ∷ xs) each =
    ap (λ l. l ++ flat_map P (map v xs)) (each x (inl refl))
    ∙ ap (λ l. h x ++ l) (flat_of_map_at P v h xs (λ y there. each y (inr there)))

pub flat_same : {X A : Type 0} (f g : X → List A) (xs : List X) → ((x : X) → f x ≡ g x) → flat_map f xs ≡ flat_map g xs
flat_same f g [] each = refl
flat_same f g (x ∷ xs) each = ap (λ l. l ++ flat_map f xs) (each x) ∙ ap (λ l. g x ++ l) (flat_same f g xs each)

pub map-append : {X Y : Type 0} (f : X → Y) (xs ys : List X) → map f (xs ++ ys) ≡ map f xs ++ map f ys
map-append f [] ys = refl
map-append f (x ∷ xs) ys = ap (λ l. f x ∷ l) (map-append f xs ys)

pub map_of_flat : {X A B : Type 0} (f : A → B) (g : X → List A) (xs : List X) → map f (flat_map g xs) ≡ flat_map (λ x. map f (g x)) xs
map_of_flat f g [] = refl
map_of_flat f g (x ∷ xs) = map-append f (g x) (flat_map g xs) ∙ ap (λ l. map f (g x) ++ l) (map_of_flat f g xs)
