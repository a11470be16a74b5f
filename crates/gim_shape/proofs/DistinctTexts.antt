-- Texts of which no two are the same.
use Rattle.std.proofs.Common.{◌≡◌, ℕ, ◌+◌, ◌<◌, Bool, true, false, List, [], ◌∷◌, ◌++◌, length, get_or, map, take, drop, refl, sym, ap, ◌∙◌}
use Rattle.std.specs.Prelude.{not, ◌&&◌, ◌||◌}
use Rattle.std.specs.List.{list_any, list_all}
use Rattle.std.proofs.lemmas.List.Folds.{list_any-append}
use Rattle.std.proofs.lemmas.List.{map-append, take-append-drop}
use Rattle.std.proofs.lemmas.Bool.{and_parts, and_from, and_left, and_right}
use Rattle.gim_ast.specs.WellFormed.{same_text, all_distinct}
use Rattle.gim_shape.specs.Blocks.{is_among}
use Rattle.gim_shape.specs.Phis.{is_each_once}
use Rattle.gim_text.proofs.FrontsAndRests.{drop_step}
use Rattle.gim_text.proofs.SameTexts.{same_text_symm}

pub not_false : (a : Bool) → not a ≡ false → a ≡ true
not_false true h = refl
not_false false h = sym h

pub not_true : (a : Bool) → not a ≡ true → a ≡ false
not_true true h = sym h
not_true false h = refl

neither : (a b : Bool) → not a ≡ true → b ≡ false → not (a || (b || false)) ≡ true
neither true b h e = absurd cc
neither false true h e = absurd cc
neither false false h e = refl

not_first : (a b : Bool) → (a || b) ≡ false → (a ≡ false) × (b ≡ false)
not_first true b h = absurd cc
not_first false b h = (refl, h)

pub distinct_more : (texts : List (List ℕ)) (text : List ℕ) → all_distinct same_text texts ≡ true
    → is_among texts text ≡ false → all_distinct same_text (texts ++ text ∷ []) ≡ true
distinct_more [] text distinct new = refl
distinct_more (t ∷ texts) text distinct new =
    let d = and_parts (not (list_any (same_text t) texts)) (all_distinct same_text texts) distinct in
    let n = not_first (same_text text t) (is_among texts text) new in
    and_from (not (list_any (same_text t) (texts ++ text ∷ []))) (all_distinct same_text (texts ++ text ∷ []))
    (rw (list_any-append (same_text t) texts (text ∷ []))
    (neither (list_any (same_text t) texts) (same_text t text) d.0 (same_text_symm t text ∙ n.0)))
    (distinct_more texts text d.1 n.1)

twice : (a b : Bool) → b ≡ true → not (a || (b || false)) ≡ false
twice true b e = refl
twice false b e = rw e refl

here_again : (t text : List ℕ) (texts more : List (List ℕ)) → same_text text t ≡ true
    → not (list_any (same_text t) (texts ++ text ∷ more)) ≡ false
here_again t text [] more e = rw (same_text_symm t text, e) refl
here_again t text (u ∷ texts) more e =
    later (same_text t u) (list_any (same_text t) (texts ++ text ∷ more)) (here_again t text texts more e) where
      later : (a b : Bool) → not b ≡ false → not (a || b) ≡ false
      later true b h = refl
      later false b h = h

pub not_distinct : (texts more : List (List ℕ)) (text : List ℕ) → is_among texts text ≡ true
    → all_distinct same_text (texts ++ text ∷ more) ≡ false
not_distinct [] more text again = absurd cc
not_distinct (t ∷ texts) more text again = first (same_text text t) refl again (not_distinct texts more text) where
  first : (b : Bool) → same_text text t ≡ b → (b || is_among texts text) ≡ true
      → (is_among texts text ≡ true → all_distinct same_text (texts ++ text ∷ more) ≡ false)
      → all_distinct same_text ((t ∷ texts) ++ text ∷ more) ≡ false
  first true e h further =
      and_left (not (list_any (same_text t) (texts ++ text ∷ more))) (all_distinct same_text (texts ++ text ∷ more))
      (here_again t text texts more e)
  first false e h further =
      and_right (not (list_any (same_text t) (texts ++ text ∷ more))) (all_distinct same_text (texts ++ text ∷ more))
      (further h)

-- an element of which the text stands among those of the elements before it
pub not_distinct_at : {X : Type 0} (f : X → List ℕ) (xs : List X) (i : ℕ) (x : X) → i < length xs → x ≡ get_or xs i x
    → is_among (map f (take i xs)) (f x) ≡ true
    → all_distinct same_text (map f xs) ≡ false
not_distinct_at f xs i x lt is again =
    let parts : take i xs ++ x ∷ drop (i + 1) xs ≡ xs = ap (λ ys. take i xs ++ ys) (sym (drop_step xs i x lt is)) ∙ take-append-drop i xs in
    let mapped : map f (take i xs) ++ f x ∷ map f (drop (i + 1) xs) ≡ map f xs =
    sym (map-append f (take i xs) (x ∷ drop (i + 1) xs)) ∙ ap (map f) parts in
    rw (← mapped) (not_distinct (map f (take i xs)) (map f (drop (i + 1) xs)) (f x) again)

all_alike : (f g : List ℕ → Bool) (texts : List (List ℕ)) → ((text : List ℕ) → f text ≡ g text) → list_all f texts ≡ list_all g texts
all_alike f g [] same = refl
all_alike f g (t ∷ texts) same = rw (same t, all_alike f g texts same) refl

pub each_once_known : (wanted texts : List (List ℕ)) (f g : List ℕ → Bool) → all_distinct same_text texts ≡ true
    → ((text : List ℕ) → f text ≡ is_among wanted text)
    → ((text : List ℕ) → g text ≡ is_among texts text) → (list_all f texts && list_all g wanted) ≡ is_each_once wanted texts
each_once_known wanted texts f g distinct is_wanted is_there =
    rw (distinct, all_alike f (is_among wanted) texts is_wanted, all_alike g (is_among texts) wanted is_there) refl
