-- What the definitions of values and names imply.
use Rattle.std.proofs.Common.{◌≡◌, ℕ, List, [], ◌∷◌, ◌++◌, Option, Some, None, map, refl, sym, ap, subst}
use Rattle.std.specs.Prelude.{IsTrue, All, IsSome}
use Rattle.std.proofs.lemmas.List.Elements.{All-nil, All-cons, All-head, All-tail, All-append}
use Rattle.pm_ops.specs.declared.code.Code.{Code}
use Rattle.pm_wide.specs.Types.{Ty, Word, IsType, IsWord}
use Rattle.pm_wide.specs.Typing.{well_typed_operation}
use Rattle.pm_wide.proofs.Results.{operation_word}
use Rattle.pm_term.specs.Trees.{Tree, name, constant, node, Trees, nil, cons, type_of, types_of, names_in, names_of, IsWellTyped, AreWellTyped}
use Rattle.pm_term.specs.Terms.{operation_on, with_value, term_value, term_values}
use Rattle.pm_term.specs.Environments.{GivesWords, word_of_name, HasNames, HaveNames}

-- ---- values are words

abbrev IsOf : Ty → Word → Type 0
IsOf ty r = (r.ty ≡ ty) × IsWord r

abbrev AreOf : List Ty → List Word → Type 0
AreOf tys rs = (map (λ (w : Word). w.ty) rs ≡ tys) × All IsWord rs

node_word : (code : Code) (ty : Ty) (tys : List Ty) (values : Option (List Word)) (r : Word) → IsType ty → IsTrue (well_typed_operation code ty tys)
    → ((rs : List Word) → values ≡ Some rs → AreOf tys rs) → operation_on code ty values ≡ Some r → IsOf ty r
node_word code ty tys None r known typed are e = cc
node_word code ty tys (Some rs) r known typed are e =
    let of = are rs refl in
    let is = operation_word code ty rs r (subst (λ us. IsTrue (well_typed_operation code ty us)) (sym of.0) typed) e in
    (is.0, is.1 (known, of.1))

more_words : (ty : Ty) (tys : List Ty) (value : Option Word) (values : Option (List Word)) (rs : List Word)
    → ((r : Word) → value ≡ Some r → IsOf ty r) → ((us : List Word) → values ≡ Some us → AreOf tys us)
    → with_value value values ≡ Some rs → AreOf (ty ∷ tys) rs
more_words ty tys None values rs is are e = cc
more_words ty tys (Some r) None rs is are e = cc
more_words ty tys (Some r) (Some us) rs is are e =
    let same : r ∷ us ≡ rs = cc in
    let first = is r refl in
    let rest = are us refl in
    subst (AreOf (ty ∷ tys)) same ((λ i. first.0 i ∷ rest.0 i), All-cons IsWord r us first.1 rest.1)

mutual
  pub values_are_words : (words : ℕ → Ty → Word) (t : Tree) (r : Word) → GivesWords words → IsWellTyped t → term_value words t ≡ Some r → IsOf (type_of t) r
  values_are_words words (name version ty) r given typed e =
      let same : words version ty ≡ r = cc in subst (IsOf ty) same (given version ty typed)
  values_are_words words (constant word) r given typed e =
      let same : word ≡ r = cc in subst (IsOf word.ty) same (refl, typed.1)
  values_are_words words (node code ty args) r given typed e =
      node_word code ty (types_of args) (term_values words args) r typed.0 typed.1 (λ rs k. all_are_words words args rs given typed.2 k) e

  all_are_words : (words : ℕ → Ty → Word) (ts : Trees) (rs : List Word) → GivesWords words → AreWellTyped ts → term_values words ts ≡ Some rs → AreOf (types_of ts) rs
  all_are_words words nil rs given typed e = let same : [] ≡ rs = cc in subst (AreOf []) same (refl, All-nil IsWord)
  all_are_words words (cons t ts) rs given typed e =
      more_words (type_of t) (types_of ts) (term_value words t) (term_values words ts) rs (λ r k. values_are_words words t r given typed.0 k) (λ us k. all_are_words words ts us given typed.1 k) e

-- ---- only names decide

all_left : {X : Type 0} (P : X → Type 0) (xs ys : List X) → All P (xs ++ ys) → All P xs
all_left P [] ys h = All-nil P
all_left P (x ∷ xs) ys h = All-cons P x xs (All-head P x (xs ++ ys) h) (all_left P xs ys (All-tail P x (xs ++ ys) h))

all_right : {X : Type 0} (P : X → Type 0) (xs ys : List X) → All P (xs ++ ys) → All P ys
all_right P [] ys h = h
all_right P (x ∷ xs) ys h = all_right P xs ys (All-tail P x (xs ++ ys) h)

abbrev Agrees : (ℕ → Ty → Word) → (ℕ → Ty → Word) → ℕ × Ty → Type 0
Agrees a b n = a n.0 n.1 ≡ b n.0 n.1

mutual
  pub names_decide : (a b : ℕ → Ty → Word) (t : Tree) → All (λ (n : ℕ × Ty). a n.0 n.1 ≡ b n.0 n.1) (names_in t) → term_value a t ≡ term_value b t
  names_decide a b (name version ty) h = ap Some (All-head (Agrees a b) (version, ty) [] h)
  names_decide a b (constant word) h = refl
  names_decide a b (node code ty args) h = ap (operation_on code ty) (all_decide a b args h)

  all_decide : (a b : ℕ → Ty → Word) (ts : Trees) → All (Agrees a b) (names_of ts) → term_values a ts ≡ term_values b ts
  all_decide a b nil h = refl
  all_decide a b (cons t ts) h =
      let first = names_decide a b t (all_left (Agrees a b) (names_in t) (names_of ts) h) in
      let rest = all_decide a b ts (all_right (Agrees a b) (names_in t) (names_of ts) h) in
      λ i. with_value (first i) (rest i)

-- ---- names of a term, one by one or as a list

abbrev Has : List (ℕ × Word) → ℕ × Ty → Type 0
Has words n = IsSome (word_of_name words n.0 n.1)

mutual
  pub listed : (words : List (ℕ × Word)) (t : Tree) → HasNames words t → All (λ (n : ℕ × Ty). IsSome (word_of_name words n.0 n.1)) (names_in t)
  listed words (name version ty) h = All-cons (Has words) (version, ty) [] h (All-nil (Has words))
  listed words (constant word) h = All-nil (Has words)
  listed words (node code ty args) h = all_listed words args h

  all_listed : (words : List (ℕ × Word)) (ts : Trees) → HaveNames words ts → All (Has words) (names_of ts)
  all_listed words nil h = All-nil (Has words)
  all_listed words (cons t ts) h = All-append (Has words) (names_in t) (names_of ts) (listed words t h.0) (all_listed words ts h.1)

mutual
  pub all : (words : List (ℕ × Word)) (t : Tree) → All (λ (n : ℕ × Ty). IsSome (word_of_name words n.0 n.1)) (names_in t) → HasNames words t
  all words (name version ty) h = All-head (Has words) (version, ty) [] h
  all words (constant word) h = tt
  all words (node code ty args) h = all_have words args h

  all_have : (words : List (ℕ × Word)) (ts : Trees) → All (Has words) (names_of ts) → HaveNames words ts
  all_have words nil h = tt
  all_have words (cons t ts) h =
      (all words t (all_left (Has words) (names_in t) (names_of ts) h), all_have words ts (all_right (Has words) (names_in t) (names_of ts) h))
