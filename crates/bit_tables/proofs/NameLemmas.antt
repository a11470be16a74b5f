-- Names, each once.
use Rattle.std.proofs.Common.{◌≡◌, ℕ, ◌+◌, ◌≤◌, ◌==◌, Bool, true, false, not, cond, ◌||◌, ◌⊎◌, inl, inr, List, [], ◌∷◌, ◌++◌, length, arith, length-append, refl, sym, ap, subst, ◌∙◌, eq-eqb, drop, drop-cons, get_or, ◌<◌, suc}
use Rattle.std.proofs.lemmas.Bool.{and_parts, and_from}
use Rattle.std.proofs.lemmas.List.Folds.{list_any-append}
use Rattle.std.proofs.lemmas.Map.Made.{length-from_keys}
use Rattle.std.specs.Cmp.{IsEquivalence}
use Rattle.std.specs.List.{IsDistinct, AllByRecursion, list_any}
use Rattle.std.specs.Set.{is_member, distinct_count}
use borrow.Author.Tests.{eqb-true}
use Rattle.pm_term.specs.Trees.{names_in, names_of}
use Rattle.pm_term.specs.TermTrees.{tree_of, trees_of}
use Rattle.pm_term.specs.declared.term.Term.{Term}
use Rattle.pm_wide.specs.Types.{Ty, same_type}
use Rattle.pm_wide.proofs.Results.{same_type_is}
use Rattle.bit_tables.specs.TableClass.{same_name}
use Rattle.bit_tables.specs.Spots.{with_name, with_names}

abbrev Name : Type 0
Name = ℕ × Ty

-- ---- names are one exactly where the test says so

pub same_name_is : (a b : ℕ × Ty) → same_name a b ≡ true → a ≡ b
same_name_is a b h =
    let p = and_parts (a.0 == b.0) (same_type a.1 b.1) h in
    let e = eqb-true a.0 b.0 p.0 in
    let f = same_type_is a.1 b.1 p.1 in
    λ i. (e i, f i)

same_type_self : (t : Ty) → same_type t t ≡ true
same_type_self t = and_from (t.width == t.width) (cond t.unsigned t.unsigned (not t.unsigned)) (eq-eqb t.width t.width refl) (by t.unsigned)
  where
    by : (b : Bool) → cond b b (not b) ≡ true
    by true = refl
    by false = refl

pub same_name_self : (a : ℕ × Ty) → same_name a a ≡ true
same_name_self a = and_from (a.0 == a.0) (same_type a.1 a.1) (eq-eqb a.0 a.0 refl) (same_type_self a.1)

turned : (a b : ℕ × Ty) → same_name a b ≡ same_name b a
turned a b = by (same_name a b) (same_name b a) refl refl
  where
    by : (x y : Bool) → same_name a b ≡ x → same_name b a ≡ y → x ≡ y
    by true true h g = refl
    by false false h g = refl
    by true false h g = let e = same_name_is a b h in sym (subst (λ c. same_name b c ≡ true) (sym e) (same_name_self b)) ∙ g
    by false true h g = let e = same_name_is b a g in sym h ∙ subst (λ c. same_name a c ≡ true) (sym e) (same_name_self a)

pub names_alike : IsEquivalence same_name
names_alike = record { refl = same_name_self; symm = turned; congr = λ x y z h. ap (λ t. same_name t z) (same_name_is x y h) }

-- ---- either of two tests

pub either : (x y : Bool) → (x || y) ≡ true → (x ≡ true) ⊎ (y ≡ true)
either true y h = inl refl
either false y h = inr h

pub left_of : (x y : Bool) → x ≡ true → (x || y) ≡ true
left_of true y h = refl
left_of false y h = cc

pub right_of : (x y : Bool) → y ≡ true → (x || y) ≡ true
right_of true y h = refl
right_of false y h = h

neither : (x y : Bool) → (x || y) ≡ false → (x ≡ false) × (y ≡ false)
neither true y h = cc
neither false y h = (refl, h)

or_true : (x : Bool) → (x || true) ≡ true
or_true true = refl
or_true false = refl

or_false : (x : Bool) → (x || false) ≡ x
or_false true = refl
or_false false = refl

or_assoc : (x y z : Bool) → ((x || y) || z) ≡ (x || (y || z))
or_assoc true y z = refl
or_assoc false y z = refl

-- ---- names added one after another

pub with_names_append : (known ns ms : List (ℕ × Ty)) → with_names known (ns ++ ms) ≡ with_names (with_names known ns) ms
with_names_append known [] ms = refl
with_names_append known (n ∷ ns) ms = with_names_append (with_name known n) ns ms

longer : (known : List (ℕ × Ty)) (n : ℕ × Ty) → length known ≤ length (with_name known n)
longer known n = by (is_member same_name known n)
  where
    by : (b : Bool) → length known ≤ length (cond b known (known ++ n ∷ []))
    by true = omega arith
    by false = omega (arith, length-append known (n ∷ []))

pub with_names_longer : (known ns : List (ℕ × Ty)) → length known ≤ length (with_names known ns)
with_names_longer known [] = omega arith
with_names_longer known (n ∷ ns) = omega (arith, longer known n, with_names_longer (with_name known n) ns)

member_added : (known : List (ℕ × Ty)) (n q : ℕ × Ty) → is_member same_name (with_name known n) q ≡ (is_member same_name known q || same_name q n)
member_added known n q = by (is_member same_name known n) refl (same_name q n) refl
  where
    by : (b : Bool) → is_member same_name known n ≡ b → (d : Bool) → same_name q n ≡ d → is_member same_name (cond b known (known ++ n ∷ [])) q ≡ (is_member same_name known q || d)
    by true h true g = let e = same_name_is q n g in subst (λ m. is_member same_name known m ≡ true) (sym e) h ∙ sym (or_true (is_member same_name known q))
    by true h false g = sym (or_false (is_member same_name known q))
    by false h d g = list_any-append (same_name q) known (n ∷ []) ∙ ap (λ x. is_member same_name known q || x) (or_false (same_name q n) ∙ g)

pub member_of_all : (known ns : List (ℕ × Ty)) (q : ℕ × Ty) → is_member same_name (with_names known ns) q ≡ (is_member same_name known q || is_member same_name ns q)
member_of_all known [] q = sym (or_false (is_member same_name known q))
member_of_all known (n ∷ ns) q =
    member_of_all (with_name known n) ns q ∙ ap (λ x. x || is_member same_name ns q) (member_added known n q)
    ∙ or_assoc (is_member same_name known q) (same_name q n) (is_member same_name ns q)

all_pushed : (P : ℕ × Ty → Type 0) (xs : List (ℕ × Ty)) (n : ℕ × Ty) → AllByRecursion P xs → P n → AllByRecursion P (xs ++ n ∷ [])
all_pushed P [] n h one = (one, tt)
all_pushed P (x ∷ xs) n h one = (h.0, all_pushed P xs n h.1 one)

distinct_pushed : (known : List (ℕ × Ty)) (n : ℕ × Ty) → IsDistinct same_name known → is_member same_name known n ≡ false → IsDistinct same_name (known ++ n ∷ [])
unfolding IsDistinct
distinct_pushed [] n d h = (tt, tt)
distinct_pushed (x ∷ xs) n d h =
    let parts = neither (same_name n x) (list_any (same_name n) xs) h in
    (all_pushed (λ y. same_name x y ≡ false) xs n d.0 (turned x n ∙ parts.0), distinct_pushed xs n d.1 parts.1)

distinct_added : (known : List (ℕ × Ty)) (n : ℕ × Ty) → IsDistinct same_name known → IsDistinct same_name (with_name known n)
distinct_added known n d = by (is_member same_name known n) refl
  where
    by : (b : Bool) → is_member same_name known n ≡ b → IsDistinct same_name (cond b known (known ++ n ∷ []))
    by true h = d
    by false h = distinct_pushed known n d h

distinct_all : (known ns : List (ℕ × Ty)) → IsDistinct same_name known → IsDistinct same_name (with_names known ns)
distinct_all known [] d = d
distinct_all known (n ∷ ns) d = distinct_all (with_name known n) ns (distinct_added known n d)

-- names added to none are as many as there are different ones
pub count_is : (ns : List (ℕ × Ty)) → length (with_names [] ns) ≡ distinct_count same_name ns
unfolding IsDistinct
count_is ns = length-from_keys names_alike (with_names [] ns) ns (distinct_all [] ns tt) (member_of_all [] ns)

-- ---- the walk over the terms of a list

-- the names of a term and of those after it
pub walked : (known start : List (ℕ × Ty)) (terms : List Term) (t : Term) (i : ℕ) → i < length terms → t ≡ get_or terms i t
    → with_names known (names_of (trees_of (drop i terms))) ≡ with_names start (names_of (trees_of terms))
    → with_names (with_names known (names_in (tree_of t))) (names_of (trees_of (drop (i + 1) terms))) ≡ with_names start (names_of (trees_of terms))
walked known start terms t i h is before =
    let next : suc i ≡ i + 1 = omega arith in
    let e : drop i terms ≡ t ∷ drop (i + 1) terms = drop-cons terms i t h ∙ (λ j. sym is j ∷ drop (next j) terms) in
    sym (with_names_append known (names_in (tree_of t)) (names_of (trees_of (drop (i + 1) terms))))
    ∙ ap (λ us. with_names known (names_of (trees_of us))) (sym e) ∙ before
