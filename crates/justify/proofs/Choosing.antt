-- Words of names by numbers: each choice of words has a number.
use Rattle.std.proofs.Common.{◌≡◌, ℕ, ◌+◌, ◌*◌, ◌/◌, ◌%◌, ◌^◌, ◌<◌, ◌==◌, Bool, true, false, cond, ◌⊎◌, inl, inr, Some, List, [], ◌∷◌, ◌++◌, map, arith, refl, sym, ap, subst, ◌∙◌}
use Rattle.std.specs.Prelude.{All, IsSome, unwrap_or}
use Rattle.std.specs.List.{list_any}
use Rattle.std.specs.Set.{is_member}
use Rattle.std.proofs.Math.Nat.{mod-lt, mul-le-mul_right}
use Rattle.std.proofs.lemmas.Bool.{and_parts}
use Rattle.std.proofs.lemmas.List.Elements.{All-nil, All-cons, All-head, All-tail, All-append}
use Rattle.std.proofs.lemmas.List.Folds.{list_any-append}
use Rattle.std.proofs.lemmas.Nat.{pow_pos, pow-add, div-mul-add, mod-mul-add}
use Rattle.pm_wide.specs.Types.{Ty, Word, IsType, IsWord, same_type}
use Rattle.pm_wide.proofs.Results.{same_type_is}
use Rattle.pm_term.specs.Environments.{GivesWords, word_of_name, assigned}
use Rattle.pm_term.specs.Trees.{Tree, name, constant, node, Trees, nil, cons, names_in, names_of, IsWellTyped, AreWellTyped}
use Rattle.pm_term.proofs.TermLaws.{all}
use Rattle.bit_tables.specs.TableClass.{same_name}
use Rattle.bit_tables.proofs.NameLemmas.{same_name_is, same_name_self, names_alike, either, left_of, right_of, member_of_all}
use Rattle.justify.specs.Choices.{chosen, AreNamed}
use Rattle.justify.specs.Enumeration.{names_of_both, bits_of}

abbrev Name : Type 0
Name = ℕ × Ty

abbrev IsIn : List Name → Name → Type 0
IsIn ns n = is_member same_name ns n ≡ true

-- ---- members of lists of names

each_of : (P : ℕ × Ty → Type 0) (ns : List (ℕ × Ty)) → ((n : ℕ × Ty) → IsIn ns n → P n) → All P ns
each_of P [] f = All-nil P
each_of P (x ∷ xs) f =
    All-cons P x xs (f x (left_of (same_name x x) (list_any (same_name x) xs) (same_name_self x))) (each_of P xs (λ n h. f n (right_of (same_name n x) (list_any (same_name n) xs) h)))

of_member : (P : ℕ × Ty → Type 0) (ns : List (ℕ × Ty)) (n : ℕ × Ty) → All P ns → IsIn ns n → P n
of_member P [] n h i = cc
of_member P (x ∷ xs) n h i = by (either (same_name n x) (list_any (same_name n) xs) i) (λ k. of_member P xs n (All-tail P x xs h) k)
  where
    by : (same_name n x ≡ true) ⊎ (list_any (same_name n) xs ≡ true) → (list_any (same_name n) xs ≡ true → P n) → P n
    by (inl e) later = subst P (sym (same_name_is n x e)) (All-head P x xs h)
    by (inr e) later = later e

in_left : (left right : Tree) (n : ℕ × Ty) → IsIn (names_in left) n → IsIn (names_of_both left right) n
in_left left right n h =
    member_of_all [] (names_in left ++ names_in right) n ∙ list_any-append (same_name n) (names_in left) (names_in right)
    ∙ left_of (list_any (same_name n) (names_in left)) (list_any (same_name n) (names_in right)) h

in_right : (left right : Tree) (n : ℕ × Ty) → IsIn (names_in right) n → IsIn (names_of_both left right) n
in_right left right n h =
    member_of_all [] (names_in left ++ names_in right) n ∙ list_any-append (same_name n) (names_in left) (names_in right)
    ∙ right_of (list_any (same_name n) (names_in left)) (list_any (same_name n) (names_in right)) h

-- ---- each name has a word

module _ (n : ℕ × Ty) where
  has_word : (ns : List (ℕ × Ty)) (choice : ℕ) → IsIn ns n → IsSome (word_of_name (chosen ns choice) n.0 n.1)
  has_word [] choice h = cc
  has_word (x ∷ xs) choice h = by (same_name x n) refl (λ k. has_word xs (choice / 2 ^ x.1.width) k)
    where
      by : (b : Bool) → same_name x n ≡ b → (list_any (same_name n) xs ≡ true → IsSome (word_of_name (chosen xs (choice / 2 ^ x.1.width)) n.0 n.1))
          → IsSome (cond b (Some (record { bits = choice % 2 ^ x.1.width; ty = x.1 })) (word_of_name (chosen xs (choice / 2 ^ x.1.width)) n.0 n.1))
      by true e later = refl
      by false e later = rest (either (same_name n x) (list_any (same_name n) xs) h)
        where
          rest : (same_name n x ≡ true) ⊎ (list_any (same_name n) xs ≡ true) → IsSome (word_of_name (chosen xs (choice / 2 ^ x.1.width)) n.0 n.1)
          rest (inl k) = let f = names_alike.symm n x in cc
          rest (inr k) = later k

pub named : (left right : Tree) → AreNamed (names_of_both left right) left right
named left right = λ choice. (
  all (chosen (names_of_both left right) choice) left (each_of _ (names_in left) (λ n h. has_word n (names_of_both left right) choice (in_left left right n h))),
  all (chosen (names_of_both left right) choice) right (each_of _ (names_in right) (λ n h. has_word n (names_of_both left right) choice (in_right left right n h))),
)

-- ---- words of names of known types

abbrev pub Typed : ℕ × Ty → Type 0
Typed n = IsType n.1

mutual
  types_known : (t : Tree) → IsWellTyped t → All Typed (names_in t)
  types_known (name version ty) h = All-cons Typed (version, ty) [] h (All-nil Typed)
  types_known (constant word) h = All-nil Typed
  types_known (node code ty args) h = all_known args h.2

  all_known : (ts : Trees) → AreWellTyped ts → All Typed (names_of ts)
  all_known nil h = All-nil Typed
  all_known (cons t ts) h = All-append Typed (names_in t) (names_of ts) (types_known t h.0) (all_known ts h.1)

pub both_known : (left right : Tree) → IsWellTyped left → IsWellTyped right → All Typed (names_of_both left right)
both_known left right l r = each_of Typed (names_of_both left right) (λ n h.
    of_member Typed (names_in left ++ names_in right) n (All-append Typed (names_in left) (names_in right) (types_known left l) (types_known right r))
    (sym (member_of_all [] (names_in left ++ names_in right) n) ∙ h))

below_width : (ty : Ty) (n : ℕ) → n % 2 ^ ty.width < 2 ^ ty.width
below_width ty n = mod-lt n (pow_pos ty.width)

abbrev IsOf : Ty → Word → Type 0
IsOf ty w = (w.ty ≡ ty) × IsWord w

pub chosen_words : (ns : List (ℕ × Ty)) (choice : ℕ) → GivesWords (assigned (chosen ns choice))
chosen_words [] choice = λ version ty known. (refl, (pow_pos ty.width, known))
chosen_words (x ∷ xs) choice = λ version ty known. by version ty known (same_name x (version, ty)) refl (chosen_words xs (choice / 2 ^ x.1.width) version ty known)
  where
    by : (version : ℕ) (ty : Ty) → IsType ty → (b : Bool) → same_name x (version, ty) ≡ b → IsOf ty (assigned (chosen xs (choice / 2 ^ x.1.width)) version ty)
        → IsOf ty (unwrap_or (cond b (Some (record { bits = choice % 2 ^ x.1.width; ty = x.1 })) (word_of_name (chosen xs (choice / 2 ^ x.1.width)) version ty)) (record { bits = 0; ty = ty }))
    by version ty known true e later =
        let is = same_type_is x.1 ty (and_parts (x.0 == version) (same_type x.1 ty) e).1 in (is, (below_width x.1 choice, subst IsType (sym is) known))
    by version ty known false e later = later

-- ---- the number of a choice of words

module _ (words : ℕ → Ty → Word) (given : GivesWords words) where
  abbrev own : ℕ × Ty → ℕ × Word
  own n = (n.0, record { bits = (words n.0 n.1).bits; ty = n.1 })

  abbrev pub choice_of : List (ℕ × Ty) → ℕ
  choice_of [] = 0
  choice_of (n ∷ ns) = choice_of ns * 2 ^ n.1.width + (words n.0 n.1).bits

  in_width : (n : ℕ × Ty) → Typed n → (words n.0 n.1).bits < 2 ^ n.1.width
  in_width n known = let w = given n.0 n.1 known in subst (λ (t : Ty). (words n.0 n.1).bits < 2 ^ t.width) w.0 w.1.0

  pub choice_below : (ns : List (ℕ × Ty)) → All Typed ns → choice_of ns < 2 ^ bits_of ns
  choice_below [] h = omega arith
  choice_below (n ∷ ns) h =
      let one = in_width n (All-head Typed n ns h) in
      let rest = choice_below ns (All-tail Typed n ns h) in
      let scaled = mul-le-mul_right (2 ^ n.1.width) rest in
      let power = pow-add 2 (bits_of ns) n.1.width in
      let turned : n.1.width + bits_of ns ≡ bits_of ns + n.1.width = omega arith in
      subst (λ k. choice_of ns * 2 ^ n.1.width + (words n.0 n.1).bits < 2 ^ k) (sym turned) (omega (arith, one, scaled, power))

  chosen_is : (ns : List (ℕ × Ty)) → All Typed ns → chosen ns (choice_of ns) ≡ map own ns
  chosen_is [] h = refl
  chosen_is (n ∷ ns) h =
      let small = in_width n (All-head Typed n ns h) in
      let low = mod-mul-add (choice_of ns) (2 ^ n.1.width) (words n.0 n.1).bits small in
      let high = div-mul-add (choice_of ns) (2 ^ n.1.width) (words n.0 n.1).bits small in
      λ i. (n.0, record { bits = low i; ty = n.1 }) ∷ (ap (chosen ns) high ∙ chosen_is ns (All-tail Typed n ns h)) i

  own_word : (ns : List (ℕ × Ty)) (n : ℕ × Ty) → Typed n → IsIn ns n → word_of_name (map own ns) n.0 n.1 ≡ Some (words n.0 n.1)
  own_word [] n known h = cc
  own_word (x ∷ xs) n known h = by (same_name x n) refl (λ k. own_word xs n known k)
    where
      itself : (w : Word) (t : Ty) → w.ty ≡ t → record { bits = w.bits; ty = t } ≡ w
      itself w t e = λ i. record { bits = w.bits; ty = sym e i }

      by : (b : Bool) → same_name x n ≡ b → (list_any (same_name n) xs ≡ true → word_of_name (map own xs) n.0 n.1 ≡ Some (words n.0 n.1))
          → cond b (Some (record { bits = (words x.0 x.1).bits; ty = x.1 })) (word_of_name (map own xs) n.0 n.1) ≡ Some (words n.0 n.1)
      by true e later =
          let same = same_name_is x n e in
          ap (λ (m : ℕ × Ty). Some (own m).1) same ∙ ap Some (itself (words n.0 n.1) n.1 (given n.0 n.1 known).0)
      by false e later = rest (either (same_name n x) (list_any (same_name n) xs) h)
        where
          rest : (same_name n x ≡ true) ⊎ (list_any (same_name n) xs ≡ true) → word_of_name (map own xs) n.0 n.1 ≡ Some (words n.0 n.1)
          rest (inl k) = let f = names_alike.symm n x in cc
          rest (inr k) = later k

  -- the words that this number chooses are the given ones at all names
  own_words : (ns : List (ℕ × Ty)) (n : ℕ × Ty) → All Typed ns → IsIn ns n → assigned (chosen ns (choice_of ns)) n.0 n.1 ≡ words n.0 n.1
  own_words ns n known h =
      ap (λ ws. assigned ws n.0 n.1) (chosen_is ns known)
      ∙ ap (λ o. unwrap_or o (record { bits = 0; ty = n.1 })) (own_word ns n (of_member Typed ns n known h) h)

  pub left_words : (left right : Tree) → All Typed (names_of_both left right)
      → All (λ (n : ℕ × Ty). assigned (chosen (names_of_both left right) (choice_of (names_of_both left right))) n.0 n.1 ≡ words n.0 n.1) (names_in left)
  left_words left right known = each_of _ (names_in left) (λ n h. own_words (names_of_both left right) n known (in_left left right n h))

  pub right_words : (left right : Tree) → All Typed (names_of_both left right)
      → All (λ (n : ℕ × Ty). assigned (chosen (names_of_both left right) (choice_of (names_of_both left right))) n.0 n.1 ≡ words n.0 n.1) (names_in right)
  right_words left right known = each_of _ (names_in right) (λ n h. own_words (names_of_both left right) n known (in_right left right n h))
