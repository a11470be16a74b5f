-- Names and their words: what decides the word of a term, and masks that give each name its bit.
use Rattle.std.proofs.Common.{◌≡◌, ℕ, zero, suc, ◌+◌, ◌*◌, ◌/◌, ◌%◌, ◌^◌, ◌<◌, ◌==◌, Bool, true, false, cond, ◌||◌, ◌⊎◌, inl, inr, List, [], ◌∷◌, ◌++◌, length, refl, sym, ap, subst, ◌∙◌, arith}
use Rattle.std.proofs.lemmas.List.Folds.{list_any-append}
use Rattle.std.proofs.lemmas.Nat.{pow_pos, pow_below}
use Rattle.std.proofs.Math.Nat.{pow-suc}
use Rattle.std.specs.Set.{is_member}
use Rattle.pm_ops.specs.declared.code.Code.{Code}
use Rattle.pm_ops.specs.declared.code.Code.TheVariants.{Convert, Plus, Minus, Mult, Negate}
use Rattle.pm_wide.specs.Types.{Ty}
use Rattle.pm_term.specs.Trees.{Tree, name, constant, node, Trees, nil, cons, names_in, names_of}
use Rattle.bit_tables.specs.TableClass.{same_name, IsBitwise, AreBitwise, IsBuiltBy, IsBuilt, AreBuilt}
use Rattle.bit_tables.specs.TableEqual.{GivesWords}
use Rattle.bit_tables.specs.Spots.{spot_word}
use Rattle.bit_tables.specs.WrappedWords.{wrapped_operation, wrapped_word, wrapped_words}
use Rattle.bit_tables.proofs.Crossing.{at_place}
use Rattle.bit_tables.proofs.NameLemmas.{same_name_is, same_name_self, names_alike, either, left_of, right_of}

-- each name of the list has the property
abbrev pub Each : (ℕ × Ty → Type 0) → List (ℕ × Ty) → Type 0
Each P ns = (n : ℕ × Ty) → is_member same_name ns n ≡ true → P n

pub each_left : (P : ℕ × Ty → Type 0) (xs ys : List (ℕ × Ty)) → Each P (xs ++ ys) → Each P xs
each_left P xs ys h n m = h n (list_any-append (same_name n) xs ys ∙ left_of (is_member same_name xs n) (is_member same_name ys n) m)

pub each_right : (P : ℕ × Ty → Type 0) (xs ys : List (ℕ × Ty)) → Each P (xs ++ ys) → Each P ys
each_right P xs ys h n m = h n (list_any-append (same_name n) xs ys ∙ right_of (is_member same_name xs n) (is_member same_name ys n) m)

each_both : (P : ℕ × Ty → Type 0) (xs ys : List (ℕ × Ty)) → Each P xs → Each P ys → Each P (xs ++ ys)
each_both P xs ys h g n m = by (either (is_member same_name xs n) (is_member same_name ys n) (sym (list_any-append (same_name n) xs ys) ∙ m))
  where
    by : (is_member same_name xs n ≡ true) ⊎ (is_member same_name ys n ≡ true) → P n
    by (inl e) = h n e
    by (inr e) = g n e

each_none : (P : ℕ × Ty → Type 0) → Each P []
each_none P n m = cc

each_one : (P : ℕ × Ty → Type 0) (k : ℕ × Ty) → P k → Each P (k ∷ [])
each_one P k h n m = by (either (same_name n k) false m)
  where
    by : (same_name n k ≡ true) ⊎ (false ≡ true) → P n
    by (inl e) = subst P (sym (same_name_is n k e)) h
    by (inr e) = cc

-- ---- only its names decide the word of a term

mutual
  pub names_decide : (f g : ℕ → Ty → ℕ) (p : ℕ) (t : Tree) → Each (λ n. f n.0 n.1 ≡ g n.0 n.1) (names_in t) → wrapped_word f p t ≡ wrapped_word g p t
  names_decide f g p (name version ty) h = h (version, ty) (left_of (same_name (version, ty) (version, ty)) false (same_name_self (version, ty)))
  names_decide f g p (constant word) h = refl
  names_decide f g p (node code ty args) h = ap (wrapped_operation p code) (all_decide f g p args h)

  all_decide : (f g : ℕ → Ty → ℕ) (p : ℕ) (ts : Trees) → Each (λ n. f n.0 n.1 ≡ g n.0 n.1) (names_of ts) → wrapped_words f p ts ≡ wrapped_words g p ts
  all_decide f g p nil h = refl
  all_decide f g p (cons t ts) h =
      let first = names_decide f g p t (each_left _ (names_in t) (names_of ts) h) in
      let rest = all_decide f g p ts (each_right _ (names_in t) (names_of ts) h) in
      λ i. first i ∷ rest i

-- ---- the names of a term of the class have its width

abbrev HasWidth : ℕ → ℕ × Ty → Type 0
HasWidth p n = n.1.width ≡ p

mutual
  bitwise_widths : (p : ℕ) (t : Tree) → IsBitwise p t → Each (HasWidth p) (names_in t)
  bitwise_widths p (name version ty) h = each_one (HasWidth p) (version, ty) h
  bitwise_widths p (constant word) h = each_none (HasWidth p)
  bitwise_widths p (node code ty args) h = all_bitwise_widths p args h.2

  all_bitwise_widths : (p : ℕ) (ts : Trees) → AreBitwise p ts → Each (HasWidth p) (names_of ts)
  all_bitwise_widths p nil h = each_none (HasWidth p)
  all_bitwise_widths p (cons t ts) h = each_both (HasWidth p) (names_in t) (names_of ts) (bitwise_widths p t h.0) (all_bitwise_widths p ts h.1)

either_way : (code : Code) (bitwise built factor : Type 0) → IsBuiltBy code bitwise built factor → bitwise ⊎ built
either_way Plus bitwise built factor h = inr h
either_way Minus bitwise built factor h = inr h
either_way Negate bitwise built factor h = inr h
either_way Convert bitwise built factor h = inr h
either_way Mult bitwise built factor h = inr h.0
either_way _ bitwise built factor h = inl h

by_way : {A B C : Type 0} → A ⊎ B → (A → C) → (B → C) → C
by_way (inl a) f g = f a
by_way (inr b) f g = g b

mutual
  pub built_widths : (p : ℕ) (t : Tree) → IsBuilt p t → Each (λ n. n.1.width ≡ p) (names_in t)
  built_widths p (name version ty) h = each_one (HasWidth p) (version, ty) h
  built_widths p (constant word) h = each_none (HasWidth p)
  built_widths p (node code ty args) h =
      by_way (either_way code _ _ _ h) (λ b. all_bitwise_widths p args b.2) (λ b. all_built_widths p args b.1)

  all_built_widths : (p : ℕ) (ts : Trees) → AreBuilt p ts → Each (HasWidth p) (names_of ts)
  all_built_widths p nil h = each_none (HasWidth p)
  all_built_widths p (cons t ts) h = each_both (HasWidth p) (names_in t) (names_of ts) (built_widths p t h.0) (all_built_widths p ts h.1)

pub both_widths : (p : ℕ) (s t : Tree) → IsBuilt p s → IsBuilt p t → Each (λ n. n.1.width ≡ p) (names_in s ++ names_in t)
both_widths p s t h g = each_both (HasWidth p) (names_in s) (names_in t) (built_widths p s h) (built_widths p t g)

-- ---- masks

-- the mask that gives each name of the list its bit at place k
abbrev pub mask_of : List (ℕ × Ty) → (ℕ → Ty → ℕ) → ℕ → ℕ
mask_of [] words k = 0
mask_of (n ∷ ns) words k = words n.0 n.1 / 2 ^ k % 2 + 2 * mask_of ns words k

pub mask-small : (ns : List (ℕ × Ty)) (words : ℕ → Ty → ℕ) (k : ℕ) → mask_of ns words k < 2 ^ length ns
mask-small [] words k = omega arith
mask-small (n ∷ ns) words k = let b = words n.0 n.1 / 2 ^ k in omega (arith, mask-small ns words k, pow-suc 2 (length ns))

bit_word : (b k : ℕ) → b < 2 → cond (b == 1) (2 ^ k) 0 ≡ b * 2 ^ k
bit_word zero k h = omega arith
bit_word (suc zero) k h = omega arith
bit_word (suc (suc b)) k h = absurd (omega arith)

first_bit : (b m k : ℕ) → b < 2 → cond ((b + 2 * m) % 2 == 1) (2 ^ k) 0 ≡ b * 2 ^ k
first_bit b m k h = let e : (b + 2 * m) % 2 ≡ b = omega arith in ap (λ x. cond (x == 1) (2 ^ k) 0) e ∙ bit_word b k h

pub spot-mask : (ns : List (ℕ × Ty)) (words : ℕ → Ty → ℕ) (k : ℕ) → Each (λ n. spot_word ns k (mask_of ns words k) n.0 n.1 ≡ at_place (words n.0 n.1) k) ns
spot-mask [] words k n m = cc
spot-mask (x ∷ ns) words k n m = by (spot-mask ns words k) (same_name x n) refl
  where
    by : Each (λ n. spot_word ns k (mask_of ns words k) n.0 n.1 ≡ at_place (words n.0 n.1) k) ns → (t : Bool) → same_name x n ≡ t
        → cond t (cond ((words x.0 x.1 / 2 ^ k % 2 + 2 * mask_of ns words k) % 2 == 1) (2 ^ k) 0) (spot_word ns k ((words x.0 x.1 / 2 ^ k % 2 + 2 * mask_of ns words k) / 2) n.0 n.1) ≡ at_place (words n.0 n.1) k
    by later true e =
        let v = words x.0 x.1 / 2 ^ k in
        let small : v % 2 < 2 = omega arith in
        first_bit (v % 2) (mask_of ns words k) k small ∙ ap (λ (y : ℕ × Ty). at_place (words y.0 y.1) k) (same_name_is x n e)
    by later false e =
        let v = words x.0 x.1 / 2 ^ k in
        let half : (v % 2 + 2 * mask_of ns words k) / 2 ≡ mask_of ns words k = omega arith in
        let other : same_name n x ≡ false = names_alike.symm n x ∙ e in
        let inside : is_member same_name ns n ≡ true = subst (λ y. (y || is_member same_name ns n) ≡ true) other m in
        ap (λ y. spot_word ns k y n.0 n.1) half ∙ later n inside

-- with no bit in the mask each word is 0
pub spot-zero : (ns : List (ℕ × Ty)) (k version : ℕ) (ty : Ty) → spot_word ns k 0 version ty ≡ 0
spot-zero [] k version ty = refl
spot-zero (x ∷ ns) k version ty = by (same_name x (version, ty)) (spot-zero ns k version ty)
  where
    by : (t : Bool) → spot_word ns k 0 version ty ≡ 0 → cond t 0 (spot_word ns k 0 version ty) ≡ 0
    by true e = refl
    by false e = e

pub spot-small : (p : ℕ) (ns : List (ℕ × Ty)) (k mask : ℕ) → k < p → Each (λ n. n.1.width ≡ p) ns → GivesWords (spot_word ns k mask)
spot-small p [] k mask h widths version ty = pow_pos ty.width
spot-small p (x ∷ ns) k mask h widths version ty =
    by (spot-small p ns k (mask / 2) h (λ n m. widths n (right_of (same_name n x) (is_member same_name ns n) m)) version ty) (same_name x (version, ty)) refl
  where
    one : (c : Bool) → same_name x (version, ty) ≡ true → cond c (2 ^ k) 0 < 2 ^ ty.width
    one true e =
        let w : x.1.width ≡ p = widths x (left_of (same_name x x) (is_member same_name ns x) (same_name_self x)) in
        let f : x.1.width ≡ ty.width = ap (λ (y : ℕ × Ty). y.1.width) (same_name_is x (version, ty) e) in
        pow_below k ty.width (omega arith)
    one false e = pow_pos ty.width

    by : spot_word ns k (mask / 2) version ty < 2 ^ ty.width → (t : Bool) → same_name x (version, ty) ≡ t → cond t (cond (mask % 2 == 1) (2 ^ k) 0) (spot_word ns k (mask / 2) version ty) < 2 ^ ty.width
    by rest true e = one (mask % 2 == 1) e
    by rest false e = rest
