-- The identifiers of anonymous names: they are identifiers, and two versions have two of them.
use Rattle.std.proofs.Common.{◌≡◌, ℕ, ◌^◌, ◌<◌, true, false, not, List, [], ◌∷◌, ◌++◌, eqb, decimal, refl, sym, ap, ◌∙◌, subst, inl, inr, arith}
use Rattle.std.specs.List.{list_any}
use Rattle.std.proofs.lemmas.Bool.{and_parts, and_from, both_ways, eqb-true, eq-eqb, false_from_ne_true, not-true, or_from}
use Rattle.std.proofs.lemmas.Option.{same_Some}
use Rattle.std.proofs.lemmas.List.Folds.{list_any-append}
use Rattle.lexing.specs.Bytes.{is_digit}
use Rattle.lexing.specs.Numbers.{is_number_text}
use Rattle.lexing.proofs.NumberLemmas.{decimal_is_number_text, number_text_is_digits, number_is_word, underscore_is_no_digit}
use Rattle.gim_ast.specs.Identifiers.{is_identifier, is_reserved, is_block_word, is_anonymous, anonymous}
use Rattle.gim_ast.specs.Numbers.{name_below}
use Rattle.gim_ast.specs.WellFormed.{same_text, all_distinct}
use Rattle.gim_ast.proofs.NumberLemmas.{name_below-anonymous}
use Rattle.gim_changes.proofs.Members.{IsMember}

pub same_text_is : (a b : List ℕ) → same_text a b ≡ true → a ≡ b
same_text_is [] [] h = refl
same_text_is [] (y ∷ b) h = absurd (both_ways false refl h)
same_text_is (x ∷ a) [] h = absurd (both_ways false refl h)
same_text_is (x ∷ a) (y ∷ b) h =
    let parts = and_parts (eqb x y) (same_text a b) h in
    ap (λ z. z ∷ a) (eqb-true x y parts.0) ∙ ap (λ l. y ∷ l) (same_text_is a b parts.1)

pub same_text_itself : (a : List ℕ) → same_text a a ≡ true
same_text_itself [] = refl
same_text_itself (x ∷ a) = and_from (eqb x x) (same_text a a) (eq-eqb x x refl) (same_text_itself a)

pub anonymous_is_anonymous : (v : ℕ) → v < 2 ^ 64 → is_anonymous (anonymous v) ≡ true
anonymous_is_anonymous v small = decimal_is_number_text v small

no_digit : (byte d : ℕ) → is_digit byte ≡ false → is_digit d ≡ true → eqb byte d ≡ false
no_digit byte d other digit = false_from_ne_true (eqb byte d) (λ same. both_ways (is_digit byte) other (subst (λ b. is_digit b ≡ true) (sym (eqb-true byte d same)) digit))

no_block_word : (d : ℕ) (ds : List ℕ) → is_digit d ≡ true → is_block_word (95 ∷ d ∷ ds) ≡ false
no_block_word d [] digit = refl
no_block_word d (c ∷ []) digit = refl
no_block_word d (c ∷ e ∷ ds) digit = rw (underscore_is_no_digit d digit) refl

not_reserved : (d : ℕ) (ds : List ℕ) → is_digit d ≡ true → is_reserved (95 ∷ d ∷ ds) ≡ false
not_reserved d ds digit =
    or_from _ _ (rw (no_digit 95 d refl digit, no_digit 66 d refl digit, no_digit 76 d refl digit) refl) (no_block_word d ds digit)

identifier_of : (digits : List ℕ) → is_number_text digits ≡ true → is_identifier (95 ∷ digits) ≡ true
identifier_of [] h = absurd (both_ways false refl h)
identifier_of (d ∷ ds) h =
    and_from _ _ (number_is_word (d ∷ ds) h) (ap not (not_reserved d ds (and_parts _ _ (number_text_is_digits (d ∷ ds) h)).0))

pub anonymous_is_identifier : (v : ℕ) → v < 2 ^ 64 → is_identifier (anonymous v) ≡ true
anonymous_is_identifier v small = identifier_of (decimal v) (decimal_is_number_text v small)

pub anonymous_names_differ : (a b : ℕ) → a < 2 ^ 64 → b < 2 ^ 64 → anonymous a ≡ anonymous b → a ≡ b
anonymous_names_differ a b small_a small_b same =
    ap (λ (name : List ℕ × ℕ). name.1) (same_Some ([], a) ([], b)
    (sym (name_below-anonymous (2 ^ 64) [] a (omega arith) small_a) ∙ (ap (name_below (2 ^ 64)) same ∙ name_below-anonymous (2 ^ 64) [] b (omega arith) small_b)))

-- one more text, which is none of those before
pub distinct_with : (texts : List (List ℕ)) (text : List ℕ) → all_distinct same_text texts ≡ true → ((other : List ℕ) → IsMember other texts → same_text other text ≡ false) →
    all_distinct same_text (texts ++ text ∷ []) ≡ true
distinct_with [] text h none = refl
distinct_with (first ∷ texts) text h none =
    let parts = and_parts (not (list_any (same_text first) texts)) (all_distinct same_text texts) h in
    and_from (not (list_any (same_text first) (texts ++ text ∷ []))) (all_distinct same_text (texts ++ text ∷ []))
    (ap not (list_any-append (same_text first) texts (text ∷ []) ∙ or_from _ _ (false_from_ne_true (list_any (same_text first) texts) (λ any. both_ways (list_any (same_text first) texts) (not-true _ parts.0) any))
    (or_from _ _ (none first (inl refl)) refl)))
    (distinct_with texts text parts.1 (λ other one. none other (inr one)))
