-- The parts of a name, by where the last digits of its text begin.
use Rattle.std.proofs.Common.{◌≡◌, ◌≢◌, ℕ, zero, suc, ◌-◌, ◌<◌, ◌≤◌, true, false, List, [], ◌∷◌, ◌++◌}
use Rattle.std.proofs.Common.{length, get_or, take, drop, drop-cons, Some, None, refl, sym, ap, ◌∙◌, arith}
use Rattle.std.specs.Prelude.{◌==◌, ◌&&◌}
use Rattle.std.specs.List.{list_all}
use Rattle.std.proofs.lemmas.Bool.{ne_eqb, and_parts, and_left, and_right, false_from_ne_true, false≢true}
use Rattle.std.proofs.lemmas.List.{take-append-drop}
use Rattle.lexing.specs.Bytes.{is_digit}
use Rattle.lexing.specs.Numbers.{is_number_text}
use Rattle.lexing.proofs.NumberLemmas.{number_text_is_digits, other_among}
use Rattle.gim_text.specs.Texts.{name_parts}

no_number : (front : List ℕ) (b : ℕ) (ds : List ℕ) → is_digit b ≡ false → is_number_text (front ++ b ∷ ds) ≡ false
no_number front b ds h =
    false_from_ne_true (is_number_text (front ++ b ∷ ds))
    (λ t. false≢true (sym (other_among front b ds h) ∙ number_text_is_digits (front ++ b ∷ ds) t))

-- digits alone are no name
pub no_parts_in_digits : (ds : List ℕ) → list_all is_digit ds ≡ true → name_parts ds ≡ None
unfolding name_parts
no_parts_in_digits [] h = refl
no_parts_in_digits (d ∷ ds) h =
    let p = and_parts (is_digit d) (list_all is_digit ds) h in
    let other : (d == 95) ≡ false = ne_eqb d 95 (λ e. false≢true (ap is_digit (sym e) ∙ p.0)) in
    rw (no_parts_in_digits ds p.1, other) refl

-- a base, an underscore and a number
pub parts_found : (base ds : List ℕ) → is_number_text ds ≡ true → name_parts (base ++ 95 ∷ ds) ≡ Some (base, ds)
unfolding name_parts
parts_found [] ds number = rw (no_parts_in_digits ds (number_text_is_digits ds number), number) refl
parts_found (b ∷ base) ds number = rw (parts_found base ds number) refl

-- no name ends in digits that are no number, or that follow another byte than an underscore
pub no_parts_at : (front : List ℕ) (b : ℕ) (ds : List ℕ) → is_digit b ≡ false → list_all is_digit ds ≡ true
    → ((b == 95) && is_number_text ds) ≡ false → name_parts (front ++ b ∷ ds) ≡ None
unfolding name_parts
no_parts_at [] b ds other digits none = rw (no_parts_in_digits ds digits, none) refl
no_parts_at (c ∷ front) b ds other digits none =
    let rest : ((c == 95) && is_number_text (front ++ b ∷ ds)) ≡ false =
    and_right (c == 95) (is_number_text (front ++ b ∷ ds)) (no_number front b ds other) in
    rw (no_parts_at front b ds other digits none, rest) refl

-- a list, cut round the element before a place
cut_before : (token : List ℕ) (at : ℕ) → at ≢ 0 → at ≤ length token → token ≡ take (at - 1) token ++ get_or token (at - 1) 0 ∷ drop at token
cut_before token zero here within = absurd (here refl)
cut_before token (suc i) here within =
    let e : suc i - 1 ≡ i = omega arith in
    rw e (sym (take-append-drop i token) ∙ ap (λ rest. take i token ++ rest) (drop-cons token i 0 (omega arith)))

pub no_name_whole : (token : List ℕ) (at : ℕ) → at ≡ 0 → list_all is_digit (drop at token) ≡ true → name_parts token ≡ None
no_name_whole token zero here digits = no_parts_in_digits token digits
no_name_whole token (suc at) here digits = absurd (omega arith)

pub no_name_other : (token : List ℕ) (at : ℕ) → at ≢ 0 → at ≤ length token
    → (0 < at → is_digit (get_or token (at - 1) 0) ≡ false) → list_all is_digit (drop at token) ≡ true
    → get_or token (at - 1) 0 ≢ 95 → name_parts token ≡ None
no_name_other token at here within first digits other =
    let b = get_or token (at - 1) 0 in
    ap name_parts (cut_before token at here within)
    ∙ no_parts_at (take (at - 1) token) b (drop at token) (first (omega arith)) digits
    (and_left (b == 95) (is_number_text (drop at token)) (ne_eqb b 95 other))

pub no_name_number : (token : List ℕ) (at : ℕ) → at ≢ 0 → at ≤ length token
    → (0 < at → is_digit (get_or token (at - 1) 0) ≡ false) → list_all is_digit (drop at token) ≡ true
    → is_number_text (drop at token) ≡ false → name_parts token ≡ None
no_name_number token at here within first digits read =
    let b = get_or token (at - 1) 0 in
    ap name_parts (cut_before token at here within)
    ∙ no_parts_at (take (at - 1) token) b (drop at token) (first (omega arith)) digits
    (and_right (b == 95) (is_number_text (drop at token)) read)

pub name_found : (token : List ℕ) (at : ℕ) → at ≢ 0 → at ≤ length token → get_or token (at - 1) 0 ≡ 95
    → is_number_text (drop at token) ≡ true → name_parts token ≡ Some (take (at - 1) token, drop at token)
name_found token at here within underscore read =
    ap name_parts (cut_before token at here within ∙ ap (λ b. take (at - 1) token ++ b ∷ drop at token) underscore)
    ∙ parts_found (take (at - 1) token) (drop at token) read
