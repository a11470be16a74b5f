-- The name that a token is, by where its last digits begin.
use Rattle.std.proofs.Common.{◌≡◌, ◌≢◌, ℕ, zero, suc, ◌-◌, ◌<◌, ◌≤◌, true, false, cond, List, ◌∷◌, ◌++◌, length, get_or, take, drop, drop-cons, Some, None, refl, sym, ap, ◌∙◌, arith}
use Rattle.std.specs.Prelude.{◌==◌}
use Rattle.std.specs.List.{list_all}
use Rattle.std.proofs.lemmas.Bool.{ne_eqb, eq-eqb, cond-true, cond-false}
use Rattle.std.proofs.lemmas.List.{take-append-drop}
use Rattle.lexing.specs.Bytes.{is_digit}
use Rattle.gim_ast.specs.Numbers.{name_below}
use Rattle.lexing.specs.Numbers.{number_below}
use Rattle.gim_ast.proofs.NumberLemmas.{no_name_in_digits, no_name_at, name_with_version}

-- a list, cut round the element before a place
cut_before : (token : List ℕ) (at : ℕ) → at ≢ 0 → at ≤ length token → token ≡ take (at - 1) token ++ get_or token (at - 1) 0 ∷ drop at token
cut_before token zero here within = absurd (here refl)
cut_before token (suc i) here within =
    let e : suc i - 1 ≡ i = omega arith in
    rw e (sym (take-append-drop i token) ∙ ap (λ rest. take i token ++ rest) (drop-cons token i 0 (omega arith)))

pub no_name_whole : (limit : ℕ) (token : List ℕ) (at : ℕ) → at ≡ 0 → list_all is_digit (drop at token) ≡ true → name_below limit token ≡ None
no_name_whole limit token zero here digits = no_name_in_digits limit token digits
no_name_whole limit token (suc at) here digits = absurd (omega arith)

pub no_name_other : (limit : ℕ) (token : List ℕ) (at : ℕ) → at ≢ 0 → at ≤ length token → (0 < at → is_digit (get_or token (at - 1) 0) ≡ false) → list_all is_digit (drop at token) ≡ true → get_or token (at - 1) 0 ≢ 95 → name_below limit token ≡ None
no_name_other limit token at here within first digits other =
    let b = get_or token (at - 1) 0 in
    let none : cond (b == 95) (number_below limit (drop at token)) None ≡ None = cond-false (b == 95) (number_below limit (drop at token)) None (ne_eqb b 95 other) in
    ap (name_below limit) (cut_before token at here within) ∙ no_name_at limit (take (at - 1) token) b (drop at token) (first (omega arith)) digits none

pub no_name_number : (limit : ℕ) (token : List ℕ) (at : ℕ) → at ≢ 0 → at ≤ length token → (0 < at → is_digit (get_or token (at - 1) 0) ≡ false) → list_all is_digit (drop at token) ≡ true → get_or token (at - 1) 0 ≡ 95 → number_below limit (drop at token) ≡ None → name_below limit token ≡ None
no_name_number limit token at here within first digits underscore read =
    let b = get_or token (at - 1) 0 in
    let none : cond (b == 95) (number_below limit (drop at token)) None ≡ None = cond-true (b == 95) (number_below limit (drop at token)) None (eq-eqb b 95 underscore) ∙ read in
    ap (name_below limit) (cut_before token at here within) ∙ no_name_at limit (take (at - 1) token) b (drop at token) (first (omega arith)) digits none

pub name_found : (limit : ℕ) (token : List ℕ) (at version : ℕ) → at ≢ 0 → at ≤ length token → list_all is_digit (drop at token) ≡ true → get_or token (at - 1) 0 ≡ 95 → number_below limit (drop at token) ≡ Some version → name_below limit token ≡ Some (take (at - 1) token, version)
name_found limit token at version here within digits underscore read =
    ap (name_below limit) (cut_before token at here within ∙ ap (λ b. take (at - 1) token ++ b ∷ drop at token) underscore)
    ∙ name_with_version limit (take (at - 1) token) (drop at token) version digits read
