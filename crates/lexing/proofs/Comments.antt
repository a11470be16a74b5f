-- Comments: the first `*/` of a text, found from place to place, and that a comment lies within its text.
use Rattle.std.proofs.Common.{◌≡◌, ℕ, ◌+◌, ◌-◌, ◌<◌, ◌≤◌, Bool, true, false, cond, List, [], ◌∷◌, length, get_or, drop, drop-cons, add-one, codes, Option, Some, None, refl, sym, ap, ◌∙◌, arith}
use Rattle.std.specs.Prelude.{option_map}
use Rattle.std.proofs.lemmas.List.{drop_all, length-drop}
use Rattle.lexing.specs.Separators.{opens, length_to_star_slash, comment_length}
use Rattle.lexing.proofs.Opening.{opens_long}

ends_here : (text : List ℕ) → opens text (codes "*/") ≡ true → length_to_star_slash text ≡ Some 2
unfolding length_to_star_slash
ends_here [] h = absurd cc
ends_here (b ∷ text) h = rw h refl

ends_later : (b : ℕ) (text : List ℕ) → opens (b ∷ text) (codes "*/") ≡ false
    → length_to_star_slash (b ∷ text) ≡ option_map (λ n. 1 + n) (length_to_star_slash text)
unfolding length_to_star_slash
ends_later b text h = rw h refl

moved : (at : ℕ) (found : Option ℕ) → option_map (λ n. (at + 1) + n) found ≡ option_map (λ n. at + n) (option_map (λ n. 1 + n) found)
moved at None = refl
moved at (Some n) = ap Some (omega arith)

pub found_here : (text : List ℕ) (at : ℕ) (all : Option ℕ) → opens (drop at text) (codes "*/") ≡ true
    → option_map (λ n. at + n) (length_to_star_slash (drop at text)) ≡ all → Some (at + 2) ≡ all
found_here text at all h e = sym (ap (option_map (λ n. at + n)) (ends_here (drop at text) h)) ∙ e

pub found_later : (text : List ℕ) (at : ℕ) (all : Option ℕ) → at < length text → opens (drop at text) (codes "*/") ≡ false
    → option_map (λ n. at + n) (length_to_star_slash (drop at text)) ≡ all
    → option_map (λ n. (at + 1) + n) (length_to_star_slash (drop (at + 1) text)) ≡ all
found_later text at all lt h e =
    let cut : drop at text ≡ get_or text at 0 ∷ drop (at + 1) text = rw (add-one, drop-cons text at 0 lt) refl in
    moved at (length_to_star_slash (drop (at + 1) text))
    ∙ sym (ap (option_map (λ n. at + n)) (ap length_to_star_slash cut ∙ ends_later (get_or text at 0) (drop (at + 1) text) (sym (ap (λ t. opens t (codes "*/")) cut) ∙ h)))
    ∙ e

pub found_nowhere : (text : List ℕ) (at : ℕ) (all : Option ℕ) → length text ≤ at
    → option_map (λ n. at + n) (length_to_star_slash (drop at text)) ≡ all → None ≡ all
unfolding length_to_star_slash
found_nowhere text at all le e = sym (ap (λ rest. option_map (λ n. at + n) (length_to_star_slash rest)) (drop_all at text le)) ∙ e

pub to_star_slash_within : (text : List ℕ) (n : ℕ) → length_to_star_slash text ≡ Some n → n ≤ length text
unfolding length_to_star_slash
to_star_slash_within [] n e = absurd cc
to_star_slash_within (b ∷ text) n e = by (opens (b ∷ text) (codes "*/")) (length_to_star_slash text) (opens_long (b ∷ text) (codes "*/")) (to_star_slash_within text) e where
  by : (t : Bool) (o : Option ℕ) → (t ≡ true → 2 ≤ length (b ∷ text)) → ((m : ℕ) → o ≡ Some m → m ≤ length text)
      → cond t (Some 2) (option_map (λ n. 1 + n) o) ≡ Some n → n ≤ length (b ∷ text)
  by true o long later e = let same : 2 ≡ n = cc in omega (arith, long refl)
  by false None long later e = absurd cc
  by false (Some m) long later e = let same : 1 + m ≡ n = cc in omega (arith, later m refl)

pub comment_within : (text : List ℕ) (n : ℕ) → comment_length text ≡ Some n → (0 < n) × (n ≤ length text)
comment_within text n e = by (opens text (codes "/*")) (length_to_star_slash (drop 2 text)) (opens_long text (codes "/*")) (to_star_slash_within (drop 2 text)) e where
  by : (t : Bool) (o : Option ℕ) → (t ≡ true → 2 ≤ length text) → ((m : ℕ) → o ≡ Some m → m ≤ length (drop 2 text))
      → cond t (option_map (λ n. 2 + n) o) None ≡ Some n → (0 < n) × (n ≤ length text)
  by true (Some m) long within e =
      let same : 2 + m ≡ n = cc in
      let rest : length (drop 2 text) ≡ length text - 2 = length-drop 2 text in
      (omega arith, omega (arith, within m refl, long refl))
  by true None long within e = absurd cc
  by false o long within e = absurd cc
