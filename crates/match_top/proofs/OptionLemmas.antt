-- One setting after the other.
use Rattle.std.proofs.Common.{◌≡◌, ℕ, ◌+◌, ◌-◌, ◌≤◌, List, [], ◌∷◌, ◌++◌, length, map, get_or, take, drop, Option, Some, None, refl, sym, ap, ◌∙◌, arith}
use Rattle.std.specs.Prelude.{option_map}
use Rattle.std.proofs.lemmas.List.{take_all}
use Rattle.lexing.specs.Numbers.{number_below}
use Rattle.match_top.specs.Options.{flag_named, greatest_of, number_in, with_number, and_setting, alone, before_word, settings_of}
use Rattle.match_top.specs.declared.options.Flag.{Flag}
use Rattle.match_top.specs.declared.options.Setting.{Setting}

abbrev pub behind : List Setting → Option (List Setting) → Option (List Setting)
behind front more = option_map (λ settings. front ++ settings) more

moved : (front : List Setting) (s : Setting) (rest : List Setting) → front ++ s ∷ rest ≡ (front ++ s ∷ []) ++ rest
moved [] s rest = refl
moved (t ∷ front) s rest = ap (λ l. t ∷ l) (moved front s rest)

one_more : (front : List Setting) (s : Setting) (more : Option (List Setting)) → behind front (and_setting (Some s) more) ≡ behind (front ++ s ∷ []) more
one_more front s None = refl
one_more front s (Some rest) = ap Some (moved front s rest)

-- ---- one option

-- what the words behind an option's number add
abbrev pub and_said : Flag → Option (ℕ × List (List ℕ)) → Option (List Setting)
and_said flag None = None
and_said flag (Some (number, words)) = and_setting (Some (with_number flag number)) (settings_of words)

lone : (flag : Flag) (greatest : Option ℕ) → and_setting (alone flag greatest) (Some []) ≡ and_said flag (number_in greatest [])
lone flag None = refl
lone flag (Some greatest) = refl

pair : (flag : Flag) (greatest : Option ℕ) (word : List ℕ) (rest : List (List ℕ)) → before_word flag greatest word (settings_of (word ∷ rest)) (settings_of rest) ≡ and_said flag (number_in greatest (word ∷ rest))
pair flag None word rest = refl
pair flag (Some greatest) word rest = by (number_below (greatest + 1) word) where
  by : (below : Option ℕ) → and_setting (option_map (with_number flag) below) (settings_of rest) ≡ and_said flag (option_map (λ number. (number, rest)) below)
  by None = refl
  by (Some n) = refl

pub named : (option : List ℕ) (after : List (List ℕ)) (flag : Flag) → flag_named option ≡ Some flag → settings_of (option ∷ after) ≡ and_said flag (number_in (greatest_of flag) after)
named option [] flag e = rw e (lone flag (greatest_of flag))
named option (word ∷ rest) flag e = rw e (pair flag (greatest_of flag) word rest)

pub unnamed : (option : List ℕ) (after : List (List ℕ)) → flag_named option ≡ None → settings_of (option ∷ after) ≡ None
unnamed option [] e = rw e refl
unnamed option (word ∷ rest) e = rw e refl

-- ---- in a loop

module _ {S : Type 0} (bytes : S → List ℕ) where
  cut : (rest : List S) (word : S) → 1 ≤ length rest → word ≡ get_or rest 0 word → rest ≡ word ∷ take (length rest - 1) (drop 1 rest)
  cut [] word some is = absurd (omega (arith, some))
  cut (s ∷ rest) word some is = let whole : take (length (s ∷ rest) - 1) rest ≡ rest = take_all (length (s ∷ rest) - 1) rest (omega arith) in rw (is, whole) refl

  at_first : (rest : List S) (word : S) → 1 ≤ length rest → word ≡ get_or rest 0 word → map bytes rest ≡ bytes word ∷ map bytes (take (length rest - 1) (drop 1 rest))
  at_first rest word some is = ap (map bytes) (cut rest word some is)

  pub no_flag : (front : List Setting) (rest : List S) (word : S) → 1 ≤ length rest → word ≡ get_or rest 0 word → None ≡ flag_named (bytes word) → behind front (settings_of (map bytes rest)) ≡ None
  no_flag front rest word some is none = ap (λ l. behind front (settings_of l)) (at_first rest word some is) ∙ ap (behind front) (unnamed (bytes word) _ (sym none))

  pub no_number : (front : List Setting) (rest : List S) (word : S) (flag : Flag) → 1 ≤ length rest → word ≡ get_or rest 0 word → Some flag ≡ flag_named (bytes word)
      → None ≡ number_in (greatest_of flag) (map bytes (take (length rest - 1) (drop 1 rest))) → behind front (settings_of (map bytes rest)) ≡ None
  no_number front rest word flag some is is_flag none =
      ap (λ l. behind front (settings_of l)) (at_first rest word some is) ∙ ap (behind front) (named (bytes word) _ flag (sym is_flag) ∙ ap (and_said flag) (sym none))

  pub next_setting : (front longer : List Setting) (rest behind_it : List S) (word : S) (flag : Flag) (number : ℕ) → 1 ≤ length rest → word ≡ get_or rest 0 word → Some flag ≡ flag_named (bytes word)
      → Some (number, map bytes behind_it) ≡ number_in (greatest_of flag) (map bytes (take (length rest - 1) (drop 1 rest))) → longer ≡ front ++ with_number flag number ∷ []
      → behind front (settings_of (map bytes rest)) ≡ behind longer (settings_of (map bytes behind_it))
  next_setting front longer rest behind_it word flag number some is is_flag said is_longer =
      ap (λ l. behind front (settings_of l)) (at_first rest word some is)
      ∙ ap (behind front) (named (bytes word) _ flag (sym is_flag) ∙ ap (and_said flag) (sym said))
      ∙ one_more front (with_number flag number) (settings_of (map bytes behind_it))
      ∙ ap (λ l. behind l (settings_of (map bytes behind_it))) (sym is_longer)
