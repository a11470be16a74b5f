-- A text between two `"` is found where it stands, and nothing else is.
use Rattle.std.proofs.Common.{◌≡◌, ℕ, zero, suc, ◌+◌, ◌-◌, ◌<◌, ◌≤◌, Bool, true, false, cond, List, [], ◌∷◌, ◌++◌, length, take, drop, codes, Some, None, refl, sym, ap, ◌∙◌, subst, arith}
use Rattle.std.specs.List.{prefix_len, list_all}
use Rattle.std.specs.Cmp.Lexicographic.{bytes_decides}
use Rattle.std.proofs.lemmas.Bool.{and_parts}
use Rattle.std.proofs.lemmas.List.{length-drop, length-take-le, length-append}
use Rattle.std.proofs.Math.Seq.{take-add}
use Rattle.lexing.specs.Bytes.{is_inner}
use Rattle.lexing.specs.Separators.{opens}
use Rattle.lexing.specs.Quoted.{IsQuoted, quoted_length}
use Rattle.lexing.proofs.Opening.{opens_long}
use Rattle.lexing.proofs.Runs.{run_passes, run_begins}

-- a text that is found
pub record QuotedFront (rest : List ℕ) (n : ℕ) : Type 0 where
  pub long : 0 < n
  pub within : n ≤ suc (length rest)
  pub is_quoted : IsQuoted (take n (34 ∷ rest))

pub quoted_front : (rest : List ℕ) (n : ℕ) → quoted_length rest ≡ Some n → QuotedFront rest n
unfolding quoted_length
quoted_front rest n e = by (opens (drop (prefix_len is_inner rest) rest) (codes "\"")) refl e where
  by : (u : Bool) → opens (drop (prefix_len is_inner rest) rest) (codes "\"") ≡ u → cond u (Some (prefix_len is_inner rest + 2)) None ≡ Some n
      → QuotedFront rest n
  by false p e = absurd cc
  by true p e =
      let k = prefix_len is_inner rest in
      let same : k + 2 ≡ n = cc in
      let last : 34 ∷ [] ≡ take 1 (drop k rest) = (bytes_decides (34 ∷ []) (take 1 (drop k rest))).0 p in
      let long : 1 ≤ length (drop k rest) = opens_long (drop k rest) (codes "\"") p in
      let left : length (drop k rest) ≡ length rest - k = length-drop k rest in
      let more : k + 2 ≡ suc (k + 1) = omega arith in
      subst (QuotedFront rest) same (record {
        long = omega arith;
        within = omega arith;
        is_quoted = record {
          inner = take k rest;
          parts = ap (λ m. take m (34 ∷ rest)) more ∙ ap (λ bs. 34 ∷ bs) (take-add k 1 rest ∙ ap (λ bs. take k rest ++ bs) (sym last));
          on_one_line = run_passes is_inner rest;
        };
      })

quoted_run : (rest inner : List ℕ) (k : ℕ) → take k rest ≡ inner ++ 34 ∷ [] → list_all is_inner inner ≡ true
    → (prefix_len is_inner rest ≡ length inner) × (opens (drop (prefix_len is_inner rest) rest) (codes "\"") ≡ true)
quoted_run rest [] zero e h = absurd cc
quoted_run rest (i ∷ inner) zero e h = absurd cc
quoted_run [] [] (suc k) e h = absurd cc
quoted_run [] (i ∷ inner) (suc k) e h = absurd cc
quoted_run (b ∷ rest) [] (suc k) e h =
    let same : b ≡ 34 = cc in
    subst (λ a. (prefix_len is_inner (a ∷ rest) ≡ 0) × (opens (drop (prefix_len is_inner (a ∷ rest)) (a ∷ rest)) (codes "\"") ≡ true)) (sym same) (refl, refl)
quoted_run (b ∷ rest) (i ∷ inner) (suc k) e h =
    let same : b ≡ i = cc in
    let left : take k rest ≡ inner ++ 34 ∷ [] = cc in
    let parts = and_parts (is_inner i) (list_all is_inner inner) h in
    let more : prefix_len is_inner (b ∷ rest) ≡ suc (prefix_len is_inner rest) = run_begins is_inner b rest (ap is_inner same ∙ parts.0) in
    let later = quoted_run rest inner k left parts.1 in
    (more ∙ ap suc later.0, ap (λ n. opens (drop n (b ∷ rest)) (codes "\"")) more ∙ later.1)

-- bytes at the front that are such a text are the one that is found
pub quoted_found : (rest : List ℕ) (m : ℕ) → m ≤ length rest → IsQuoted (34 ∷ take m rest) → quoted_length rest ≡ Some (suc m)
unfolding quoted_length
quoted_found rest m le quoted =
    let left : take m rest ≡ quoted.inner ++ 34 ∷ [] = let parts : 34 ∷ take m rest ≡ 34 ∷ (quoted.inner ++ 34 ∷ []) = quoted.parts in cc in
    let run = quoted_run rest quoted.inner m left quoted.on_one_line in
    let short : length (take m rest) ≡ m = length-take-le m rest le in
    let long : length (quoted.inner ++ 34 ∷ []) ≡ length quoted.inner + 1 = length-append quoted.inner (34 ∷ []) in
    let all : prefix_len is_inner rest + 2 ≡ suc m = omega (arith, short, long, ap length left, run.0) in
    rw (run.1) (ap Some all)
