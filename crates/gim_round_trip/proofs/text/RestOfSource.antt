-- What is left of a source from a place on.
use Rattle.std.proofs.Common.{◌≡◌, ℕ, ◌+◌, ◌-◌, ◌≤◌, List, [], ◌∷◌, ◌++◌, length, take, drop, refl, sym, ap, ◌∙◌, arith}
use Rattle.std.proofs.lemmas.List.{drop-drop, length-append, length-drop}
use Rattle.pm_places.specs.Spans.{text_of, place}

pub record Left (source : List ℕ) (at : ℕ) (rest : List ℕ) : Type 0 where
  pub is : drop at source ≡ rest
  pub within : at ≤ length source

front_dropped : (bs rest : List ℕ) → drop (length bs) (bs ++ rest) ≡ rest
front_dropped [] rest = refl
front_dropped (b ∷ bs) rest = front_dropped bs rest

front_taken : (bs rest : List ℕ) → take (length bs) (bs ++ rest) ≡ bs
front_taken [] rest = refl
front_taken (b ∷ bs) rest = ap (λ cs. b ∷ cs) (front_taken bs rest)

-- behind a text that stands at the place
pub behind : (source : List ℕ) (at : ℕ) (bs rest : List ℕ) → Left source at (bs ++ rest) → Left source (at + length bs) rest
behind source at bs rest left =
    let all : length (drop at source) ≡ length source - at = length-drop at source in
    let same : length (drop at source) ≡ length (bs ++ rest) = ap length left.is in
    record {
      is = sym (drop-drop (length bs) at source) ∙ ap (drop (length bs)) left.is ∙ front_dropped bs rest;
      within = omega (arith, length-append bs rest, left.within);
    }

-- the text that stands at the place
pub text_there : (source : List ℕ) (at : ℕ) (bs rest : List ℕ) → Left source at (bs ++ rest) → text_of source (place at (length bs)) ≡ bs
text_there source at bs rest left =
    let n : (at + length bs) - at ≡ length bs = omega arith in
    ap (λ k. take k (drop at source)) n ∙ ap (take (length bs)) left.is ∙ front_taken bs rest

pub left_at_start : (source : List ℕ) → Left source 0 source
left_at_start source = record { is = refl; within = omega arith }
