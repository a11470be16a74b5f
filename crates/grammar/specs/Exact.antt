-- When an answer at one input is exact.
use Rattle.std.specs.Prelude.{◌≡◌, List, [], ◌∷◌, ◌++◌, Ok, Err}
use Rattle.grammar.specs.Spelling.{Spelling, Begins}
use Rattle.grammar.specs.Reading.{Answer, rest_of}

-- The tokens don't begin with one of these.
abbrev pub IsApart : {T : Type 0} → (T → Type 0) → List T → Type 0
IsApart more [] = Unit {0}
IsApart more (t ∷ rest) = ¬ more t

-- What was taken from the front: a spelling of the answered value, or at a fault the front of some spelling.
abbrev pub Takes : {T E A : Type 0} → Spelling T A → List T → Answer T E A → Type 0
Takes N front (Ok x) = N x.0 front
Takes N front (Err fault) = Begins N front

-- The answer is exact at these tokens. `more` has every token that can go on a complete spelling.
pub record IsExact {T E A : Type 0} (N : Spelling T A) (more : T → Type 0) (tokens : List T) (answer : Answer T E A) : Type 0 where
  -- The answer cuts the tokens into what it took and the rest.
  pub front : List T
  pub cut : tokens ≡ front ++ rest_of answer
  pub takes : Takes N front answer
  -- No spelling goes on with the next token.
  pub stops : (t : T) (after : List T) → rest_of answer ≡ t ∷ after → ¬ Begins N (front ++ t ∷ [])
  -- A spelling at the front that no token of `more` follows is what was read.
  pub only : (x : A) (u v : List T) → N x u → tokens ≡ u ++ v → IsApart more v → answer ≡ Ok (x, v)
