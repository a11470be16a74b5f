-- Longest match, by what tokens spell.
use Rattle.std.specs.Prelude.{◌≡◌, ◌⊎◌, ℕ, ◌≤◌, Some, List, length}
use Rattle.pm_places.specs.Spans.{text_of}
use Rattle.lexing.specs.Cuts.{Language}

-- the token that begins at one place reaches to another, or further
pub record Covers {T : Type 0} (language : Language T) (source : List ℕ) (from to : ℕ) : Type 0 where
  pub token : T
  pub begins : language.token_at source from ≡ Some token
  pub reaches : to ≤ (language.span_of token).to

-- Where bytes spell a token, the token that begins with them has all of them, unless they begin like a separator
abbrev pub IsLongestMatch : {T : Type 0} → Language T → (List ℕ → T → Type 0) → (List ℕ → ℕ → Type 0) → List ℕ → Type 0
IsLongestMatch {T} language spells separates source = (from to : ℕ) → from ≤ length source → to ≤ length source
    → ((token : T) × spells (text_of source (record { from = from; to = to })) token) → separates source from ⊎ Covers language source from to
