-- A source cut into separators and tokens, whatever its language says that these are.
use Rattle.std.specs.Prelude.{◌≡◌, ◌⊎◌, ℕ, ◌<◌, ◌≤◌, Option, Some, None, List, [], ◌∷◌, length}
use Rattle.pm_places.specs.declared.span.Span.{Span}
use Rattle.pm_places.specs.Spans.{text_of}

-- What a language says of each place of a source: where a separator ends that begins there, and which token begins there; and
-- where a token stands
pub record Language (T : Type 0) : Type 0 where
  pub separator_at : List ℕ → ℕ → Option ℕ
  pub token_at : List ℕ → ℕ → Option T
  pub span_of : T → Span

-- `Cuts language source from tokens to`: from one place to another the source is separators and these tokens. What begins like
-- a separator is one
pub data Cuts {T : Type 0} (language : Language T) (source : List ℕ) : ℕ → List T → ℕ → Type 0 where
  done : (at : ℕ) → Cuts language source at [] at
  separator : (at next to : ℕ) (tokens : List T) → language.separator_at source at ≡ Some next → Cuts language source next tokens to
      → Cuts language source at tokens to
  token : (at to : ℕ) (t : T) (tokens : List T) → language.separator_at source at ≡ None → language.token_at source at ≡ Some t
      → Cuts language source (language.span_of t).to tokens to → Cuts language source at (t ∷ tokens) to

-- these are the tokens of the source
abbrev pub AreTokens : {T : Type 0} → Language T → List ℕ → List T → Type 0
AreTokens language source tokens = Cuts language source 0 tokens (length source)

-- the first place at which no separator and no token begins, where the source goes on
pub record IsLexFault {T : Type 0} (language : Language T) (source : List ℕ) (at : ℕ) : Type 0 where
  pub tokens : List T
  pub before : Cuts language source 0 tokens at
  pub within : at < length source
  pub no_separator : language.separator_at source at ≡ None
  pub no_token : language.token_at source at ≡ None

-- the source has tokens, or a first place where nothing begins
abbrev pub HasOutcome : {T : Type 0} → Language T → List ℕ → Type 0
HasOutcome {T} language source = ((tokens : List T) × AreTokens language source tokens) ⊎ ((at : ℕ) × IsLexFault language source at)

-- the token stands in the source, and its text spells it
pub record StandsIn {T : Type 0} (spells : List ℕ → T → Type 0) (span_of : T → Span) (source : List ℕ) (token : T) : Type 0 where
  pub has_bytes : (span_of token).from < (span_of token).to
  pub within : (span_of token).to ≤ length source
  pub spelled : spells (text_of source (span_of token)) token

-- the tokens stand one behind the other, from one place to another
abbrev pub InOrder : {T : Type 0} → (T → Span) → ℕ → List T → ℕ → Type 0
InOrder span_of from [] to = from ≤ to
InOrder span_of from (t ∷ ts) to = (from ≤ (span_of t).from) × ((span_of t).from < (span_of t).to) × InOrder span_of (span_of t).to ts to
