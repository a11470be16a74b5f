-- Longest match, by what tokens spell.
use Rattle.std.specs.Prelude.{◌≡◌, ℕ, ◌≤◌, Some, List, length, take}
use Rattle.pd_lexer.specs.declared.token.TokenKind.{TokenKind}
use Rattle.pd_lexer.specs.Spelled.{Spells}
use Rattle.pd_lexer.specs.Tokens.{token_front}

-- the token that begins the text has this many bytes, or more
pub record Reaches (text : List ℕ) (bytes : ℕ) : Type 0 where
  pub kind : TokenKind
  pub len : ℕ
  pub begins : token_front text ≡ Some (kind, len)
  pub reaches : bytes ≤ len

-- Where bytes at the front spell a token, the token that begins the text has all of them
abbrev pub IsLongestMatch : List ℕ → Type 0
IsLongestMatch text = (bytes : ℕ) (kind : TokenKind) → bytes ≤ length text → Spells (take bytes text) kind → Reaches text bytes
