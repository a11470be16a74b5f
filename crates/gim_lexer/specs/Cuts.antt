-- A source of GIMPLE text cut into separators and tokens.
use Rattle.std.specs.Prelude.{ℕ, zero, suc, ◌+◌, ◌==◌, Bool, true, option_map, Option, List, drop, slice_index}
use Rattle.lexing.specs.Cuts as cuts
use Rattle.gim_text.specs.declared.token.Token.{Token}
use Rattle.gim_text.specs.Meanings.{span_of}
use Rattle.gim_lexer.specs.Separators.{separator_length}
use Rattle.gim_lexer.specs.Tokens.{token_of_text}

-- A line begins at the place. No comment ends there, since a comment ends in `*/`
unfoldable pub line_begins : List ℕ → ℕ → Bool
line_begins source zero = true
line_begins source (suc before) = slice_index source before == 10

-- where the separator ends that begins at the place
abbrev pub separator_at : List ℕ → ℕ → Option ℕ
separator_at source at = option_map (λ n. at + n) (separator_length (line_begins source at) (drop at source))

-- the token that begins at the place
abbrev pub token_at : List ℕ → ℕ → Option Token
token_at source at = token_of_text at (drop at source)

abbrev pub gimple : cuts.Language Token
gimple = record { separator_at = separator_at; token_at = token_at; span_of = span_of }

-- from one place to another the source is separators and these tokens, each as long as it can be
abbrev pub Cuts : List ℕ → ℕ → List Token → ℕ → Type 0
Cuts source from tokens to = cuts.Cuts gimple source from tokens to

-- these are the tokens of the source
abbrev pub AreTokens : List ℕ → List Token → Type 0
AreTokens source tokens = cuts.AreTokens gimple source tokens

-- the first place at which no separator and no token begins, where the source goes on
abbrev pub IsLexFault : List ℕ → ℕ → Type 0
IsLexFault source at = cuts.IsLexFault gimple source at

-- the source has tokens, or a first place where nothing begins
abbrev pub HasOutcome : List ℕ → Type 0
HasOutcome source = cuts.HasOutcome gimple source
