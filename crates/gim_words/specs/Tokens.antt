-- Single tokens: what one means beyond the words of gim_text, and what can go on it.
use Rattle.std.specs.Prelude.{Option, Some, None}
use Rattle.pm_places.specs.declared.span.Span.{Span}
use Rattle.gim_text.specs.declared.token.Token.{Token}
use Rattle.gim_text.specs.declared.token.Token.TheVariants as tokens
use Rattle.gim_text.specs.declared.token.NumberKind.TheVariants.{Plain}

-- the place of a number of digits alone
abbrev pub plain_number : Token → Option Span
plain_number (tokens.Number Plain at) = Some at
plain_number token = None

-- No token goes on what ends by itself.
abbrev pub GoesOnNothing : Token → Type 0
GoesOnNothing t = ⊥
