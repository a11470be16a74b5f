-- The place of a token.
use Rattle.pm_places.specs.declared.span.Span.{Span}
use Rattle.pd_lexer.specs.declared.token.Token.{Token}

abbrev pub span_of : Token → Span
span_of token = record { from = token.from; to = token.to }
