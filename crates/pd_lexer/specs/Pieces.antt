-- What begins at a place of a source: a directive line, what separates tokens, a token, or a fault.
use Rattle.std.specs.Prelude.{ℕ, zero, suc, ◌+◌, ◌^◌, ◌==◌, nat_lt, Bool, true, false, not, ◌&&◌, ◌||◌, Option, Some, None, List, [], ◌∷◌, length, take, drop, codes, slice_index, if◌then◌else◌}
use Rattle.lexing.specs.Bytes.{is_word_byte}
use Rattle.lexing.specs.Separators.{begins_with_space, opens, line_length, comment_length}
use Rattle.pm_ops.specs.declared.fault.PatternFault.{PatternFault}
use Rattle.pm_ops.specs.declared.fault.PatternKind.TheVariants.{BadByte, OpenComment, OpenString, LongNumber, Directive as WrongDirective}
use Rattle.pm_places.specs.declared.span.Span.{Span}
use Rattle.pd_lexer.specs.declared.token.TokenKind.{TokenKind}
use Rattle.pd_lexer.specs.declared.token.TokenKind.TheVariants.{Number, Capture, ValueCapture}
use Rattle.pd_lexer.specs.declared.directives.Directive.{Directive}
use Rattle.pd_lexer.specs.declared.directives.Directive.TheVariants as directive
use Rattle.pd_lexer.specs.declared.pieces.Piece.{Piece}
use Rattle.pd_lexer.specs.declared.pieces.Piece.TheVariants as pieces
use Rattle.pd_lexer.specs.declared.levels.Level.{Level}
use Rattle.pd_lexer.specs.Directives.{hash_at, directive_of}
use Rattle.pd_lexer.specs.Levels.{Levels, opened, turned, closed}
use Rattle.pd_lexer.specs.Numbers.{number_value}
use Rattle.pd_lexer.specs.Tokens.{token_front}

-- ---- directive lines

-- a directive line that is unknown or out of place, by its `#`
abbrev pub directive_fault : ℕ → PatternFault
directive_fault hash = record { kind = WrongDirective; at = hash; len = 0 }

-- an `#else` wants a level that had none, and an `#endif` an `#if`
abbrev pub else_piece : Option Bool → Span → Piece
else_piece (Some taken) line = pieces.Else line
else_piece None line = pieces.Fault (directive_fault line.from) line.to

abbrev pub end_piece : List Level → Span → Piece
end_piece (level ∷ outer) line = pieces.EndIf line
end_piece [] line = pieces.Fault (directive_fault line.from) line.to

abbrev pub line_piece : Option Directive → Levels → Span → Piece
line_piece (Some (directive.If holds)) levels line = pieces.If holds line
line_piece (Some directive.Else) levels line = else_piece levels.inner.other line
line_piece (Some directive.EndIf) levels line = end_piece levels.outer line
line_piece None levels line = pieces.Fault (directive_fault line.from) line.to

-- the directive line whose `#` stands at the place
abbrev pub directive_piece : List ℕ → Levels → ℕ → Piece
directive_piece source levels hash =
    let text = drop hash source in
    line_piece (directive_of text) levels (record { from = hash; to = hash + line_length text })

-- ---- parts that are taken

-- one byte of white space, what is left of a line from `//` on, or a comment
unfoldable pub separator_length : List ℕ → Option ℕ
separator_length text =
    if begins_with_space text then Some 1
    else (if opens text (codes "//") then Some (line_length text) else comment_length text)

abbrev pub is_capture : TokenKind → Bool
is_capture Capture = true
is_capture ValueCapture = true
is_capture kind = false

-- right behind a letter, a digit, `_` or `?`
unfoldable pub is_behind_word : List ℕ → ℕ → Bool
is_behind_word source zero = false
is_behind_word source (suc before) = is_word_byte (slice_index source before) || (slice_index source before == 63)

-- a number above 2^63 - 1
abbrev pub is_long : TokenKind → List ℕ → Bool
is_long Number text = not (nat_lt (number_value text) (2 ^ 63))
is_long kind text = false

-- a token of n bytes
abbrev pub token_piece : List ℕ → ℕ → TokenKind → ℕ → Piece
token_piece source at kind n =
    if is_long kind (take n (drop at source)) then pieces.Fault (record { kind = LongNumber; at = at; len = n }) (at + n)
    else pieces.Token (record { kind = kind; from = at; to = at + n; joined = is_capture kind && is_behind_word source at })

-- Where no token begins: an open comment is passed over with all that is left, an open text with its line, and any other byte alone
abbrev pub no_token_piece : ℕ → List ℕ → Piece
no_token_piece at text =
    if opens text (codes "\"") then pieces.Fault (record { kind = OpenString; at = at; len = 0 }) (at + line_length text)
    else pieces.Fault (record { kind = BadByte; at = at; len = 0 }) (at + 1)

abbrev pub token_or_fault : List ℕ → ℕ → Option (TokenKind × ℕ) → Piece
token_or_fault source at (Some (kind, n)) = token_piece source at kind n
token_or_fault source at None = no_token_piece at (drop at source)

abbrev pub behind_separators : List ℕ → ℕ → Option ℕ → Piece
behind_separators source at (Some n) = pieces.Separator (at + n)
behind_separators source at None =
    if opens (drop at source) (codes "/*") then pieces.Fault (record { kind = OpenComment; at = at; len = 0 }) (length source)
    else token_or_fault source at (token_front (drop at source))

unfoldable pub taken_piece : List ℕ → ℕ → Piece
taken_piece source at = behind_separators source at (separator_length (drop at source))

-- ---- all of them

-- In a part that isn't taken each byte separates, but for directive lines
abbrev pub piece_from : List ℕ → Levels → ℕ → Option ℕ → Piece
piece_from source levels at (Some hash) = directive_piece source levels hash
piece_from source levels at None = if levels.inner.taken then taken_piece source at else pieces.Separator (at + 1)

unfoldable pub piece_at : List ℕ → Levels → ℕ → Piece
piece_at source levels at = piece_from source levels at (hash_at source at)

-- where a piece ends
abbrev pub end_of : Piece → ℕ
end_of (pieces.Separator to) = to
end_of (pieces.Token token) = token.to
end_of (pieces.If holds line) = line.to
end_of (pieces.Else line) = line.to
end_of (pieces.EndIf line) = line.to
end_of (pieces.Fault fault to) = to

-- the levels behind a piece
abbrev pub levels_after : Levels → Piece → Levels
levels_after levels (pieces.If holds line) = opened holds levels
levels_after levels (pieces.Else line) = turned levels
levels_after levels (pieces.EndIf line) = closed levels
levels_after levels piece = levels
