-- What begins at a place: a separator or else a token.
use Rattle.std.specs.Prelude.{ℕ, Option, Some, None, List}
use Rattle.lexing.specs.declared.pieces.Piece.{Piece}
use Rattle.lexing.specs.declared.pieces.Piece.TheVariants as pieces
use Rattle.lexing.specs.Cuts.{Language}

abbrev pub piece_from : {T : Type 0} → Option ℕ → Option T → Option (Piece T)
piece_from (Some to) token = Some (pieces.Separator to)
piece_from None (Some token) = Some (pieces.Token token)
piece_from None None = None

-- what a language says of the place
abbrev pub piece_at : {T : Type 0} → Language T → List ℕ → ℕ → Option (Piece T)
piece_at language source at = piece_from (language.separator_at source at) (language.token_at source at)
