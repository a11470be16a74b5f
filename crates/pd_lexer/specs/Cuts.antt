-- A source cut into pieces: its tokens, and its first fault.
use Rattle.std.specs.Prelude.{◌≡◌, ◌⊎◌, ℕ, zero, suc, ◌<◌, ◌≤◌, Bool, true, false, Option, Some, None, List, [], ◌∷◌, ◌++◌, length, if◌then◌else◌}
use Rattle.pm_ops.specs.declared.fault.PatternFault.{PatternFault}
use Rattle.pd_lexer.specs.declared.token.Token.{Token}
use Rattle.pd_lexer.specs.declared.pieces.Piece.{Piece}
use Rattle.pd_lexer.specs.declared.pieces.Piece.TheVariants as pieces
use Rattle.pd_lexer.specs.Levels.{Levels, ground}
use Rattle.pd_lexer.specs.Pieces.{directive_fault, piece_at, end_of, levels_after}

-- From a place in these levels up to its end the source is these pieces, one behind the other
abbrev pub Cuts : List ℕ → Levels → ℕ → List Piece → Type 0
Cuts source levels at [] = at ≡ length source
Cuts source levels at (piece ∷ rest) =
    (at < length source) × (piece_at source levels at ≡ piece) × Cuts source (levels_after levels piece) (end_of piece) rest

-- whether the pieces end so many levels that are open before them: an `#if` among them takes an `#endif` for itself
abbrev pub closes : ℕ → List Piece → Bool
closes zero rest = true
closes (suc n) [] = false
closes (suc n) (pieces.If holds line ∷ rest) = closes (suc (suc n)) rest
closes (suc n) (pieces.EndIf line ∷ rest) = closes n rest
closes (suc n) (piece ∷ rest) = closes (suc n) rest

-- the fault of a piece, by those behind it: an `#if` has one where it isn't ended
abbrev pub fault_of : Piece → List Piece → Option PatternFault
fault_of (pieces.If holds line) rest = if closes 1 rest then None else Some (directive_fault line.from)
fault_of (pieces.Fault fault to) rest = Some fault
fault_of piece rest = None

abbrev pub token_of : Piece → List Token
token_of (pieces.Token token) = token ∷ []
token_of piece = []

abbrev pub tokens_of : List Piece → List Token
tokens_of [] = []
tokens_of (piece ∷ rest) = token_of piece ++ tokens_of rest

-- a fault of the source is that of one of its pieces
pub record IsFaultOf (source : List ℕ) (fault : PatternFault) : Type 0 where
  pub front : List Piece
  pub piece : Piece
  pub rest : List Piece
  pub cut : Cuts source ground 0 (front ++ piece ∷ rest)
  pub has : fault_of piece rest ≡ Some fault

-- the source is cut into pieces of which none has a fault, and these are the tokens among them
pub record AreTokens (source : List ℕ) (tokens : List Token) : Type 0 where
  pub pieces : List Piece
  pub cut : Cuts source ground 0 pieces
  pub sound : (fault : PatternFault) → IsFaultOf source fault → ⊥
  pub are : tokens ≡ tokens_of pieces

-- the fault of the source that stands at the least place
pub record IsLexFault (source : List ℕ) (fault : PatternFault) : Type 0 where
  pub is : IsFaultOf source fault
  pub least : (other : PatternFault) → IsFaultOf source other → fault.at ≤ other.at

-- the source has tokens, or a first fault
abbrev pub HasOutcome : List ℕ → Type 0
HasOutcome source = ((tokens : List Token) × AreTokens source tokens) ⊎ ((fault : PatternFault) × IsLexFault source fault)
