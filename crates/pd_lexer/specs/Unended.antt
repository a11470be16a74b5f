-- What the code keeps and asks of the `#if` that are open, for the first of them may be the first fault.
use Rattle.std.specs.Prelude.{◌≡◌, ℕ, Bool, List, [], ◌∷◌, length}
use Rattle.pd_lexer.specs.declared.levels.Level.{Level}
use Rattle.pd_lexer.specs.declared.pieces.Piece.{Piece}
use Rattle.pd_lexer.specs.declared.pieces.Piece.TheVariants as pieces
use Rattle.pd_lexer.specs.Cuts.{Cuts, closes}
use Rattle.pd_lexer.specs.Levels.{Levels}

-- where the outermost `#if` that is open stands, behind a piece
abbrev pub outermost_from : List Level → ℕ → ℕ → ℕ
outermost_from [] hash before = hash
outermost_from (level ∷ outer) hash before = before

abbrev pub outermost_after : Levels → Piece → ℕ → ℕ
outermost_after levels (pieces.If holds line) before = outermost_from levels.outer line.from before
outermost_after levels piece before = before

-- whether each `#if` that is open before a place is ended behind it
abbrev pub EndsAll : List ℕ → Levels → ℕ → Bool → Type 0
EndsAll source levels at ended = (rest : List Piece) → Cuts source levels at rest → closes (length levels.outer) rest ≡ ended
