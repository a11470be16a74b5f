-- Marks of one byte and of two.
use Rattle.std.specs.Prelude.{ℕ, Option, List, [], ◌∷◌, codes}
use Rattle.gim_text.specs.declared.token.Mark.{Mark}
use Rattle.gim_text.specs.declared.token.Mark.TheVariants as marks
use Rattle.lexing.specs.Tables.{beside}

abbrev pub short_marks : List (List ℕ × Mark)
short_marks = (codes "(", marks.Open) ∷ (codes ")", marks.Close) ∷ (codes "{", marks.OpenBrace) ∷ (codes "}", marks.CloseBrace)
    ∷ (codes ",", marks.Comma) ∷ (codes ";", marks.Semicolon) ∷ (codes ":", marks.Colon) ∷ (codes "?", marks.Question)
    ∷ (codes "=", marks.Assign) ∷ (codes "+", marks.Plus) ∷ (codes "-", marks.Minus) ∷ (codes "*", marks.Star)
    ∷ (codes "/", marks.Slash) ∷ (codes "%", marks.Percent) ∷ (codes "&", marks.Ampersand) ∷ (codes "|", marks.Bar)
    ∷ (codes "^", marks.Caret) ∷ (codes "~", marks.Tilde) ∷ (codes "<", marks.Less) ∷ (codes ">", marks.Greater) ∷ []

abbrev pub long_marks : List (List ℕ × Mark)
long_marks = (codes "<<", marks.ShiftLeft) ∷ (codes ">>", marks.ShiftRight) ∷ (codes "==", marks.Equal) ∷ (codes "!=", marks.NotEqual)
    ∷ (codes "<=", marks.LessEqual) ∷ (codes ">=", marks.GreaterEqual) ∷ []

-- the mark that these bytes are
abbrev pub short_mark : ℕ → Option Mark
short_mark a = beside (a ∷ []) short_marks

abbrev pub long_mark : ℕ → ℕ → Option Mark
long_mark a b = beside (a ∷ b ∷ []) long_marks
