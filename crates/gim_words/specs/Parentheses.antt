-- Tokens whose parentheses pair, and the `)` that closes what was opened before them.
use Rattle.std.specs.Prelude.{◌≡◌, List, [], ◌∷◌, ◌++◌}
use Rattle.pm_places.specs.declared.span.Span.{Span}
use Rattle.gim_text.specs.declared.token.Token.{Token}
use Rattle.gim_text.specs.declared.token.Token.TheVariants as tokens
use Rattle.gim_text.specs.declared.token.Mark.TheVariants as marks

-- neither `(` nor `)`
abbrev pub IsNoParenthesis : Token → Type 0
IsNoParenthesis (tokens.Mark marks.Open at) = ⊥
IsNoParenthesis (tokens.Mark marks.Close at) = ⊥
IsNoParenthesis token = Unit {0}

-- balanced := nothing | token balanced | '(' balanced ')' balanced
pub data IsBalanced : List Token → Type 0 where
  none_left : {w : List Token} → w ≡ [] → IsBalanced w
  further : {w : List Token} (t : Token) (v : List Token) → IsNoParenthesis t → IsBalanced v → w ≡ t ∷ v → IsBalanced w
  paired : {w : List Token} (left right : Span) (u v : List Token) → IsBalanced u → IsBalanced v
      → w ≡ tokens.Mark marks.Open left ∷ (u ++ tokens.Mark marks.Close right ∷ v) → IsBalanced w

-- balanced ')': the place of the `)`
abbrev pub Closing : Span → List Token → Type 0
Closing at w = (u : List Token) × IsBalanced u × (w ≡ u ++ tokens.Mark marks.Close at ∷ [])
