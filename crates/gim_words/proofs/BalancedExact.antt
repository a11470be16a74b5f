-- Tokens whose parentheses pair, with the `)` after them, are read exactly.
use Rattle.std.proofs.Common.{◌≡◌, ℕ, zero, suc, List, [], ◌∷◌, ◌++◌, Ok, refl, sym, ap, subst, ◌∙◌, append_assoc}
use Rattle.grammar.specs.Spelling.{Begins, Nothing}
use Rattle.grammar.specs.Exact.{IsExact}
use Rattle.grammar.proofs.Parts as parts
use Rattle.grammar.proofs.Sequence.{Never}
use Rattle.pm_places.specs.declared.span.Span.{Span}
use Rattle.gim_text.specs.declared.token.Token.{Token}
use Rattle.gim_text.specs.declared.token.Token.TheVariants as tokens
use Rattle.gim_text.specs.declared.token.Mark.TheVariants as marks
use Rattle.gim_words.specs.Tokens.{GoesOnNothing}
use Rattle.gim_words.specs.Parentheses.{IsNoParenthesis, IsBalanced, none_left, further, paired, Closing}
use Rattle.gim_words.specs.TokenReaders.{closing_within, closing_at}
use Rattle.grammar.proofs.EveryInput.{Reads, in_words}
use Rattle.gim_words.proofs.TokensExact.{somewhere}

-- The `)` that closes what was opened before, within this many parentheses more: token by token.
Closes : ℕ → Span → List Token → Type 0
Closes depth at [] = ⊥
Closes depth at (tokens.Mark marks.Open p ∷ w) = Closes (suc depth) at w
Closes zero at (tokens.Mark marks.Close p ∷ w) = (at ≡ p) × (w ≡ [])
Closes (suc depth) at (tokens.Mark marks.Close p ∷ w) = Closes depth at w
Closes depth at (t ∷ w) = Closes depth at w

some_closing : (depth : ℕ) → Begins (Closes depth) []
unfolding Closes
some_closing zero = record { value = somewhere; after = tokens.Mark marks.Close somewhere ∷ []; spelled = (refl, refl) }
some_closing (suc depth) =
    let inner = some_closing depth in
    record { value = inner.value; after = tokens.Mark marks.Close somewhere ∷ inner.after; spelled = inner.spelled }

within_exact : (depth : ℕ) (input : List Token) → IsExact (Closes depth) Never input (closing_within depth input)
unfolding Closes
within_exact depth [] = parts.refused (Closes depth) Never tt (some_closing depth) [] (λ x none far. none) (λ t rest e. absurd (cc))
within_exact depth (tokens.Mark marks.Open at ∷ rest) =
    parts.from_token (Closes depth) (Closes (suc depth)) Never (tokens.Mark marks.Open at) rest (closing_within (suc depth) rest) (λ x w s. s) (λ x w s. s) (λ x s. s) (within_exact (suc depth) rest)
within_exact zero (tokens.Mark marks.Close at ∷ rest) =
    parts.from_token (Closes zero) (Nothing at) Never (tokens.Mark marks.Close at) rest (Ok (at, rest)) (λ x w s. s) (λ x w s. s) (λ x s. s) (parts.nothing at Never rest)
within_exact (suc depth) (tokens.Mark marks.Close at ∷ rest) =
    parts.from_token (Closes (suc depth)) (Closes depth) Never (tokens.Mark marks.Close at) rest (closing_within depth rest) (λ x w s. s) (λ x w s. s) (λ x s. s) (within_exact depth rest)
within_exact depth (t ∷ rest) =
    parts.from_token (Closes depth) (Closes depth) Never t rest (closing_within depth rest) (λ x w s. s) (λ x w s. s) (λ x s. s) (within_exact depth rest)

-- any other token, and what pairs, leaves the depth as it was
passed_token : (depth : ℕ) (at : Span) (t : Token) (v : List Token) → IsNoParenthesis t → Closes depth at v → Closes depth at (t ∷ v)
unfolding Closes
passed_token depth at (tokens.Mark marks.Open p) v other closes = absurd other
passed_token depth at (tokens.Mark marks.Close p) v other closes = absurd other
passed_token depth at t v other closes = closes

passed : (depth : ℕ) (at : Span) (w v : List Token) → IsBalanced w → Closes depth at v → Closes depth at (w ++ v)
unfolding Closes
passed depth at w v (none_left empty) closes = subst (λ l. Closes depth at (l ++ v)) (sym empty) closes
passed depth at w v (further t u other others cut) closes =
    subst (λ l. Closes depth at (l ++ v)) (sym cut) (passed_token depth at t (u ++ v) other (passed depth at u v others closes))
passed depth at w v (paired left right a b inner others cut) closes =
    subst (λ l. Closes depth at (l ++ v)) (sym cut)
    (subst (λ l. Closes (suc depth) at l) (sym (append_assoc a (tokens.Mark marks.Close right ∷ b) v))
    (passed (suc depth) at a (tokens.Mark marks.Close right ∷ (b ++ v)) inner (passed depth at b v others closes)))

-- what closes so many parentheses: pieces that pair, each with a `)` after it
Pieces : ℕ → Span → List Token → Type 0
Pieces zero at w = Closing at w
Pieces (suc depth) at w = (p : Span) × (u : List Token) × (v : List Token) × IsBalanced u × Pieces depth at v × (w ≡ u ++ tokens.Mark marks.Close p ∷ v)

one_more : (depth : ℕ) (at : Span) (t : Token) (w : List Token) → IsNoParenthesis t → Pieces depth at w → Pieces depth at (t ∷ w)
unfolding Pieces
one_more zero at t w other (u, balanced, cut) = (t ∷ u, further t u other balanced refl, ap (λ l. t ∷ l) cut)
one_more (suc depth) at t w other (p, u, v, balanced, pieces, cut) = (p, t ∷ u, v, further t u other balanced refl, pieces, ap (λ l. t ∷ l) cut)

opened : (depth : ℕ) (at left : Span) (w : List Token) → Pieces (suc depth) at w → Pieces depth at (tokens.Mark marks.Open left ∷ w)
unfolding Pieces
opened zero at left w (p, u, v, balanced, (z, others, last), cut) = (
  tokens.Mark marks.Open left ∷ (u ++ tokens.Mark marks.Close p ∷ z),
  paired left p u z balanced others refl,
  ap (λ l. tokens.Mark marks.Open left ∷ l) (cut ∙ ap (λ l. u ++ tokens.Mark marks.Close p ∷ l) last ∙ sym (append_assoc u (tokens.Mark marks.Close p ∷ z) (tokens.Mark marks.Close at ∷ []))),
)
opened (suc depth) at left w (p, u, v, balanced, (q, z, k, others, pieces, last), cut) = (
  q,
  tokens.Mark marks.Open left ∷ (u ++ tokens.Mark marks.Close p ∷ z),
  k,
  paired left p u z balanced others refl,
  pieces,
  ap (λ l. tokens.Mark marks.Open left ∷ l) (cut ∙ ap (λ l. u ++ tokens.Mark marks.Close p ∷ l) last ∙ sym (append_assoc u (tokens.Mark marks.Close p ∷ z) (tokens.Mark marks.Close q ∷ k))),
)

in_pieces : (depth : ℕ) (at : Span) (w : List Token) → Closes depth at w → Pieces depth at w
unfolding Closes Pieces
in_pieces depth at [] closes = absurd closes
in_pieces depth at (tokens.Mark marks.Open p ∷ w) closes = opened depth at p w (in_pieces (suc depth) at w closes)
in_pieces zero at (tokens.Mark marks.Close p ∷ w) (same, empty) =
    ([], none_left refl, ap (λ q. tokens.Mark marks.Close q ∷ w) (sym same) ∙ ap (λ l. tokens.Mark marks.Close at ∷ l) empty)
in_pieces (suc depth) at (tokens.Mark marks.Close p ∷ w) closes = (p, [], w, none_left refl, in_pieces depth at w closes, refl)
in_pieces depth at (t ∷ w) closes = one_more depth at t w tt (in_pieces depth at w closes)

closing_of : (at : Span) (w : List Token) → Closes zero at w → Closing at w
unfolding Pieces
closing_of at w closes = in_pieces zero at w closes

closes_of : (at : Span) (w : List Token) → Closing at w → Closes zero at w
unfolding Closes
closes_of at w (u, balanced, cut) = subst (λ l. Closes zero at l) (sym cut) (passed zero at u (tokens.Mark marks.Close at ∷ []) balanced (refl, refl))

pub closing_exact : (input : List Token) → IsExact Closing GoesOnNothing input (closing_at input)
closing_exact input = parts.in_words (Closes zero) Closing GoesOnNothing input (closing_at input) closing_of closes_of (within_exact zero input)

-- Tokens whose parentheses pair, and the `)` after them.
pub closing_reads : Reads Closing Never closing_at
closing_reads =
    in_words (Closes zero) Closing Never closing_at closing_of closes_of
    (record { some = some_closing zero; exact = λ input. within_exact zero input })
