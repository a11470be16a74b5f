-- The option list is read exactly: tokens whose parentheses pair, with `ssa` outside inner parentheses, and the `)`
-- after them.
use Rattle.std.proofs.Common.{◌≡◌, ℕ, zero, suc, List, [], ◌∷◌, ◌++◌, refl, sym, ap, subst, ◌∙◌, append_assoc, Some}
use Rattle.grammar.specs.Spelling.{Begins, Meant}
use Rattle.gim_text.specs.Meanings.{mark}
use Rattle.grammar.specs.Reading.{◌>>=◌}
use Rattle.grammar.specs.Exact.{IsExact}
use Rattle.grammar.proofs.Parts as parts
use Rattle.grammar.proofs.Sequence.{Never}
use Rattle.pm_places.specs.declared.span.Span.{Span}
use Rattle.gim_text.specs.declared.token.Token.{Token}
use Rattle.gim_text.specs.declared.token.Token.TheVariants as tokens
use Rattle.gim_text.specs.declared.token.Mark.TheVariants as marks
use Rattle.gim_words.specs.Parentheses.{IsNoParenthesis, IsBalanced, none_left, further, paired, Closing}
use Rattle.gim_words.specs.TokenReaders.{closing_at}
use Rattle.grammar.proofs.EveryInput.{Reads, in_words}
use Rattle.gim_words.proofs.BalancedExact.{closing_reads}
use Rattle.gim_statements.specs.Grammar.{◌▸◌}
use Rattle.gim_syntax.specs.Grammar.{HoldsSsa}
use Rattle.gim_syntax.specs.Readers.{ssa_within, options_at}
use Rattle.gim_words.proofs.TokensExact.{somewhere}

-- the list and the place of its `)`
abbrev pub Options : Span → List Token → Type 0
Options at w = (HoldsSsa ▸ Meant (mark marks.Close) at) w

-- the same, its tokens written out
abbrev Listed : List Token → Type 0
Listed w = (before : List Token) × (ssa : Span) × (after : List Token) × IsBalanced before × IsBalanced after × (w ≡ before ++ tokens.Ssa ssa ∷ after)

abbrev Closed : Span → List Token → Type 0
Closed at w = (options : List Token) × Listed options × (w ≡ options ++ tokens.Mark marks.Close at ∷ [])

-- The same token by token, within this many inner parentheses, before the first `ssa` outside them.
Lists : ℕ → Span → List Token → Type 0
Lists depth at [] = ⊥
Lists depth at (tokens.Mark marks.Open p ∷ w) = Lists (suc depth) at w
Lists zero at (tokens.Mark marks.Close p ∷ w) = ⊥
Lists (suc depth) at (tokens.Mark marks.Close p ∷ w) = Lists depth at w
Lists zero at (tokens.Ssa p ∷ w) = Closing at w
Lists depth at (t ∷ w) = Lists depth at w

some_list : (depth : ℕ) → Begins (Lists depth) []
unfolding Lists
some_list zero = record { value = somewhere; after = tokens.Ssa somewhere ∷ tokens.Mark marks.Close somewhere ∷ []; spelled = ([], none_left refl, refl) }
some_list (suc depth) =
    let inner = some_list depth in
    record { value = inner.value; after = tokens.Mark marks.Close somewhere ∷ inner.after; spelled = inner.spelled }

list_exact : (depth : ℕ) (input : List Token) → IsExact (Lists depth) Never input (ssa_within depth input >>= λ ssa. closing_at ssa.1)
unfolding Lists
list_exact depth [] = parts.refused (Lists depth) Never tt (some_list depth) [] (λ x none far. none) (λ t rest e. absurd (cc))
list_exact depth (tokens.Mark marks.Open at ∷ rest) =
    parts.from_token (Lists depth) (Lists (suc depth)) Never (tokens.Mark marks.Open at) rest (ssa_within (suc depth) rest >>= λ ssa. closing_at ssa.1)
    (λ x w s. s) (λ x w s. s) (λ x s. s) (list_exact (suc depth) rest)
list_exact zero (tokens.Mark marks.Close at ∷ rest) =
    parts.refused (Lists zero) Never tt (some_list zero) (tokens.Mark marks.Close at ∷ rest) (λ x none far. none) no_close
  where
    no_close : (t : Token) (left : List Token) → tokens.Mark marks.Close at ∷ rest ≡ t ∷ left → (x : Span) (w : List Token) → Lists zero x (t ∷ w) → ⊥
    no_close t left e x w s = subst (λ h. Lists zero x (h ∷ w)) (sym (parts.same_head (tokens.Mark marks.Close at) t rest left e)) s
list_exact (suc depth) (tokens.Mark marks.Close at ∷ rest) =
    parts.from_token (Lists (suc depth)) (Lists depth) Never (tokens.Mark marks.Close at) rest (ssa_within depth rest >>= λ ssa. closing_at ssa.1)
    (λ x w s. s) (λ x w s. s) (λ x s. s) (list_exact depth rest)
list_exact zero (tokens.Ssa at ∷ rest) =
    parts.from_token (Lists zero) Closing Never (tokens.Ssa at) rest (closing_at rest) (λ x w s. s) (λ x w s. s) (λ x s. s) (closing_reads.exact rest)
list_exact depth (t ∷ rest) =
    parts.from_token (Lists depth) (Lists depth) Never t rest (ssa_within depth rest >>= λ ssa. closing_at ssa.1) (λ x w s. s) (λ x w s. s) (λ x s. s) (list_exact depth rest)

-- from what is read token by token to the list

-- pieces whose parentheses pair, each with the `)` of an inner parenthesis after it, and the list
Pieces : ℕ → Span → List Token → Type 0
Pieces zero at w = Closed at w
Pieces (suc depth) at w = (p : Span) × (u : List Token) × (v : List Token) × IsBalanced u × Pieces depth at v × (w ≡ u ++ tokens.Mark marks.Close p ∷ v)

one_more : (depth : ℕ) (at : Span) (t : Token) (w : List Token) → IsNoParenthesis t → Pieces depth at w → Pieces depth at (t ∷ w)
unfolding Pieces
one_more zero at t w other (options, (before, ssa, after, first, second, is), cut) =
    (t ∷ options, (t ∷ before, ssa, after, further t before other first refl, second, ap (λ l. t ∷ l) is), ap (λ l. t ∷ l) cut)
one_more (suc depth) at t w other (p, u, v, balanced, pieces, cut) = (p, t ∷ u, v, further t u other balanced refl, pieces, ap (λ l. t ∷ l) cut)

opened : (depth : ℕ) (at left : Span) (w : List Token) → Pieces (suc depth) at w → Pieces depth at (tokens.Mark marks.Open left ∷ w)
unfolding Pieces
opened zero at left w (p, u, v, balanced, (options, (before, ssa, after, first, second, is), last), cut) = (
  tokens.Mark marks.Open left ∷ (u ++ tokens.Mark marks.Close p ∷ options),
  (
    tokens.Mark marks.Open left ∷ (u ++ tokens.Mark marks.Close p ∷ before),
    ssa,
    after,
    paired left p u before balanced first refl,
    second,
    ap (λ l. tokens.Mark marks.Open left ∷ l) (ap (λ l. u ++ tokens.Mark marks.Close p ∷ l) is ∙ sym (append_assoc u (tokens.Mark marks.Close p ∷ before) (tokens.Ssa ssa ∷ after))),
  ),
  ap (λ l. tokens.Mark marks.Open left ∷ l) (cut ∙ ap (λ l. u ++ tokens.Mark marks.Close p ∷ l) last ∙ sym (append_assoc u (tokens.Mark marks.Close p ∷ options) (tokens.Mark marks.Close at ∷ []))),
)
opened (suc depth) at left w (p, u, v, balanced, (q, z, k, others, pieces, last), cut) = (
  q,
  tokens.Mark marks.Open left ∷ (u ++ tokens.Mark marks.Close p ∷ z),
  k,
  paired left p u z balanced others refl,
  pieces,
  ap (λ l. tokens.Mark marks.Open left ∷ l) (cut ∙ ap (λ l. u ++ tokens.Mark marks.Close p ∷ l) last ∙ sym (append_assoc u (tokens.Mark marks.Close p ∷ z) (tokens.Mark marks.Close q ∷ k))),
)

in_pieces : (depth : ℕ) (at : Span) (w : List Token) → Lists depth at w → Pieces depth at w
unfolding Lists Pieces
in_pieces depth at [] lists = absurd lists
in_pieces depth at (tokens.Mark marks.Open p ∷ w) lists = opened depth at p w (in_pieces (suc depth) at w lists)
in_pieces zero at (tokens.Mark marks.Close p ∷ w) lists = absurd lists
in_pieces (suc depth) at (tokens.Mark marks.Close p ∷ w) lists = (p, [], w, none_left refl, in_pieces depth at w lists, refl)
in_pieces zero at (tokens.Ssa p ∷ w) (u, balanced, cut) = (tokens.Ssa p ∷ u, ([], p, u, none_left refl, balanced, refl), ap (λ l. tokens.Ssa p ∷ l) cut)
in_pieces depth at (t ∷ w) lists = one_more depth at t w tt (in_pieces depth at w lists)

closed_of : (at : Span) (w : List Token) → Lists zero at w → Closed at w
unfolding Pieces
closed_of at w lists = in_pieces zero at w lists

-- and back

balanced_on : (u v : List Token) → IsBalanced u → IsBalanced v → IsBalanced (u ++ v)
balanced_on u v (none_left empty) others = subst (λ l. IsBalanced (l ++ v)) (sym empty) others
balanced_on u v (further t z other rest cut) others =
    subst (λ l. IsBalanced (l ++ v)) (sym cut) (further t (z ++ v) other (balanced_on z v rest others) refl)
balanced_on u v (paired left right a b inner rest cut) others =
    subst (λ l. IsBalanced (l ++ v)) (sym cut)
    (paired left right a (b ++ v) inner (balanced_on b v rest others) (ap (λ l. tokens.Mark marks.Open left ∷ l) (append_assoc a (tokens.Mark marks.Close right ∷ b) v)))

closing_on : (at : Span) (u v : List Token) → IsBalanced u → Closing at v → Closing at (u ++ v)
closing_on at u v balanced (z, others, cut) = (u ++ z, balanced_on u z balanced others, ap (λ l. u ++ l) cut ∙ sym (append_assoc u z (tokens.Mark marks.Close at ∷ [])))

-- inside inner parentheses all that pairs is passed
token_inside : (depth : ℕ) (at : Span) (t : Token) (v : List Token) → IsNoParenthesis t → Lists (suc depth) at v → Lists (suc depth) at (t ∷ v)
unfolding Lists
token_inside depth at (tokens.Mark marks.Open p) v other lists = absurd other
token_inside depth at (tokens.Mark marks.Close p) v other lists = absurd other
token_inside depth at t v other lists = lists

inside : (depth : ℕ) (at : Span) (w v : List Token) → IsBalanced w → Lists (suc depth) at v → Lists (suc depth) at (w ++ v)
unfolding Lists
inside depth at w v (none_left empty) lists = subst (λ l. Lists (suc depth) at (l ++ v)) (sym empty) lists
inside depth at w v (further t u other others cut) lists =
    subst (λ l. Lists (suc depth) at (l ++ v)) (sym cut) (token_inside depth at t (u ++ v) other (inside depth at u v others lists))
inside depth at w v (paired left right a b inner others cut) lists =
    subst (λ l. Lists (suc depth) at (l ++ v)) (sym cut)
    (subst (λ l. Lists (suc (suc depth)) at l) (sym (append_assoc a (tokens.Mark marks.Close right ∷ b) v))
    (inside (suc depth) at a (tokens.Mark marks.Close right ∷ (b ++ v)) inner (inside depth at b v others lists)))

-- outside them too, where an `ssa` may be the first
token_outside : (at : Span) (t : Token) (v : List Token) → IsNoParenthesis t → Closing at v → Lists zero at v → Lists zero at (t ∷ v)
unfolding Lists
token_outside at (tokens.Mark marks.Open p) v other closing lists = absurd other
token_outside at (tokens.Mark marks.Close p) v other closing lists = absurd other
token_outside at (tokens.Ssa p) v other closing lists = closing
token_outside at t v other closing lists = lists

outside : (at : Span) (w v : List Token) → IsBalanced w → Closing at v → Lists zero at v → Lists zero at (w ++ v)
unfolding Lists
outside at w v (none_left empty) closing lists = subst (λ l. Lists zero at (l ++ v)) (sym empty) lists
outside at w v (further t u other others cut) closing lists =
    subst (λ l. Lists zero at (l ++ v)) (sym cut) (token_outside at t (u ++ v) other (closing_on at u v others closing) (outside at u v others closing lists))
outside at w v (paired left right a b inner others cut) closing lists =
    subst (λ l. Lists zero at (l ++ v)) (sym cut)
    (subst (λ l. Lists (suc zero) at l) (sym (append_assoc a (tokens.Mark marks.Close right ∷ b) v))
    (inside zero at a (tokens.Mark marks.Close right ∷ (b ++ v)) inner (outside at b v others closing lists)))

ssa_closing : (at ssa : Span) (after : List Token) → IsBalanced after → Closing at (tokens.Ssa ssa ∷ (after ++ tokens.Mark marks.Close at ∷ []))
ssa_closing at ssa after balanced = (tokens.Ssa ssa ∷ after, further (tokens.Ssa ssa) after tt balanced refl, refl)

lists_of : (at : Span) (w : List Token) → Closed at w → Lists zero at w
unfolding Lists
lists_of at w (options, (before, ssa, after, first, second, is), cut) =
    subst (λ l. Lists zero at l) (sym (cut ∙ ap (λ l. l ++ tokens.Mark marks.Close at ∷ []) is ∙ append_assoc before (tokens.Ssa ssa ∷ after) (tokens.Mark marks.Close at ∷ [])))
    (outside at before (tokens.Ssa ssa ∷ (after ++ tokens.Mark marks.Close at ∷ [])) first (ssa_closing at ssa after second) (after, second, refl))

-- in the words of the grammar

close_is : (t : Token) (at : Span) → mark marks.Close t ≡ Some at → t ≡ tokens.Mark marks.Close at
close_is (tokens.Mark marks.Close p) at e = cc
close_is t at e = absurd (cc)

options_of : (at : Span) (w : List Token) → Closed at w → Options at w
options_of at w (options, (before, ssa, after, first, second, is), cut) = (
  options,
  tokens.Mark marks.Close at ∷ [],
  (before, tokens.Ssa ssa ∷ after, first, (tokens.Ssa ssa ∷ [], after, (ssa, refl), second, refl), is),
  (tokens.Mark marks.Close at, refl, refl),
  cut,
)

options_in : (at : Span) (w : List Token) → Options at w → Closed at w
options_in at w (options, close, (before, others, first, (ssas, after, (ssa, is_ssa), second, next), is), (t, means, one), cut) = (
  options,
  (before, ssa, after, first, second, is ∙ ap (λ l. before ++ l) (next ∙ ap (λ l. l ++ after) is_ssa)),
  cut ∙ ap (λ l. options ++ l) (one ∙ ap (λ h. h ∷ []) (close_is t at means)),
)

pub options_reads : Reads Options Never options_at
options_reads =
    in_words (Lists zero) Options Never options_at (λ at w s. options_of at w (closed_of at w s)) (λ at w s. lists_of at w (options_in at w s))
    (record { some = some_list zero; exact = λ input. list_exact zero input })
