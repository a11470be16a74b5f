-- What holds together by itself is read exactly: a number, a capture, a name, a call, parentheses, or such an operand
-- after an operator. The first symbol decides which it is.
use Rattle.std.proofs.Common.{◌≡◌, ℕ, ◌≤◌, ◌<◌, List, [], ◌∷◌, ◌++◌, length, Option, Some, None, Ok, Err, refl, sym, ap, subst, ◌∙◌, ◌⊎◌, inl, inr, arith, append_assoc}
use Rattle.std.proofs.lemmas.List.{append-nil}
use Rattle.grammar.specs.Spelling.{Spelling, Begins, Nothing, Meant, Then, Mapped}
use Rattle.grammar.specs.Reading.{◌>>=◌, meant_at}
use Rattle.grammar.specs.Exact.{IsExact}
use Rattle.grammar.proofs.Parts as parts
use Rattle.grammar.proofs.Sequence.{then_apart, token_then}
use Rattle.grammar.proofs.Starts.{Begun, meant_begun, front_begun, first_meant, takes_token, begins_with, Optional, taken, left_out, Either, left_of, right_of}
use Rattle.pm_ops.specs.declared.fault.PatternKind.{PatternKind}
use Rattle.pm_ops.specs.declared.fault.PatternKind.TheVariants.{CSyntax}
use Rattle.pm_places.specs.declared.span.Span.{Span}
use Rattle.pd_text.specs.declared.symbol.Symbol.{Symbol}
use Rattle.pd_text.specs.declared.symbol.Symbol.TheVariants as symbols
use Rattle.pd_text.specs.declared.symbol.Capture.{Capture}
use Rattle.pd_text.specs.declared.symbol.Mark.{Mark}
use Rattle.pd_text.specs.declared.symbol.Mark.TheVariants as marks
use Rattle.pd_text.specs.declared.symbol.Word.{Word}
use Rattle.pd_text.specs.declared.symbol.Word.TheVariants as words
use Rattle.pd_text.specs.Meanings as meanings
use Rattle.pd_ast.specs.declared.operator.UnaryOperator.{UnaryOperator}
use Rattle.cond_subset.specs.declared.tree.Callee.{Callee}
use Rattle.cond_subset.specs.Operators.{placed, unary_mark, unary_operator}
use Rattle.cond_subset.specs.Trees.{Expr, number, capture, named, parens, unary, binary, choose, call}
use Rattle.cond_subset.specs.Grammar.{◌▸◌, SpellsWide, SpellsCallee, Spells, Within}
use Rattle.cond_subset.specs.Readers.{Inner, Read, closed_at, call_at, named_at, wide_at, after_wide_at, parens_at, under_at, capture_at, operand_at}
use Rattle.cond_subset.proofs.SymbolsExact.{some_mark, some_identifier}
use Rattle.cond_subset.specs.GoesOn.{IsCall, GoesOn}
use Rattle.cond_subset.proofs.Ranks.{operator_rank, rank_small, close_apart}
use Rattle.cond_subset.proofs.LinksExact.{some_expression}
use Rattle.cond_subset.proofs.ArgumentsExact.{Closed, some_closed, closed_exact, of_closed, closed_of, ends}

-- what may stand after the first symbol

abbrev pub plain : Span → Callee
plain at = record { wide = None; name = at }

abbrev pub CallRest : Callee → Spelling Symbol Expr
CallRest callee = Then (Meant (meanings.mark marks.Open)) (λ o. Closed callee)

abbrev pub NamedRest : Span → Spelling Symbol Expr
NamedRest at = Optional (named at) (CallRest (plain at))

abbrev pub AfterColons : Span → Spelling Symbol Expr
AfterColons at = Then (Meant meanings.identifier) (λ name. CallRest (record { wide = Some at; name = name }))

abbrev pub Prefixed : Span → Spelling Symbol Expr
Prefixed at = Then (Meant (meanings.mark marks.DoubleColon)) (λ d. AfterColons at)

abbrev pub WideRest : Span → Spelling Symbol Expr
WideRest at = Optional (named at) (Either (CallRest (plain at)) (Prefixed at))

abbrev pub ToClose : Span → Expr → Spelling Symbol Expr
ToClose at a = Then (Meant (meanings.mark marks.Close)) (λ k. Nothing (parens at a))

abbrev pub ParensRest : Span → Spelling Symbol Expr
ParensRest at = Then (Within 10) (ToClose at)

abbrev pub PrefixRest : Option UnaryOperator → Span → Spelling Symbol Expr
PrefixRest None at x w = ⊥
PrefixRest (Some op) at x w = Mapped (λ a. unary op at a) (Within 0) x w

abbrev pub CaptureRest : Option Span → Spelling Symbol Expr
CaptureRest None x w = ⊥
CaptureRest (Some at) x w = Nothing (capture at) x w

abbrev pub AfterWord : Word → Span → Spelling Symbol Expr
AfterWord words.Wide at = WideRest at
AfterWord found at = NamedRest at

abbrev pub AfterMark : Mark → Span → Spelling Symbol Expr
AfterMark marks.Open at = ParensRest at
AfterMark found at = PrefixRest (unary_mark found) at

abbrev pub AfterFirst : Symbol → Spelling Symbol Expr
AfterFirst (symbols.Number at) x w = Nothing (number at) x w
AfterFirst (symbols.Capture found) x w = CaptureRest (meanings.plain_capture (symbols.Capture found)) x w
AfterFirst (symbols.Identifier at) x w = NamedRest at x w
AfterFirst (symbols.Word found at) x w = AfterWord found at x w
AfterFirst (symbols.Mark found at) x w = AfterMark found at x w
AfterFirst t x w = ⊥

-- to the grammar

one_symbol : (x : Expr) (t : Symbol) (at : Span) (w : List Symbol) (meaning : Symbol → Option Span) → meaning t ≡ Some at → w ≡ [] → Meant meaning at (t ∷ w)
one_symbol x t at w meaning is empty = (t, is, ap (λ l. t ∷ l) empty)

pub call_to : (callee : Callee) (x : Expr) (p w : List Symbol) → SpellsCallee callee p → CallRest callee x w → Within 0 x (p ++ w)
call_to callee x p w front (o, u, v, left, closed, cut) =
    let (args, same, others) = of_closed callee x v closed in
    subst (λ e. Within 0 e (p ++ w)) same (omega arith, (p, w, front, (u, v, (o, left), others, cut), refl))

plain_callee : (at : Span) (t : Symbol) → meanings.identifier t ≡ Some at → SpellsCallee (plain at) (t ∷ [])
plain_callee at t is = ([], t ∷ [], refl, (t, is, refl), refl)

named_to : (x : Expr) (t : Symbol) (at : Span) (w : List Symbol) → meanings.identifier t ≡ Some at → NamedRest at x w → Within 0 x (t ∷ w)
named_to x t at w is (inl (same, empty)) = subst (λ e. Within 0 e (t ∷ w)) (sym same) (omega arith, one_symbol x t at w meanings.identifier is empty)
named_to x t at w is (inr called) = call_to (plain at) x (t ∷ []) w (plain_callee at t is) called

wide_callee : (at d name : Span) (t : Symbol) (u v : List Symbol) → meanings.word words.Wide t ≡ Some at → Meant (meanings.mark marks.DoubleColon) d u → Meant meanings.identifier name v
    → SpellsCallee (record { wide = Some at; name = name }) (t ∷ (u ++ v))
wide_callee at d name t u v is colons word = (t ∷ u, v, (t ∷ [], u, (t, is, refl), (d, colons), refl), word, refl)

wide_to : (x : Expr) (t : Symbol) (at : Span) (w : List Symbol) → meanings.word words.Wide t ≡ Some at → meanings.identifier t ≡ Some at → WideRest at x w → Within 0 x (t ∷ w)
wide_to x t at w is name_is (inl (same, empty)) = named_to x t at w name_is (inl (same, empty))
wide_to x t at w is name_is (inr (inl called)) = named_to x t at w name_is (inr called)
wide_to x t at w is name_is (inr (inr (d, u, v, colons, (name, u₁, v₁, word, called, inside), cut))) =
    subst (λ l. Within 0 x (t ∷ l)) (append_assoc u u₁ v₁ ∙ ap (λ l. u ++ l) (sym inside) ∙ sym cut)
    (call_to (record { wide = Some at; name = name }) x (t ∷ (u ++ u₁)) v₁ (wide_callee at d name t u u₁ is colons word) called)

parens_to : (x : Expr) (t : Symbol) (at : Span) (w : List Symbol) → meanings.mark marks.Open t ≡ Some at → ParensRest at x w → Within 0 x (t ∷ w)
parens_to x t at w is (a, u, v, (any, spelled), (k, u₁, v₁, close, (same, empty), inside), cut) =
    subst (λ e. Within 0 e (t ∷ w)) (sym same)
    (omega arith, (t ∷ [], w, (t, is, refl), (u, v, spelled, (k, ends (Meant (meanings.mark marks.Close) k) u₁ v₁ v close empty inside), cut), refl))

prefix_to : (x : Expr) (found : Mark) (at : Span) (w : List Symbol) (m : Option UnaryOperator) → unary_mark found ≡ m → PrefixRest m at x w → Within 0 x (symbols.Mark found at ∷ w)
prefix_to x found at w None is none = absurd none
prefix_to x found at w (Some op) is (a, (low, spelled), same) =
    subst (λ e. Within 0 e (symbols.Mark found at ∷ w)) same
    (omega arith, (low, (symbols.Mark found at ∷ [], w, (symbols.Mark found at, ap (λ o. placed o at) is, refl), spelled, refl)))

capture_to : (x : Expr) (found : Capture) (w : List Symbol) (m : Option Span) → meanings.plain_capture (symbols.Capture found) ≡ m → CaptureRest m x w → Within 0 x (symbols.Capture found ∷ w)
capture_to x found w None is none = absurd none
capture_to x found w (Some at) is (same, empty) =
    subst (λ e. Within 0 e (symbols.Capture found ∷ w)) (sym same) (omega arith, one_symbol x (symbols.Capture found) at w meanings.plain_capture is empty)

word_to : (x : Expr) (found : Word) (at : Span) (w : List Symbol) → AfterWord found at x w → Within 0 x (symbols.Word found at ∷ w)
word_to x words.Wide at w rest = wide_to x (symbols.Word words.Wide at) at w refl refl rest
word_to x found at w rest = named_to x (symbols.Word found at) at w refl rest

mark_to : (x : Expr) (found : Mark) (at : Span) (w : List Symbol) → AfterMark found at x w → Within 0 x (symbols.Mark found at ∷ w)
mark_to x marks.Open at w rest = parens_to x (symbols.Mark marks.Open at) at w refl rest
mark_to x found at w rest = prefix_to x found at w (unary_mark found) refl rest

to_operand : (t : Symbol) (x : Expr) (w : List Symbol) → AfterFirst t x w → Within 0 x (t ∷ w)
to_operand (symbols.Number at) x w (same, empty) =
    subst (λ e. Within 0 e (symbols.Number at ∷ w)) (sym same) (omega arith, one_symbol x (symbols.Number at) at w meanings.number refl empty)
to_operand (symbols.Capture found) x w rest = capture_to x found w (meanings.plain_capture (symbols.Capture found)) refl rest
to_operand (symbols.Identifier at) x w rest = named_to x (symbols.Identifier at) at w refl rest
to_operand (symbols.Word found at) x w rest = word_to x found at w rest
to_operand (symbols.Mark found at) x w rest = mark_to x found at w rest
to_operand t x w none = absurd none

-- from the grammar

after_number : (t : Symbol) (at : Span) (w : List Symbol) → meanings.number t ≡ Some at → w ≡ [] → AfterFirst t (number at) w
after_number (symbols.Number p) at w is empty = (cc, empty)
after_number t at w is empty = absurd (cc)

capture_rest : (m : Option Span) (at : Span) (w : List Symbol) → m ≡ Some at → w ≡ [] → CaptureRest m (capture at) w
capture_rest None at w is empty = absurd (cc)
capture_rest (Some p) at w is empty = (cc, empty)

after_capture : (t : Symbol) (at : Span) (w : List Symbol) → meanings.plain_capture t ≡ Some at → w ≡ [] → AfterFirst t (capture at) w
after_capture (symbols.Capture found) at w is empty = capture_rest (meanings.plain_capture (symbols.Capture found)) at w is empty
after_capture t at w is empty = absurd (cc)

name_word : (found : Word) (p : Span) (x : Expr) (w : List Symbol) → NamedRest p x w → AfterWord found p x w
name_word words.Wide p x w (inl alone) = inl alone
name_word words.Wide p x w (inr called) = inr (inl called)
name_word found p x w rest = rest

after_name : (t : Symbol) (at : Span) (x : Expr) (w : List Symbol) → meanings.identifier t ≡ Some at → NamedRest at x w → AfterFirst t x w
after_name (symbols.Identifier p) at x w is rest = let same : at ≡ p = cc in subst (λ q. NamedRest q x w) same rest
after_name (symbols.Word found p) at x w is rest = let same : at ≡ p = cc in name_word found p x w (subst (λ q. NamedRest q x w) same rest)
after_name t at x w is rest = absurd (cc)

after_prefix : (t : Symbol) (at : Span) (x : Expr) (w : List Symbol) → meanings.word words.Wide t ≡ Some at → Prefixed at x w → AfterFirst t x w
after_prefix (symbols.Word words.Wide p) at x w is rest = let same : at ≡ p = cc in inr (inr (subst (λ q. Prefixed q x w) same rest))
after_prefix t at x w is rest = absurd (cc)

after_open : (t : Symbol) (at : Span) (x : Expr) (w : List Symbol) → meanings.mark marks.Open t ≡ Some at → ParensRest at x w → AfterFirst t x w
after_open (symbols.Mark marks.Open p) at x w is rest = let same : at ≡ p = cc in subst (λ q. ParensRest q x w) same rest
after_open t at x w is rest = absurd (cc)

prefix_rest : (m : Option UnaryOperator) (p : Span) (op : UnaryOperator × Span) (a : Expr) (w : List Symbol) → placed m p ≡ Some op → Within 0 a w → PrefixRest m p (unary op.0 op.1 a) w
prefix_rest None p op a w is within = absurd (cc)
prefix_rest (Some o) p op a w is within = let same : (o, p) ≡ op = cc in (a, within, ap (λ (q : UnaryOperator × Span). unary q.0 q.1 a) same)

after_unary : (t : Symbol) (op : UnaryOperator × Span) (a : Expr) (w : List Symbol) → unary_operator t ≡ Some op → Within 0 a w → AfterFirst t (unary op.0 op.1 a) w
after_unary (symbols.Mark marks.Open p) op a w is within = absurd (cc)
after_unary (symbols.Mark found p) op a w is within = prefix_rest (unary_mark found) p op a w is within
after_unary t op a w is within = absurd (cc)

after_callee : (wide : Option Span) (name : Span) (t : Symbol) (x : Expr) (w u v : List Symbol) → (SpellsWide wide ▸ Meant meanings.identifier name) u → t ∷ w ≡ u ++ v
    → CallRest (record { wide = wide; name = name }) x v → AfterFirst t x w
after_callee None name t x w u v (a, b, empty, word, inside) cut called =
    let here : t ∷ w ≡ b ++ v = cut ∙ ap (λ l. l ++ v) (inside ∙ ap (λ l. l ++ b) empty) in
    let (is, rest) = first_meant meanings.identifier name t w b v word here in
    after_name t name x w is (inr (subst (λ l. CallRest (plain name) x l) rest called))
after_callee (Some at) name t x w u v (a, b, (c, e, wide, (d, colons), within), word, inside) cut called =
    let here : t ∷ w ≡ c ++ (e ++ (b ++ v)) =
    cut ∙ ap (λ l. l ++ v) (inside ∙ ap (λ l. l ++ b) within) ∙ append_assoc (c ++ e) b v ∙ append_assoc c e (b ++ v) in
    let (is, rest) = first_meant (meanings.word words.Wide) at t w c (e ++ (b ++ v)) wide here in
    after_prefix t at x w is (d, e, b ++ v, colons, (name, b, v, word, called, refl), sym rest)

whole_first : (meaning : Symbol → Option Span) (at : Span) (t : Symbol) (w : List Symbol) → Meant meaning at (t ∷ w) → (meaning t ≡ Some at) × (w ≡ [])
whole_first meaning at t w meant =
    let (is, rest) = first_meant meaning at t w (t ∷ w) [] meant (sym (append-nil (t ∷ w))) in
    (is, sym rest)

pub of_operand : (x : Expr) (t : Symbol) (w : List Symbol) → Within 0 x (t ∷ w) → AfterFirst t x w
of_operand (number at) t w (low, spelled) = let (is, empty) = whole_first meanings.number at t w spelled in after_number t at w is empty
of_operand (capture at) t w (low, spelled) = let (is, empty) = whole_first meanings.plain_capture at t w spelled in after_capture t at w is empty
of_operand (named at) t w (low, spelled) = let (is, empty) = whole_first meanings.identifier at t w spelled in after_name t at (named at) w is (inl (refl, empty))
of_operand (parens at a) t w (low, (u, v, left, (u₁, v₁, spelled, (k, close), inside), cut)) =
    let (is, rest) = first_meant (meanings.mark marks.Open) at t w u v left cut in
    after_open t at (parens at a) w is
    (a, u₁, v₁, (rank_small a, spelled), (k, v₁, [], close, (refl, refl), sym (append-nil v₁)), sym rest ∙ inside)
of_operand (unary op at a) t w (low, (below, (u, v, first, spelled, cut))) =
    let (is, rest) = first_meant unary_operator (op, at) t w u v first cut in
    after_unary t (op, at) a w is (below, subst (λ l. Spells a l) rest spelled)
of_operand (binary op at a b) t w (low, spelled) = let (least, most) = operator_rank op in absurd (omega arith)
of_operand (choose at c a b) t w (low, spelled) = absurd (omega arith)
of_operand (call callee args) t w (low, (u, v, front, (u₁, v₁, (o, left), others, inside), cut)) =
    after_callee callee.wide callee.name t (call callee args) w u v front cut (o, u₁, v₁, left, closed_of callee args v₁ others, inside)

pub operand_not_empty : (x : Expr) → Within 0 x [] → ⊥
operand_not_empty (number at) (low, (t, is, one)) = cc
operand_not_empty (capture at) (low, (t, is, one)) = cc
operand_not_empty (named at) (low, (t, is, one)) = cc
operand_not_empty (parens at a) (low, (u, v, left, others, cut)) = takes_token (meanings.mark marks.Open) at u v left cut
operand_not_empty (unary op at a) (low, (below, (u, v, first, others, cut))) = takes_token unary_operator (op, at) u v first cut
operand_not_empty (binary op at a b) (low, spelled) = let (least, most) = operator_rank op in absurd (omega arith)
operand_not_empty (choose at c a b) (low, spelled) = absurd (omega arith)
operand_not_empty (call callee args) (low, (u, v, (a, b, wide, word, inside), others, cut)) = no_word a b word (cut ∙ ap (λ l. l ++ v) inside ∙ append_assoc a b v)
  where
    no_word : (a b : List Symbol) → Meant meanings.identifier callee.name b → [] ≡ a ++ (b ++ v) → ⊥
    no_word [] b word cut = takes_token meanings.identifier callee.name b v word cut
    no_word (h ∷ a) b word cut = cc

-- exactness, where the readers one level deeper are exact below a length

abbrev pub IsOpen : Symbol → Type 0
IsOpen (symbols.Mark marks.Open at) = Unit {0}
IsOpen t = ⊥

abbrev pub IsColons : Symbol → Type 0
IsColons (symbols.Mark marks.DoubleColon at) = Unit {0}
IsColons t = ⊥

pub open_is : (t : Symbol) (at : Span) → meanings.mark marks.Open t ≡ Some at → IsOpen t
open_is (symbols.Mark marks.Open p) at e = tt
open_is t at e = absurd (cc)

pub colons_are : (t : Symbol) (at : Span) → meanings.mark marks.DoubleColon t ≡ Some at → IsColons t
colons_are (symbols.Mark marks.DoubleColon p) at e = tt
colons_are t at e = absurd (cc)

call_begun : (callee : Callee) (x : Expr) (w : List Symbol) → CallRest callee x w → Begun IsOpen w
call_begun callee x w (o, u, v, left, others, cut) = front_begun IsOpen u v w (meant_begun (meanings.mark marks.Open) IsOpen open_is o u left) cut

prefixed_begun : (at : Span) (x : Expr) (w : List Symbol) → Prefixed at x w → Begun IsColons w
prefixed_begun at x w (d, u, v, colons, others, cut) = front_begun IsColons u v w (meant_begun (meanings.mark marks.DoubleColon) IsColons colons_are d u colons) cut

is_call : (w : List Symbol) → Begun IsOpen w ⊎ Begun IsColons w → Begun IsCall w
is_call [] (inl h) = h
is_call [] (inr h) = h
is_call (symbols.Mark marks.Open at ∷ w) h = tt
is_call (symbols.Mark marks.DoubleColon at ∷ w) h = tt
is_call (t ∷ w) (inl h) = h
is_call (t ∷ w) (inr h) = h

wide_begun : (at : Span) (x : Expr) (w : List Symbol) → Either (CallRest (plain at)) (Prefixed at) x w → Begun IsCall w
wide_begun at x w (inl called) = is_call w (inl (call_begun (plain at) x w called))
wide_begun at x w (inr prefixed) = is_call w (inr (prefixed_begun at x w prefixed))

some_call : (callee : Callee) → Begins (CallRest callee) []
some_call callee =
    let left = some_mark marks.Open in
    let closed = some_closed callee in
    record { value = closed.value; after = left.after ++ closed.after; spelled = (left.value, left.after, closed.after, left.spelled, closed.spelled, refl) }

some_after_colons : (at : Span) → Begins (AfterColons at) []
some_after_colons at =
    let name = some_identifier in
    let called = some_call (record { wide = Some at; name = name.value }) in
    record { value = called.value; after = name.after ++ called.after; spelled = (name.value, name.after, called.after, name.spelled, called.spelled, refl) }

some_prefixed : (at : Span) → Begins (Prefixed at) []
some_prefixed at =
    let colons = some_mark marks.DoubleColon in
    let rest = some_after_colons at in
    record { value = rest.value; after = colons.after ++ rest.after; spelled = (colons.value, colons.after, rest.after, colons.spelled, rest.spelled, refl) }

-- a symbol that begins no operand, or the end
refused : (t : Symbol) (rest : List Symbol) → ((x : Expr) (w : List Symbol) → AfterFirst t x w → ⊥) → IsExact (Within 0) (GoesOn 0) (t ∷ rest) (Err (CSyntax, t ∷ rest))
refused t rest none =
    parts.refused (Within 0) (GoesOn 0) CSyntax (some_expression 0) (t ∷ rest) (λ x spelled far. operand_not_empty x spelled)
    (λ s l e x w spelled. none x w (subst (λ h. AfterFirst h x w) (sym (parts.same_head t s rest l e)) (of_operand x s w spelled)))

after_exact : (t : Symbol) (rest : List Symbol) (answer : Read Expr) → IsExact (AfterFirst t) (GoesOn 0) rest answer → IsExact (Within 0) (GoesOn 0) (t ∷ rest) answer
after_exact t rest answer exact =
    parts.from_token (Within 0) (AfterFirst t) (GoesOn 0) t rest answer (to_operand t) (λ x w spelled. of_operand x t w spelled) (λ x spelled. absurd (operand_not_empty x spelled)) exact

module _ (inner : Inner) (bound : ℕ) (good : (r : ℕ) (rest : List Symbol) → length rest < bound → IsExact (Within r) (GoesOn r) rest (inner r rest)) where
  call_exact : (callee : Callee) (input : List Symbol) → length input < bound → IsExact (CallRest callee) (GoesOn 0) input (call_at inner callee input)
  call_exact callee input fits =
      token_then (meanings.mark marks.Open) CSyntax (some_mark marks.Open) (λ o. Closed callee) (GoesOn 0) (λ o. some_closed callee) input (λ left. closed_at inner callee left.1)
      (λ o left shorter. closed_exact inner bound good callee left (omega arith))

  named_exact : (at : Span) (input : List Symbol) → length input < bound → IsExact (NamedRest at) (GoesOn 0) input (named_at inner at input)
  named_exact at (symbols.Mark marks.Open left ∷ rest) fits =
      taken (named at) (CallRest (plain at)) (GoesOn 0) (symbols.Mark marks.Open left) rest (named_at inner at (symbols.Mark marks.Open left ∷ rest)) (inl tt)
      (call_exact (plain at) (symbols.Mark marks.Open left ∷ rest) fits)
  named_exact at input fits = left_out (named at) (CallRest (plain at)) (GoesOn 0) IsOpen (call_begun (plain at)) input (λ h. h)

  prefixed_exact : (at : Span) (input : List Symbol) → length input < bound
      → IsExact (Prefixed at) (GoesOn 0) input (meant_at (meanings.mark marks.DoubleColon) CSyntax input >>= λ d. wide_at inner at d.1)
  prefixed_exact at input fits =
      token_then (meanings.mark marks.DoubleColon) CSyntax (some_mark marks.DoubleColon) (λ d. AfterColons at) (GoesOn 0) (λ d. some_after_colons at) input (λ d. wide_at inner at d.1)
      (λ d left shorter.
      token_then meanings.identifier CSyntax some_identifier (λ name. CallRest (record { wide = Some at; name = name })) (GoesOn 0) (λ name. some_call (record { wide = Some at; name = name })) left
      (λ name. call_at inner (record { wide = Some at; name = name.0 }) name.1)
      (λ name rest less. call_exact (record { wide = Some at; name = name }) rest (omega arith)))

  wide_exact : (at : Span) (input : List Symbol) → length input < bound → IsExact (WideRest at) (GoesOn 0) input (after_wide_at inner at input)
  wide_exact at (symbols.Mark marks.DoubleColon p ∷ rest) fits =
      taken (named at) (Either (CallRest (plain at)) (Prefixed at)) (GoesOn 0) (symbols.Mark marks.DoubleColon p) rest (wide_at inner at rest) (inl tt)
      (right_of (CallRest (plain at)) (Prefixed at) (GoesOn 0) IsOpen (call_begun (plain at)) (some_prefixed at) (symbols.Mark marks.DoubleColon p ∷ rest) (wide_at inner at rest) (λ h. h)
      (prefixed_exact at (symbols.Mark marks.DoubleColon p ∷ rest) fits))
  wide_exact at (symbols.Mark marks.Open p ∷ rest) fits =
      taken (named at) (Either (CallRest (plain at)) (Prefixed at)) (GoesOn 0) (symbols.Mark marks.Open p) rest (closed_at inner (plain at) rest) (inl tt)
      (left_of (CallRest (plain at)) (Prefixed at) (GoesOn 0) IsColons (prefixed_begun at) (some_call (plain at)) (symbols.Mark marks.Open p ∷ rest) (closed_at inner (plain at) rest) (λ h. h)
      (call_exact (plain at) (symbols.Mark marks.Open p ∷ rest) fits))
  wide_exact at input fits = left_out (named at) (Either (CallRest (plain at)) (Prefixed at)) (GoesOn 0) IsCall (wide_begun at) input (λ h. h)

  parens_exact : (at : Span) (input : List Symbol) → length input < bound → IsExact (ParensRest at) (GoesOn 0) input (parens_at inner at input)
  parens_exact at input fits =
      then_apart (Within 10) (ToClose at) (GoesOn 10) (GoesOn 0)
      (λ a y rest. takes_token (meanings.mark marks.Close) rest.0 rest.1 rest.2 rest.3 rest.5)
      (λ a y t w rest. close_apart 10 t rest.0 (begins_with (meanings.mark marks.Close) rest.0 t w rest.1 rest.2 rest.3 rest.5))
      some_close input (inner 10 input) (λ a. meant_at (meanings.mark marks.Close) CSyntax a.1 >>= λ right. Ok (parens at a.0, right.1)) (good 10 input fits)
      (λ a rest e. token_then (meanings.mark marks.Close) CSyntax (some_mark marks.Close) (λ k. Nothing (parens at a)) (GoesOn 0)
      (λ k. record { value = parens at a; after = []; spelled = (refl, refl) }) rest (λ right. Ok (parens at a, right.1)) (λ k left shorter. parts.nothing (parens at a) (GoesOn 0) left))
    where
      some_close : (a : Expr) → Begins (ToClose at a) []
      some_close a =
          let close = some_mark marks.Close in
          record { value = parens at a; after = close.after ++ []; spelled = (close.value, close.after, [], close.spelled, (refl, refl), refl) }

  under_exact : (op : UnaryOperator) (at : Span) (input : List Symbol) → length input < bound → IsExact (Mapped (λ a. unary op at a) (Within 0)) (GoesOn 0) input (under_at inner op at input)
  under_exact op at input fits = parts.mapped (λ a. unary op at a) (Within 0) (GoesOn 0) input (inner 0 input) (good 0 input fits)

  captured : (found : Capture) (rest : List Symbol) (m : Option Span) → meanings.plain_capture (symbols.Capture found) ≡ m
      → IsExact (Within 0) (GoesOn 0) (symbols.Capture found ∷ rest) (capture_at m (symbols.Capture found ∷ rest) rest)
  captured found rest None is = refused (symbols.Capture found) rest (λ x w h. subst (λ m. CaptureRest m x w) is h)
  captured found rest (Some at) is =
      after_exact (symbols.Capture found) rest (Ok (capture at, rest))
      (subst (λ m. IsExact {E = PatternKind} (CaptureRest m) (GoesOn 0) rest (Ok (capture at, rest))) (sym is) (parts.nothing (capture at) (GoesOn 0) rest))

  worded : (found : Word) (at : Span) (rest : List Symbol) → length rest < bound → IsExact (Within 0) (GoesOn 0) (symbols.Word found at ∷ rest) (operand_at inner (symbols.Word found at ∷ rest))
  worded words.Wide at rest fits = after_exact (symbols.Word words.Wide at) rest (after_wide_at inner at rest) (wide_exact at rest fits)
  worded found at rest fits = after_exact (symbols.Word found at) rest (named_at inner at rest) (named_exact at rest fits)

  marked : (found : Mark) (at : Span) (rest : List Symbol) → length rest < bound → IsExact (Within 0) (GoesOn 0) (symbols.Mark found at ∷ rest) (operand_at inner (symbols.Mark found at ∷ rest))
  marked marks.Open at rest fits = after_exact (symbols.Mark marks.Open at) rest (parens_at inner at rest) (parens_exact at rest fits)
  marked marks.Exclamation at rest fits = after_exact (symbols.Mark marks.Exclamation at) rest _ (under_exact _ at rest fits)
  marked marks.Tilde at rest fits = after_exact (symbols.Mark marks.Tilde at) rest _ (under_exact _ at rest fits)
  marked marks.Minus at rest fits = after_exact (symbols.Mark marks.Minus at) rest _ (under_exact _ at rest fits)
  marked found at rest fits = refused (symbols.Mark found at) rest (λ x w h. h)

  pub operand_exact : (input : List Symbol) → length input ≤ bound → IsExact (Within 0) (GoesOn 0) input (operand_at inner input)
  operand_exact [] fits = parts.refused (Within 0) (GoesOn 0) CSyntax (some_expression 0) [] (λ x spelled far. operand_not_empty x spelled) (λ t rest e. absurd (cc))
  operand_exact (symbols.Number at ∷ rest) fits = after_exact (symbols.Number at) rest (Ok (number at, rest)) (parts.nothing (number at) (GoesOn 0) rest)
  operand_exact (symbols.Capture found ∷ rest) fits = captured found rest (meanings.plain_capture (symbols.Capture found)) refl
  operand_exact (symbols.Identifier at ∷ rest) fits = after_exact (symbols.Identifier at) rest (named_at inner at rest) (named_exact at rest (omega arith))
  operand_exact (symbols.Word found at ∷ rest) fits = worded found at rest (omega arith)
  operand_exact (symbols.Mark found at ∷ rest) fits = marked found at rest (omega arith)
  operand_exact (t ∷ rest) fits = refused t rest (λ x w h. h)
