-- Right sides are read exactly.
use Rattle.std.proofs.Common.{◌≡◌, Bool, true, false, List, [], ◌∷◌, ◌++◌, Option, Some, None, Ok, refl, sym, ap, subst, ◌∙◌, ◌⊎◌, inl, inr}
use Rattle.std.proofs.lemmas.List.{append-nil}
use Rattle.grammar.specs.Spelling.{Spelling, Begins, Nothing, Meant, Then, Mapped}
use Rattle.grammar.specs.Reading.{Answer, ◌>>=◌, meant_at, meant_as}
use Rattle.grammar.specs.Exact.{IsApart, IsExact}
use Rattle.grammar.proofs.Parts.{starting_so, from_here, from_token, refused, apart_within, SameStart, same_head, same_tail}
use Rattle.pm_wide.specs.Types.{Ty}
use Rattle.pm_ops.specs.declared.code.Code.{Code}
use Rattle.pm_ops.specs.declared.code.Code.TheVariants as codes
use Rattle.gim_text.specs.Meanings.{mark, span_of}
use Rattle.pm_places.specs.declared.span.Span.{Span}
use Rattle.gim_text.specs.declared.token.Token.{Token}
use Rattle.gim_text.specs.declared.token.Token.TheVariants as tokens
use Rattle.gim_text.specs.declared.token.Keyword.TheVariants as keywords
use Rattle.gim_text.specs.declared.token.NumberKind.{NumberKind}
use Rattle.gim_text.specs.declared.token.NumberKind.TheVariants as kinds
use Rattle.gim_text.specs.declared.token.Mark.TheVariants as marks
use Rattle.gim_text.specs.declared.tree.LiteralType.{LiteralType}
use Rattle.gim_text.specs.declared.tree.LiteralType.TheVariants.{Plain, Written}
use Rattle.gim_text.specs.declared.tree.OperandText.{OperandText}
use Rattle.gim_text.specs.declared.tree.OperandText.TheVariants as operands
use Rattle.gim_text.specs.declared.tree.RightText.{RightText}
use Rattle.gim_text.specs.declared.tree.RightForm.{RightForm}
use Rattle.gim_text.specs.declared.tree.RightForm.TheVariants as forms
use Rattle.gim_words.specs.Types.{SpellsType, GoesOnType}
use Rattle.gim_words.specs.TypeReaders.{type_at}
use Rattle.gim_words.specs.TokenReaders.{mark_at}
use Rattle.grammar.proofs.EveryInput.{Reads, nothing, seen_by, after_token, in_sequence, widened}
use Rattle.grammar.proofs.Starts.{Begun, meant_begun, front_begun, same_begun, widen_begun, apart_begun, first_meant, before_token, Optional, left_out, after_first}
use Rattle.gim_words.proofs.TokensExact.{some_mark, some_name}
use Rattle.gim_statements.specs.Words.{prefix_code, infix_code, call_code, literal_number}
use Rattle.gim_statements.specs.Grammar.{Signed, SpellsConstant, SpellsOperand, BeginsWithNoNumber, MayStandUnder, SpellsForm, SpellsRight}
use Rattle.gim_statements.specs.OperandReaders.{operand_at}
use Rattle.gim_statements.specs.RightReaders.{prefixed_at, cast_at, call_at, choice_at, operated, continued_at, infix_at, form_at, right_at}
use Rattle.gim_words.proofs.TypesExact.{type_reads}
use Rattle.gim_statements.proofs.OperandsExact.{IsOpen, IsMinus, IsName, IsNumber, StartsOperand, open_is, number_is, minus_is, name_begun, literal_word_begun, some_operand, operand_begun, operand_reads, close_not_in_type, placed_exact}

-- what can go on a form: `(` after a name, an operator, `?`
abbrev pub GoesOnForm : Token → Type 0
GoesOnForm (tokens.Mark marks.Open at) = Unit {0}
GoesOnForm (tokens.Mark marks.Question at) = Unit {0}
GoesOnForm t = (op : Code) × (infix_code t ≡ Some op)

open_goes_on : (t : Token) → IsOpen t → GoesOnForm t
open_goes_on (tokens.Mark marks.Open at) h = tt
open_goes_on t h = absurd h

-- marks that do not go on an operand
pub comma_apart : (t : Token) → IsOpen t → mark marks.Comma t ≡ None
comma_apart (tokens.Mark marks.Open at) h = refl
comma_apart t h = absurd h

pub close_apart : (t : Token) → IsOpen t → mark marks.Close t ≡ None
close_apart (tokens.Mark marks.Open at) h = refl
close_apart t h = absurd h

pub colon_apart : (t : Token) → IsOpen t → mark marks.Colon t ≡ None
colon_apart (tokens.Mark marks.Open at) h = refl
colon_apart t h = absurd h

-- what stands after a first operand

InfixRest : OperandText → Spelling Token RightForm
InfixRest a = Then (Meant infix_code) (λ op. Mapped (forms.Binary op a) SpellsOperand)

AfterColon : OperandText → OperandText → Spelling Token RightForm
AfterColon c a = Then (Meant (mark marks.Colon)) (λ k. Mapped (forms.Choice c a) SpellsOperand)

ChoiceRest : OperandText → Spelling Token RightForm
ChoiceRest c = Then (Meant (mark marks.Question)) (λ q. Then SpellsOperand (AfterColon c))

Rest : OperandText → Spelling Token RightForm
Rest a x w = InfixRest a x w ⊎ ChoiceRest a x w

IsQuestion : Token → Type 0
IsQuestion (tokens.Mark marks.Question at) = Unit {0}
IsQuestion t = ⊥

question_is : (t : Token) (x : Span) → mark marks.Question t ≡ Some x → IsQuestion t
unfolding IsQuestion
question_is (tokens.Mark marks.Question at) x e = tt
question_is t x e = absurd (cc)

-- an operator or `?`
StartsRest : Token → Type 0
StartsRest t = ((op : Code) × (infix_code t ≡ Some op)) ⊎ IsQuestion t

infix_begun : (a : OperandText) (x : RightForm) (w : List Token) → InfixRest a x w → Begun (λ t. (op : Code) × (infix_code t ≡ Some op)) w
unfolding InfixRest
infix_begun a x w (op, u, v, first, others, cut) =
    front_begun (λ t. (o : Code) × (infix_code t ≡ Some o)) u v w (meant_begun infix_code (λ t. (o : Code) × (infix_code t ≡ Some o)) (λ t o e. (o, e)) op u first) cut

question_begun : (c : OperandText) (x : RightForm) (w : List Token) → ChoiceRest c x w → Begun IsQuestion w
unfolding ChoiceRest
question_begun c x w (q, u, v, first, others, cut) = front_begun IsQuestion u v w (meant_begun (mark marks.Question) IsQuestion question_is q u first) cut

rest_begun : (a : OperandText) (x : RightForm) (w : List Token) → Rest a x w → Begun StartsRest w
unfolding Rest StartsRest
rest_begun a x w (inl s) = widen_begun (λ t. (op : Code) × (infix_code t ≡ Some op)) StartsRest (λ t h. inl h) w (infix_begun a x w s)
rest_begun a x w (inr s) = widen_begun IsQuestion StartsRest (λ t h. inr h) w (question_begun a x w s)

infix_rest_reads : (a : OperandText) → Reads (InfixRest a) GoesOnForm (λ input. meant_at infix_code tt input >>= λ op. operand_at op.1 >>= λ b. Ok (forms.Binary op.0 a b.0, b.1))
unfolding InfixRest
infix_rest_reads a =
    after_token infix_code tt some_infix (λ op. Mapped (forms.Binary op a) SpellsOperand) GoesOnForm _ (λ op.
    widened (Mapped (forms.Binary op a) SpellsOperand) IsOpen GoesOnForm _ open_goes_on (seen_by (forms.Binary op a) SpellsOperand IsOpen operand_at operand_reads))
  where
    some_infix : Begins (Meant infix_code) []
    some_infix = record { value = codes.Plus; after = tokens.Mark marks.Plus (record { from = 0; to = 0 }) ∷ []; spelled = (tokens.Mark marks.Plus (record { from = 0; to = 0 }), refl, refl) }

choice_rest_reads : (c : OperandText) → Reads (ChoiceRest c) GoesOnForm (λ input. mark_at marks.Question input >>= λ q. choice_at c q.1)
unfolding ChoiceRest AfterColon
choice_rest_reads c =
    after_token (mark marks.Question) tt (some_mark marks.Question) (λ q. Then SpellsOperand (AfterColon c)) GoesOnForm (λ q. choice_at c q.1) (λ q.
    before_token SpellsOperand (mark marks.Colon) (λ a k. Mapped (forms.Choice c a) SpellsOperand) IsOpen GoesOnForm colon_apart operand_at _ operand_reads (λ a.
    after_token (mark marks.Colon) tt (some_mark marks.Colon) (λ k. Mapped (forms.Choice c a) SpellsOperand) GoesOnForm _ (λ k.
    widened (Mapped (forms.Choice c a) SpellsOperand) IsOpen GoesOnForm _ open_goes_on (seen_by (forms.Choice c a) SpellsOperand IsOpen operand_at operand_reads))))

Continued : OperandText → Spelling Token RightForm
Continued a = Optional (forms.Copy a) (Rest a)

operated_exact : (a : OperandText) (t : Token) (rest : List Token) → ¬ IsQuestion t → (o : Option Code) → infix_code t ≡ o → IsExact (Continued a) GoesOnForm (t ∷ rest) (operated a (t ∷ rest) rest o)
unfolding Continued Rest StartsRest
operated_exact a t rest no_question None is =
    left_out (forms.Copy a) (Rest a) GoesOnForm StartsRest (λ x w s. rest_begun a x w s) (t ∷ rest) none
  where
    no_code : (op : Code) → None ≡ Some op → ⊥
    no_code op e = cc

    none : ¬ StartsRest t
    none (inl (op, e)) = no_code op (sym is ∙ e)
    none (inr question) = no_question question
operated_exact a t rest no_question (Some op) is =
    from_here (InfixRest a) (Continued a) GoesOnForm t rest (operated a (t ∷ rest) rest (Some op)) (λ x w s. inr (inl s)) back (λ x s. goes_on t op is)
    (subst (λ o. IsExact (InfixRest a) GoesOnForm (t ∷ rest) (meant_as tt t rest o >>= λ p. operand_at p.1 >>= λ b. Ok (forms.Binary p.0 a b.0, b.1))) is ((infix_rest_reads a).exact (t ∷ rest)))
  where
    goes_on : (t : Token) (op : Code) → infix_code t ≡ Some op → GoesOnForm t
    goes_on (tokens.Mark marks.Open at) op e = tt
    goes_on (tokens.Mark marks.Question at) op e = tt
    goes_on t op e = (op, e)

    back : (x : RightForm) (w : List Token) → Continued a x (t ∷ w) → InfixRest a x (t ∷ w)
    back x w (inl (same, empty)) = absurd (cc)
    back x w (inr (inl s)) = s
    back x w (inr (inr s)) = absurd (no_question (question_begun a x (t ∷ w) s))

continued_exact : (a : OperandText) (input : List Token) → IsExact (Continued a) GoesOnForm input (continued_at a input)
unfolding Continued Rest IsQuestion StartsRest
continued_exact a [] = left_out (forms.Copy a) (Rest a) GoesOnForm StartsRest (λ x w s. rest_begun a x w s) [] (λ begun. begun)
continued_exact a (tokens.Mark marks.Question at ∷ rest) =
    from_here (ChoiceRest a) (Continued a) GoesOnForm (tokens.Mark marks.Question at) rest (choice_at a rest) (λ x w s. inr (inr s)) back (λ x s. tt)
    ((choice_rest_reads a).exact (tokens.Mark marks.Question at ∷ rest))
  where
    no_code : (op : Code) → None ≡ Some op → ⊥
    no_code op e = cc

    back : (x : RightForm) (w : List Token) → Continued a x (tokens.Mark marks.Question at ∷ w) → ChoiceRest a x (tokens.Mark marks.Question at ∷ w)
    back x w (inl (same, empty)) = absurd (cc)
    back x w (inr (inl s)) = let begun = infix_begun a x (tokens.Mark marks.Question at ∷ w) s in absurd (no_code begun.0 begun.1)
    back x w (inr (inr s)) = s
continued_exact a (t ∷ rest) = operated_exact a t rest (λ question. question) (infix_code t) refl

-- the four sorts of forms

InfixForm : Spelling Token RightForm
InfixForm = Then SpellsOperand Continued

infix_reads : Reads InfixForm GoesOnForm infix_at
unfolding InfixForm Continued Rest StartsRest IsQuestion
infix_reads =
    in_sequence SpellsOperand Continued IsOpen GoesOnForm apart operand_at (λ a. continued_at a.0 a.1) operand_reads (λ a.
    record { some = record { value = forms.Copy a; after = []; spelled = inl (refl, refl) }; exact = λ input. continued_exact a input })
  where
    kept : (t : Token) → StartsRest t → ¬ IsOpen t
    kept (tokens.Mark marks.Open at) (inl (op, e)) goes_on = cc
    kept (tokens.Mark marks.Open at) (inr question) goes_on = question
    kept t starts goes_on = goes_on

    apart : (a : OperandText) (y : RightForm) (v z : List Token) → Continued a y v → IsApart GoesOnForm z → IsApart IsOpen (v ++ z)
    apart a y v z (inl (same, empty)) far = subst (λ l. IsApart IsOpen (l ++ z)) (sym empty) (apart_within IsOpen GoesOnForm open_goes_on z far)
    apart a y v z (inr s) far = apart_begun StartsRest IsOpen kept v z (rest_begun a y v s)

AfterOp : Code → OperandText → Spelling Token RightForm
AfterOp op a = Then (Meant (mark marks.Comma)) (λ m. Then SpellsOperand (λ b. Then (Meant (mark marks.Close)) (λ k. Nothing (forms.Binary op a b))))

CallForm : Spelling Token RightForm
CallForm = Then (Meant call_code) (λ op. Then (Meant (mark marks.Open)) (λ o. Then SpellsOperand (AfterOp op)))

call_reads : Reads CallForm GoesOnForm (λ input. meant_at call_code tt input >>= λ op. call_at op.0 op.1)
unfolding CallForm AfterOp
call_reads =
    after_token call_code tt some_call (λ op. Then (Meant (mark marks.Open)) (λ o. Then SpellsOperand (AfterOp op))) GoesOnForm (λ op. call_at op.0 op.1) (λ op.
    after_token (mark marks.Open) tt (some_mark marks.Open) (λ o. Then SpellsOperand (AfterOp op)) GoesOnForm _ (λ o.
    before_token SpellsOperand (mark marks.Comma) (λ a m. Then SpellsOperand (λ b. Then (Meant (mark marks.Close)) (λ k. Nothing (forms.Binary op a b)))) IsOpen GoesOnForm comma_apart operand_at _ operand_reads (λ a.
    after_token (mark marks.Comma) tt (some_mark marks.Comma) (λ m. Then SpellsOperand (λ b. Then (Meant (mark marks.Close)) (λ k. Nothing (forms.Binary op a b)))) GoesOnForm _ (λ m.
    before_token SpellsOperand (mark marks.Close) (λ b k. Nothing (forms.Binary op a b)) IsOpen GoesOnForm close_apart operand_at _ operand_reads (λ b.
    after_token (mark marks.Close) tt (some_mark marks.Close) (λ k. Nothing (forms.Binary op a b)) GoesOnForm (λ k. Ok (forms.Binary op a b, k.1)) (λ k.
    nothing (forms.Binary op a b) GoesOnForm))))))
  where
    some_call : Begins (Meant call_code) []
    some_call = record { value = codes.Min; after = tokens.Keyword keywords.Min (record { from = 0; to = 0 }) ∷ []; spelled = (tokens.Keyword keywords.Min (record { from = 0; to = 0 }), refl, refl) }

AfterType : Ty → Spelling Token RightForm
AfterType t = Then (Meant (mark marks.Close)) (λ k. Mapped (forms.Cast t) SpellsOperand)

CastForm : Spelling Token RightForm
CastForm = Then (Meant (mark marks.Open)) (λ o. Then SpellsType AfterType)

cast_reads : Reads CastForm GoesOnForm (λ input. mark_at marks.Open input >>= λ o. cast_at o.1)
unfolding CastForm AfterType
cast_reads =
    after_token (mark marks.Open) tt (some_mark marks.Open) (λ o. Then SpellsType AfterType) GoesOnForm (λ o. cast_at o.1) (λ o.
    before_token SpellsType (mark marks.Close) (λ t k. Mapped (forms.Cast t) SpellsOperand) GoesOnType GoesOnForm close_not_in_type type_at _ type_reads (λ t.
    after_token (mark marks.Close) tt (some_mark marks.Close) (λ k. Mapped (forms.Cast t) SpellsOperand) GoesOnForm _ (λ k.
    widened (Mapped (forms.Cast t) SpellsOperand) IsOpen GoesOnForm _ open_goes_on (seen_by (forms.Cast t) SpellsOperand IsOpen operand_at operand_reads))))

-- an operation before one operand
record Prefixed (x : RightForm) (w : List Token) : Type 0 where
  op : Code
  operand : OperandText
  left : List Token
  right : List Token
  may_stand : MayStandUnder op operand
  before : Meant prefix_code op left
  after : SpellsOperand operand right
  cut : w ≡ left ++ right
  same : forms.Unary op operand ≡ x

data Sort (x : RightForm) (w : List Token) : Type 0 where
  an_infix : InfixForm x w → Sort x w
  a_prefix : Prefixed x w → Sort x w
  a_call : CallForm x w → Sort x w
  a_cast : CastForm x w → Sort x w

-- a last mark with nothing after it
pub ends : (P : List Token → Type 0) (u v w : List Token) → P u → v ≡ [] → w ≡ u ++ v → P w
ends P u v w p empty cut = subst P (sym (cut ∙ ap (λ l. u ++ l) empty ∙ append-nil u)) p

sort_of : (x : RightForm) (w : List Token) → SpellsForm x w → Sort x w
unfolding InfixForm Continued Rest InfixRest ChoiceRest AfterColon CallForm AfterOp CastForm AfterType
sort_of (forms.Copy a) w s = an_infix (a, w, [], s, inl (refl, refl), sym (append-nil w))
sort_of (forms.Unary op a) w (may, (u, v, first, s, cut)) = a_prefix (record { op = op; operand = a; left = u; right = v; may_stand = may; before = first; after = s; cut = cut; same = refl })
sort_of (forms.Cast t a) w (u, v, (o, left), (u1, v1, spelled, (u2, v2, (k, close), s, cut2), cut1), cut) =
    a_cast (o, u, v, left, (t, u1, v1, spelled, (k, u2, v2, close, (a, s, refl), cut2), cut1), cut)
sort_of (forms.Binary op a b) w (inl (u, v, first, (u1, v1, code, second, cut1), cut)) =
    an_infix (a, u, v, first, inr (inl (op, u1, v1, code, (b, second, refl), cut1)), cut)
sort_of (forms.Binary op a b) w (inr (u, v, code, (u1, v1, (o, left), (u2, v2, first, (u3, v3, (m, comma), (u4, v4, second, (k, close), cut4), cut3), cut2), cut1), cut)) =
    a_call (op, u, v, code, (o, u1, v1, left, (a, u2, v2, first, (m, u3, v3, comma, (b, u4, v4, second, (k, v4, [], close, (refl, refl), sym (append-nil v4)), cut4), cut3), cut2), cut1), cut)
sort_of (forms.Choice c a b) w (u, v, condition, (u1, v1, (q, question), (u2, v2, first, (u3, v3, (k, colon), second, cut3), cut2), cut1), cut) =
    an_infix (c, u, v, condition, inr (inr (q, u1, v1, question, (a, u2, v2, first, (k, u3, v3, colon, (b, second, refl), cut3), cut2), cut1)), cut)

infix_spelled : (x : RightForm) (w : List Token) → InfixForm x w → SpellsForm x w
unfolding InfixForm Continued Rest InfixRest ChoiceRest AfterColon
infix_spelled x w (a, u, v, first, inl (same, empty), cut) = subst (λ k. SpellsForm k w) (sym same) (ends (SpellsOperand a) u v w first empty cut)
infix_spelled x w (a, u, v, first, inr (inl (op, u1, v1, code, (b, second, same), cut1)), cut) =
    subst (λ k. SpellsForm k w) same (inl (u, v, first, (u1, v1, code, second, cut1), cut))
infix_spelled x w (c, u, v, condition, inr (inr (q, u1, v1, question, (a, u2, v2, first, (k, u3, v3, colon, (b, second, same), cut3), cut2), cut1)), cut) =
    subst (λ k. SpellsForm k w) same (u, v, condition, (u1, v1, (q, question), (u2, v2, first, (u3, v3, (k, colon), second, cut3), cut2), cut1), cut)

call_spelled : (x : RightForm) (w : List Token) → CallForm x w → SpellsForm x w
unfolding CallForm AfterOp
call_spelled x w (op, u, v, code, (o, u1, v1, left, (a, u2, v2, first, (m, u3, v3, comma, (b, u4, v4, second, (k, u5, v5, close, (same, empty), cut5), cut4), cut3), cut2), cut1), cut) =
    subst (λ k. SpellsForm k w) (sym same)
    (inr (u, v, code, (u1, v1, (o, left), (u2, v2, first, (u3, v3, (m, comma), (u4, v4, second, (k, ends (Meant (mark marks.Close) k) u5 v5 v4 close empty cut5), cut4), cut3), cut2), cut1), cut))

cast_spelled : (x : RightForm) (w : List Token) → CastForm x w → SpellsForm x w
unfolding CastForm AfterType
cast_spelled x w (o, u, v, left, (t, u1, v1, spelled, (k, u2, v2, close, (a, s, same), cut2), cut1), cut) =
    subst (λ y. SpellsForm y w) same (u, v, (o, left), (u1, v1, spelled, (u2, v2, (k, close), s, cut2), cut1), cut)

-- what each sort begins with

infix_form_begun : (x : RightForm) (w : List Token) → InfixForm x w → Begun StartsOperand w
unfolding InfixForm
infix_form_begun x w (a, u, v, first, others, cut) = front_begun StartsOperand u v w (operand_begun a u first) cut

IsPrefix : Token → Type 0
IsPrefix t = (op : Code) × (prefix_code t ≡ Some op)

prefixed_begun : (x : RightForm) (w : List Token) → Prefixed x w → Begun IsPrefix w
unfolding IsPrefix
prefixed_begun x w p = front_begun IsPrefix p.left p.right w (meant_begun prefix_code IsPrefix (λ t op e. (op, e)) p.op p.left p.before) p.cut

abbrev IsCall : Token → Type 0
IsCall (tokens.Keyword keywords.Min at) = Unit {0}
IsCall (tokens.Keyword keywords.Max at) = Unit {0}
IsCall t = ⊥

call_is : (t : Token) (op : Code) → call_code t ≡ Some op → IsCall t
call_is (tokens.Keyword keywords.Min at) op e = tt
call_is (tokens.Keyword keywords.Max at) op e = tt
call_is t op e = absurd (cc)

call_begun : (x : RightForm) (w : List Token) → CallForm x w → Begun IsCall w
unfolding CallForm
call_begun x w (op, u, v, code, others, cut) = front_begun IsCall u v w (meant_begun call_code IsCall call_is op u code) cut

cast_begun : (x : RightForm) (w : List Token) → CastForm x w → Begun IsOpen w
unfolding CastForm
cast_begun x w (o, u, v, left, others, cut) = front_begun IsOpen u v w (meant_begun (mark marks.Open) IsOpen open_is o u left) cut

some_form : Begins SpellsForm []
some_form = record { value = forms.Copy some_operand.value; after = some_operand.after; spelled = some_operand.spelled }

form_not_empty : (x : RightForm) → SpellsForm x [] → ⊥
form_not_empty x s = by_sort (sort_of x [] s)
  where
    by_sort : Sort x [] → ⊥
    by_sort (an_infix s) = infix_form_begun x [] s
    by_sort (a_prefix s) = prefixed_begun x [] s
    by_sort (a_call s) = call_begun x [] s
    by_sort (a_cast s) = cast_begun x [] s

-- forms by their first token

call_exact : (t : Token) (rest : List Token) (answer : Answer Token (Unit {0}) RightForm) → ¬ StartsOperand t → ¬ IsPrefix t → ¬ IsOpen t
    → IsExact CallForm GoesOnForm (t ∷ rest) answer → IsExact SpellsForm GoesOnForm (t ∷ rest) answer
call_exact t rest answer no_operand no_prefix no_open exact = starting_so CallForm SpellsForm GoesOnForm (t ∷ rest) answer some_form (λ x w s start. call_spelled x w s) (λ x w s start. by_sort x w start (sort_of x w s)) exact
  where
    by_sort : (x : RightForm) (w : List Token) → SameStart (t ∷ rest) w → Sort x w → CallForm x w
    by_sort x w start (an_infix s) = absurd (no_operand (same_begun StartsOperand (t ∷ rest) w start (infix_form_begun x w s)))
    by_sort x w start (a_prefix s) = absurd (no_prefix (same_begun IsPrefix (t ∷ rest) w start (prefixed_begun x w s)))
    by_sort x w start (a_call s) = s
    by_sort x w start (a_cast s) = absurd (no_open (same_begun IsOpen (t ∷ rest) w start (cast_begun x w s)))

cast_exact : (t : Token) (rest : List Token) (answer : Answer Token (Unit {0}) RightForm) → ¬ StartsOperand t → ¬ IsPrefix t → ¬ IsCall t
    → IsExact CastForm GoesOnForm (t ∷ rest) answer → IsExact SpellsForm GoesOnForm (t ∷ rest) answer
cast_exact t rest answer no_operand no_prefix no_call exact = starting_so CastForm SpellsForm GoesOnForm (t ∷ rest) answer some_form (λ x w s start. cast_spelled x w s) (λ x w s start. by_sort x w start (sort_of x w s)) exact
  where
    by_sort : (x : RightForm) (w : List Token) → SameStart (t ∷ rest) w → Sort x w → CastForm x w
    by_sort x w start (an_infix s) = absurd (no_operand (same_begun StartsOperand (t ∷ rest) w start (infix_form_begun x w s)))
    by_sort x w start (a_prefix s) = absurd (no_prefix (same_begun IsPrefix (t ∷ rest) w start (prefixed_begun x w s)))
    by_sort x w start (a_call s) = absurd (no_call (same_begun IsCall (t ∷ rest) w start (call_begun x w s)))
    by_sort x w start (a_cast s) = s

infix_exact : (input : List Token) → ¬ Begun IsPrefix input → ¬ Begun IsCall input → ¬ Begun IsOpen input → IsExact SpellsForm GoesOnForm input (infix_at input)
infix_exact input no_prefix no_call no_open = starting_so InfixForm SpellsForm GoesOnForm input (infix_at input) some_form (λ x w s start. infix_spelled x w s) (λ x w s start. by_sort x w start (sort_of x w s)) (infix_reads.exact input)
  where
    by_sort : (x : RightForm) (w : List Token) → SameStart input w → Sort x w → InfixForm x w
    by_sort x w start (an_infix s) = s
    by_sort x w start (a_prefix s) = absurd (no_prefix (same_begun IsPrefix input w start (prefixed_begun x w s)))
    by_sort x w start (a_call s) = absurd (no_call (same_begun IsCall input w start (call_begun x w s)))
    by_sort x w start (a_cast s) = absurd (no_open (same_begun IsOpen input w start (cast_begun x w s)))

-- a name stands under every operation
name_may_stand : (op : Code) (name : Span) → MayStandUnder op (operands.Name name)
name_may_stand codes.Negate name = tt
name_may_stand op name = tt

-- after one of the operations before one operand
prefixed_exact : (t : Token) (op : Code) (rest : List Token) → prefix_code t ≡ Some op → ¬ IsCall t → ¬ IsOpen t
    → ((a : OperandText) (w : List Token) → SpellsOperand a w → SameStart rest w → MayStandUnder op a)
    → ((x : RightForm) (w : List Token) → InfixForm x (t ∷ w) → SameStart rest w → ⊥)
    → IsExact SpellsForm GoesOnForm (t ∷ rest) (prefixed_at op rest)
prefixed_exact t op rest is no_call no_open may no_infix =
    from_token SpellsForm (λ x w. SpellsForm x (t ∷ w)) GoesOnForm t rest (prefixed_at op rest) (λ x w s. s) (λ x w s. s) (λ x s. absurd (form_not_empty x s))
    (starting_so (Mapped (forms.Unary op) SpellsOperand) (λ x w. SpellsForm x (t ∷ w)) GoesOnForm rest (prefixed_at op rest) some to (λ x w s start. by_sort x w start (sort_of x (t ∷ w) s))
    ((widened (Mapped (forms.Unary op) SpellsOperand) IsOpen GoesOnForm (prefixed_at op) open_goes_on (seen_by (forms.Unary op) SpellsOperand IsOpen operand_at operand_reads)).exact rest))
  where
    to : (x : RightForm) (w : List Token) → Mapped (forms.Unary op) SpellsOperand x w → SameStart rest w → SpellsForm x (t ∷ w)
    to x w (a, s, same) start = subst (λ k. SpellsForm k (t ∷ w)) same (may a w s start, (t ∷ [], w, (t, is, refl), s, refl))

    one_code : (p : Code) → Some op ≡ Some p → p ≡ op
    one_code p e = cc

    by_sort : (x : RightForm) (w : List Token) → SameStart rest w → Sort x (t ∷ w) → Mapped (forms.Unary op) SpellsOperand x w
    by_sort x w start (an_infix s) = absurd (no_infix x w s start)
    by_sort x w start (a_prefix p) =
        let here = first_meant prefix_code p.op t w p.left p.right p.before p.cut in
        (p.operand, subst (λ l. SpellsOperand p.operand l) here.1 p.after, ap (λ o. forms.Unary o p.operand) (sym (one_code p.op (sym is ∙ here.0))) ∙ p.same)
    by_sort x w start (a_call s) = absurd (no_call (call_begun x (t ∷ w) s))
    by_sort x w start (a_cast s) = absurd (no_open (cast_begun x (t ∷ w) s))

    some : Begins (λ x w. SpellsForm x (t ∷ w)) []
    some = record {
      value = forms.Unary op (operands.Name some_name.value);
      after = some_name.after;
      spelled = (name_may_stand op some_name.value, (t ∷ [], some_name.after, (t, is, refl), some_name.spelled, refl));
    }

-- after `-`

-- a number after `-` makes a constant of it
minus_number : (a : OperandText) (at : Span) (w : List Token) → SpellsOperand a (tokens.Mark marks.Minus at ∷ w) → Begun IsNumber w
minus_number (operands.Name name) at w s = absurd (name_begun name (tokens.Mark marks.Minus at ∷ w) s)
minus_number (operands.Default name) at w (u, v, first, others, cut) = absurd (front_begun IsName u v (tokens.Mark marks.Minus at ∷ w) (name_begun name u first) cut)
minus_number (operands.Literal l) at w (begins, s) = by_type l.ty l.negative l.number s
  where
    by_sign : (x : LiteralType × Span) (negative : Bool) → Signed negative (Meant literal_number x) (tokens.Mark marks.Minus at ∷ w) → Begun IsNumber w
    by_sign x true (u, v, (p, minus), number, cut) =
        let here = first_meant (mark marks.Minus) p (tokens.Mark marks.Minus at) w u v minus cut in
        meant_begun literal_number IsNumber number_is x w (subst (λ l. Meant literal_number x l) here.1 number)
    by_sign x false number = absurd (meant_begun literal_number IsNumber number_is x (tokens.Mark marks.Minus at ∷ w) number)

    by_type : (ty : LiteralType) (negative : Bool) (number : Span) → SpellsConstant ty negative number (tokens.Mark marks.Minus at ∷ w) → Begun IsNumber w
    by_type (Written t) negative number s = absurd (literal_word_begun t negative number (tokens.Mark marks.Minus at ∷ w) s)
    by_type ty negative number s = by_sign (ty, number) negative s

-- what begins with a number does not stand under `-`
number_under_minus : (a : OperandText) (kind : NumberKind) (at : Span) (w : List Token) → SpellsOperand a (tokens.Number kind at ∷ w) → MayStandUnder codes.Negate a → ⊥
number_under_minus (operands.Name name) kind at w s may = name_begun name (tokens.Number kind at ∷ w) s
number_under_minus (operands.Default name) kind at w (u, v, first, others, cut) may = front_begun IsName u v (tokens.Number kind at ∷ w) (name_begun name u first) cut
number_under_minus (operands.Literal l) kind at w (begins, s) may = by_type l.ty l.negative l.number s may
  where
    by_type : (ty : LiteralType) (negative : Bool) (number : Span) → SpellsConstant ty negative number (tokens.Number kind at ∷ w) → BeginsWithNoNumber ty negative → ⊥
    by_type (Written t) negative number s may = literal_word_begun t negative number (tokens.Number kind at ∷ w) s
    by_type ty true number (u, v, (p, minus), digits, cut) may = front_begun IsMinus u v (tokens.Number kind at ∷ w) (meant_begun (mark marks.Minus) IsMinus minus_is p u minus) cut
    by_type ty false number s may = may

infix_minus_number : (at : Span) (x : RightForm) (w : List Token) → InfixForm x (tokens.Mark marks.Minus at ∷ w) → Begun IsNumber w
unfolding InfixForm
infix_minus_number at x w (a, u, v, first, others, cut) = by_front u first cut
  where
    by_front : (u : List Token) → SpellsOperand a u → tokens.Mark marks.Minus at ∷ w ≡ u ++ v → Begun IsNumber w
    by_front [] first cut = absurd (operand_begun a [] first)
    by_front (t ∷ u) first cut =
        let head : tokens.Mark marks.Minus at ≡ t = same_head (tokens.Mark marks.Minus at) t w (u ++ v) cut in
        front_begun IsNumber u v w (minus_number a at u (subst (λ h. SpellsOperand a (h ∷ u)) (sym head) first)) (same_tail (tokens.Mark marks.Minus at) t w (u ++ v) cut)

-- a negative constant, and what stands after it
constant_form_exact : (at : Span) (kind : NumberKind) (number : Span) (rest : List Token)
    → IsExact SpellsForm GoesOnForm (tokens.Mark marks.Minus at ∷ tokens.Number kind number ∷ rest) (infix_at (tokens.Mark marks.Minus at ∷ tokens.Number kind number ∷ rest))
unfolding InfixForm Continued
constant_form_exact at kind number rest =
    from_token SpellsForm (λ x w. SpellsForm x (tokens.Mark marks.Minus at ∷ w)) GoesOnForm (tokens.Mark marks.Minus at) (tokens.Number kind number ∷ rest) answer (λ x w s. s) (λ x w s. s) (λ x s. absurd (form_not_empty x s))
    (starting_so (λ x w. InfixForm x (tokens.Mark marks.Minus at ∷ w)) (λ x w. SpellsForm x (tokens.Mark marks.Minus at ∷ w)) GoesOnForm (tokens.Number kind number ∷ rest) answer
    (record { value = some.value; after = some.after; spelled = infix_spelled some.value (tokens.Mark marks.Minus at ∷ some.after) some.spelled })
    (λ x w s start. infix_spelled x (tokens.Mark marks.Minus at ∷ w) s) (λ x w s start. by_sort x w start (sort_of x (tokens.Mark marks.Minus at ∷ w) s))
    (after_first InfixForm GoesOnForm (tokens.Mark marks.Minus at) (tokens.Number kind number ∷ rest) answer some (infix_reads.exact (tokens.Mark marks.Minus at ∷ tokens.Number kind number ∷ rest))))
  where
    answer : Answer Token (Unit {0}) RightForm
    answer = infix_at (tokens.Mark marks.Minus at ∷ tokens.Number kind number ∷ rest)

    some : Begins InfixForm (tokens.Mark marks.Minus at ∷ [])
    some = record {
      value = forms.Copy (operands.Literal (record { start = at; ty = Plain; negative = true; number = at }));
      after = tokens.Number kinds.Plain at ∷ [];
      spelled = (
        operands.Literal (record { start = at; ty = Plain; negative = true; number = at }),
        tokens.Mark marks.Minus at ∷ tokens.Number kinds.Plain at ∷ [],
        [],
        (refl, (tokens.Mark marks.Minus at ∷ [], tokens.Number kinds.Plain at ∷ [], (at, (tokens.Mark marks.Minus at, refl, refl)), (tokens.Number kinds.Plain at, refl, refl), refl)),
        inl (refl, refl),
        refl,
      );
    }

    by_sort : (x : RightForm) (w : List Token) → SameStart (tokens.Number kind number ∷ rest) w → Sort x (tokens.Mark marks.Minus at ∷ w) → InfixForm x (tokens.Mark marks.Minus at ∷ w)
    by_sort x w start (an_infix s) = s
    by_sort x w start (a_prefix p) =
        let here = first_meant prefix_code p.op (tokens.Mark marks.Minus at) w p.left p.right p.before p.cut in
        absurd (no_number w start p.operand (subst (λ l. SpellsOperand p.operand l) here.1 p.after) (subst (λ o. MayStandUnder o p.operand) (negate_is p.op here.0) p.may_stand))
      where
        negate_is : (op : Code) → Some codes.Negate ≡ Some op → op ≡ codes.Negate
        negate_is op e = cc

        no_number : (w : List Token) → SameStart (tokens.Number kind number ∷ rest) w → (a : OperandText) → SpellsOperand a w → MayStandUnder codes.Negate a → ⊥
        no_number [] start a s may = operand_begun a [] s
        no_number (t ∷ w) start a s may = number_under_minus a kind number w (subst (λ h. SpellsOperand a (h ∷ w)) (sym start) s) may
    by_sort x w start (a_call s) = absurd (call_begun x (tokens.Mark marks.Minus at ∷ w) s)
    by_sort x w start (a_cast s) = absurd (cast_begun x (tokens.Mark marks.Minus at ∷ w) s)

negate_exact : (at : Span) (rest : List Token) → ¬ Begun IsNumber rest → IsExact SpellsForm GoesOnForm (tokens.Mark marks.Minus at ∷ rest) (prefixed_at codes.Negate rest)
negate_exact at rest no_number =
    prefixed_exact (tokens.Mark marks.Minus at) codes.Negate rest refl (λ h. h) (λ h. h) (λ a w s start. may a w s start)
    (λ x w s start. no_number (same_begun IsNumber rest w start (infix_minus_number at x w s)))
  where
    may : (a : OperandText) (w : List Token) → SpellsOperand a w → SameStart rest w → MayStandUnder codes.Negate a
    may (operands.Name name) w s start = tt
    may (operands.Default name) w s start = tt
    may (operands.Literal l) w (begins, s) start = by_type l.ty l.negative l.number s
      where
        by_type : (ty : LiteralType) (negative : Bool) (number : Span) → SpellsConstant ty negative number w → BeginsWithNoNumber ty negative
        by_type (Written t) negative number s = tt
        by_type ty true number s = tt
        by_type ty false number s = absurd (no_number (same_begun IsNumber rest w start (meant_begun literal_number IsNumber number_is (ty, number) w s)))

-- after an operation that takes any operand
free_exact : (t : Token) (op : Code) (rest : List Token) → prefix_code t ≡ Some op → ¬ IsCall t → ¬ IsOpen t → ¬ StartsOperand t → ((a : OperandText) → MayStandUnder op a)
    → IsExact SpellsForm GoesOnForm (t ∷ rest) (prefixed_at op rest)
free_exact t op rest is no_call no_open no_operand may =
    prefixed_exact t op rest is no_call no_open (λ a w s start. may a) (λ x w s start. no_operand (infix_form_begun x (t ∷ w) s))

no_prefix_code : (t : Token) → prefix_code t ≡ None → ¬ IsPrefix t
unfolding IsPrefix
no_prefix_code t none (op, e) = none_is_some op (sym none ∙ e)
  where
    none_is_some : (op : Code) → None ≡ Some op → ⊥
    none_is_some op e = cc

form_exact : (input : List Token) → IsExact SpellsForm GoesOnForm input (form_at input)
form_exact (tokens.Mark marks.Minus at ∷ tokens.Number kind number ∷ rest) = constant_form_exact at kind number rest
form_exact (tokens.Mark marks.Minus at ∷ rest) = negate_exact at rest (λ begun. begun)
form_exact (tokens.Mark marks.Tilde at ∷ rest) = free_exact (tokens.Mark marks.Tilde at) codes.BitNot rest refl (λ h. h) (λ h. h) (λ h. h) (λ a. tt)
form_exact (tokens.Mark marks.Open at ∷ rest) =
    cast_exact (tokens.Mark marks.Open at) rest (cast_at rest) (λ h. h) (no_prefix_code _ refl) (λ h. h) (cast_reads.exact (tokens.Mark marks.Open at ∷ rest))
form_exact (tokens.Keyword keywords.Abs at ∷ rest) = free_exact (tokens.Keyword keywords.Abs at) codes.Abs rest refl (λ h. h) (λ h. h) (λ h. h) (λ a. tt)
form_exact (tokens.Keyword keywords.Absu at ∷ rest) = free_exact (tokens.Keyword keywords.Absu at) codes.Absu rest refl (λ h. h) (λ h. h) (λ h. h) (λ a. tt)
form_exact (tokens.Keyword keywords.Min at ∷ rest) =
    call_exact (tokens.Keyword keywords.Min at) rest (call_at codes.Min rest) (λ h. h) (no_prefix_code _ refl) (λ h. h) (call_reads.exact (tokens.Keyword keywords.Min at ∷ rest))
form_exact (tokens.Keyword keywords.Max at ∷ rest) =
    call_exact (tokens.Keyword keywords.Max at) rest (call_at codes.Max rest) (λ h. h) (no_prefix_code _ refl) (λ h. h) (call_reads.exact (tokens.Keyword keywords.Max at ∷ rest))
form_exact [] = infix_exact [] (λ h. h) (λ h. h) (λ h. h)
form_exact (t ∷ rest) = infix_exact (t ∷ rest) (no_prefix_code _ refl) (λ h. h) (λ h. h)

-- right sides

starts_form : Token → Type 0
starts_form t = StartsOperand t ⊎ (IsPrefix t ⊎ (IsCall t ⊎ IsOpen t))

form_begun : (x : RightForm) (w : List Token) → SpellsForm x w → Begun starts_form w
unfolding starts_form
form_begun x w s = by_sort (sort_of x w s)
  where
    by_sort : Sort x w → Begun starts_form w
    by_sort (an_infix s) = widen_begun StartsOperand starts_form (λ t h. inl h) w (infix_form_begun x w s)
    by_sort (a_prefix s) = widen_begun IsPrefix starts_form (λ t h. inr (inl h)) w (prefixed_begun x w s)
    by_sort (a_call s) = widen_begun IsCall starts_form (λ t h. inr (inr (inl h))) w (call_begun x w s)
    by_sort (a_cast s) = widen_begun IsOpen starts_form (λ t h. inr (inr (inr h))) w (cast_begun x w s)

some_right : Begins SpellsRight []
some_right = by_text some_form.value some_form.after some_form.spelled
  where
    by_text : (x : RightForm) (w : List Token) → SpellsForm x w → Begins SpellsRight []
    by_text x [] s = absurd (form_not_empty x s)
    by_text x (t ∷ w) s = record { value = record { start = span_of t; form = x }; after = t ∷ w; spelled = (refl, s) }

right_exact : (input : List Token) → IsExact SpellsRight GoesOnForm input (right_at input)
right_exact [] = refused SpellsRight GoesOnForm tt some_right [] (λ x s far. s.0) (λ t rest e. absurd (cc))
right_exact (t ∷ rest) =
    placed_exact SpellsForm SpellsRight (λ at x. record { start = at; form = x }) GoesOnForm starts_form some_right form_begun (λ at x w begins s. (begins, s))
    (λ y w s. (y.start, y.form, s.0, s.1, refl)) t rest (form_at (t ∷ rest)) (form_exact (t ∷ rest))

-- Right sides.
pub right_reads : Reads SpellsRight GoesOnForm right_at
right_reads = record { some = some_right; exact = λ input. right_exact input }

-- `__PHI` begins no right side
pub right_no_phi : (x : RightText) (at : Span) (w : List Token) → SpellsRight x (tokens.Keyword keywords.Phi at ∷ w) → ⊥
unfolding starts_form
right_no_phi x at w s = no_phi (form_begun x.form (tokens.Keyword keywords.Phi at ∷ w) s.1)
  where
    no_phi : starts_form (tokens.Keyword keywords.Phi at) → ⊥
    no_phi (inl h) = h
    no_phi (inr (inl h)) = no_prefix_code _ refl h
    no_phi (inr (inr (inl h))) = h
    no_phi (inr (inr (inr h))) = h
