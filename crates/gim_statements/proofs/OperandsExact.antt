-- Operands are read exactly.
use Rattle.std.proofs.Common.{◌≡◌, Bool, true, false, List, [], ◌∷◌, ◌++◌, Option, Some, None, Ok, refl, sym, ap, subst, ◌∙◌, inl, inr}
use Rattle.std.proofs.lemmas.List.{append-nil}
use Rattle.grammar.specs.Spelling.{Spelling, Begins, Nothing, Meant, Then, Mapped}
use Rattle.grammar.specs.Reading.{Answer, ◌>>=◌, meant_at}
use Rattle.grammar.specs.Exact.{IsExact}
use Rattle.grammar.proofs.Parts.{starting_so, refused, mapped, SameStart}
use Rattle.pm_wide.specs.Types.{Ty}
use Rattle.gim_text.specs.Meanings.{mark, keyword, identifier, span_of}
use Rattle.pm_places.specs.declared.span.Span.{Span}
use Rattle.gim_text.specs.declared.token.Token.{Token}
use Rattle.gim_text.specs.declared.token.Token.TheVariants as tokens
use Rattle.gim_text.specs.declared.token.Keyword.TheVariants as keywords
use Rattle.gim_text.specs.declared.token.Mark.TheVariants as marks
use Rattle.gim_text.specs.declared.token.NumberKind.{NumberKind}
use Rattle.gim_text.specs.declared.token.NumberKind.TheVariants as kinds
use Rattle.gim_text.specs.declared.tree.LiteralText.{LiteralText}
use Rattle.gim_text.specs.declared.tree.LiteralType.{LiteralType}
use Rattle.gim_text.specs.declared.tree.LiteralType.TheVariants.{Plain, Unsigned, Long, UnsignedLong, Written}
use Rattle.gim_text.specs.declared.tree.OperandText.{OperandText}
use Rattle.gim_text.specs.declared.tree.OperandText.TheVariants as operands
use Rattle.gim_words.specs.Types.{SpellsType, GoesOnType}
use Rattle.gim_words.specs.TypeReaders.{type_at}
use Rattle.gim_words.proofs.TypesExact.{type_reads}
use Rattle.gim_words.specs.Tokens.{plain_number}
use Rattle.gim_words.specs.TokenReaders.{mark_at, keyword_at, name_at}
use Rattle.grammar.proofs.EveryInput.{Reads, nothing, one_token, seen_by, after_token}
use Rattle.grammar.proofs.Starts.{Begun, meant_begun, front_begun, same_begun, widen_begun, before_token, Optional, taken, left_out}
use Rattle.gim_words.proofs.TokensExact.{some_mark, some_keyword, some_name, some_plain_number}
use Rattle.gim_statements.specs.declared.operand.Constant.{Constant}
use Rattle.gim_statements.specs.Words.{literal_number}
use Rattle.gim_statements.specs.Grammar.{BeginsAt, Signed, SpellsConstant, SpellsOperand}
use Rattle.gim_statements.specs.OperandReaders.{literal, signed_at, bare, written, signed_number_at, written_at, constant_at, literal_at, named_at, operand_at}

-- which tokens begin what

abbrev pub IsMinus : Token → Type 0
IsMinus (tokens.Mark marks.Minus at) = Unit {0}
IsMinus t = ⊥

-- what can go on an operand: `(` after a name
abbrev pub IsOpen : Token → Type 0
IsOpen (tokens.Mark marks.Open at) = Unit {0}
IsOpen t = ⊥

abbrev pub IsLiteralWord : Token → Type 0
IsLiteralWord (tokens.Keyword keywords.Literal at) = Unit {0}
IsLiteralWord t = ⊥

abbrev pub IsNumber : Token → Type 0
IsNumber (tokens.Number kind at) = Unit {0}
IsNumber t = ⊥

abbrev pub IsName : Token → Type 0
IsName (tokens.Identifier at) = Unit {0}
IsName (tokens.Ssa at) = Unit {0}
IsName t = ⊥

abbrev StartsNumber : Token → Type 0
StartsNumber (tokens.Number kind at) = Unit {0}
StartsNumber (tokens.Mark marks.Minus at) = Unit {0}
StartsNumber t = ⊥

abbrev pub StartsConstant : Token → Type 0
StartsConstant (tokens.Number kind at) = Unit {0}
StartsConstant (tokens.Mark marks.Minus at) = Unit {0}
StartsConstant (tokens.Keyword keywords.Literal at) = Unit {0}
StartsConstant t = ⊥

abbrev pub StartsOperand : Token → Type 0
StartsOperand (tokens.Identifier at) = Unit {0}
StartsOperand (tokens.Ssa at) = Unit {0}
StartsOperand (tokens.Number kind at) = Unit {0}
StartsOperand (tokens.Mark marks.Minus at) = Unit {0}
StartsOperand (tokens.Keyword keywords.Literal at) = Unit {0}
StartsOperand t = ⊥

pub minus_is : (t : Token) (x : Span) → mark marks.Minus t ≡ Some x → IsMinus t
minus_is (tokens.Mark marks.Minus at) x e = tt
minus_is t x e = absurd (cc)

literal_word_is : (t : Token) (x : Span) → keyword keywords.Literal t ≡ Some x → IsLiteralWord t
literal_word_is (tokens.Keyword keywords.Literal at) x e = tt
literal_word_is t x e = absurd (cc)

pub name_is : (t : Token) (x : Span) → identifier t ≡ Some x → IsName t
name_is (tokens.Identifier at) x e = tt
name_is (tokens.Ssa at) x e = tt
name_is t x e = absurd (cc)

pub open_is : (t : Token) (x : Span) → mark marks.Open t ≡ Some x → IsOpen t
open_is (tokens.Mark marks.Open at) x e = tt
open_is t x e = absurd (cc)

pub number_is : (t : Token) (x : LiteralType × Span) → literal_number t ≡ Some x → IsNumber t
number_is (tokens.Number kind at) x e = tt
number_is t x e = absurd (cc)

plain_number_is : (t : Token) (x : Span) → plain_number t ≡ Some x → IsNumber t
plain_number_is (tokens.Number kind at) x e = tt
plain_number_is t x e = absurd (cc)

-- numbers with or without `-`

abbrev SpellsSigned : {A : Type 0} → (Token → Option A) → Spelling Token (Bool × A)
SpellsSigned meaning x w = Signed x.0 (Meant meaning x.1) w

module _ {A : Type 0} (meaning : Token → Option A) (some : Begins (Meant meaning) []) (is_number : (t : Token) (x : A) → meaning t ≡ Some x → IsNumber t) (more : Token → Type 0) where
  some_signed : Begins (SpellsSigned meaning) []
  some_signed = record { value = (false, some.value); after = some.after; spelled = some.spelled }

  AfterMinus : Spelling Token (Bool × A)
  AfterMinus = Then (Meant (mark marks.Minus)) (λ at. Mapped (λ x. (true, x)) (Meant meaning))

  after_minus : Reads AfterMinus more (λ input. mark_at marks.Minus input >>= λ at. meant_at meaning tt at.1 >>= λ x. Ok ((true, x.0), x.1))
  unfolding AfterMinus
  after_minus =
      after_token (mark marks.Minus) tt (some_mark marks.Minus) (λ at. Mapped (λ x. (true, x)) (Meant meaning)) more _ (λ at.
      seen_by (λ x. (true, x)) (Meant meaning) more _ (one_token meaning tt more some))

  negative_exact : (at : Span) (rest : List Token) → IsExact (SpellsSigned meaning) more (tokens.Mark marks.Minus at ∷ rest) (signed_at meaning (tokens.Mark marks.Minus at ∷ rest))
  unfolding AfterMinus
  negative_exact at rest =
      starting_so AfterMinus (SpellsSigned meaning) more (tokens.Mark marks.Minus at ∷ rest) (signed_at meaning (tokens.Mark marks.Minus at ∷ rest)) some_signed (λ x w s start. to x w s) back
      (after_minus.exact (tokens.Mark marks.Minus at ∷ rest))
    where
      to : (x : Bool × A) (w : List Token) → AfterMinus x w → SpellsSigned meaning x w
      to x w (p, u, v, minus, (y, number, same), cut) = subst (λ k. SpellsSigned meaning k w) same (u, v, (p, minus), number, cut)

      back : (x : Bool × A) (w : List Token) → SpellsSigned meaning x w → SameStart (tokens.Mark marks.Minus at ∷ rest) w → AfterMinus x w
      back (true, y) w (u, v, (p, minus), number, cut) start = (p, u, v, minus, (y, number, refl), cut)
      back (false, y) w number start = absurd (same_begun IsNumber (tokens.Mark marks.Minus at ∷ rest) w start (meant_begun meaning IsNumber is_number y w number))

  positive_exact : (input : List Token) → ¬ Begun IsMinus input → IsExact (SpellsSigned meaning) more input (meant_at meaning (tt {0}) input >>= λ x. Ok ((false, x.0), x.1))
  positive_exact input no_minus =
      starting_so (Mapped (λ x. (false, x)) (Meant meaning)) (SpellsSigned meaning) more input (meant_at meaning (tt {0}) input >>= λ x. Ok ((false, x.0), x.1)) some_signed (λ x w s start. to x w s) back
      ((seen_by (λ x. (false, x)) (Meant meaning) more (meant_at meaning (tt {0})) (one_token meaning (tt {0}) more some)).exact input)
    where
      to : (x : Bool × A) (w : List Token) → Mapped (λ x. (false, x)) (Meant meaning) x w → SpellsSigned meaning x w
      to x w (y, number, same) = subst (λ k. SpellsSigned meaning k w) same number

      back : (x : Bool × A) (w : List Token) → SpellsSigned meaning x w → SameStart input w → Mapped (λ x. (false, x)) (Meant meaning) x w
      back (true, y) w (u, v, (p, minus), number, cut) start =
          absurd (no_minus (same_begun IsMinus input w start (front_begun IsMinus u v w (meant_begun (mark marks.Minus) IsMinus minus_is p u minus) cut)))
      back (false, y) w number start = (y, number, refl)

  signed_exact : (input : List Token) → IsExact (SpellsSigned meaning) more input (signed_at meaning input)
  signed_exact (tokens.Mark marks.Minus at ∷ rest) = negative_exact at rest
  signed_exact input = positive_exact input (λ begun. begun)

  signed_reads : Reads (SpellsSigned meaning) more (signed_at meaning)
  signed_reads = record { some = some_signed; exact = λ input. signed_exact input }

some_literal_number : Begins (Meant literal_number) []
some_literal_number = record { value = (Plain, record { from = 0; to = 0 }); after = tokens.Number kinds.Plain (record { from = 0; to = 0 }) ∷ []; spelled = (tokens.Number kinds.Plain (record { from = 0; to = 0 }), refl, refl) }

-- constants

abbrev Constants : Spelling Token Constant
Constants c w = SpellsConstant c.ty c.negative c.number w

said : Option (LiteralType × Span) → LiteralType
said None = Plain
said (Some x) = x.0

never_written : (t : Token) (ty : Ty) (at : Span) → literal_number t ≡ Some (Written ty, at) → ⊥
unfolding said
never_written (tokens.Number kind at) ty p e = by_kind kind e
  where
    by_kind : (k : NumberKind) → literal_number (tokens.Number k at) ≡ Some (Written ty, p) → ⊥
    by_kind kinds.Plain e = let same : Plain ≡ Written ty = ap said e in cc
    by_kind kinds.Unsigned e = let same : Unsigned ≡ Written ty = ap said e in cc
    by_kind kinds.Long e = let same : Long ≡ Written ty = ap said e in cc
    by_kind kinds.UnsignedLong e = let same : UnsignedLong ≡ Written ty = ap said e in cc
    by_kind kinds.Wrong e = cc
never_written t ty at e = cc

no_written : (ty : Ty) (negative : Bool) (at : Span) (w : List Token) → Signed negative (Meant literal_number (Written ty, at)) w → ⊥
no_written ty true at w (u, v, minus, (t, has, one), cut) = never_written t ty at has
no_written ty false at w (t, has, one) = never_written t ty at has

bare_spelled : (ty : LiteralType) (negative : Bool) (at : Span) (w : List Token) → Signed negative (Meant literal_number (ty, at)) w → SpellsConstant ty negative at w
bare_spelled (Written ty) negative at w s = absurd (no_written ty negative at w s)
bare_spelled ty negative at w s = s

pub literal_word_begun : (ty : Ty) (negative : Bool) (at : Span) (w : List Token) → SpellsConstant (Written ty) negative at w → Begun IsLiteralWord w
literal_word_begun ty negative at w (u, v, (p, word), others, cut) = front_begun IsLiteralWord u v w (meant_begun (keyword keywords.Literal) IsLiteralWord literal_word_is p u word) cut

minus_starts : (t : Token) → IsMinus t → StartsNumber t
minus_starts (tokens.Mark marks.Minus at) h = tt
minus_starts t h = absurd h

number_starts : (t : Token) → IsNumber t → StartsNumber t
number_starts (tokens.Number kind at) h = tt
number_starts t h = absurd h

signed_begun : (negative : Bool) (x : LiteralType × Span) (w : List Token) → Signed negative (Meant literal_number x) w → Begun StartsNumber w
signed_begun true x w (u, v, (p, minus), number, cut) =
    front_begun StartsNumber u v w (meant_begun (mark marks.Minus) StartsNumber (λ t k e. minus_starts t (minus_is t k e)) p u minus) cut
signed_begun false x w number = meant_begun literal_number StartsNumber (λ t k e. number_starts t (number_is t k e)) x w number

word_starts : (t : Token) → IsLiteralWord t → StartsConstant t
word_starts (tokens.Keyword keywords.Literal at) h = tt
word_starts t h = absurd h

signed_starts : (t : Token) → StartsNumber t → StartsConstant t
signed_starts (tokens.Number kind at) h = tt
signed_starts (tokens.Mark marks.Minus at) h = tt
signed_starts t h = absurd h

constant_starts : (t : Token) → StartsConstant t → StartsOperand t
constant_starts (tokens.Number kind at) h = tt
constant_starts (tokens.Mark marks.Minus at) h = tt
constant_starts (tokens.Keyword keywords.Literal at) h = tt
constant_starts t h = absurd h

name_starts : (t : Token) → IsName t → StartsOperand t
name_starts (tokens.Identifier at) h = tt
name_starts (tokens.Ssa at) h = tt
name_starts t h = absurd h

pub constant_begun : (ty : LiteralType) (negative : Bool) (at : Span) (w : List Token) → SpellsConstant ty negative at w → Begun StartsConstant w
constant_begun (Written ty) negative at w s = widen_begun IsLiteralWord StartsConstant word_starts w (literal_word_begun ty negative at w s)
constant_begun ty negative at w s = widen_begun StartsNumber StartsConstant signed_starts w (signed_begun negative (ty, at) w s)

bare_reads : (more : Token → Type 0) → Reads (Mapped bare (SpellsSigned literal_number)) more signed_number_at
bare_reads more = seen_by bare (SpellsSigned literal_number) more (signed_at literal_number) (signed_reads literal_number some_literal_number number_is more)

some_constant : Begins Constants []
some_constant = record { value = bare some_signed_number.value; after = some_signed_number.after; spelled = bare_spelled some_signed_number.value.1.0 some_signed_number.value.0 some_signed_number.value.1.1 some_signed_number.after some_signed_number.spelled }
  where
    some_signed_number : Begins (SpellsSigned literal_number) []
    some_signed_number = some_signed literal_number some_literal_number number_is (λ t. ⊥)

pub close_not_in_type : (t : Token) → GoesOnType t → mark marks.Close t ≡ None
close_not_in_type (tokens.TypeWord word at) h = refl
close_not_in_type t h = absurd h

AfterClose : Ty → Spelling Token Constant
AfterClose t = Then (Meant (mark marks.Close)) (λ k. Mapped (written t) (SpellsSigned plain_number))

AfterOpen : Spelling Token Constant
AfterOpen = Then (Meant (mark marks.Open)) (λ o. Then SpellsType AfterClose)

WrittenLiteral : Spelling Token Constant
WrittenLiteral = Then (Meant (keyword keywords.Literal)) (λ k. AfterOpen)

written_reads : (more : Token → Type 0) → Reads AfterOpen more written_at
unfolding AfterOpen AfterClose
written_reads more =
    after_token (mark marks.Open) tt (some_mark marks.Open) (λ o. Then SpellsType AfterClose) more _ (λ o.
    before_token SpellsType (mark marks.Close) (λ t k. Mapped (written t) (SpellsSigned plain_number)) GoesOnType more close_not_in_type type_at _ type_reads (λ t.
    after_token (mark marks.Close) tt (some_mark marks.Close) (λ k. Mapped (written t) (SpellsSigned plain_number)) more _ (λ k.
    seen_by (written t) (SpellsSigned plain_number) more (signed_at plain_number) (signed_reads plain_number some_plain_number plain_number_is more))))

number_exact : (more : Token → Type 0) (input : List Token) → ¬ Begun IsLiteralWord input → IsExact Constants more input (signed_number_at input)
number_exact more input no_word =
    starting_so (Mapped bare (SpellsSigned literal_number)) Constants more input (signed_number_at input) some_constant (λ c w s start. to c w s) (λ c w s start. back c.ty c.negative c.number w s start)
    ((bare_reads more).exact input)
  where
    to : (c : Constant) (w : List Token) → Mapped bare (SpellsSigned literal_number) c w → Constants c w
    to c w (x, signed, same) = subst (λ e. Constants e w) same (bare_spelled x.1.0 x.0 x.1.1 w signed)

    back : (ty : LiteralType) (negative : Bool) (number : Span) (w : List Token) → SpellsConstant ty negative number w → SameStart input w
        → Mapped bare (SpellsSigned literal_number) (record { ty = ty; negative = negative; number = number }) w
    back (Written t) negative number w s start = absurd (no_word (same_begun IsLiteralWord input w start (literal_word_begun t negative number w s)))
    back ty negative number w s start = ((negative, (ty, number)), s, refl)

constant_exact : (more : Token → Type 0) (input : List Token) → IsExact Constants more input (constant_at input)
unfolding WrittenLiteral AfterOpen AfterClose
constant_exact more (tokens.Keyword keywords.Literal at ∷ rest) =
    starting_so WrittenLiteral Constants more (tokens.Keyword keywords.Literal at ∷ rest) (written_at rest) some_constant (λ c w s start. to c w s) (λ c w s start. back c.ty c.negative c.number w s start)
    ((after_token (keyword keywords.Literal) tt (some_keyword keywords.Literal) (λ k. AfterOpen) more (λ k. written_at k.1) (λ k. written_reads more)).exact (tokens.Keyword keywords.Literal at ∷ rest))
  where
    to : (c : Constant) (w : List Token) → WrittenLiteral c w → Constants c w
    to c w (k, u, v, word, (o, u1, v1, opened, (t, u2, v2, spelled, (p, u3, v3, close, (x, number, same), cut3), cut2), cut1), cut) =
        subst (λ e. Constants e w) same (u, v, (k, word), (u1, v1, (o, opened), (u2, v2, spelled, (u3, v3, (p, close), number, cut3), cut2), cut1), cut)

    back : (ty : LiteralType) (negative : Bool) (number : Span) (w : List Token) → SpellsConstant ty negative number w → SameStart (tokens.Keyword keywords.Literal at ∷ rest) w
        → WrittenLiteral (record { ty = ty; negative = negative; number = number }) w
    back (Written t) negative number w (u, v, (k, word), (u1, v1, (o, opened), (u2, v2, spelled, (u3, v3, (p, close), signed, cut3), cut2), cut1), cut) start =
        (k, u, v, word, (o, u1, v1, opened, (t, u2, v2, spelled, (p, u3, v3, close, ((negative, number), signed, refl), cut3), cut2), cut1), cut)
    back ty negative number w s start = absurd (same_begun StartsNumber (tokens.Keyword keywords.Literal at ∷ rest) w start (signed_begun negative (ty, number) w s))
constant_exact more input = number_exact more input (λ begun. begun)

-- constants with their first place

-- A value that begins with what N spells, and keeps the place of the first token.
pub placed_exact : {A B : Type 0} (N : Spelling Token A) (M : Spelling Token B) (make : Span → A → B) (more first : Token → Type 0)
    → Begins M [] → ((x : A) (w : List Token) → N x w → Begun first w)
    → ((at : Span) (x : A) (w : List Token) → BeginsAt at w → N x w → M (make at x) w)
    → ((y : B) (w : List Token) → M y w → (at : Span) × (x : A) × BeginsAt at w × N x w × (make at x ≡ y))
    → (t : Token) (rest : List Token) (answer : Answer Token (Unit {0}) A) → IsExact N more (t ∷ rest) answer
    → IsExact M more (t ∷ rest) (answer >>= λ x. Ok (make (span_of t) x.0, x.1))
placed_exact {A = A} {B = B} N M make more first some begun to back t rest answer exact =
    starting_so (Mapped (λ x. make (span_of t) x) N) M more (t ∷ rest) (answer >>= λ x. Ok (make (span_of t) x.0, x.1)) some there here
    (mapped (λ x. make (span_of t) x) N more (t ∷ rest) answer exact)
  where
    there : (y : B) (w : List Token) → Mapped (λ x. make (span_of t) x) N y w → SameStart (t ∷ rest) w → M y w
    there y [] (x, spelled, same) start = absurd (begun x [] spelled)
    there y (s ∷ w) (x, spelled, same) start = subst (λ k. M k (s ∷ w)) same (to (span_of t) x (s ∷ w) (ap span_of (sym start)) spelled)

    here : (y : B) (w : List Token) → M y w → SameStart (t ∷ rest) w → Mapped (λ x. make (span_of t) x) N y w
    here y [] m start = let parts = back y [] m in absurd (begun parts.1 [] parts.3)
    here y (s ∷ w) m start =
        let parts = back y (s ∷ w) m in
        (parts.1, parts.3, ap (λ p. make p parts.1) (ap span_of start ∙ parts.2) ∙ parts.4)

Literals : Spelling Token OperandText
Literals x w = (l : LiteralText) × (x ≡ operands.Literal l) × BeginsAt l.start w × SpellsConstant l.ty l.negative l.number w

some_literal : Begins Literals []
unfolding Literals
some_literal = by_text some_constant.value some_constant.after some_constant.spelled
  where
    by_text : (c : Constant) (w : List Token) → Constants c w → Begins Literals []
    by_text c [] spelled = absurd (constant_begun c.ty c.negative c.number [] spelled)
    by_text c (t ∷ w) spelled =
        record { value = literal (span_of t) c; after = t ∷ w; spelled = (record { start = span_of t; ty = c.ty; negative = c.negative; number = c.number }, refl, refl, spelled) }

literal_exact : (more : Token → Type 0) (input : List Token) → IsExact Literals more input (literal_at input)
unfolding Literals
literal_exact more [] = refused Literals more tt some_literal [] (λ x s far. never x s) (λ t rest e. absurd (cc))
  where
    never : (x : OperandText) → Literals x [] → ⊥
    never x (l, same, begins, spelled) = begins
literal_exact more (t ∷ rest) =
    placed_exact Constants Literals literal more StartsConstant some_literal (λ c w s. constant_begun c.ty c.negative c.number w s) to back t rest (constant_at (t ∷ rest)) (constant_exact more (t ∷ rest))
  where
    to : (at : Span) (c : Constant) (w : List Token) → BeginsAt at w → Constants c w → Literals (literal at c) w
    to at c w begins spelled = (record { start = at; ty = c.ty; negative = c.negative; number = c.number }, refl, begins, spelled)

    back : (x : OperandText) (w : List Token) → Literals x w → (at : Span) × (c : Constant) × BeginsAt at w × Constants c w × (literal at c ≡ x)
    back x w (l, same, begins, spelled) = (l.start, record { ty = l.ty; negative = l.negative; number = l.number }, begins, spelled, sym same)

-- names and default definitions

AfterName : Span → Spelling Token OperandText
AfterName name = Then (Meant (mark marks.Open)) (λ o. Then (Meant (keyword keywords.Default)) (λ d. Then (Meant (mark marks.Close)) (λ k. Nothing (operands.Default name))))

Named : Span → Spelling Token OperandText
Named name = Optional (operands.Name name) (AfterName name)

with_default : (name : Span) → Reads (AfterName name) IsOpen (λ input. mark_at marks.Open input >>= λ o. keyword_at keywords.Default o.1 >>= λ d. mark_at marks.Close d.1 >>= λ k. Ok (operands.Default name, k.1))
unfolding AfterName
with_default name =
    after_token (mark marks.Open) tt (some_mark marks.Open) (λ o. Then (Meant (keyword keywords.Default)) (λ d. Then (Meant (mark marks.Close)) (λ k. Nothing (operands.Default name)))) IsOpen _ (λ o.
    after_token (keyword keywords.Default) tt (some_keyword keywords.Default) (λ d. Then (Meant (mark marks.Close)) (λ k. Nothing (operands.Default name))) IsOpen _ (λ d.
    after_token (mark marks.Close) tt (some_mark marks.Close) (λ k. Nothing (operands.Default name)) IsOpen (λ k. Ok (operands.Default name, k.1)) (λ k.
    nothing (operands.Default name) IsOpen)))

after_name_begun : (name : Span) (x : OperandText) (w : List Token) → AfterName name x w → Begun IsOpen w
unfolding AfterName
after_name_begun name x w (o, u, v, opened, others, cut) = front_begun IsOpen u v w (meant_begun (mark marks.Open) IsOpen open_is o u opened) cut

named_exact : (name : Span) (input : List Token) → IsExact (Named name) IsOpen input (named_at name input)
unfolding Named AfterName
named_exact name (tokens.Mark marks.Open at ∷ rest) =
    taken (operands.Name name) (AfterName name) IsOpen (tokens.Mark marks.Open at) rest (named_at name (tokens.Mark marks.Open at ∷ rest)) tt ((with_default name).exact (tokens.Mark marks.Open at ∷ rest))
named_exact name input = left_out (operands.Name name) (AfterName name) IsOpen IsOpen (λ x w s. after_name_begun name x w s) input (λ begun. begun)

NamedOperand : Spelling Token OperandText
NamedOperand = Then (Meant identifier) Named

named_reads : Reads NamedOperand IsOpen (λ input. name_at input >>= λ name. named_at name.0 name.1)
unfolding NamedOperand Named AfterName
named_reads =
    after_token identifier tt some_name Named IsOpen (λ name. named_at name.0 name.1) (λ name.
    record { some = record { value = operands.Name name; after = []; spelled = inl (refl, refl) }; exact = λ input. named_exact name input })

named_spelled : (x : OperandText) (w : List Token) → NamedOperand x w → SpellsOperand x w
unfolding NamedOperand Named AfterName
named_spelled x w (name, u, v, first, inl (same, empty), cut) =
    subst (λ k. SpellsOperand k w) (sym same) (subst (λ l. Meant identifier name l) (sym (cut ∙ ap (λ l. u ++ l) empty ∙ append-nil u)) first)
named_spelled x w (name, u, v, first, inr (o, u1, v1, opened, (d, u2, v2, word_d, (k, u3, v3, close, (same, empty), cut3), cut2), cut1), cut) =
    subst (λ k. SpellsOperand k w) (sym same)
    (u, v, first, (u1, v1, (o, opened), (u2, v2, (d, word_d), (k, subst (λ l. Meant (mark marks.Close) k l) (sym (cut3 ∙ ap (λ l. u3 ++ l) empty ∙ append-nil u3)) close), cut2), cut1), cut)

pub name_begun : (name : Span) (w : List Token) → Meant identifier name w → Begun IsName w
name_begun name w first = meant_begun identifier IsName name_is name w first

-- operands

pub operand_begun : (x : OperandText) (w : List Token) → SpellsOperand x w → Begun StartsOperand w
operand_begun (operands.Name name) w s = widen_begun IsName StartsOperand name_starts w (name_begun name w s)
operand_begun (operands.Default name) w (u, v, first, others, cut) = front_begun StartsOperand u v w (widen_begun IsName StartsOperand name_starts u (name_begun name u first)) cut
operand_begun (operands.Literal l) w (begins, s) = widen_begun StartsConstant StartsOperand constant_starts w (constant_begun l.ty l.negative l.number w s)

pub some_operand : Begins SpellsOperand []
unfolding NamedOperand
some_operand = record { value = named_reads.some.value; after = named_reads.some.after; spelled = named_spelled named_reads.some.value named_reads.some.after named_reads.some.spelled }

name_exact : (input : List Token) → ¬ Begun StartsConstant input → (answer : Answer Token (Unit {0}) OperandText) → IsExact NamedOperand IsOpen input answer → IsExact SpellsOperand IsOpen input answer
unfolding NamedOperand Named AfterName
name_exact input no_constant answer exact = starting_so NamedOperand SpellsOperand IsOpen input answer some_operand (λ x w s start. named_spelled x w s) back exact
  where
    back : (x : OperandText) (w : List Token) → SpellsOperand x w → SameStart input w → NamedOperand x w
    back (operands.Name name) w s start = (name, w, [], s, inl (refl, refl), sym (append-nil w))
    back (operands.Default name) w (u, v, first, (u1, v1, (o, opened), (u2, v2, (d, word_d), (k, close), cut2), cut1), cut) start =
        (name, u, v, first, inr (o, u1, v1, opened, (d, u2, v2, word_d, (k, v2, [], close, (refl, refl), sym (append-nil v2)), cut2), cut1), cut)
    back (operands.Literal l) w (begins, s) start = absurd (no_constant (same_begun StartsConstant input w start (constant_begun l.ty l.negative l.number w s)))

other_exact : (input : List Token) → ¬ Begun IsName input → IsExact SpellsOperand IsOpen input (literal_at input)
unfolding Literals
other_exact input no_name = starting_so Literals SpellsOperand IsOpen input (literal_at input) some_operand to back (literal_exact IsOpen input)
  where
    to : (x : OperandText) (w : List Token) → Literals x w → SameStart input w → SpellsOperand x w
    to x w (l, same, begins, s) start = subst (λ k. SpellsOperand k w) (sym same) (begins, s)

    back : (x : OperandText) (w : List Token) → SpellsOperand x w → SameStart input w → Literals x w
    back (operands.Name name) w s start = absurd (no_name (same_begun IsName input w start (name_begun name w s)))
    back (operands.Default name) w (u, v, first, others, cut) start = absurd (no_name (same_begun IsName input w start (front_begun IsName u v w (name_begun name u first) cut)))
    back (operands.Literal l) w (begins, s) start = (l, refl, begins, s)

pub operand_exact : (input : List Token) → IsExact SpellsOperand IsOpen input (operand_at input)
operand_exact (tokens.Identifier name ∷ rest) = name_exact (tokens.Identifier name ∷ rest) (λ begun. begun) (named_at name rest) (named_reads.exact (tokens.Identifier name ∷ rest))
operand_exact (tokens.Ssa name ∷ rest) = name_exact (tokens.Ssa name ∷ rest) (λ begun. begun) (named_at name rest) (named_reads.exact (tokens.Ssa name ∷ rest))
operand_exact input = other_exact input (λ begun. begun)

-- Operands.
pub operand_reads : Reads SpellsOperand IsOpen operand_at
operand_reads = record { some = some_operand; exact = λ input. operand_exact input }
