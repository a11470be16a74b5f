-- The printed texts of constants are read as these.
use Rattle.std.proofs.Common.{◌≡◌, ℕ, suc, ◌<◌, ◌≤◌, ◌^◌, Bool, true, false, cond, Some, None, List, []}
use Rattle.std.proofs.Common.{◌∷◌, ◌++◌, length, codes, lit≤, refl, sym, ap, ◌∙◌, subst, arith}
use Rattle.std.specs.Prelude.{ℤ, pos, negsuc, neg_ℤ, nat_lt}
use Rattle.std.specs.Fmt.{decimal, signed_decimal}
use Rattle.std.specs.Int.RustNames.{unsigned_abs}
use Rattle.std.specs.List.{list_all}
use Rattle.std.specs.Option.{option_map_or}
use Rattle.std.proofs.lemmas.Bool.{and_parts, ltb-true}
use Rattle.std.proofs.lemmas.List.{append_assoc, append-nil}
use Rattle.pm_ops.specs.declared.code.Code.TheVariants as operations
use Rattle.pm_wide.specs.Types.{Word, value, word, in_range, same_type, int_type, unsigned_int_type, long_type, unsigned_long_type}
use Rattle.pm_wide.specs.declared.operand.Operand.TheVariants as operands
use Rattle.pm_wide.proofs.Results.{same_type_is}
use Rattle.pm_wide.proofs.Values.{width_positive, width_small}
use Rattle.pm_wide.proofs.Words.{word-value, value_in_range}
use Rattle.pm_wide.proofs.Wrapping.{small_value}
use Rattle.gim_ast.specs.declared.function.Function.{Function}
use Rattle.lexing.specs.Numbers.{number_after, leading_digits}
use Rattle.gim_printer.specs.Printing.{type_text, literal_text, suffix_of, constant_text}
use Rattle.gim_ast.specs.WellFormed.{is_type_of, is_word}
use Rattle.lexing.proofs.NumberLemmas.{number_text_is_digits, front_digits}
use Rattle.gim_text.specs.declared.token.Keyword.TheVariants as keywords
use Rattle.gim_text.specs.declared.token.Mark.TheVariants as marks
use Rattle.gim_text.specs.declared.token.NumberKind.{NumberKind}
use Rattle.gim_text.specs.declared.token.NumberKind.TheVariants as kinds
use Rattle.pm_places.specs.declared.span.Span.{Span}
use Rattle.gim_text.specs.declared.token.Token.{Token}
use Rattle.gim_text.specs.declared.token.Token.TheVariants as tokens
use Rattle.gim_text.specs.declared.tree.LiteralText.{LiteralText}
use Rattle.gim_text.specs.declared.tree.LiteralType.{LiteralType}
use Rattle.gim_text.specs.declared.tree.LiteralType.TheVariants as types
use Rattle.gim_text.specs.declared.tree.OperandText.{OperandText}
use Rattle.gim_text.specs.declared.tree.OperandText.TheVariants as trees
use Rattle.gim_text.specs.Literals.{signed, literal_type, word_by, literal_word}
use Rattle.gim_text.specs.Meanings.{span_of}
use Rattle.pm_places.specs.Spans.{text_of, place}
use Rattle.grammar.specs.Spelling.{Meant}
use Rattle.gim_lexer.specs.Numbers.{suffix_kind}
use Rattle.lexing.specs.Bytes.{is_suffix_letter}
use Rattle.gim_words.specs.Tokens.{plain_number}
use Rattle.gim_statements.specs.Grammar.{◌▸◌, AKeyword, BeginsAt, Signed, SpellsConstant, SpellsOperand, MayStandUnder}
use Rattle.gim_statements.specs.Words.{literal_number}
use Rattle.gim_round_trip.proofs.text.Prints.{Prints, word_end, joined, seen, blanks_before}
use Rattle.gim_round_trip.proofs.tree.Writes.{WritesOperand}
use Rattle.gim_round_trip.proofs.text.Numbers.{NumberText, decimal_writes, written_number_prints}
use Rattle.gim_round_trip.proofs.text.Tokens.{keyword_there, mark_there, a_mark_prints}
use Rattle.gim_round_trip.proofs.text.TypeTexts.{type_text_prints}

-- ---- numbers with a sign

-- the places of a number and of what it begins with, which is its sign if it has one
record SignedNumber : Type 0 where
  start : Span
  negative : Bool
  number : Span

abbrev size_there : List ℕ → SignedNumber → ℤ
size_there source x = signed x.negative (number_after 0 (leading_digits (text_of source x.number)))

-- a suffix, with what it makes of a number
record IsSuffix (suffix : List ℕ) (kind : NumberKind) : Type 0 where
  letters : list_all is_suffix_letter suffix ≡ true
  kind_is : suffix_kind suffix ≡ kind

number_text_of : (n : ℕ) (suffix : List ℕ) (kind : NumberKind) → n < 10 ^ 64 → IsSuffix suffix kind → NumberText (decimal n) suffix kind
number_text_of n suffix kind small h = record { number = (decimal_writes n small).text; letters = h.letters; kind_is = h.kind_is }

number_read : (n : ℕ) (suffix bs : List ℕ) (kind : NumberKind) → n < 10 ^ 64 → IsSuffix suffix kind
    → bs ≡ decimal n ++ suffix → number_after 0 (leading_digits bs) ≡ n
number_read n suffix bs kind small h e =
    let w = decimal_writes n small in
    ap (λ text. number_after 0 (leading_digits text)) e
    ∙ ap (number_after 0) (front_digits (decimal n) suffix (number_text_is_digits (decimal n) w.text) h.letters)
    ∙ w.number

-- the tokens begin where the first one stands
begins_there : (t : Token) (M : List Token → Type 0) (w : List Token) → ((λ u. u ≡ t ∷ []) ▸ M) w → BeginsAt (span_of t) w
begins_there t M w (u, v, first, rest, cut) = subst (BeginsAt (span_of t)) (sym (cut ∙ ap (λ a. a ++ v) first)) refl

after_minus : (at : Span) (M : List Token → Type 0) (w : List Token) → ((λ u. u ≡ tokens.Mark marks.Minus at ∷ []) ▸ M) w → Signed true M w
after_minus at M w (u, v, first, rest, cut) = (u, v, (at, (tokens.Mark marks.Minus at, refl, first)), rest, cut)

after_literal : (at : Span) (M : List Token → Type 0) (w : List Token)
    → ((λ u. u ≡ tokens.Keyword keywords.Literal at ∷ []) ▸ M) w → (AKeyword keywords.Literal ▸ M) w
after_literal at M w (u, v, first, rest, cut) = (u, v, (at, (tokens.Keyword keywords.Literal at, refl, first)), rest, cut)

-- A whole number and a suffix, where M is spelled by a number of that kind.
signed_prints : (source : List ℕ) (z : ℤ) (suffix : List ℕ) (kind : NumberKind) (M : Span → List Token → Type 0)
    → unsigned_abs z < 10 ^ 64 → IsSuffix suffix kind
    → ((span : Span) → M span (tokens.Number kind span ∷ []))
    → Prints source word_end (λ (x : SignedNumber) (w : List Token). BeginsAt x.start w
    × Signed x.negative (M x.number) w) (λ x. size_there source x ≡ z) (signed_decimal z ++ suffix)
signed_prints source (pos n) suffix kind M small h means =
    let size = length (decimal n ++ suffix) in
    written_number_prints source (decimal n) suffix kind
    (λ at. record { start = place at size; negative = false; number = place at size })
    (number_text_of n suffix kind small h)
    (λ at. (refl, means (place at size))) (λ at e. ap pos (number_read n suffix (text_of source (place at size)) kind small h e))
signed_prints source (negsuc n) suffix kind M small h means =
    let size = length (decimal (suc n) ++ suffix) in
    let number : Prints source word_end M (λ (at : Span). number_after 0 (leading_digits (text_of source at)) ≡ suc n)
    (decimal (suc n) ++ suffix) =
    written_number_prints source (decimal (suc n)) suffix kind (λ at. place at size) (number_text_of (suc n) suffix kind small h)
    (λ at. means (place at size)) (λ at e. number_read (suc n) suffix (text_of source (place at size)) kind small h e) in
    seen (joined (mark_there source marks.Minus refl) (λ rest. tt) number)
    (λ (x : Span × Span). record { start = x.0; negative = true; number = x.1 })
    (λ x w is spelled. (begins_there (tokens.Mark marks.Minus x.0) (M x.1) w spelled, after_minus x.0 (M x.1) w spelled))
    (λ x is. ap (λ m. neg_ℤ (pos m)) is.1)

-- ---- words

-- a word of its type: its value is one of the type, and the word of that value is the word
record IsHeld (w : Word) : Type 0 where
  type : is_type_of w.ty ≡ true
  range : in_range w.ty (value w) ≡ true
  same : word w.ty (value w) ≡ w
  small : unsigned_abs (value w) < 10 ^ 64

word_is_held : (w : Word) → is_word w ≡ true → IsHeld w
word_is_held w h =
    let p = and_parts (is_type_of w.ty) (nat_lt w.bits (2 ^ w.ty.width)) h in
    let below : w.bits < 2 ^ w.ty.width = ltb-true w.bits (2 ^ w.ty.width) p.1 in
    let range : in_range w.ty (value w) ≡ true = value_in_range w.ty w.bits (width_positive w.ty p.0) below in
    let few : unsigned_abs (value w) < 2 ^ 128 = small_value w.ty (value w) (width_small w.ty p.0) range in
    record {
      type = p.0;
      range = range;
      same = ap (λ n. record { bits = n; ty = w.ty }) (word-value w.ty w.bits below);
      small = below_wide (unsigned_abs (value w)) few;
    } where
      below_wide : (n : ℕ) → n < 2 ^ 128 → n < 10 ^ 64
      below_wide n small = let more : 2 ^ 128 ≤ 10 ^ 64 = lit≤ tt in omega (arith, small, more)

word_found : (w : Word) (ty : LiteralType) → IsHeld w → literal_type ty (value w) ≡ w.ty → word_by ty (value w) ≡ Some w
word_found w ty h is =
    ap (λ t. cond (in_range t (value w)) (Some (word t (value w))) None) is
    ∙ ap (λ b. cond b (Some (word w.ty (value w))) None) h.range ∙ ap Some h.same

literal_is : (source : List ℕ) (w : Word) (literal : LiteralText) → IsHeld w → literal_type literal.ty (value w) ≡ w.ty
    → signed literal.negative (number_after 0 (leading_digits (text_of source literal.number))) ≡ value w
    → literal_word source literal ≡ Some w
unfolding literal_word
literal_is source w literal h is size = ap (word_by literal.ty) size ∙ word_found w literal.ty h is

-- ---- constants of the four types that show by a suffix

short_prints : (source : List ℕ) (f : Function) (w : Word) (suffix : List ℕ) (kind : NumberKind) (ty : LiteralType)
    → IsHeld w → IsSuffix suffix kind
    → ((span : Span) → literal_number (tokens.Number kind span) ≡ Some (ty, span))
    → ((negative : Bool) (number : Span) (v : List Token) → Signed negative (Meant literal_number (ty, number)) v
    → SpellsConstant ty negative number v)
    → literal_type ty (value w) ≡ w.ty
    → Prints source word_end SpellsOperand (λ (tree : OperandText). WritesOperand source f tree (operands.Const w))
    (signed_decimal (value w) ++ suffix)
short_prints source f w suffix kind ty h is_suffix means spells is =
    seen (signed_prints source (value w) suffix kind (λ number. Meant literal_number (ty, number)) h.small is_suffix
    (λ span. (tokens.Number kind span, means span, refl)))
    (λ (x : SignedNumber). trees.Literal (record { start = x.start; ty = ty; negative = x.negative; number = x.number }))
    (λ x v size spelled. (spelled.0, spells x.negative x.number v spelled.1))
    (λ x size. literal_is source w (record { start = x.start; ty = ty; negative = x.negative; number = x.number }) h is size)

-- ---- constants with their type written out

literal_text_is : (w : Word) → literal_text w ≡ codes "_Literal (" ++ (type_text w.ty ++ (codes ") " ++ signed_decimal (value w)))
literal_text_is w =
    append_assoc (codes "_Literal (" ++ type_text w.ty) (codes ") ") (signed_decimal (value w))
    ∙ append_assoc (codes "_Literal (") (type_text w.ty) (codes ") " ++ signed_decimal (value w))

plain_suffix : IsSuffix [] kinds.Plain
plain_suffix = record { letters = refl; kind_is = refl }

plain_prints : (source : List ℕ) (w : Word) → IsHeld w
    → Prints source word_end (λ (x : SignedNumber). Signed x.negative (Meant plain_number x.number))
    (λ x. size_there source x ≡ value w) (signed_decimal (value w))
plain_prints source w h =
    seen (subst (Prints source word_end (λ (x : SignedNumber) (v : List Token). BeginsAt x.start v
    × Signed x.negative (Meant plain_number x.number) v) (λ x. size_there source x ≡ value w))
    (append-nil (signed_decimal (value w)))
    (signed_prints source (value w) [] kinds.Plain (λ number. Meant plain_number number) h.small plain_suffix
    (λ span. (tokens.Number kinds.Plain span, refl, refl))))
    (λ x. x) (λ x v size spelled. spelled.1) (λ x size. size)

-- under a unary minus too
pub literal_prints : (source : List ℕ) (f : Function) (w : Word) → is_word w ≡ true
    → Prints source word_end (λ (tree : OperandText) (v : List Token). MayStandUnder operations.Negate tree
    × SpellsOperand tree v) (λ tree. WritesOperand source f tree (operands.Const w)) (literal_text w)
literal_prints source f w holds =
    let h = word_is_held w holds in
    let closed = joined (a_mark_prints source marks.Close refl) (λ rest. tt) (blanks_before (codes " ") refl (plain_prints source w h)) in
    let typed = joined (type_text_prints source w.ty h.type) (λ rest. refl) closed in
    let opened = joined (blanks_before (codes " ") refl (a_mark_prints source marks.Open refl)) (λ rest. tt) typed in
    subst (Prints source word_end (λ (tree : OperandText) (v : List Token). MayStandUnder operations.Negate tree
    × SpellsOperand tree v) (λ tree. WritesOperand source f tree (operands.Const w))) (sym (literal_text_is w))
    (seen (joined (keyword_there source keywords.Literal) (λ rest. refl) opened)
    (λ x. trees.Literal (record { start = x.0; ty = types.Written w.ty; negative = x.1.1.1.1.negative; number = x.1.1.1.1.number }))
    (λ x v is spelled. (tt, (begins_there (tokens.Keyword keywords.Literal x.0) _ v spelled, after_literal x.0 _ v spelled)))
    (λ x is. literal_is source w (record {
      start = x.0;
      ty = types.Written w.ty;
      negative = x.1.1.1.1.negative;
      number = x.1.1.1.1.number;
    }) h refl is.1.1.1.1))

-- ---- constants

pub constant_prints : (source : List ℕ) (f : Function) (w : Word) → is_word w ≡ true
    → Prints source word_end SpellsOperand (λ (tree : OperandText). WritesOperand source f tree (operands.Const w)) (constant_text w)
unfolding constant_text suffix_of
constant_prints source f w holds =
    by (same_type w.ty int_type) (same_type w.ty unsigned_int_type) (same_type w.ty long_type) (same_type w.ty unsigned_long_type)
    (same_type_is w.ty int_type) (same_type_is w.ty unsigned_int_type) (same_type_is w.ty long_type)
    (same_type_is w.ty unsigned_long_type) where
      held : IsHeld w
      held = word_is_held w holds

      by : (a b c d : Bool) → (a ≡ true → w.ty ≡ int_type) → (b ≡ true → w.ty ≡ unsigned_int_type)
          → (c ≡ true → w.ty ≡ long_type) → (d ≡ true → w.ty ≡ unsigned_long_type)
          → Prints source word_end SpellsOperand (λ (tree : OperandText). WritesOperand source f tree (operands.Const w))
          (option_map_or (λ suffix. signed_decimal (value w) ++ suffix)
          (cond a (Some []) (cond b (Some (codes "u")) (cond c (Some (codes "l")) (cond d (Some (codes "ul")) None))))
          (literal_text w))
      by true b c d p q r s =
          let fits : in_range int_type (value w) ≡ true = subst (λ t. in_range t (value w) ≡ true) (p refl) held.range in
          short_prints source f w [] kinds.Plain types.Plain held plain_suffix (λ span. refl) (λ negative number v h. h)
          (ap (λ t. cond t int_type long_type) fits ∙ sym (p refl))
      by false true c d p q r s =
          let fits : in_range unsigned_int_type (value w) ≡ true = subst (λ t. in_range t (value w) ≡ true) (q refl) held.range in
          short_prints source f w (codes "u") kinds.Unsigned types.Unsigned held
          (record { letters = refl; kind_is = refl }) (λ span. refl) (λ negative number v h. h)
          (ap (λ t. cond t unsigned_int_type unsigned_long_type) fits ∙ sym (q refl))
      by false false true d p q r s =
          short_prints source f w (codes "l") kinds.Long types.Long held (record { letters = refl; kind_is = refl })
          (λ span. refl) (λ negative number v h. h) (sym (r refl))
      by false false false true p q r s =
          short_prints source f w (codes "ul") kinds.UnsignedLong types.UnsignedLong held
          (record { letters = refl; kind_is = refl }) (λ span. refl) (λ negative number v h. h) (sym (s refl))
      by false false false false p q r s =
          seen (literal_prints source f w holds) (λ tree. tree) (λ tree v is spelled. spelled.1) (λ tree is. is)
