-- Tokens that mean their texts spell only trees that are written and have their places in the source, and there are no more tokens
-- than bytes.
use Rattle.std.proofs.Common.{◌≡◌, ℕ, zero, suc, ◌+◌, ◌<◌, ◌≤◌, ◌^◌, Bool, true, false, ◌&&◌, cond, Option}
use Rattle.std.proofs.Common.{Some, None, option_map, List, [], ◌∷◌, ◌++◌, map, length, slice_index_or}
use Rattle.std.proofs.Common.{refl, sym, ap, subst, ◌∙◌, inl, inr, append_assoc, length-append, arith}
use Rattle.std.specs.Prelude.{nat_le}
use Rattle.std.specs.List.{flat_map, filter_map, cons_option, list_all, AllByRecursion}
use Rattle.std.proofs.lemmas.Bool.{and_parts, and_from, le-leb, false≢true}
use Rattle.std.proofs.lemmas.List.Elements.{filter_map-append}
use Rattle.std.proofs.lemmas.List.Folds.{list_all-append}
use Rattle.grammar.specs.Spelling.{Meant, Many}
use Rattle.pm_wide.specs.Types.{Ty}
use Rattle.pm_ops.specs.declared.code.Code.{Code}
use Rattle.gim_ast.specs.Identifiers.{is_identifier, is_block_word}
use Rattle.lexing.specs.Numbers.{is_number_text}
use Rattle.gim_ast.specs.WellFormed.{is_type_of}
use Rattle.gim_ast.proofs.ReadableLemmas.{all_left, all_right}
use Rattle.gim_text.specs.declared.token.Keyword.{Keyword}
use Rattle.gim_text.specs.declared.token.Keyword.TheVariants as keywords
use Rattle.gim_text.specs.declared.token.Mark.{Mark}
use Rattle.gim_text.specs.declared.token.Mark.TheVariants as marks
use Rattle.gim_text.specs.declared.token.NumberKind.TheVariants as kinds
use Rattle.pm_places.specs.declared.span.Span.{Span}
use Rattle.gim_text.specs.declared.token.Token.{Token}
use Rattle.gim_text.specs.declared.token.Token.TheVariants as tokens
use Rattle.gim_text.specs.declared.token.TypeWord.{TypeWord}
use Rattle.gim_text.specs.declared.tree.ArgText.{ArgText}
use Rattle.gim_text.specs.declared.tree.BlockText.{BlockText}
use Rattle.gim_text.specs.declared.tree.DeclText.{DeclText}
use Rattle.gim_text.specs.declared.tree.EndText.{EndText}
use Rattle.gim_text.specs.declared.tree.EndText.TheVariants as ends
use Rattle.gim_text.specs.declared.tree.FunctionText.{FunctionText}
use Rattle.gim_text.specs.declared.tree.ItemText.{ItemText}
use Rattle.gim_text.specs.declared.tree.ItemText.TheVariants as items
use Rattle.gim_text.specs.declared.tree.LiteralType.{LiteralType}
use Rattle.gim_text.specs.declared.tree.LiteralType.TheVariants as types
use Rattle.gim_text.specs.declared.tree.OperandText.{OperandText}
use Rattle.gim_text.specs.declared.tree.OperandText.TheVariants as operands
use Rattle.gim_text.specs.declared.tree.RightForm.{RightForm}
use Rattle.gim_text.specs.declared.tree.RightForm.TheVariants as rights
use Rattle.gim_text.specs.declared.tree.RightText.{RightText}
use Rattle.gim_text.specs.declared.occurrence.Occurrence.{Occurrence}
use Rattle.gim_text.specs.declared.occurrence.Occurrence.TheVariants as occurs
use Rattle.gim_text.specs.Meanings.{same_mark, same_keyword, mark, keyword, identifier, block_word, span_of}
use Rattle.gim_text.specs.Occurrences.{place_of, occurrence_of_parameter, occurrence_of_local}
use Rattle.gim_text.specs.Occurrences.{occurrence_of_operand, occurrences_of_argument, occurrences_of_right}
use Rattle.gim_text.specs.Occurrences.{occurrences_of_item, occurrences_of_end, occurrences_of_block}
use Rattle.gim_text.specs.Occurrences.{occurrences_of, operand_at}
use Rattle.gim_text.specs.Texts.{block_digits}
use Rattle.pm_places.specs.Spans.{text_of}
use Rattle.gim_lexer.specs.Meant.{MeansItsText, AllMeanTheirTexts}
use Rattle.gim_lexer.specs.Spelled.{AllStandIn, InOrder}
use Rattle.gim_words.specs.Tokens.{plain_number}
use Rattle.gim_words.specs.Types.{SpellsType, forms}
use Rattle.gim_statements.specs.Grammar.{◌▸◌, BeginsAt, Signed, SpellsConstant, SpellsOperand, SpellsForm, SpellsRight}
use Rattle.gim_statements.specs.Grammar.{SpellsArg, SpellsFurtherArg, SpellsArgs, SpellsItem, SpellsJump, SpellsEnd}
use Rattle.gim_statements.specs.Grammar.{SpellsEndIfAny, SpellsBlock}
use Rattle.gim_statements.specs.Words.{literal_number}
use Rattle.gim_syntax.specs.Grammar.{SpellsTyped, SpellsDecl, SpellsFurther, SpellsParams, SpellsHead}
use Rattle.gim_syntax.specs.Grammar.{SpellsParamsBetween, SpellsBody, SpellsFunction, SpellsFile}
use Rattle.gim_making.specs.Written.{has_written_type, type_is_written, is_written, IsWritten}

-- ---- the number of tokens

-- Each token takes a byte at least.
pub few_tokens : (from to : ℕ) (tokens : List Token) → InOrder from tokens to → from + length tokens ≤ to
few_tokens from to [] h = omega (arith, h)
few_tokens from to (t ∷ rest) h = let later = few_tokens (span_of t).to to rest h.2 in omega (arith, h.0, h.1, later)

-- ---- places in a source

-- the place is in a source of this length
abbrev pub stands_in : ℕ → Span → Bool
stands_in n at = nat_le at.from at.to && nat_le at.to n

-- what occurs is, and a constant from its first token on
abbrev pub occurrence_stands : ℕ → Occurrence → Bool
occurrence_stands n (occurs.Constant literal) = stands_in n literal.start && stands_in n literal.number
occurrence_stands n o = stands_in n (place_of o)

abbrev is_sure : List ℕ → Occurrence → Bool
is_sure source o = is_written source o && occurrence_stands (length source) o

-- right sides begin in it
abbrev pub item_stands : ℕ → ItemText → Bool
item_stands n (items.Phi name args) = true
item_stands n (items.Stmt name right) = stands_in n right.start

abbrev pub block_stands : ℕ → BlockText → Bool
block_stands n block = stands_in n block.head && list_all (item_stands n) block.items

-- each place of a tree is in a source of this length
pub record IsPlaced (n : ℕ) (tree : FunctionText) : Type 0 where
  pub name : stands_in n tree.name ≡ true
  pub close : stands_in n tree.close ≡ true
  pub blocks : list_all (block_stands n) tree.blocks ≡ true
  pub occurrences : list_all (occurrence_stands n) (occurrences_of tree) ≡ true

-- ---- parts of a list of tokens

-- the token means its text, and stands in the source
pub record IsSure (source : List ℕ) (t : Token) : Type 0 where
  pub means : MeansItsText source t
  pub placed : stands_in (length source) (span_of t) ≡ true

abbrev pub AllSure : List ℕ → List Token → Type 0
AllSure source tokens = AllByRecursion (IsSure source) tokens

pub all_sure : (source : List ℕ) (tokens : List Token) → AllMeanTheirTexts source tokens → AllStandIn source tokens → AllSure source tokens
all_sure source [] means stand = tt
all_sure source (t ∷ tokens) means stand =
    let order : nat_le (span_of t).from (span_of t).to ≡ true =
    le_true (span_of t).from (span_of t).to (omega (arith, stand.0.has_bytes)) in (
      record {
        means = means.0;
        placed = and_from (nat_le (span_of t).from (span_of t).to)
            (nat_le (span_of t).to (length source)) order (le_true (span_of t).to (length source) stand.0.within);
      },
      all_sure source tokens means.1 stand.1,
    )
  where
    le_true : (a b : ℕ) → a ≤ b → nat_le a b ≡ true
    le_true a b h = le-leb a b h

sure_left : (source : List ℕ) (u v w : List Token) → AllSure source w → w ≡ u ++ v → AllSure source u
sure_left source u v w sure cut = all_left (IsSure source) u v (subst (AllByRecursion (IsSure source)) cut sure)

sure_right : (source : List ℕ) (u v w : List Token) → AllSure source w → w ≡ u ++ v → AllSure source v
sure_right source u v w sure cut = all_right (IsSure source) u v (subst (AllByRecursion (IsSure source)) cut sure)

sure_alone : (source : List ℕ) (t : Token) (w : List Token) → AllSure source w → w ≡ t ∷ [] → IsSure source t
sure_alone source t w sure alone = (subst (AllByRecursion (IsSure source)) alone sure).0

-- ---- what a part of the grammar shows

-- The test passes where tokens are spelled so.
abbrev Shows : List ℕ → Bool → (List Token → Type 0) → Type 0
Shows source test part = (w : List Token) → AllSure source w → part w → test ≡ true

shows_earlier : {source : List ℕ} {test : Bool} {first second : List Token → Type 0} → Shows source test first
    → Shows source test (first ▸ second)
shows_earlier {source = source} shown w sure (u, v, here, there, cut) = shown u (sure_left source u v w sure cut) here

shows_later : {source : List ℕ} {test : Bool} {first second : List Token → Type 0} → Shows source test second
    → Shows source test (first ▸ second)
shows_later {source = source} shown w sure (u, v, here, there, cut) = shown v (sure_right source u v w sure cut) there

shows_both : {source : List ℕ} {a b : Bool} {first second : List Token → Type 0} → Shows source a first
    → Shows source b second → Shows source (a && b) (first ▸ second)
shows_both {source = source} {a = a} {b = b} left right w sure (u, v, here, there, cut) =
    and_from a b (left u (sure_left source u v w sure cut) here) (right v (sure_right source u v w sure cut) there)

shows_many : {X : Type 0} (source : List ℕ) (p : X → Bool) (N : X → List Token → Type 0)
    → ((x : X) → Shows source (p x) (N x)) → (xs : List X) → Shows source (list_all p xs) (Many N xs)
shows_many source p N each [] w sure h = refl
shows_many source p N each (x ∷ xs) w sure h = shows_both (each x) (shows_many source p N each xs) w sure h

-- ---- what a part of the grammar yields

-- This is written and placed as it should be, and has no more operands than there are tokens.
record Yields (source : List ℕ) (os : List Occurrence) (w : List Token) : Type 0 where
  sure : list_all (is_sure source) os ≡ true
  few : length (filter_map operand_at os) ≤ length w

abbrev Gives : List ℕ → List Occurrence → (List Token → Type 0) → Type 0
Gives source os part = (w : List Token) → AllSure source w → part w → Yields source os w

yields_nothing : (source : List ℕ) (w : List Token) → Yields source [] w
yields_nothing source w = record { sure = refl; few = omega arith }

gives_earlier : {source : List ℕ} {os : List Occurrence} {first second : List Token → Type 0} → Gives source os first
    → Gives source os (first ▸ second)
gives_earlier {source = source} given w sure (u, v, here, there, cut) =
    let y = given u (sure_left source u v w sure cut) here in
    record { sure = y.sure; few = omega (arith, y.few, ap length cut, length-append u v) }

gives_later : {source : List ℕ} {os : List Occurrence} {first second : List Token → Type 0} → Gives source os second
    → Gives source os (first ▸ second)
gives_later {source = source} given w sure (u, v, here, there, cut) =
    let y = given v (sure_right source u v w sure cut) there in
    record { sure = y.sure; few = omega (arith, y.few, ap length cut, length-append u v) }

gives_both : {source : List ℕ} (xs ys : List Occurrence) {first second : List Token → Type 0} → Gives source xs first
    → Gives source ys second → Gives source (xs ++ ys) (first ▸ second)
gives_both {source = source} xs ys left right w sure (u, v, here, there, cut) =
    let x = left u (sure_left source u v w sure cut) here in
    let y = right v (sure_right source u v w sure cut) there in
    let whole = ap length (filter_map-append operand_at xs ys) in
    let parts = length-append (filter_map operand_at xs) (filter_map operand_at ys) in
    record {
      sure = list_all-append (is_sure source) xs ys ∙ and_from (list_all (is_sure source) xs) (list_all (is_sure source) ys) x.sure y.sure;
      few = omega (arith, x.few, y.few, whole, parts, ap length cut, length-append u v);
    }

gives_many : {X : Type 0} (source : List ℕ) (f : X → List Occurrence) (N : X → List Token → Type 0)
    → ((x : X) → Gives source (f x) (N x)) → (xs : List X) → Gives source (flat_map f xs) (Many N xs)
gives_many source f N each [] w sure h = yields_nothing source w
gives_many source f N each (x ∷ xs) w sure h = gives_both (f x) (flat_map f xs) (each x) (gives_many source f N each xs) w sure h

gives_each : {X : Type 0} (source : List ℕ) (f : X → Occurrence) (N : X → List Token → Type 0)
    → ((x : X) → Gives source (f x ∷ []) (N x)) → (xs : List X) → Gives source (map f xs) (Many N xs)
gives_each source f N each [] w sure h = yields_nothing source w
gives_each source f N each (x ∷ xs) w sure h = gives_both (f x ∷ []) (map f xs) (each x) (gives_each source f N each xs) w sure h

at_most_one : {X : Type 0} (o : Option X) → length (cons_option o []) ≤ 1
at_most_one None = omega arith
at_most_one (Some x) = omega arith

gives_one : (source : List ℕ) (o : Occurrence) (part : List Token → Type 0) → Shows source (is_sure source o) part
    → ((w : List Token) → part w → 1 ≤ length w) → Gives source (o ∷ []) part
gives_one source o part shown some w sure h = record {
  sure = and_from (is_sure source o) true (shown w sure h) refl;
  few = omega (arith, at_most_one (operand_at o), some w h);
}

-- ---- the places of tokens

some_is : {X : Type 0} (x y : X) → Some x ≡ Some y → x ≡ y
some_is x y e = cc

identifier_place : (t : Token) (at : Span) → identifier t ≡ Some at → span_of t ≡ at
identifier_place (tokens.Identifier found) at e = some_is found at e
identifier_place (tokens.Ssa found) at e = some_is found at e
identifier_place t at e = absurd cc

block_word_place : (t : Token) (at : Span) → block_word t ≡ Some at → span_of t ≡ at
block_word_place (tokens.BlockWord found) at e = some_is found at e
block_word_place t at e = absurd cc

plain_number_place : (t : Token) (at : Span) → plain_number t ≡ Some at → span_of t ≡ at
plain_number_place (tokens.Number kinds.Plain found) at e = some_is found at e
plain_number_place t at e = absurd cc

literal_number_place : (t : Token) (ty : LiteralType) (at : Span) → literal_number t ≡ Some (ty, at) → span_of t ≡ at
literal_number_place (tokens.Number kinds.Plain found) ty at e =
    ap (λ (p : LiteralType × Span). p.1) (some_is (types.Plain, found) (ty, at) e)
literal_number_place (tokens.Number kinds.Unsigned found) ty at e =
    ap (λ (p : LiteralType × Span). p.1) (some_is (types.Unsigned, found) (ty, at) e)
literal_number_place (tokens.Number kinds.Long found) ty at e =
    ap (λ (p : LiteralType × Span). p.1) (some_is (types.Long, found) (ty, at) e)
literal_number_place (tokens.Number kinds.UnsignedLong found) ty at e =
    ap (λ (p : LiteralType × Span). p.1) (some_is (types.UnsignedLong, found) (ty, at) e)
literal_number_place t ty at e = absurd cc

where_same : (b : Bool) (found at : Span) → cond b (Some found) None ≡ Some at → found ≡ at
where_same true found at e = some_is found at e
where_same false found at e = absurd cc

mark_place : (m : Mark) (t : Token) (at : Span) → mark m t ≡ Some at → span_of t ≡ at
mark_place m (tokens.Mark other found) at e = where_same (same_mark other m) found at e
mark_place m t at e = absurd cc

keyword_place : (k : Keyword) (t : Token) (at : Span) → keyword k t ≡ Some at → span_of t ≡ at
keyword_place k (tokens.Keyword other found) at e = where_same (same_keyword other k) found at e
keyword_place k t at e = absurd cc

-- a token that means its place stands there
placed_shown : (source : List ℕ) (means : Token → Option Span)
    → ((t : Token) (at : Span) → means t ≡ Some at → span_of t ≡ at) → (at : Span)
    → Shows source (stands_in (length source) at) (Meant means at)
placed_shown source means its at w sure (t, is, alone) =
    subst (λ (place : Span). stands_in (length source) place ≡ true) (its t at is)
    (sure_alone source t w sure alone).placed

one_meant : {X : Type 0} (means : Token → Option X) (x : X) (w : List Token) → Meant means x w → 1 ≤ length w
one_meant means x w (t, is, alone) = omega (arith, ap length alone)

begins_shown : (source : List ℕ) (at : Span) (w : List Token) → AllSure source w → BeginsAt at w → stands_in (length source) at ≡ true
begins_shown source at [] sure h = absurd h
begins_shown source at (t ∷ w) sure h = subst (λ (place : Span). stands_in (length source) place ≡ true) h sure.0.placed

-- ---- types, names and numbers

all_at : {X : Type 0} (p : X → Bool) (xs : List X) (k : ℕ) (d : X) → list_all p xs ≡ true → k < length xs → p (slice_index_or xs k d) ≡ true
all_at p [] k d all lt = absurd (omega (arith, lt))
all_at p (x ∷ xs) zero d all lt = (and_parts (p x) (list_all p xs) all).0
all_at p (x ∷ xs) (suc k) d all lt = all_at p xs k d (and_parts (p x) (list_all p xs) all).1 (omega (arith, lt))

abbrev is_form_of_type : Ty × List TypeWord → Bool
is_form_of_type form = is_type_of form.0

type_shown : (source : List ℕ) (t : Ty) → Shows source (is_type_of t) (SpellsType t)
type_shown source t w sure spelled =
    let place = spelled.is_form in
    subst (λ (form : Ty × List TypeWord). is_form_of_type form ≡ true) place.2
    (all_at is_form_of_type forms place.0 (t, spelled.form) refl place.1)

ident_shown : (source : List ℕ) (at : Span) → Shows source (is_identifier (text_of source at)) (Meant identifier at)
ident_shown source at w sure (t, is, alone) = (sure_alone source t w sure alone).means.identifiers at is

number_shown : (source : List ℕ) (at : Span) → Shows source (is_number_text (text_of source at)) (Meant plain_number at)
number_shown source at w sure (t, is, alone) = by_token t (sure_alone source t w sure alone).means is
  where
    by_token : (t : Token) → MeansItsText source t → plain_number t ≡ Some at → is_number_text (text_of source at) ≡ true
    by_token (tokens.Number kinds.Plain place) its is =
        (its.numbers kinds.Plain at (ap (λ o. option_map (λ (place : Span). (kinds.Plain, place)) o) is)).0
    by_token t its is = absurd cc

digits_of_word : (text : List ℕ) → is_block_word text ≡ true → is_number_text (block_digits text) ≡ true
digits_of_word (a ∷ b ∷ c ∷ d ∷ bs) h = grind (arith, h)
digits_of_word text h = absurd (false≢true h)

target_shown : (source : List ℕ) (at : Span) → Shows source (is_number_text (block_digits (text_of source at))) (Meant block_word at)
target_shown source at w sure (t, is, alone) = digits_of_word (text_of source at) ((sure_alone source t w sure alone).means.blocks at is)

target_gives : (source : List ℕ) (at : Span) → Gives source (occurs.Jump at ∷ []) (Meant block_word at)
target_gives source at = gives_one source (occurs.Jump at) (Meant block_word at)
    (λ w sure h. and_from (is_number_text (block_digits (text_of source at))) (stands_in (length source) at)
    (target_shown source at w sure h) (placed_shown source block_word block_word_place at w sure h))
    (one_meant block_word at)

ident_sure : (source : List ℕ) (at : Span)
    → Shows source (is_identifier (text_of source at) && stands_in (length source) at) (Meant identifier at)
ident_sure source at w sure h =
    and_from (is_identifier (text_of source at)) (stands_in (length source) at) (ident_shown source at w sure h)
    (placed_shown source identifier identifier_place at w sure h)

parameter_gives : (source : List ℕ) (at : Span) → Gives source (occurs.Parameter at ∷ []) (Meant identifier at)
parameter_gives source at = gives_one source (occurs.Parameter at) (Meant identifier at) (ident_sure source at) (one_meant identifier at)

local_gives : (source : List ℕ) (at : Span) → Gives source (occurs.Local at ∷ []) (Meant identifier at)
local_gives source at = gives_one source (occurs.Local at) (Meant identifier at) (ident_sure source at) (one_meant identifier at)

assigned_gives : (source : List ℕ) (at : Span) → Gives source (occurs.Assigned at ∷ []) (Meant identifier at)
assigned_gives source at =
    gives_one source (occurs.Assigned at) (Meant identifier at) (placed_shown source identifier identifier_place at)
    (one_meant identifier at)

number_gives : (source : List ℕ) (at : Span) → Gives source (occurs.Block at ∷ []) (Meant plain_number at)
number_gives source at = gives_one source (occurs.Block at) (Meant plain_number at)
    (λ w sure h. and_from (is_number_text (text_of source at)) (stands_in (length source) at)
    (number_shown source at w sure h) (placed_shown source plain_number plain_number_place at w sure h))
    (one_meant plain_number at)

-- ---- operands

some_token : (at : Span) (w : List Token) → BeginsAt at w → 1 ≤ length w
some_token at [] h = absurd h
some_token at (t ∷ w) h = omega arith

constant_shown : (source : List ℕ) (ty : LiteralType) (negative : Bool) (number : Span)
    → Shows source (type_is_written ty) (SpellsConstant ty negative number)
constant_shown source (types.Written t) negative number w sure h = shows_later (shows_later (shows_earlier (type_shown source t))) w sure h
constant_shown source types.Plain negative number w sure h = refl
constant_shown source types.Unsigned negative number w sure h = refl
constant_shown source types.Long negative number w sure h = refl
constant_shown source types.UnsignedLong negative number w sure h = refl

signed_shown : {source : List ℕ} {test : Bool} (negative : Bool) {part : List Token → Type 0} → Shows source test part
    → Shows source test (Signed negative part)
signed_shown true shown = shows_later shown
signed_shown false shown = shown

literal_placed : (source : List ℕ) (ty : LiteralType) (number : Span)
    → Shows source (stands_in (length source) number) (Meant literal_number (ty, number))
literal_placed source ty number w sure (t, is, alone) =
    subst (λ (place : Span). stands_in (length source) place ≡ true) (literal_number_place t ty number is)
    (sure_alone source t w sure alone).placed

constant_placed : (source : List ℕ) (ty : LiteralType) (negative : Bool) (number : Span)
    → Shows source (stands_in (length source) number) (SpellsConstant ty negative number)
constant_placed source (types.Written t) negative number w sure h =
    shows_later (shows_later (shows_later (shows_later
    (signed_shown negative (placed_shown source plain_number plain_number_place number))))) w sure h
constant_placed source types.Plain negative number w sure h = signed_shown negative (literal_placed source types.Plain number) w sure h
constant_placed source types.Unsigned negative number w sure h =
    signed_shown negative (literal_placed source types.Unsigned number) w sure h
constant_placed source types.Long negative number w sure h = signed_shown negative (literal_placed source types.Long number) w sure h
constant_placed source types.UnsignedLong negative number w sure h =
    signed_shown negative (literal_placed source types.UnsignedLong number) w sure h

operand_gives : (source : List ℕ) (a : OperandText) → Gives source (occurrence_of_operand a ∷ []) (SpellsOperand a)
operand_gives source (operands.Name at) w sure h =
    gives_one source (occurs.Used at) (Meant identifier at) (placed_shown source identifier identifier_place at)
    (one_meant identifier at) w sure h
operand_gives source (operands.Default at) w sure h =
    gives_earlier (gives_one source (occurs.Default at) (Meant identifier at)
    (placed_shown source identifier identifier_place at) (one_meant identifier at)) w sure h
operand_gives source (operands.Literal literal) w sure h =
    gives_one source (occurs.Constant literal) (SpellsOperand (operands.Literal literal)) (λ v sure h.
    and_from (type_is_written literal.ty) (stands_in (length source) literal.start
    && stands_in (length source) literal.number)
    (constant_shown source literal.ty literal.negative literal.number v sure h.1)
    (and_from (stands_in (length source) literal.start) (stands_in (length source) literal.number)
    (begins_shown source literal.start v sure h.0)
    (constant_placed source literal.ty literal.negative literal.number v sure h.1)))
    (λ v h. some_token literal.start v h.0) w sure h

-- ---- right sides

abbrev one_of : OperandText → List Occurrence
one_of a = occurrence_of_operand a ∷ []

binary_gives : (source : List ℕ) (op : Code) (a b : OperandText)
    → Gives source (occurrences_of_right (rights.Binary op a b)) (SpellsForm (rights.Binary op a b))
binary_gives source op a b w sure (inl h) =
    gives_both (one_of a) (one_of b) (operand_gives source a) (gives_later (operand_gives source b)) w sure h
binary_gives source op a b w sure (inr h) =
    gives_later (gives_later (gives_both (one_of a) (one_of b) (operand_gives source a)
    (gives_later (gives_earlier (operand_gives source b))))) w sure h

form_gives : (source : List ℕ) (form : RightForm) → Gives source (occurrences_of_right form) (SpellsForm form)
form_gives source (rights.Copy a) w sure h = operand_gives source a w sure h
form_gives source (rights.Unary op a) w sure h = gives_later (operand_gives source a) w sure h.1
form_gives source (rights.Cast t a) w sure h = gives_later (gives_later (gives_later (operand_gives source a))) w sure h
form_gives source (rights.Binary op a b) w sure h = binary_gives source op a b w sure h
form_gives source (rights.Choice c a b) w sure h =
    gives_both (one_of c) (one_of a ++ one_of b) (operand_gives source c)
    (gives_later (gives_both (one_of a) (one_of b) (operand_gives source a) (gives_later (operand_gives source b)))) w sure h

right_gives : (source : List ℕ) (right : RightText) → Gives source (occurrences_of_right right.form) (SpellsRight right)
right_gives source right w sure h = form_gives source right.form w sure h.1

-- ---- items

arg_gives : (source : List ℕ) (arg : ArgText) → Gives source (occurrences_of_argument arg) (SpellsArg arg)
arg_gives source arg =
    gives_both (occurs.Jump arg.from ∷ []) (one_of arg.operand) (target_gives source arg.from)
    (gives_later (operand_gives source arg.operand))

args_give : (source : List ℕ) (args : List ArgText) → Gives source (flat_map occurrences_of_argument args) (SpellsArgs args)
args_give source [] w sure h = absurd h
args_give source (arg ∷ args) w sure h =
    gives_both (occurrences_of_argument arg) (flat_map occurrences_of_argument args) (arg_gives source arg)
    (gives_many source occurrences_of_argument SpellsFurtherArg (λ further. gives_later (arg_gives source further)) args) w sure h

item_gives : (source : List ℕ) (item : ItemText) → Gives source (occurrences_of_item item) (SpellsItem item)
item_gives source (items.Phi name args) w sure h =
    gives_both (occurs.Assigned name ∷ []) (flat_map occurrences_of_argument args) (assigned_gives source name)
    (gives_later (gives_later (gives_later (gives_earlier (args_give source args))))) w sure h
item_gives source (items.Stmt name right) w sure h =
    gives_both (occurs.Assigned name ∷ []) (occurrences_of_right right.form) (assigned_gives source name)
    (gives_later (gives_earlier (right_gives source right))) w sure h

right_begins : (source : List ℕ) (right : RightText) → Shows source (stands_in (length source) right.start) (SpellsRight right)
right_begins source right w sure h = begins_shown source right.start w sure h.0

item_placed : (source : List ℕ) (item : ItemText) → Shows source (item_stands (length source) item) (SpellsItem item)
item_placed source (items.Phi name args) w sure h = refl
item_placed source (items.Stmt name right) w sure h = shows_later (shows_later (shows_earlier (right_begins source right))) w sure h

-- ---- ends of blocks

jump_gives : (source : List ℕ) (target : Span) → Gives source (occurs.Jump target ∷ []) (SpellsJump target)
jump_gives source target = gives_later (gives_earlier (target_gives source target))

jumps_give : (source : List ℕ) (target other : Span) (first second : List Token → Type 0)
    → Gives source (occurs.Jump target ∷ occurs.Jump other ∷ []) (first ▸ SpellsJump target ▸ second ▸ SpellsJump other)
jumps_give source target other first second =
    gives_later (gives_both (occurs.Jump target ∷ []) (occurs.Jump other ∷ []) (jump_gives source target)
    (gives_later (jump_gives source other)))

end_gives : (source : List ℕ) (end : EndText) → Gives source (occurrences_of_end (Some end)) (SpellsEnd end)
end_gives source (ends.Goto target) w sure h = jump_gives source target w sure h
end_gives source (ends.If op a b target other) w sure h =
    let jumps = occurs.Jump target ∷ occurs.Jump other ∷ [] in
    gives_later (gives_later (gives_both (one_of a) (one_of b ++ jumps) (operand_gives source a)
    (gives_later (gives_both (one_of b) jumps (operand_gives source b) (jumps_give source target other _ _))))) w sure h
end_gives source (ends.Return a) w sure h = gives_later (gives_earlier (operand_gives source a)) w sure h

end_if_any_gives : (source : List ℕ) (end : Option EndText) → Gives source (occurrences_of_end end) (SpellsEndIfAny end)
end_if_any_gives source None w sure h = yields_nothing source w
end_if_any_gives source (Some end) w sure h = end_gives source end w sure h

-- ---- blocks

block_gives : (source : List ℕ) (block : BlockText) → Gives source (occurrences_of_block block) (SpellsBlock block)
block_gives source block =
    let its = flat_map occurrences_of_item block.items in
    gives_later (gives_later (gives_both (occurs.Block block.number ∷ []) (its ++ occurrences_of_end block.end)
    (number_gives source block.number)
    (gives_later (gives_later (gives_both its (occurrences_of_end block.end)
    (gives_many source occurrences_of_item SpellsItem (item_gives source) block.items)
    (end_if_any_gives source block.end))))))

block_placed : (source : List ℕ) (block : BlockText) → Shows source (block_stands (length source) block) (SpellsBlock block)
block_placed source block =
    shows_both (placed_shown source (keyword keywords.Block) (keyword_place keywords.Block) block.head)
    (shows_later (shows_later (shows_later
    (shows_later (shows_earlier (shows_many source (item_stands (length source)) SpellsItem (item_placed source)
    block.items))))))

-- ---- functions

typed_shown : (source : List ℕ) (decl : DeclText) → Shows source (has_written_type decl) (SpellsTyped decl)
typed_shown source decl = shows_earlier (type_shown source decl.ty)

params_shown : (source : List ℕ) (params : List DeclText) → Shows source (list_all has_written_type params) (SpellsParams params)
params_shown source [] w sure h = refl
params_shown source (param ∷ params) w sure h =
    shows_both (typed_shown source param) (shows_many source has_written_type SpellsFurther
    (λ further. shows_later (typed_shown source further)) params) w sure h

params_give : (source : List ℕ) (params : List DeclText) → Gives source (map occurrence_of_parameter params) (SpellsParams params)
params_give source [] w sure h = yields_nothing source w
params_give source (param ∷ params) w sure h =
    gives_both (occurs.Parameter param.ident ∷ []) (map occurrence_of_parameter params) (gives_later (parameter_gives source param.ident))
    (gives_each source occurrence_of_parameter SpellsFurther
    (λ further. gives_later (gives_later (parameter_gives source further.ident))) params) w sure h

between_shown : (source : List ℕ) (params : List DeclText) → Shows source (list_all has_written_type params) (SpellsParamsBetween params)
between_shown source params = shows_later (shows_earlier (params_shown source params))

decls_shown : (source : List ℕ) (decls : List DeclText) (blocks : List BlockText) (close : Span)
    → Shows source (list_all has_written_type decls) (SpellsBody decls blocks close)
decls_shown source decls blocks close =
    shows_later (shows_earlier (shows_many source has_written_type SpellsDecl
    (λ decl. shows_earlier (typed_shown source decl)) decls))

body_gives : (source : List ℕ) (decls : List DeclText) (blocks : List BlockText) (close : Span)
    → Gives source (map occurrence_of_local decls ++ flat_map occurrences_of_block blocks)
    (SpellsBody decls blocks close)
body_gives source decls blocks close =
    gives_later (gives_both (map occurrence_of_local decls) (flat_map occurrences_of_block blocks)
    (gives_each source occurrence_of_local SpellsDecl (λ decl. gives_earlier (gives_later (local_gives source decl.ident))) decls)
    (gives_earlier (gives_many source occurrences_of_block SpellsBlock (block_gives source) blocks)))

blocks_placed : (source : List ℕ) (decls : List DeclText) (blocks : List BlockText) (close : Span)
    → Shows source (list_all (block_stands (length source)) blocks && stands_in (length source) close)
    (SpellsBody decls blocks close)
blocks_placed source decls blocks close =
    shows_later (shows_later (shows_both (shows_many source (block_stands (length source)) SpellsBlock
    (block_placed source) blocks) (placed_shown source (mark marks.CloseBrace) (mark_place marks.CloseBrace) close)))

head_shown : (source : List ℕ) (result : Ty) (name : Span)
    → Shows source (is_identifier (text_of source name) && stands_in (length source) name) (SpellsHead result name)
head_shown source result name = shows_later (shows_later (shows_later (shows_later (shows_later (ident_sure source name)))))

result_shown : (source : List ℕ) (result : Ty) (name : Span) → Shows source (is_type_of result) (SpellsHead result name)
result_shown source result name = shows_earlier (type_shown source result)

both_tests : {X : Type 0} (p q : X → Bool) (xs : List X) → list_all (λ x. p x && q x) xs ≡ true → (list_all p xs ≡ true)
    × (list_all q xs ≡ true)
both_tests p q [] h = (refl, refl)
both_tests p q (x ∷ xs) h =
    let a = and_parts (p x && q x) (list_all (λ y. p y && q y) xs) h in
    let b = and_parts (p x) (q x) a.0 in
    let later = both_tests p q xs a.1 in
    (and_from (p x) (list_all p xs) b.0 later.0, and_from (q x) (list_all q xs) b.1 later.1)

-- what is known of a tree that sure tokens spell
pub record IsKnown (source : List ℕ) (tree : FunctionText) : Type 0 where
  pub written : IsWritten source tree
  pub placed : IsPlaced (length source) tree

pub function_known : (source : List ℕ) (tree : FunctionText) (w : List Token) → AllSure source w → SpellsFunction tree w
    → length w < 2 ^ 31 → IsKnown source tree
function_known source tree w sure spelled few =
    let n = length source in
    let params = map occurrence_of_parameter tree.params in
    let locals = map occurrence_of_local tree.decls in
    let blocks = flat_map occurrences_of_block tree.blocks in
    let given =
    gives_later (gives_both params (locals ++ blocks) (gives_later (gives_earlier (params_give source tree.params)))
    (body_gives source tree.decls tree.blocks tree.close)) w sure spelled in
    let y : Yields source (occurrences_of tree) w = subst (λ os. Yields source os w) (sym (append_assoc params locals blocks)) given in
    let os = both_tests (is_written source) (occurrence_stands n) (occurrences_of tree) y.sure in
    let head =
    and_parts (is_identifier (text_of source tree.name)) (stands_in n tree.name)
    (shows_earlier (head_shown source tree.result tree.name) w sure spelled) in
    let body =
    and_parts (list_all (block_stands n) tree.blocks) (stands_in n tree.close)
    (shows_later (shows_later (blocks_placed source tree.decls tree.blocks tree.close)) w sure spelled) in
    record {
      written = record {
        name = head.0;
        result = shows_earlier (result_shown source tree.result tree.name) w sure spelled;
        types = list_all-append has_written_type tree.params tree.decls
            ∙ shows_later (shows_both (between_shown source tree.params)
            (decls_shown source tree.decls tree.blocks tree.close)) w sure spelled;
        occurrences = os.0;
        few = omega (arith, y.few, few);
      };
      placed = record { name = head.1; close = body.1; blocks = body.0; occurrences = os.1 };
    }

-- ---- files

-- What sure tokens spell is known, where they are few enough.
pub file_known : (source : List ℕ) (tokens : List Token) (trees : List FunctionText) → AllSure source tokens
    → SpellsFile trees tokens → length tokens < 2 ^ 31 → AllByRecursion (IsKnown source) trees
file_known source w [] sure spelled few = tt
file_known source w (tree ∷ trees) sure (u, v, here, there, cut) few = (
  function_known source tree u (sure_left source u v w sure cut) here (omega (arith, few, ap length cut, length-append u v)),
  file_known source v trees (sure_right source u v w sure cut) there (omega (arith, few, ap length cut, length-append u v)),
)

pub file_written : (source : List ℕ) (trees : List FunctionText) → AllByRecursion (IsKnown source) trees
    → AllByRecursion (IsWritten source) trees
file_written source [] known = tt
file_written source (tree ∷ trees) known = (known.0.written, file_written source trees known.1)
