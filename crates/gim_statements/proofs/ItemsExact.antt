-- Phis and statements are read exactly.
use Rattle.std.proofs.Common.{◌≡◌, true, List, [], ◌∷◌, ◌++◌, Some, None, Ok, refl, sym, subst, inl, inr}
use Rattle.std.proofs.lemmas.List.{append-nil}
use Rattle.grammar.specs.Spelling.{Spelling, Begins, Nothing, Meant, Then, Mapped}
use Rattle.grammar.specs.Reading.{◌>>=◌, more_at}
use Rattle.grammar.specs.Exact.{IsApart, IsExact}
use Rattle.grammar.proofs.Sequence.{Never}
use Rattle.grammar.proofs.Parts.{apart_within}
use Rattle.gim_text.specs.Meanings.{mark, keyword, identifier, block_word}
use Rattle.pm_places.specs.declared.span.Span.{Span}
use Rattle.gim_text.specs.declared.token.Token.{Token}
use Rattle.gim_text.specs.declared.token.Token.TheVariants as tokens
use Rattle.gim_text.specs.declared.token.Keyword.TheVariants as keywords
use Rattle.gim_text.specs.declared.token.Mark.TheVariants as marks
use Rattle.gim_text.specs.declared.tree.ArgText.{ArgText}
use Rattle.gim_text.specs.declared.tree.ItemText.{ItemText}
use Rattle.gim_text.specs.declared.tree.ItemText.TheVariants as items
use Rattle.gim_words.specs.TokenReaders.{keyword_at, is_comma}
use Rattle.grammar.proofs.EveryInput.{Reads, nothing, seen_by, after_token, in_sequence, in_words}
use Rattle.grammar.proofs.Starts.{Begun, meant_begun, front_begun, before_token, Either, left_of, right_of}
use Rattle.grammar.proofs.Items.{Added, items_added, first_of_items}
use Rattle.gim_words.proofs.TokensExact.{some_mark, some_keyword, some_name, some_block_word}
use Rattle.gim_statements.specs.Grammar.{SpellsOperand, SpellsRight, SpellsArg, SpellsFurtherArg, SpellsArgs, SpellsItem}
use Rattle.gim_statements.specs.OperandReaders.{operand_at}
use Rattle.gim_statements.specs.RightReaders.{right_at}
use Rattle.gim_statements.specs.ItemReaders.{arg_at, further_arg_at, args_at, phi_at, statement_at, assigned_at, item_at}
use Rattle.gim_statements.proofs.OperandsExact.{IsOpen, IsName, name_is, operand_reads}
use Rattle.gim_statements.proofs.RightsExact.{GoesOnForm, ends, right_reads, right_no_phi}

-- arguments

ArgForm : Spelling Token ArgText
ArgForm = Then (Meant block_word) (λ from. Then (Meant (mark marks.Colon)) (λ k. Mapped (λ a. record { from = from; operand = a }) SpellsOperand))

arg_form_reads : Reads ArgForm IsOpen arg_at
unfolding ArgForm
arg_form_reads =
    after_token block_word tt some_block_word (λ from. Then (Meant (mark marks.Colon)) (λ k. Mapped (λ a. record { from = from; operand = a }) SpellsOperand)) IsOpen _ (λ from.
    after_token (mark marks.Colon) tt (some_mark marks.Colon) (λ k. Mapped (λ a. record { from = from; operand = a }) SpellsOperand) IsOpen _ (λ k.
    seen_by (λ a. record { from = from; operand = a }) SpellsOperand IsOpen operand_at operand_reads))

arg_reads : Reads SpellsArg IsOpen arg_at
unfolding ArgForm
arg_reads = in_words ArgForm SpellsArg IsOpen arg_at to back arg_form_reads
  where
    to : (x : ArgText) (w : List Token) → ArgForm x w → SpellsArg x w
    to x w (from, u, v, word, (k, u1, v1, colon, (a, s, same), cut1), cut) = subst (λ y. SpellsArg y w) same (u, v, word, (u1, v1, (k, colon), s, cut1), cut)

    back : (x : ArgText) (w : List Token) → SpellsArg x w → ArgForm x w
    back x w (u, v, word, (u1, v1, (k, colon), s, cut1), cut) = (x.from, u, v, word, (k, u1, v1, colon, (x.operand, s, refl), cut1), cut)

further_reads : Reads SpellsFurtherArg IsOpen further_arg_at
further_reads =
    in_words (Then (Meant (mark marks.Comma)) (λ m. SpellsArg)) SpellsFurtherArg IsOpen further_arg_at to back
    (after_token (mark marks.Comma) tt (some_mark marks.Comma) (λ m. SpellsArg) IsOpen (λ m. arg_at m.1) (λ m. arg_reads))
  where
    to : (x : ArgText) (w : List Token) → Then (Meant (mark marks.Comma)) (λ m. SpellsArg) x w → SpellsFurtherArg x w
    to x w (m, u, v, comma, s, cut) = (u, v, (m, comma), s, cut)

    back : (x : ArgText) (w : List Token) → SpellsFurtherArg x w → Then (Meant (mark marks.Comma)) (λ m. SpellsArg) x w
    back x w (u, v, (m, comma), s, cut) = (m, u, v, comma, s, cut)

abbrev pub IsComma : Token → Type 0
IsComma (tokens.Mark marks.Comma at) = Unit {0}
IsComma t = ⊥

pub comma_is : (t : Token) (x : Span) → mark marks.Comma t ≡ Some x → IsComma t
comma_is (tokens.Mark marks.Comma at) x e = tt
comma_is t x e = absurd (cc)

comma_begins : (t : Token) → IsComma t → is_comma t ≡ true
comma_begins (tokens.Mark marks.Comma at) h = refl
comma_begins t h = absurd h

-- what can go on arguments: `(` after a name, `,`
abbrev GoesOnArgs : Token → Type 0
GoesOnArgs (tokens.Mark marks.Open at) = Unit {0}
GoesOnArgs (tokens.Mark marks.Comma at) = Unit {0}
GoesOnArgs t = ⊥

open_in_args : (t : Token) → IsOpen t → GoesOnArgs t
open_in_args (tokens.Mark marks.Open at) h = tt
open_in_args t h = absurd h

comma_in_args : (t : Token) → is_comma t ≡ true → GoesOnArgs t
comma_in_args (tokens.Mark marks.Comma at) e = tt
comma_in_args t e = absurd (cc)

close_not_in_args : (t : Token) → GoesOnArgs t → mark marks.Close t ≡ None
close_not_in_args (tokens.Mark marks.Open at) h = refl
close_not_in_args (tokens.Mark marks.Comma at) h = refl
close_not_in_args t h = absurd h

comma_kept : (t : Token) → is_comma t ≡ true → ¬ IsOpen t
comma_kept (tokens.Mark marks.Open at) e = absurd (cc)
comma_kept t e = λ impossible. impossible

further_begun : (x : ArgText) (w : List Token) → SpellsFurtherArg x w → Begun IsComma w
further_begun x w (u, v, (m, comma), s, cut) = front_begun IsComma u v w (meant_begun (mark marks.Comma) IsComma comma_is m u comma) cut

begins_further : (x : ArgText) (t : Token) (w : List Token) → SpellsFurtherArg x (t ∷ w) → is_comma t ≡ true
begins_further x t w s = comma_begins t (further_begun x (t ∷ w) s)

further_args : (before : List ArgText) → Reads (Added SpellsFurtherArg before) GoesOnArgs (more_at is_comma further_arg_at before)
further_args =
    items_added SpellsFurtherArg is_comma further_arg_at IsOpen GoesOnArgs further_reads (λ x s. further_begun x [] s) begins_further
    comma_kept open_in_args comma_in_args

args_reads : Reads SpellsArgs GoesOnArgs args_at
args_reads =
    in_words (Then SpellsArg (λ x. Added SpellsFurtherArg (x ∷ []))) SpellsArgs GoesOnArgs args_at to back
    (in_sequence SpellsArg (λ x. Added SpellsFurtherArg (x ∷ [])) IsOpen GoesOnArgs apart arg_at (λ x. more_at is_comma further_arg_at (x.0 ∷ []) x.1) arg_reads (λ x. further_args (x ∷ [])))
  where
    apart : (x : ArgText) (now : List ArgText) (v z : List Token) → Added SpellsFurtherArg (x ∷ []) now v → IsApart GoesOnArgs z → IsApart IsOpen (v ++ z)
    apart x now [] z added far = apart_within IsOpen GoesOnArgs open_in_args z far
    apart x now (t ∷ v) z (others, is, many) far =
        comma_kept t
        (first_of_items SpellsFurtherArg is_comma further_arg_at IsOpen GoesOnArgs further_reads (λ x s. further_begun x [] s) begins_further
        comma_kept open_in_args comma_in_args others t v many)

    to : (xs : List ArgText) (w : List Token) → Then SpellsArg (λ x. Added SpellsFurtherArg (x ∷ [])) xs w → SpellsArgs xs w
    to xs w (x, u, v, s, (others, is, many), cut) = subst (λ l. SpellsArgs l w) (sym is) (u, v, s, many, cut)

    back : (xs : List ArgText) (w : List Token) → SpellsArgs xs w → Then SpellsArg (λ x. Added SpellsFurtherArg (x ∷ [])) xs w
    back [] w s = absurd s
    back (x ∷ xs) w (u, v, s, many, cut) = (x, u, v, s, (xs, refl, many), cut)

-- phis

AfterArgs : Span → List ArgText → Spelling Token ItemText
AfterArgs name args = Then (Meant (mark marks.Close)) (λ k. Then (Meant (mark marks.Semicolon)) (λ e. Nothing (items.Phi name args)))

AfterPhi : Span → Spelling Token ItemText
AfterPhi name = Then (Meant (mark marks.Open)) (λ o. Then SpellsArgs (AfterArgs name))

PhiForm : Span → Spelling Token ItemText
PhiForm name = Then (Meant (keyword keywords.Phi)) (λ p. AfterPhi name)

phi_reads : (name : Span) → Reads (PhiForm name) Never (λ input. keyword_at keywords.Phi input >>= λ p. phi_at name p.1)
unfolding PhiForm AfterPhi AfterArgs
phi_reads name =
    after_token (keyword keywords.Phi) tt (some_keyword keywords.Phi) (λ p. AfterPhi name) Never (λ p. phi_at name p.1) (λ p.
    after_token (mark marks.Open) tt (some_mark marks.Open) (λ o. Then SpellsArgs (AfterArgs name)) Never _ (λ o.
    before_token SpellsArgs (mark marks.Close) (λ args k. Then (Meant (mark marks.Semicolon)) (λ e. Nothing (items.Phi name args))) GoesOnArgs Never close_not_in_args args_at _ args_reads (λ args.
    after_token (mark marks.Close) tt (some_mark marks.Close) (λ k. Then (Meant (mark marks.Semicolon)) (λ e. Nothing (items.Phi name args))) Never _ (λ k.
    after_token (mark marks.Semicolon) tt (some_mark marks.Semicolon) (λ e. Nothing (items.Phi name args)) Never (λ e. Ok (items.Phi name args, e.1)) (λ e.
    nothing (items.Phi name args) Never)))))

abbrev IsPhi : Token → Type 0
IsPhi (tokens.Keyword keywords.Phi at) = Unit {0}
IsPhi t = ⊥

phi_is : (t : Token) (x : Span) → keyword keywords.Phi t ≡ Some x → IsPhi t
phi_is (tokens.Keyword keywords.Phi at) x e = tt
phi_is t x e = absurd (cc)

phi_begun : (name : Span) (x : ItemText) (w : List Token) → PhiForm name x w → Begun IsPhi w
unfolding PhiForm
phi_begun name x w (p, u, v, word, others, cut) = front_begun IsPhi u v w (meant_begun (keyword keywords.Phi) IsPhi phi_is p u word) cut

-- statements

StmtForm : Span → Spelling Token ItemText
StmtForm name = Then SpellsRight (λ right. Then (Meant (mark marks.Semicolon)) (λ e. Nothing (items.Stmt name right)))

none_is_some : {A : Type 0} (x : A) → None ≡ Some x → ⊥
none_is_some x e = cc

semicolon_apart : (t : Token) → GoesOnForm t → mark marks.Semicolon t ≡ None
semicolon_apart (tokens.Mark marks.Semicolon at) (op, e) = absurd (none_is_some op e)
semicolon_apart t h = refl

stmt_reads : (name : Span) → Reads (StmtForm name) Never (statement_at name)
unfolding StmtForm
stmt_reads name =
    before_token SpellsRight (mark marks.Semicolon) (λ right e. Nothing (items.Stmt name right)) GoesOnForm Never semicolon_apart right_at _ right_reads (λ right.
    after_token (mark marks.Semicolon) tt (some_mark marks.Semicolon) (λ e. Nothing (items.Stmt name right)) Never (λ e. Ok (items.Stmt name right, e.1)) (λ e.
    nothing (items.Stmt name right) Never))

-- no right side begins with `__PHI`
IsNoPhi : Token → Type 0
IsNoPhi t = ¬ IsPhi t

stmt_begun : (name : Span) (x : ItemText) (w : List Token) → StmtForm name x w → Begun IsNoPhi w
unfolding StmtForm IsNoPhi
stmt_begun name x w (right, u, v, s, others, cut) = front_begun IsNoPhi u v w (by_text u s) cut
  where
    no_phi : (t : Token) (w : List Token) → SpellsRight right (t ∷ w) → ¬ IsPhi t
    no_phi (tokens.Keyword keywords.Phi at) w s = λ h. right_no_phi right at w s
    no_phi t w s = λ impossible. impossible

    by_text : (u : List Token) → SpellsRight right u → Begun IsNoPhi u
    by_text [] s = absurd s.0
    by_text (t ∷ w) s = no_phi t w s

-- items

Assigned : Span → Spelling Token ItemText
Assigned name = Either (PhiForm name) (StmtForm name)

assigned_exact : (name : Span) (input : List Token) → IsExact (Assigned name) Never input (assigned_at name input)
unfolding Assigned IsNoPhi
assigned_exact name (tokens.Keyword keywords.Phi at ∷ rest) =
    left_of (PhiForm name) (StmtForm name) Never IsNoPhi (stmt_begun name) (phi_reads name).some (tokens.Keyword keywords.Phi at ∷ rest) (phi_at name rest) (λ no_phi. no_phi tt)
    ((phi_reads name).exact (tokens.Keyword keywords.Phi at ∷ rest))
assigned_exact name input = right_of (PhiForm name) (StmtForm name) Never IsPhi (phi_begun name) (stmt_reads name).some input (statement_at name input) (λ h. h) ((stmt_reads name).exact input)

ItemForm : Spelling Token ItemText
ItemForm = Then (Meant identifier) (λ name. Then (Meant (mark marks.Assign)) (λ e. Assigned name))

item_form_reads : Reads ItemForm Never item_at
unfolding ItemForm Assigned
item_form_reads =
    after_token identifier tt some_name (λ name. Then (Meant (mark marks.Assign)) (λ e. Assigned name)) Never _ (λ name.
    after_token (mark marks.Assign) tt (some_mark marks.Assign) (λ e. Assigned name) Never (λ e. assigned_at name e.1) (λ e.
    record { some = some_assigned name; exact = λ input. assigned_exact name input }))
  where
    some_assigned : (name : Span) → Begins (Assigned name) []
    some_assigned name = let some = (stmt_reads name).some in record { value = some.value; after = some.after; spelled = inr some.spelled }

item_spelled : (x : ItemText) (w : List Token) → ItemForm x w → SpellsItem x w
unfolding ItemForm Assigned PhiForm AfterPhi AfterArgs StmtForm
item_spelled x w (name, u, v, first, (e, u1, v1, assign, inl (p, u2, v2, phi, (o, u3, v3, left, (args, u4, v4, s, (k, u5, v5, close, (z, u6, v6, semicolon, (same, empty), cut6), cut5), cut4), cut3), cut2), cut1), cut) =
    subst (λ y. SpellsItem y w) (sym same)
    (u, v, first, (u1, v1, (e, assign), (u2, v2, (p, phi), (u3, v3, (o, left), (u4, v4, s, (u5, v5, (k, close), (z, ends (Meant (mark marks.Semicolon) z) u6 v6 v5 semicolon empty cut6), cut5), cut4), cut3), cut2), cut1), cut)
item_spelled x w (name, u, v, first, (e, u1, v1, assign, inr (right, u2, v2, s, (z, u3, v3, semicolon, (same, empty), cut3), cut2), cut1), cut) =
    subst (λ y. SpellsItem y w) (sym same) (u, v, first, (u1, v1, (e, assign), (u2, v2, s, (z, ends (Meant (mark marks.Semicolon) z) u3 v3 v2 semicolon empty cut3), cut2), cut1), cut)

item_of : (x : ItemText) (w : List Token) → SpellsItem x w → ItemForm x w
unfolding ItemForm Assigned PhiForm AfterPhi AfterArgs StmtForm
item_of (items.Phi name args) w (u, v, first, (u1, v1, (e, assign), (u2, v2, (p, phi), (u3, v3, (o, left), (u4, v4, s, (u5, v5, (k, close), (z, semicolon), cut5), cut4), cut3), cut2), cut1), cut) =
    (name, u, v, first, (e, u1, v1, assign, inl (p, u2, v2, phi, (o, u3, v3, left, (args, u4, v4, s, (k, u5, v5, close, (z, v5, [], semicolon, (refl, refl), sym (append-nil v5)), cut5), cut4), cut3), cut2), cut1), cut)
item_of (items.Stmt name right) w (u, v, first, (u1, v1, (e, assign), (u2, v2, s, (z, semicolon), cut2), cut1), cut) =
    (name, u, v, first, (e, u1, v1, assign, inr (right, u2, v2, s, (z, v2, [], semicolon, (refl, refl), sym (append-nil v2)), cut2), cut1), cut)

-- Phis and statements.
pub item_reads : Reads SpellsItem Never item_at
item_reads = in_words ItemForm SpellsItem Never item_at item_spelled item_of item_form_reads

-- an item begins with a name
pub item_begun : (x : ItemText) (w : List Token) → SpellsItem x w → Begun IsName w
item_begun (items.Phi name args) w (u, v, first, others, cut) = front_begun IsName u v w (meant_begun identifier IsName name_is name u first) cut
item_begun (items.Stmt name right) w (u, v, first, others, cut) = front_begun IsName u v w (meant_begun identifier IsName name_is name u first) cut
