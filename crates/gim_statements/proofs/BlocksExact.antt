-- Blocks are read exactly.
use Rattle.std.proofs.Common.{◌≡◌, true, List, [], ◌∷◌, ◌++◌, Option, Some, Ok, refl, subst, inl, inr}
use Rattle.grammar.specs.Spelling.{Spelling, Meant, Then, Mapped, Many}
use Rattle.grammar.specs.Reading.{Answer, ◌>>=◌}
use Rattle.grammar.specs.Exact.{IsApart, IsExact}
use Rattle.grammar.proofs.Parts.{apart_within}
use Rattle.grammar.proofs.Sequence.{Never}
use Rattle.gim_text.specs.Meanings.{mark, keyword}
use Rattle.pm_places.specs.declared.span.Span.{Span}
use Rattle.gim_text.specs.declared.token.Token.{Token}
use Rattle.gim_text.specs.declared.token.Token.TheVariants as tokens
use Rattle.gim_text.specs.declared.token.Keyword.TheVariants as keywords
use Rattle.gim_text.specs.declared.token.Mark.TheVariants as marks
use Rattle.gim_text.specs.declared.tree.ItemText.{ItemText}
use Rattle.gim_text.specs.declared.tree.EndText.{EndText}
use Rattle.gim_text.specs.declared.tree.BlockText.{BlockText}
use Rattle.gim_words.specs.Parentheses.{Closing}
use Rattle.gim_words.specs.Tokens.{plain_number}
use Rattle.gim_words.specs.TokenReaders.{mark_at, closing_at}
use Rattle.grammar.proofs.EveryInput.{Reads, seen_by, after_token, after_free, in_sequence, in_words}
use Rattle.grammar.proofs.Starts.{Begun, meant_begun, front_begun, Either, left_of, right_of}
use Rattle.grammar.proofs.Items.{items_read}
use Rattle.gim_words.proofs.TokensExact.{some_mark, some_keyword, some_plain_number, mark_reads}
use Rattle.gim_words.proofs.BalancedExact.{closing_reads}
use Rattle.gim_statements.specs.Grammar.{SpellsItem, SpellsNote, SpellsEndIfAny, SpellsBlock, GoesOnBlock}
use Rattle.gim_statements.specs.ItemReaders.{item_at}
use Rattle.gim_statements.specs.BlockReaders.{note_at, begins_item, items_at, end_at, block_at}
use Rattle.gim_statements.proofs.OperandsExact.{IsName}
use Rattle.gim_statements.proofs.ItemsExact.{IsComma, comma_is, item_reads, item_begun}
use Rattle.gim_statements.proofs.EndsExact.{StartsEnd, end_begun, end_reads}

-- notes

CommaForm : Spelling Token Span
CommaForm = Then (Meant (mark marks.Comma)) (λ m. Closing)

Note : Spelling Token Span
Note = Either (Meant (mark marks.Close)) CommaForm

comma_reads : Reads CommaForm Never (λ input. mark_at marks.Comma input >>= λ m. closing_at m.1)
unfolding CommaForm
comma_reads = after_token (mark marks.Comma) tt (some_mark marks.Comma) (λ m. Closing) Never (λ m. closing_at m.1) (λ m. closing_reads)

comma_begun : (x : Span) (w : List Token) → CommaForm x w → Begun IsComma w
unfolding CommaForm
comma_begun x w (m, u, v, comma, others, cut) = front_begun IsComma u v w (meant_begun (mark marks.Comma) IsComma comma_is m u comma) cut

abbrev IsClose : Token → Type 0
IsClose (tokens.Mark marks.Close at) = Unit {0}
IsClose t = ⊥

close_is : (t : Token) (x : Span) → mark marks.Close t ≡ Some x → IsClose t
close_is (tokens.Mark marks.Close at) x e = tt
close_is t x e = absurd (cc)

note_exact : (input : List Token) → IsExact Note Never input (note_at input)
unfolding Note
note_exact (tokens.Mark marks.Comma at ∷ rest) =
    right_of (Meant (mark marks.Close)) CommaForm Never IsClose (meant_begun (mark marks.Close) IsClose close_is) comma_reads.some (tokens.Mark marks.Comma at ∷ rest) (closing_at rest) (λ h. h)
    (comma_reads.exact (tokens.Mark marks.Comma at ∷ rest))
note_exact input =
    left_of (Meant (mark marks.Close)) CommaForm Never IsComma comma_begun (some_mark marks.Close) input (mark_at marks.Close input) (λ h. h) ((mark_reads marks.Close Never).exact input)

note_reads : Reads Note Never note_at
unfolding Note
note_reads =
    let some = some_mark marks.Close in
    record { some = record { value = some.value; after = some.after; spelled = inl some.spelled }; exact = λ input. note_exact input }

note_spelled : (x : Span) (w : List Token) → Note x w → SpellsNote w
unfolding Note CommaForm
note_spelled x w (inl close) = inl (x, close)
note_spelled x w (inr (m, u, v, comma, closing, cut)) = inr (u, v, (m, comma), (x, closing), cut)

note_of : (w : List Token) → SpellsNote w → (x : Span) × Note x w
unfolding Note CommaForm
note_of w (inl (x, close)) = (x, inl close)
note_of w (inr (u, v, (m, comma), (x, closing), cut)) = (x, inr (m, u, v, comma, closing, cut))

-- items

name_begins : (t : Token) → IsName t → begins_item t ≡ true
name_begins (tokens.Identifier at) h = refl
name_begins (tokens.Ssa at) h = refl
name_begins t h = absurd h

begins_name : (t : Token) → begins_item t ≡ true → IsName t
begins_name (tokens.Identifier at) e = tt
begins_name (tokens.Ssa at) e = tt
begins_name t e = absurd (cc)

items_reads : Reads (Many SpellsItem) IsName items_at
items_reads =
    items_read SpellsItem begins_item item_at Never IsName item_reads (λ x s. item_begun x [] s) (λ x t w s. name_begins t (item_begun x (t ∷ w) s))
    (λ t e impossible. impossible) (λ t impossible. absurd impossible) begins_name

-- blocks

block : Span → Span → List ItemText → Option EndText → BlockText
block head number items end = record { head = head; number = number; items = items; end = end }

AfterColon : Span → Span → Spelling Token BlockText
AfterColon head number = Then (Many SpellsItem) (λ items. Mapped (block head number items) SpellsEndIfAny)

AfterNumber : Span → Span → Spelling Token BlockText
AfterNumber head number = Then Note (λ right. Then (Meant (mark marks.Colon)) (λ k. AfterColon head number))

BlockForm : Spelling Token BlockText
BlockForm = Then (Meant (keyword keywords.Block)) (λ head. Then (Meant (mark marks.Open)) (λ o. Then (Meant plain_number) (AfterNumber head)))

end_apart : (items : List ItemText) (end : Option EndText) (v z : List Token) → SpellsEndIfAny end v → IsApart GoesOnBlock z → IsApart IsName (v ++ z)
end_apart items end [] z s far = apart_within IsName GoesOnBlock name_goes_on z far
  where
    name_goes_on : (t : Token) → IsName t → GoesOnBlock t
    name_goes_on (tokens.Identifier at) h = tt
    name_goes_on (tokens.Ssa at) h = tt
    name_goes_on t h = absurd h
end_apart items end (t ∷ v) z s far = kept t (end_begun end t v s)
  where
    kept : (t : Token) → StartsEnd t → ¬ IsName t
    kept (tokens.Keyword word at) h = λ impossible. impossible
    kept t h = absurd h

body_at : Span → Span → List Token → Answer Token (Unit {0}) BlockText
body_at head number input = items_at input >>= λ items. end_at items.1 >>= λ end. Ok (record { head = head; number = number; items = items.0; end = end.0 }, end.1)

body_reads : (head number : Span) → Reads (AfterColon head number) GoesOnBlock (body_at head number)
unfolding AfterColon block body_at
body_reads head number =
    in_sequence (Many SpellsItem) (λ items. Mapped (block head number items) SpellsEndIfAny) IsName GoesOnBlock (λ items y v z m far. end_apart items m.0 v z m.1 far) items_at
    (λ items. end_at items.1 >>= λ end. Ok (record { head = head; number = number; items = items.0; end = end.0 }, end.1)) items_reads (λ items.
    seen_by (block head number items) SpellsEndIfAny GoesOnBlock end_at end_reads)

block_form_reads : Reads BlockForm GoesOnBlock block_at
unfolding BlockForm AfterNumber AfterColon block body_at
block_form_reads =
    after_token (keyword keywords.Block) tt (some_keyword keywords.Block) (λ head. Then (Meant (mark marks.Open)) (λ o. Then (Meant plain_number) (AfterNumber head))) GoesOnBlock _ (λ head.
    after_token (mark marks.Open) tt (some_mark marks.Open) (λ o. Then (Meant plain_number) (AfterNumber head)) GoesOnBlock _ (λ o.
    after_token plain_number tt some_plain_number (AfterNumber head) GoesOnBlock _ (λ number.
    after_free Note (λ right. Then (Meant (mark marks.Colon)) (λ k. AfterColon head number)) GoesOnBlock note_at _ note_reads (λ right.
    after_token (mark marks.Colon) tt (some_mark marks.Colon) (λ k. AfterColon head number) GoesOnBlock _ (λ k.
    body_reads head number)))))

block_spelled : (x : BlockText) (w : List Token) → BlockForm x w → SpellsBlock x w
unfolding BlockForm AfterNumber AfterColon block
block_spelled x w (head, u, v, word, (o, u1, v1, left, (number, u2, v2, digits, (right, u3, v3, note, (k, u4, v4, colon, (items, u5, v5, many, (end, s, same), cut5), cut4), cut3), cut2), cut1), cut) =
    subst (λ y. SpellsBlock y w) same
    (u, v, word, (u1, v1, (o, left), (u2, v2, digits, (u3, v3, note_spelled right u3 note, (u4, v4, (k, colon), (u5, v5, many, s, cut5), cut4), cut3), cut2), cut1), cut)

block_of : (x : BlockText) (w : List Token) → SpellsBlock x w → BlockForm x w
unfolding BlockForm AfterNumber AfterColon block
block_of x w (u, v, word, (u1, v1, (o, left), (u2, v2, digits, (u3, v3, note, (u4, v4, (k, colon), (u5, v5, many, s, cut5), cut4), cut3), cut2), cut1), cut) =
    let right = note_of u3 note in
    (x.head, u, v, word, (o, u1, v1, left, (x.number, u2, v2, digits, (right.0, u3, v3, right.1, (k, u4, v4, colon, (x.items, u5, v5, many, (x.end, s, refl), cut5), cut4), cut3), cut2), cut1), cut)

-- Blocks.
pub block_reads : Reads SpellsBlock GoesOnBlock block_at
block_reads = in_words BlockForm SpellsBlock GoesOnBlock block_at block_spelled block_of block_form_reads

pub block_exact : (input : List Token) → IsExact SpellsBlock GoesOnBlock input (block_at input)
block_exact input = block_reads.exact input
