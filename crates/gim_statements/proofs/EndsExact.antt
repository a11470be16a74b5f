-- What ends a block is read exactly.
use Rattle.std.proofs.Common.{◌≡◌, List, [], ◌∷◌, Option, Some, None, Ok, refl, sym, subst, inl, inr}
use Rattle.std.proofs.lemmas.List.{append-nil}
use Rattle.grammar.specs.Spelling.{Spelling, Begins, Nothing, Meant, Then, Mapped}
use Rattle.grammar.specs.Reading.{Answer, ◌>>=◌}
use Rattle.grammar.specs.Exact.{IsExact}
use Rattle.grammar.proofs.Parts.{from_here, skipped}
use Rattle.grammar.proofs.Sequence.{Never}
use Rattle.pm_ops.specs.declared.code.Code.{Code}
use Rattle.pm_ops.specs.declared.code.Code.TheVariants as codes
use Rattle.gim_text.specs.Meanings.{mark, keyword, block_word}
use Rattle.pm_places.specs.declared.span.Span.{Span}
use Rattle.gim_text.specs.declared.token.Token.{Token}
use Rattle.gim_text.specs.declared.token.Token.TheVariants as tokens
use Rattle.gim_text.specs.declared.token.Keyword.TheVariants as keywords
use Rattle.gim_text.specs.declared.token.Mark.TheVariants as marks
use Rattle.gim_text.specs.declared.tree.OperandText.{OperandText}
use Rattle.gim_text.specs.declared.tree.EndText.{EndText}
use Rattle.gim_text.specs.declared.tree.EndText.TheVariants as ends_with
use Rattle.gim_words.specs.Parentheses.{Closing}
use Rattle.gim_words.specs.TokenReaders.{mark_at, keyword_at, closing_at}
use Rattle.grammar.proofs.EveryInput.{Reads, nothing, seen_by, after_token, after_free, in_words, widened}
use Rattle.grammar.proofs.Starts.{Begun, meant_begun, front_begun, before_token, Either, left_of, right_of}
use Rattle.gim_words.proofs.TokensExact.{some_mark, some_keyword, some_block_word, mark_reads}
use Rattle.gim_words.proofs.BalancedExact.{closing_reads}
use Rattle.gim_statements.specs.Words.{comparison_code}
use Rattle.gim_statements.specs.Grammar.{SpellsOperand, SpellsJump, SpellsEnd, SpellsEndIfAny, GoesOnBlock}
use Rattle.gim_statements.specs.OperandReaders.{operand_at}
use Rattle.gim_statements.specs.BlockReaders.{jump_end_at, jump_at, if_at, return_at, end_at}
use Rattle.gim_statements.proofs.OperandsExact.{IsOpen, open_is, operand_reads}
use Rattle.gim_statements.proofs.RightsExact.{close_apart, ends}

-- jumps

NoteForm : Spelling Token Span
NoteForm = Then (Meant (mark marks.Open)) (λ o. Then Closing (λ k. Meant (mark marks.Semicolon)))

JumpEnd : Spelling Token Span
JumpEnd = Either (Meant (mark marks.Semicolon)) NoteForm

note_form_reads : Reads NoteForm Never (λ input. mark_at marks.Open input >>= λ o. closing_at o.1 >>= λ k. mark_at marks.Semicolon k.1)
unfolding NoteForm
note_form_reads =
    after_token (mark marks.Open) tt (some_mark marks.Open) (λ o. Then Closing (λ k. Meant (mark marks.Semicolon))) Never (λ o. closing_at o.1 >>= λ k. mark_at marks.Semicolon k.1) (λ o.
    after_free Closing (λ k. Meant (mark marks.Semicolon)) Never closing_at (λ k. mark_at marks.Semicolon k.1) closing_reads (λ k. mark_reads marks.Semicolon Never))

note_form_begun : (x : Span) (w : List Token) → NoteForm x w → Begun IsOpen w
unfolding NoteForm
note_form_begun x w (o, u, v, left, others, cut) = front_begun IsOpen u v w (meant_begun (mark marks.Open) IsOpen open_is o u left) cut

abbrev IsSemicolon : Token → Type 0
IsSemicolon (tokens.Mark marks.Semicolon at) = Unit {0}
IsSemicolon t = ⊥

semicolon_is : (t : Token) (x : Span) → mark marks.Semicolon t ≡ Some x → IsSemicolon t
semicolon_is (tokens.Mark marks.Semicolon at) x e = tt
semicolon_is t x e = absurd (cc)

jump_end_exact : (input : List Token) → IsExact JumpEnd Never input (jump_end_at input)
unfolding JumpEnd
jump_end_exact (tokens.Mark marks.Open at ∷ rest) =
    right_of (Meant (mark marks.Semicolon)) NoteForm Never IsSemicolon (meant_begun (mark marks.Semicolon) IsSemicolon semicolon_is) note_form_reads.some
    (tokens.Mark marks.Open at ∷ rest) (jump_end_at (tokens.Mark marks.Open at ∷ rest)) (λ h. h) (note_form_reads.exact (tokens.Mark marks.Open at ∷ rest))
jump_end_exact input =
    left_of (Meant (mark marks.Semicolon)) NoteForm Never IsOpen note_form_begun (some_mark marks.Semicolon) input (mark_at marks.Semicolon input) (λ h. h)
    ((mark_reads marks.Semicolon Never).exact input)

jump_end_reads : Reads JumpEnd Never jump_end_at
unfolding JumpEnd
jump_end_reads =
    let some = some_mark marks.Semicolon in
    record { some = record { value = some.value; after = some.after; spelled = inl some.spelled }; exact = λ input. jump_end_exact input }

JumpForm : Spelling Token Span
JumpForm = Then (Meant (keyword keywords.Goto)) (λ g. Then (Meant block_word) (λ target. Mapped (λ e. target) JumpEnd))

jump_form_reads : Reads JumpForm Never jump_at
unfolding JumpForm
jump_form_reads =
    after_token (keyword keywords.Goto) tt (some_keyword keywords.Goto) (λ g. Then (Meant block_word) (λ target. Mapped (λ e. target) JumpEnd)) Never _ (λ g.
    after_token block_word tt some_block_word (λ target. Mapped (λ e. target) JumpEnd) Never _ (λ target.
    seen_by (λ e. target) JumpEnd Never jump_end_at jump_end_reads))

jump_reads : Reads SpellsJump Never jump_at
unfolding JumpForm JumpEnd NoteForm
jump_reads = in_words JumpForm SpellsJump Never jump_at to back jump_form_reads
  where
    to : (x : Span) (w : List Token) → JumpForm x w → SpellsJump x w
    to x w (g, u, v, goto, (target, u1, v1, word, (e, inl semicolon, same), cut1), cut) =
        subst (λ y. SpellsJump y w) same (u, v, (g, goto), (u1, v1, word, inl (e, semicolon), cut1), cut)
    to x w (g, u, v, goto, (target, u1, v1, word, (e, inr (o, u2, v2, left, (k, u3, v3, closing, semicolon, cut3), cut2), same), cut1), cut) =
        subst (λ y. SpellsJump y w) same (u, v, (g, goto), (u1, v1, word, inr (u2, v2, (o, left), (u3, v3, (k, closing), (e, semicolon), cut3), cut2), cut1), cut)

    back : (x : Span) (w : List Token) → SpellsJump x w → JumpForm x w
    back x w (u, v, (g, goto), (u1, v1, word, inl (e, semicolon), cut1), cut) = (g, u, v, goto, (x, u1, v1, word, (e, inl semicolon, refl), cut1), cut)
    back x w (u, v, (g, goto), (u1, v1, word, inr (u2, v2, (o, left), (u3, v3, (k, closing), (e, semicolon), cut3), cut2), cut1), cut) =
        (g, u, v, goto, (x, u1, v1, word, (e, inr (o, u2, v2, left, (k, u3, v3, closing, semicolon, cut3), cut2), refl), cut1), cut)

-- conditional jumps

compared_apart : (t : Token) → IsOpen t → comparison_code t ≡ None
compared_apart (tokens.Mark marks.Open at) h = refl
compared_apart t h = absurd h

Targets : Code → OperandText → OperandText → Spelling Token EndText
Targets op a b = Then SpellsJump (λ target. Then (Meant (keyword keywords.Else)) (λ e. Mapped (ends_with.If op a b target) SpellsJump))

AfterFirst : OperandText → Code → Spelling Token EndText
AfterFirst a op = Then SpellsOperand (λ b. Then (Meant (mark marks.Close)) (λ k. Targets op a b))

IfForm : Spelling Token EndText
IfForm = Then (Meant (keyword keywords.If)) (λ i. Then (Meant (mark marks.Open)) (λ o. Then SpellsOperand (λ a. Then (Meant comparison_code) (AfterFirst a))))

if_reads : Reads IfForm Never (λ input. keyword_at keywords.If input >>= λ i. if_at i.1)
unfolding IfForm AfterFirst Targets
if_reads =
    after_token (keyword keywords.If) tt (some_keyword keywords.If) (λ i. Then (Meant (mark marks.Open)) (λ o. Then SpellsOperand (λ a. Then (Meant comparison_code) (AfterFirst a)))) Never (λ i. if_at i.1) (λ i.
    after_token (mark marks.Open) tt (some_mark marks.Open) (λ o. Then SpellsOperand (λ a. Then (Meant comparison_code) (AfterFirst a))) Never _ (λ o.
    before_token SpellsOperand comparison_code (λ a op. AfterFirst a op) IsOpen Never compared_apart operand_at _ operand_reads (λ a.
    after_token comparison_code tt some_comparison (AfterFirst a) Never _ (λ op.
    before_token SpellsOperand (mark marks.Close) (λ b k. Targets op a b) IsOpen Never close_apart operand_at _ operand_reads (λ b.
    after_token (mark marks.Close) tt (some_mark marks.Close) (λ k. Targets op a b) Never _ (λ k.
    after_free SpellsJump (λ target. Then (Meant (keyword keywords.Else)) (λ e. Mapped (ends_with.If op a b target) SpellsJump)) Never jump_at _ jump_reads (λ target.
    after_token (keyword keywords.Else) tt (some_keyword keywords.Else) (λ e. Mapped (ends_with.If op a b target) SpellsJump) Never _ (λ e.
    seen_by (ends_with.If op a b target) SpellsJump Never jump_at jump_reads))))))))
  where
    some_comparison : Begins (Meant comparison_code) []
    some_comparison = record { value = codes.Eq; after = tokens.Mark marks.Equal (record { from = 0; to = 0 }) ∷ []; spelled = (tokens.Mark marks.Equal (record { from = 0; to = 0 }), refl, refl) }

-- returns

semicolon_apart : (t : Token) → IsOpen t → mark marks.Semicolon t ≡ None
semicolon_apart (tokens.Mark marks.Open at) h = refl
semicolon_apart t h = absurd h

ReturnForm : Spelling Token EndText
ReturnForm = Then (Meant (keyword keywords.Return)) (λ r. Then SpellsOperand (λ a. Then (Meant (mark marks.Semicolon)) (λ e. Nothing (ends_with.Return a))))

return_reads : Reads ReturnForm Never (λ input. keyword_at keywords.Return input >>= λ r. return_at r.1)
unfolding ReturnForm
return_reads =
    after_token (keyword keywords.Return) tt (some_keyword keywords.Return) (λ r. Then SpellsOperand (λ a. Then (Meant (mark marks.Semicolon)) (λ e. Nothing (ends_with.Return a)))) Never (λ r. return_at r.1) (λ r.
    before_token SpellsOperand (mark marks.Semicolon) (λ a e. Nothing (ends_with.Return a)) IsOpen Never semicolon_apart operand_at _ operand_reads (λ a.
    after_token (mark marks.Semicolon) tt (some_mark marks.Semicolon) (λ e. Nothing (ends_with.Return a)) Never (λ e. Ok (ends_with.Return a, e.1)) (λ e.
    nothing (ends_with.Return a) Never)))

-- ends

abbrev IsGoto : Token → Type 0
IsGoto (tokens.Keyword keywords.Goto at) = Unit {0}
IsGoto t = ⊥

abbrev IsIf : Token → Type 0
IsIf (tokens.Keyword keywords.If at) = Unit {0}
IsIf t = ⊥

abbrev IsReturn : Token → Type 0
IsReturn (tokens.Keyword keywords.Return at) = Unit {0}
IsReturn t = ⊥

goto_is : (t : Token) (x : Span) → keyword keywords.Goto t ≡ Some x → IsGoto t
goto_is (tokens.Keyword keywords.Goto at) x e = tt
goto_is t x e = absurd (cc)

if_is : (t : Token) (x : Span) → keyword keywords.If t ≡ Some x → IsIf t
if_is (tokens.Keyword keywords.If at) x e = tt
if_is t x e = absurd (cc)

return_is : (t : Token) (x : Span) → keyword keywords.Return t ≡ Some x → IsReturn t
return_is (tokens.Keyword keywords.Return at) x e = tt
return_is t x e = absurd (cc)

jump_begun : (x : Span) (w : List Token) → SpellsJump x w → Begun IsGoto w
jump_begun x w (u, v, (g, goto), others, cut) = front_begun IsGoto u v w (meant_begun (keyword keywords.Goto) IsGoto goto_is g u goto) cut

if_begun : (x : EndText) (w : List Token) → IfForm x w → Begun IsIf w
unfolding IfForm
if_begun x w (i, u, v, word, others, cut) = front_begun IsIf u v w (meant_begun (keyword keywords.If) IsIf if_is i u word) cut

return_begun : (x : EndText) (w : List Token) → ReturnForm x w → Begun IsReturn w
unfolding ReturnForm
return_begun x w (r, u, v, word, others, cut) = front_begun IsReturn u v w (meant_begun (keyword keywords.Return) IsReturn return_is r u word) cut

-- the three ends, and none
data Sort (x : Option EndText) (w : List Token) : Type 0 where
  no_end : x ≡ None → w ≡ [] → Sort x w
  a_jump : Mapped (λ target. Some (ends_with.Goto target)) SpellsJump x w → Sort x w
  an_if : Mapped (λ end. Some end) IfForm x w → Sort x w
  a_return : Mapped (λ end. Some end) ReturnForm x w → Sort x w

sort_of : (x : Option EndText) (w : List Token) → SpellsEndIfAny x w → Sort x w
unfolding IfForm AfterFirst Targets ReturnForm
sort_of None w s = no_end refl s
sort_of (Some (ends_with.Goto target)) w s = a_jump (target, s, refl)
sort_of (Some (ends_with.If op a b target other)) w
    (u, v, (i, word), (u1, v1, (o, left), (u2, v2, first, (u3, v3, code, (u4, v4, second, (u5, v5, (k, close), (u6, v6, jump, (u7, v7, (e, else_word), second_jump, cut7), cut6), cut5), cut4), cut3), cut2), cut1), cut) =
    an_if (
      ends_with.If op a b target other,
      (i, u, v, word, (o, u1, v1, left, (a, u2, v2, first, (op, u3, v3, code, (b, u4, v4, second, (k, u5, v5, close, (target, u6, v6, jump, (e, u7, v7, else_word, (other, second_jump, refl), cut7), cut6), cut5), cut4), cut3), cut2), cut1), cut),
      refl,
    )
sort_of (Some (ends_with.Return a)) w (u, v, (r, word), (u1, v1, s, (e, semicolon), cut1), cut) =
    a_return (ends_with.Return a, (r, u, v, word, (a, u1, v1, s, (e, v1, [], semicolon, (refl, refl), sym (append-nil v1)), cut1), cut), refl)

if_spelled : (x : EndText) (w : List Token) → IfForm x w → SpellsEnd x w
unfolding IfForm AfterFirst Targets
if_spelled x w (i, u, v, word, (o, u1, v1, left, (a, u2, v2, first, (op, u3, v3, code, (b, u4, v4, second, (k, u5, v5, close, (target, u6, v6, jump, (e, u7, v7, else_word, (other, second_jump, same), cut7), cut6), cut5), cut4), cut3), cut2), cut1), cut) =
    subst (λ y. SpellsEnd y w) same
    (u, v, (i, word), (u1, v1, (o, left), (u2, v2, first, (u3, v3, code, (u4, v4, second, (u5, v5, (k, close), (u6, v6, jump, (u7, v7, (e, else_word), second_jump, cut7), cut6), cut5), cut4), cut3), cut2), cut1), cut)

return_spelled : (x : EndText) (w : List Token) → ReturnForm x w → SpellsEnd x w
unfolding ReturnForm
return_spelled x w (r, u, v, word, (a, u1, v1, s, (e, u2, v2, semicolon, (same, empty), cut2), cut1), cut) =
    subst (λ y. SpellsEnd y w) (sym same) (u, v, (r, word), (u1, v1, s, (e, ends (Meant (mark marks.Semicolon) e) u2 v2 v1 semicolon empty cut2), cut1), cut)

-- ends by their first token

-- an end begins so
abbrev pub StartsEnd : Token → Type 0
StartsEnd (tokens.Keyword keywords.Goto at) = Unit {0}
StartsEnd (tokens.Keyword keywords.If at) = Unit {0}
StartsEnd (tokens.Keyword keywords.Return at) = Unit {0}
StartsEnd t = ⊥

goto_starts : (t : Token) → IsGoto t → StartsEnd t
goto_starts (tokens.Keyword keywords.Goto at) h = tt
goto_starts t h = absurd h

if_starts : (t : Token) → IsIf t → StartsEnd t
if_starts (tokens.Keyword keywords.If at) h = tt
if_starts t h = absurd h

return_starts : (t : Token) → IsReturn t → StartsEnd t
return_starts (tokens.Keyword keywords.Return at) h = tt
return_starts t h = absurd h

pub end_begun : (x : Option EndText) (t : Token) (w : List Token) → SpellsEndIfAny x (t ∷ w) → StartsEnd t
end_begun x t w s = by_sort (sort_of x (t ∷ w) s)
  where
    by_sort : Sort x (t ∷ w) → StartsEnd t
    by_sort (no_end same empty) = absurd (cc)
    by_sort (a_jump (target, s, same)) = goto_starts t (jump_begun target (t ∷ w) s)
    by_sort (an_if (end, s, same)) = if_starts t (if_begun end (t ∷ w) s)
    by_sort (a_return (end, s, same)) = return_starts t (return_begun end (t ∷ w) s)

no_end_exact : (input : List Token) → ¬ Begun StartsEnd input → IsExact {E = Unit {0}} SpellsEndIfAny GoesOnBlock input (Ok (None, input))
no_end_exact input none = skipped SpellsEndIfAny GoesOnBlock None refl (λ x s. alone x (sort_of x [] s)) input refuses
  where
    alone : (x : Option EndText) → Sort x [] → x ≡ None
    alone x (no_end same empty) = same
    alone x (a_jump (target, s, same)) = absurd (jump_begun target [] s)
    alone x (an_if (end, s, same)) = absurd (if_begun end [] s)
    alone x (a_return (end, s, same)) = absurd (return_begun end [] s)

    refuses : (t : Token) (rest : List Token) → input ≡ t ∷ rest → (x : Option EndText) (w : List Token) → SpellsEndIfAny x (t ∷ w) → ⊥
    refuses t rest e x w s = none (subst (λ l. Begun StartsEnd l) (sym e) (end_begun x t w s))

-- what ends by itself, counted as going on by the tokens that go on a block
in_block : {A : Type 0} (N : Spelling Token A) (read : List Token → Answer Token (Unit {0}) A) → Reads N Never read → (input : List Token) → IsExact N GoesOnBlock input (read input)
in_block N read reads input = (widened N Never GoesOnBlock read (λ t h. absurd h) reads).exact input

end_exact : (input : List Token) → IsExact SpellsEndIfAny GoesOnBlock input (end_at input)
end_exact (tokens.Keyword keywords.Goto at ∷ rest) =
    from_here (Mapped (λ target. Some (ends_with.Goto target)) SpellsJump) SpellsEndIfAny GoesOnBlock (tokens.Keyword keywords.Goto at) rest (end_at (tokens.Keyword keywords.Goto at ∷ rest))
    to (λ x w s. back x w (sort_of x (tokens.Keyword keywords.Goto at ∷ w) s)) (λ x s. tt)
    (in_block (Mapped (λ target. Some (ends_with.Goto target)) SpellsJump) (λ input. jump_at input >>= λ target. Ok (Some (ends_with.Goto target.0), target.1)) (seen_by (λ target. Some (ends_with.Goto target)) SpellsJump Never jump_at jump_reads) (tokens.Keyword keywords.Goto at ∷ rest))
  where
    to : (x : Option EndText) (w : List Token) → Mapped (λ target. Some (ends_with.Goto target)) SpellsJump x w → SpellsEndIfAny x w
    to x w (target, s, same) = subst (λ y. SpellsEndIfAny y w) same s

    back : (x : Option EndText) (w : List Token) → Sort x (tokens.Keyword keywords.Goto at ∷ w) → Mapped (λ target. Some (ends_with.Goto target)) SpellsJump x (tokens.Keyword keywords.Goto at ∷ w)
    back x w (no_end same empty) = absurd (cc)
    back x w (a_jump s) = s
    back x w (an_if (end, s, same)) = absurd (if_begun end (tokens.Keyword keywords.Goto at ∷ w) s)
    back x w (a_return (end, s, same)) = absurd (return_begun end (tokens.Keyword keywords.Goto at ∷ w) s)
end_exact (tokens.Keyword keywords.If at ∷ rest) =
    from_here (Mapped (λ end. Some end) IfForm) SpellsEndIfAny GoesOnBlock (tokens.Keyword keywords.If at) rest (end_at (tokens.Keyword keywords.If at ∷ rest))
    to (λ x w s. back x w (sort_of x (tokens.Keyword keywords.If at ∷ w) s)) (λ x s. tt)
    (in_block (Mapped (λ end. Some end) IfForm) (λ input. (keyword_at keywords.If input >>= λ i. if_at i.1) >>= λ end. Ok (Some end.0, end.1)) (seen_by (λ end. Some end) IfForm Never (λ input. keyword_at keywords.If input >>= λ i. if_at i.1) if_reads) (tokens.Keyword keywords.If at ∷ rest))
  where
    to : (x : Option EndText) (w : List Token) → Mapped (λ end. Some end) IfForm x w → SpellsEndIfAny x w
    to x w (end, s, same) = subst (λ y. SpellsEndIfAny y w) same (if_spelled end w s)

    back : (x : Option EndText) (w : List Token) → Sort x (tokens.Keyword keywords.If at ∷ w) → Mapped (λ end. Some end) IfForm x (tokens.Keyword keywords.If at ∷ w)
    back x w (no_end same empty) = absurd (cc)
    back x w (a_jump (target, s, same)) = absurd (jump_begun target (tokens.Keyword keywords.If at ∷ w) s)
    back x w (an_if s) = s
    back x w (a_return (end, s, same)) = absurd (return_begun end (tokens.Keyword keywords.If at ∷ w) s)
end_exact (tokens.Keyword keywords.Return at ∷ rest) =
    from_here (Mapped (λ end. Some end) ReturnForm) SpellsEndIfAny GoesOnBlock (tokens.Keyword keywords.Return at) rest (end_at (tokens.Keyword keywords.Return at ∷ rest))
    to (λ x w s. back x w (sort_of x (tokens.Keyword keywords.Return at ∷ w) s)) (λ x s. tt)
    (in_block (Mapped (λ end. Some end) ReturnForm) (λ input. (keyword_at keywords.Return input >>= λ r. return_at r.1) >>= λ end. Ok (Some end.0, end.1)) (seen_by (λ end. Some end) ReturnForm Never (λ input. keyword_at keywords.Return input >>= λ r. return_at r.1) return_reads) (tokens.Keyword keywords.Return at ∷ rest))
  where
    to : (x : Option EndText) (w : List Token) → Mapped (λ end. Some end) ReturnForm x w → SpellsEndIfAny x w
    to x w (end, s, same) = subst (λ y. SpellsEndIfAny y w) same (return_spelled end w s)

    back : (x : Option EndText) (w : List Token) → Sort x (tokens.Keyword keywords.Return at ∷ w) → Mapped (λ end. Some end) ReturnForm x (tokens.Keyword keywords.Return at ∷ w)
    back x w (no_end same empty) = absurd (cc)
    back x w (a_jump (target, s, same)) = absurd (jump_begun target (tokens.Keyword keywords.Return at ∷ w) s)
    back x w (an_if (end, s, same)) = absurd (if_begun end (tokens.Keyword keywords.Return at ∷ w) s)
    back x w (a_return s) = s
end_exact input = no_end_exact input (λ h. h)

-- What ends a block, if anything does.
pub end_reads : Reads SpellsEndIfAny GoesOnBlock end_at
end_reads = record { some = record { value = None; after = []; spelled = refl }; exact = λ input. end_exact input }
