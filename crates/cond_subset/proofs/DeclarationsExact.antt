-- Declarations, and the inside of a `with` block, are read exactly.
use Rattle.std.proofs.Common.{◌≡◌, ◌+◌, true, List, [], ◌∷◌, length, Option, Some, None, Ok, Err, refl, sym, ap, subst, ◌∙◌, ◌⊎◌, inl, inr, arith}
use Rattle.std.proofs.lemmas.List.{append-nil}
use Rattle.grammar.specs.Spelling.{Spelling, Begins, Nothing, Meant, Then}
use Rattle.grammar.specs.Exact.{IsExact}
use Rattle.grammar.proofs.Parts as parts
use Rattle.grammar.proofs.Parts.{same_head}
use Rattle.grammar.proofs.Sequence.{Never}
use Rattle.grammar.proofs.EveryInput.{Reads, nothing, after_token, in_words}
use Rattle.grammar.proofs.Items.{items_read}
use Rattle.grammar.proofs.Starts.{first_meant, takes_token, begins_with, before_token}
use Rattle.pm_ops.specs.declared.fault.PatternKind.TheVariants.{CSyntax}
use Rattle.pm_places.specs.declared.span.Span.{Span}
use Rattle.pd_text.specs.declared.symbol.Symbol.{Symbol}
use Rattle.pd_text.specs.declared.symbol.Symbol.TheVariants as symbols
use Rattle.pd_text.specs.declared.symbol.Mark.TheVariants as marks
use Rattle.pd_text.specs.declared.symbol.Word.TheVariants as words
use Rattle.pd_text.specs.Meanings as meanings
use Rattle.cond_subset.specs.declared.tree.DeclWord.{DeclWord}
use Rattle.cond_subset.specs.declared.tree.DeclWord.TheVariants as declared
use Rattle.cond_subset.specs.GoesOn.{GoesOn}
use Rattle.cond_subset.specs.Words.{decl_word}
use Rattle.cond_subset.specs.Grammar.{Spells, Within}
use Rattle.cond_subset.specs.Declarations.{Value, plain, flagged, Decl, valued, overflow, SpellsValue, SpellsValueOf, SpellsDecl, SpellsBlock}
use Rattle.cond_subset.specs.Readers.{readers}
use Rattle.cond_subset.specs.DeclarationReaders.{expression_at, plain_at, value_of_at, valued_at, overflow_at, declared_at, decl_at, begins_decl, block_at, IsInBlock}
use Rattle.cond_subset.proofs.SymbolsExact.{somewhere, some_mark, some_word, some_identifier}
use Rattle.cond_subset.proofs.Ranks.{rank_small, semicolon_apart}
use Rattle.cond_subset.proofs.LinksExact.{some_expression}
use Rattle.cond_subset.proofs.ArgumentsExact.{ends}
use Rattle.cond_subset.proofs.ExpressionsExact.{expression_exact}
use Rattle.cond_subset.proofs.WideValuesExact.{Plain, plain_exact, value_exact}

-- Expressions.
pub expression_reads : Reads Spells (GoesOn 10) expression_at
expression_reads = record {
  some = let some = some_expression 10 in record { value = some.value; after = some.after; spelled = some.spelled.1 };
  exact = λ input.
      parts.in_words (Within 10) Spells (GoesOn 10) input (expression_at input) (λ e w spelled. spelled.1) (λ e w spelled. (rank_small e, spelled))
      (expression_exact (length input + 1) input (omega arith) 10);
}

some_plain : Begins Plain []
some_plain = let some = some_expression 10 in record { value = plain some.value; after = some.after; spelled = (some.value, some.spelled.1, refl) }

-- values, by the word of their declaration

plain_reads : Reads Plain (GoesOn 10) (λ input. plain_at (readers (length input + 1)) input)
plain_reads = record {
  some = some_plain;
  exact = λ input. plain_exact (readers (length input + 1)) (length input + 1) (λ r rest shorter. expression_exact (length input + 1) rest shorter r) input (omega arith);
}

value_reads : Reads SpellsValue (GoesOn 10) (value_of_at declared.WideInt)
value_reads = record {
  some = record { value = some_plain.value; after = some_plain.after; spelled = subst (λ v. SpellsValue v some_plain.after) some_plain.spelled.2 some_plain.spelled.1 };
  exact = λ input. value_exact (readers (length input + 1)) (length input + 1) (λ r rest shorter. expression_exact (length input + 1) rest shorter r) input (omega arith);
}

value_of_reads : (word : DeclWord) → Reads (SpellsValueOf word) (GoesOn 10) (value_of_at word)
value_of_reads declared.WideInt = value_reads
value_of_reads word =
    in_words Plain (SpellsValueOf word) (GoesOn 10) (value_of_at word) to back plain_reads
  where
    to : (v : Value) (w : List Symbol) → Plain v w → SpellsValueOf word v w
    to v w (e, spelled, same) = subst (λ x. SpellsValueOf word x w) same spelled

    back : (v : Value) (w : List Symbol) → SpellsValueOf word v w → Plain v w
    back (plain e) w spelled = (e, spelled, refl)
    back (flagged c args flag) w none = absurd none

-- what stands after the first symbol of a declaration

ToEnd : DeclWord → Span → Value → Spelling Symbol Decl
ToEnd word name v = Then (Meant (meanings.mark marks.Semicolon)) (λ s. Nothing (valued word name v))

ValuedRest : DeclWord → Spelling Symbol Decl
ValuedRest word = Then (Meant meanings.identifier) (λ name. Then (Meant (meanings.mark marks.Assign)) (λ a. Then (SpellsValueOf word) (ToEnd word name)))

valued_reads : (word : DeclWord) → Reads (ValuedRest word) Never (valued_at word)
unfolding ValuedRest ToEnd
valued_reads word =
    after_token meanings.identifier CSyntax some_identifier (λ name. Then (Meant (meanings.mark marks.Assign)) (λ a. Then (SpellsValueOf word) (ToEnd word name))) Never _ (λ name.
    after_token (meanings.mark marks.Assign) CSyntax (some_mark marks.Assign) (λ a. Then (SpellsValueOf word) (ToEnd word name)) Never _ (λ a.
    before_token (SpellsValueOf word) (meanings.mark marks.Semicolon) (λ v s. Nothing (valued word name v)) (GoesOn 10) Never semicolon_apart (value_of_at word) _ (value_of_reads word) (λ v.
    after_token (meanings.mark marks.Semicolon) CSyntax (some_mark marks.Semicolon) (λ s. Nothing (valued word name v)) Never (λ s. Ok (valued word name v, s.1)) (λ s.
    nothing (valued word name v) Never))))

OverflowRest : Spelling Symbol Decl
OverflowRest =
    Then (Meant (meanings.mark marks.DoubleColon)) (λ d. Then (Meant (meanings.word words.OverflowType)) (λ k. Then (Meant meanings.identifier) (λ name.
    Then (Meant (meanings.mark marks.Semicolon)) (λ s. Nothing (overflow name)))))

overflow_reads : Reads OverflowRest Never overflow_at
unfolding OverflowRest
overflow_reads =
    after_token (meanings.mark marks.DoubleColon) CSyntax (some_mark marks.DoubleColon) (λ d. Then (Meant (meanings.word words.OverflowType)) (λ k. Then (Meant meanings.identifier) (λ name. Then (Meant (meanings.mark marks.Semicolon)) (λ s. Nothing (overflow name))))) Never _ (λ d.
    after_token (meanings.word words.OverflowType) CSyntax (some_word words.OverflowType) (λ k. Then (Meant meanings.identifier) (λ name. Then (Meant (meanings.mark marks.Semicolon)) (λ s. Nothing (overflow name)))) Never _ (λ k.
    after_token meanings.identifier CSyntax some_identifier (λ name. Then (Meant (meanings.mark marks.Semicolon)) (λ s. Nothing (overflow name))) Never _ (λ name.
    after_token (meanings.mark marks.Semicolon) CSyntax (some_mark marks.Semicolon) (λ s. Nothing (overflow name)) Never (λ s. Ok (overflow name, s.1)) (λ s.
    nothing (overflow name) Never))))

-- the grammar's words

wide_no_decl : (t : Symbol) (at : Span) (word : DeclWord) → meanings.word words.Wide t ≡ Some at → decl_word t ≡ Some word → ⊥
wide_no_decl (symbols.Word words.Wide p) at word is has = cc
wide_no_decl t at word is has = absurd (cc)

valued_to : (t : Symbol) (word : DeclWord) (x : Decl) (w : List Symbol) → decl_word t ≡ Some word → ValuedRest word x w → SpellsDecl x (t ∷ w)
unfolding ValuedRest ToEnd
valued_to t word x w is (name, u, v, ident, (a, u₁, v₁, assign, (value, u₂, v₂, spelled, (s, u₃, v₃, semicolon, (same, empty), c₃), c₂), c₁), cut) =
    subst (λ d. SpellsDecl d (t ∷ w)) (sym same)
    (t ∷ [], w, (t, is, refl), (u, v, ident, (u₁, v₁, (a, assign), (u₂, v₂, spelled, (s, ends (Meant (meanings.mark marks.Semicolon) s) u₃ v₃ v₂ semicolon empty c₃), c₂), c₁), cut), refl)

overflow_to : (at : Span) (x : Decl) (w : List Symbol) → OverflowRest x w → SpellsDecl x (symbols.Word words.Wide at ∷ w)
unfolding OverflowRest
overflow_to at x w (d, u, v, colons, (k, u₁, v₁, word, (name, u₂, v₂, ident, (s, u₃, v₃, semicolon, (same, empty), c₃), c₂), c₁), cut) =
    subst (λ y. SpellsDecl y (symbols.Word words.Wide at ∷ w)) (sym same) (
      symbols.Word words.Wide at ∷ [],
      w,
      (at, (symbols.Word words.Wide at, refl, refl)),
      (u, v, (d, colons), (u₁, v₁, (k, word), (u₂, v₂, ident, (s, ends (Meant (meanings.mark marks.Semicolon) s) u₃ v₃ v₂ semicolon empty c₃), c₂), c₁), cut),
      refl,
    )

of_valued : (t : Symbol) (word : DeclWord) (x : Decl) (w : List Symbol) → decl_word t ≡ Some word → SpellsDecl x (t ∷ w) → ValuedRest word x w
unfolding ValuedRest ToEnd
of_valued t word (valued k name value) w is (u, v, first, (u₁, v₁, ident, (u₂, v₂, (a, assign), (u₃, v₃, spelled, (s, semicolon), c₃), c₂), c₁), cut) =
    let (found, rest) = first_meant decl_word k t w u v first cut in
    let same : k ≡ word = cc in
    subst (λ n. ValuedRest n (valued k name value) w) same
    (name, u₁, v₁, ident, (a, u₂, v₂, assign, (value, u₃, v₃, spelled, (s, v₃, [], semicolon, (refl, refl), sym (append-nil v₃)), c₃), c₂), sym rest ∙ c₁)
of_valued t word (overflow name) w is (u, v, (at, first), others, cut) =
    let (found, rest) = first_meant (meanings.word words.Wide) at t w u v first cut in
    absurd (wide_no_decl t at word found is)

of_overflow : (at : Span) (x : Decl) (w : List Symbol) → SpellsDecl x (symbols.Word words.Wide at ∷ w) → OverflowRest x w
unfolding OverflowRest
of_overflow at (valued k name value) w (u, v, first, others, cut) =
    let found = begins_with decl_word k (symbols.Word words.Wide at) w u v first cut in
    absurd (cc)
of_overflow at (overflow name) w (u, v, (p, first), (u₁, v₁, (d, colons), (u₂, v₂, (k, word), (u₃, v₃, ident, (s, semicolon), c₃), c₂), c₁), cut) =
    let (found, rest) = first_meant (meanings.word words.Wide) p (symbols.Word words.Wide at) w u v first cut in
    (d, u₁, v₁, colons, (k, u₂, v₂, word, (name, u₃, v₃, ident, (s, v₃, [], semicolon, (refl, refl), sym (append-nil v₃)), c₃), c₂), sym rest ∙ c₁)

-- a declaration begins with one of its words
decl_begins : (x : Decl) (t : Symbol) (w : List Symbol) → SpellsDecl x (t ∷ w) → ((word : DeclWord) × (decl_word t ≡ Some word)) ⊎ ((at : Span) × (meanings.word words.Wide t ≡ Some at))
decl_begins (valued k name value) t w (u, v, first, others, cut) = inl (k, begins_with decl_word k t w u v first cut)
decl_begins (overflow name) t w (u, v, (at, first), others, cut) = inr (at, begins_with (meanings.word words.Wide) at t w u v first cut)

decl_not_empty : (x : Decl) → SpellsDecl x [] → ⊥
decl_not_empty (valued k name value) (u, v, first, others, cut) = takes_token decl_word k u v first cut
decl_not_empty (overflow name) (u, v, (at, first), others, cut) = takes_token (meanings.word words.Wide) at u v first cut

looked_for : (t : Symbol) → ((word : DeclWord) × (decl_word t ≡ Some word)) ⊎ ((at : Span) × (meanings.word words.Wide t ≡ Some at)) → begins_decl t ≡ true
looked_for (symbols.Mark marks.CloseBrace p) (inl (word, is)) = absurd (cc)
looked_for (symbols.Mark marks.CloseBrace p) (inr (at, is)) = absurd (cc)
looked_for t found = refl

some_decl : Begins SpellsDecl []
some_decl =
    let rest = overflow_reads.some in
    record { value = rest.value; after = symbols.Word words.Wide somewhere ∷ rest.after; spelled = overflow_to somewhere rest.value rest.after rest.spelled }

refused : (t : Symbol) (rest : List Symbol) → ((word : DeclWord) → decl_word t ≡ Some word → ⊥) → ((at : Span) → meanings.word words.Wide t ≡ Some at → ⊥)
    → IsExact SpellsDecl Never (t ∷ rest) (Err (CSyntax, t ∷ rest))
refused t rest no_word no_wide =
    parts.refused SpellsDecl Never CSyntax some_decl (t ∷ rest) (λ x spelled far. decl_not_empty x spelled) (λ s l e x w spelled. none s x w (same_head t s rest l e) (decl_begins x s w spelled))
  where
    none : (s : Symbol) (x : Decl) (w : List Symbol) → t ≡ s → ((word : DeclWord) × (decl_word s ≡ Some word)) ⊎ ((at : Span) × (meanings.word words.Wide s ≡ Some at)) → ⊥
    none s x w same (inl (word, is)) = no_word word (ap decl_word same ∙ is)
    none s x w same (inr (at, is)) = no_wide at (ap (meanings.word words.Wide) same ∙ is)

declared_exact : (t : Symbol) (rest : List Symbol) (m : Option DeclWord) → decl_word t ≡ m → ((at : Span) → meanings.word words.Wide t ≡ Some at → ⊥)
    → IsExact SpellsDecl Never (t ∷ rest) (declared_at m rest (t ∷ rest))
declared_exact t rest None is no_wide = refused t rest (λ word has. none_is_some word (sym is ∙ has)) no_wide
  where
    none_is_some : (word : DeclWord) → None ≡ Some word → ⊥
    none_is_some word e = cc
declared_exact t rest (Some word) is no_wide =
    parts.from_token SpellsDecl (ValuedRest word) Never t rest (valued_at word rest) (λ x w spelled. valued_to t word x w is spelled) (λ x w spelled. of_valued t word x w is spelled)
    (λ x spelled. absurd (decl_not_empty x spelled)) ((valued_reads word).exact rest)

decl_exact : (input : List Symbol) → IsExact SpellsDecl Never input (decl_at input)
decl_exact [] = parts.refused SpellsDecl Never CSyntax some_decl [] (λ x spelled far. decl_not_empty x spelled) (λ t rest e. absurd (cc))
decl_exact (symbols.Word words.Wide at ∷ rest) =
    parts.from_token SpellsDecl OverflowRest Never (symbols.Word words.Wide at) rest (overflow_at rest) (overflow_to at) (of_overflow at) (λ x spelled. absurd (decl_not_empty x spelled)) (overflow_reads.exact rest)
decl_exact (t ∷ rest) = declared_exact t rest (decl_word t) refl (λ at is. cc)

decl_reads : Reads SpellsDecl Never decl_at
decl_reads = record { some = some_decl; exact = decl_exact }

-- The inside of a block.
pub block_reads : Reads SpellsBlock IsInBlock block_at
block_reads =
    items_read SpellsDecl begins_decl decl_at Never IsInBlock decl_reads decl_not_empty (λ x t w spelled. looked_for t (decl_begins x t w spelled))
    (λ t e impossible. impossible) (λ t impossible. absurd impossible) (λ t e. e)
