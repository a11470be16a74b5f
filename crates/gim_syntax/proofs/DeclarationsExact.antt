-- Parameters and locals are read exactly.
use Rattle.std.proofs.Common.{◌≡◌, List, [], ◌∷◌, ◌++◌, true, Some, Ok, refl, sym, ap, subst, ◌∙◌, inl, inr}
use Rattle.grammar.specs.Spelling.{Nothing, Meant, Then, Mapped, Many}
use Rattle.grammar.specs.Reading.{◌>>=◌}
use Rattle.grammar.specs.Exact.{IsExact}
use Rattle.grammar.proofs.Parts as parts
use Rattle.grammar.proofs.Sequence.{Never}
use Rattle.pm_wide.specs.Types.{Ty}
use Rattle.gim_text.specs.Meanings.{mark, keyword, identifier}
use Rattle.pm_places.specs.declared.span.Span.{Span}
use Rattle.gim_text.specs.declared.token.Token.{Token}
use Rattle.gim_text.specs.declared.token.Token.TheVariants as tokens
use Rattle.gim_text.specs.declared.token.TypeWord.{TypeWord}
use Rattle.gim_text.specs.declared.token.Mark.TheVariants as marks
use Rattle.gim_text.specs.declared.token.Keyword.TheVariants as keywords
use Rattle.gim_text.specs.declared.tree.DeclText.{DeclText}
use Rattle.gim_words.specs.TokenReaders.{mark_at, name_at}
use Rattle.grammar.proofs.EveryInput.{Reads, seen_by, after_free, after_token, in_words, apart_before}
use Rattle.gim_words.proofs.TokensExact.{some_mark, mark_reads, name_reads, comma_is}
use Rattle.gim_words.specs.Types.{SpellsType, GoesOnType}
use Rattle.gim_words.specs.TypeReaders.{type_at}
use Rattle.gim_words.proofs.TypesExact.{type_not_empty, type_begins, type_reads}
use Rattle.gim_syntax.specs.Grammar.{SpellsTyped, SpellsDecl, SpellsFurther, SpellsParams}
use Rattle.grammar.specs.Reading.{and_item, more_at}
use Rattle.gim_words.specs.TokenReaders.{is_comma}
use Rattle.gim_syntax.specs.Readers.{typed_at, decl_at, begins_type, decls_at, further_at, param_list_at, params_at}
use Rattle.grammar.proofs.Items.{Added, items_added, items_read}
use Rattle.grammar.proofs.Starts.{takes_token, begins_with}

-- type ident

decl_of : Ty → Span → DeclText
decl_of ty ident = record { ty = ty; ident = ident }

Ident : Ty → DeclText → List Token → Type 0
Ident ty = Mapped (decl_of ty) (Meant identifier)

no_type_word : (t : Token) (name : Span) → identifier t ≡ Some name → ¬ GoesOnType t
no_type_word (tokens.TypeWord word at) name e = absurd (cc)
no_type_word t name e = λ goes_on. goes_on

pub typed_reads : Reads SpellsTyped Never typed_at
unfolding decl_of Ident
typed_reads =
    in_words (Then SpellsType Ident) SpellsTyped Never typed_at to back
    (apart_before SpellsType Ident GoesOnType Never
    (λ ty decl m. not_empty ty decl m) (λ ty decl t v m. apart ty decl t v m)
    type_at (λ ty. name_at ty.1 >>= λ ident. Ok (decl_of ty.0 ident.0, ident.1)) type_reads
    (λ ty. seen_by (decl_of ty) (Meant identifier) Never name_at (name_reads Never)))
  where
    not_empty : (ty : Ty) (decl : DeclText) → Ident ty decl [] → ⊥
    not_empty ty decl (name, (t, is, one), same) = cc

    apart : (ty : Ty) (decl : DeclText) (t : Token) (v : List Token) → Ident ty decl (t ∷ v) → ¬ GoesOnType t
    apart ty decl t v (name, (s, is, one), same) = let head : s ≡ t = cc in subst (λ h. ¬ GoesOnType h) head (no_type_word s name is)

    to : (decl : DeclText) (w : List Token) → Then SpellsType Ident decl w → SpellsTyped decl w
    to decl w (ty, u, v, spelled, (name, meant, same), cut) = subst (λ d. SpellsTyped d w) same (u, v, spelled, meant, cut)

    back : (decl : DeclText) (w : List Token) → SpellsTyped decl w → Then SpellsType Ident decl w
    back decl w (u, v, spelled, meant, cut) = (decl.ty, u, v, spelled, (decl.ident, meant, refl), cut)

word_begins : (h : Token) → GoesOnType h → begins_type h ≡ true
word_begins (tokens.TypeWord word at) goes_on = refl
word_begins h goes_on = absurd goes_on

pub typed_begins : (decl : DeclText) (t : Token) (w : List Token) → SpellsTyped decl (t ∷ w) → begins_type t ≡ true
typed_begins decl t w (u, v, spelled, meant, cut) = in_words_of u spelled cut
  where
    in_words_of : (u : List Token) → SpellsType decl.ty u → t ∷ w ≡ u ++ v → begins_type t ≡ true
    in_words_of [] spelled cut = absurd (type_not_empty decl.ty spelled)
    in_words_of (h ∷ u) spelled cut = let same : h ≡ t = cc in subst (λ k. begins_type k ≡ true) same (word_begins h (type_begins decl.ty h u spelled))

pub typed_not_empty : (decl : DeclText) → SpellsTyped decl [] → ⊥
typed_not_empty decl (u, v, spelled, meant, cut) = in_words_of u spelled cut
  where
    in_words_of : (u : List Token) → SpellsType decl.ty u → [] ≡ u ++ v → ⊥
    in_words_of [] spelled cut = type_not_empty decl.ty spelled
    in_words_of (h ∷ u) spelled cut = cc

-- the same of what begins with a declaration
first_begins : (t : Token) (decl : DeclText) (w first others : List Token) → SpellsTyped decl first → t ∷ w ≡ first ++ others → begins_type t ≡ true
first_begins t decl w [] others typed cut = absurd (typed_not_empty decl typed)
first_begins t decl w (h ∷ first) others typed cut = let same : h ≡ t = cc in subst (λ k. begins_type k ≡ true) same (typed_begins decl h first typed)

first_not_empty : (decl : DeclText) (first others : List Token) → SpellsTyped decl first → [] ≡ first ++ others → ⊥
first_not_empty decl [] others typed cut = typed_not_empty decl typed
first_not_empty decl (h ∷ first) others typed cut = cc

-- locals

constantly : DeclText → Span → DeclText
constantly decl at = decl

DeclParts : DeclText → List Token → Type 0
DeclParts = Then SpellsTyped (λ decl. Mapped (constantly decl) (Meant (mark marks.Semicolon)))

decl_reads : Reads SpellsDecl Never decl_at
unfolding DeclParts constantly
decl_reads =
    in_words DeclParts SpellsDecl Never decl_at to back
    (after_free SpellsTyped (λ decl. Mapped (constantly decl) (Meant (mark marks.Semicolon))) Never
    typed_at (λ decl. mark_at marks.Semicolon decl.1 >>= λ semicolon. Ok (decl.0, semicolon.1)) typed_reads
    (λ decl. seen_by (constantly decl) (Meant (mark marks.Semicolon)) Never (mark_at marks.Semicolon) (mark_reads marks.Semicolon Never)))
  where
    to : (decl : DeclText) (w : List Token) → DeclParts decl w → SpellsDecl decl w
    to decl w (first, u, v, typed, (at, meant, same), cut) = subst (λ d. SpellsDecl d w) same (u, v, typed, (at, meant), cut)

    back : (decl : DeclText) (w : List Token) → SpellsDecl decl w → DeclParts decl w
    back decl w (u, v, typed, (at, meant), cut) = (decl, u, v, typed, (at, meant, refl), cut)

decl_not_empty : (decl : DeclText) → SpellsDecl decl [] → ⊥
decl_not_empty decl (u, v, typed, semicolon, cut) = first_not_empty decl u v typed cut

decl_begins : (decl : DeclText) (t : Token) (w : List Token) → SpellsDecl decl (t ∷ w) → begins_type t ≡ true
decl_begins decl t w (u, v, typed, semicolon, cut) = first_begins t decl w u v typed cut

type_goes_on : (t : Token) → begins_type t ≡ true → GoesOnType t
type_goes_on (tokens.TypeWord word at) e = tt
type_goes_on t e = absurd (cc)

pub decls_reads : Reads (Many SpellsDecl) GoesOnType decls_at
decls_reads = items_read SpellsDecl begins_type decl_at Never GoesOnType decl_reads decl_not_empty decl_begins (λ t e impossible. impossible) (λ t impossible. absurd impossible) type_goes_on

-- parameters

-- what can go on parameters: a comma, and where there are none `void` and a type
abbrev pub GoesOnParams : Token → Type 0
GoesOnParams (tokens.Mark marks.Comma at) = Unit {0}
GoesOnParams (tokens.Keyword keywords.Void at) = Unit {0}
GoesOnParams (tokens.TypeWord word at) = Unit {0}
GoesOnParams token = ⊥

further_reads : Reads SpellsFurther Never further_at
further_reads =
    in_words (Then (Meant (mark marks.Comma)) (λ at. SpellsTyped)) SpellsFurther Never further_at
    (λ decl w (at, u, v, meant, typed, cut). (u, v, (at, meant), typed, cut)) (λ decl w (u, v, (at, meant), typed, cut). (at, u, v, meant, typed, cut))
    (after_token (mark marks.Comma) tt (some_mark marks.Comma) (λ at. SpellsTyped) Never (λ comma. typed_at comma.1) (λ at. typed_reads))

further_not_empty : (decl : DeclText) → SpellsFurther decl [] → ⊥
further_not_empty decl (u, v, (at, meant), typed, cut) = takes_token (mark marks.Comma) at u v meant cut

further_begins : (decl : DeclText) (t : Token) (w : List Token) → SpellsFurther decl (t ∷ w) → is_comma t ≡ true
further_begins decl t w (u, v, (at, meant), typed, cut) = comma_is t at (begins_with (mark marks.Comma) at t w u v meant cut)

comma_goes_on : (t : Token) → is_comma t ≡ true → GoesOnParams t
comma_goes_on (tokens.Mark marks.Comma at) e = tt
comma_goes_on t e = absurd (cc)

single : DeclText → List DeclText
single decl = [] ++ decl ∷ []

ParamList : List DeclText → List Token → Type 0
ParamList = Then (Mapped single SpellsTyped) (Added SpellsFurther)

param_list_reads : Reads ParamList GoesOnParams param_list_at
unfolding single ParamList
param_list_reads =
    after_free (Mapped single SpellsTyped) (Added SpellsFurther) GoesOnParams (λ input. and_item [] (typed_at input)) (λ first. more_at is_comma further_at first.0 first.1)
    (seen_by single SpellsTyped Never typed_at typed_reads)
    (λ before. items_added SpellsFurther is_comma further_at Never GoesOnParams further_reads further_not_empty further_begins (λ t e impossible. impossible) (λ t impossible. absurd impossible) comma_goes_on before)

only_none : (params : List DeclText) → SpellsParams params [] → params ≡ []
only_none [] s = refl
only_none (param ∷ params) (first, others, typed, many, cut) = absurd (first_not_empty param first others typed cut)

void_is : (t : Token) (at : Span) → keyword keywords.Void t ≡ Some at → t ≡ tokens.Keyword keywords.Void at
void_is (tokens.Keyword keywords.Void place) at e = cc
void_is t at e = absurd (cc)

-- what begins with `void`
void_exact : (at : Span) (rest : List Token) → IsExact {E = Unit {0}} SpellsParams GoesOnParams (tokens.Keyword keywords.Void at ∷ rest) (Ok ([], rest))
void_exact at rest =
    parts.from_token SpellsParams (Nothing []) GoesOnParams (tokens.Keyword keywords.Void at) rest (Ok ([], rest)) to back (λ x s. tt) (parts.nothing [] GoesOnParams rest)
  where
    to : (params : List DeclText) (w : List Token) → Nothing [] params w → SpellsParams params (tokens.Keyword keywords.Void at ∷ w)
    to params w (same, empty) =
        subst (λ ps. SpellsParams ps (tokens.Keyword keywords.Void at ∷ w)) (sym same) (inr (at, (tokens.Keyword keywords.Void at, refl, ap (λ l. tokens.Keyword keywords.Void at ∷ l) empty)))

    back : (params : List DeclText) (w : List Token) → SpellsParams params (tokens.Keyword keywords.Void at ∷ w) → Nothing [] params w
    back [] w (inl e) = absurd (cc)
    back [] w (inr (place, (t, is, e))) = (refl, cc)
    back (param ∷ params) w (first, others, typed, many, cut) =
        let begun : begins_type (tokens.Keyword keywords.Void at) ≡ true = first_begins (tokens.Keyword keywords.Void at) param w first others typed cut in
        absurd (cc)

-- what begins with a word of a type
typed_exact : (word : TypeWord) (at : Span) (rest : List Token) → IsExact SpellsParams GoesOnParams (tokens.TypeWord word at ∷ rest) (param_list_at (tokens.TypeWord word at ∷ rest))
unfolding single ParamList
typed_exact word at rest =
    parts.from_here ParamList SpellsParams GoesOnParams (tokens.TypeWord word at) rest (param_list_at (tokens.TypeWord word at ∷ rest)) to back (λ x s. tt)
    (param_list_reads.exact (tokens.TypeWord word at ∷ rest))
  where
    to : (params : List DeclText) (w : List Token) → ParamList params w → SpellsParams params w
    to params w (before, u, v, (first, typed, one), (others, all, many), cut) =
        let whole : params ≡ first ∷ others = all ∙ ap (λ l. l ++ others) (sym one) in
        subst (λ ps. SpellsParams ps w) (sym whole) (u, v, typed, many, cut)

    back : (params : List DeclText) (w : List Token) → SpellsParams params (tokens.TypeWord word at ∷ w) → ParamList params (tokens.TypeWord word at ∷ w)
    back [] w (inl e) = absurd (cc)
    back [] w (inr (place, (t, is, e))) = let same : t ≡ tokens.TypeWord word at = cc in let void : t ≡ tokens.Keyword keywords.Void place = void_is t place is in absurd (cc)
    back (param ∷ params) w (first, others, typed, many, cut) = (param ∷ [], first, others, (param, typed, refl), (params, refl, many), cut)

-- what begins with neither
none_exact : (input : List Token) → ((at : Span) (rest : List Token) → input ≡ tokens.Keyword keywords.Void at ∷ rest → ⊥)
    → ((word : TypeWord) (at : Span) (rest : List Token) → input ≡ tokens.TypeWord word at ∷ rest → ⊥) → IsExact {E = Unit {0}} SpellsParams GoesOnParams input (Ok ([], input))
none_exact input no_void no_type = parts.skipped SpellsParams GoesOnParams [] (inl refl) only_none input refuses
  where
    no_word : (t : Token) (left : List Token) → input ≡ t ∷ left → begins_type t ≡ true → ⊥
    no_word (tokens.TypeWord word at) left is e = no_type word at left is
    no_word t left is e = cc

    refuses : (t : Token) (left : List Token) → input ≡ t ∷ left → (params : List DeclText) (w : List Token) → SpellsParams params (t ∷ w) → ⊥
    refuses t left is [] w (inl e) = cc
    refuses t left is [] w (inr (place, (s, means, e))) =
        let first : t ≡ s = cc in
        no_void place left (is ∙ ap (λ h. h ∷ left) (first ∙ void_is s place means))
    refuses t left is (param ∷ params) w (first, others, typed, many, cut) = no_word t left is (first_begins t param w first others typed cut)

params_exact : (input : List Token) → IsExact SpellsParams GoesOnParams input (params_at input)
params_exact (tokens.Keyword keywords.Void at ∷ rest) = void_exact at rest
params_exact (tokens.TypeWord word at ∷ rest) = typed_exact word at rest
params_exact input = none_exact input (λ at rest e. cc) (λ word at rest e. cc)

pub params_reads : Reads SpellsParams GoesOnParams params_at
params_reads = record { some = record { value = []; after = []; spelled = inl refl }; exact = params_exact }
