-- Names, lists, and heads of cases are read exactly.
use Rattle.std.proofs.Common.{◌≡◌, Bool, true, false, List, [], ◌∷◌, ◌++◌, Some, Ok, refl, sym, ap, subst, ◌∙◌}
use Rattle.std.specs.Prelude.{is_some}
use Rattle.std.proofs.lemmas.List.{append-nil}
use Rattle.grammar.specs.Spelling.{Spelling, Begins, Nothing, Meant, Then, Mapped}
use Rattle.grammar.specs.Reading.{◌>>=◌, more_at}
use Rattle.grammar.proofs.Sequence.{Never}
use Rattle.grammar.proofs.EveryInput.{Reads, nothing, one_token, seen_by, in_sequence, after_free, after_token, in_words}
use Rattle.grammar.proofs.Items.{Added, items_read, items_added}
use Rattle.grammar.proofs.Starts.{Begun, meant_begun, front_begun, apart_begun}
use Rattle.pm_ops.specs.declared.fault.PatternKind.TheVariants.{Syntax}
use Rattle.pm_places.specs.declared.span.Span.{Span}
use Rattle.pd_text.specs.declared.symbol.Symbol.{Symbol}
use Rattle.pd_text.specs.declared.symbol.Symbol.TheVariants as symbols
use Rattle.pd_text.specs.declared.symbol.Mark.TheVariants as marks
use Rattle.pd_text.specs.Meanings as meanings
use Rattle.cond_subset.specs.Grammar.{AMark}
use Rattle.cond_subset.proofs.SymbolsExact.{somewhere, some_mark, some_identifier}
use Rattle.pd_files.specs.declared.tree.ListText.{ListText}
use Rattle.pd_files.specs.declared.tree.CaseHeadText.{CaseHeadText}
use Rattle.pd_forms.specs.SymbolReaders.{Read, mark_at, identifier_at}
use Rattle.pd_forms.specs.ResultGrammar.{lone}
use Rattle.pd_files.specs.Forms.{SpellsSome, SpellsNames, SpellsList, SpellsCalled, SpellsCaseHead}
use Rattle.pd_files.specs.FormReaders.{is_name, names_at, close_list_at, list_at, lists_at, is_parameter, parameter_at, parameters_at, HeadStart, named, called, head_start, close_head_at, after_head_start, case_head_at}
use Rattle.pd_forms.proofs.PatternsExact.{IsClose, close_is}

-- a part before one that begins with a symbol that doesn't go on it
pub before : {A B : Type 0} (N : Spelling Symbol A) (M : A → Spelling Symbol B) (more_first more first : Symbol → Type 0)
    → ((x : A) (y : B) (v : List Symbol) → M x y v → Begun first v) → ((t : Symbol) → first t → ¬ more_first t)
    → (read : List Symbol → Read A) (next : A × List Symbol → Read B) → Reads N more_first read → ((x : A) → Reads (M x) more (λ rest. next (x, rest)))
    → Reads (Then N M) more (λ tokens. read tokens >>= next)
before N M more_first more first begun kept read next one second =
    in_sequence N M more_first more (λ x y v z m far. apart_begun first more_first kept v z (begun x y v m)) read next one second

-- the `)` after what was read

abbrev pub ToClose : {A : Type 0} → A → Spelling Symbol A
ToClose value = Mapped (λ k. value) (Meant (meanings.mark marks.Close))

pub to_close_begun : {A : Type 0} (value x : A) (w : List Symbol) → ToClose value x w → Begun IsClose w
to_close_begun value x w (k, meant, same) = meant_begun (meanings.mark marks.Close) IsClose close_is k w meant

pub to_close_reads : {A : Type 0} (value : A) → Reads (ToClose value) Never (λ input. mark_at marks.Close input >>= λ close. Ok (value, close.1))
to_close_reads value =
    seen_by (λ k. value) (Meant (meanings.mark marks.Close)) Never (mark_at marks.Close) (one_token (meanings.mark marks.Close) Syntax Never (some_mark marks.Close))

-- at least one item, each of which ends by itself

pub some_of_added : {A : Type 0} (N : Spelling Symbol A) (xs : List A) (w : List Symbol) → Then N (λ x. Added N (x ∷ [])) xs w → SpellsSome N xs w
some_of_added N xs w (x, u, v, first, (ys, same, others), cut) = subst (λ l. SpellsSome N l w) (sym same) (u, v, first, others, cut)

pub added_of_some : {A : Type 0} (N : Spelling Symbol A) (xs : List A) (w : List Symbol) → SpellsSome N xs w → Then N (λ x. Added N (x ∷ [])) xs w
added_of_some N [] w impossible = absurd impossible
added_of_some N (x ∷ xs) w (u, v, first, others, cut) = (x, u, v, first, (xs, refl, others), cut)

pub some_begun : {A : Type 0} (N : Spelling Symbol A) (first : Symbol → Type 0) → ((x : A) (w : List Symbol) → N x w → Begun first w) → (xs : List A) (w : List Symbol) → SpellsSome N xs w → Begun first w
some_begun N first begun [] w impossible = absurd impossible
some_begun N first begun (x ∷ xs) w (u, v, one, others, cut) = front_begun first u v w (begun x u one) cut

module _ {A : Type 0} (N : Spelling Symbol A) (begins : Symbol → Bool) (read : List Symbol → Read A) (more : Symbol → Type 0) (reads : Reads N Never read)
    (begun : (x : A) (w : List Symbol) → N x w → Begun (λ t. begins t ≡ true) w) (wide : (t : Symbol) → begins t ≡ true → more t) where
  pub some_reads : Reads (SpellsSome N) more (λ input. read input >>= λ first. more_at begins read (first.0 ∷ []) first.1)
  some_reads =
      in_words (Then N (λ x. Added N (x ∷ []))) (SpellsSome N) more (λ input. read input >>= λ first. more_at begins read (first.0 ∷ []) first.1) (some_of_added N) (added_of_some N)
      (after_free N (λ x. Added N (x ∷ [])) more read (λ first. more_at begins read (first.0 ∷ []) first.1) reads
      (λ x.
      items_added N begins read Never more reads (λ y spelled. begun y [] spelled) (λ y t w spelled. begun y (t ∷ w) spelled) (λ t is impossible. impossible)
      (λ t impossible. absurd impossible) wide (x ∷ [])))

-- names

abbrev pub IsName : Symbol → Type 0
IsName t = is_name t ≡ true

pub name_is : (t : Symbol) (at : Span) → meanings.identifier t ≡ Some at → IsName t
name_is t at e = ap is_some e

name_begun : (x : Span) (w : List Symbol) → Meant meanings.identifier x w → Begun IsName w
name_begun x w meant = meant_begun meanings.identifier IsName name_is x w meant

pub close_not_name : (t : Symbol) → IsClose t → ¬ IsName t
close_not_name (symbols.Mark marks.Close at) is = λ e. cc
close_not_name t is = absurd is

pub names_reads : Reads SpellsNames IsName names_at
names_reads =
    items_read (Meant meanings.identifier) is_name identifier_at Never IsName (one_token meanings.identifier Syntax Never some_identifier) (λ x meant. name_begun x [] meant)
    (λ x t w meant. name_begun x (t ∷ w) meant) (λ t is impossible. impossible) (λ t impossible. absurd impossible) (λ t is. is)

-- a list

abbrev list_of : Span → List Span → ListText
list_of name entries = record { name = name; entries = entries }

abbrev Entries : Span → Spelling Symbol ListText
Entries name = Then SpellsNames (λ es. ToClose (list_of name es))

abbrev AfterName : Span → Spelling Symbol ListText
AfterName name = Then (Meant (meanings.mark marks.Open)) (λ left. Entries name)

entries_reads : (name : Span) → Reads (Entries name) Never (λ input. names_at input >>= λ es. close_list_at name es.0 es.1)
entries_reads name =
    before SpellsNames (λ es. ToClose (list_of name es)) IsName Never IsClose (λ es. to_close_begun (list_of name es)) close_not_name names_at (λ es. close_list_at name es.0 es.1) names_reads
    (λ es. to_close_reads (list_of name es))

pub list_reads : Reads SpellsList Never list_at
list_reads =
    in_words (Then (Meant meanings.identifier) AfterName) SpellsList Never list_at to back
    (after_token meanings.identifier Syntax some_identifier AfterName Never (λ name. mark_at marks.Open name.1 >>= λ left. names_at left.1 >>= λ es. close_list_at name.0 es.0 es.1)
    (λ name.
    after_token (meanings.mark marks.Open) Syntax (some_mark marks.Open) (λ left. Entries name) Never (λ left. names_at left.1 >>= λ es. close_list_at name es.0 es.1) (λ left. entries_reads name)))
  where
    to : (l : ListText) (w : List Symbol) → Then (Meant meanings.identifier) AfterName l w → SpellsList l w
    to l w (name, u, v, meant, (left, u₁, v₁, open_mark, (es, u₂, v₂, names, (k, close, same), cut₂), cut₁), cut) =
        subst (λ x. SpellsList x w) same (u, v, meant, (u₁, v₁, (left, open_mark), (u₂, v₂, names, (k, close), cut₂), cut₁), cut)

    back : (l : ListText) (w : List Symbol) → SpellsList l w → Then (Meant meanings.identifier) AfterName l w
    back l w (u, v, meant, (u₁, v₁, (left, open_mark), (u₂, v₂, names, (k, close), cut₂), cut₁), cut) =
        (l.name, u, v, meant, (left, u₁, v₁, open_mark, (l.entries, u₂, v₂, names, (k, close, refl), cut₂), cut₁), cut)

list_begun : (l : ListText) (w : List Symbol) → SpellsList l w → Begun IsName w
list_begun l w (u, v, name, others, cut) = front_begun IsName u v w (name_begun l.name u name) cut

pub lists_reads : Reads (SpellsSome SpellsList) IsName lists_at
lists_reads = some_reads SpellsList is_name list_at IsName list_reads list_begun (λ t is. is)

-- the head of a case

abbrev IsParameter : Symbol → Type 0
IsParameter t = is_parameter t ≡ true

parameter_is : (t : Symbol) (at : Span) → lone t ≡ Some at → IsParameter t
parameter_is t at e = ap is_some e

some_parameter : Begins (Meant lone) []
some_parameter =
    let t = symbols.Capture (record { at = somewhere; by_value = false; joined = false }) in
    record { value = somewhere; after = t ∷ []; spelled = (t, refl, refl) }

close_not_parameter : (t : Symbol) → IsClose t → ¬ IsParameter t
close_not_parameter (symbols.Mark marks.Close at) is = λ e. cc
close_not_parameter t is = absurd is

parameters_reads : Reads (SpellsSome (Meant lone)) IsParameter parameters_at
parameters_reads =
    some_reads (Meant lone) is_parameter parameter_at IsParameter (one_token lone Syntax Never some_parameter) (λ x w meant. meant_begun lone IsParameter parameter_is x w meant) (λ t is. is)

abbrev head_of : Span → List Span → CaseHeadText
head_of name parameters = record { name = name; parameters = parameters }

abbrev Parameters : Span → Spelling Symbol CaseHeadText
Parameters name = Then (SpellsSome (Meant lone)) (λ ps. ToClose (head_of name ps))

abbrev AfterHeadStart : HeadStart → Spelling Symbol CaseHeadText
AfterHeadStart (named at) = Nothing (head_of at [])
AfterHeadStart called = Then (Meant meanings.identifier) Parameters

abbrev HeadForm : Spelling Symbol CaseHeadText
HeadForm = Then (Meant head_start) AfterHeadStart

some_head_start : Begins (Meant head_start) []
some_head_start = record { value = called; after = symbols.Mark marks.Open somewhere ∷ []; spelled = (symbols.Mark marks.Open somewhere, refl, refl) }

parameters_closed : (name : Span) → Reads (Parameters name) Never (λ input. parameters_at input >>= λ ps. close_head_at name ps.0 ps.1)
parameters_closed name =
    before (SpellsSome (Meant lone)) (λ ps. ToClose (head_of name ps)) IsParameter Never IsClose (λ ps. to_close_begun (head_of name ps)) close_not_parameter parameters_at
    (λ ps. close_head_at name ps.0 ps.1) parameters_reads (λ ps. to_close_reads (head_of name ps))

after_head_start_reads : (s : HeadStart) → Reads (AfterHeadStart s) Never (after_head_start s)
after_head_start_reads (named at) = nothing (head_of at []) Never
after_head_start_reads called =
    after_token meanings.identifier Syntax some_identifier Parameters Never (λ name. parameters_at name.1 >>= λ ps. close_head_at name.0 ps.0 ps.1) parameters_closed

start_named : (t : Symbol) (at : Span) → head_start t ≡ Some (named at) → meanings.identifier t ≡ Some at
start_named (symbols.Identifier p) at e = cc
start_named (symbols.Word w p) at e = cc
start_named (symbols.Mark marks.Open p) at e = absurd (cc)
start_named t at e = absurd (cc)

start_called : (t : Symbol) → head_start t ≡ Some called → (at : Span) × (meanings.mark marks.Open t ≡ Some at)
start_called (symbols.Identifier p) e = absurd (cc)
start_called (symbols.Word w p) e = absurd (cc)
start_called (symbols.Mark marks.Open p) e = (p, refl)
start_called t e = absurd (cc)

named_start : (t : Symbol) (at : Span) → meanings.identifier t ≡ Some at → head_start t ≡ Some (named at)
named_start (symbols.Identifier p) at e = cc
named_start (symbols.Word w p) at e = cc
named_start t at e = absurd (cc)

called_start : (t : Symbol) (at : Span) → meanings.mark marks.Open t ≡ Some at → head_start t ≡ Some called
called_start (symbols.Mark marks.Open p) at e = refl
called_start t at e = absurd (cc)

to_called : (name : Span) (ps : List Span) (u v u₁ v₁ u₂ v₂ w : List Symbol) → AMark marks.Open u → Meant meanings.identifier name u₁ → SpellsSome (Meant lone) ps u₂ → AMark marks.Close v₂
    → v₁ ≡ u₂ ++ v₂ → v ≡ u₁ ++ v₁ → w ≡ u ++ v → SpellsCalled name ps w
to_called name [] u v u₁ v₁ u₂ v₂ w left meant some close cut₂ cut₁ cut = absurd some
to_called name (p ∷ ps) u v u₁ v₁ u₂ v₂ w left meant some close cut₂ cut₁ cut = (u, v, left, (u₁, v₁, meant, (u₂, v₂, some, close, cut₂), cut₁), cut)

of_called : (name : Span) (ps : List Span) (w : List Symbol) → SpellsCalled name ps w → HeadForm (head_of name ps) w
of_called name [] w (t, is, one) = (named name, w, [], (t, named_start t name is, one), (refl, refl), sym (append-nil w))
of_called name (p ∷ ps) w (u, v, (at, (t, is, one)), (u₁, v₁, meant, (u₂, v₂, some, (k, close), cut₂), cut₁), cut) =
    (called, u, v, (t, called_start t at is, one), (name, u₁, v₁, meant, (p ∷ ps, u₂, v₂, some, (k, close, refl), cut₂), cut₁), cut)

pub case_head_reads : Reads SpellsCaseHead Never case_head_at
case_head_reads =
    in_words HeadForm SpellsCaseHead Never case_head_at to (λ h w spelled. of_called h.name h.parameters w spelled)
    (after_token head_start Syntax some_head_start AfterHeadStart Never (λ s. after_head_start s.0 s.1) after_head_start_reads)
  where
    to : (h : CaseHeadText) (w : List Symbol) → HeadForm h w → SpellsCaseHead h w
    to h w (named at, u, v, (t, is, one), (same, empty), cut) =
        subst (λ x. SpellsCaseHead x w) (sym same) (t, start_named t at is, cut ∙ ap (λ l. l ++ v) one ∙ ap (λ l. t ∷ l) empty)
    to h w (called, u, v, (t, is, one), (name, u₁, v₁, meant, (ps, u₂, v₂, some, (k, close, same), cut₂), cut₁), cut) =
        let (at, e) = start_called t is in
        subst (λ x. SpellsCaseHead x w) same (to_called name ps u v u₁ v₁ u₂ v₂ w (at, (t, e, one)) meant some (k, close) cut₂ cut₁ cut)
