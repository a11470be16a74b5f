-- Results that no condition stands round are read exactly, at every input.
use Rattle.std.proofs.Common.{◌≡◌, ℕ, suc, ◌+◌, ◌<◌, Bool, true, false, if◌then◌else◌, List, [], ◌∷◌, ◌++◌, length, Some, None, Ok, refl, sym, ap, subst, ◌∙◌, ◌⊎◌, inl, inr, arith}
use Rattle.std.specs.Prelude.{is_some, ◌||◌}
use Rattle.std.proofs.lemmas.List.{append-nil}
use Rattle.grammar.specs.Spelling.{Spelling, Begins, Nothing, Meant, Then, Mapped, Many}
use Rattle.grammar.specs.Reading.{◌>>=◌, more_at}
use Rattle.grammar.specs.Exact.{IsExact}
use Rattle.grammar.proofs.Parts as parts
use Rattle.grammar.proofs.Sequence.{Never, token_then}
use Rattle.grammar.proofs.Recursion.{by_length}
use Rattle.grammar.proofs.EveryInput.{Reads, one_token, seen_by}
use Rattle.grammar.proofs.Starts.{Begun, meant_begun, front_begun, widen_begun}
use Rattle.pm_ops.specs.declared.fault.PatternKind.TheVariants.{Syntax}
use Rattle.pm_places.specs.declared.span.Span.{Span}
use Rattle.pd_text.specs.declared.symbol.Symbol.{Symbol}
use Rattle.pd_text.specs.declared.symbol.Symbol.TheVariants as symbols
use Rattle.pd_text.specs.declared.symbol.Mark.TheVariants as marks
use Rattle.pd_text.specs.Meanings as meanings
use Rattle.cond_subset.proofs.SymbolsExact.{somewhere, some_mark}
use Rattle.pd_forms.specs.declared.tree.HeadText.{HeadText}
use Rattle.pd_forms.specs.SymbolReaders.{mark_at, head_after_at}
use Rattle.pd_forms.specs.PartReaders.{braced_at}
use Rattle.pd_forms.specs.Results.{Leaf, capture, brace, operation, Leaves, nil, cons, leaves}
use Rattle.pd_forms.specs.LeafReaders.{whole_leaf_at, Inner, leaf_name, leaf_name_at, Start, captured, braced, opened, start, begins_result, named_at, after_start, leaf_at, leaves_at}
use Rattle.pd_forms.specs.ResultGrammar.{lone, SpellsLeaf, SpellsLeaves}
use Rattle.pd_forms.proofs.BoundedReading as bounded
use Rattle.pd_forms.proofs.BoundedReading.{ReadsBelow}
use Rattle.pd_forms.proofs.HeadsExact.{items_begun, GoesOnHead, exclamation_goes_on, colon_no_exclamation, HeadAfter, head_after_reads}
use Rattle.pd_forms.proofs.PartsExact.{InBraces, braced_reads}
use Rattle.pd_forms.proofs.PatternsExact.{IsClose, close_is}

-- the first symbol

abbrev pub IsStart : Symbol → Type 0
IsStart t = begins_result t ≡ true

abbrev IsInside : Symbol → Type 0
IsInside t = IsStart t ⊎ IsClose t

flag_starts : (b : Bool) (c d : Span) → (if b then None else Some c) ≡ Some d → is_some (if b then None else Some (captured c)) ≡ true
flag_starts true c d e = absurd (cc)
flag_starts false c d e = refl

lone_starts : (t : Symbol) (at : Span) → lone t ≡ Some at → IsStart t
lone_starts (symbols.Capture d) at e = flag_starts (d.joined || d.by_value) d.at at e
lone_starts t at e = absurd (cc)

brace_starts : (t : Symbol) (at : Span) → meanings.mark marks.OpenBrace t ≡ Some at → IsStart t
brace_starts (symbols.Mark marks.OpenBrace p) at e = refl
brace_starts t at e = absurd (cc)

pub open_starts : (t : Symbol) (at : Span) → meanings.mark marks.Open t ≡ Some at → IsStart t
open_starts (symbols.Mark marks.Open p) at e = refl
open_starts t at e = absurd (cc)

pub leaf_begun : (l : Leaf) (w : List Symbol) → SpellsLeaf l w → Begun IsStart w
leaf_begun (capture at) w meant = meant_begun lone IsStart lone_starts at w meant
leaf_begun (brace at e) w (u, v, left, others, cut) = front_begun IsStart u v w (meant_begun (meanings.mark marks.OpenBrace) IsStart brace_starts at u left) cut
leaf_begun (operation at head ls) w (u, v, left, others, cut) = front_begun IsStart u v w (meant_begun (meanings.mark marks.Open) IsStart open_starts at u left) cut

pub close_not_start : (t : Symbol) → IsClose t → ¬ IsStart t
close_not_start (symbols.Mark marks.Close at) is = λ e. cc
close_not_start t is = absurd is

inside_apart : (t : Symbol) → IsInside t → ¬ GoesOnHead t
inside_apart (symbols.Mark marks.Question at) (inl is) = absurd (cc)
inside_apart (symbols.Mark marks.Question at) (inr is) = absurd is
inside_apart (symbols.Mark marks.Exclamation at) (inl is) = absurd (cc)
inside_apart (symbols.Mark marks.Exclamation at) (inr is) = absurd is
inside_apart (symbols.Mark marks.Colon at) (inl is) = absurd (cc)
inside_apart (symbols.Mark marks.Colon at) (inr is) = absurd is
inside_apart t is = λ goes_on. goes_on

-- what may stand after the first symbol

abbrev ToClose : Span → HeadText → List Leaf → Spelling Symbol Leaf
ToClose at head ls = Mapped (λ k. operation at head (leaves ls)) (Meant (meanings.mark marks.Close))

abbrev AfterHead : Span → HeadText → Spelling Symbol Leaf
AfterHead at head = Then (Many SpellsLeaf) (ToClose at head)

-- an operation after its name
abbrev pub AfterName : Span → Span → Spelling Symbol Leaf
AfterName at name = Then (HeadAfter name marks.Exclamation) (AfterHead at)

abbrev pub AfterStart : Start → Spelling Symbol Leaf
AfterStart (captured at) = Nothing (capture at)
AfterStart (braced at) = Mapped (brace at) InBraces
AfterStart (opened at) = Then (Meant leaf_name) (AfterName at)

to_close_begun : (at : Span) (head : HeadText) (ls : List Leaf) (l : Leaf) (w : List Symbol) → ToClose at head ls l w → Begun IsClose w
to_close_begun at head ls l w (k, meant, same) = meant_begun (meanings.mark marks.Close) IsClose close_is k w meant

after_head_begun : (at : Span) (head : HeadText) (l : Leaf) (w : List Symbol) → AfterHead at head l w → Begun IsInside w
after_head_begun at head l w (ls, u, v, many, close, cut) =
    items_begun SpellsLeaf IsInside (λ q k spelled. widen_begun IsStart IsInside (λ t is. inl is) k (leaf_begun q k spelled)) ls u v w many
    (widen_begun IsClose IsInside (λ t is. inr is) v (to_close_begun at head ls l v close)) cut

-- exactness, where the readers one level deeper are exact below a length

some_name : Begins (Meant leaf_name) []
some_name = record { value = somewhere; after = symbols.Identifier somewhere ∷ []; spelled = (symbols.Identifier somewhere, refl, refl) }

module _ (bound : ℕ) (inner : Inner) (good : ReadsBelow bound SpellsLeaf Never inner) where
  many_below : ReadsBelow bound (Many SpellsLeaf) IsStart (more_at begins_result inner [])
  many_below =
      bounded.items bound SpellsLeaf begins_result inner Never IsStart good (λ l spelled. leaf_begun l [] spelled) (λ l t w spelled. leaf_begun l (t ∷ w) spelled) (λ t e impossible. impossible)
      (λ t impossible. absurd impossible) (λ t is. is)

  to_close_below : (at : Span) (head : HeadText) (ls : List Leaf)
      → ReadsBelow bound (ToClose at head ls) Never (λ input. mark_at marks.Close input >>= λ close. Ok (operation at head (leaves ls), close.1))
  to_close_below at head ls =
      bounded.at_each bound (ToClose at head ls) Never (λ input. mark_at marks.Close input >>= λ close. Ok (operation at head (leaves ls), close.1))
      (seen_by (λ k. operation at head (leaves ls)) (Meant (meanings.mark marks.Close)) Never (mark_at marks.Close) (one_token (meanings.mark marks.Close) Syntax Never (some_mark marks.Close)))

  after_head_below : (at : Span) (head : HeadText)
      → ReadsBelow bound (AfterHead at head) Never (λ input. more_at begins_result inner [] input >>= λ ls. mark_at marks.Close ls.1 >>= λ close. Ok (operation at head (leaves ls.0), close.1))
  after_head_below at head =
      bounded.before bound (Many SpellsLeaf) (ToClose at head) IsStart Never IsClose (to_close_begun at head) close_not_start (more_at begins_result inner [])
      (λ ls. mark_at marks.Close ls.1 >>= λ close. Ok (operation at head (leaves ls.0), close.1)) many_below (to_close_below at head)

  pub after_name_below : (at name : Span) → ReadsBelow bound (AfterName at name) Never (named_at inner at name)
  after_name_below at name =
      bounded.before bound (HeadAfter name marks.Exclamation) (AfterHead at) GoesOnHead Never IsInside (after_head_begun at) inside_apart (head_after_at name marks.Exclamation)
      (λ head. more_at begins_result inner [] head.1 >>= λ ls. mark_at marks.Close ls.1 >>= λ close. Ok (operation at head.0 (leaves ls.0), close.1))
      (bounded.at_each bound (HeadAfter name marks.Exclamation) GoesOnHead (head_after_at name marks.Exclamation) (head_after_reads name marks.Exclamation exclamation_goes_on colon_no_exclamation))
      (after_head_below at)

  after_start_below : (first : Start) → ReadsBelow bound (AfterStart first) Never (after_start inner first)
  after_start_below (captured at) = record { some = record { value = capture at; after = []; spelled = (refl, refl) }; exact = λ input below. parts.nothing (capture at) Never input }
  after_start_below (braced at) = bounded.seen bound (brace at) InBraces Never braced_at (bounded.at_each bound InBraces Never braced_at braced_reads)
  after_start_below (opened at) =
      bounded.free bound (Meant leaf_name) (AfterName at) Never leaf_name_at (λ name. named_at inner at name.0 name.1)
      (bounded.at_each bound (Meant leaf_name) Never leaf_name_at (one_token leaf_name Syntax Never some_name)) (after_name_below at)

-- to the grammar

captured_flag : (b : Bool) (c d : Span) → (if b then None else Some (captured c)) ≡ Some (captured d) → (if b then None else Some c) ≡ Some d
captured_flag true c d e = absurd (cc)
captured_flag false c d e = cc

flag_captured : (b : Bool) (c d : Span) → (if b then None else Some c) ≡ Some d → (if b then None else Some (captured c)) ≡ Some (captured d)
flag_captured true c d e = absurd (cc)
flag_captured false c d e = cc

flag_not_braced : (b : Bool) (c d : Span) → (if b then None else Some (captured c)) ≡ Some (braced d) → ⊥
flag_not_braced true c d e = cc
flag_not_braced false c d e = cc

flag_not_opened : (b : Bool) (c d : Span) → (if b then None else Some (captured c)) ≡ Some (opened d) → ⊥
flag_not_opened true c d e = cc
flag_not_opened false c d e = cc

start_captured : (t : Symbol) (at : Span) → start t ≡ Some (captured at) → lone t ≡ Some at
start_captured (symbols.Capture d) at e = captured_flag (d.joined || d.by_value) d.at at e
start_captured (symbols.Mark marks.Open p) at e = absurd (cc)
start_captured (symbols.Mark marks.OpenBrace p) at e = absurd (cc)
start_captured t at e = absurd (cc)

start_braced : (t : Symbol) (at : Span) → start t ≡ Some (braced at) → meanings.mark marks.OpenBrace t ≡ Some at
start_braced (symbols.Capture d) at e = absurd (flag_not_braced (d.joined || d.by_value) d.at at e)
start_braced (symbols.Mark marks.Open p) at e = absurd (cc)
start_braced (symbols.Mark marks.OpenBrace p) at e = cc
start_braced t at e = absurd (cc)

pub start_opened : (t : Symbol) (at : Span) → start t ≡ Some (opened at) → meanings.mark marks.Open t ≡ Some at
start_opened (symbols.Capture d) at e = absurd (flag_not_opened (d.joined || d.by_value) d.at at e)
start_opened (symbols.Mark marks.Open p) at e = cc
start_opened (symbols.Mark marks.OpenBrace p) at e = absurd (cc)
start_opened t at e = absurd (cc)

captured_start : (t : Symbol) (at : Span) → lone t ≡ Some at → start t ≡ Some (captured at)
captured_start (symbols.Capture d) at e = flag_captured (d.joined || d.by_value) d.at at e
captured_start t at e = absurd (cc)

braced_start : (t : Symbol) (at : Span) → meanings.mark marks.OpenBrace t ≡ Some at → start t ≡ Some (braced at)
braced_start (symbols.Mark marks.OpenBrace p) at e = cc
braced_start t at e = absurd (cc)

pub opened_start : (t : Symbol) (at : Span) → meanings.mark marks.Open t ≡ Some at → start t ≡ Some (opened at)
opened_start (symbols.Mark marks.Open p) at e = cc
opened_start t at e = absurd (cc)

leaves_of_many : (ls : List Leaf) (w : List Symbol) → Many SpellsLeaf ls w → SpellsLeaves (leaves ls) w
leaves_of_many [] w empty = empty
leaves_of_many (l ∷ ls) w (u, v, first, others, cut) = (u, v, first, leaves_of_many ls v others, cut)

many_of_leaves : (ls : Leaves) (w : List Symbol) → SpellsLeaves ls w → (qs : List Leaf) × (leaves qs ≡ ls) × Many SpellsLeaf qs w
many_of_leaves nil w empty = ([], refl, empty)
many_of_leaves (cons l ls) w (u, v, first, others, cut) =
    let (qs, same, many) = many_of_leaves ls v others in
    (l ∷ qs, ap (cons l) same, (u, v, first, many, cut))

abbrev pub Form : Spelling Symbol Leaf
Form = Then (Meant start) AfterStart

pub to_leaf : (l : Leaf) (w : List Symbol) → Form l w → SpellsLeaf l w
to_leaf l w (captured at, u, v, (t, is, one), (same, empty), cut) =
    subst (λ q. SpellsLeaf q w) (sym same) (t, start_captured t at is, cut ∙ ap (λ k. k ++ v) one ∙ ap (λ k. t ∷ k) empty)
to_leaf l w (braced at, u, v, (t, is, one), (e, (f, u₁, v₁, spelled, (k, close, value), cut₁), same), cut) =
    subst (λ q. SpellsLeaf q w) (ap (brace at) value ∙ same) (u, v, (t, start_braced t at is, one), (u₁, v₁, spelled, (k, close), cut₁), cut)
to_leaf l w (opened at, u, v, (t, is, one), (name, u₁, v₁, word, (head, u₂, v₂, (name_is, spelled), (ls, u₃, v₃, many, (k, close, same), cut₃), cut₂), cut₁), cut) =
    subst (λ q. SpellsLeaf q w) same (
      u,
      v,
      (t, start_opened t at is, one),
      (u₁, v₁, subst (λ n. Meant leaf_name n u₁) (sym name_is) word, (u₂, v₂, spelled, (u₃, v₃, leaves_of_many ls u₃ many, (k, close), cut₃), cut₂), cut₁),
      cut,
    )

pub of_leaf : (l : Leaf) (w : List Symbol) → SpellsLeaf l w → Form l w
of_leaf (capture at) w (t, is, one) = (captured at, w, [], (t, captured_start t at is, one), (refl, refl), sym (append-nil w))
of_leaf (brace at e) w (u, v, (t, is, one), (u₁, v₁, spelled, (k, close), cut₁), cut) =
    (braced at, u, v, (t, braced_start t at is, one), (e, (e, u₁, v₁, spelled, (k, close, refl), cut₁), refl), cut)
of_leaf (operation at head ls) w (u, v, (t, is, one), (u₁, v₁, word, (u₂, v₂, spelled, (u₃, v₃, others, (k, close), cut₃), cut₂), cut₁), cut) =
    let (qs, same, many) = many_of_leaves ls u₃ others in (
      opened at,
      u,
      v,
      (t, opened_start t at is, one),
      (head.name, u₁, v₁, word, (head, u₂, v₂, (refl, spelled), (qs, u₃, v₃, many, (k, close, ap (operation at head) same), cut₃), cut₂), cut₁),
      cut,
    )

-- at every input

pub some_start : Begins (Meant start) []
some_start = record { value = opened somewhere; after = symbols.Mark marks.Open somewhere ∷ []; spelled = (symbols.Mark marks.Open somewhere, refl, refl) }

lone_capture : Symbol
lone_capture = symbols.Capture (record { at = somewhere; by_value = false; joined = false })

pub some_leaf : Begins SpellsLeaf []
unfolding lone_capture
some_leaf = record { value = capture somewhere; after = lone_capture ∷ []; spelled = (lone_capture, refl, refl) }

AreExact : Inner → List Symbol → Type 0
AreExact inner input = IsExact SpellsLeaf Never input (inner input)

pub leaves_exact : (n : ℕ) (input : List Symbol) → length input < n → IsExact SpellsLeaf Never input (leaves_at n input)
unfolding AreExact
leaves_exact = by_length leaves_at AreExact deeper
  where
    deeper : (n : ℕ) (input : List Symbol) → ((rest : List Symbol) → length rest < length input → IsExact SpellsLeaf Never rest (leaves_at n rest))
        → IsExact SpellsLeaf Never input (leaves_at (suc n) input)
    deeper n input good =
        let inner : ReadsBelow (length input) SpellsLeaf Never (leaves_at n) = record { some = some_leaf; exact = λ rest below. good rest below } in
        parts.in_words Form SpellsLeaf Never input (leaf_at (leaves_at n) input) to_leaf of_leaf
        (token_then start Syntax some_start AfterStart Never (λ first. (after_start_below (length input) (leaves_at n) inner first).some) input
        (λ first. after_start (leaves_at n) first.0 first.1)
        (λ first rest shorter. (after_start_below (length input) (leaves_at n) inner first).exact rest shorter))

pub leaf_reads : Reads SpellsLeaf Never whole_leaf_at
leaf_reads = record { some = some_leaf; exact = λ input. leaves_exact (length input + 1) input (omega arith) }
