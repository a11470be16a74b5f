-- Patterns that are operations are read exactly, and what a tail before a `)` begins with.
use Rattle.std.proofs.Common.{◌≡◌, true, false, List, [], ◌∷◌, ◌++◌, Option, Some, None, Err, refl, sym, ap, subst, ◌∙◌, ◌⊎◌, inl, inr}
use Rattle.grammar.specs.Spelling.{Spelling, Begins, Meant}
use Rattle.grammar.specs.Exact.{IsExact}
use Rattle.grammar.proofs.Parts.{SameStart, starting_so, refused}
use Rattle.grammar.proofs.EveryInput.{Reads}
use Rattle.grammar.proofs.Starts.{Begun, meant_begun, front_begun, widen_begun, begins_with}
use Rattle.pm_ops.specs.declared.fault.PatternKind.TheVariants.{Syntax}
use Rattle.pm_places.specs.declared.span.Span.{Span}
use Rattle.pd_text.specs.declared.symbol.Symbol.{Symbol}
use Rattle.pd_text.specs.declared.symbol.Symbol.TheVariants as symbols
use Rattle.pd_text.specs.declared.symbol.Capture.{Capture}
use Rattle.pd_text.specs.declared.symbol.Mark.TheVariants as marks
use Rattle.pd_text.specs.Meanings as meanings
use Rattle.cond_subset.proofs.SymbolsExact.{somewhere}
use Rattle.pd_forms.specs.Trees.{Pattern, capture, predicate, operation, nil}
use Rattle.pd_forms.specs.Grammar.{IsJoined, unjoined, SpellsPattern}
use Rattle.pd_forms.specs.Tails.{Tail, empty, when, bound, SpellsTail, IsOpen}
use Rattle.pd_forms.specs.PatternReaders.{whole_pattern_at}
use Rattle.pd_forms.proofs.PatternsExact.{IsClose, pattern_not_empty, pattern_reads}
use Rattle.pd_files.specs.Forms.{is_operation}
use Rattle.pd_files.specs.FormReaders.{node_at}

-- a pattern that is an operation

abbrev pub Node : Spelling Symbol Pattern
Node p w = (is_operation p ≡ true) × SpellsPattern p w

-- `(name)`
some_node : Begins Node []
some_node =
    let left : Symbol = symbols.Mark marks.Open somewhere in
    let name : Symbol = symbols.Identifier somewhere in
    let right : Symbol = symbols.Mark marks.Close somewhere in
    record {
      value = operation somewhere (record { name = somewhere; marked = None; label = None }) None nil;
      after = left ∷ name ∷ right ∷ [];
      spelled = (
        refl,
        (
          left ∷ [],
          name ∷ right ∷ [],
          (left, refl, refl),
          (
            name ∷ [],
            right ∷ [],
            (name, refl, refl),
            ([], right ∷ [], ([], [], refl, refl, refl), ([], right ∷ [], refl, ([], right ∷ [], refl, (somewhere, (right, refl, refl)), refl), refl), refl),
            refl,
          ),
          refl,
        ),
      );
    }

abbrev opening : Symbol → Option Span
opening t = meanings.mark marks.Open t

no_meaning : (at : Span) → None ≡ Some at → ⊥
no_meaning at e = cc

no_operation : false ≡ true → ⊥
no_operation e = cc

-- an operation begins with its `(`
node_opens : (p : Pattern) (t : Symbol) (w : List Symbol) → Node p (t ∷ w) → (at : Span) × (opening t ≡ Some at)
node_opens (capture c) t w (is, spelled) = absurd (no_operation is)
node_opens (predicate at c) t w (is, spelled) = absurd (no_operation is)
node_opens (operation at head c ps) t w (is, (u, v, left, others, cut)) = (at, begins_with (meanings.mark marks.Open) at t w u v left cut)

capture_no_open : (t : Symbol) (c : Capture) → unjoined t ≡ Some c → (at : Span) → opening t ≡ Some at → ⊥
capture_no_open (symbols.Mark m at) c has p is = cc
capture_no_open (symbols.Capture d) c has p is = cc
capture_no_open t c has p is = cc

name_no_open : (t : Symbol) (at : Span) → meanings.identifier t ≡ Some at → (p : Span) → opening t ≡ Some p → ⊥
name_no_open (symbols.Mark m at) c has p is = cc
name_no_open (symbols.Identifier at) c has p is = cc
name_no_open (symbols.Word word at) c has p is = cc
name_no_open t c has p is = cc

-- what begins with a `(` is an operation
opens_node : (p : Pattern) (t : Symbol) (w : List Symbol) (at : Span) → opening t ≡ Some at → SpellsPattern p (t ∷ w) → is_operation p ≡ true
opens_node (capture c) t w at is (s, has, one) = absurd (capture_no_open t c (begins_with unjoined c t w (s ∷ []) [] (s, has, refl) one) at is)
opens_node (predicate name c) t w at is (u, v, meant, others, cut) = absurd (name_no_open t name (begins_with meanings.identifier name t w u v meant cut) at is)
opens_node (operation place head c ps) t w at is spelled = refl

abbrev first_opens : List Symbol → Option Span
first_opens [] = None
first_opens (t ∷ rest) = opening t

to_node : (at : Span) (rest : List Symbol) (p : Pattern) (w : List Symbol) → SpellsPattern p w → SameStart (symbols.Mark marks.Open at ∷ rest) w → Node p w
to_node at rest p [] spelled start = absurd (pattern_not_empty p spelled)
to_node at rest p (t ∷ w) spelled start = (opens_node p t w at (sym (ap opening start)) spelled, spelled)

-- where no `(` stands, none is read
node_refused : (input : List Symbol) → first_opens input ≡ None → IsExact Node IsJoined input (Err (Syntax, input))
node_refused input none = refused Node IsJoined Syntax some_node input (λ p n far. pattern_not_empty p n.1) refuses
  where
    refuses : (t : Symbol) (rest : List Symbol) → input ≡ t ∷ rest → (p : Pattern) (w : List Symbol) → Node p (t ∷ w) → ⊥
    refuses t rest e p w n =
        let (at, is) = node_opens p t w n in
        no_meaning at (sym none ∙ ap first_opens e ∙ is)

node_exact : (input : List Symbol) → IsExact Node IsJoined input (node_at input)
node_exact (symbols.Mark marks.Open at ∷ rest) =
    starting_so SpellsPattern Node IsJoined (symbols.Mark marks.Open at ∷ rest) (whole_pattern_at (symbols.Mark marks.Open at ∷ rest)) some_node (to_node at rest) (λ p w n start. n.1)
    (pattern_reads.exact (symbols.Mark marks.Open at ∷ rest))
node_exact input = node_refused input refl

pub node_reads : Reads Node IsJoined node_at
node_reads = record { some = some_node; exact = node_exact }

-- a tail before a `)`

pub close_not_open : (t : Symbol) → IsClose t → ¬ IsOpen t
close_not_open (symbols.Mark marks.Close at) is = λ h. h
close_not_open t is = absurd is

open_is : (t : Symbol) (at : Span) → meanings.mark marks.Open t ≡ Some at → IsOpen t
open_is (symbols.Mark marks.Open p) at e = tt
open_is t at e = absurd (cc)

abbrev pub IsOpenOrClose : Symbol → Type 0
IsOpenOrClose t = IsOpen t ⊎ IsClose t

pub tail_not_joined : (t : Symbol) → IsOpenOrClose t → ¬ IsJoined t
tail_not_joined (symbols.Mark m at) is = λ has. absurd (cc)
tail_not_joined t (inl is) = absurd is
tail_not_joined t (inr is) = absurd is

open_begun : (at : Span) (u v a b w : List Symbol) → Meant (meanings.mark marks.Open) at a → u ≡ a ++ b → w ≡ u ++ v → Begun IsOpenOrClose w
open_begun at u v a b w left inside cut =
    front_begun IsOpenOrClose u v w (front_begun IsOpenOrClose a b u (meant_begun (meanings.mark marks.Open) IsOpenOrClose (λ t p e. inl (open_is t p e)) at a left) inside) cut

pub tail_begun : (t : Tail) (u v w : List Symbol) → SpellsTail t u → Begun IsClose v → w ≡ u ++ v → Begun IsOpenOrClose w
tail_begun empty u v w none begun cut =
    subst (λ l. Begun IsOpenOrClose l) (sym (cut ∙ ap (λ l. l ++ v) none)) (widen_begun IsClose IsOpenOrClose (λ t is. inr is) v begun)
tail_begun (when c t) u v w (a, b, (at, left), others, inside) begun cut = open_begun at u v a b w left inside cut
tail_begun (bound ds t) u v w (a, b, (at, left), others, inside) begun cut = open_begun at u v a b w left inside cut
