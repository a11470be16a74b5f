-- The inside of braces is read exactly.
use Rattle.std.proofs.Common.{◌≡◌, List, [], ◌∷◌, ◌++◌, Some, Ok, refl, sym, subst, ◌⊎◌, inl, inr}
use Rattle.std.proofs.lemmas.List.{append-nil}
use Rattle.grammar.specs.Spelling.{Spelling, Nothing, Meant, Then}
use Rattle.grammar.specs.Exact.{IsApart, IsExact}
use Rattle.grammar.proofs.Parts as parts
use Rattle.grammar.proofs.EveryInput.{Reads, in_sequence, in_words}
use Rattle.grammar.proofs.Sequence.{token_then}
use Rattle.grammar.proofs.Starts.{Begun, meant_begun, front_begun, begins_with, Optional, taken, left_out}
use Rattle.pm_ops.specs.declared.fault.PatternKind.TheVariants.{CSyntax}
use Rattle.pm_places.specs.declared.span.Span.{Span}
use Rattle.pd_text.specs.declared.symbol.Symbol.{Symbol}
use Rattle.pd_text.specs.declared.symbol.Symbol.TheVariants as symbols
use Rattle.pd_text.specs.declared.symbol.Mark.TheVariants as marks
use Rattle.pd_text.specs.Meanings as meanings
use Rattle.cond_subset.specs.GoesOn.{GoesOn}
use Rattle.cond_subset.specs.Trees.{Expr}
use Rattle.cond_subset.specs.Grammar.{Spells}
use Rattle.cond_subset.specs.Syntax.{SpellsBrace}
use Rattle.cond_subset.specs.DeclarationReaders.{expression_at}
use Rattle.cond_subset.specs.WholeReaders.{semicolon_at, brace_at}
use Rattle.cond_subset.proofs.SymbolsExact.{some_mark}
use Rattle.cond_subset.proofs.Ranks.{semicolon_apart}
use Rattle.cond_subset.proofs.ArgumentsExact.{ends}
use Rattle.cond_subset.proofs.DeclarationsExact.{expression_reads}

abbrev IsSemicolon : Symbol → Type 0
IsSemicolon (symbols.Mark marks.Semicolon at) = Unit {0}
IsSemicolon t = ⊥

semicolon_is : (t : Symbol) (at : Span) → meanings.mark marks.Semicolon t ≡ Some at → IsSemicolon t
semicolon_is (symbols.Mark marks.Semicolon p) at e = tt
semicolon_is t at e = absurd (cc)

-- what can go on the inside of braces
abbrev pub GoesOnBrace : Symbol → Type 0
GoesOnBrace t = GoesOn 10 t ⊎ IsSemicolon t

no_semicolon : (t : Symbol) → IsSemicolon t → ¬ GoesOn 10 t
no_semicolon (symbols.Mark marks.Semicolon p) h = λ goes_on. cc (semicolon_apart (symbols.Mark marks.Semicolon p) goes_on)
no_semicolon t h = absurd h

Semicolon : Expr → Spelling Symbol Expr
Semicolon e = Then (Meant (meanings.mark marks.Semicolon)) (λ s. Nothing e)

semicolon_begun : (e x : Expr) (w : List Symbol) → Semicolon e x w → Begun IsSemicolon w
unfolding Semicolon
semicolon_begun e x w (s, u, v, mark, rest, cut) = front_begun IsSemicolon u v w (meant_begun (meanings.mark marks.Semicolon) IsSemicolon semicolon_is s u mark) cut

semicolon_exact : (e : Expr) (input : List Symbol) → IsExact (Optional e (Semicolon e)) GoesOnBrace input (semicolon_at e input)
unfolding Semicolon
semicolon_exact e (symbols.Mark marks.Semicolon at ∷ rest) =
    taken e (Semicolon e) GoesOnBrace (symbols.Mark marks.Semicolon at) rest (Ok (e, rest)) (inr tt)
    (token_then (meanings.mark marks.Semicolon) CSyntax (some_mark marks.Semicolon) (λ s. Nothing e) GoesOnBrace (λ s. record { value = e; after = []; spelled = (refl, refl) })
    (symbols.Mark marks.Semicolon at ∷ rest) (λ s. Ok (e, s.1)) (λ s left shorter. parts.nothing e GoesOnBrace left))
semicolon_exact e input = left_out e (Semicolon e) GoesOnBrace IsSemicolon (semicolon_begun e) input (λ h. h)

-- The inside of braces.
pub brace_reads : Reads SpellsBrace GoesOnBrace brace_at
unfolding Semicolon
brace_reads =
    in_words (Then Spells (λ e. Optional e (Semicolon e))) SpellsBrace GoesOnBrace brace_at to back
    (in_sequence Spells (λ e. Optional e (Semicolon e)) (GoesOn 10) GoesOnBrace far expression_at (λ e. semicolon_at e.0 e.1) expression_reads
    (λ e. record { some = record { value = e; after = []; spelled = inl (refl, refl) }; exact = λ input. semicolon_exact e input }))
  where
    far : (e x : Expr) (v z : List Symbol) → Optional e (Semicolon e) x v → IsApart GoesOnBrace z → IsApart (GoesOn 10) (v ++ z)
    far e x [] z spelled apart = parts.apart_within (GoesOn 10) GoesOnBrace (λ t h. inl h) z apart
    far e x (t ∷ v) z (inl (same, empty)) apart = absurd (cc)
    far e x (t ∷ v) z (inr (s, p, q, mark, rest, cut)) apart = no_semicolon t (semicolon_is t s (begins_with (meanings.mark marks.Semicolon) s t v p q mark cut))

    to : (x : Expr) (w : List Symbol) → Then Spells (λ e. Optional e (Semicolon e)) x w → SpellsBrace x w
    to x w (e, u, v, spelled, inl (same, empty), cut) =
        inl (subst (λ y. Spells y w) (sym same) (ends (Spells e) u v w spelled empty cut))
    to x w (e, u, v, spelled, inr (s, p, q, mark, (same, empty), inside), cut) =
        inr (subst (λ y. (u₁ : List Symbol) × (v₁ : List Symbol) × Spells y u₁ × ((at : Span) × Meant (meanings.mark marks.Semicolon) at v₁) × (w ≡ u₁ ++ v₁)) (sym same)
        (u, v, spelled, (s, ends (Meant (meanings.mark marks.Semicolon) s) p q v mark empty inside), cut))

    back : (x : Expr) (w : List Symbol) → SpellsBrace x w → Then Spells (λ e. Optional e (Semicolon e)) x w
    back x w (inl spelled) = (x, w, [], spelled, inl (refl, refl), sym (append-nil w))
    back x w (inr (u, v, spelled, (s, mark), cut)) = (x, u, v, spelled, inr (s, v, [], mark, (refl, refl), sym (append-nil v)), cut)
