-- Symbols that may be left out, and the heads of operations, are read exactly.
use Rattle.std.proofs.Common.{◌≡◌, List, [], ◌∷◌, ◌++◌, Option, Some, None, Ok, refl, sym, ap, subst, ◌∙◌}
use Rattle.grammar.specs.Spelling.{Spelling, Nothing, Meant, Then, Mapped, Many}
use Rattle.grammar.specs.Reading.{◌>>=◌}
use Rattle.grammar.specs.Exact.{IsApart, IsExact}
use Rattle.grammar.proofs.Parts as parts
use Rattle.grammar.proofs.EveryInput.{Reads, nothing, one_token, seen_by, in_sequence, in_words, widened}
use Rattle.grammar.proofs.Starts.{Begun, HasMeaning, meant_begun, front_begun}
use Rattle.pm_ops.specs.declared.fault.PatternKind.{PatternKind}
use Rattle.pm_ops.specs.declared.fault.PatternKind.TheVariants.{Syntax}
use Rattle.pm_places.specs.declared.span.Span.{Span}
use Rattle.pd_text.specs.declared.symbol.Symbol.{Symbol}
use Rattle.pd_text.specs.declared.symbol.Symbol.TheVariants as symbols
use Rattle.pd_text.specs.declared.symbol.Mark.{Mark}
use Rattle.pd_text.specs.declared.symbol.Mark.TheVariants as marks
use Rattle.pd_text.specs.Meanings as meanings
use Rattle.cond_subset.proofs.SymbolsExact.{some_identifier}
use Rattle.pd_forms.specs.declared.tree.HeadText.{HeadText}
use Rattle.pd_forms.specs.SymbolReaders.{Read, identifier_at, maybe_as, maybe_at, maybe_mark_at, label_after, label_at, head_after_at}
use Rattle.pd_forms.specs.Grammar.{SpellsMaybe, SpellsLabel, SpellsHeadAfter}

-- a symbol that may be left out

module _ {A : Type 0} (meaning : Symbol → Option A) where
  only_none : (x : Option A) → SpellsMaybe meaning x [] → x ≡ None
  only_none None empty = refl
  only_none (Some a) (k, has, one) = absurd (cc)

  no_other : (t s : Symbol) (rest l : List Symbol) → meaning t ≡ None → t ∷ rest ≡ s ∷ l → (x : Option A) (w : List Symbol) → SpellsMaybe meaning x (s ∷ w) → ⊥
  no_other t s rest l none e None w empty = cc
  no_other t s rest l none e (Some a) w (k, has, one) =
      let first : t ≡ s = cc in
      let second : s ≡ k = cc in
      let same : meaning t ≡ meaning k = ap meaning (first ∙ second) in
      cc

  one_alone : (t s : Symbol) (w : List Symbol) (x : Option A) → SpellsMaybe meaning x (t ∷ s ∷ w) → ⊥
  one_alone t s w None empty = cc
  one_alone t s w (Some a) (k, has, one) = cc

  read_so : (t : Symbol) (rest : List Symbol) (a : A) → meaning t ≡ Some a → (x : Option A) (u v : List Symbol) → SpellsMaybe meaning x u → t ∷ rest ≡ u ++ v
      → IsApart (HasMeaning meaning) v → ◌≡◌ {A = Read (Option A)} (Ok (Some a, rest)) (Ok (x, v))
  read_so t rest a is None u v empty e far =
      let whole : t ∷ rest ≡ v = e ∙ ap (λ l. l ++ v) empty in
      absurd (subst (λ l. IsApart (HasMeaning meaning) l) (sym whole) far (a, is))
  read_so t rest a is (Some b) u v (k, has, one) e far =
      let whole : t ∷ rest ≡ k ∷ v = e ∙ ap (λ l. l ++ v) one in
      let first : t ≡ k = cc in
      let same : meaning t ≡ meaning k = ap meaning first in
      let value : a ≡ b = cc in
      let tail : rest ≡ v = cc in
      cc

  next_exact : (t : Symbol) (rest : List Symbol) (m : Option A) → meaning t ≡ m → IsExact {E = PatternKind} (SpellsMaybe meaning) (HasMeaning meaning) (t ∷ rest) (maybe_as t rest m)
  next_exact t rest None is = parts.skipped (SpellsMaybe meaning) (HasMeaning meaning) None refl only_none (t ∷ rest) (λ s l e x w spelled. no_other t s rest l is e x w spelled)
  next_exact t rest (Some a) is = record {
    front = t ∷ [];
    cut = refl;
    takes = (t, is, refl);
    stops = λ s l e b. one_alone t s b.after b.value b.spelled;
    only = λ x u v spelled e far. read_so t rest a is x u v spelled e far;
  }

  maybe_exact : (input : List Symbol) → IsExact (SpellsMaybe meaning) (HasMeaning meaning) input (maybe_at meaning input)
  maybe_exact [] = parts.skipped (SpellsMaybe meaning) (HasMeaning meaning) None refl only_none [] (λ t rest e x w spelled. cc)
  maybe_exact (t ∷ rest) = next_exact t rest (meaning t) refl

  pub maybe_reads : Reads (SpellsMaybe meaning) (HasMeaning meaning) (maybe_at meaning)
  maybe_reads = record { some = record { value = None; after = []; spelled = refl }; exact = maybe_exact }

  pub maybe_begun : (wide : Symbol → Type 0) → ((t : Symbol) (x : A) → meaning t ≡ Some x → wide t) → (x : Option A) (u v w : List Symbol) → SpellsMaybe meaning x u → Begun wide v → w ≡ u ++ v → Begun wide w
  maybe_begun wide is None u v w empty begun cut = subst (λ l. Begun wide l) (sym (cut ∙ ap (λ l. l ++ v) empty)) begun
  maybe_begun wide is (Some x) u v w meant begun cut = front_begun wide u v w (meant_begun meaning wide is x u meant) cut

-- items, and what stands after them
pub items_begun : {A : Type 0} (N : Spelling Symbol A) (wide : Symbol → Type 0) → ((x : A) (w : List Symbol) → N x w → Begun wide w)
    → (xs : List A) (u v w : List Symbol) → Many N xs u → Begun wide v → w ≡ u ++ v → Begun wide w
items_begun N wide is [] u v w empty begun cut = subst (λ l. Begun wide l) (sym (cut ∙ ap (λ l. l ++ v) empty)) begun
items_begun N wide is (x ∷ xs) u v w (a, b, first, others, inside) begun cut =
    front_begun wide u v w (front_begun wide a b u (is x a first) inside) cut

-- ':' and an identifier

abbrev HasColon : Symbol → Type 0
HasColon = HasMeaning (meanings.mark marks.Colon)

abbrev AfterColon : Option Span → Spelling Symbol (Option Span)
AfterColon None = Nothing None
AfterColon (Some colon) = Mapped (λ name. Some name) (Meant meanings.identifier)

name_no_colon : (t : Symbol) (name : Span) → meanings.identifier t ≡ Some name → ¬ HasColon t
name_no_colon (symbols.Mark m at) name e = absurd (cc)
name_no_colon t name e = λ has. cc

after_colon_far : (c : Option Span) (y : Option Span) (v z : List Symbol) → AfterColon c y v → IsApart HasColon z → IsApart HasColon (v ++ z)
after_colon_far None y v z (same, empty) far = subst (λ l. IsApart HasColon (l ++ z)) (sym empty) far
after_colon_far (Some colon) y v z (name, (t, is, one), same) far = subst (λ l. IsApart HasColon (l ++ z)) (sym one) (name_no_colon t name is)

after_colon_reads : (c : Option Span) → Reads (AfterColon c) HasColon (λ rest. label_after c rest)
after_colon_reads None = nothing None HasColon
after_colon_reads (Some colon) = seen_by (λ name. Some name) (Meant meanings.identifier) HasColon identifier_at (one_token meanings.identifier Syntax HasColon some_identifier)

label_reads : Reads SpellsLabel HasColon label_at
label_reads =
    in_words (Then (SpellsMaybe (meanings.mark marks.Colon)) AfterColon) SpellsLabel HasColon label_at to back
    (in_sequence (SpellsMaybe (meanings.mark marks.Colon)) AfterColon HasColon HasColon after_colon_far (maybe_mark_at marks.Colon) (λ colon. label_after colon.0 colon.1)
    (maybe_reads (meanings.mark marks.Colon)) after_colon_reads)
  where
    to : (x : Option Span) (w : List Symbol) → Then (SpellsMaybe (meanings.mark marks.Colon)) AfterColon x w → SpellsLabel x w
    to x w (None, u, v, none, (same, empty), cut) = subst (λ l. SpellsLabel l w) (sym same) (cut ∙ ap (λ l. l ++ v) none ∙ empty)
    to x w (Some at, u, v, colon, (name, meant, same), cut) = subst (λ l. SpellsLabel l w) same (u, v, (at, colon), meant, cut)

    back : (x : Option Span) (w : List Symbol) → SpellsLabel x w → Then (SpellsMaybe (meanings.mark marks.Colon)) AfterColon x w
    back None w empty = (None, [], [], refl, (refl, refl), empty)
    back (Some name) w (u, v, (at, colon), meant, cut) = (Some at, u, v, colon, (name, meant, refl), cut)

-- what stands after the name of an operation

-- what can go on a head
abbrev pub GoesOnHead : Symbol → Type 0
GoesOnHead (symbols.Mark marks.Question at) = Unit {0}
GoesOnHead (symbols.Mark marks.Exclamation at) = Unit {0}
GoesOnHead (symbols.Mark marks.Colon at) = Unit {0}
GoesOnHead t = ⊥

colon_goes_on : (t : Symbol) → HasColon t → GoesOnHead t
colon_goes_on (symbols.Mark marks.Colon at) has = tt
colon_goes_on t has = absurd (cc)

pub question_goes_on : (t : Symbol) → HasMeaning (meanings.mark marks.Question) t → GoesOnHead t
question_goes_on (symbols.Mark marks.Question at) has = tt
question_goes_on t has = absurd (cc)

pub exclamation_goes_on : (t : Symbol) → HasMeaning (meanings.mark marks.Exclamation) t → GoesOnHead t
exclamation_goes_on (symbols.Mark marks.Exclamation at) has = tt
exclamation_goes_on t has = absurd (cc)

pub colon_no_question : (t : Symbol) → HasColon t → ¬ HasMeaning (meanings.mark marks.Question) t
colon_no_question (symbols.Mark marks.Colon at) has = λ other. cc
colon_no_question t has = absurd (cc)

pub colon_no_exclamation : (t : Symbol) → HasColon t → ¬ HasMeaning (meanings.mark marks.Exclamation) t
colon_no_exclamation (symbols.Mark marks.Colon at) has = λ other. cc
colon_no_exclamation t has = absurd (cc)

-- a head with this name
abbrev pub HeadAfter : Span → Mark → Spelling Symbol HeadText
HeadAfter name asked head w = (head.name ≡ name) × SpellsHeadAfter asked head w

head_of : Span → Option Span → Option Span → HeadText
head_of name marked label = record { name = name; marked = marked; label = label }

module _ (name : Span) (asked : Mark) (goes_on : (t : Symbol) → HasMeaning (meanings.mark asked) t → GoesOnHead t)
    (no_colon : (t : Symbol) → HasColon t → ¬ HasMeaning (meanings.mark asked) t) where
  label_far : (x l : Option Span) (v z : List Symbol) → SpellsLabel l v → IsApart GoesOnHead z → IsApart (HasMeaning (meanings.mark asked)) (v ++ z)
  label_far x None v z empty far =
      subst (λ l. IsApart (HasMeaning (meanings.mark asked)) (l ++ z)) (sym empty) (parts.apart_within (HasMeaning (meanings.mark asked)) GoesOnHead goes_on z far)
  label_far x (Some label) v z (a, b, (at, (t, is, one)), meant, cut) far =
      subst (λ l. IsApart (HasMeaning (meanings.mark asked)) (l ++ z)) (sym (cut ∙ ap (λ l. l ++ b) one)) (no_colon t (at, is))

  pub head_after_reads : Reads (HeadAfter name asked) GoesOnHead (head_after_at name asked)
  unfolding head_of
  head_after_reads =
      in_words (Then (SpellsMaybe (meanings.mark asked)) (λ m. Mapped (head_of name m) SpellsLabel)) (HeadAfter name asked) GoesOnHead (head_after_at name asked) to back
      (in_sequence (SpellsMaybe (meanings.mark asked)) (λ m. Mapped (head_of name m) SpellsLabel) (HasMeaning (meanings.mark asked)) GoesOnHead
      (λ m h v z spelled far. label_far m spelled.0 v z spelled.1 far) (maybe_mark_at asked) (λ m. label_at m.1 >>= λ l. Ok (head_of name m.0 l.0, l.1)) (maybe_reads (meanings.mark asked))
      (λ m. seen_by (head_of name m) SpellsLabel GoesOnHead label_at (widened SpellsLabel HasColon GoesOnHead label_at colon_goes_on label_reads)))
    where
      to : (h : HeadText) (w : List Symbol) → Then (SpellsMaybe (meanings.mark asked)) (λ m. Mapped (head_of name m) SpellsLabel) h w → HeadAfter name asked h w
      to h w (m, u, v, marked, (l, label, same), cut) = subst (λ k. HeadAfter name asked k w) same (refl, (u, v, marked, label, cut))

      back : (h : HeadText) (w : List Symbol) → HeadAfter name asked h w → Then (SpellsMaybe (meanings.mark asked)) (λ m. Mapped (head_of name m) SpellsLabel) h w
      back h w (is, (u, v, marked, label, cut)) =
          (h.marked, u, v, marked, (h.label, label, ap (λ n. head_of n h.marked h.label) (sym is)), cut)
