-- Results are read exactly, at every input.
use Rattle.std.proofs.Common.{◌≡◌, ℕ, suc, ◌+◌, ◌<◌, Bool, true, false, ◌&&◌, if◌then◌else◌, List, [], ◌∷◌, ◌++◌, length, Some, None, Ok, refl, sym, ap, subst, ◌∙◌, inl, inr, arith, append_assoc}
use Rattle.grammar.specs.Spelling.{Spelling, Begins, Nothing, Meant, Then, Mapped, Steps, stays, goes, Many, Item}
use Rattle.grammar.specs.Reading.{◌>>=◌, meant_at, first_is, and_item}
use Rattle.grammar.specs.Exact.{IsExact}
use Rattle.grammar.proofs.Parts as parts
use Rattle.grammar.proofs.Sequence.{Never, token_then}
use Rattle.grammar.proofs.Repetition.{repeated}
use Rattle.grammar.proofs.Recursion.{by_length}
use Rattle.grammar.proofs.EveryInput.{Reads, one_token, seen_by}
use Rattle.grammar.proofs.Starts.{Begun, meant_begun, front_begun, Either, left_of, right_of}
use Rattle.pm_ops.specs.declared.fault.PatternKind.TheVariants.{Syntax}
use Rattle.pm_places.specs.declared.span.Span.{Span}
use Rattle.pd_text.specs.declared.symbol.Symbol.{Symbol}
use Rattle.pd_text.specs.declared.symbol.Symbol.TheVariants as symbols
use Rattle.pd_text.specs.declared.symbol.Mark.TheVariants as marks
use Rattle.pd_text.specs.declared.symbol.Word.TheVariants as words
use Rattle.pd_text.specs.Meanings as meanings
use Rattle.cond_subset.specs.Trees.{Expr}
use Rattle.cond_subset.proofs.SymbolsExact.{somewhere, some_mark, some_word}
use Rattle.pd_forms.specs.SymbolReaders.{Read, mark_at, word_at}
use Rattle.pd_forms.specs.PartReaders.{condition_at, declarations_at, braced_at}
use Rattle.pd_forms.specs.Results.{Leaf, capture, brace, Result, leaf, when, choose, switch, bound, Results, none, more, results}
use Rattle.pd_forms.specs.LeafReaders.{leaf_name, Start, captured, braced, opened, start, begins_result, named_at, leaves_at}
use Rattle.pd_forms.specs.ResultReaders.{Inner, Opening, conditional, switched, with_block, named, opening, is_case, ends_with_case, close_if_at, close_if_else_at, after_first_at, conditional_at, case_at, switch_step, items_at, switched_at, close_with_at, with_at, leaf_named_at, after_opening, after_start, result_at, results_at, whole_result_at}
use Rattle.pd_forms.specs.ResultGrammar.{SpellsCondition, SpellsDeclarations, AreCases, SpellsResult, SpellsResults}
use Rattle.pd_forms.proofs.BoundedReading as bounded
use Rattle.pd_forms.proofs.BoundedReading.{ReadsBelow}
use Rattle.pd_forms.proofs.PartsExact.{InBraces, braced_reads, condition_reads, declarations_reads}
use Rattle.pd_forms.proofs.PatternsExact.{IsClose, close_is}
use Rattle.pd_forms.proofs.SwitchItems.{ends_with_last}
use Rattle.pd_forms.proofs.LeavesExact as leaf_proofs
use Rattle.pd_forms.proofs.LeavesExact.{IsStart, leaf_begun, open_starts, close_not_start, some_start, some_leaf, to_leaf, of_leaf, start_opened, opened_start}

-- the first symbol

pub result_begun : (r : Result) (w : List Symbol) → SpellsResult r w → Begun IsStart w
result_begun (leaf l) w spelled = leaf_begun l w spelled
result_begun (when c a) w (u, v, (at, left), others, cut) = front_begun IsStart u v w (meant_begun (meanings.mark marks.Open) IsStart open_starts at u left) cut
result_begun (choose c a b) w (u, v, (at, left), others, cut) = front_begun IsStart u v w (meant_begun (meanings.mark marks.Open) IsStart open_starts at u left) cut
result_begun (switch rs) w (cases, (u, v, (at, left), others, cut)) = front_begun IsStart u v w (meant_begun (meanings.mark marks.Open) IsStart open_starts at u left) cut
result_begun (bound ds a) w (u, v, (at, left), others, cut) = front_begun IsStart u v w (meant_begun (meanings.mark marks.Open) IsStart open_starts at u left) cut

-- what may stand after the first symbols

abbrev ToClose : Result → Spelling Symbol Result
ToClose r = Mapped (λ k. r) (Meant (meanings.mark marks.Close))

abbrev Second : Expr → Result → Spelling Symbol Result
Second c a = Then SpellsResult (λ b. ToClose (choose c a b))

abbrev AfterFirst : Expr → Result → Spelling Symbol Result
AfterFirst c a = Either (ToClose (when c a)) (Second c a)

abbrev Conditional : Spelling Symbol Result
Conditional = Then SpellsCondition (λ c. Then SpellsResult (AfterFirst c))

abbrev AfterIf : Spelling Symbol Result
AfterIf = Then SpellsCondition (λ c. Then SpellsResult (λ a. ToClose (when c a)))

abbrev Case : Spelling Symbol Result
Case = Then (Meant (meanings.mark marks.Open)) (λ left. Then (Meant (meanings.word words.If)) (λ word. AfterIf))

abbrev Step : List Result → List Result → List Symbol → Type 0
Step before now w = (ends_with_case before ≡ true) × Item SpellsResult before now w

abbrev AfterCase : Result → Spelling Symbol Result
AfterCase first = Then (Steps Step (first ∷ [])) (λ all. ToClose (switch (results all)))

abbrev Switched : Spelling Symbol Result
Switched = Then Case AfterCase

abbrev Bound : Spelling Symbol Result
Bound = Then SpellsDeclarations (λ ds. Then SpellsResult (λ a. ToClose (bound ds a)))

abbrev AfterOpening : Span → Opening → Spelling Symbol Result
AfterOpening at conditional = Conditional
AfterOpening at switched = Switched
AfterOpening at with_block = Bound
AfterOpening at (named name) = Mapped leaf (leaf_proofs.AfterName at name)

abbrev AfterStart : Start → Spelling Symbol Result
AfterStart (captured at) = Nothing (leaf (capture at))
AfterStart (braced at) = Mapped (λ e. leaf (brace at e)) InBraces
AfterStart (opened at) = Then (Meant opening) (AfterOpening at)

to_close_begun : (r x : Result) (w : List Symbol) → ToClose r x w → Begun IsClose w
to_close_begun r x w (k, meant, same) = meant_begun (meanings.mark marks.Close) IsClose close_is k w meant

second_begun : (c : Expr) (a x : Result) (w : List Symbol) → Second c a x w → Begun IsStart w
second_begun c a x w (b, u, v, spelled, rest, cut) = front_begun IsStart u v w (result_begun b u spelled) cut

to_close_reads : (r : Result) → Reads (ToClose r) Never (λ input. mark_at marks.Close input >>= λ close. Ok (r, close.1))
to_close_reads r = seen_by (λ k. r) (Meant (meanings.mark marks.Close)) Never (mark_at marks.Close) (one_token (meanings.mark marks.Close) Syntax Never (some_mark marks.Close))

-- steps of a `switch`

flags : {X : Type 0} (p q : Bool) (a answer : X) → (if p && q then Some a else None) ≡ Some answer → (p ≡ true) × (q ≡ true) × (a ≡ answer)
flags true true a answer e = (refl, refl, cc)
flags true false a answer e = absurd (cc)
flags false q a answer e = absurd (cc)

no_flags : {X : Type 0} (p q : Bool) (a : X) → (if p && q then Some a else None) ≡ None → p ≡ true → q ≡ true → ⊥
no_flags true true a e p q = cc
no_flags true false a e p q = cc
no_flags false r a e p q = cc

not_at_end : {X : Type 0} (p : Bool) (a : X) → (if p && false then Some a else None) ≡ None
not_at_end true a = refl
not_at_end false a = refl

-- exactness, where the readers one level deeper are exact below a length

module _ (limit : ℕ) (inner : Inner) (good : ReadsBelow limit SpellsResult Never inner) where
  to_close_below : (r : Result) → ReadsBelow limit (ToClose r) Never (λ input. mark_at marks.Close input >>= λ close. Ok (r, close.1))
  to_close_below r = bounded.at_each limit (ToClose r) Never (λ input. mark_at marks.Close input >>= λ close. Ok (r, close.1)) (to_close_reads r)

  second_below : (c : Expr) (a : Result) → ReadsBelow limit (Second c a) Never (λ input. inner input >>= λ b. close_if_else_at c a b.0 b.1)
  second_below c a = bounded.free limit SpellsResult (λ b. ToClose (choose c a b)) Never inner (λ b. close_if_else_at c a b.0 b.1) good (λ b. to_close_below (choose c a b))

  after_first_by : (c : Expr) (a : Result) (b : Bool) (input : List Symbol) → length input < limit → first_is begins_result input ≡ b
      → IsExact (AfterFirst c a) Never input (if b then (inner input >>= λ x. close_if_else_at c a x.0 x.1) else close_if_at c a input)
  after_first_by c a true input below is =
      right_of (ToClose (when c a)) (Second c a) Never IsClose (to_close_begun (when c a)) (second_below c a).some input (inner input >>= λ x. close_if_else_at c a x.0 x.1) (no_close input is)
      ((second_below c a).exact input below)
    where
      no_close : (tokens : List Symbol) → first_is begins_result tokens ≡ true → ¬ Begun IsClose tokens
      no_close [] e = λ here. here
      no_close (t ∷ rest) e = λ here. close_not_start t here e
  after_first_by c a false input below is =
      left_of (ToClose (when c a)) (Second c a) Never IsStart (second_begun c a) (to_close_below (when c a)).some input (close_if_at c a input) (no_start input is)
      ((to_close_below (when c a)).exact input below)
    where
      no_start : (tokens : List Symbol) → first_is begins_result tokens ≡ false → ¬ Begun IsStart tokens
      no_start [] e = λ here. here
      no_start (t ∷ rest) e = λ here. cc

  after_first_below : (c : Expr) (a : Result) → ReadsBelow limit (AfterFirst c a) Never (after_first_at inner c a)
  after_first_below c a = record {
    some = let some = (to_close_below (when c a)).some in record { value = some.value; after = some.after; spelled = inl some.spelled };
    exact = λ input below. after_first_by c a (first_is begins_result input) input below refl;
  }

  condition_below : ReadsBelow limit SpellsCondition Never condition_at
  condition_below = bounded.at_each limit SpellsCondition Never condition_at condition_reads

  conditional_below : ReadsBelow limit Conditional Never (conditional_at inner)
  conditional_below =
      bounded.free limit SpellsCondition (λ c. Then SpellsResult (AfterFirst c)) Never condition_at (λ c. inner c.1 >>= λ a. after_first_at inner c.0 a.0 a.1) condition_below
      (λ c. bounded.free limit SpellsResult (AfterFirst c) Never inner (λ a. after_first_at inner c a.0 a.1) good (after_first_below c))

  after_if_below : ReadsBelow limit AfterIf Never (λ input. condition_at input >>= λ c. inner c.1 >>= λ a. close_if_at c.0 a.0 a.1)
  after_if_below =
      bounded.free limit SpellsCondition (λ c. Then SpellsResult (λ a. ToClose (when c a))) Never condition_at (λ c. inner c.1 >>= λ a. close_if_at c.0 a.0 a.1) condition_below
      (λ c. bounded.free limit SpellsResult (λ a. ToClose (when c a)) Never inner (λ a. close_if_at c a.0 a.1) good (λ a. to_close_below (when c a)))

  case_below : ReadsBelow limit Case Never (case_at inner)
  case_below =
      bounded.free limit (Meant (meanings.mark marks.Open)) (λ left. Then (Meant (meanings.word words.If)) (λ word. AfterIf)) Never (mark_at marks.Open)
      (λ left. word_at words.If left.1 >>= λ word. condition_at word.1 >>= λ c. inner c.1 >>= λ a. close_if_at c.0 a.0 a.1)
      (bounded.at_each limit (Meant (meanings.mark marks.Open)) Never (mark_at marks.Open) (one_token (meanings.mark marks.Open) Syntax Never (some_mark marks.Open)))
      (λ left.
      bounded.free limit (Meant (meanings.word words.If)) (λ word. AfterIf) Never (word_at words.If) (λ word. condition_at word.1 >>= λ c. inner c.1 >>= λ a. close_if_at c.0 a.0 a.1)
      (bounded.at_each limit (Meant (meanings.word words.If)) Never (word_at words.If) (one_token (meanings.word words.If) Syntax Never (some_word words.If))) (λ word. after_if_below))

  step_is : (before : List Result) (input : List Symbol) (answer : Read (List Result)) → length input < limit → switch_step inner before input ≡ Some answer → IsExact (Step before) Never input answer
  step_is before input answer below e =
      let (open_ended, begun, same) = flags (ends_with_case before) (first_is begins_result input) (and_item before (inner input)) answer e in
      subst (λ a. IsExact (Step before) Never input a) same
      (parts.in_words (Mapped (λ x. before ++ x ∷ []) SpellsResult) (Step before) Never input (and_item before (inner input))
      (λ now w s. (open_ended, (s.0, s.1, sym s.2))) (λ now w s. (s.1.0, s.1.1, sym s.1.2))
      (parts.mapped (λ x. before ++ x ∷ []) SpellsResult Never input (inner input) (good.exact input below)))

  items_below : (before : List Result) → ReadsBelow limit (Steps Step before) IsStart (items_at inner before)
  items_below before = record {
    some = record { value = before; after = []; spelled = stays refl refl };
    exact = λ input below.
        repeated Step (switch_step inner) Never IsStart
        (λ s m step. result_begun step.1.0 [] step.1.1) (λ t impossible. absurd impossible) (λ s m t w step impossible. impossible)
        (λ s. not_at_end (ends_with_case s) (and_item s (inner [])))
        (λ s t rest answer e. (flags (ends_with_case s) (begins_result t) (and_item s (inner (t ∷ rest))) answer e).1)
        (length input)
        (λ s tokens answer fits e. step_is s tokens answer (omega arith) e)
        (λ s t rest e m w step. no_flags (ends_with_case s) (begins_result t) (and_item s (inner (t ∷ rest))) e step.0 (result_begun step.1.0 (t ∷ w) step.1.1))
        (length input) before input (omega arith) (omega arith);
  }

  switched_below : ReadsBelow limit Switched Never (switched_at inner)
  switched_below =
      bounded.free limit Case AfterCase Never (case_at inner) (λ first. items_at inner (first.0 ∷ []) first.1 >>= λ all. mark_at marks.Close all.1 >>= λ close. Ok (switch (results all.0), close.1)) case_below
      (λ first.
      bounded.before limit (Steps Step (first ∷ [])) (λ all. ToClose (switch (results all))) IsStart Never IsClose (λ all. to_close_begun (switch (results all))) close_not_start (items_at inner (first ∷ []))
      (λ all. mark_at marks.Close all.1 >>= λ close. Ok (switch (results all.0), close.1)) (items_below (first ∷ [])) (λ all. to_close_below (switch (results all))))

  with_below : ReadsBelow limit Bound Never (with_at inner)
  with_below =
      bounded.free limit SpellsDeclarations (λ ds. Then SpellsResult (λ a. ToClose (bound ds a))) Never declarations_at (λ ds. inner ds.1 >>= λ a. close_with_at ds.0 a.0 a.1)
      (bounded.at_each limit SpellsDeclarations Never declarations_at declarations_reads)
      (λ ds. bounded.free limit SpellsResult (λ a. ToClose (bound ds a)) Never inner (λ a. close_with_at ds a.0 a.1) good (λ a. to_close_below (bound ds a)))

  named_below : (at name : Span) → ReadsBelow limit (Mapped leaf (leaf_proofs.AfterName at name)) Never (leaf_named_at at name)
  named_below at name =
      bounded.seen limit leaf (leaf_proofs.AfterName at name) Never (λ input. named_at (leaves_at (length input + 1)) at name input) record {
        some = (in_full 0).some;
        exact = λ input below. (in_full (length input + 1)).exact input (omega arith);
      }
    where
      in_full : (n : ℕ) → ReadsBelow n (leaf_proofs.AfterName at name) Never (named_at (leaves_at n) at name)
      in_full n = leaf_proofs.after_name_below n (leaves_at n) (record { some = some_leaf; exact = λ rest below. leaf_proofs.leaves_exact n rest below }) at name

  after_opening_below : (at : Span) (o : Opening) → ReadsBelow limit (AfterOpening at o) Never (after_opening inner at o)
  after_opening_below at conditional = conditional_below
  after_opening_below at switched = switched_below
  after_opening_below at with_block = with_below
  after_opening_below at (named name) = named_below at name

  some_opening : Begins (Meant opening) []
  some_opening = record { value = named somewhere; after = symbols.Identifier somewhere ∷ []; spelled = (symbols.Identifier somewhere, refl, refl) }

  after_start_below : (first : Start) → ReadsBelow limit (AfterStart first) Never (after_start inner first)
  after_start_below (captured at) = record { some = record { value = leaf (capture at); after = []; spelled = (refl, refl) }; exact = λ input below. parts.nothing (leaf (capture at)) Never input }
  after_start_below (braced at) = bounded.seen limit (λ e. leaf (brace at e)) InBraces Never braced_at (bounded.at_each limit InBraces Never braced_at braced_reads)
  after_start_below (opened at) =
      bounded.free limit (Meant opening) (AfterOpening at) Never (λ input. meant_at opening Syntax input) (λ o. after_opening inner at o.0 o.1)
      (bounded.at_each limit (Meant opening) Never (λ input. meant_at opening Syntax input) (one_token opening Syntax Never some_opening)) (after_opening_below at)

-- to the grammar

abbrev Form : Spelling Symbol Result
Form = Then (Meant start) AfterStart

results_of_many : (rs : List Result) (w : List Symbol) → Many SpellsResult rs w → SpellsResults (results rs) w
results_of_many [] w empty = empty
results_of_many (r ∷ rs) w (u, v, first, others, cut) = (u, v, first, results_of_many rs v others, cut)

many_of_results : (rs : Results) (w : List Symbol) → SpellsResults rs w → (qs : List Result) × (results qs ≡ rs) × Many SpellsResult qs w
many_of_results none w empty = ([], refl, empty)
many_of_results (more r rs) w (u, v, first, others, cut) =
    let (qs, same, many) = many_of_results rs v others in
    (r ∷ qs, ap (more r) same, (u, v, first, many, cut))

-- the items that steps put after those before, the last of which is given
items_of_steps : (before : List Result) (last : Result) (start now : List Result) (w : List Symbol) → start ≡ before ++ last ∷ [] → Steps Step start now w
    → (rs : List Result) × (now ≡ before ++ last ∷ rs) × Many SpellsResult rs w × AreCases last (results rs)
items_of_steps before last start now w is (stays same empty) = ([], sym same ∙ is, empty, tt)
items_of_steps before last start now w is (goes {m = m} {u = u} {v = v} (case, (x, spelled, item)) others cut) =
    let (rs, whole, many, cases) = items_of_steps (before ++ last ∷ []) x m now v (item ∙ ap (λ l. l ++ x ∷ []) is) others in
    (x ∷ rs, whole ∙ append_assoc before (last ∷ []) (x ∷ rs), (u, v, spelled, many, cut), (sym (ends_with_last before last) ∙ sym (ap ends_with_case is) ∙ case, cases))

steps_of_items : (before : List Result) (last : Result) (rs : List Result) (w : List Symbol) → Many SpellsResult rs w → AreCases last (results rs)
    → Steps Step (before ++ last ∷ []) (before ++ last ∷ rs) w
steps_of_items before last [] w empty cases = stays refl empty
steps_of_items before last (x ∷ rs) w (u, v, spelled, many, cut) (case, cases) =
    let others : Steps Step ((before ++ last ∷ []) ++ x ∷ []) ((before ++ last ∷ []) ++ x ∷ rs) v = steps_of_items (before ++ last ∷ []) x rs v many cases in
    goes (ends_with_last before last ∙ case, (x, spelled, refl)) (subst (λ l. Steps Step ((before ++ last ∷ []) ++ x ∷ []) l v) (append_assoc before (last ∷ []) (x ∷ rs)) others) cut

-- the symbols after `(`

opening_if : (t : Symbol) → opening t ≡ Some conditional → (at : Span) × (meanings.word words.If t ≡ Some at)
opening_if (symbols.Word words.If at) e = (at, refl)
opening_if (symbols.Word words.Switch at) e = absurd (cc)
opening_if (symbols.Word words.With at) e = absurd (cc)
opening_if t e = absurd (cc)

opening_switch : (t : Symbol) → opening t ≡ Some switched → (at : Span) × (meanings.word words.Switch t ≡ Some at)
opening_switch (symbols.Word words.If at) e = absurd (cc)
opening_switch (symbols.Word words.Switch at) e = (at, refl)
opening_switch (symbols.Word words.With at) e = absurd (cc)
opening_switch t e = absurd (cc)

opening_with : (t : Symbol) → opening t ≡ Some with_block → (at : Span) × (meanings.word words.With t ≡ Some at)
opening_with (symbols.Word words.If at) e = absurd (cc)
opening_with (symbols.Word words.Switch at) e = absurd (cc)
opening_with (symbols.Word words.With at) e = (at, refl)
opening_with t e = absurd (cc)

opening_name : (t : Symbol) (at : Span) → opening t ≡ Some (named at) → leaf_name t ≡ Some at
opening_name (symbols.Word words.If p) at e = absurd (cc)
opening_name (symbols.Word words.Switch p) at e = absurd (cc)
opening_name (symbols.Word words.With p) at e = absurd (cc)
opening_name (symbols.Word w p) at e = cc
opening_name (symbols.Identifier p) at e = cc
opening_name t at e = absurd (cc)

if_opening : (t : Symbol) (at : Span) → meanings.word words.If t ≡ Some at → opening t ≡ Some conditional
if_opening (symbols.Word words.If p) at e = refl
if_opening t at e = absurd (cc)

switch_opening : (t : Symbol) (at : Span) → meanings.word words.Switch t ≡ Some at → opening t ≡ Some switched
switch_opening (symbols.Word words.Switch p) at e = refl
switch_opening t at e = absurd (cc)

with_opening : (t : Symbol) (at : Span) → meanings.word words.With t ≡ Some at → opening t ≡ Some with_block
with_opening (symbols.Word words.With p) at e = refl
with_opening t at e = absurd (cc)

name_opening : (t : Symbol) (at : Span) → leaf_name t ≡ Some at → opening t ≡ Some (named at)
name_opening (symbols.Word words.If p) at e = absurd (cc)
name_opening (symbols.Word words.Switch p) at e = absurd (cc)
name_opening (symbols.Word words.With p) at e = absurd (cc)
name_opening (symbols.Word w p) at e = cc
name_opening (symbols.Identifier p) at e = cc
name_opening t at e = absurd (cc)

-- forms and the grammar

case_to : (r : Result) (w : List Symbol) → Case r w → SpellsResult r w × (is_case r ≡ true)
case_to r w (left, u, v, open_mark, (word, u₁, v₁, if_word, (c, u₂, v₂, condition, (a, u₃, v₃, spelled, (k, close, same), cut₃), cut₂), cut₁), cut) =
    subst (λ x. SpellsResult x w × (is_case x ≡ true)) same
    ((u, v, (left, open_mark), (u₁, v₁, (word, if_word), (u₂, v₂, condition, (u₃, v₃, spelled, (k, close), cut₃), cut₂), cut₁), cut), refl)

of_case : (r : Result) (w : List Symbol) → is_case r ≡ true → SpellsResult r w → Case r w
of_case (when c a) w is (u, v, (left, open_mark), (u₁, v₁, (word, if_word), (u₂, v₂, condition, (u₃, v₃, spelled, (k, close), cut₃), cut₂), cut₁), cut) =
    (left, u, v, open_mark, (word, u₁, v₁, if_word, (c, u₂, v₂, condition, (a, u₃, v₃, spelled, (k, close, refl), cut₃), cut₂), cut₁), cut)
of_case r w is spelled = absurd (cc)

to_conditional : (at : Span) (r : Result) (u v u₁ v₁ w : List Symbol) → Meant (meanings.mark marks.Open) at u → Meant opening conditional u₁ → Conditional r v₁ → v ≡ u₁ ++ v₁ → w ≡ u ++ v
    → SpellsResult r w
to_conditional at r u v u₁ v₁ w left (s, is, one) (c, u₂, v₂, condition, (a, u₃, v₃, first, inl (k, close, same), cut₃), cut₂) cut₁ cut =
    let (p, e) = opening_if s is in
    subst (λ x. SpellsResult x w) same (u, v, (at, left), (u₁, v₁, (p, (s, e, one)), (u₂, v₂, condition, (u₃, v₃, first, (k, close), cut₃), cut₂), cut₁), cut)
to_conditional at r u v u₁ v₁ w left (s, is, one) (c, u₂, v₂, condition, (a, u₃, v₃, first, inr (b, u₄, v₄, second, (k, close, same), cut₄), cut₃), cut₂) cut₁ cut =
    let (p, e) = opening_if s is in
    subst (λ x. SpellsResult x w) same
    (u, v, (at, left), (u₁, v₁, (p, (s, e, one)), (u₂, v₂, condition, (u₃, v₃, first, (u₄, v₄, second, (k, close), cut₄), cut₃), cut₂), cut₁), cut)

to_switch : (at : Span) (r : Result) (u v u₁ v₁ w : List Symbol) → Meant (meanings.mark marks.Open) at u → Meant opening switched u₁ → Switched r v₁ → v ≡ u₁ ++ v₁ → w ≡ u ++ v
    → SpellsResult r w
to_switch at r u v u₁ v₁ w left (s, is, one) (first, u₂, v₂, case, (all, u₃, v₃, steps, (k, close, same), cut₃), cut₂) cut₁ cut =
    let (p, e) = opening_switch s is in
    let (rs, whole, many, cases) = items_of_steps [] first (first ∷ []) all u₃ refl steps in
    let (spelled, is_first) = case_to first u₂ case in
    let inside : v₁ ≡ (u₂ ++ u₃) ++ v₃ = cut₂ ∙ ap (λ l. u₂ ++ l) cut₃ ∙ sym (append_assoc u₂ u₃ v₃) in
    let here : SpellsResult (switch (results (first ∷ rs))) w = (
      (is_first, cases),
      (u, v, (at, left), (u₁, v₁, (p, (s, e, one)), (u₂ ++ u₃, v₃, (u₂, u₃, spelled, results_of_many rs u₃ many, refl), (k, close), inside), cut₁), cut),
    ) in
    subst (λ x. SpellsResult x w) (ap (λ l. switch (results l)) (sym whole) ∙ same) here

to_with : (at : Span) (r : Result) (u v u₁ v₁ w : List Symbol) → Meant (meanings.mark marks.Open) at u → Meant opening with_block u₁ → Bound r v₁ → v ≡ u₁ ++ v₁ → w ≡ u ++ v
    → SpellsResult r w
to_with at r u v u₁ v₁ w left (s, is, one) (ds, u₂, v₂, declarations, (a, u₃, v₃, spelled, (k, close, same), cut₃), cut₂) cut₁ cut =
    let (p, e) = opening_with s is in
    subst (λ x. SpellsResult x w) same (u, v, (at, left), (u₁, v₁, (p, (s, e, one)), (u₂, v₂, declarations, (u₃, v₃, spelled, (k, close), cut₃), cut₂), cut₁), cut)

to_result : (r : Result) (w : List Symbol) → Form r w → SpellsResult r w
to_result r w (captured at, u, v, meant, (same, empty), cut) =
    subst (λ x. SpellsResult x w) (sym same) (to_leaf (capture at) w (captured at, u, v, meant, (refl, empty), cut))
to_result r w (braced at, u, v, meant, (e, inside, same), cut) =
    subst (λ x. SpellsResult x w) same (to_leaf (brace at e) w (braced at, u, v, meant, (e, inside, refl), cut))
to_result r w (opened at, u, v, (t, is, one), (conditional, u₁, v₁, word, rest, cut₁), cut) = to_conditional at r u v u₁ v₁ w (t, start_opened t at is, one) word rest cut₁ cut
to_result r w (opened at, u, v, (t, is, one), (switched, u₁, v₁, word, rest, cut₁), cut) = to_switch at r u v u₁ v₁ w (t, start_opened t at is, one) word rest cut₁ cut
to_result r w (opened at, u, v, (t, is, one), (with_block, u₁, v₁, word, rest, cut₁), cut) = to_with at r u v u₁ v₁ w (t, start_opened t at is, one) word rest cut₁ cut
to_result r w (opened at, u, v, meant, (named name, u₁, v₁, (s, is, one), (l, spelled, same), cut₁), cut) =
    subst (λ x. SpellsResult x w) same (to_leaf l w (opened at, u, v, meant, (name, u₁, v₁, (s, opening_name s name is, one), spelled, cut₁), cut))

of_leaf_form : (l : Leaf) (w : List Symbol) → leaf_proofs.Form l w → Form (leaf l) w
of_leaf_form l w (captured at, u, v, meant, (same, empty), cut) = (captured at, u, v, meant, (ap leaf same, empty), cut)
of_leaf_form l w (braced at, u, v, meant, (e, inside, same), cut) = (braced at, u, v, meant, (e, inside, ap leaf same), cut)
of_leaf_form l w (opened at, u, v, meant, (name, u₁, v₁, (s, is, one), spelled, cut₁), cut) =
    (opened at, u, v, meant, (named name, u₁, v₁, (s, name_opening s name is, one), (l, spelled, refl), cut₁), cut)

of_result : (r : Result) (w : List Symbol) → SpellsResult r w → Form r w
of_result (leaf l) w spelled = of_leaf_form l w (of_leaf l w spelled)
of_result (when c a) w (u, v, (at, (t, is, one)), (u₁, v₁, (p, (s, is₁, one₁)), (u₂, v₂, condition, (u₃, v₃, first, (k, close), cut₃), cut₂), cut₁), cut) =
    (opened at, u, v, (t, opened_start t at is, one), (conditional, u₁, v₁, (s, if_opening s p is₁, one₁), (c, u₂, v₂, condition, (a, u₃, v₃, first, inl (k, close, refl), cut₃), cut₂), cut₁), cut)
of_result (choose c a b) w (u, v, (at, (t, is, one)), (u₁, v₁, (p, (s, is₁, one₁)), (u₂, v₂, condition, (u₃, v₃, first, (u₄, v₄, second, (k, close), cut₄), cut₃), cut₂), cut₁), cut) = (
  opened at,
  u,
  v,
  (t, opened_start t at is, one),
  (conditional, u₁, v₁, (s, if_opening s p is₁, one₁), (c, u₂, v₂, condition, (a, u₃, v₃, first, inr (b, u₄, v₄, second, (k, close, refl), cut₄), cut₃), cut₂), cut₁),
  cut,
)
of_result (switch none) w (cases, spelled) = absurd cases
of_result (switch (more first others)) w ((is_first, cases), (u, v, (at, (t, is, one)), (u₁, v₁, (p, (s, is₁, one₁)), (u₂, v₂, (u₃, v₃, spelled, rest, cut₃), (k, close), cut₂), cut₁), cut)) =
    let (qs, same, many) = many_of_results others v₃ rest in
    let steps : Steps Step (first ∷ []) (first ∷ qs) v₃ = steps_of_items [] first qs v₃ many (subst (AreCases first) (sym same) cases) in
    let inside : v₁ ≡ u₃ ++ (v₃ ++ v₂) = cut₂ ∙ ap (λ l. l ++ v₂) cut₃ ∙ append_assoc u₃ v₃ v₂ in (
      opened at,
      u,
      v,
      (t, opened_start t at is, one),
      (
        switched,
        u₁,
        v₁,
        (s, switch_opening s p is₁, one₁),
        (first, u₃, v₃ ++ v₂, of_case first u₃ is_first spelled, (first ∷ qs, v₃, v₂, steps, (k, close, ap (λ l. switch (more first l)) same), refl), inside),
        cut₁,
      ),
      cut,
    )
of_result (bound ds a) w (u, v, (at, (t, is, one)), (u₁, v₁, (p, (s, is₁, one₁)), (u₂, v₂, declarations, (u₃, v₃, spelled, (k, close), cut₃), cut₂), cut₁), cut) =
    (opened at, u, v, (t, opened_start t at is, one), (with_block, u₁, v₁, (s, with_opening s p is₁, one₁), (ds, u₂, v₂, declarations, (a, u₃, v₃, spelled, (k, close, refl), cut₃), cut₂), cut₁), cut)

-- at every input

some_result : Begins SpellsResult []
some_result = record { value = leaf some_leaf.value; after = some_leaf.after; spelled = some_leaf.spelled }

AreExact : Inner → List Symbol → Type 0
AreExact inner input = IsExact SpellsResult Never input (inner input)

results_exact : (n : ℕ) (input : List Symbol) → length input < n → IsExact SpellsResult Never input (results_at n input)
unfolding AreExact
results_exact = by_length results_at AreExact deeper
  where
    deeper : (n : ℕ) (input : List Symbol) → ((rest : List Symbol) → length rest < length input → IsExact SpellsResult Never rest (results_at n rest))
        → IsExact SpellsResult Never input (results_at (suc n) input)
    deeper n input good =
        let inner : ReadsBelow (length input) SpellsResult Never (results_at n) = record { some = some_result; exact = λ rest below. good rest below } in
        parts.in_words Form SpellsResult Never input (result_at (results_at n) input) to_result of_result
        (token_then start Syntax some_start AfterStart Never (λ first. (after_start_below (length input) (results_at n) inner first).some) input
        (λ first. after_start (results_at n) first.0 first.1)
        (λ first rest shorter. (after_start_below (length input) (results_at n) inner first).exact rest shorter))

pub result_reads : Reads SpellsResult Never whole_result_at
result_reads = record { some = some_result; exact = λ input. results_exact (length input + 1) input (omega arith) }
