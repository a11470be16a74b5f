-- The arguments of a call, and the `)` after them, are read exactly.
use Rattle.std.proofs.Common.{◌≡◌, ℕ, ◌≤◌, ◌<◌, Bool, true, false, List, [], ◌∷◌, ◌++◌, length, Option, Some, None, Ok, refl, sym, ap, subst, ◌∙◌, ◌⊎◌, inl, inr, arith, append_assoc, if◌then◌else◌}
use Rattle.std.proofs.lemmas.List.{append-nil}
use Rattle.grammar.specs.Spelling.{Spelling, Begins, Nothing, Meant, Then, Mapped, Steps, stays, goes, Many, Item}
use Rattle.grammar.specs.Reading.{◌>>=◌, meant_at, and_item, item_step, more_at}
use Rattle.grammar.specs.Exact.{IsApart, IsExact}
use Rattle.grammar.proofs.Parts as parts
use Rattle.grammar.proofs.Sequence as sequences
use Rattle.grammar.proofs.Sequence.{then_apart, token_then}
use Rattle.grammar.proofs.Repetition.{repeated}
use Rattle.grammar.proofs.Chains.{items_of_steps, steps_of_items}
use Rattle.grammar.proofs.Starts.{Begun, meant_begun, front_begun, takes_token, begins_with, Either, left_of, right_of}
use Rattle.pm_ops.specs.declared.fault.PatternKind.TheVariants.{CSyntax}
use Rattle.pm_places.specs.declared.span.Span.{Span}
use Rattle.pd_text.specs.declared.symbol.Symbol.{Symbol}
use Rattle.pd_text.specs.declared.symbol.Symbol.TheVariants as symbols
use Rattle.pd_text.specs.declared.symbol.Mark.TheVariants as marks
use Rattle.pd_text.specs.declared.symbol.Word.TheVariants as words
use Rattle.pd_text.specs.Meanings as meanings
use Rattle.pd_ast.specs.declared.operator.UnaryOperator.{UnaryOperator}
use Rattle.cond_subset.specs.declared.tree.Callee.{Callee}
use Rattle.cond_subset.specs.Operators.{unary_operator}
use Rattle.cond_subset.specs.Trees.{Expr, number, capture, named, parens, unary, binary, choose, call, Exprs, nil, cons, exprs}
use Rattle.cond_subset.specs.Grammar.{◌▸◌, AMark, SpellsWide, Spells, SpellsArgs, SpellsFurther, Within}
use Rattle.cond_subset.specs.Readers.{Inner, Read, is_comma, further_at, args_at, closed_at}
use Rattle.cond_subset.proofs.SymbolsExact.{some_mark}
use Rattle.cond_subset.specs.GoesOn.{GoesOn}
use Rattle.cond_subset.proofs.Ranks.{rank_small, close_apart, comma_apart}
use Rattle.cond_subset.proofs.LinksExact.{some_expression}

-- lists of arguments

-- ',' and an argument
abbrev pub FurtherArg : Spelling Symbol Expr
FurtherArg e w = (AMark marks.Comma ▸ Spells e) w

-- one argument or more
abbrev pub SomeList : Spelling Symbol (List Expr)
SomeList [] w = ⊥
SomeList (e ∷ es) w = (Spells e ▸ Many FurtherArg es) w

further_of : (es : List Expr) (w : List Symbol) → Many FurtherArg es w → SpellsFurther (exprs es) w
further_of [] w empty = empty
further_of (e ∷ es) w (u, v, first, others, cut) = (u, v, first, further_of es v others, cut)

pub args_of : (es : List Expr) (w : List Symbol) → SomeList es w → SpellsArgs (exprs es) w
args_of [] w none = absurd none
args_of (e ∷ es) w (u, v, first, others, cut) = (u, v, first, further_of es v others, cut)

list_of : Exprs → List Expr
list_of nil = []
list_of (cons e es) = e ∷ list_of es

listed : (es : Exprs) → exprs (list_of es) ≡ es
unfolding list_of
listed nil = refl
listed (cons e es) = ap (cons e) (listed es)

of_further : (es : Exprs) (w : List Symbol) → SpellsFurther es w → Many FurtherArg (list_of es) w
unfolding list_of
of_further nil w empty = empty
of_further (cons e es) w (u, v, first, others, cut) = (u, v, first, of_further es v others, cut)

-- what can go on arguments
abbrev pub GoesOnArgs : Symbol → Type 0
GoesOnArgs t = GoesOn 10 t ⊎ (is_comma t ≡ true)

pub comma_is : (t : Symbol) (at : Span) → meanings.mark marks.Comma t ≡ Some at → is_comma t ≡ true
comma_is (symbols.Mark marks.Comma p) at e = refl
comma_is t at e = absurd (cc)

close_no_comma : (t : Symbol) (at : Span) → meanings.mark marks.Close t ≡ Some at → is_comma t ≡ true → ⊥
close_no_comma (symbols.Mark marks.Close p) at e is = cc
close_no_comma t at e is = absurd (cc)

pub close_apart_args : (t : Symbol) (at : Span) → meanings.mark marks.Close t ≡ Some at → ¬ GoesOnArgs t
close_apart_args t at e (inl goes_on) = close_apart 10 t at e goes_on
close_apart_args t at e (inr comma) = close_no_comma t at e comma

further_begins : (x : Expr) (t : Symbol) (w : List Symbol) → FurtherArg x (t ∷ w) → (at : Span) × (meanings.mark marks.Comma t ≡ Some at)
further_begins x t w (u, v, (at, comma), spelled, cut) = (at, begins_with (meanings.mark marks.Comma) at t w u v comma cut)

further_not_empty : (x : Expr) → FurtherArg x [] → ⊥
further_not_empty x (u, v, (at, comma), spelled, cut) = takes_token (meanings.mark marks.Comma) at u v comma cut

pub items_begin : (s x : List Expr) (t : Symbol) (w : List Symbol) → Steps (Item FurtherArg) s x (t ∷ w) → (at : Span) × (meanings.mark marks.Comma t ≡ Some at)
items_begin s x t w (stays same empty) = absurd (cc)
items_begin s x t w (goes {m = m} {u = u} {v = v} (e, (a, b, (at, comma), spelled, inside), now) others cut) =
    (at, begins_with (meanings.mark marks.Comma) at t w a (b ++ v) comma (cut ∙ ap (λ l. l ++ v) inside ∙ append_assoc a b v))

looked_for : {A : Type 0} (b : Bool) (a answer : A) → (if b then Some a else None) ≡ Some answer → (b ≡ true) × (a ≡ answer)
looked_for true a answer e = (refl, cc)
looked_for false a answer e = absurd (cc)

not_looked_for : {A : Type 0} (b : Bool) (a : A) → (if b then Some a else None) ≡ None → b ≡ true → ⊥
not_looked_for true a e is = cc
not_looked_for false a e is = cc

-- no expression begins with `)` or `&`

abbrev pub IsClose : Symbol → Type 0
IsClose (symbols.Mark marks.Close at) = Unit {0}
IsClose t = ⊥

abbrev IsCloseOrFlag : Symbol → Type 0
IsCloseOrFlag (symbols.Mark marks.Close at) = Unit {0}
IsCloseOrFlag (symbols.Mark marks.Ampersand at) = Unit {0}
IsCloseOrFlag t = ⊥

abbrev pub Opens : Symbol → Type 0
Opens t = ¬ IsCloseOrFlag t

pub close_is : (t : Symbol) (at : Span) → meanings.mark marks.Close t ≡ Some at → IsClose t
close_is (symbols.Mark marks.Close p) at e = tt
close_is t at e = absurd (cc)

number_opens : (t : Symbol) (at : Span) → meanings.number t ≡ Some at → Opens t
number_opens (symbols.Mark marks.Close p) at e = absurd (cc)
number_opens (symbols.Mark marks.Ampersand p) at e = absurd (cc)
number_opens t at e = λ h. h

capture_opens : (t : Symbol) (at : Span) → meanings.plain_capture t ≡ Some at → Opens t
capture_opens (symbols.Mark marks.Close p) at e = absurd (cc)
capture_opens (symbols.Mark marks.Ampersand p) at e = absurd (cc)
capture_opens t at e = λ h. h

identifier_opens : (t : Symbol) (at : Span) → meanings.identifier t ≡ Some at → Opens t
identifier_opens (symbols.Mark marks.Close p) at e = absurd (cc)
identifier_opens (symbols.Mark marks.Ampersand p) at e = absurd (cc)
identifier_opens t at e = λ h. h

wide_opens : (t : Symbol) (at : Span) → meanings.word words.Wide t ≡ Some at → Opens t
wide_opens (symbols.Mark marks.Close p) at e = absurd (cc)
wide_opens (symbols.Mark marks.Ampersand p) at e = absurd (cc)
wide_opens t at e = λ h. h

open_opens : (t : Symbol) (at : Span) → meanings.mark marks.Open t ≡ Some at → Opens t
open_opens (symbols.Mark marks.Close p) at e = absurd (cc)
open_opens (symbols.Mark marks.Ampersand p) at e = absurd (cc)
open_opens t at e = λ h. h

unary_opens : (t : Symbol) (op : UnaryOperator × Span) → unary_operator t ≡ Some op → Opens t
unary_opens (symbols.Mark marks.Close p) op e = absurd (cc)
unary_opens (symbols.Mark marks.Ampersand p) op e = absurd (cc)
unary_opens t op e = λ h. h

wide_begun : (wide : Option Span) (name : Span) (w : List Symbol) → (SpellsWide wide ▸ Meant meanings.identifier name) w → Begun Opens w
wide_begun None name w (u, v, empty, word, cut) =
    subst (λ l. Begun Opens l) (sym (cut ∙ ap (λ l. l ++ v) empty)) (meant_begun meanings.identifier Opens identifier_opens name v word)
wide_begun (Some at) name w (u, v, (a, b, wide, colons, inside), word, cut) =
    front_begun Opens u v w (front_begun Opens a b u (meant_begun (meanings.word words.Wide) Opens wide_opens at a wide) inside) cut

pub expression_begun : (x : Expr) (w : List Symbol) → Spells x w → Begun Opens w
expression_begun (number at) w spelled = meant_begun meanings.number Opens number_opens at w spelled
expression_begun (capture at) w spelled = meant_begun meanings.plain_capture Opens capture_opens at w spelled
expression_begun (named at) w spelled = meant_begun meanings.identifier Opens identifier_opens at w spelled
expression_begun (parens at a) w (u, v, left, others, cut) = front_begun Opens u v w (meant_begun (meanings.mark marks.Open) Opens open_opens at u left) cut
expression_begun (unary op at a) w (low, (u, v, first, others, cut)) = front_begun Opens u v w (meant_begun unary_operator Opens unary_opens (op, at) u first) cut
expression_begun (binary op at a b) w (left, right, (u, v, first, others, cut)) = front_begun Opens u v w (expression_begun a u first) cut
expression_begun (choose at c a b) w (low, (u, v, first, others, cut)) = front_begun Opens u v w (expression_begun c u first) cut
expression_begun (call callee args) w (u, v, first, others, cut) = front_begun Opens u v w (wide_begun callee.wide callee.name u first) cut

-- what stands after the `(` of a call

abbrev pub NoArgs : Callee → Spelling Symbol Expr
NoArgs callee = Then (Meant (meanings.mark marks.Close)) (λ k. Nothing (call callee nil))

abbrev pub AfterArgs : Callee → List Expr → Spelling Symbol Expr
AfterArgs callee args = Then (Meant (meanings.mark marks.Close)) (λ k. Nothing (call callee (exprs args)))

abbrev pub SomeArgs : Callee → Spelling Symbol Expr
SomeArgs callee = Then SomeList (AfterArgs callee)

abbrev pub Closed : Callee → Spelling Symbol Expr
Closed callee = Either (NoArgs callee) (SomeArgs callee)

some_no_args : (callee : Callee) → Begins (NoArgs callee) []
some_no_args callee =
    let close = some_mark marks.Close in
    record { value = call callee nil; after = close.after ++ []; spelled = (close.value, close.after, [], close.spelled, (refl, refl), refl) }

pub some_closed : (callee : Callee) → Begins (Closed callee) []
some_closed callee = let some = some_no_args callee in record { value = some.value; after = some.after; spelled = inl some.spelled }

some_after : (callee : Callee) (args : List Expr) → Begins (AfterArgs callee args) []
some_after callee args =
    let close = some_mark marks.Close in
    record { value = call callee (exprs args); after = close.after ++ []; spelled = (close.value, close.after, [], close.spelled, (refl, refl), refl) }

some_some_args : (callee : Callee) → Begins (SomeArgs callee) []
some_some_args callee =
    let first = some_expression 10 in
    let last = some_after callee (first.value ∷ []) in
    record {
      value = last.value;
      after = first.after ++ last.after;
      spelled = (first.value ∷ [], first.after, last.after, (first.after, [], first.spelled.1, refl, sym (append-nil first.after)), last.spelled, refl);
    }

no_args_begun : (callee : Callee) (x : Expr) (w : List Symbol) → NoArgs callee x w → Begun IsClose w
no_args_begun callee x w (k, u, v, close, others, cut) = front_begun IsClose u v w (meant_begun (meanings.mark marks.Close) IsClose close_is k u close) cut

list_begun : (args : List Expr) (w : List Symbol) → SomeList args w → Begun Opens w
list_begun [] w none = absurd none
list_begun (e ∷ es) w (u, v, first, others, cut) = front_begun Opens u v w (expression_begun e u first) cut

some_args_begun : (callee : Callee) (x : Expr) (w : List Symbol) → SomeArgs callee x w → Begun Opens w
some_args_begun callee x w (args, u, v, list, others, cut) = front_begun Opens u v w (list_begun args u list) cut

-- exactness, where the readers one level deeper are exact below a length

module _ (inner : Inner) (bound : ℕ) (good : (r : ℕ) (rest : List Symbol) → length rest < bound → IsExact (Within r) (GoesOn r) rest (inner r rest)) where
  pub further_exact : (input : List Symbol) → length input ≤ bound → IsExact FurtherArg (GoesOn 10) input (further_at inner input)
  further_exact input fits =
      parts.in_words (Then (Meant (meanings.mark marks.Comma)) (λ m. Within 10)) FurtherArg (GoesOn 10) input (further_at inner input)
      (λ x w spelled. (spelled.1, spelled.2, (spelled.0, spelled.3), spelled.4.1, spelled.5))
      (λ x w spelled. (spelled.2.0, spelled.0, spelled.1, spelled.2.1, (rank_small x, spelled.3), spelled.4))
      (token_then (meanings.mark marks.Comma) CSyntax (some_mark marks.Comma) (λ m. Within 10) (GoesOn 10) (λ m. some_expression 10) input (λ m. inner 10 m.1)
      (λ m left shorter. good 10 left (omega arith)))

  item_exact : (before : List Expr) (input : List Symbol) → length input ≤ bound → IsExact (Item FurtherArg before) (GoesOn 10) input (and_item before (further_at inner input))
  item_exact before input fits =
      parts.in_words (Mapped (λ x. before ++ x ∷ []) FurtherArg) (Item FurtherArg before) (GoesOn 10) input (and_item before (further_at inner input))
      (λ now w s. (s.0, s.1, sym s.2)) (λ now w s. (s.0, s.1, sym s.2))
      (parts.mapped (λ x. before ++ x ∷ []) FurtherArg (GoesOn 10) input (further_at inner input) (further_exact input fits))

  item_is : (before : List Expr) (input : List Symbol) (answer : Read (List Expr)) → length input ≤ bound → item_step is_comma (further_at inner) before input ≡ Some answer
      → IsExact (Item FurtherArg before) (GoesOn 10) input answer
  item_is before [] answer fits e = absurd (cc)
  item_is before (t ∷ rest) answer fits e =
      subst (λ a. IsExact (Item FurtherArg before) (GoesOn 10) (t ∷ rest) a) (looked_for (is_comma t) (and_item before (further_at inner (t ∷ rest))) answer e).1
      (item_exact before (t ∷ rest) fits)

  pub items_exact : (before : List Expr) (input : List Symbol) → length input ≤ bound → IsExact (Steps (Item FurtherArg) before) GoesOnArgs input (more_at is_comma (further_at inner) before input)
  items_exact before input fits =
      repeated (Item FurtherArg) (item_step is_comma (further_at inner)) (GoesOn 10) GoesOnArgs
      (λ s m item. further_not_empty item.0 item.1) (λ t goes_on. inl goes_on)
      (λ s m t w item. let (at, comma) = further_begins item.0 t w item.1 in comma_apart 10 t at comma)
      (λ s. refl)
      (λ s t rest answer e. inr (looked_for (is_comma t) (and_item s (further_at inner (t ∷ rest))) answer e).0)
      (length input)
      (λ s rest answer le e. item_is s rest answer (omega arith) e)
      (λ s t rest e m w item. let (at, comma) = further_begins item.0 t w item.1 in not_looked_for (is_comma t) (and_item s (further_at inner (t ∷ rest))) e (comma_is t at comma))
      (length input) before input (omega arith) (omega arith)

  args_exact : (input : List Symbol) → length input < bound → IsExact SomeList GoesOnArgs input (args_at inner input)
  args_exact input fits =
      parts.in_words (Then (Within 10) (λ x. Steps (Item FurtherArg) (x ∷ []))) SomeList GoesOnArgs input (args_at inner input) to back
      (sequences.then (Within 10) (λ x. Steps (Item FurtherArg) (x ∷ [])) (GoesOn 10) GoesOnArgs far (λ x u spelled. record { value = x ∷ []; after = []; spelled = stays refl refl })
      input (inner 10 input) (λ first. more_at is_comma (further_at inner) (first.0 ∷ []) first.1) (good 10 input fits)
      (λ x rest e. let le : length rest ≤ length input = parts.no_longer (Within 10) (GoesOn 10) input (inner 10 input) (good 10 input fits) x rest e in items_exact (x ∷ []) rest (omega arith)))
    where
      far : (x : Expr) (now : List Expr) (v z : List Symbol) → Steps (Item FurtherArg) (x ∷ []) now v → IsApart GoesOnArgs z → IsApart (GoesOn 10) (v ++ z)
      far x now [] z steps apart = parts.apart_within (GoesOn 10) GoesOnArgs (λ t h. inl h) z apart
      far x now (t ∷ v) z steps apart = let (at, comma) = items_begin (x ∷ []) now t v steps in comma_apart 10 t at comma

      to : (now : List Expr) (w : List Symbol) → Then (Within 10) (λ x. Steps (Item FurtherArg) (x ∷ [])) now w → SomeList now w
      to now w (x, u, v, (any, first), steps, cut) =
          let (xs, is, many) = items_of_steps FurtherArg (x ∷ []) now v steps in
          subst (λ l. SomeList l w) (sym is) (u, v, first, many, cut)

      back : (now : List Expr) (w : List Symbol) → SomeList now w → Then (Within 10) (λ x. Steps (Item FurtherArg) (x ∷ [])) now w
      back [] w none = absurd none
      back (x ∷ xs) w (u, v, first, many, cut) = (x, u, v, (rank_small x, first), steps_of_items FurtherArg (x ∷ []) xs v many, cut)

  some_args_exact : (callee : Callee) (input : List Symbol) → length input < bound
      → IsExact (SomeArgs callee) (GoesOn 0) input (args_at inner input >>= λ args. meant_at (meanings.mark marks.Close) CSyntax args.1 >>= λ right. Ok (call callee (exprs args.0), right.1))
  some_args_exact callee input fits =
      then_apart SomeList (AfterArgs callee) GoesOnArgs (GoesOn 0)
      (λ args y rest. takes_token (meanings.mark marks.Close) rest.0 rest.1 rest.2 rest.3 rest.5)
      (λ args y t w rest. close_apart_args t rest.0 (begins_with (meanings.mark marks.Close) rest.0 t w rest.1 rest.2 rest.3 rest.5))
      (some_after callee) input (args_at inner input) (λ args. meant_at (meanings.mark marks.Close) CSyntax args.1 >>= λ right. Ok (call callee (exprs args.0), right.1))
      (args_exact input fits)
      (λ args rest e. token_then (meanings.mark marks.Close) CSyntax (some_mark marks.Close) (λ k. Nothing (call callee (exprs args))) (GoesOn 0)
      (λ k. record { value = call callee (exprs args); after = []; spelled = (refl, refl) }) rest (λ right. Ok (call callee (exprs args), right.1))
      (λ k left shorter. parts.nothing (call callee (exprs args)) (GoesOn 0) left))

  pub closed_exact : (callee : Callee) (input : List Symbol) → length input < bound → IsExact (Closed callee) (GoesOn 0) input (closed_at inner callee input)
  closed_exact callee (symbols.Mark marks.Close at ∷ rest) fits =
      left_of (NoArgs callee) (SomeArgs callee) (GoesOn 0) Opens (some_args_begun callee) (some_no_args callee) (symbols.Mark marks.Close at ∷ rest)
      (closed_at inner callee (symbols.Mark marks.Close at ∷ rest)) (λ none. none tt)
      (token_then (meanings.mark marks.Close) CSyntax (some_mark marks.Close) (λ k. Nothing (call callee nil)) (GoesOn 0)
      (λ k. record { value = call callee nil; after = []; spelled = (refl, refl) }) (symbols.Mark marks.Close at ∷ rest) (λ right. Ok (call callee nil, right.1))
      (λ k left shorter. parts.nothing (call callee nil) (GoesOn 0) left))
  closed_exact callee input fits =
      right_of (NoArgs callee) (SomeArgs callee) (GoesOn 0) IsClose (no_args_begun callee) (some_some_args callee) input (closed_at inner callee input) (λ h. h)
      (some_args_exact callee input fits)

-- what a call after its name is in the grammar

-- a part that ends a text is all of it
pub ends : (N : List Symbol → Type 0) (u v w : List Symbol) → N u → v ≡ [] → w ≡ u ++ v → N w
ends N u v w n empty cut = subst N (sym (cut ∙ ap (λ l. u ++ l) empty ∙ append-nil u)) n

pub of_closed : (callee : Callee) (x : Expr) (w : List Symbol) → Closed callee x w
    → (args : Exprs) × (call callee args ≡ x) × (SpellsArgs args ▸ AMark marks.Close) w
of_closed callee x w (inl (k, u, v, close, (same, empty), cut)) =
    (nil, sym same, ([], w, refl, (k, ends (Meant (meanings.mark marks.Close) k) u v w close empty cut), refl))
of_closed callee x w (inr (args, u, v, list, (k, u₁, v₁, close, (same, empty), inside), cut)) =
    (exprs args, sym same, (u, v, args_of args u list, (k, ends (Meant (meanings.mark marks.Close) k) u₁ v₁ v close empty inside), cut))

pub closed_of : (callee : Callee) (args : Exprs) (w : List Symbol) → (SpellsArgs args ▸ AMark marks.Close) w → Closed callee (call callee args) w
closed_of callee nil w (u, v, empty, (k, close), cut) =
    inl (k, v, [], close, (refl, refl), cut ∙ ap (λ l. l ++ v) empty ∙ sym (append-nil v))
closed_of callee (cons e es) w (u, v, (a, b, first, others, inside), (k, close), cut) =
    inr (
      e ∷ list_of es,
      u,
      v,
      (a, b, first, of_further es b others, inside),
      (k, v, [], close, (ap (λ l. call callee (cons e l)) (sym (listed es)), refl), sym (append-nil v)),
      cut,
    )
