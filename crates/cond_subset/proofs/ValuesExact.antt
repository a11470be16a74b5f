-- The value of a declaration is read exactly.
use Rattle.std.proofs.Common.{◌≡◌, ℕ, ◌≤◌, ◌<◌, List, [], ◌∷◌, ◌++◌, length, Some, Ok, refl, sym, subst, inl, inr, arith}
use Rattle.grammar.specs.Spelling.{Spelling, Begins, Nothing, Meant, Then, Mapped, Steps, stays, Item}
use Rattle.grammar.specs.Reading.{◌>>=◌, meant_at, more_at}
use Rattle.grammar.specs.Exact.{IsExact}
use Rattle.grammar.proofs.Parts as parts
use Rattle.grammar.proofs.Sequence.{then_apart, token_then}
use Rattle.grammar.proofs.Starts.{Begun, meant_begun, front_begun, widen_begun, Either, left_of, right_of}
use Rattle.pm_ops.specs.declared.fault.PatternKind.TheVariants.{CSyntax}
use Rattle.pm_places.specs.declared.span.Span.{Span}
use Rattle.pd_text.specs.declared.symbol.Symbol.{Symbol}
use Rattle.pd_text.specs.declared.symbol.Symbol.TheVariants as symbols
use Rattle.pd_text.specs.declared.symbol.Mark.TheVariants as marks
use Rattle.pd_text.specs.Meanings as meanings
use Rattle.cond_subset.specs.declared.tree.Arithmetic.{Arithmetic}
use Rattle.cond_subset.specs.declared.tree.Arithmetic.TheVariants as arithmetics
use Rattle.cond_subset.specs.declared.tree.FlaggedCall.{FlaggedCall}
use Rattle.cond_subset.specs.GoesOn.{GoesOn}
use Rattle.cond_subset.specs.Trees.{Expr, call, exprs}
use Rattle.cond_subset.specs.Grammar.{Within}
use Rattle.cond_subset.specs.Declarations.{Value, plain, flagged}
use Rattle.cond_subset.specs.Readers.{Inner, Read, is_comma, further_at, links_at}
use Rattle.cond_subset.specs.DeclarationReaders.{callee_of, called_at, others_at, flag_at, flag_or_other_at, last_at, one_more_at, second_at, after_first_at, opened_at}
use Rattle.cond_subset.proofs.SymbolsExact.{some_mark, some_identifier}
use Rattle.cond_subset.proofs.Ranks.{close_apart, comma_apart}
use Rattle.cond_subset.proofs.LinksExact.{Continued, some_continued, some_expression, links_exact}
use Rattle.cond_subset.proofs.ArgumentsExact.{FurtherArg, GoesOnArgs, close_apart_args, items_begin, items_exact, IsClose, Opens, close_is, expression_begun}
use Rattle.cond_subset.proofs.CallTails.{Called, Others, ToEnd, FlagTail, Flag, Other, FlagOrOther, AfterComma, Last, Next, OneMore, AfterArgument}

-- what stands after the `(` of a call that may have a flag
abbrev pub Opened : FlaggedCall → Spelling Symbol Value
Opened c = Either (Called c []) (Then (Within 10) (λ e. AfterArgument c c.operation (e ∷ [])))

-- first symbols

abbrev IsComma : Symbol → Type 0
IsComma (symbols.Mark marks.Comma at) = Unit {0}
IsComma t = ⊥

comma_here : (t : Symbol) (at : Span) → meanings.mark marks.Comma t ≡ Some at → IsComma t
comma_here (symbols.Mark marks.Comma p) at e = tt
comma_here t at e = absurd (cc)

abbrev IsAmpersand : Symbol → Type 0
IsAmpersand (symbols.Mark marks.Ampersand at) = Unit {0}
IsAmpersand t = ⊥

ampersand_here : (t : Symbol) (at : Span) → meanings.mark marks.Ampersand t ≡ Some at → IsAmpersand t
ampersand_here (symbols.Mark marks.Ampersand p) at e = tt
ampersand_here t at e = absurd (cc)

-- `)` or `,`
abbrev IsStop : Symbol → Type 0
IsStop (symbols.Mark marks.Close at) = Unit {0}
IsStop (symbols.Mark marks.Comma at) = Unit {0}
IsStop t = ⊥

close_stops : (t : Symbol) → IsClose t → IsStop t
close_stops (symbols.Mark marks.Close at) h = tt
close_stops t h = absurd h

comma_stops : (t : Symbol) → IsComma t → IsStop t
comma_stops (symbols.Mark marks.Comma at) h = tt
comma_stops t h = absurd h

stop_apart : (t : Symbol) → IsStop t → ¬ GoesOn 10 t
stop_apart (symbols.Mark marks.Close at) h = close_apart 10 (symbols.Mark marks.Close at) at refl
stop_apart (symbols.Mark marks.Comma at) h = comma_apart 10 (symbols.Mark marks.Comma at) at refl
stop_apart t h = absurd h

called_begun : (c : FlaggedCall) (args : List Expr) (v : Value) (w : List Symbol) → Called c args v w → Begun IsClose w
called_begun c args v w (k, a, b, close, rest, cut) = front_begun IsClose a b w (meant_begun (meanings.mark marks.Close) IsClose close_is k a close) cut

called_stops : (c : FlaggedCall) (args : List Expr) (v : Value) (w : List Symbol) → Called c args v w → Begun IsStop w
called_stops c args v w called = widen_begun IsClose IsStop close_stops w (called_begun c args v w called)

after_comma_begun : (c : FlaggedCall) (args : List Expr) (v : Value) (w : List Symbol) → AfterComma c args v w → Begun IsComma w
after_comma_begun c args v w (m, a, b, comma, rest, cut) = front_begun IsComma a b w (meant_begun (meanings.mark marks.Comma) IsComma comma_here m a comma) cut

next_begun : (M : List Expr → Spelling Symbol Value) (args : List Expr) (v : Value) (w : List Symbol) → Next M args v w → Begun IsComma w
next_begun M args v w (m, a, b, comma, rest, cut) = front_begun IsComma a b w (meant_begun (meanings.mark marks.Comma) IsComma comma_here m a comma) cut

last_stops : (c : FlaggedCall) (args : List Expr) (v : Value) (w : List Symbol) → Last c args v w → Begun IsStop w
last_stops c args v w (inl called) = called_stops c args v w called
last_stops c args v w (inr comma) = widen_begun IsComma IsStop comma_stops w (after_comma_begun c args v w comma)

one_more_stops : (c : FlaggedCall) (M : List Expr → Spelling Symbol Value) (args : List Expr) (v : Value) (w : List Symbol) → OneMore c M args v w → Begun IsStop w
one_more_stops c M args v w (inl called) = called_stops c args v w called
one_more_stops c M args v w (inr next) = widen_begun IsComma IsStop comma_stops w (next_begun M args v w next)

argument_stops : (c : FlaggedCall) (op : Arithmetic) (args : List Expr) (v : Value) (w : List Symbol) → AfterArgument c op args v w → Begun IsStop w
argument_stops c arithmetics.Negate args v w rest = last_stops c args v w rest
argument_stops c op args v w rest = one_more_stops c (OneMore c (Last c)) args v w rest

others_stop : (c : FlaggedCall) (args : List Expr) (v : Value) (w : List Symbol) → Others c args v w → Begun IsStop w
others_stop c args v w (all, [], q, steps, called, cut) = subst (λ l. Begun IsStop l) (sym cut) (called_stops c all v q called)
others_stop c args v w (all, t ∷ p, q, steps, called, cut) =
    let (at, comma) = items_begin args all t p steps in
    subst (λ l. Begun IsStop l) (sym cut) (comma_stops t (comma_here t at comma))

flag_begun : (c : FlaggedCall) (args : List Expr) (v : Value) (w : List Symbol) → Flag c args v w → Begun IsAmpersand w
flag_begun c args v w (m, a, b, mark, rest, cut) = front_begun IsAmpersand a b w (meant_begun (meanings.mark marks.Ampersand) IsAmpersand ampersand_here m a mark) cut

-- something is spelled

some_called : (c : FlaggedCall) (args : List Expr) → Begins (Called c args) []
some_called c args =
    let close = some_mark marks.Close in
    let rest = some_continued 10 (call (callee_of c) (exprs args)) in
    record { value = plain rest.value; after = close.after ++ rest.after; spelled = (close.value, close.after, rest.after, close.spelled, (rest.value, rest.spelled, refl), refl) }

some_others : (c : FlaggedCall) (args : List Expr) → Begins (Others c args) []
some_others c args =
    let rest = some_called c args in
    record { value = rest.value; after = rest.after; spelled = (args, [], rest.after, stays refl refl, rest.spelled, refl) }

some_then : (M : Expr → Spelling Symbol Value) → ((e : Expr) → Begins (M e) []) → Begins (Then (Within 10) M) []
some_then M some =
    let first = some_expression 10 in
    let rest = some first.value in
    record { value = rest.value; after = first.after ++ rest.after; spelled = (first.value, first.after, rest.after, first.spelled, rest.spelled, refl) }

some_to_end : (c : FlaggedCall) (args : List Expr) (flag : Span) → Begins (ToEnd c args flag) []
some_to_end c args flag =
    let close = some_mark marks.Close in
    record { value = flagged c args flag; after = close.after ++ []; spelled = (close.value, close.after, [], close.spelled, (refl, refl), refl) }

some_flag_tail : (c : FlaggedCall) (args : List Expr) → Begins (FlagTail c args) []
some_flag_tail c args =
    let name = some_identifier in
    let rest = some_to_end c args name.value in
    record { value = rest.value; after = name.after ++ rest.after; spelled = (name.value, name.after, rest.after, name.spelled, rest.spelled, refl) }

some_flag : (c : FlaggedCall) (args : List Expr) → Begins (Flag c args) []
some_flag c args =
    let mark = some_mark marks.Ampersand in
    let rest = some_flag_tail c args in
    record { value = rest.value; after = mark.after ++ rest.after; spelled = (mark.value, mark.after, rest.after, mark.spelled, rest.spelled, refl) }

after_some_comma : (M : Spelling Symbol Value) → Begins M [] → Begins (Then (Meant (meanings.mark marks.Comma)) (λ m. M)) []
after_some_comma M rest =
    let comma = some_mark marks.Comma in
    record { value = rest.value; after = comma.after ++ rest.after; spelled = (comma.value, comma.after, rest.after, comma.spelled, rest.spelled, refl) }

some_flag_or_other : (c : FlaggedCall) (args : List Expr) → Begins (FlagOrOther c args) []
some_flag_or_other c args = let some = some_flag c args in record { value = some.value; after = some.after; spelled = inl some.spelled }

some_last : (c : FlaggedCall) (args : List Expr) → Begins (Last c args) []
some_last c args = let some = some_called c args in record { value = some.value; after = some.after; spelled = inl some.spelled }

some_one_more : (c : FlaggedCall) (M : List Expr → Spelling Symbol Value) (args : List Expr) → Begins (OneMore c M args) []
some_one_more c M args = let some = some_called c args in record { value = some.value; after = some.after; spelled = inl some.spelled }

some_argument : (c : FlaggedCall) (op : Arithmetic) (args : List Expr) → Begins (AfterArgument c op args) []
some_argument c arithmetics.Negate args = some_last c args
some_argument c op args = some_one_more c (OneMore c (Last c)) args

-- exactness, where the readers one level deeper are exact below a length

module _ (inner : Inner) (bound : ℕ) (good : (r : ℕ) (rest : List Symbol) → length rest < bound → IsExact (Within r) (GoesOn r) rest (inner r rest)) where
  -- an expression, and what begins with `)` or `,`
  after_expression : (M : Expr → Spelling Symbol Value) (next : Expr × List Symbol → Read Value) → ((e : Expr) (v : Value) (w : List Symbol) → M e v w → Begun IsStop w)
      → ((e : Expr) → Begins (M e) []) → (input : List Symbol) → length input < bound
      → ((e : Expr) (rest : List Symbol) → length rest < bound → IsExact (M e) (GoesOn 10) rest (next (e, rest))) → IsExact (Then (Within 10) M) (GoesOn 10) input (inner 10 input >>= next)
  after_expression M next stops some input fits second =
      then_apart (Within 10) M (GoesOn 10) (GoesOn 10) (λ e v m. stops e v [] m) (λ e v t w m. stop_apart t (stops e v (t ∷ w) m)) some input (inner 10 input) next (good 10 input fits)
      (λ e rest is. let le : length rest ≤ length input = parts.no_longer (Within 10) (GoesOn 10) input (inner 10 input) (good 10 input fits) e rest is in second e rest (omega arith))

  called_exact : (c : FlaggedCall) (args : List Expr) (input : List Symbol) → length input < bound → IsExact (Called c args) (GoesOn 10) input (called_at inner c args input)
  called_exact c args input fits =
      token_then (meanings.mark marks.Close) CSyntax (some_mark marks.Close) (λ k. Mapped plain (Continued 10 (call (callee_of c) (exprs args)))) (GoesOn 10) some_rest input
      (λ right. links_at inner 10 (call (callee_of c) (exprs args)) right.1 >>= λ e. Ok (plain e.0, e.1))
      (λ k left shorter.
      parts.mapped plain (Continued 10 (call (callee_of c) (exprs args))) (GoesOn 10) left (links_at inner 10 (call (callee_of c) (exprs args)) left)
      (links_exact inner bound good 10 (call (callee_of c) (exprs args)) left (omega arith)))
    where
      some_rest : (k : Span) → Begins (Mapped plain (Continued 10 (call (callee_of c) (exprs args)))) []
      some_rest k = let rest = some_continued 10 (call (callee_of c) (exprs args)) in record { value = plain rest.value; after = rest.after; spelled = (rest.value, rest.spelled, refl) }

  others_exact : (c : FlaggedCall) (args : List Expr) (input : List Symbol) → length input < bound → IsExact (Others c args) (GoesOn 10) input (others_at inner c args input)
  others_exact c args input fits =
      let items = items_exact inner bound good args input (omega arith) in
      then_apart (Steps (Item FurtherArg) args) (Called c) GoesOnArgs (GoesOn 10) (λ all v called. called_begun c all v [] called)
      (λ all v t w called. close_only t (called_begun c all v (t ∷ w) called)) (some_called c) input (more_at is_comma (further_at inner) args input) (λ all. called_at inner c all.0 all.1) items
      (λ all rest is. let le : length rest ≤ length input = parts.no_longer (Steps (Item FurtherArg) args) GoesOnArgs input (more_at is_comma (further_at inner) args input) items all rest is in called_exact c all rest (omega arith))
    where
      close_only : (t : Symbol) → IsClose t → ¬ GoesOnArgs t
      close_only (symbols.Mark marks.Close at) h = close_apart_args (symbols.Mark marks.Close at) at refl
      close_only t h = absurd h

  flag_tail_exact : (c : FlaggedCall) (args : List Expr) (input : List Symbol) → IsExact (FlagTail c args) (GoesOn 10) input (flag_at c args input)
  flag_tail_exact c args input =
      token_then meanings.identifier CSyntax some_identifier (ToEnd c args) (GoesOn 10) (some_to_end c args) input (λ flag. meant_at (meanings.mark marks.Close) CSyntax flag.1 >>= λ right. Ok (flagged c args flag.0, right.1))
      (λ flag left shorter.
      token_then (meanings.mark marks.Close) CSyntax (some_mark marks.Close) (λ k. Nothing (flagged c args flag)) (GoesOn 10) (λ k. record { value = flagged c args flag; after = []; spelled = (refl, refl) }) left
      (λ right. Ok (flagged c args flag, right.1)) (λ k rest less. parts.nothing (flagged c args flag) (GoesOn 10) rest))

  other_exact : (c : FlaggedCall) (args : List Expr) (input : List Symbol) → length input < bound
      → IsExact (Other c args) (GoesOn 10) input (inner 10 input >>= λ e. others_at inner c (args ++ e.0 ∷ []) e.1)
  other_exact c args input fits =
      after_expression (λ e. Others c (args ++ e ∷ [])) (λ e. others_at inner c (args ++ e.0 ∷ []) e.1) (λ e v w others. others_stop c (args ++ e ∷ []) v w others)
      (λ e. some_others c (args ++ e ∷ [])) input fits (λ e rest less. others_exact c (args ++ e ∷ []) rest less)

  some_other : (c : FlaggedCall) (args : List Expr) → Begins (Other c args) []
  some_other c args = some_then (λ e. Others c (args ++ e ∷ [])) (λ e. some_others c (args ++ e ∷ []))

  other_begun : (c : FlaggedCall) (args : List Expr) (v : Value) (w : List Symbol) → Other c args v w → Begun Opens w
  other_begun c args v w (e, a, b, (any, spelled), rest, cut) = front_begun Opens a b w (expression_begun e a spelled) cut

  first_begun : (c : FlaggedCall) (v : Value) (w : List Symbol) → Then (Within 10) (λ e. AfterArgument c c.operation (e ∷ [])) v w → Begun Opens w
  first_begun c v w (e, a, b, (any, spelled), rest, cut) = front_begun Opens a b w (expression_begun e a spelled) cut

  flag_or_other_exact : (c : FlaggedCall) (args : List Expr) (input : List Symbol) → length input < bound → IsExact (FlagOrOther c args) (GoesOn 10) input (flag_or_other_at inner c args input)
  flag_or_other_exact c args (symbols.Mark marks.Ampersand at ∷ rest) fits =
      left_of (Flag c args) (Other c args) (GoesOn 10) Opens (other_begun c args) (some_flag c args) (symbols.Mark marks.Ampersand at ∷ rest) (flag_at c args rest) (λ none. none tt)
      (token_then (meanings.mark marks.Ampersand) CSyntax (some_mark marks.Ampersand) (λ m. FlagTail c args) (GoesOn 10) (λ m. some_flag_tail c args) (symbols.Mark marks.Ampersand at ∷ rest)
      (λ m. flag_at c args m.1) (λ m left shorter. flag_tail_exact c args left))
  flag_or_other_exact c args input fits =
      right_of (Flag c args) (Other c args) (GoesOn 10) IsAmpersand (flag_begun c args) (some_other c args) input (flag_or_other_at inner c args input) (λ h. h) (other_exact c args input fits)

  pub last_exact : (c : FlaggedCall) (args : List Expr) (input : List Symbol) → length input < bound → IsExact (Last c args) (GoesOn 10) input (last_at inner c args input)
  last_exact c args (symbols.Mark marks.Comma at ∷ rest) fits =
      right_of (Called c args) (AfterComma c args) (GoesOn 10) IsClose (called_begun c args) (after_some_comma (FlagOrOther c args) (some_flag_or_other c args)) (symbols.Mark marks.Comma at ∷ rest)
      (flag_or_other_at inner c args rest) (λ h. h)
      (token_then (meanings.mark marks.Comma) CSyntax (some_mark marks.Comma) (λ m. FlagOrOther c args) (GoesOn 10) (λ m. some_flag_or_other c args) (symbols.Mark marks.Comma at ∷ rest)
      (λ m. flag_or_other_at inner c args m.1) (λ m left shorter. flag_or_other_exact c args left (omega arith)))
  last_exact c args input fits =
      left_of (Called c args) (AfterComma c args) (GoesOn 10) IsComma (after_comma_begun c args) (some_called c args) input (called_at inner c args input) (λ h. h) (called_exact c args input fits)

  pub one_more_exact : (c : FlaggedCall) (M : List Expr → Spelling Symbol Value) (next : List Expr → List Symbol → Read Value)
      → ((args : List Expr) (v : Value) (w : List Symbol) → M args v w → Begun IsStop w) → ((args : List Expr) → Begins (M args) [])
      → ((args : List Expr) (input : List Symbol) → length input < bound → IsExact (M args) (GoesOn 10) input (next args input))
      → (args : List Expr) (input : List Symbol) → length input < bound → IsExact (OneMore c M args) (GoesOn 10) input (one_more_at inner c next args input)
  one_more_exact c M next stops some exact args (symbols.Mark marks.Comma at ∷ rest) fits =
      right_of (Called c args) (Next M args) (GoesOn 10) IsClose (called_begun c args) (after_some_comma (Then (Within 10) (λ e. M (args ++ e ∷ []))) (some_then (λ e. M (args ++ e ∷ [])) (λ e. some (args ++ e ∷ []))))
      (symbols.Mark marks.Comma at ∷ rest) (inner 10 rest >>= λ e. next (args ++ e.0 ∷ []) e.1) (λ h. h)
      (token_then (meanings.mark marks.Comma) CSyntax (some_mark marks.Comma) (λ m. Then (Within 10) (λ e. M (args ++ e ∷ []))) (GoesOn 10)
      (λ m. some_then (λ e. M (args ++ e ∷ [])) (λ e. some (args ++ e ∷ []))) (symbols.Mark marks.Comma at ∷ rest) (λ m. inner 10 m.1 >>= λ e. next (args ++ e.0 ∷ []) e.1)
      (λ m left shorter.
      after_expression (λ e. M (args ++ e ∷ [])) (λ e. next (args ++ e.0 ∷ []) e.1) (λ e v w m. stops (args ++ e ∷ []) v w m) (λ e. some (args ++ e ∷ [])) left (omega arith)
      (λ e after less. exact (args ++ e ∷ []) after less)))
  one_more_exact c M next stops some exact args input fits =
      left_of (Called c args) (Next M args) (GoesOn 10) IsComma (next_begun M args) (some_called c args) input (called_at inner c args input) (λ h. h) (called_exact c args input fits)

  second_exact : (c : FlaggedCall) (args : List Expr) (input : List Symbol) → length input < bound → IsExact (OneMore c (Last c) args) (GoesOn 10) input (second_at inner c args input)
  second_exact c args input fits = one_more_exact c (Last c) (last_at inner c) (last_stops c) (some_last c) (last_exact c) args input fits

  argument_exact : (c : FlaggedCall) (op : Arithmetic) (args : List Expr) (input : List Symbol) → length input < bound
      → IsExact (AfterArgument c op args) (GoesOn 10) input (after_first_at inner c op args input)
  argument_exact c arithmetics.Negate args input fits = last_exact c args input fits
  argument_exact c op args input fits =
      one_more_exact c (OneMore c (Last c)) (second_at inner c) (one_more_stops c (Last c)) (some_one_more c (Last c)) (second_exact c) args input fits

  first_argument_exact : (c : FlaggedCall) (input : List Symbol) → length input < bound
      → IsExact (Then (Within 10) (λ e. AfterArgument c c.operation (e ∷ []))) (GoesOn 10) input (inner 10 input >>= λ e. after_first_at inner c c.operation (e.0 ∷ []) e.1)
  first_argument_exact c input fits =
      after_expression (λ e. AfterArgument c c.operation (e ∷ [])) (λ e. after_first_at inner c c.operation (e.0 ∷ []) e.1) (λ e v w m. argument_stops c c.operation (e ∷ []) v w m)
      (λ e. some_argument c c.operation (e ∷ [])) input fits (λ e rest less. argument_exact c c.operation (e ∷ []) rest less)

  pub opened_exact : (c : FlaggedCall) (input : List Symbol) → length input < bound → IsExact (Opened c) (GoesOn 10) input (opened_at inner c input)
  opened_exact c (symbols.Mark marks.Close at ∷ rest) fits =
      left_of (Called c []) (Then (Within 10) (λ e. AfterArgument c c.operation (e ∷ []))) (GoesOn 10) Opens (first_begun c) (some_called c []) (symbols.Mark marks.Close at ∷ rest)
      (called_at inner c [] (symbols.Mark marks.Close at ∷ rest)) (λ none. none tt) (called_exact c [] (symbols.Mark marks.Close at ∷ rest) fits)
  opened_exact c input fits =
      right_of (Called c []) (Then (Within 10) (λ e. AfterArgument c c.operation (e ∷ []))) (GoesOn 10) IsClose (called_begun c [])
      (some_then (λ e. AfterArgument c c.operation (e ∷ [])) (λ e. some_argument c c.operation (e ∷ []))) input (opened_at inner c input) (λ h. h) (first_argument_exact c input fits)
