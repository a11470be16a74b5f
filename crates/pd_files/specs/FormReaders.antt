-- Readers of forms and of files on lists of symbols. They stand between code and grammar.
use Rattle.std.specs.Prelude.{ℕ, zero, suc, ◌+◌, length, Bool, true, List, [], ◌∷◌, Option, Some, None, Ok, Err, is_some}
use Rattle.grammar.specs.Reading.{◌>>=◌, meant_at, more_at}
use Rattle.pm_ops.specs.declared.fault.PatternKind.TheVariants.{Syntax}
use Rattle.pm_places.specs.declared.span.Span.{Span}
use Rattle.pd_text.specs.declared.symbol.Symbol.{Symbol}
use Rattle.pd_text.specs.declared.symbol.Symbol.TheVariants as symbols
use Rattle.pd_text.specs.declared.symbol.Mark.TheVariants as marks
use Rattle.pd_text.specs.declared.symbol.Word.TheVariants as words
use Rattle.pd_text.specs.Meanings as meanings
use Rattle.pd_files.specs.declared.tree.ListText.{ListText}
use Rattle.pd_files.specs.declared.tree.CaseHeadText.{CaseHeadText}
use Rattle.pd_forms.specs.SymbolReaders.{Read, mark_at, identifier_at}
use Rattle.pd_forms.specs.Trees.{Pattern}
use Rattle.pd_forms.specs.PatternReaders.{whole_pattern_at}
use Rattle.pd_forms.specs.PartReaders.{condition_at}
use Rattle.pd_forms.specs.ResultGrammar.{lone}
use Rattle.pd_forms.specs.ResultReaders.{whole_result_at}
use Rattle.pd_forms.specs.TailReaders.{whole_tail_at}
use Rattle.pd_files.specs.Forms.{Form, simplify, case, choices, conditional, operators, predicates, forms}

-- readers of forms
abbrev pub Inner : Type 0
Inner = List Symbol → Read Form

-- names and lists

abbrev pub is_name : Symbol → Bool
is_name symbol = is_some (meanings.identifier symbol)

abbrev pub names_at : List Symbol → Read (List Span)
names_at input = more_at is_name identifier_at [] input

-- the `)` of a list
abbrev pub close_list_at : Span → List Span → List Symbol → Read ListText
close_list_at name entries input = mark_at marks.Close input >>= λ close. Ok (record { name = name; entries = entries }, close.1)

-- ident '(' ident* ')'
abbrev pub list_at : List Symbol → Read ListText
list_at input = do
  name ← identifier_at input
  left ← mark_at marks.Open name.1
  entries ← names_at left.1
  close_list_at name.0 entries.0 entries.1

-- at least one list; further ones, as long as a name stands here
abbrev pub lists_at : List Symbol → Read (List ListText)
lists_at input = list_at input >>= λ first. more_at is_name list_at (first.0 ∷ []) first.1

-- the head of a case

abbrev pub is_parameter : Symbol → Bool
is_parameter symbol = is_some (lone symbol)

abbrev pub parameter_at : List Symbol → Read Span
parameter_at input = meant_at lone Syntax input

-- at least one parameter
abbrev pub parameters_at : List Symbol → Read (List Span)
parameters_at input = parameter_at input >>= λ first. more_at is_parameter parameter_at (first.0 ∷ []) first.1

-- what the head of a case begins with
pub data HeadStart : Type 0 where
  named : Span → HeadStart
  called : HeadStart

abbrev pub head_start : Symbol → Option HeadStart
head_start (symbols.Identifier at) = Some (named at)
head_start (symbols.Word word at) = Some (named at)
head_start (symbols.Mark marks.Open at) = Some called
head_start symbol = None

-- the `)` of a head
abbrev pub close_head_at : Span → List Span → List Symbol → Read CaseHeadText
close_head_at name parameters input = mark_at marks.Close input >>= λ close. Ok (record { name = name; parameters = parameters }, close.1)

-- a head with parameters after its `(`
abbrev pub called_at : List Symbol → Read CaseHeadText
called_at input = do
  name ← identifier_at input
  parameters ← parameters_at name.1
  close_head_at name.0 parameters.0 parameters.1

abbrev pub after_head_start : HeadStart → List Symbol → Read CaseHeadText
after_head_start (named at) input = Ok (record { name = at; parameters = [] }, input)
after_head_start called input = called_at input

abbrev pub case_head_at : List Symbol → Read CaseHeadText
case_head_at input = meant_at head_start Syntax input >>= λ s. after_head_start s.0 s.1

-- forms

-- a pattern that is an operation
abbrev pub node_at : List Symbol → Read Pattern
node_at (symbols.Mark marks.Open at ∷ rest) = whole_pattern_at (symbols.Mark marks.Open at ∷ rest)
node_at input = Err (Syntax, input)

-- the `)` of a form
abbrev pub close_at : Form → List Symbol → Read Form
close_at form input = mark_at marks.Close input >>= λ close. Ok (form, close.1)

-- what stands after `(simplify`
abbrev pub simplify_at : Span → List Symbol → Read Form
simplify_at at input = do
  p ← node_at input
  r ← whole_result_at p.1
  close_at (simplify at p.0 r.0) r.1

-- what stands after `(match`
abbrev pub match_at : Span → List Symbol → Read Form
match_at at input = do
  head ← case_head_at input
  p ← whole_pattern_at head.1
  t ← whole_tail_at p.1
  close_at (case at head.0 p.0 t.0) t.1

-- whether a form begins here
abbrev pub begins_form : Symbol → Bool
begins_form symbol = is_some (meanings.mark marks.Open symbol)

-- at least one form
abbrev pub body_at : Inner → List Symbol → Read (List Form)
body_at inner input = inner input >>= λ first. more_at begins_form inner (first.0 ∷ []) first.1

-- what stands after `(for`
abbrev pub for_at : Inner → Span → List Symbol → Read Form
for_at inner at input = do
  lists ← lists_at input
  body ← body_at inner lists.1
  close_at (choices at lists.0 (forms body.0)) body.1

-- what stands after `(if`
abbrev pub if_at : Inner → List Symbol → Read Form
if_at inner input = do
  c ← condition_at input
  body ← body_at inner c.1
  close_at (conditional c.0 (forms body.0)) body.1

-- what stands after `(define_operator_list`
abbrev pub operators_at : List Symbol → Read Form
operators_at input = do
  name ← identifier_at input
  entries ← names_at name.1
  close_at (operators (record { name = name.0; entries = entries.0 })) entries.1

-- what stands after `(define_predicates`
abbrev pub predicates_at : List Symbol → Read Form
predicates_at input = names_at input >>= λ names. close_at (predicates names.0) names.1

-- what stands after a `(`: of a form in another, and at the top
pub data Opening : Type 0 where
  simplified : Opening
  matched : Opening
  chosen : Opening
  tested : Opening
  operator_list : Opening
  predicate_list : Opening

abbrev pub opening : Symbol → Option Opening
opening (symbols.Word words.Simplify at) = Some simplified
opening (symbols.Word words.Match at) = Some matched
opening (symbols.Word words.For at) = Some chosen
opening (symbols.Word words.If at) = Some tested
opening symbol = None

abbrev pub top_opening : Symbol → Option Opening
top_opening (symbols.Word words.OperatorList at) = Some operator_list
top_opening (symbols.Word words.Predicates at) = Some predicate_list
top_opening symbol = opening symbol

abbrev pub after_opening : Inner → Span → Opening → List Symbol → Read Form
after_opening inner at simplified input = simplify_at at input
after_opening inner at matched input = match_at at input
after_opening inner at chosen input = for_at inner at input
after_opening inner at tested input = if_at inner input
after_opening inner at operator_list input = operators_at input
after_opening inner at predicate_list input = predicates_at input

abbrev pub opened_at : (Symbol → Option Opening) → Inner → Span → List Symbol → Read Form
opened_at asked inner at input = meant_at asked Syntax input >>= λ o. after_opening inner at o.0 o.1

abbrev pub any_form_at : (Symbol → Option Opening) → Inner → List Symbol → Read Form
any_form_at asked inner input = mark_at marks.Open input >>= λ left. opened_at asked inner left.0 left.1

-- the readers that serve below n symbols
abbrev pub forms_at : ℕ → Inner
forms_at zero input = Err (Syntax, input)
forms_at (suc n) input = any_form_at opening (forms_at n) input

-- what stands at the top of a file
abbrev pub top_at : Inner
top_at input = any_form_at top_opening (forms_at (length input + 1)) input

-- a file

abbrev pub any_symbol : Symbol → Bool
any_symbol symbol = true

abbrev pub file_at : List Symbol → Read (List Form)
file_at input = more_at any_symbol top_at [] input
