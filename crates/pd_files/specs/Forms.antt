-- Forms of a pattern file: plain trees, and which symbols spell them.
use Rattle.std.specs.Prelude.{◌≡◌, List, [], ◌∷◌, Bool, true, false}
use Rattle.grammar.specs.Spelling.{Spelling, Meant, Many}
use Rattle.pm_places.specs.declared.span.Span.{Span}
use Rattle.pd_text.specs.declared.symbol.Symbol.{Symbol}
use Rattle.pd_text.specs.declared.symbol.Mark.TheVariants as marks
use Rattle.pd_text.specs.declared.symbol.Word.TheVariants as words
use Rattle.pd_text.specs.Meanings as meanings
use Rattle.cond_subset.specs.Trees.{Expr, expr_of}
use Rattle.cond_subset.specs.Declarations.{AWord}
use Rattle.cond_subset.specs.Grammar.{◌▸◌, AMark}
use Rattle.pd_files.specs.declared.tree.ListText.{ListText}
use Rattle.pd_files.specs.declared.tree.CaseHeadText.{CaseHeadText}
use Rattle.pd_files.specs.declared.tree.FormText.{FormText, FormText-F, fold-FormText}
use Rattle.pd_files.specs.declared.tree.FormText.TheOpen as form_texts
use Rattle.pd_forms.specs.Trees.{Pattern, operation, pattern_of}
use Rattle.pd_forms.specs.Results.{Result, result_of}
use Rattle.pd_forms.specs.Tails.{Tail, tail_of, SpellsTail}
use Rattle.pd_forms.specs.Grammar.{SpellsPattern}
use Rattle.pd_forms.specs.ResultGrammar.{lone, SpellsCondition, SpellsResult}

mutual
  pub data Form : Type 0 where
    simplify : Span → Pattern → Result → Form
    case : Span → CaseHeadText → Pattern → Tail → Form
    choices : Span → List ListText → Forms → Form
    conditional : Expr → Forms → Form
    operators : ListText → Form
    predicates : List Span → Form

  pub data Forms : Type 0 where
    none : Forms
    more : Form → Forms → Forms

-- the forms of a list
abbrev pub forms : List Form → Forms
forms [] = none
forms (f ∷ fs) = more f (forms fs)

-- one layer, with plain trees in place of the parts
abbrev pub form_step : FormText-F Form → Form
form_step (form_texts.Simplify at p r) = simplify at (pattern_of p) (result_of r)
form_step (form_texts.Match at head p t) = case at head (pattern_of p) (tail_of t)
form_step (form_texts.For at lists body) = choices at lists (forms body)
form_step (form_texts.If c body) = conditional (expr_of c) (forms body)
form_step (form_texts.OperatorList list) = operators list
form_step (form_texts.Predicates names) = predicates names

-- the plain tree of a form of the code
abbrev pub form_of : FormText → Form
form_of = fold-FormText Form form_step

-- a pattern that is an operation
abbrev pub is_operation : Pattern → Bool
is_operation (operation at head c ps) = true
is_operation p = false

-- items, at least one
abbrev pub SpellsSome : {A : Type 0} → Spelling Symbol A → Spelling Symbol (List A)
SpellsSome N [] w = ⊥
SpellsSome N (x ∷ xs) w = (N x ▸ Many N xs) w

-- ident*
abbrev pub SpellsNames : List Span → List Symbol → Type 0
SpellsNames = Many (Meant meanings.identifier)

-- ident '(' ident* ')'
abbrev pub SpellsList : ListText → List Symbol → Type 0
SpellsList list w = (Meant meanings.identifier list.name ▸ AMark marks.Open ▸ SpellsNames list.entries ▸ AMark marks.Close) w

-- ident, or '(' ident capture+ ')' where there are parameters
abbrev pub SpellsCalled : Span → List Span → List Symbol → Type 0
SpellsCalled name [] w = Meant meanings.identifier name w
SpellsCalled name (p ∷ ps) w = (AMark marks.Open ▸ Meant meanings.identifier name ▸ SpellsSome (Meant lone) (p ∷ ps) ▸ AMark marks.Close) w

abbrev pub SpellsCaseHead : CaseHeadText → List Symbol → Type 0
SpellsCaseHead head w = SpellsCalled head.name head.parameters w

abbrev mutual
  -- a form that may stand in another
  pub SpellsForm : Form → List Symbol → Type 0
  -- '(' 'simplify' operation result ')'
  SpellsForm (simplify at p r) w =
      (is_operation p ≡ true) × (Meant (meanings.mark marks.Open) at ▸ AWord words.Simplify ▸ SpellsPattern p ▸ SpellsResult r ▸ AMark marks.Close) w
  -- '(' 'match' head pattern tail ')'
  SpellsForm (case at head p t) w =
      (Meant (meanings.mark marks.Open) at ▸ AWord words.Match ▸ SpellsCaseHead head ▸ SpellsPattern p ▸ SpellsTail t ▸ AMark marks.Close) w
  -- '(' 'for' list+ form+ ')'
  SpellsForm (choices at lists body) w =
      (Meant (meanings.mark marks.Open) at ▸ AWord words.For ▸ SpellsSome SpellsList lists ▸ SpellsBody body ▸ AMark marks.Close) w
  -- '(' 'if' '(' cexpr ')' form+ ')'
  SpellsForm (conditional c body) w = (AMark marks.Open ▸ AWord words.If ▸ SpellsCondition c ▸ SpellsBody body ▸ AMark marks.Close) w
  SpellsForm (operators list) w = ⊥
  SpellsForm (predicates names) w = ⊥

  -- form*
  pub SpellsForms : Forms → List Symbol → Type 0
  SpellsForms none w = w ≡ []
  SpellsForms (more f fs) w = (SpellsForm f ▸ SpellsForms fs) w

  -- form+
  pub SpellsBody : Forms → List Symbol → Type 0
  SpellsBody none w = ⊥
  SpellsBody (more f fs) w = (SpellsForm f ▸ SpellsForms fs) w

-- what stands at the top of a file
abbrev pub SpellsTop : Form → List Symbol → Type 0
-- '(' 'define_operator_list' ident ident* ')'
SpellsTop (operators list) w =
    (AMark marks.Open ▸ AWord words.OperatorList ▸ Meant meanings.identifier list.name ▸ SpellsNames list.entries ▸ AMark marks.Close) w
-- '(' 'define_predicates' ident* ')'
SpellsTop (predicates names) w = (AMark marks.Open ▸ AWord words.Predicates ▸ SpellsNames names ▸ AMark marks.Close) w
SpellsTop form w = SpellsForm form w

-- a file
abbrev pub SpellsFile : List Form → List Symbol → Type 0
SpellsFile = Many SpellsTop
