-- The first fault of the stage of names over a whole file, and what is known after each form.
use Rattle.std.specs.Prelude.{ℕ, nat_lt, Bool, true, false, ◌||◌, List, [], ◌∷◌, ◌++◌, map, length, Option, Some, None}
use Rattle.pm_ops.specs.declared.fault.PatternFault.{PatternFault}
use Rattle.pm_ops.specs.declared.fault.PatternKind.TheVariants.{DuplicateName, LateCase, BadArity, TooManyCaptures, TooManyNodes}
use Rattle.pm_places.specs.declared.span.Span.{Span}
use Rattle.pm_places.specs.FirstFaults.{or_fault}
use Rattle.pm_places.specs.Spans.{text_of}
use Rattle.pd_forms.specs.Trees.{Pattern}
use Rattle.pd_forms.specs.Results.{Result}
use Rattle.pd_forms.specs.Tails.{Tail}
use Rattle.cond_subset.specs.Trees.{Expr}
use Rattle.pd_files.specs.declared.tree.ListText.{ListText}
use Rattle.pd_files.specs.declared.tree.CaseHeadText.{CaseHeadText}
use Rattle.pd_files.specs.Forms as file_forms
use Rattle.pd_files.specs.Forms.{Form, Forms}
use Rattle.pd_pattern_names.specs.declared.known.Case.{Case}
use Rattle.pd_pattern_names.specs.declared.known.Known.{Known}
use Rattle.pd_pattern_names.specs.declared.heads.Own.{Own}
use Rattle.pd_pattern_names.specs.declared.patterns.Stand.TheVariants as stands
use Rattle.pd_pattern_names.specs.Known.{broken, parameters_of, is_used, is_taken}
use Rattle.pd_pattern_names.specs.Heads.{differs}
use Rattle.pd_pattern_names.specs.Patterns.{pattern_fault}
use Rattle.pd_pattern_names.specs.Captures.{is_bound, count_names, captures_of, nodes_of}
use Rattle.pd_pattern_names.specs.Uses.{uses_of, is_free_in}
use Rattle.pd_names.specs.declared.sight.Sight.{Sight}
use Rattle.pd_names.specs.Parts.{unbound, part_fault}
use Rattle.pd_names.specs.Results.{result_fault, has_large}
use Rattle.pd_names.specs.Tails.{tail_fault}
use Rattle.pd_names.specs.Lists.{list_fault, lists_fault, chosen_of, with_list, under}

-- the limits of a form, at its `(`: captures first; `large` tells whether a leaf of its result is too large
abbrev pub limits_fault : List ℕ → Known → Option Own → Span → List Span → Pattern → Bool → Option PatternFault
limits_fault source known own at captures p large =
    or_fault (broken (nat_lt 32 (count_names source captures)) TooManyCaptures at) (broken (nat_lt 32 (nodes_of source known own p) || large) TooManyNodes at)

-- what a form sees of its pattern
abbrev pub sight_of : Pattern → Bool → Sight
sight_of p in_match = record { captures = captures_of p; locals = []; in_match = in_match }

abbrev pub simplify_fault : List ℕ → Known → Span → Pattern → Result → Option PatternFault
simplify_fault source known at p r =
    or_fault (limits_fault source known None at (captures_of p) p (has_large r))
    (or_fault (pattern_fault source known None stands.OfSimplify p) (result_fault source known (sight_of p false) r))

-- the head of a case

abbrev pub own_of : CaseHeadText → Option Own
own_of head = Some (record { name = head.name; called = nat_lt 0 (length head.parameters) })

-- parameters: a second one of a name, and one that the pattern hasn't
abbrev pub parameters_fault : List ℕ → Sight → List Span → List Span → Option PatternFault
parameters_fault source sight before [] = None
parameters_fault source sight before (at ∷ parameters) =
    or_fault (broken (is_bound source before at) DuplicateName at) (or_fault (unbound source sight at) (parameters_fault source sight (before ++ at ∷ []) parameters))

-- a name that something has, a further case of a predicate that a form above uses, another number of parameters than cases above have
abbrev pub case_name_fault : List ℕ → Known → CaseHeadText → Option PatternFault
case_name_fault source known head =
    or_fault (broken (is_taken source known (text_of source head.name) true) DuplicateName head.name)
    (or_fault (broken (is_used source known (text_of source head.name)) LateCase head.name)
    (broken (differs (parameters_of source known.cases (text_of source head.name)) (length head.parameters)) BadArity head.name))

abbrev pub case_fault : List ℕ → Known → Span → CaseHeadText → Pattern → Tail → Option PatternFault
case_fault source known at head p t =
    or_fault (limits_fault source known (own_of head) at (captures_of p) p false)
    (or_fault (case_name_fault source known head)
    (or_fault (parameters_fault source (sight_of p true) [] head.parameters)
    (or_fault (pattern_fault source known (own_of head) stands.OfMatch p) (tail_fault source known (sight_of p true) t))))

-- what is known after a form

abbrev pub with_used : Known → List Span → Known
with_used known uses = record { lists = known.lists; choices = known.choices; cases = known.cases; used = known.used ++ uses }

abbrev pub with_case : Known → List Span → Case → Known
with_case known uses one = record { lists = known.lists; choices = known.choices; cases = known.cases ++ one ∷ []; used = known.used ++ uses }

abbrev pub case_of : List ℕ → Known → CaseHeadText → Pattern → Case
case_of source known head p = record { name = head.name; free = map (λ at. is_free_in source known (own_of head) at p) head.parameters }

abbrev pub after_case : List ℕ → Known → CaseHeadText → Pattern → Known
after_case source known head p = with_case known (uses_of source known (own_of head) p) (case_of source known head p)

abbrev pub after_list : List ℕ → Known → ListText → Known
after_list source known list = with_list known (chosen_of source known.lists list)

-- the identifiers of a `for` are known below it alone
abbrev pub leaving : Known → Known → Known
leaving outside inside = record { lists = inside.lists; choices = outside.choices; cases = inside.cases; used = inside.used }

abbrev mutual
  pub known_after : List ℕ → Known → Form → Known
  known_after source known (file_forms.simplify at p r) = with_used known (uses_of source known None p)
  known_after source known (file_forms.case at head p t) = after_case source known head p
  known_after source known (file_forms.choices at lists body) = leaving known (known_after_all source (under source known lists) body)
  known_after source known (file_forms.conditional c body) = known_after_all source known body
  known_after source known (file_forms.operators list) = after_list source known list
  known_after source known (file_forms.predicates names) = known

  pub known_after_all : List ℕ → Known → Forms → Known
  known_after_all source known file_forms.none = known
  known_after_all source known (file_forms.more f fs) = known_after_all source (known_after source known f) fs

-- the condition of an `if` round forms has no captures
abbrev pub no_sight : Sight
no_sight = record { captures = []; locals = []; in_match = false }

abbrev pub condition_fault : List ℕ → Known → Expr → Option PatternFault
condition_fault source known c = part_fault source known no_sight [] c

abbrev mutual
  pub form_fault : List ℕ → Known → Form → Option PatternFault
  form_fault source known (file_forms.simplify at p r) = simplify_fault source known at p r
  form_fault source known (file_forms.case at head p t) = case_fault source known at head p t
  form_fault source known (file_forms.choices at lists body) = or_fault (lists_fault source known lists) (forms_fault source (under source known lists) body)
  form_fault source known (file_forms.conditional c body) = or_fault (condition_fault source known c) (forms_fault source known body)
  form_fault source known (file_forms.operators list) = list_fault source known list
  form_fault source known (file_forms.predicates names) = None

  -- of forms, each after those before it
  pub forms_fault : List ℕ → Known → Forms → Option PatternFault
  forms_fault source known file_forms.none = None
  forms_fault source known (file_forms.more f fs) = or_fault (form_fault source known f) (forms_fault source (known_after source known f) fs)

-- of a `for`, and what is known after it
abbrev pub for_fault : List ℕ → Known → List ListText → Forms → Option PatternFault
for_fault source known lists body = or_fault (lists_fault source known lists) (forms_fault source (under source known lists) body)

abbrev pub after_for : List ℕ → Known → List ListText → Forms → Known
after_for source known lists body = leaving known (known_after_all source (under source known lists) body)

abbrev pub nothing_known : Known
nothing_known = record { lists = []; choices = []; cases = []; used = [] }

-- the fault of the stage of names
abbrev pub names_fault : List ℕ → List Form → Option PatternFault
names_fault source file = forms_fault source nothing_known (file_forms.forms file)
