-- The rules on lists of operators and their names.
use Rattle.std.specs.Prelude.{ℕ, ◌==◌, Bool, false, not, is_none, List, [], ◌∷◌, ◌++◌, Option, Some, None}
use Rattle.pm_ops.specs.declared.fault.PatternFault.{PatternFault}
use Rattle.pm_ops.specs.declared.fault.PatternKind.TheVariants.{DuplicateName, UnknownOperator, BadArity}
use Rattle.pm_places.specs.declared.span.Span.{Span}
use Rattle.pm_places.specs.FirstFaults.{or_fault}
use Rattle.pm_places.specs.Spans.{text_of}
use Rattle.pd_files.specs.declared.tree.ListText.{ListText}
use Rattle.pd_pattern_names.specs.declared.known.Chosen.{Chosen}
use Rattle.pd_pattern_names.specs.declared.known.Known.{Known}
use Rattle.pd_pattern_names.specs.Known.{broken, Arity, or_else, entry_arity, is_taken}

-- the number of operands that an entry asks for, if it asks for one
abbrev pub number_asked : Option Arity → Arity
number_asked None = None
number_asked (Some arity) = arity

abbrev pub asked : List ℕ → List Chosen → Span → Arity
asked source lists at = number_asked (entry_arity source lists (text_of source at))

-- the first number that some entry asks for
abbrev pub first_asked : List ℕ → List Chosen → List Span → Arity
first_asked source lists [] = None
first_asked source lists (at ∷ entries) = or_else (asked source lists at) (first_asked source lists entries)

-- two numbers that are not the same
abbrev pub disagree : Arity → Arity → Bool
disagree (Some m) (Some n) = not (m == n)
disagree first second = false

-- an entry is known, and asks for the number that those before it ask for
abbrev pub entry_fault : Option Arity → Arity → Span → Option PatternFault
entry_fault entry before at = or_fault (broken (is_none entry) UnknownOperator at) (broken (disagree before (number_asked entry)) BadArity at)

-- the first fault of entries, after some that ask for this number
abbrev pub entries_fault : List ℕ → List Chosen → Arity → List Span → Option PatternFault
entries_fault source lists before [] = None
entries_fault source lists before (at ∷ entries) =
    or_fault (entry_fault (entry_arity source lists (text_of source at)) before at) (entries_fault source lists (or_else before (asked source lists at)) entries)

abbrev pub list_fault : List ℕ → Known → ListText → Option PatternFault
list_fault source known list =
    or_fault (broken (is_taken source known (text_of source list.name) false) DuplicateName list.name) (entries_fault source known.lists None list.entries)

-- what a list makes known
abbrev pub chosen_of : List ℕ → List Chosen → ListText → Chosen
chosen_of source lists list = record { name = list.name; arity = first_asked source lists list.entries }

abbrev pub with_list : Known → Chosen → Known
with_list known one = record { lists = known.lists ++ one ∷ []; choices = known.choices; cases = known.cases; used = known.used }

-- the lists of a `for`, each after those before it

abbrev pub with_choice : Known → Chosen → Known
with_choice known one = record { lists = known.lists; choices = known.choices ++ one ∷ []; cases = known.cases; used = known.used }

abbrev pub under : List ℕ → Known → List ListText → Known
under source known [] = known
under source known (list ∷ lists) = under source (with_choice known (chosen_of source known.lists list)) lists

abbrev pub lists_fault : List ℕ → Known → List ListText → Option PatternFault
lists_fault source known [] = None
lists_fault source known (list ∷ lists) = or_fault (list_fault source known list) (lists_fault source (with_choice known (chosen_of source known.lists list)) lists)
