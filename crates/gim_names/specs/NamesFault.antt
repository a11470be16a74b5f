-- The fault of the stage of names: the first place of the file at which a rule on names is broken.
use Rattle.std.specs.Prelude.{ℕ, Bool, true, false, Option, Some, None, option_map, List, [], map, if◌then◌else◌}
use Rattle.std.specs.List.{list_any}
use Rattle.gim_ast.specs.WellFormed.{same_text}
use Rattle.gim_text.specs.declared.fault.GimpleFault.{GimpleFault}
use Rattle.gim_text.specs.declared.fault.GimpleKind.{GimpleKind}
use Rattle.gim_text.specs.declared.fault.GimpleKind.TheVariants.{Redefined, Undeclared, WideLiteral}
use Rattle.gim_text.specs.declared.tree.FunctionText.{FunctionText}
use Rattle.gim_text.specs.Faults.{fault_at}
use Rattle.pm_places.specs.FirstFaults.{or_fault, first_by}
use Rattle.pm_places.specs.Spans.{text_of}
use Rattle.gim_text.specs.declared.occurrence.Occurrence.{Occurrence}
use Rattle.gim_text.specs.Occurrences.{place_of, occurrences_of}
use Rattle.gim_names.specs.Rules.{is_redefined, is_undeclared, is_wide}

-- the first of the kinds that holds
abbrev pub first_kind : Bool → Bool → Bool → Option GimpleKind
first_kind true undeclared wide = Some Redefined
first_kind false true wide = Some Undeclared
first_kind false false true = Some WideLiteral
first_kind false false false = None

-- the first kind whose rules an occurrence breaks
abbrev pub kind_of_occurrence : List ℕ → List Occurrence → List Occurrence → Occurrence → Option GimpleKind
kind_of_occurrence source all before m = first_kind (is_redefined source before m) (is_undeclared source all m) (is_wide source m)

-- the fault of an occurrence, at its place
abbrev pub occurrence_fault : List ℕ → List Occurrence → List Occurrence → Occurrence → Option GimpleFault
occurrence_fault source all before m = option_map (λ kind. fault_at kind (place_of m)) (kind_of_occurrence source all before m)

-- the first fault in the occurrences of a function
abbrev pub occurrences_fault : List ℕ → List Occurrence → Option GimpleFault
occurrences_fault source all = first_by (occurrence_fault source all) [] all

abbrev pub function_text : List ℕ → FunctionText → List ℕ
function_text source f = text_of source f.name

-- a function of the name of one before it
abbrev pub second_function : List ℕ → List FunctionText → FunctionText → Option GimpleFault
second_function source before f =
    if list_any (same_text (function_text source f)) (map (function_text source) before) then Some (fault_at Redefined f.name) else None

-- the first fault of a function: its name stands before the rest
abbrev pub function_fault : List ℕ → List FunctionText → FunctionText → Option GimpleFault
function_fault source before f = or_fault (second_function source before f) (occurrences_fault source (occurrences_of f))

-- the first fault of a file
unfoldable pub names_fault : List ℕ → List FunctionText → Option GimpleFault
names_fault source functions = first_by (function_fault source) [] functions
