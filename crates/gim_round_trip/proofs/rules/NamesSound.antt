-- No rule on names is broken by trees that write well-formed functions of distinct names.
use Rattle.std.proofs.Common.{◌≡◌, ℕ, Bool, true, false, Option, Some, None, option_map, cond, List, [], ◌∷◌, refl, sym, ap, ◌∙◌}
use Rattle.std.specs.List.{AllZip, list_any, filter_map}
use Rattle.gim_ast.specs.declared.function.Function.{Function}
use Rattle.gim_ast.specs.WellFormed.{same_text, all_distinct}
use Rattle.gim_text.specs.declared.occurrence.Occurrence.{Occurrence}
use Rattle.pm_places.specs.declared.span.Span.{Span}
use Rattle.gim_text.specs.declared.fault.GimpleFault.{GimpleFault}
use Rattle.gim_text.specs.declared.fault.GimpleKind.{GimpleKind}
use Rattle.gim_text.specs.declared.fault.GimpleKind.TheVariants.{Redefined}
use Rattle.gim_text.specs.declared.tree.FunctionText.{FunctionText}
use Rattle.gim_text.specs.Faults.{fault_at}
use Rattle.pm_places.specs.FirstFaults.{or_fault, first_by}
use Rattle.gim_text.specs.Occurrences.{place_of, occurrences_of}
use Rattle.gim_text.proofs.OccurrenceLemmas.{each_says}
use Rattle.gim_names.specs.Rules.{stands, is_redefined, is_undeclared, is_wide}
use Rattle.gim_names.specs.NamesFault.{first_kind, occurrence_fault, occurrences_fault}
use Rattle.gim_names.specs.NamesFault.{function_text, second_function, function_fault}
use Rattle.gim_names.specs.NamesFault.{names_fault}
use Rattle.gim_round_trip.specs.ReadBack.{function_names}
use Rattle.gim_round_trip.proofs.rules.KeptRules.{NeverBy, never_twice}
use Rattle.gim_round_trip.proofs.rules.Redefined.{never_redefined}
use Rattle.gim_round_trip.proofs.rules.Undeclared.{never_undeclared, never_wide}
use Rattle.gim_round_trip.proofs.tree.PairedLists.{same_images}
use Rattle.gim_round_trip.proofs.tree.Writes.{WritesWell}

none_of_two : (a b : Option GimpleFault) → a ≡ None → b ≡ None → or_fault a b ≡ None
none_of_two None b e f = f
none_of_two (Some fault) b e f = absurd cc

-- ---- one function

no_kind : (redefined undeclared wide : Bool) (at : Span) → redefined ≡ false → undeclared ≡ false → wide ≡ false
    → option_map (λ (kind : GimpleKind). fault_at kind at) (first_kind redefined undeclared wide) ≡ None
no_kind false false false at r u w = refl
no_kind true undeclared wide at r u w = absurd cc
no_kind false true wide at r u w = absurd cc
no_kind false false true at r u w = absurd cc

none_at_fault : (source : List ℕ) (all before os : List Occurrence) → NeverBy (is_redefined source) before os
    → NeverBy (λ b o. is_undeclared source all o) before os → NeverBy (λ b o. is_wide source o) before os
    → first_by (occurrence_fault source all) before os ≡ None
none_at_fault source all before [] redefined undeclared wide = refl
none_at_fault source all before (o ∷ os) redefined undeclared wide =
    none_of_two (occurrence_fault source all before o) (first_by (occurrence_fault source all) (o ∷ before) os)
    (no_kind (is_redefined source before o) (is_undeclared source all o) (is_wide source o) (place_of o) redefined.0 undeclared.0 wide.0)
    (none_at_fault source all (o ∷ before) os redefined.1 undeclared.1 wide.1)

occurrences_sound : (source : List ℕ) (tree : FunctionText) (f : Function) → WritesWell source tree f
    → occurrences_fault source (occurrences_of tree) ≡ None
occurrences_sound source tree f w = none_at_fault source (occurrences_of tree) [] (occurrences_of tree) (never_redefined source tree f w)
    (never_undeclared source tree f w) (never_wide source tree f w)

-- ---- a file

abbrev name_said : List ℕ → FunctionText → Option (List ℕ)
name_said source tree = Some (function_text source tree)

first_of_name : (source : List ℕ) (before : List FunctionText) (tree : FunctionText)
    → stands (name_said source tree) (filter_map (name_said source) before) ≡ false → second_function source before tree ≡ None
first_of_name source before tree new = ap (λ b. cond b (Some (fault_at Redefined tree.name)) None)
    (ap (list_any (same_text (function_text source tree))) (sym (each_says (function_text source) before)) ∙ new)

no_function_fault : (source : List ℕ) (before trees : List FunctionText) (fs : List Function) → AllZip (WritesWell source) trees fs
    → NeverBy (λ b tree. stands (name_said source tree) (filter_map (name_said source) b)) before trees
    → first_by (function_fault source) before trees ≡ None
no_function_fault source before [] fs written new = refl
no_function_fault source before (tree ∷ trees) [] written new = absurd written
no_function_fault source before (tree ∷ trees) (f ∷ fs) written new =
    none_of_two (function_fault source before tree) (first_by (function_fault source) (tree ∷ before) trees)
    (none_of_two (second_function source before tree) (occurrences_fault source (occurrences_of tree))
    (first_of_name source before tree new.0)
    (occurrences_sound source tree f written.0))
    (no_function_fault source (tree ∷ before) trees fs written.1 new.1)

pub names_sound : (source : List ℕ) (trees : List FunctionText) (fs : List Function) → AllZip (WritesWell source) trees fs
    → all_distinct same_text (function_names fs) ≡ true → names_fault source trees ≡ None
unfolding names_fault
names_sound source trees fs written distinct =
    let names : filter_map (name_said source) trees ≡ function_names fs = each_says (function_text source) trees
    ∙ same_images (WritesWell source) (function_text source) (λ (f : Function). f.name) trees fs (λ tree f w. w.writes.name) written in
    no_function_fault source [] trees fs written (never_twice (name_said source) trees (ap (all_distinct same_text) names ∙ distinct))
