-- Judging occurrences and functions one after another.
use Rattle.std.proofs.Common.{◌≡◌, ℕ, Bool, true, false, List, [], ◌∷◌, Option, Some, None}
use Rattle.std.proofs.Common.{Result, Ok, Err, option_map, refl, sym, ap, subst, ◌∙◌}
use Rattle.std.specs.Prelude.{IsErrAnd, if◌then◌else◌, map}
use Rattle.std.specs.Borrow.{Bor}
use Rattle.std.specs.HashSet.{HashSet}
use Rattle.std.specs.List.{list_any, filter_map}
use Rattle.gim_ast.specs.WellFormed.{same_text}
use Rattle.std.proofs.lemmas.Bool.{or_parts}
use Rattle.gim_text.specs.declared.fault.GimpleFault.{GimpleFault}
use Rattle.gim_text.specs.declared.fault.GimpleKind.{GimpleKind}
use Rattle.gim_text.specs.declared.fault.GimpleKind.TheVariants.{Memory, Lex, Syntax, Unsupported, Redefined}
use Rattle.gim_text.specs.declared.fault.GimpleKind.TheVariants.{Undeclared, WideLiteral, MissingBlock, BadPhi}
use Rattle.gim_text.specs.declared.fault.GimpleKind.TheVariants.{NoReturn, TypeMismatch, TooLarge}
use Rattle.gim_text.specs.declared.tree.FunctionText.{FunctionText}
use Rattle.gim_text.specs.Faults.{fault_at, IsFault, Judges}
use Rattle.pm_places.specs.FirstFaults.{or_fault, first_by}
use Rattle.gim_text.specs.declared.occurrence.Occurrence.{Occurrence}
use Rattle.gim_names.specs.declared.past.Past.{Past}
use Rattle.gim_text.specs.Occurrences.{place_of, occurrences_of}
use Rattle.gim_names.specs.OccurrenceTexts.{version_base, base_default}
use Rattle.gim_names.specs.Rules.{is_repeated, is_contradicted, is_marked_otherwise, has_other_base}
use Rattle.gim_names.specs.Rules.{has_other_mark, has_other_default, is_redefined, is_undeclared, is_wide}
use Rattle.gim_names.specs.NamesFault.{first_kind, kind_of_occurrence, occurrence_fault, occurrences_fault}
use Rattle.gim_names.specs.NamesFault.{function_text, second_function, function_fault, names_fault}
use Rattle.gim_names.specs.Tables.{HasTexts, Remembers, IsSound}
use Rattle.gim_names.proofs.TextTables.{one_more}

-- ---- faults

pub is_fault : (kind : GimpleKind) (fault : GimpleFault) (expected : Option GimpleFault) → expected ≡ Some fault
    → IsFault kind fault expected
is_fault Memory fault expected e = tt
is_fault Lex fault expected e = e
is_fault Syntax fault expected e = e
is_fault Unsupported fault expected e = e
is_fault Redefined fault expected e = e
is_fault Undeclared fault expected e = e
is_fault WideLiteral fault expected e = e
is_fault MissingBlock fault expected e = e
is_fault BadPhi fault expected e = e
is_fault NoReturn fault expected e = e
is_fault TypeMismatch fault expected e = e
is_fault TooLarge fault expected e = e

pub is_fault_of : (kind : GimpleKind) (fault : GimpleFault) (near far : Option GimpleFault)
    → (near ≡ Some fault → far ≡ Some fault) → IsFault kind fault near → IsFault kind fault far
is_fault_of Memory fault near far goes e = tt
is_fault_of Lex fault near far goes e = goes e
is_fault_of Syntax fault near far goes e = goes e
is_fault_of Unsupported fault near far goes e = goes e
is_fault_of Redefined fault near far goes e = goes e
is_fault_of Undeclared fault near far goes e = goes e
is_fault_of WideLiteral fault near far goes e = goes e
is_fault_of MissingBlock fault near far goes e = goes e
is_fault_of BadPhi fault near far goes e = goes e
is_fault_of NoReturn fault near far goes e = goes e
is_fault_of TypeMismatch fault near far goes e = goes e
is_fault_of TooLarge fault near far goes e = goes e

pub judges_err : {X : Type 0} (r : Result X GimpleFault) (fault : GimpleFault) (expected : Option GimpleFault)
    → IsErrAnd r (λ e. e ≡ fault) → IsFault fault.kind fault expected → Judges expected r
judges_err (Ok x) fault expected h is = absurd h
judges_err (Err e) fault expected h is = subst (λ (f : GimpleFault). IsFault f.kind f expected) (sym h) is

-- ---- occurrences

not_redefined : (r u w : Bool) → first_kind r u w ≡ None → r ≡ false
not_redefined true u w e = absurd cc
not_redefined false u w e = refl

-- an occurrence without a fault keeps what is before it sound
pub stays_sound : (source : List ℕ) (all before : List Occurrence) (m : Occurrence)
    → kind_of_occurrence source all before m ≡ None → IsSound source before → IsSound source (m ∷ before)
stays_sound source all before m none sound =
    let r = or_parts (is_repeated source before m) (is_contradicted source before m)
    (not_redefined (is_redefined source before m) (is_undeclared source all m) (is_wide source m) none) in
    let b = or_parts (has_other_base source before m) (is_marked_otherwise source before m) r.1 in
    let d = or_parts (has_other_mark source before m) (has_other_default source before m) b.1 in
    record {
      bases = one_more (version_base source m) (filter_map (version_base source) before) b.0 sound.bases;
      defaults = one_more (base_default source m) (filter_map (base_default source) before) d.1 sound.defaults;
    }

-- what is judged so far, by a past that remembers it, and what the rest will be found to be
pub record IsJudged (source : List ℕ) (all rest : List Occurrence) (past : Past) : Type 0 where
  pub before : List Occurrence
  pub remembers : Remembers source before past
  pub sound : IsSound source before
  pub same : first_by (occurrence_fault source all) before rest ≡ occurrences_fault source all

pub judged_none : (source : List ℕ) (all rest : List Occurrence) (past : Past) → rest ≡ []
    → IsJudged source all rest past → None ≡ occurrences_fault source all
judged_none source all rest past none judged =
    subst (λ (r : List Occurrence). first_by (occurrence_fault source all) judged.before r
    ≡ occurrences_fault source all) none judged.same

pub judged_fault : (source : List ℕ) (all rest more : List Occurrence) (past : Past) (m : Occurrence)
    (kind : GimpleKind) (judged : IsJudged source all rest past) → rest ≡ m ∷ more
    → kind_of_occurrence source all judged.before m ≡ Some kind
    → occurrences_fault source all ≡ Some (fault_at kind (place_of m))
judged_fault source all rest more past m kind judged is broken =
    let same =
    subst (λ (r : List Occurrence). first_by (occurrence_fault source all) judged.before r
    ≡ occurrences_fault source all) is judged.same in
    sym same ∙ ap (λ k. or_fault (option_map (λ (kind : GimpleKind). fault_at kind (place_of m)) k)
    (first_by (occurrence_fault source all) (m ∷ judged.before) more)) broken

pub judged_more : (source : List ℕ) (all rest more : List Occurrence) (past next : Past) (m : Occurrence)
    (judged : IsJudged source all rest past) → rest ≡ m ∷ more → kind_of_occurrence source all judged.before m ≡ None
    → Remembers source (m ∷ judged.before) next → IsJudged source all more next
judged_more source all rest more past next m judged is holds remembers =
    let same =
    subst (λ (r : List Occurrence). first_by (occurrence_fault source all) judged.before r
    ≡ occurrences_fault source all) is judged.same in
    let goes =
    ap (λ k. or_fault (option_map (λ (kind : GimpleKind). fault_at kind (place_of m)) k)
    (first_by (occurrence_fault source all) (m ∷ judged.before) more)) holds in
    record {
      before = m ∷ judged.before;
      remembers = remembers;
      sound = stays_sound source all judged.before m holds judged.sound;
      same = sym goes ∙ same;
    }

-- ---- functions

pub record AreJudged {S : Type 0} (source : List ℕ) (all rest : List FunctionText) (known : HashSet (Bor (List ℕ)) S) : Type 0 where
  pub before : List FunctionText
  pub knows : HasTexts known (map (function_text source) before)
  pub same : first_by (function_fault source) before rest ≡ names_fault source all

pub names_begin : (source : List ℕ) (all : List FunctionText) → first_by (function_fault source) [] all ≡ names_fault source all
unfolding names_fault
names_begin source all = refl

module _ {S : Type 0} (source : List ℕ) (all rest : List FunctionText) (known : HashSet (Bor (List ℕ)) S) where
  pub functions_none : rest ≡ [] → AreJudged source all rest known → None ≡ names_fault source all
  functions_none none judged =
      subst (λ (r : List FunctionText). first_by (function_fault source) judged.before r ≡ names_fault source all) none
      judged.same

  module _ (f : FunctionText) (more : List FunctionText) (judged : AreJudged source all rest known) (is : rest ≡ f ∷ more) where
    opened : first_by (function_fault source) judged.before (f ∷ more) ≡ names_fault source all
    opened = subst (λ (r : List FunctionText). first_by (function_fault source) judged.before r ≡ names_fault source all) is judged.same

    -- what the function's fault is, by whether its name stood before and what its occurrences are found to be
    by_parts : (again : Bool) (fault : Option GimpleFault)
        → list_any (same_text (function_text source f)) (map (function_text source) judged.before) ≡ again
        → occurrences_fault source (occurrences_of f) ≡ fault
        → or_fault (or_fault (if again then Some (fault_at Redefined f.name) else None) fault)
        (first_by (function_fault source) (f ∷ judged.before) more) ≡ names_fault source all
    by_parts again fault e g =
        subst (λ (b : Bool). or_fault (or_fault (if b then Some (fault_at Redefined f.name) else None) fault)
        (first_by (function_fault source) (f ∷ judged.before) more) ≡ names_fault source all) e
        (subst (λ (x : Option GimpleFault).
        or_fault (or_fault (second_function source judged.before f) x)
        (first_by (function_fault source) (f ∷ judged.before) more) ≡ names_fault source all) g opened)

    pub functions_second : list_any (same_text (function_text source f)) (map (function_text source) judged.before)
        ≡ true → names_fault source all ≡ Some (fault_at Redefined f.name)
    functions_second e = sym (by_parts true (occurrences_fault source (occurrences_of f)) e refl)

    pub functions_fault : (fault : GimpleFault)
        → list_any (same_text (function_text source f)) (map (function_text source) judged.before) ≡ false
        → occurrences_fault source (occurrences_of f) ≡ Some fault → names_fault source all ≡ Some fault
    functions_fault fault e g = sym (by_parts false (Some fault) e g)

    pub functions_more : (next : HashSet (Bor (List ℕ)) S)
        → list_any (same_text (function_text source f)) (map (function_text source) judged.before) ≡ false
        → occurrences_fault source (occurrences_of f) ≡ None
        → HasTexts next (function_text source f ∷ map (function_text source) judged.before) → AreJudged source all more next
    functions_more next e g knows = record { before = f ∷ judged.before; knows = knows; same = by_parts false None e g }
