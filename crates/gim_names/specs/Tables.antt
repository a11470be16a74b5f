-- What tables of texts hold.
use Rattle.std.specs.Prelude.{◌≡◌, ℕ, Bool, true, not, ◌&&◌, option_map, List, [], ◌∷◌}
use Rattle.std.specs.Borrow.{Bor}
use Rattle.std.specs.List.{list_any, filter_map}
use Rattle.std.specs.Str.{bytes_eq}
use Rattle.std.specs.HashSet.{HashSet, contains_by}
use Rattle.std.specs.HashMap.{HashMap, get_by}
use Rattle.std.specs.Map.{lookup}
use Rattle.gim_ast.specs.WellFormed.{same_text}
use Rattle.gim_text.specs.declared.occurrence.Occurrence.{Occurrence}
use Rattle.gim_names.specs.declared.scope.Scope.{Scope}
use Rattle.gim_names.specs.declared.past.Past.{Past}
use Rattle.gim_names.specs.OccurrenceTexts.{param_text, local_text, declared_text, block_number, assigned_text}
use Rattle.gim_names.specs.OccurrenceTexts.{assigned_version, plain_version, default_version, version_base}
use Rattle.gim_names.specs.OccurrenceTexts.{base_default}
use Rattle.gim_names.specs.Rules.{has_other_second}

-- the set has these texts and no others
abbrev pub HasTexts : {S : Type 0} → HashSet (Bor (List ℕ)) S → List (List ℕ) → Type 0
HasTexts set texts = (q : List ℕ) → contains_by (λ k. bytes_eq q k.now) set ≡ list_any (same_text q) texts

-- the map gives at each first part the second part of the first pair that has it
abbrev pub HasPairs : {S : Type 0} → HashMap (Bor (List ℕ)) (Bor (List ℕ)) S → List (List ℕ × List ℕ) → Type 0
HasPairs map pairs = (q : List ℕ) → option_map (λ v. v.now) (get_by (λ k. bytes_eq q k.now) map) ≡ lookup (same_text q) pairs

-- no two pairs have one first part and two second parts
abbrev pub have_one_each : List (List ℕ × List ℕ) → Bool
have_one_each [] = true
have_one_each (pair ∷ pairs) = not (list_any (has_other_second pair.0 pair.1) pairs) && have_one_each pairs

-- the scope has what these occurrences declare and assign
pub record Describes (source : List ℕ) (all : List Occurrence) (scope : Scope) : Type 0 where
  pub params : HasTexts scope.params (filter_map (param_text source) all)
  pub locals : HasTexts scope.locals (filter_map (local_text source) all)
  pub assigned : HasTexts scope.assigned (filter_map (assigned_text source) all)

-- the past has what these occurrences say
pub record Remembers (source : List ℕ) (before : List Occurrence) (past : Past) : Type 0 where
  pub declared : HasTexts past.declared (filter_map (declared_text source) before)
  pub blocks : HasTexts past.blocks (filter_map (block_number source) before)
  pub assigned : HasTexts past.assigned (filter_map (assigned_version source) before)
  pub plain : HasTexts past.plain (filter_map (plain_version source) before)
  pub initial : HasTexts past.initial (filter_map (default_version source) before)
  pub bases : HasPairs past.bases (filter_map (version_base source) before)
  pub defaults : HasPairs past.defaults (filter_map (base_default source) before)

-- each version has one base, and each base one default definition
pub record IsSound (source : List ℕ) (before : List Occurrence) : Type 0 where
  pub bases : have_one_each (filter_map (version_base source) before) ≡ true
  pub defaults : have_one_each (filter_map (base_default source) before) ≡ true
