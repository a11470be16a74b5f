-- What holds of a file and of its functions where no name is at fault.
use Rattle.std.specs.Prelude.{◌≡◌, ℕ, Bool, true, false, ◌&&◌, ◌||◌, is_some, Option, Some, None, List, [], ◌∷◌, ◌++◌, map, Contains}
use Rattle.std.specs.List.{list_any, list_all, filter_map}
use Rattle.gim_ast.specs.Identifiers.{is_anonymous}
use Rattle.gim_ast.specs.WellFormed.{same_text, all_distinct}
use Rattle.gim_text.specs.declared.tree.FunctionText.{FunctionText}
use Rattle.gim_text.specs.declared.tree.DeclText.{DeclText}
use Rattle.gim_text.specs.declared.tree.BlockText.{BlockText}
use Rattle.gim_text.specs.declared.tree.ItemText.{ItemText}
use Rattle.gim_text.specs.Literals.{literal_word}
use Rattle.gim_text.specs.Texts.{name_parts}
use Rattle.pm_places.specs.Spans.{text_of}
use Rattle.gim_text.specs.declared.occurrence.Occurrence.{Occurrence}
use Rattle.gim_text.specs.declared.occurrence.Occurrence.TheVariants.{Assigned, Used, Default, Constant}
use Rattle.gim_text.specs.Occurrences.{occurrences_of_item, occurrences_of_end, occurrences_of}
use Rattle.gim_names.specs.OccurrenceTexts.{param_text, local_text, declared_text, block_number, assigned_text}
use Rattle.gim_names.specs.OccurrenceTexts.{assigned_version, plain_version, default_version, version_base}
use Rattle.gim_names.specs.OccurrenceTexts.{base_default}
use Rattle.gim_names.specs.Tables.{have_one_each}

abbrev pub ident_text : List ℕ → DeclText → List ℕ
ident_text source decl = text_of source decl.ident

abbrev pub params_of : List ℕ → FunctionText → List (List ℕ)
params_of source f = map (ident_text source) f.params

abbrev pub locals_of : List ℕ → FunctionText → List (List ℕ)
locals_of source f = map (ident_text source) f.decls

abbrev pub number_text : List ℕ → BlockText → List ℕ
number_text source block = text_of source block.number

-- the whole identifiers that phis and statements assign
abbrev pub assigned_of : List ℕ → FunctionText → List (List ℕ)
assigned_of source f = filter_map (assigned_text source) (occurrences_of f)

-- a name of a declared base; an anonymous one is a local as a whole
abbrev pub has_base : List (List ℕ) → List (List ℕ) → List ℕ → Option (List ℕ × List ℕ) → Bool
has_base locals params text None = false
has_base locals params text (Some ([], version)) = list_any (same_text text) locals
has_base locals params text (Some (b ∷ base, version)) = list_any (same_text (b ∷ base)) locals || list_any (same_text (b ∷ base)) params

-- a name whose base is a parameter
abbrev pub has_param : List (List ℕ) → Option (List ℕ × List ℕ) → Bool
has_param params None = false
has_param params (Some ([], version)) = false
has_param params (Some (b ∷ base, version)) = list_any (same_text (b ∷ base)) params

-- what is assigned and read is a name of a declared base; what is read without `(D)` is assigned; with `(D)` the base is a parameter
abbrev pub is_declared : List ℕ → List (List ℕ) → List (List ℕ) → List (List ℕ) → Occurrence → Bool
is_declared source locals params assigned (Assigned at) = has_base locals params (text_of source at) (name_parts (text_of source at))
is_declared source locals params assigned (Used at) =
    has_base locals params (text_of source at) (name_parts (text_of source at))
    && list_any (same_text (text_of source at)) assigned
is_declared source locals params assigned (Default at) = has_param params (name_parts (text_of source at))
is_declared source locals params assigned m = true

-- a constant has its word
abbrev pub has_word : List ℕ → Occurrence → Bool
has_word source (Constant literal) = is_some (literal_word source literal)
has_word source m = true

abbrev pub are_declared : List ℕ → FunctionText → List Occurrence → Bool
are_declared source f ms = list_all (is_declared source (locals_of source f) (params_of source f) (assigned_of source f)) ms

abbrev pub have_words : List ℕ → List Occurrence → Bool
have_words source ms = list_all (has_word source) ms

pub record KeepsNames (source : List ℕ) (f : FunctionText) : Type 0 where
  -- parameters and locals have distinct identifiers, and no parameter is an anonymous name
  pub declared : all_distinct same_text (params_of source f ++ locals_of source f) ≡ true
  pub params : list_any is_anonymous (params_of source f) ≡ false
  -- blocks have distinct numbers
  pub blocks : all_distinct same_text (map (number_text source) f.blocks) ≡ true
  -- no version is assigned twice
  pub assigned : all_distinct same_text (filter_map (assigned_version source) (occurrences_of f)) ≡ true
  -- each version has one base, that of an anonymous local counted, and each parameter one default definition at most
  pub bases : have_one_each (filter_map (version_base source) (occurrences_of f)) ≡ true
  pub defaults : have_one_each (filter_map (base_default source) (occurrences_of f)) ≡ true
  -- no version stands with `(D)` and without
  pub marks : (version : List ℕ) → list_any (same_text version) (filter_map (plain_version source) (occurrences_of f)) ≡ true
      → list_any (same_text version) (filter_map (default_version source) (occurrences_of f)) ≡ false
  -- each name is declared, and assigned or a default definition of a parameter
  pub names : are_declared source f (occurrences_of f) ≡ true
  -- each constant has its word
  pub constants : have_words source (occurrences_of f) ≡ true

-- what the names and constants of an item or an end keep
pub record PartKeepsNames (source : List ℕ) (f : FunctionText) (ms : List Occurrence) : Type 0 where
  pub names : are_declared source f ms ≡ true
  pub constants : have_words source ms ≡ true

-- the same of each item of a block and of its end
pub record BlockKeepsNames (source : List ℕ) (f : FunctionText) (block : BlockText) : Type 0 where
  pub items : (item : ItemText) → Contains block.items item → PartKeepsNames source f (occurrences_of_item item)
  pub end : PartKeepsNames source f (occurrences_of_end block.end)

-- occurrences of one version have one base, and default definitions of one parameter one version
pub record AreOne (source : List ℕ) (m n : Occurrence) : Type 0 where
  pub bases : (p q : List ℕ × List ℕ) → version_base source m ≡ Some p → version_base source n ≡ Some q → p.0 ≡ q.0 → p.1 ≡ q.1
  pub defaults : (p q : List ℕ × List ℕ) → base_default source m ≡ Some p → base_default source n ≡ Some q → p.0 ≡ q.0 → p.1 ≡ q.1

-- what the occurrences of a function declare is what it declares
pub record OccurrencesDeclare (source : List ℕ) (f : FunctionText) : Type 0 where
  pub params : filter_map (param_text source) (occurrences_of f) ≡ params_of source f
  pub locals : filter_map (local_text source) (occurrences_of f) ≡ locals_of source f
  pub declared : filter_map (declared_text source) (occurrences_of f) ≡ params_of source f ++ locals_of source f
  pub blocks : filter_map (block_number source) (occurrences_of f) ≡ map (number_text source) f.blocks
