-- The rules on names, each as what breaks it at one occurrence. `all` are the occurrences of the function, `before` those before this
-- one, the latest of them first.
use Rattle.std.specs.Prelude.{ℕ, Bool, true, false, not, ◌&&◌, ◌||◌, is_none, Option, Some, None, List, [], ◌∷◌}
use Rattle.std.specs.List.{list_any, filter_map}
use Rattle.gim_ast.specs.WellFormed.{same_text}
use Rattle.gim_text.specs.Literals.{literal_word}
use Rattle.gim_text.specs.Texts.{name_parts}
use Rattle.pm_places.specs.Spans.{text_of}
use Rattle.gim_text.specs.declared.occurrence.Occurrence.{Occurrence}
use Rattle.gim_text.specs.declared.occurrence.Occurrence.TheVariants.{Parameter, Assigned, Used, Default, Constant}
use Rattle.gim_names.specs.OccurrenceTexts.{param_text, local_text, declared_text, block_number, assigned_text}
use Rattle.gim_names.specs.OccurrenceTexts.{assigned_version, plain_version, default_version, version_base}
use Rattle.gim_names.specs.OccurrenceTexts.{base_default}

-- ---- general tests

-- the text is there, and is one of these
abbrev pub stands : Option (List ℕ) → List (List ℕ) → Bool
stands None texts = false
stands (Some text) texts = list_any (same_text text) texts

-- the pair has this first part and another second part
abbrev pub has_other_second : List ℕ → List ℕ → List ℕ × List ℕ → Bool
has_other_second key value pair = same_text key pair.0 && not (same_text value pair.1)

-- the pair is there, and one of these has its first part and another second part
abbrev pub differs : Option (List ℕ × List ℕ) → List (List ℕ × List ℕ) → Bool
differs None pairs = false
differs (Some pair) pairs = list_any (has_other_second pair.0 pair.1) pairs

-- ---- Redefined

-- a second parameter or local of one identifier, a second block of one number
abbrev pub is_declared_again : List ℕ → List Occurrence → Occurrence → Bool
is_declared_again source before m = stands (declared_text source m) (filter_map (declared_text source) before)
    || stands (block_number source m) (filter_map (block_number source) before)

-- a second assignment of a version
abbrev pub is_assigned_again : List ℕ → List Occurrence → Occurrence → Bool
is_assigned_again source before m = stands (assigned_version source m) (filter_map (assigned_version source) before)

-- a version with another base before; declarations of anonymous names count
abbrev pub has_other_base : List ℕ → List Occurrence → Occurrence → Bool
has_other_base source before m = differs (version_base source m) (filter_map (version_base source) before)

-- a version with `(D)` that stood before without it, or the other way round; declarations do not count
abbrev pub has_other_mark : List ℕ → List Occurrence → Occurrence → Bool
has_other_mark source before m = stands (default_version source m) (filter_map (plain_version source) before)
    || stands (plain_version source m) (filter_map (default_version source) before)

-- a default definition of a parameter that has another one before
abbrev pub has_other_default : List ℕ → List Occurrence → Occurrence → Bool
has_other_default source before m = differs (base_default source m) (filter_map (base_default source) before)

-- the occurrence repeats one before
abbrev pub is_repeated : List ℕ → List Occurrence → Occurrence → Bool
is_repeated source before m = is_declared_again source before m || is_assigned_again source before m

-- the occurrence contradicts what a default definition, or the want of one, says before
abbrev pub is_marked_otherwise : List ℕ → List Occurrence → Occurrence → Bool
is_marked_otherwise source before m = has_other_mark source before m || has_other_default source before m

-- the occurrence contradicts one before
abbrev pub is_contradicted : List ℕ → List Occurrence → Occurrence → Bool
is_contradicted source before m = has_other_base source before m || is_marked_otherwise source before m

abbrev pub is_redefined : List ℕ → List Occurrence → Occurrence → Bool
is_redefined source before m = is_repeated source before m || is_contradicted source before m

-- ---- Undeclared

-- an anonymous name
abbrev pub is_bare : Option (List ℕ × List ℕ) → Bool
is_bare None = false
is_bare (Some ([], version)) = true
is_bare (Some (b ∷ base, version)) = false

-- no name; or its base is neither a local nor a parameter; or it is anonymous, and no local is that whole identifier
abbrev pub lacks_base : List ℕ → List Occurrence → List ℕ → Option (List ℕ × List ℕ) → Bool
lacks_base source all text None = true
lacks_base source all text (Some ([], version)) = not (list_any (same_text text) (filter_map (local_text source) all))
lacks_base source all text (Some (b ∷ base, version)) =
    not (list_any (same_text (b ∷ base)) (filter_map (local_text source) all)
    || list_any (same_text (b ∷ base)) (filter_map (param_text source) all))

-- no name, or its base is no parameter
abbrev pub lacks_param : List ℕ → List Occurrence → Option (List ℕ × List ℕ) → Bool
lacks_param source all None = true
lacks_param source all (Some ([], version)) = true
lacks_param source all (Some (b ∷ base, version)) = not (list_any (same_text (b ∷ base)) (filter_map (param_text source) all))

-- nothing in the function assigns this identifier
abbrev pub is_unassigned : List ℕ → List Occurrence → List ℕ → Bool
is_unassigned source all text = not (list_any (same_text text) (filter_map (assigned_text source) all))

-- no name that is declared and assigned
abbrev pub is_unknown : List ℕ → List Occurrence → List ℕ → Bool
is_unknown source all text = lacks_base source all text (name_parts text) || is_unassigned source all text

abbrev pub is_undeclared : List ℕ → List Occurrence → Occurrence → Bool
is_undeclared source all (Parameter at) = is_bare (name_parts (text_of source at))
is_undeclared source all (Assigned at) = lacks_base source all (text_of source at) (name_parts (text_of source at))
is_undeclared source all (Used at) = is_unknown source all (text_of source at)
is_undeclared source all (Default at) = lacks_param source all (name_parts (text_of source at))
is_undeclared source all m = false

-- ---- WideLiteral

-- a constant whose type does not hold its number
abbrev pub is_wide : List ℕ → Occurrence → Bool
is_wide source (Constant literal) = is_none (literal_word source literal)
is_wide source m = false
