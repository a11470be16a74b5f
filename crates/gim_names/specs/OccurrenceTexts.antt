-- What an occurrence says that the rules on names compare. Versions and block numbers are their digits, so of any size.
use Rattle.std.specs.Prelude.{ℕ, Option, Some, None, option_map, List, [], ◌∷◌}
use Rattle.gim_text.specs.Texts.{name_parts}
use Rattle.pm_places.specs.Spans.{text_of}
use Rattle.gim_text.specs.declared.occurrence.Occurrence.{Occurrence}
use Rattle.gim_text.specs.declared.occurrence.Occurrence.TheVariants.{Parameter, Local, Block, Assigned, Used, Default}

-- ---- identifiers and numbers

abbrev pub param_text : List ℕ → Occurrence → Option (List ℕ)
param_text source (Parameter at) = Some (text_of source at)
param_text source m = None

abbrev pub local_text : List ℕ → Occurrence → Option (List ℕ)
local_text source (Local at) = Some (text_of source at)
local_text source m = None

-- a parameter or a local
abbrev pub declared_text : List ℕ → Occurrence → Option (List ℕ)
declared_text source (Parameter at) = Some (text_of source at)
declared_text source (Local at) = Some (text_of source at)
declared_text source m = None

abbrev pub block_number : List ℕ → Occurrence → Option (List ℕ)
block_number source (Block at) = Some (text_of source at)
block_number source m = None

-- the whole identifier of a name that is assigned
abbrev pub assigned_text : List ℕ → Occurrence → Option (List ℕ)
assigned_text source (Assigned at) = Some (text_of source at)
assigned_text source m = None

-- ---- versions

abbrev pub version_in : Option (List ℕ × List ℕ) → Option (List ℕ)
version_in parts = option_map (λ p. p.1) parts

abbrev pub turned : Option (List ℕ × List ℕ) → Option (List ℕ × List ℕ)
turned parts = option_map (λ p. (p.1, p.0)) parts

-- the version of a name that is assigned
abbrev pub assigned_version : List ℕ → Occurrence → Option (List ℕ)
assigned_version source (Assigned at) = version_in (name_parts (text_of source at))
assigned_version source m = None

-- the version of a name that is written without `(D)`
abbrev pub plain_version : List ℕ → Occurrence → Option (List ℕ)
plain_version source (Assigned at) = version_in (name_parts (text_of source at))
plain_version source (Used at) = version_in (name_parts (text_of source at))
plain_version source m = None

-- the version of a name that is written with `(D)`
abbrev pub default_version : List ℕ → Occurrence → Option (List ℕ)
default_version source (Default at) = version_in (name_parts (text_of source at))
default_version source m = None

-- the parts of an anonymous name
abbrev pub anonymous_parts : Option (List ℕ × List ℕ) → Option (List ℕ × List ℕ)
anonymous_parts None = None
anonymous_parts (Some ([], version)) = Some ([], version)
anonymous_parts (Some (b ∷ base, version)) = None

-- the version and the base of a name, or of a local that is an anonymous name
abbrev pub version_base : List ℕ → Occurrence → Option (List ℕ × List ℕ)
version_base source (Local at) = turned (anonymous_parts (name_parts (text_of source at)))
version_base source (Assigned at) = turned (name_parts (text_of source at))
version_base source (Used at) = turned (name_parts (text_of source at))
version_base source (Default at) = turned (name_parts (text_of source at))
version_base source m = None

-- the base and the version of a default definition
abbrev pub base_default : List ℕ → Occurrence → Option (List ℕ × List ℕ)
base_default source (Default at) = name_parts (text_of source at)
base_default source m = None
