-- The limits of functions: numbers of versions and blocks, names and blocks. Names are told apart by the digits of their versions.
use Rattle.std.specs.Prelude.{ℕ, suc, Bool, false, not, ◌&&◌, ◌||◌, ◌==◌, is_none, Option}
use Rattle.std.specs.Prelude.{Some, None, option_map, List, [], ◌∷◌, length, if◌then◌else◌}
use Rattle.std.specs.List.{flat_map, filter_map}
use Rattle.lexing.specs.Numbers.{is_number_text, number_below}
use Rattle.pm_places.specs.declared.span.Span.{Span}
use Rattle.gim_text.specs.declared.limits.TheConstants.{BLOCK_LIMIT, NAME_LIMIT, NUMBER_LIMIT}
use Rattle.gim_text.specs.declared.fault.GimpleFault.{GimpleFault}
use Rattle.gim_text.specs.declared.fault.GimpleKind.TheVariants.{TooLarge}
use Rattle.gim_text.specs.declared.tree.FunctionText.{FunctionText}
use Rattle.gim_text.specs.declared.occurrence.Occurrence.{Occurrence}
use Rattle.gim_text.specs.declared.occurrence.Occurrence.TheVariants.{Block, Jump}
use Rattle.gim_text.specs.Occurrences.{place_of, name_at, block_at, occurrences_of}
use Rattle.gim_text.specs.Texts.{name_parts}
use Rattle.pm_places.specs.Spans.{text_of}
use Rattle.gim_text.specs.Faults.{fault_at}
use Rattle.pm_places.specs.FirstFaults.{first_fault}
use Rattle.gim_shape.specs.Blocks.{is_among, named_at}

-- ---- the number that occurs

-- the digits of the version of a name at a place
abbrev pub version_of : List ℕ → Option Span → Option (List ℕ)
version_of source None = None
version_of source (Some at) = option_map (λ parts. parts.1) (name_parts (text_of source at))

-- the version of the name that occurs
abbrev pub version_at : List ℕ → Occurrence → Option (List ℕ)
version_at source occurrence = version_of source (name_at source occurrence)

-- the digits of the version or of the block's number that occurs
abbrev pub digits_at : List ℕ → Occurrence → Option (List ℕ)
digits_at source (Block at) = Some (text_of source at)
digits_at source (Jump at) = Some (named_at source at)
digits_at source occurrence = version_at source occurrence

-- the digits of a number that is too large
abbrev pub is_above : List ℕ → Bool
is_above digits = is_number_text digits && is_none (number_below NUMBER_LIMIT digits)

abbrev pub is_any_above : Option (List ℕ) → Bool
is_any_above None = false
is_any_above (Some digits) = is_above digits

-- ---- how many there are

-- how many blocks' heads occur
abbrev pub blocks_among : List Occurrence → ℕ
blocks_among occurrences = length (filter_map block_at occurrences)

-- the versions that occur
abbrev pub versions_of : List ℕ → List Occurrence → List (List ℕ)
versions_of source occurrences = filter_map (version_at source) occurrences

-- how many different texts there are
abbrev pub different : List (List ℕ) → ℕ
different [] = 0
different (text ∷ texts) = if is_among texts text then different texts else suc (different texts)

-- one name too many, where these versions stand before it
abbrev pub is_name_too_many : List (List ℕ) → Option (List ℕ) → Bool
is_name_too_many versions None = false
is_name_too_many versions (Some version) = not (is_among versions version) && (different versions == NAME_LIMIT)

-- one block too many, where so many stand before it
abbrev pub is_block_too_many : ℕ → Option Span → Bool
is_block_too_many blocks None = false
is_block_too_many blocks (Some at) = blocks == BLOCK_LIMIT

-- what occurs has too large a number, or is a name or a block too many; told what occurs before it
abbrev pub is_too_large : List ℕ → List Occurrence → Occurrence → Bool
is_too_large source before occurrence =
    is_any_above (digits_at source occurrence)
    || (is_name_too_many (versions_of source before) (version_at source occurrence)
    || is_block_too_many (blocks_among before) (block_at occurrence))

-- ---- faults

-- of each that occurs, told those before them, the latest first
abbrev pub large_faults : List ℕ → List Occurrence → List Occurrence → List (Option GimpleFault)
large_faults source before [] = []
large_faults source before (occurrence ∷ occurrences) =
    (if is_too_large source before occurrence then Some (fault_at TooLarge (place_of occurrence)) else None)
    ∷ large_faults source (occurrence ∷ before) occurrences

abbrev pub function_limit_faults : List ℕ → FunctionText → List (Option GimpleFault)
function_limit_faults source function = large_faults source [] (occurrences_of function)

-- the first place at which a limit of a function is passed
unfoldable pub limits_fault : List ℕ → List FunctionText → Option GimpleFault
limits_fault source functions = first_fault (flat_map (function_limit_faults source) functions)
