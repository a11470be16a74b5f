-- What names are by their bytes.
use Rattle.std.specs.Prelude.{ℕ, ◌==◌, ◌&&◌, Option, Some, None, List, [], ◌∷◌, drop, if◌then◌else◌}
use Rattle.lexing.specs.Numbers.{is_number_text}

-- a byte before a name, or an underscore before a version
abbrev pub parts_from : ℕ → Option (List ℕ × List ℕ) → List ℕ → Option (List ℕ × List ℕ)
parts_from b (Some parts) rest = Some (b ∷ parts.0, parts.1)
parts_from b None rest = if (b == 95) && is_number_text rest then Some ([], rest) else None

-- the base and the digits of the version, where the text ends in an underscore and a number without a leading zero
unfoldable pub name_parts : List ℕ → Option (List ℕ × List ℕ)
name_parts [] = None
name_parts (b ∷ bytes) = parts_from b (name_parts bytes) bytes

-- the digits of the number of `__BBn`
abbrev pub block_digits : List ℕ → List ℕ
block_digits text = drop 4 text
