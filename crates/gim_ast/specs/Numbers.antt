-- Names, as they are read from their bytes.
use Rattle.std.specs.Prelude.{ℕ, ◌==◌, Option, Some, None, option_map, List, [], ◌∷◌, if◌then◌else◌}
use Rattle.lexing.specs.Numbers.{number_below}

-- a byte before a name, or an underscore before a version
abbrev pub name_from : ℕ → Option (List ℕ × ℕ) → Option ℕ → Option (List ℕ × ℕ)
name_from b (Some name) version = Some (b ∷ name.0, name.1)
name_from b None version = if b == 95 then option_map (λ n. ([], n)) version else None

-- the base and the version, where the bytes are a base, an underscore and a version below the limit
unfoldable pub name_below : ℕ → List ℕ → Option (List ℕ × ℕ)
name_below limit [] = None
name_below limit (b ∷ bytes) = name_from b (name_below limit bytes) (number_below limit bytes)
