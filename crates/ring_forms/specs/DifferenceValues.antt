-- What a term is worth, or the difference of two.
use Rattle.std.specs.Prelude.{List, [], ◌∷◌, ℤ, pos, ◌-ℤ◌}
use Rattle.pm_wide.specs.Types.{Word, value}

-- of one word its value, of two the value of the first less that of the second
abbrev pub values_difference : List Word → ℤ
values_difference (r ∷ []) = value r
values_difference (r ∷ s ∷ []) = value r -ℤ value s
values_difference _ = pos 0
