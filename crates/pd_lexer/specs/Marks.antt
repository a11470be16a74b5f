-- Marks of one byte and of two.
use Rattle.std.specs.Prelude.{ℕ, Bool, Option, Some, None, List, [], ◌∷◌, length, take, codes, if◌then◌else◌}
use Rattle.std.specs.List.{list_any}
use Rattle.std.specs.Str.{bytes_eq}

abbrev pub marks : List (List ℕ)
marks = codes "(" ∷ codes ")" ∷ codes "{" ∷ codes "}" ∷ codes "," ∷ codes ";" ∷ codes ":" ∷ codes "::" ∷ codes "?" ∷ codes "!" ∷ codes "~"
    ∷ codes "&" ∷ codes "&&" ∷ codes "|" ∷ codes "||" ∷ codes "^" ∷ codes "+" ∷ codes "-" ∷ codes "*" ∷ codes "/" ∷ codes "%" ∷ codes "="
    ∷ codes "==" ∷ codes "!=" ∷ codes "<" ∷ codes "<=" ∷ codes ">" ∷ codes ">=" ∷ codes "<<" ∷ codes ">>" ∷ []

-- the bytes are a mark
unfoldable pub is_mark : List ℕ → Bool
is_mark bytes = list_any (λ mark. bytes_eq mark bytes) marks

-- how many bytes the mark at the front has: two, or else one
unfoldable pub mark_length : List ℕ → Option ℕ
mark_length text =
    if is_mark (take 2 text) then Some (length (take 2 text))
    else (if is_mark (take 1 text) then Some 1 else None)
