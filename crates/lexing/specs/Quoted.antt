-- Texts between two `"` on one line.
use Rattle.std.specs.Prelude.{◌≡◌, ℕ, ◌+◌, IsTrue, Option, Some, None, List, [], ◌∷◌, ◌++◌, drop, codes, if◌then◌else◌}
use Rattle.std.specs.List.{prefix_len, list_all}
use Rattle.lexing.specs.Bytes.{is_inner}
use Rattle.lexing.specs.Separators.{opens}

-- what stands between two `"` on one line, with them
pub record IsQuoted (text : List ℕ) : Type 0 where
  pub inner : List ℕ
  pub parts : text ≡ 34 ∷ (inner ++ 34 ∷ [])
  pub on_one_line : IsTrue (list_all is_inner inner)

-- the bytes of such a text, by what stands behind its first `"`
unfoldable pub quoted_length : List ℕ → Option ℕ
quoted_length rest =
    let n = prefix_len is_inner rest in
    if opens (drop n rest) (codes "\"") then Some (n + 2) else None
