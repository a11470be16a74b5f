-- Directive lines, and the levels of `#if` that they open, turn and close.
use Rattle.std.specs.Prelude.{ℕ, zero, suc, ◌+◌, ◌==◌, Bool, true, false, ◌||◌, option_map, Option, Some, None, List, [], ◌∷◌, take, drop, codes, slice_index, if◌then◌else◌}
use Rattle.std.specs.List.{prefix_len}
use Rattle.lexing.specs.Separators.{opens, line_length}
use Rattle.lexing.specs.Tables.{beside}
use Rattle.pd_lexer.specs.declared.directives.Directive.{Directive}
use Rattle.pd_lexer.specs.declared.directives.Directive.TheVariants.{If, Else, EndIf}

-- a space or a tab
abbrev pub is_blank : ℕ → Bool
is_blank b = (b == 32) || (b == 9)

-- A line begins at the place. No comment ends there, since a comment ends in `*/`
unfoldable pub line_begins : List ℕ → ℕ → Bool
line_begins source zero = true
line_begins source (suc before) = slice_index source before == 10

-- how many blanks there are before a `#` at the front
unfoldable pub blanks_before_hash : List ℕ → Option ℕ
blanks_before_hash text =
    let n = prefix_len is_blank text in
    if opens (drop n text) (codes "#") then Some n else None

-- where the `#` of a directive line stands, if one begins at the place
unfoldable pub hash_at : List ℕ → ℕ → Option ℕ
hash_at source at = if line_begins source at then option_map (λ n. at + n) (blanks_before_hash (drop at source)) else None

-- the directives. GIMPLE holds, and GENERIC doesn't
abbrev pub directives : List (List ℕ × Directive)
directives = (codes "#if GIMPLE", If true) ∷ (codes "#if\tGIMPLE", If true) ∷ (codes "#if GENERIC", If false) ∷ (codes "#if\tGENERIC", If false)
    ∷ (codes "#else", Else) ∷ (codes "#endif", EndIf) ∷ []

-- the directive that the line at the front is
unfoldable pub directive_of : List ℕ → Option Directive
directive_of text = beside (take (line_length text) text) directives
