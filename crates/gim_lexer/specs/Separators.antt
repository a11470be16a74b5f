-- What separates tokens, as the number of bytes that it takes at the front of a text.
use Rattle.std.specs.Prelude.{ℕ, Bool, ◌&&◌, ◌||◌, Option, Some, List, codes, if◌then◌else◌}
use Rattle.lexing.specs.Separators.{begins_with_space, opens, line_length, comment_length}

-- `//`, or `;;` where a line begins: either makes a note of what is left of its line
abbrev pub opens_note : Bool → List ℕ → Bool
opens_note line_begins text = opens text (codes "//") || (line_begins && opens text (codes ";;"))

-- How long a separator is that begins a text: one byte of white space, a note, or a comment
unfoldable pub separator_length : Bool → List ℕ → Option ℕ
separator_length line_begins text =
    if begins_with_space text then Some 1
    else (if opens_note line_begins text then Some (line_length text) else comment_length text)
