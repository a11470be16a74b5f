-- Which bytes are a pattern file of the first form, and which rows they spell: at most 65,536 forms
-- `(simplify (op X Y) Z)` with white space around them. From the rows to the bytes.
use Rattle.std.specs.Prelude.{◌≡◌, ◌≢◌, ℕ, ◌+◌, ◌≤◌, ◌↔◌, ◌==◌, ◌&&◌, ◌||◌, nat_le, Bool, true, false, IsTrue, List, [], ◌∷◌, ◌++◌, length, codes}
use Rattle.std.specs.List.{AllPass, concat}
use Rattle.pm_ops.specs.declared.code.Code.{Code}
use Rattle.pm_ops.specs.declared.code.Code.TheVariants.{Plus, Minus, Mult, BitAnd, BitIor, BitXor}
use Rattle.pm_ops.specs.Names.{code_name}
use Rattle.first_patterns.specs.declared.row.Row.{Row}
use Rattle.first_patterns.specs.declared.row.Side.{Side}
use Rattle.first_patterns.specs.declared.row.Side.TheVariants.{Left, Right}

-- white space: the bytes 9 to 13, and a space
abbrev pub is_white : ℕ → Bool
is_white byte = (nat_le 9 byte && nat_le byte 13) || byte == 32

-- `0` to `9`
abbrev pub is_digit : ℕ → Bool
is_digit byte = nat_le 48 byte && nat_le byte 57

-- the operations of the first form
abbrev pub is_first_code : Code → Bool
is_first_code Plus = true
is_first_code Minus = true
is_first_code Mult = true
is_first_code BitAnd = true
is_first_code BitIor = true
is_first_code BitXor = true
is_first_code _ = false

-- white space between two tokens that may also touch
pub record Gap : Type 0 where
  pub bytes : List ℕ
  pub white : AllPass is_white bytes

-- white space that has to be there: before a capture that stands behind a word or a capture, and
-- would else be joined to it
pub record Break : Type 0 where
  pub bytes : List ℕ
  pub white : AllPass is_white bytes
  pub some : bytes ≢ []

-- the digits of a capture, as they are spelled
pub record Digits : Type 0 where
  pub bytes : List ℕ
  pub digits : AllPass is_digit bytes
  pub some : bytes ≢ []

-- what a form leaves free: its white space and the digits of its captures, from left to right
pub record Layout : Type 0 where
  pub before_word : Gap
  pub before_pattern : Gap
  pub before_operator : Gap
  pub before_left : Break
  pub left : Digits
  pub before_right : Break
  pub right : Digits
  pub after_right : Gap
  pub before_result : Gap
  pub result : Digits
  pub after_result : Gap

-- the pieces of a form, from its outer parenthesis on
abbrev pub pieces : Code → Layout → List (List ℕ)
pieces code l =
    codes "(" ∷ l.before_word.bytes ∷ codes "simplify" ∷ l.before_pattern.bytes
    ∷ codes "(" ∷ l.before_operator.bytes ∷ code_name code
    ∷ l.before_left.bytes ∷ codes "@" ∷ l.left.bytes
    ∷ l.before_right.bytes ∷ codes "@" ∷ l.right.bytes
    ∷ l.after_right.bytes ∷ codes ")"
    ∷ l.before_result.bytes ∷ codes "@" ∷ l.result.bytes
    ∷ l.after_result.bytes ∷ codes ")" ∷ []

-- the result is that capture of the pattern: the left one where it is both
abbrev pub IsResult : Side → Layout → Type 0
IsResult Left l = l.result.bytes ≡ l.left.bytes
IsResult Right l = (l.result.bytes ≡ l.right.bytes) × (l.result.bytes ≢ l.left.bytes)

-- the form spells the row, but for its place
pub record SpellsRow (row : Row) (form : List ℕ) : Type 0 where
  pub layout : Layout
  pub text : form ≡ concat (pieces row.code layout)
  pub code : IsTrue (is_first_code row.code)
  pub same : IsTrue row.same ↔ (layout.left.bytes ≡ layout.right.bytes)
  pub result : IsResult row.result layout

-- the text, which begins at byte number at of the file, spells these rows: their forms in order, each
-- at its row's place, with white space before each and behind the last
abbrev pub SpellsRows : ℕ → List Row → List ℕ → Type 0
SpellsRows at [] text = AllPass is_white text
SpellsRows at (row ∷ rows) text =
    (gap : Gap) × (form : List ℕ) × (rest : List ℕ) × (text ≡ gap.bytes ++ (form ++ rest))
    × (row.at ≡ at + length gap.bytes) × SpellsRow row form × SpellsRows (at + length gap.bytes + length form) rows rest

-- the file is of the first form, and these are its rows
pub record SpellsFile (rows : List Row) (source : List ℕ) : Type 0 where
  pub spells : SpellsRows 0 rows source
  pub few : length rows ≤ 65536
