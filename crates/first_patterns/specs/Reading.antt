-- How a pattern file of the first form is read, on lists: what each private function of the crate
-- gives. That this is what FirstForm says is proved for `read`, so a reader need not believe it.
use Rattle.std.specs.Prelude.{◌≡◌, ℕ, zero, suc, ◌-◌, ◌==◌, ◌&&◌, ◌||◌, nat_le, if◌then◌else◌, Bool, List, [], ◌∷◌, length, take, drop, codes, Option, Some, None, Result, Ok, Err}
use Rattle.std.specs.List.{prefix_len}
use Rattle.std.specs.Str.{bytes_eq}
use Rattle.pm_ops.specs.declared.code.Code.{Code}
use Rattle.pm_ops.specs.Names.{code_named}
use Rattle.first_patterns.specs.declared.fault.ReadFault.{ReadFault}
use Rattle.first_patterns.specs.declared.fault.ReadFault.TheVariants.{NotFirst, Memory}
use Rattle.first_patterns.specs.declared.kind.Kind.{Kind}
use Rattle.first_patterns.specs.declared.kind.Kind.TheVariants.{White, Digit, Word}
use Rattle.first_patterns.specs.declared.row.Row.{Row}
use Rattle.first_patterns.specs.declared.row.Side.{Side}
use Rattle.first_patterns.specs.declared.row.Side.TheVariants.{Left, Right}
use Rattle.first_patterns.specs.FirstForm.{is_white, is_digit, is_first_code}

infixl 10 ◌>>=◌
abbrev pub ◌>>=◌ : {A B : Type 0} → Option A → (A → Option B) → Option B
(Some x) >>= f = f x
None >>= f = None

-- what a function returned, seen by view, is what reading gives
abbrev pub Gives : {X Y : Type 0} → (X → Y) → Option X → Option Y → Type 0
Gives view (Some x) read = read ≡ Some (view x)
Gives view None read = read ≡ None

-- a letter, a digit or `_`
abbrev pub is_word : ℕ → Bool
is_word byte = (nat_le 97 byte && nat_le byte 122) || ((nat_le 65 byte && nat_le byte 90) || (is_digit byte || byte == 95))

abbrev pub of_kind : Kind → ℕ → Bool
of_kind White = is_white
of_kind Digit = is_digit
of_kind Word = is_word

-- the longest front whose bytes pass, and what stands behind it
unfoldable pub front : (ℕ → Bool) → List ℕ → List ℕ
front p bytes = take (prefix_len p bytes) bytes

unfoldable pub past : (ℕ → Bool) → List ℕ → List ℕ
past p bytes = drop (prefix_len p bytes) bytes

-- what stands behind the token, where the bytes begin with it
unfoldable pub strip : List ℕ → List ℕ → Option (List ℕ)
strip token bytes = if bytes_eq (take (length token) bytes) token then Some (drop (length token) bytes) else None

-- the same where white space may stand before the token
unfoldable pub token_at : List ℕ → List ℕ → Option (List ℕ)
token_at token bytes = strip token (past is_white bytes)

-- an operation of the first form by its name, which is the longest word there
unfoldable pub code_at : List ℕ → Option (Code × List ℕ)
code_at bytes = do
  code ← code_named (front is_word bytes)
  if is_first_code code then Some (code, past is_word bytes) else None

-- the digits of a capture
unfoldable pub capture_at : List ℕ → Option (List ℕ × List ℕ)
capture_at bytes = do
  behind ← strip (codes "@") bytes
  if length (front is_digit behind) == 0 then None else Some (front is_digit behind, past is_digit behind)

-- the same behind white space that has to be there
unfoldable pub apart_capture_at : List ℕ → Option (List ℕ × List ℕ)
apart_capture_at bytes = if length (front is_white bytes) == 0 then None else capture_at (past is_white bytes)

-- which capture of the pattern the result is
unfoldable pub side_named : List ℕ → List ℕ → List ℕ → Option Side
side_named left right result =
    if bytes_eq result left then Some Left else (if bytes_eq result right then Some Right else None)

-- the pattern `(op X Y)`: its operation, and the digits of X and Y
unfoldable pub pattern_at : List ℕ → Option ((Code × List ℕ × List ℕ) × List ℕ)
pattern_at bytes = do
  inner ← token_at (codes "(") bytes
  code ← code_at (past is_white inner)
  left ← apart_capture_at code.1
  right ← apart_capture_at left.1
  rest ← token_at (codes ")") right.1
  Some ((code.0, left.0, right.0), rest)

-- the row of the form that begins at byte number at, from its outer parenthesis on
unfoldable pub row_at : ℕ → List ℕ → Option (Row × List ℕ)
row_at at bytes = do
  inner ← strip (codes "(") bytes
  behind_word ← token_at (codes "simplify") inner
  pattern ← pattern_at behind_word
  capture ← capture_at (past is_white pattern.1)
  rest ← token_at (codes ")") capture.1
  side ← side_named pattern.0.1 pattern.0.2 capture.0
  Some (record { at = at; code = pattern.0.0; same = bytes_eq pattern.0.1 pattern.0.2; result = side }, rest)

-- at most so many rows, of bytes that begin with no white space and end with byte number total
unfoldable pub rows_at : ℕ → ℕ → List ℕ → Option (List Row)
rows_at zero total bytes = if length bytes == 0 then Some [] else None
rows_at (suc n) total bytes =
    if length bytes == 0
    then Some []
    else (row_at (total - length bytes) bytes >>= λ row. rows_at n total (past is_white row.1) >>= λ rows. Some (row.0 ∷ rows))

unfoldable pub rows_of : List ℕ → Option (List Row)
rows_of source = rows_at 65536 (length source) (past is_white source)

abbrev pub FaultsAs : ReadFault → Option (List Row) → Type 0
FaultsAs NotFirst read = read ≡ None
FaultsAs Memory read = Unit {0}

-- the answer for the whole file, unless memory ran out
abbrev pub AnswersRows : Result (List Row) ReadFault → Option (List Row) → Type 0
AnswersRows (Ok rows) read = read ≡ Some rows
AnswersRows (Err fault) read = FaultsAs fault read
