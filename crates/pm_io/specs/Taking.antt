-- What the calls on sinks take, where the sink tells the bytes that it took.
use Rattle.std.specs.Prelude.{◌≡◌, ℕ, ◌<◌, ◌≤◌, List, ◌++◌, length, take, Option, Some, option_map, Result, Ok, Err, ⊤}

-- what was there, where that is told, and then more
abbrev pub followed_by : {X : Type 0} → Option (List X) → List X → Option (List X)
followed_by before more = option_map (λ some. some ++ more) before

-- a write takes a front of the piece, of the length that it answers, and nothing where it fails
abbrev pub Takes : {E : Type 0} → Option (List ℕ) → Option (List ℕ) → List ℕ → Result ℕ E → Type 0
Takes before after piece (Ok count) = after ≡ followed_by before (take count piece)
Takes before after piece (Err _) = after ≡ before

-- writing all of these bytes: all are taken, or where that fails a front that lacks some
abbrev pub TakesAll : {T E : Type 0} → Option (List ℕ) → Option (List ℕ) → List ℕ → Result T E → Type 0
TakesAll before after bytes (Ok _) = after ≡ followed_by before bytes
TakesAll before after bytes (Err _) =
    (count : ℕ) × (count < length bytes) × (after ≡ followed_by before (take count bytes))

-- where the sink promises room and tells what it took: it took as many bytes as it has room for
abbrev pub IsFull : Option ℕ → Option (List ℕ) → Type 0
IsFull (Some room) (Some taken) = room ≤ length taken
IsFull _ _ = ⊤
