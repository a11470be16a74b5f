-- What the laws in src/laws.rt say, over two nonterminals given as relations.
use Rattle.std.specs.Prelude.{◌≡◌, List, [], ◌++◌, Ok}
use Rattle.grammar.specs.Spelling.{Spelling, Begins, Then}
use Rattle.grammar.specs.Reading.{Answer, ◌>>=◌}
use Rattle.grammar.specs.Exact.{IsApart, IsExact}

-- What the second part takes does not go on the first.
abbrev pub IsKeptApart : {T A B : Type 0} → (T → Type 0) → (A → Spelling T B) → (T → Type 0) → Type 0
IsKeptApart first_goes_on M goes_on = (x : _) (y : _) (v z : List _) → M x y v → IsApart goes_on z → IsApart first_goes_on (v ++ z)

-- Each first part has a second.
abbrev pub CanGoOn : {T A B : Type 0} → Spelling T A → (A → Spelling T B) → Type 0
CanGoOn N M = (x : _) (u : List _) → N x u → Begins (M x) []

-- Where the first part is read exactly, and after it the second, the sequence is.
abbrev pub ReadsInSequence : {T E A B : Type 0} → Spelling T A → (T → Type 0) → (A → Spelling T B) → (T → Type 0) → List T → Answer T E A → (A × List T → Answer T E B) → Type 0
ReadsInSequence N first_goes_on M goes_on tokens first next =
    IsExact N first_goes_on tokens first
    → ((x : _) (rest : List _) → first ≡ Ok (x, rest) → IsExact (M x) goes_on rest (next (x, rest)))
    → IsExact (Then N M) goes_on tokens (first >>= next)
