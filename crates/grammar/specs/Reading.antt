-- Readers on lists of tokens. A reader answers a value and the rest after it, or the kind of a fault and the
-- rest from the offending token on.
use Rattle.std.specs.Prelude.{ℕ, zero, suc, Bool, false, if◌then◌else◌, List, [], ◌∷◌, ◌++◌, length, Option, Some, None, Result, Ok, Err}

-- what a reader answers: E is the kind of a fault
abbrev pub Answer : Type 0 → Type 0 → Type 0 → Type 0
Answer T E A = Result (A × List T) (E × List T)

-- the value and the rest after it, or the fault
infixl 10 ◌>>=◌
abbrev pub ◌>>=◌ : {T E A B : Type 0} → Answer T E A → (A × List T → Answer T E B) → Answer T E B
(Ok x) >>= next = next x
(Err fault) >>= next = Err fault

-- the tokens that an answer leaves
abbrev pub rest_of : {T E A : Type 0} → Answer T E A → List T
rest_of (Ok x) = x.1
rest_of (Err fault) = fault.1

-- a token that has a meaning, or a fault at it
abbrev pub meant_as : {T E A : Type 0} → E → T → List T → Option A → Answer T E A
meant_as kind t rest None = Err (kind, t ∷ rest)
meant_as kind t rest (Some x) = Ok (x, rest)

abbrev pub meant_at : {T E A : Type 0} → (T → Option A) → E → List T → Answer T E A
meant_at meaning kind [] = Err (kind, [])
meant_at meaning kind (t ∷ rest) = meant_as kind t rest (meaning t)

-- where a machine comes to a stand, and the tokens from there on
abbrev pub stands_or : {T S : Type 0} → S × List T → Option S → (S → S × List T) → S × List T
stands_or here None further = here
stands_or here (Some m) further = further m

abbrev pub run : {T S : Type 0} → (S → T → Option S) → S → List T → S × List T
run next s [] = (s, [])
run next s (t ∷ rest) = stands_or (s, t ∷ rest) (next s t) (λ m. run next m rest)

-- what the state means in which the machine comes to a stand, or a fault there
abbrev pub meant_state : {T E A : Type 0} → E → List T → Option A → Answer T E A
meant_state kind rest None = Err (kind, rest)
meant_state kind rest (Some x) = Ok (x, rest)

abbrev pub driven_at : {T S E A : Type 0} → (S → T → Option S) → (S → Option A) → E → S → List T → Answer T E A
driven_at next meaning kind start tokens = let stand = run next start tokens in meant_state kind stand.1 (meaning stand.0)

-- As many steps as there are. `step` answers None where no step begins; the number is at least that of the tokens.
abbrev pub stays_or : {T S E : Type 0} → S × List T → Option (Answer T E S) → (S × List T → Answer T E S) → Answer T E S
stays_or here None further = Ok here
stays_or here (Some answer) further = answer >>= further

abbrev pub steps_at : {T S E : Type 0} → (S → List T → Option (Answer T E S)) → ℕ → S → List T → Answer T E S
steps_at step zero s tokens = Ok (s, tokens)
steps_at step (suc n) s tokens = stays_or (s, tokens) (step s tokens) (λ x. steps_at step n x.0 x.1)

-- an item, put at the end of those before
abbrev pub and_item : {T E A : Type 0} → List A → Answer T E A → Answer T E (List A)
and_item before item = item >>= λ x. Ok (before ++ x.0 ∷ [], x.1)

abbrev pub first_is : {T : Type 0} → (T → Bool) → List T → Bool
first_is begins [] = false
first_is begins (t ∷ rest) = begins t

-- items, as many as begin with such a token, put at the end of those before
abbrev pub item_step : {T E A : Type 0} → (T → Bool) → (List T → Answer T E A) → List A → List T → Option (Answer T E (List A))
item_step begins read before tokens = if first_is begins tokens then Some (and_item before (read tokens)) else None

abbrev pub more_at : {T E A : Type 0} → (T → Bool) → (List T → Answer T E A) → List A → List T → Answer T E (List A)
more_at begins read before tokens = steps_at (item_step begins read) (length tokens) before tokens
