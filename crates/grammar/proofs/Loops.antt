-- What a loop or a recursion of the program keeps.
use Rattle.std.proofs.Common.{◌≡◌, ℕ, zero, suc, ◌<◌, ◌≤◌, List, length, Option, Some, None, Ok, Err, sym, ap, ◌∙◌, arith}
use Rattle.grammar.specs.declared.stop.Stop.{Stop}
use Rattle.grammar.specs.declared.stop.Stop.TheVariants as stops
use Rattle.grammar.specs.Reading.{Answer, ◌>>=◌, stays_or, steps_at}
use Rattle.grammar.specs.Gives.{StopsAs}

-- Readers that serve below n tokens, at one that has fewer: one of them was made from those before it.
pub deeper : (P : ℕ → Type 0) (size : ℕ) → ((n : ℕ) → size ≤ n → P (suc n)) → (n : ℕ) → size < n → P n
deeper P size further zero below = absurd (omega arith)
deeper P size further (suc n) below = further n (omega arith)

-- A fault of a part is the fault of what it is a part of.
pub stops_whole : {T E A B : Type 0} (stop : Stop T E) (answer : Answer T E A) (next : A × List T → Answer T E B) → StopsAs stop answer → StopsAs stop (answer >>= next)
stops_whole stops.Memory answer next stopped = tt
stops_whole (stops.Fault fault) answer next stopped = ap (λ a. a >>= next) stopped

-- A loop over steps: what is still to be run gives the answer of the whole.
pub record StillRuns {T S E : Type 0} (step : S → List T → Option (Answer T E S)) (total : Answer T E S) (s : S) (rest : List T) : Type 0 where
  pub left : ℕ
  pub enough : length rest ≤ left
  pub runs : steps_at step left s rest ≡ total

module _ {T S E : Type 0} (step : S → List T → Option (Answer T E S)) where
  module _ (total : Answer T E S) (s : S) (rest : List T) (still : StillRuns step total s rest) where
    -- after a step
    pub runs_on : (m : S) (after : List T) → step s rest ≡ Some (Ok (m, after)) → length after < length rest → StillRuns step total m after
    runs_on m after is shorter = on still.left still.enough still.runs
      where
        on : (n : ℕ) → length rest ≤ n → steps_at step n s rest ≡ total → StillRuns step total m after
        on zero enough runs = absurd (omega arith)
        on (suc n) enough runs = record { left = n; enough = omega arith; runs = ap (λ o. stays_or (s, rest) o (λ x. steps_at step n x.0 x.1)) (sym is) ∙ runs }

    -- where no step begins
    pub runs_out : step s rest ≡ None → total ≡ Ok (s, rest)
    runs_out is = out still.left still.runs
      where
        out : (n : ℕ) → steps_at step n s rest ≡ total → total ≡ Ok (s, rest)
        out zero runs = sym runs
        out (suc n) runs = sym runs ∙ ap (λ o. stays_or (s, rest) o (λ x. steps_at step n x.0 x.1)) is

    -- where a step stops
    pub stops_loop : (stop : Stop T E) (answer : Answer T E S) → 0 < length rest → step s rest ≡ Some answer → StopsAs stop answer → StopsAs stop total
    stops_loop stops.Memory answer some is stopped = tt
    stops_loop (stops.Fault fault) answer some is stopped = faults still.left still.enough still.runs
      where
        faults : (n : ℕ) → length rest ≤ n → steps_at step n s rest ≡ total → total ≡ Err (fault.kind, fault.rest.now)
        faults zero enough runs = absurd (omega arith)
        faults (suc n) enough runs = sym runs ∙ ap (λ o. stays_or (s, rest) o (λ x. steps_at step n x.0 x.1)) (is ∙ ap (λ a. Some a) stopped)
