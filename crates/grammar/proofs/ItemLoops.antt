-- What a loop over items keeps: each step puts one at the end.
use Rattle.std.proofs.Common.{◌≡◌, ◌<◌, List, [], ◌∷◌, length, Bool, true, false, Some, None, Ok, ap, ◌∙◌, arith}
use Rattle.std.specs.Prelude.{if◌then◌else◌}
use Rattle.grammar.specs.declared.stop.Stop.{Stop}
use Rattle.grammar.specs.Reading.{Answer, and_item, first_is, item_step}
use Rattle.grammar.specs.Gives.{StopsAs}
use Rattle.grammar.proofs.Loops.{StillRuns, runs_on, runs_out, stops_loop}

has_first : {T : Type 0} (begins : T → Bool) (input : List T) → first_is begins input ≡ true → 0 < length input
has_first begins [] e = absurd (cc)
has_first begins (t ∷ rest) e = omega arith

module _ {T E A : Type 0} (begins : T → Bool) (read : List T → Answer T E A) (total : Answer T E (List A)) (before : List A) (rest : List T)
    (still : StillRuns (item_step begins read) total before rest) where
  steps : (b : Bool) → first_is begins rest ≡ b → item_step begins read before rest ≡ (if b then Some (and_item before (read rest)) else None)
  steps b e = ap (λ c. if c then Some (and_item before (read rest)) else None) e

  -- after an item more
  pub goes_on : first_is begins rest ≡ true → (now : List A) (after : List T) → and_item before (read rest) ≡ Ok (now, after) → length after < length rest
      → StillRuns (item_step begins read) total now after
  goes_on begun now after is shorter =
      runs_on (item_step begins read) total before rest still now after (steps true begun ∙ ap (λ a. Some a) is) shorter

  -- where an item stops
  pub stops : first_is begins rest ≡ true → (stop : Stop T E) → StopsAs stop (and_item before (read rest)) → StopsAs stop total
  stops begun stop stopped =
      stops_loop (item_step begins read) total before rest still stop (and_item before (read rest)) (has_first begins rest begun) (steps true begun) stopped

  -- where none begins
  pub ends : first_is begins rest ≡ false → total ≡ Ok (before, rest)
  ends other = runs_out (item_step begins read) total before rest still (steps false other)
