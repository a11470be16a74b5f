-- What a reader of a whole input owes: it accepts exactly what is spelled, and its fault is the first.
use Rattle.std.specs.Prelude.{◌≡◌, List, [], ◌∷◌, ◌++◌, Result, Ok, Err}
use Rattle.grammar.specs.Spelling.{Spelling, Begins}
use Rattle.grammar.specs.Reading.{Answer}
use Rattle.grammar.specs.declared.stop.Stop.{Stop}
use Rattle.grammar.specs.declared.stop.Stop.TheVariants as stops

-- The rest begins with the first offending token: the tokens before it begin an accepted text, and with it they
-- begin none. Where there is no rest, the input ends too early.
pub record IsFirstFault {T A : Type 0} (N : Spelling T A) (tokens rest : List T) : Type 0 where
  pub front : List T
  pub cut : tokens ≡ front ++ rest
  pub begun : Begins N front
  pub offends : (t : T) (after : List T) → rest ≡ t ∷ after → ¬ Begins N (front ++ t ∷ [])
  pub ends : rest ≡ [] → (x : A) → ¬ N x tokens

-- A function stopped at the first fault, unless memory ran out.
abbrev pub StopsFirst : {T E A : Type 0} → Spelling T A → List T → Stop T E → Type 0
StopsFirst N tokens stops.Memory = Unit {0}
StopsFirst N tokens (stops.Fault fault) = IsFirstFault N tokens fault.rest.now

-- the answer at a whole input: the kind is that of a fault at a token after the value
abbrev pub whole_of : {T E A : Type 0} → E → Answer T E A → Result A (E × List T)
whole_of kind (Err fault) = Err fault
whole_of kind (Ok (x, [])) = Ok x
whole_of kind (Ok (x, t ∷ rest)) = Err (kind, t ∷ rest)

pub record IsReading {T E A : Type 0} (N : Spelling T A) (tokens : List T) (result : Result A (E × List T)) : Type 0 where
  -- What is read is spelled so.
  pub found : (x : A) → result ≡ Ok x → N x tokens
  -- What is spelled so is read.
  pub only : (x : A) → N x tokens → result ≡ Ok x
  -- A fault is the first.
  pub fault : (f : E × List T) → result ≡ Err f → IsFirstFault N tokens f.1
