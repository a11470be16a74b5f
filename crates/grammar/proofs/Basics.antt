-- What an exact answer says, in the forms that other proofs take.
use Rattle.std.proofs.Common.{◌≡◌, List, [], ◌∷◌, ◌++◌, Ok, Err, sym, ap, subst, ◌∙◌, append_assoc}
use Rattle.grammar.specs.Spelling.{Spelling}
use Rattle.grammar.specs.Reading.{Answer, rest_of}
use Rattle.grammar.specs.Exact.{IsExact}

module _ {T E A : Type 0} {N : Spelling T A} {more : T → Type 0} {tokens : List T} {answer : Answer T E A} (exact : IsExact N more tokens answer) where
  -- no spelling goes on with the next token
  pub no_further : (t : T) (after : List T) → rest_of answer ≡ t ∷ after → (x : A) (w z : List T) → N x w → w ≡ exact.front ++ t ∷ z → ⊥
  no_further t after e x w z spelled long =
      exact.stops t after e (record { value = x; after = z; spelled = subst (λ l. N x l) (long ∙ sym (append_assoc exact.front (t ∷ []) z)) spelled })

  -- nor with several next tokens
  pub no_further_within : (middle : List T) (t : T) (after : List T) → rest_of answer ≡ middle ++ t ∷ after → (x : A) (w z : List T) → N x w → w ≡ exact.front ++ (middle ++ t ∷ z) → ⊥
  no_further_within [] t after e x w z spelled long = no_further t after e x w z spelled long
  no_further_within (h ∷ hs) t after e x w z spelled long = no_further h (hs ++ t ∷ after) e x w (hs ++ t ∷ z) spelled long

pub is_no_fault : {T E A : Type 0} (fault : E × List T) (x : A) (rest : List T) → ◌≡◌ {A = Answer T E A} (Err fault) (Ok (x, rest)) → ⊥
is_no_fault fault x rest e = cc

same_read : {T E A : Type 0} (p q : A × List T) → ◌≡◌ {A = Answer T E A} (Ok p) (Ok q) → p ≡ q
same_read p q e = cc

pub same_value : {T E A : Type 0} (x y : A) (rest l : List T) → ◌≡◌ {A = Answer T E A} (Ok (x, rest)) (Ok (y, l)) → x ≡ y
same_value x y rest l e = ap (λ p. p.0) (same_read (x, rest) (y, l) e)

pub same_rest : {T E A : Type 0} (x y : A) (rest l : List T) → ◌≡◌ {A = Answer T E A} (Ok (x, rest)) (Ok (y, l)) → rest ≡ l
same_rest x y rest l e = ap (λ p. p.1) (same_read (x, rest) (y, l) e)
