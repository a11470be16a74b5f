-- A part, and after it the part that its value asks for: where each is read exactly, so is the whole.
use Rattle.std.proofs.Common.{◌≡◌, Option, Some, None, ◌<◌, length, arith, List, [], ◌∷◌, ◌++◌, Ok, Err, refl, sym, ap, subst, ◌∙◌, inl, inr, append_assoc}
use Rattle.std.proofs.lemmas.List.{append-nil, append_cancel_left, append_cancel_right}
use Rattle.grammar.specs.Spelling.{Spelling, Begins, Then, Meant, After}
use Rattle.grammar.specs.Reading.{Answer, rest_of, ◌>>=◌, meant_as, meant_at}
use Rattle.grammar.specs.Exact.{IsApart, Takes, IsExact}
use Rattle.grammar.proofs.Lists.{cuts}
use Rattle.grammar.proofs.Basics.{no_further, no_further_within, is_no_fault, same_value, same_rest}
use Rattle.grammar.proofs.Parts.{meant, in_words}

module _ {T E A B : Type 0} (N : Spelling T A) (M : A → Spelling T B) (more_first more : T → Type 0)
    (apart : (x : A) (y : B) (v z : List T) → M x y v → IsApart more z → IsApart more_first (v ++ z))
    (goes_on : (x : A) (u : List T) → N x u → Begins (M x) []) where
  -- A first part whose second part begins with the next token is what was read.
  first_is : (tokens : List T) (first : Answer T E A) → IsExact N more_first tokens first
      → (x : A) (u : List T) (y : B) (v : List T) (h : T) (l v' : List T) → N x u → M x y v → v ≡ h ∷ v' → tokens ≡ u ++ h ∷ l → first ≡ Ok (x, h ∷ l)
  first_is tokens first exact x u y v h l v' n m head here =
      let far : IsApart more_first ((h ∷ v') ++ []) = subst (λ w. IsApart more_first (w ++ [])) head (apart x y v [] m tt) in
      exact.only x u (h ∷ l) n here far

  only_of : (tokens : List T) (first : Answer T E A) (next : A × List T → Answer T E B)
      → IsExact N more_first tokens first
      → ((x : A) (rest : List T) → first ≡ Ok (x, rest) → IsExact (M x) more rest (next (x, rest)))
      → (y : B) (w z : List T) → Then N M y w → tokens ≡ w ++ z → IsApart more z → (first >>= next) ≡ Ok (y, z)
  only_of tokens first next exact second y w z spelled e far =
      let x = spelled.0 in
      let u = spelled.1 in
      let v = spelled.2 in
      let here : tokens ≡ u ++ (v ++ z) = e ∙ ap (λ l. l ++ z) spelled.5 ∙ append_assoc u v z in
      let answered : first ≡ Ok (x, v ++ z) = exact.only x u (v ++ z) spelled.3 here (apart x y v z spelled.4 far) in
      ap (λ r. r >>= next) answered ∙ (second x (v ++ z) answered).only y v z spelled.4 refl far

  -- No spelling passes a fault of the first part.
  stops_in_first : (tokens : List T) (fault : E × List T) (exact : IsExact N more_first tokens (Err fault))
      → (t : T) (after : List T) → fault.1 ≡ t ∷ after → (y : B) (w z : List T) → Then N M y w → w ≡ exact.front ++ t ∷ z → ⊥
  stops_in_first tokens fault exact t after next y w z spelled long =
      let x = spelled.0 in
      let u = spelled.1 in
      let v = spelled.2 in
      let here : tokens ≡ exact.front ++ t ∷ after = exact.cut ∙ ap (λ l. exact.front ++ l) next in
      let parts : exact.front ++ t ∷ z ≡ u ++ v = sym long ∙ spelled.5 in
      elim (cuts exact.front (t ∷ z) u v parts) [
        | inl c ↦ at_or_past x u y v c.middle spelled.3 spelled.4 c.left c.right here
        | inr c ↦
            let further : tokens ≡ u ++ c.head ∷ (c.tail ++ t ∷ after) = here ∙ ap (λ l. l ++ t ∷ after) c.left ∙ append_assoc u (c.head ∷ c.tail) (t ∷ after) in
            is_no_fault fault x (c.head ∷ (c.tail ++ t ∷ after)) (first_is tokens (Err fault) exact x u y v c.head (c.tail ++ t ∷ after) (c.tail ++ t ∷ z) spelled.3 spelled.4 c.right further)
      ]
    where
      at_or_past : (x : A) (u : List T) (y : B) (v middle : List T) → N x u → M x y v → u ≡ exact.front ++ middle → t ∷ z ≡ middle ++ v → tokens ≡ exact.front ++ t ∷ after → ⊥
      at_or_past x u y v [] n m left right here =
          let same : u ≡ exact.front = left ∙ append-nil exact.front in
          is_no_fault fault x (t ∷ after) (first_is tokens (Err fault) exact x u y v t after z n m (sym right) (here ∙ ap (λ l. l ++ t ∷ after) (sym same)))
      at_or_past x u y v (h ∷ hs) n m left right here =
          let same : h ≡ t = cc in
          no_further exact t after next x u hs n (left ∙ ap (λ k. exact.front ++ k ∷ hs) same)

  -- No spelling passes the end of the second part.
  stops_in_second : (tokens : List T) (x₀ : A) (rest : List T) (exact : IsExact {E = E} N more_first tokens (Ok (x₀, rest))) (answer : Answer T E B)
      (second : IsExact (M x₀) more rest answer)
      → (t : T) (after : List T) → rest_of answer ≡ t ∷ after → (y : B) (w z : List T) → Then N M y w → w ≡ (exact.front ++ second.front) ++ t ∷ z → ⊥
  stops_in_second tokens x₀ rest exact answer second t after next y w z spelled long =
      let x = spelled.0 in
      let u = spelled.1 in
      let v = spelled.2 in
      let left_over : rest ≡ second.front ++ t ∷ after = second.cut ∙ ap (λ l. second.front ++ l) next in
      let here : tokens ≡ (exact.front ++ second.front) ++ t ∷ after = exact.cut ∙ ap (λ l. exact.front ++ l) left_over ∙ sym (append_assoc exact.front second.front (t ∷ after)) in
      let parts : (exact.front ++ second.front) ++ t ∷ z ≡ u ++ v = sym long ∙ spelled.5 in
      elim (cuts (exact.front ++ second.front) (t ∷ z) u v parts) [
        | inl c ↦ at_or_past x u y v c.middle spelled.3 spelled.4 c.left c.right left_over here parts
        | inr c ↦
            let further : tokens ≡ u ++ c.head ∷ (c.tail ++ t ∷ after) = here ∙ ap (λ l. l ++ t ∷ after) c.left ∙ append_assoc u (c.head ∷ c.tail) (t ∷ after) in
            let read : ◌≡◌ {A = Answer T E A} (Ok (x₀, rest)) (Ok (x, c.head ∷ (c.tail ++ t ∷ after))) = first_is tokens (Ok (x₀, rest)) exact x u y v c.head (c.tail ++ t ∷ after) (c.tail ++ t ∷ z) spelled.3 spelled.4 c.right further in
            ends_second x u y v (c.head ∷ (c.tail ++ t ∷ after)) spelled.4 read further parts
      ]
    where
      ends_second : (x : A) (u : List T) (y : B) (v l : List T) → M x y v → ◌≡◌ {A = Answer T E A} (Ok (x₀, rest)) (Ok (x, l)) → tokens ≡ u ++ l → (exact.front ++ second.front) ++ t ∷ z ≡ u ++ v → ⊥
      ends_second x u y v l m read further parts =
          let value : x ≡ x₀ = sym (same_value x₀ x rest l read) in
          let tail : l ≡ rest = sym (same_rest x₀ x rest l read) in
          let begun : u ≡ exact.front = append_cancel_right u exact.front rest (sym (further ∙ ap (λ k. u ++ k) tail) ∙ exact.cut) in
          let moved : exact.front ++ (second.front ++ t ∷ z) ≡ exact.front ++ v = sym (append_assoc exact.front second.front (t ∷ z)) ∙ parts ∙ ap (λ k. k ++ v) begun in
          no_further second t after next y v z (subst (λ a. M a y v) value m) (sym (append_cancel_left exact.front (second.front ++ t ∷ z) v moved))

      at_or_past : (x : A) (u : List T) (y : B) (v middle : List T) → N x u → M x y v → u ≡ (exact.front ++ second.front) ++ middle → t ∷ z ≡ middle ++ v
          → rest ≡ second.front ++ t ∷ after → tokens ≡ (exact.front ++ second.front) ++ t ∷ after → (exact.front ++ second.front) ++ t ∷ z ≡ u ++ v → ⊥
      at_or_past x u y v [] n m left right left_over here parts =
          let same : u ≡ exact.front ++ second.front = left ∙ append-nil (exact.front ++ second.front) in
          let further : tokens ≡ u ++ t ∷ after = here ∙ ap (λ l. l ++ t ∷ after) (sym same) in
          let read : ◌≡◌ {A = Answer T E A} (Ok (x₀, rest)) (Ok (x, t ∷ after)) = first_is tokens (Ok (x₀, rest)) exact x u y v t after z n m (sym right) further in
          ends_second x u y v (t ∷ after) m read further parts
      at_or_past x u y v (h ∷ hs) n m left right left_over here parts =
          let same : h ≡ t = cc in
          no_further_within exact second.front t after left_over x u hs n (left ∙ append_assoc exact.front second.front (h ∷ hs) ∙ ap (λ k. exact.front ++ (second.front ++ k ∷ hs)) same)

  takes_second : (x₀ : A) (u : List T) → N x₀ u → (v : List T) (answer : Answer T E B) → Takes (M x₀) v answer → Takes (Then N M) (u ++ v) answer
  takes_second x₀ u n v (Ok y) m = (x₀, u, v, n, m, refl)
  takes_second x₀ u n v (Err fault) m = record { value = m.value; after = m.after; spelled = (x₀, u, v ++ m.after, n, m.spelled, append_assoc u v m.after) }

  -- A part and then the part that its value asks for. Two things are asked: a second part begins with no token
  -- that can go on a first one (or is empty, and `more` has those tokens), and each first part has a second.
  pub then : (tokens : List T) (first : Answer T E A) (next : A × List T → Answer T E B)
      → IsExact N more_first tokens first
      → ((x : A) (rest : List T) → first ≡ Ok (x, rest) → IsExact (M x) more rest (next (x, rest)))
      → IsExact (Then N M) more tokens (first >>= next)
  then tokens (Ok x) next exact second =
      let after = second x.0 x.1 refl in
      record {
        front = exact.front ++ after.front;
        cut = exact.cut ∙ ap (λ l. exact.front ++ l) after.cut ∙ sym (append_assoc exact.front after.front (rest_of (next x)));
        takes = takes_second x.0 exact.front exact.takes after.front (next x) after.takes;
        stops = λ t l e b. stops_in_second tokens x.0 x.1 exact (next x) after t l e b.value (((exact.front ++ after.front) ++ t ∷ []) ++ b.after) b.after b.spelled (append_assoc (exact.front ++ after.front) (t ∷ []) b.after);
        only = λ y w z spelled e far. only_of tokens (Ok x) next exact second y w z spelled e far;
      }
  then tokens (Err fault) next exact second =
      record {
        front = exact.front;
        cut = exact.cut;
        takes =
            let begun : Begins N exact.front = exact.takes in
            let m = goes_on begun.value (exact.front ++ begun.after) begun.spelled in
            record { value = m.value; after = begun.after ++ m.after; spelled = (begun.value, exact.front ++ begun.after, m.after, begun.spelled, m.spelled, sym (append_assoc exact.front begun.after m.after)) };
        stops = λ t l e b. stops_in_first tokens fault exact t l e b.value ((exact.front ++ t ∷ []) ++ b.after) b.after b.spelled (append_assoc exact.front (t ∷ []) b.after);
        only = λ y w z spelled e far. only_of tokens (Err fault) next exact second y w z spelled e far;
      }

-- No token goes on what ends by itself.
abbrev pub Never : {T : Type 0} → T → Type 0
Never t = ⊥

apart_never : {T : Type 0} (tokens : List T) → IsApart Never tokens
apart_never [] = tt
apart_never (t ∷ rest) = λ impossible. impossible

-- what is left after one token is shorter
shorter_after : {T E A : Type 0} (meaning : T → Option A) (kind : E) (tokens : List T) (x : A) (rest : List T) → meant_at meaning kind tokens ≡ Ok (x, rest) → length rest < length tokens
shorter_after meaning kind [] x rest e = absurd (is_no_fault (kind, []) x rest e)
shorter_after {T = T} {E = E} {A = A} meaning kind (t ∷ tokens) x rest e = by_meaning (meaning t) e
  where
    by_meaning : (m : Option A) → meant_as kind t tokens m ≡ Ok (x, rest) → length rest < length (t ∷ tokens)
    by_meaning None e = absurd (is_no_fault (kind, t ∷ tokens) x rest e)
    by_meaning (Some y) e = let same : tokens ≡ rest = same_rest {E = E} y x tokens rest e in let long : length tokens ≡ length rest = ap length same in omega arith

-- After one token that has a meaning. Asked: something may stand after it.
pub token_then : {T E A B : Type 0} (meaning : T → Option A) (kind : E) → Begins (Meant meaning) [] → (M : A → Spelling T B) (more : T → Type 0) → ((x : A) → Begins (M x) [])
    → (tokens : List T) (next : A × List T → Answer T E B) → ((x : A) (rest : List T) → length rest < length tokens → IsExact (M x) more rest (next (x, rest)))
    → IsExact (Then (Meant meaning) M) more tokens (meant_at meaning kind tokens >>= next)
token_then meaning kind some M more goes_on tokens next second =
    then (Meant meaning) M Never more (λ x y v z m far. apart_never (v ++ z)) (λ x u n. goes_on x) tokens (meant_at meaning kind tokens) next
    (meant meaning kind Never some tokens) (λ x rest e. second x rest (shorter_after meaning kind tokens x rest e))

-- A meaning that one token has.
pub record IsMeaningOf {T : Type 0} (token : T) (meaning : T → Option Unit) : Type 0 where
  pub has : meaning token ≡ Some tt
  pub alone : (t : T) (x : Unit {0}) → meaning t ≡ Some x → t ≡ token

-- After one fixed token. Asked: something may stand after it.
pub after : {T E A : Type 0} (token : T) (meaning : T → Option Unit) → IsMeaningOf token meaning → (kind : E) (M : Spelling T A) (more : T → Type 0) → Begins M []
    → (tokens : List T) (next : List T → Answer T E A) → ((rest : List T) → length rest < length tokens → IsExact M more rest (next rest))
    → IsExact (After token M) more tokens (meant_at meaning kind tokens >>= λ x. next x.1)
after {T = T} {A = A} token meaning means kind M more some tokens next exact =
    in_words (Then (Meant meaning) (λ x. M)) (After token M) more tokens (meant_at meaning kind tokens >>= λ x. next x.1) to back
    (token_then meaning kind (record { value = tt; after = token ∷ []; spelled = (token, means.has, refl) }) (λ x. M) more (λ x. some) tokens (λ x. next x.1) (λ x rest shorter. exact rest shorter))
  where
    to : (y : A) (w : List T) → Then (Meant meaning) (λ x. M) y w → After token M y w
    to y w (x, u, v, (t, is, one), m, e) = (v, m, e ∙ ap (λ l. l ++ v) (one ∙ ap (λ h. h ∷ []) (means.alone t x is)))

    back : (y : A) (w : List T) → After token M y w → Then (Meant meaning) (λ x. M) y w
    back y w (v, m, e) = (tt, token ∷ [], v, (token, means.has, refl), m, e)

-- Before a part that takes a token, none of which goes on the first part.
pub then_apart : {T E A B : Type 0} (N : Spelling T A) (M : A → Spelling T B) (more_first more : T → Type 0)
    → ((x : A) (y : B) → M x y [] → ⊥) → ((x : A) (y : B) (t : T) (v : List T) → M x y (t ∷ v) → ¬ more_first t) → ((x : A) → Begins (M x) [])
    → (tokens : List T) (first : Answer T E A) (next : A × List T → Answer T E B)
    → IsExact N more_first tokens first → ((x : A) (rest : List T) → first ≡ Ok (x, rest) → IsExact (M x) more rest (next (x, rest))) → IsExact (Then N M) more tokens (first >>= next)
then_apart {T = T} {A = A} {B = B} N M more_first more never_empty apart goes_on tokens first next exact second =
    then N M more_first more far (λ x u n. goes_on x) tokens first next exact second
  where
    far : (x : A) (y : B) (v z : List T) → M x y v → IsApart more z → IsApart more_first (v ++ z)
    far x y [] z m apart_z = absurd (never_empty x y m)
    far x y (t ∷ v) z m apart_z = apart x y t v m
