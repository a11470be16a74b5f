-- What a text begins with, and how a reader chooses by its next token.
use Rattle.std.proofs.Common.{◌≡◌, List, [], ◌∷◌, ◌++◌, Option, Some, None, Ok, Err, refl, sym, ap, subst, ◌∙◌, ◌⊎◌, inl, inr}
use Rattle.grammar.specs.Spelling.{Spelling, Begins, Nothing, Meant, Then}
use Rattle.grammar.specs.Reading.{Answer, ◌>>=◌, rest_of}
use Rattle.grammar.specs.Exact.{IsApart, Takes, IsExact}
use Rattle.grammar.proofs.Parts as parts
use Rattle.grammar.proofs.Parts.{SameStart, same_head, same_tail}
use Rattle.grammar.proofs.EveryInput.{Reads, in_sequence}

-- It begins with such a token.
abbrev pub Begun : {T : Type 0} → (T → Type 0) → List T → Type 0
Begun first [] = ⊥
Begun first (t ∷ w) = first t

-- a token with this meaning
abbrev pub HasMeaning : {T A : Type 0} → (T → Option A) → T → Type 0
HasMeaning {A = A} meaning t = (x : A) × (meaning t ≡ Some x)

pub meant_begun : {T A : Type 0} (meaning : T → Option A) (first : T → Type 0) → ((t : T) (x : A) → meaning t ≡ Some x → first t)
    → (x : A) (w : List T) → Meant meaning x w → Begun first w
meant_begun meaning first is x w (t, has, one) = subst (λ l. Begun first l) (sym one) (is t x has)

pub front_begun : {T : Type 0} (first : T → Type 0) (u v w : List T) → Begun first u → w ≡ u ++ v → Begun first w
front_begun first [] v w begun cut = absurd begun
front_begun first (t ∷ u) v w begun cut = subst (λ l. Begun first l) (sym cut) begun

pub widen_begun : {T : Type 0} (first wide : T → Type 0) → ((t : T) → first t → wide t) → (w : List T) → Begun first w → Begun wide w
widen_begun first wide within [] begun = absurd begun
widen_begun first wide within (t ∷ w) begun = within t begun

pub same_begun : {T : Type 0} (first : T → Type 0) (tokens w : List T) → SameStart tokens w → Begun first w → Begun first tokens
same_begun first tokens [] start begun = absurd begun
same_begun first [] (s ∷ w) start begun = absurd start
same_begun first (t ∷ rest) (s ∷ w) start begun = subst first (sym start) begun

pub apart_begun : {T : Type 0} (first more : T → Type 0) → ((t : T) → first t → ¬ more t) → (v z : List T) → Begun first v → IsApart more (v ++ z)
apart_begun first more kept [] z begun = absurd begun
apart_begun first more kept (t ∷ v) z begun = kept t begun

no_meaning : {A : Type 0} (x : A) → None ≡ Some x → ⊥
no_meaning x e = cc

-- a token with a meaning at the front of a text
pub first_meant : {T A : Type 0} (meaning : T → Option A) (x : A) (t : T) (w u v : List T) → Meant meaning x u → t ∷ w ≡ u ++ v → (meaning t ≡ Some x) × (v ≡ w)
first_meant meaning x t w u v (s, has, one) cut =
    let both : t ∷ w ≡ s ∷ v = cut ∙ ap (λ l. l ++ v) one in
    (ap meaning (same_head t s w v both) ∙ has, sym (same_tail t s w v both))

-- a text whose first part is a token takes one, and begins with it
pub takes_token : {T A : Type 0} (meaning : T → Option A) (x : A) (u v : List T) → Meant meaning x u → [] ≡ u ++ v → ⊥
takes_token {T = T} meaning x u v (t, is, one) cut = no_token v (cut ∙ ap (λ l. l ++ v) one)
  where
    no_token : (v : List T) → [] ≡ t ∷ v → ⊥
    no_token v e = cc

pub begins_with : {T A : Type 0} (meaning : T → Option A) (x : A) (first : T) (w u v : List T) → Meant meaning x u → first ∷ w ≡ u ++ v → meaning first ≡ Some x
begins_with meaning x first w u v meant cut = (first_meant meaning x first w u v meant cut).0

-- a part before a token that has a meaning and does not go on the part
pub before_token : {T E A B C : Type 0} (N : Spelling T A) (meaning : T → Option C) (M : A → C → Spelling T B) (more_first more : T → Type 0)
    → ((t : T) → more_first t → meaning t ≡ None)
    → (read : List T → Answer T E A) (next : A × List T → Answer T E B) → Reads N more_first read → ((x : A) → Reads (Then (Meant meaning) (M x)) more (λ rest. next (x, rest)))
    → Reads (Then N (λ x. Then (Meant meaning) (M x))) more (λ tokens. read tokens >>= next)
before_token {T = T} {B = B} {C = C} N meaning M more_first more apart read next first second =
    in_sequence N (λ x. Then (Meant meaning) (M x)) more_first more far read next first second
  where
    kept : (t : T) → HasMeaning meaning t → ¬ more_first t
    kept t (c, has) goes_on = no_meaning c (sym (apart t goes_on) ∙ has)

    far : (x : _) (y : B) (v z : List T) → Then (Meant meaning) (M x) y v → IsApart more z → IsApart more_first (v ++ z)
    far x y v z (c, a, b, one, m, cut) far_z =
        apart_begun (HasMeaning meaning) more_first kept v z (front_begun (HasMeaning meaning) a b v (meant_begun meaning (HasMeaning meaning) (λ t k has. (k, has)) c a one) cut)

-- A part that may be left out: then the value is this.
abbrev pub Optional : {T A : Type 0} → A → Spelling T A → Spelling T A
Optional value N x w = Nothing value x w ⊎ N x w

-- It is there.
pub taken : {T E A : Type 0} (value : A) (N : Spelling T A) (more : T → Type 0) (t : T) (rest : List T) (answer : Answer T E A)
    → more t → IsExact N more (t ∷ rest) answer → IsExact (Optional value N) more (t ∷ rest) answer
taken {T = T} {A = A} value N more t rest answer goes_on exact = parts.from_here N (Optional value N) more t rest answer (λ x w s. inr s) back (λ x s. goes_on) exact
  where
    back : (x : A) (w : List T) → Optional value N x (t ∷ w) → N x (t ∷ w)
    back x w (inl (same, empty)) = absurd (cc)
    back x w (inr s) = s

-- It is left out.
pub left_out : {T E A : Type 0} (value : A) (N : Spelling T A) (more first : T → Type 0) → ((x : A) (w : List T) → N x w → Begun first w)
    → (tokens : List T) → ¬ Begun first tokens → IsExact {E = E} (Optional value N) more tokens (Ok (value, tokens))
left_out {T = T} {A = A} value N more first begun tokens none = parts.skipped (Optional value N) more value (inl (refl, refl)) alone tokens refuses
  where
    alone : (x : A) → Optional value N x [] → x ≡ value
    alone x (inl (same, empty)) = same
    alone x (inr s) = absurd (begun x [] s)

    refuses : (t : T) (rest : List T) → tokens ≡ t ∷ rest → (x : A) (w : List T) → Optional value N x (t ∷ w) → ⊥
    refuses t rest e x w (inl (same, empty)) = cc
    refuses t rest e x w (inr s) = none (subst (λ l. Begun first l) (sym e) (begun x (t ∷ w) s))

takes_after : {T E A : Type 0} (N : Spelling T A) (t : T) (front : List T) (answer : Answer T E A) → Takes N (t ∷ front) answer → Takes (λ x w. N x (t ∷ w)) front answer
takes_after N t front (Ok x) n = n
takes_after N t front (Err fault) n = record { value = n.value; after = n.after; spelled = n.spelled }

-- What may stand after a token that some spelling begins with.
pub after_first : {T E A : Type 0} (N : Spelling T A) (more : T → Type 0) (t : T) (rest : List T) (answer : Answer T E A)
    → Begins N (t ∷ []) → IsExact N more (t ∷ rest) answer → IsExact (λ x w. N x (t ∷ w)) more rest answer
after_first {T = T} {A = A} N more t rest answer some exact = by_front exact.front exact.cut exact.takes exact.stops
  where
    by_front : (front : List T) → t ∷ rest ≡ front ++ rest_of answer → Takes N front answer
        → ((s : T) (after : List T) → rest_of answer ≡ s ∷ after → ¬ Begins N (front ++ s ∷ [])) → IsExact (λ x w. N x (t ∷ w)) more rest answer
    by_front [] cut takes stops = absurd (stops t rest (sym cut) some)
    by_front (s ∷ front) cut takes stops =
        let same : t ≡ s = same_head t s rest (front ++ rest_of answer) cut in
        record {
          front = front;
          cut = same_tail t s rest (front ++ rest_of answer) cut;
          takes = takes_after N t front answer (subst (λ h. Takes N (h ∷ front) answer) (sym same) takes);
          stops = λ h after e b.
              stops h after e (record { value = b.value; after = b.after; spelled = subst (λ k. N b.value (k ∷ (front ++ h ∷ []) ++ b.after)) same b.spelled });
          only = λ x u v spelled e far. exact.only x (t ∷ u) v spelled (ap (λ l. t ∷ l) e) far;
        }

-- One of two parts, which the first token tells apart.
abbrev pub Either : {T A : Type 0} → Spelling T A → Spelling T A → Spelling T A
Either N M x w = N x w ⊎ M x w

pub left_of : {T E A : Type 0} (N M : Spelling T A) (more first : T → Type 0) → ((x : A) (w : List T) → M x w → Begun first w) → Begins N []
    → (tokens : List T) (answer : Answer T E A) → ¬ Begun first tokens → IsExact N more tokens answer → IsExact (Either N M) more tokens answer
left_of {T = T} {A = A} N M more first begun some tokens answer none exact =
    parts.starting_so N (Either N M) more tokens answer (record { value = some.value; after = some.after; spelled = inl some.spelled }) (λ x w s start. inl s) back exact
  where
    back : (x : A) (w : List T) → Either N M x w → SameStart tokens w → N x w
    back x w (inl s) start = s
    back x w (inr s) start = absurd (none (same_begun first tokens w start (begun x w s)))

pub right_of : {T E A : Type 0} (N M : Spelling T A) (more first : T → Type 0) → ((x : A) (w : List T) → N x w → Begun first w) → Begins M []
    → (tokens : List T) (answer : Answer T E A) → ¬ Begun first tokens → IsExact M more tokens answer → IsExact (Either N M) more tokens answer
right_of {T = T} {A = A} N M more first begun some tokens answer none exact =
    parts.starting_so M (Either N M) more tokens answer (record { value = some.value; after = some.after; spelled = inr some.spelled }) (λ x w s start. inr s) back exact
  where
    back : (x : A) (w : List T) → Either N M x w → SameStart tokens w → M x w
    back x w (inl s) start = absurd (none (same_begun first tokens w start (begun x w s)))
    back x w (inr s) start = s
