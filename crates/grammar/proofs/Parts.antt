-- The parts of a production that are no sequence: nothing, one token, a map, and what the next token decides.
use Rattle.std.proofs.Common.{◌≡◌, List, [], ◌∷◌, ◌++◌, Option, Some, None, Ok, Err, refl, sym, ap, subst, ◌∙◌, ◌⊎◌, inl, inr, ◌≤◌, length, arith, length-append}
use Rattle.std.proofs.lemmas.List.{append-nil}
use Rattle.grammar.specs.Spelling.{Spelling, Begins, Nothing, Meant, Mapped}
use Rattle.grammar.specs.Reading.{Answer, rest_of, ◌>>=◌, meant_as, meant_at}
use Rattle.grammar.specs.Exact.{IsApart, Takes, IsExact}

nil_is_no_cons : {T : Type 0} (t : T) (l : List T) → t ∷ l ≡ [] → ⊥
nil_is_no_cons t l e = cc

no_shorter : {T : Type 0} (t s h : T) (l : List T) → t ∷ s ∷ l ≡ h ∷ [] → ⊥
no_shorter t s h l e = cc

pub same_head : {T : Type 0} (t s : T) (l k : List T) → t ∷ l ≡ s ∷ k → t ≡ s
same_head t s l k e = cc

pub same_tail : {T : Type 0} (t s : T) (l k : List T) → t ∷ l ≡ s ∷ k → l ≡ k
same_tail t s l k e = cc

-- one value and one rest, so one answer
pub read_is : {T E A : Type 0} (x y : A) (u v : List T) → x ≡ y → u ≡ v → ◌≡◌ {A = Answer T E A} (Ok (x, u)) (Ok (y, v))
read_is x y u v p q = rw (p, q) refl

-- Nothing is read exactly by taking no token.
pub nothing : {T E A : Type 0} (value : A) (more : T → Type 0) (tokens : List T) → IsExact {E = E} (Nothing value) more tokens (Ok (value, tokens))
nothing value more tokens = record {
  front = [];
  cut = refl;
  takes = (refl, refl);
  stops = λ t l e b. nil_is_no_cons t b.after b.spelled.1;
  only = λ x u v spelled e far. read_is value x tokens v (sym spelled.0) (e ∙ ap (λ l. l ++ v) spelled.1);
}

meant_token : {T E A : Type 0} (meaning : T → Option A) (kind : E) (more : T → Type 0) → Begins (Meant meaning) [] → (t : T) (rest : List T) (m : Option A) → meaning t ≡ m
    → IsExact (Meant meaning) more (t ∷ rest) (meant_as kind t rest m)
meant_token {T = T} {A = A} meaning kind more some t rest (Some x) is = record {
  front = t ∷ [];
  cut = refl;
  takes = (t, is, refl);
  stops = λ s l e b. no_shorter t s b.spelled.0 b.after b.spelled.2;
  only = λ y u v spelled e far.
      let both : t ∷ rest ≡ spelled.0 ∷ v = e ∙ ap (λ l. l ++ v) spelled.2 in
      let value : ◌≡◌ {A = Option A} (Some x) (Some y) = sym is ∙ ap meaning (same_head t spelled.0 rest v both) ∙ spelled.1 in
      read_is x y rest v (cc) (same_tail t spelled.0 rest v both);
}
meant_token {T = T} {A = A} meaning kind more some t rest None is = record {
  front = [];
  cut = refl;
  takes = some;
  stops = λ s l e b.
      let here : s ∷ b.after ≡ b.spelled.0 ∷ [] = b.spelled.2 in
      let same : t ≡ b.spelled.0 = same_head t s rest l e ∙ same_head s b.spelled.0 b.after [] here in
      no_meaning b.value (sym is ∙ ap meaning same ∙ b.spelled.1);
  only = λ y u v spelled e far.
      let both : t ∷ rest ≡ spelled.0 ∷ v = e ∙ ap (λ l. l ++ v) spelled.2 in
      absurd (no_meaning y (sym is ∙ ap meaning (same_head t spelled.0 rest v both) ∙ spelled.1));
}
  where
    no_meaning : {A : Type 0} (x : A) → None ≡ Some x → ⊥
    no_meaning x e = cc

-- One token that has a meaning. Asked: some token has one.
pub meant : {T E A : Type 0} (meaning : T → Option A) (kind : E) (more : T → Type 0) → Begins (Meant meaning) [] → (tokens : List T) → IsExact (Meant meaning) more tokens (meant_at meaning kind tokens)
meant meaning kind more some [] = record {
  front = [];
  cut = refl;
  takes = some;
  stops = λ s l e b. nil_is_no_cons s l (sym e);
  only = λ y u v spelled e far. absurd (nil_is_no_cons spelled.0 v (sym (e ∙ ap (λ l. l ++ v) spelled.2)));
}
meant meaning kind more some (t ∷ rest) = meant_token meaning kind more some t rest (meaning t) refl

takes_as : {T E A : Type 0} (N M : Spelling T A) → ((x : A) (w : List T) → N x w → M x w) → (front : List T) (answer : Answer T E A) → Takes N front answer → Takes M front answer
takes_as N M to front (Ok x) n = to x.0 front n
takes_as N M to front (Err fault) n = record { value = n.value; after = n.after; spelled = to n.value (front ++ n.after) n.spelled }

-- The same grammar in other words.
pub in_words : {T E A : Type 0} (N M : Spelling T A) (more : T → Type 0) (tokens : List T) (answer : Answer T E A)
    → ((x : A) (w : List T) → N x w → M x w) → ((x : A) (w : List T) → M x w → N x w) → IsExact N more tokens answer → IsExact M more tokens answer
in_words N M more tokens answer to back exact = record {
  front = exact.front;
  cut = exact.cut;
  takes = takes_as N M to exact.front answer exact.takes;
  stops = λ t l e b. exact.stops t l e (record { value = b.value; after = b.after; spelled = back b.value ((exact.front ++ t ∷ []) ++ b.after) b.spelled });
  only = λ x u v spelled e far. exact.only x u v (back x u spelled) e far;
}

pub apart_within : {T : Type 0} (more wide : T → Type 0) → ((t : T) → more t → wide t) → (tokens : List T) → IsApart wide tokens → IsApart more tokens
apart_within more wide within [] far = tt
apart_within more wide within (t ∷ rest) far = λ m. far (within t m)

-- More tokens may be counted as going on.
pub widened : {T E A : Type 0} (N : Spelling T A) (more wide : T → Type 0) (tokens : List T) (answer : Answer T E A)
    → ((t : T) → more t → wide t) → IsExact N more tokens answer → IsExact N wide tokens answer
widened N more wide tokens answer within exact = record {
  front = exact.front;
  cut = exact.cut;
  takes = exact.takes;
  stops = exact.stops;
  only = λ x u v spelled e far. exact.only x u v spelled e (apart_within more wide within v far);
}

takes_from : {T E A : Type 0} (N K : Spelling T A) (t : T) → ((x : A) (w : List T) → K x w → N x (t ∷ w)) → (front : List T) (answer : Answer T E A) → Takes K front answer → Takes N (t ∷ front) answer
takes_from N K t to front (Ok x) n = to x.0 front n
takes_from N K t to front (Err fault) n = record { value = n.value; after = n.after; spelled = to n.value (front ++ n.after) n.spelled }

-- What the next token decides: K is what may stand after t, and its answer is the answer. Asked: K is N after t,
-- and t goes on where N may be empty.
pub from_token : {T E A : Type 0} (N K : Spelling T A) (more : T → Type 0) (t : T) (rest : List T) (answer : Answer T E A)
    → ((x : A) (w : List T) → K x w → N x (t ∷ w)) → ((x : A) (w : List T) → N x (t ∷ w) → K x w) → ((x : A) → N x [] → more t)
    → IsExact K more rest answer → IsExact N more (t ∷ rest) answer
from_token {T = T} {A = A} N K more t rest answer to back empty exact = record {
  front = t ∷ exact.front;
  cut = ap (λ l. t ∷ l) exact.cut;
  takes = takes_from N K t to exact.front answer exact.takes;
  stops = λ s l e b. exact.stops s l e (record { value = b.value; after = b.after; spelled = back b.value ((exact.front ++ s ∷ []) ++ b.after) b.spelled });
  only = λ x u v spelled e far. only_from x u v spelled e far;
}
  where
    only_from : (x : A) (u v : List T) → N x u → t ∷ rest ≡ u ++ v → IsApart more v → answer ≡ Ok (x, v)
    only_from x [] v spelled e far = absurd (subst (λ l. IsApart more l) (sym e) far (empty x spelled))
    only_from x (s ∷ u) v spelled e far =
        let same : s ≡ t = sym (same_head t s rest (u ++ v) e) in
        exact.only x u v (back x u (subst (λ h. N x (h ∷ u)) same spelled)) (same_tail t s rest (u ++ v) e) far

-- The same grammar in other words, from the next token on: what N spells M spells, and what M spells beginning
-- with that token N spells.
pub from_here : {T E A : Type 0} (N M : Spelling T A) (more : T → Type 0) (t : T) (rest : List T) (answer : Answer T E A)
    → ((x : A) (w : List T) → N x w → M x w) → ((x : A) (w : List T) → M x (t ∷ w) → N x (t ∷ w)) → ((x : A) → M x [] → more t)
    → IsExact N more (t ∷ rest) answer → IsExact M more (t ∷ rest) answer
from_here {T = T} {A = A} N M more t rest answer to back empty exact = record {
  front = exact.front;
  cut = exact.cut;
  takes = takes_as N M to exact.front answer exact.takes;
  stops = λ s l e b. stops_here exact.front s l (exact.cut ∙ ap (λ k. exact.front ++ k) e) b.value b.after b.spelled (exact.stops s l e);
  only = only_here;
}
  where
    stops_here : (front : List T) (s : T) (l : List T) → t ∷ rest ≡ front ++ s ∷ l → (x : A) (after : List T) → M x ((front ++ s ∷ []) ++ after) → ¬ Begins N (front ++ s ∷ []) → ⊥
    stops_here [] s l e x after spelled refuted =
        let same : s ≡ t = sym (same_head t s rest l e) in
        refuted (record { value = x; after = after; spelled = subst (λ h. N x (h ∷ after)) (sym same) (back x after (subst (λ h. M x (h ∷ after)) same spelled)) })
    stops_here (h ∷ front) s l e x after spelled refuted =
        let same : h ≡ t = sym (same_head t h rest (front ++ s ∷ l) e) in
        refuted (record { value = x; after = after; spelled = subst (λ k. N x (k ∷ (front ++ s ∷ []) ++ after)) (sym same) (back x ((front ++ s ∷ []) ++ after) (subst (λ k. M x (k ∷ (front ++ s ∷ []) ++ after)) same spelled)) })

    only_here : (x : A) (u v : List T) → M x u → t ∷ rest ≡ u ++ v → IsApart more v → answer ≡ Ok (x, v)
    only_here x [] v spelled e far = absurd (subst (λ l. IsApart more l) (sym e) far (empty x spelled))
    only_here x (s ∷ u) v spelled e far =
        let same : s ≡ t = sym (same_head t s rest (u ++ v) e) in
        exact.only x (s ∷ u) v (subst (λ h. N x (h ∷ u)) (sym same) (back x u (subst (λ h. M x (h ∷ u)) same spelled))) e far

-- The other text begins with the token that the input begins with, if either begins with one.
abbrev pub SameStart : {T : Type 0} → List T → List T → Type 0
SameStart [] [] = Unit {0}
SameStart [] (s ∷ w) = ⊥
SameStart (t ∷ rest) [] = Unit {0}
SameStart (t ∷ rest) (s ∷ w) = t ≡ s

starts_empty : {T : Type 0} (tokens : List T) → SameStart tokens []
starts_empty [] = tt
starts_empty (t ∷ rest) = tt

-- a front of the tokens begins as they do, and so does what it is the front of
starts_front : {T : Type 0} (tokens u v z : List T) → tokens ≡ u ++ v → u ≡ [] ⊎ SameStart tokens (u ++ z)
starts_front tokens [] v z e = inl refl
starts_front [] (s ∷ u) v z e = absurd (nil_is_no_cons s (u ++ v) (sym e))
starts_front (t ∷ rest) (s ∷ u) v z e = inr (same_head t s rest (u ++ v) e)

starts_itself : {T : Type 0} (tokens u v : List T) → tokens ≡ u ++ v → SameStart tokens u
starts_itself tokens [] v e = starts_empty tokens
starts_itself [] (s ∷ u) v e = absurd (nil_is_no_cons s (u ++ v) (sym e))
starts_itself (t ∷ rest) (s ∷ u) v e = same_head t s rest (u ++ v) e

-- The same grammar in other words, for what begins as the input does. Asked: the two say the same of it, and
-- something is spelled.
pub starting_so : {T E A : Type 0} (N M : Spelling T A) (more : T → Type 0) (tokens : List T) (answer : Answer T E A) → Begins M []
    → ((x : A) (w : List T) → N x w → SameStart tokens w → M x w) → ((x : A) (w : List T) → M x w → SameStart tokens w → N x w)
    → IsExact N more tokens answer → IsExact M more tokens answer
starting_so {T = T} {E = E} {A = A} N M more tokens answer some to back exact = record {
  front = exact.front;
  cut = exact.cut;
  takes = takes_so exact.front answer (λ z. starts_front tokens exact.front (rest_of answer) z exact.cut) exact.takes;
  stops = λ s l e b. stops_so exact.front tokens s l (exact.cut ∙ ap (λ k. exact.front ++ k) e) b.value b.after (λ start. back b.value ((exact.front ++ s ∷ []) ++ b.after) b.spelled start) (exact.stops s l e);
  only = λ x u v spelled e far. exact.only x u v (back x u spelled (starts_itself tokens u v e)) e far;
}
  where
    takes_so : (front : List T) (read : Answer T E A) → ((z : List T) → front ≡ [] ⊎ SameStart tokens (front ++ z)) → Takes N front read → Takes M front read
    takes_so front (Ok x) start n = ok_so (start [])
      where
        ok_so : front ≡ [] ⊎ SameStart tokens (front ++ []) → M x.0 front
        ok_so (inl empty) = to x.0 front n (subst (λ l. SameStart tokens l) (sym empty) (starts_empty tokens))
        ok_so (inr begun) = to x.0 front n (subst (λ l. SameStart tokens l) (append-nil front) begun)
    takes_so front (Err fault) start n = err_so (start n.after)
      where
        err_so : front ≡ [] ⊎ SameStart tokens (front ++ n.after) → Begins M front
        err_so (inl empty) = subst (λ l. Begins M l) (sym empty) some
        err_so (inr begun) = record { value = n.value; after = n.after; spelled = to n.value (front ++ n.after) n.spelled begun }

    stops_so : (front input : List T) (s : T) (l : List T) → input ≡ front ++ s ∷ l → (x : A) (after : List T)
        → (SameStart input ((front ++ s ∷ []) ++ after) → N x ((front ++ s ∷ []) ++ after)) → ¬ Begins N (front ++ s ∷ []) → ⊥
    stops_so front [] s l e x after spelled refuted = nil_is_no_front front s l e
      where
        nil_is_no_front : (front : List T) (s : T) (l : List T) → [] ≡ front ++ s ∷ l → ⊥
        nil_is_no_front [] s l e = cc
        nil_is_no_front (h ∷ front) s l e = cc
    stops_so [] (t ∷ rest) s l e x after spelled refuted = refuted (record { value = x; after = after; spelled = spelled (same_head t s rest l e) })
    stops_so (h ∷ front) (t ∷ rest) s l e x after spelled refuted =
        refuted (record { value = x; after = after; spelled = spelled (same_head t h rest (front ++ s ∷ l) e) })

-- No token is taken where none can begin. The value is the only one that no token spells.
pub skipped : {T E A : Type 0} (N : Spelling T A) (more : T → Type 0) (value : A) → N value [] → ((x : A) → N x [] → x ≡ value)
    → (tokens : List T) → ((t : T) (rest : List T) → tokens ≡ t ∷ rest → (x : A) (w : List T) → N x (t ∷ w) → ⊥) → IsExact {E = E} N more tokens (Ok (value, tokens))
skipped {T = T} {E = E} {A = A} N more value empty unique tokens refuses = record {
  front = [];
  cut = refl;
  takes = empty;
  stops = λ t l e b. refuses t l e b.value b.after b.spelled;
  only = only_empty;
}
  where
    only_empty : (x : A) (u v : List T) → N x u → tokens ≡ u ++ v → IsApart more v → ◌≡◌ {A = Answer T E A} (Ok (value, tokens)) (Ok (x, v))
    only_empty x [] v spelled e far = read_is value x tokens v (sym (unique x spelled)) e
    only_empty x (s ∷ u) v spelled e far = absurd (refuses s (u ++ v) e x u spelled)

-- A fault at the next token, with which nothing begins, or at the end. Asked: something is spelled, nothing without a
-- token unless the next one goes on, and nothing from that token on.
pub refused : {T E A : Type 0} (N : Spelling T A) (more : T → Type 0) (kind : E) → Begins N []
    → (tokens : List T) → ((x : A) → N x [] → IsApart more tokens → ⊥) → ((t : T) (rest : List T) → tokens ≡ t ∷ rest → (x : A) (w : List T) → N x (t ∷ w) → ⊥)
    → IsExact N more tokens (Err (kind, tokens))
refused {T = T} {E = E} {A = A} N more kind some tokens no_empty refuses = record {
  front = [];
  cut = refl;
  takes = some;
  stops = λ t l e b. refuses t l e b.value b.after b.spelled;
  only = only_none;
}
  where
    only_none : (x : A) (u v : List T) → N x u → tokens ≡ u ++ v → IsApart more v → ◌≡◌ {A = Answer T E A} (Err (kind, tokens)) (Ok (x, v))
    only_none x [] v spelled e far = absurd (no_empty x spelled (subst (λ l. IsApart more l) (sym e) far))
    only_none x (s ∷ u) v spelled e far = absurd (refuses s (u ++ v) e x u spelled)

takes_mapped : {T E A B : Type 0} (f : A → B) (N : Spelling T A) (front : List T) (answer : Answer T E A) → Takes N front answer → Takes (Mapped f N) front (answer >>= λ x. Ok (f x.0, x.1))
takes_mapped f N front (Ok x) n = (x.0, n, refl)
takes_mapped f N front (Err fault) n = record { value = f n.value; after = n.after; spelled = (n.value, n.spelled, refl) }

rest_mapped : {T E A B : Type 0} (f : A → B) (answer : Answer T E A) → rest_of (answer >>= λ x. Ok (f x.0, x.1)) ≡ rest_of answer
rest_mapped f (Ok x) = refl
rest_mapped f (Err fault) = refl

-- A value seen by f.
pub mapped : {T E A B : Type 0} (f : A → B) (N : Spelling T A) (more : T → Type 0) (tokens : List T) (answer : Answer T E A)
    → IsExact N more tokens answer → IsExact (Mapped f N) more tokens (answer >>= λ x. Ok (f x.0, x.1))
mapped {T = T} {E = E} {A = A} {B = B} f N more tokens answer exact = record {
  front = exact.front;
  cut = exact.cut ∙ ap (λ l. exact.front ++ l) (sym (rest_mapped f answer));
  takes = takes_mapped f N exact.front answer exact.takes;
  stops = λ t l e b. exact.stops t l (sym (rest_mapped f answer) ∙ e) (record { value = b.spelled.0; after = b.after; spelled = b.spelled.1 });
  only = only_mapped;
}
  where
    only_mapped : (y : B) (u v : List T) → Mapped f N y u → tokens ≡ u ++ v → IsApart more v → (answer >>= λ x. Ok (f x.0, x.1)) ≡ Ok (y, v)
    only_mapped y u v spelled e far =
        ap (λ r. r >>= λ x. Ok (f x.0, x.1)) (exact.only spelled.0 u v spelled.1 e far) ∙ read_is (f spelled.0) y v v spelled.2 refl

-- What an exact answer leaves is no longer than what it was given.
pub no_longer : {T E A : Type 0} (N : Spelling T A) (more : T → Type 0) (tokens : List T) (answer : Answer T E A) → IsExact N more tokens answer
    → (x : A) (rest : List T) → answer ≡ Ok (x, rest) → length rest ≤ length tokens
no_longer {T = T} {E = E} {A = A} N more tokens answer exact x rest e =
    let same : tokens ≡ exact.front ++ rest = exact.cut ∙ ap (λ (a : Answer T E A). exact.front ++ rest_of a) e in
    let long : length tokens ≡ length (exact.front ++ rest) = ap length same in
    omega (arith, length-append exact.front rest)
