-- Readers that are exact at each input of less than so many symbols, put together part by part.
use Rattle.std.proofs.Common.{◌≡◌, ℕ, ◌<◌, ◌≤◌, Bool, true, false, List, [], ◌∷◌, ◌++◌, length, Some, None, Ok, refl, sym, subst, arith}
use Rattle.std.specs.Prelude.{if◌then◌else◌}
use Rattle.grammar.specs.Spelling.{Spelling, Begins, Then, Mapped, Steps, Many, Item}
use Rattle.grammar.specs.Reading.{Answer, ◌>>=◌, and_item, item_step, more_at}
use Rattle.grammar.specs.Exact.{IsApart, IsExact}
use Rattle.grammar.proofs.Parts as parts
use Rattle.grammar.proofs.Sequence as sequences
use Rattle.grammar.proofs.Sequence.{Never}
use Rattle.grammar.proofs.Repetition.{repeated}
use Rattle.grammar.proofs.Chains.{items_of_steps, steps_of_items}
use Rattle.grammar.proofs.Items.{Added}
use Rattle.grammar.proofs.EveryInput.{Reads, some_sequence}
use Rattle.grammar.proofs.Starts.{Begun}

pub record ReadsBelow {T E A : Type 0} (bound : ℕ) (N : Spelling T A) (more : T → Type 0) (read : List T → Answer T E A) : Type 0 where
  pub some : Begins N []
  pub exact : (tokens : List T) → length tokens < bound → IsExact N more tokens (read tokens)

pub at_each : {T E A : Type 0} (bound : ℕ) (N : Spelling T A) (more : T → Type 0) (read : List T → Answer T E A) → Reads N more read → ReadsBelow bound N more read
at_each bound N more read reads = record { some = reads.some; exact = λ tokens below. reads.exact tokens }

apart_never : {T : Type 0} (tokens : List T) → IsApart Never tokens
apart_never [] = tt
apart_never (t ∷ rest) = λ impossible. impossible

-- a part, and then the part that its value asks for, whose first tokens don't go on the first
pub sequence : {T E A B : Type 0} (bound : ℕ) (N : Spelling T A) (M : A → Spelling T B) (more_first more : T → Type 0)
    → ((x : A) (y : B) (v z : List T) → M x y v → IsApart more z → IsApart more_first (v ++ z))
    → (read : List T → Answer T E A) (next : A × List T → Answer T E B) → ReadsBelow bound N more_first read → ((x : A) → ReadsBelow bound (M x) more (λ rest. next (x, rest)))
    → ReadsBelow bound (Then N M) more (λ tokens. read tokens >>= next)
sequence bound N M more_first more far read next first second = record {
  some = some_sequence N M first.some (λ x. (second x).some);
  exact = λ tokens below.
      sequences.then N M more_first more far (λ x u n. (second x).some) tokens (read tokens) next (first.exact tokens below)
      (λ x rest e. let le : length rest ≤ length tokens = parts.no_longer N more_first tokens (read tokens) (first.exact tokens below) x rest e in (second x).exact rest (omega arith));
}

-- after a part that ends by itself
pub free : {T E A B : Type 0} (bound : ℕ) (N : Spelling T A) (M : A → Spelling T B) (more : T → Type 0)
    → (read : List T → Answer T E A) (next : A × List T → Answer T E B) → ReadsBelow bound N Never read → ((x : A) → ReadsBelow bound (M x) more (λ rest. next (x, rest)))
    → ReadsBelow bound (Then N M) more (λ tokens. read tokens >>= next)
free bound N M more read next first second = sequence bound N M Never more (λ x y v z m far. apart_never (v ++ z)) read next first second

-- before a part that begins with a token that doesn't go on the first
pub before : {T E A B : Type 0} (bound : ℕ) (N : Spelling T A) (M : A → Spelling T B) (more_first more first : T → Type 0)
    → ((x : A) (y : B) (v : List T) → M x y v → Begun first v) → ((t : T) → first t → ¬ more_first t)
    → (read : List T → Answer T E A) (next : A × List T → Answer T E B) → ReadsBelow bound N more_first read → ((x : A) → ReadsBelow bound (M x) more (λ rest. next (x, rest)))
    → ReadsBelow bound (Then N M) more (λ tokens. read tokens >>= next)
before {T = T} {A = A} {B = B} bound N M more_first more first begun kept read next one second = sequence bound N M more_first more far read next one second
  where
    far_begun : (v z : List T) → Begun first v → IsApart more_first (v ++ z)
    far_begun [] z here = absurd here
    far_begun (t ∷ v) z here = kept t here

    far : (x : A) (y : B) (v z : List T) → M x y v → IsApart more z → IsApart more_first (v ++ z)
    far x y v z m apart = far_begun v z (begun x y v m)

-- a value seen by f
pub seen : {T E A B : Type 0} (bound : ℕ) (f : A → B) (N : Spelling T A) (more : T → Type 0) (read : List T → Answer T E A) → ReadsBelow bound N more read
    → ReadsBelow bound (Mapped f N) more (λ tokens. read tokens >>= λ x. Ok (f x.0, x.1))
seen bound f N more read reads = record {
  some = record { value = f reads.some.value; after = reads.some.after; spelled = (reads.some.value, reads.some.spelled, refl) };
  exact = λ tokens below. parts.mapped f N more tokens (read tokens) (reads.exact tokens below);
}

-- the same grammar in other words
pub in_words : {T E A : Type 0} (bound : ℕ) (N M : Spelling T A) (more : T → Type 0) (read : List T → Answer T E A)
    → ((x : A) (w : List T) → N x w → M x w) → ((x : A) (w : List T) → M x w → N x w) → ReadsBelow bound N more read → ReadsBelow bound M more read
in_words bound N M more read to back reads = record {
  some = record { value = reads.some.value; after = reads.some.after; spelled = to reads.some.value reads.some.after reads.some.spelled };
  exact = λ tokens below. parts.in_words N M more tokens (read tokens) to back (reads.exact tokens below);
}

-- items, as many as begin with such a token

looked_for : {X : Type 0} (b : Bool) (a answer : X) → (if b then Some a else None) ≡ Some answer → (b ≡ true) × (a ≡ answer)
looked_for true a answer e = (refl, cc)
looked_for false a answer e = absurd (cc)

not_looked_for : {X : Type 0} (b : Bool) (a : X) → (if b then Some a else None) ≡ None → b ≡ true → ⊥
not_looked_for true a e is = cc
not_looked_for false a e is = cc

module _ {T E A : Type 0} (bound : ℕ) (N : Spelling T A) (begins : T → Bool) (read : List T → Answer T E A) (more_item more : T → Type 0)
    (reads : ReadsBelow bound N more_item read)
    (never_empty : (x : A) → N x [] → ⊥)
    (begun : (x : A) (t : T) (w : List T) → N x (t ∷ w) → begins t ≡ true)
    (apart : (t : T) → begins t ≡ true → ¬ more_item t)
    (within : (t : T) → more_item t → more t)
    (wide : (t : T) → begins t ≡ true → more t) where
  one_item : (before : List A) (input : List T) → length input < bound → IsExact (Item N before) more_item input (and_item before (read input))
  one_item before input below =
      parts.in_words (Mapped (λ x. before ++ x ∷ []) N) (Item N before) more_item input (and_item before (read input))
      (λ now w s. (s.0, s.1, sym s.2)) (λ now w s. (s.0, s.1, sym s.2))
      (parts.mapped (λ x. before ++ x ∷ []) N more_item input (read input) (reads.exact input below))

  item_is : (before : List A) (input : List T) (answer : Answer T E (List A)) → length input < bound → item_step begins read before input ≡ Some answer
      → IsExact (Item N before) more_item input answer
  item_is before [] answer below e = absurd (cc)
  item_is before (t ∷ rest) answer below e =
      subst (λ a. IsExact (Item N before) more_item (t ∷ rest) a) (looked_for (begins t) (and_item before (read (t ∷ rest))) answer e).1 (one_item before (t ∷ rest) below)

  items_exact : (before : List A) (input : List T) → length input < bound → IsExact (Steps (Item N) before) more input (more_at begins read before input)
  items_exact before input below =
      repeated (Item N) (item_step begins read) more_item more
      (λ s m item. never_empty item.0 item.1) within
      (λ s m t w item. apart t (begun item.0 t w item.1))
      (λ s. refl)
      (λ s t rest answer e. wide t (looked_for (begins t) (and_item s (read (t ∷ rest))) answer e).0)
      (length input)
      (λ s tokens answer fits e. item_is s tokens answer (omega arith) e)
      (λ s t rest e m w item. not_looked_for (begins t) (and_item s (read (t ∷ rest))) e (begun item.0 t w item.1))
      (length input) before input (omega arith) (omega arith)

  pub items : ReadsBelow bound (Many N) more (more_at begins read [])
  items = record {
    some = record { value = []; after = []; spelled = refl };
    exact = λ input below.
        parts.in_words (Steps (Item N) []) (Many N) more input (more_at begins read [] input)
        (λ now w s. let (xs, same, many) = items_of_steps N [] now w s in subst (λ l. Many N l w) (sym same) many)
        (λ now w s. steps_of_items N [] now w s)
        (items_exact [] input below);
  }

  -- after those before
  pub items_added : (before : List A) → ReadsBelow bound (Added N before) more (more_at begins read before)
  items_added before = record {
    some = record { value = before ++ []; after = []; spelled = ([], refl, refl) };
    exact = λ input below.
        parts.in_words (Steps (Item N) before) (Added N before) more input (more_at begins read before input)
        (λ now w s. items_of_steps N before now w s)
        (λ now w s. subst (λ l. Steps (Item N) before l w) (sym s.1) (steps_of_items N before s.0 w s.2))
        (items_exact before input below);
  }
