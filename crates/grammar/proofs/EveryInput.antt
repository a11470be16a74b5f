-- Readers that are exact at every input, put together part by part.
use Rattle.std.proofs.Common.{List, [], ◌∷◌, ◌++◌, Option, Ok, refl}
use Rattle.grammar.specs.Spelling.{Spelling, Begins, Nothing, Meant, Then, Mapped}
use Rattle.grammar.specs.Reading.{Answer, ◌>>=◌, meant_at}
use Rattle.grammar.specs.Exact.{IsApart, IsExact}
use Rattle.grammar.proofs.Parts as parts
use Rattle.grammar.proofs.Sequence as sequences
use Rattle.grammar.proofs.Sequence.{Never}

-- A reader answers exactly at every input, and something is spelled.
pub record Reads {T E A : Type 0} (N : Spelling T A) (more : T → Type 0) (read : List T → Answer T E A) : Type 0 where
  pub some : Begins N []
  pub exact : (tokens : List T) → IsExact N more tokens (read tokens)

-- no token, for one value
pub nothing : {T E A : Type 0} (value : A) (more : T → Type 0) → Reads {E = E} (Nothing value) more (λ tokens. Ok (value, tokens))
nothing value more = record {
  some = record { value = value; after = []; spelled = (refl, refl) };
  exact = λ tokens. parts.nothing value more tokens;
}

-- a token that has a meaning
pub one_token : {T E A : Type 0} (meaning : T → Option A) (kind : E) (more : T → Type 0) → Begins (Meant meaning) [] → Reads (Meant meaning) more (λ tokens. meant_at meaning kind tokens)
one_token meaning kind more some = record { some = some; exact = λ tokens. parts.meant meaning kind more some tokens }

-- a value seen by f
pub seen_by : {T E A B : Type 0} (f : A → B) (N : Spelling T A) (more : T → Type 0) (read : List T → Answer T E A) → Reads N more read
    → Reads (Mapped f N) more (λ tokens. read tokens >>= λ x. Ok (f x.0, x.1))
seen_by f N more read reads = record {
  some = record { value = f reads.some.value; after = reads.some.after; spelled = (reads.some.value, reads.some.spelled, refl) };
  exact = λ tokens. parts.mapped f N more tokens (read tokens) (reads.exact tokens);
}

-- a part and its second part are spelled
pub some_sequence : {T A B : Type 0} (N : Spelling T A) (M : A → Spelling T B) → Begins N [] → ((x : A) → Begins (M x) []) → Begins (Then N M) []
some_sequence N M first second =
    let next = second first.value in
    record { value = next.value; after = first.after ++ next.after; spelled = (first.value, first.after, next.after, first.spelled, next.spelled, refl) }

-- a part, and then the part that its value asks for, whose first tokens don't go on the first
pub in_sequence : {T E A B : Type 0} (N : Spelling T A) (M : A → Spelling T B) (more_first more : T → Type 0)
    → ((x : A) (y : B) (v z : List T) → M x y v → IsApart more z → IsApart more_first (v ++ z))
    → (read : List T → Answer T E A) (next : A × List T → Answer T E B) → Reads N more_first read → ((x : A) → Reads (M x) more (λ rest. next (x, rest)))
    → Reads (Then N M) more (λ tokens. read tokens >>= next)
in_sequence N M more_first more far read next first second = record {
  some = some_sequence N M first.some (λ x. (second x).some);
  exact = λ tokens. sequences.then N M more_first more far (λ x u n. (second x).some) tokens (read tokens) next (first.exact tokens) (λ x rest e. (second x).exact rest);
}

-- a part before one that takes a token, which does not go on the first
pub apart_before : {T E A B : Type 0} (N : Spelling T A) (M : A → Spelling T B) (more_first more : T → Type 0)
    → ((x : A) (y : B) → M x y [] → ⊥) → ((x : A) (y : B) (t : T) (v : List T) → M x y (t ∷ v) → ¬ more_first t)
    → (read : List T → Answer T E A) (next : A × List T → Answer T E B) → Reads N more_first read → ((x : A) → Reads (M x) more (λ rest. next (x, rest)))
    → Reads (Then N M) more (λ tokens. read tokens >>= next)
apart_before N M more_first more never_empty apart read next first second = record {
  some = some_sequence N M first.some (λ x. (second x).some);
  exact = λ tokens.
      sequences.then_apart N M more_first more never_empty apart (λ x. (second x).some) tokens (read tokens) next (first.exact tokens)
      (λ x rest e. (second x).exact rest);
}

apart_never : {T : Type 0} (tokens : List T) → IsApart Never tokens
apart_never [] = tt
apart_never (t ∷ rest) = λ impossible. impossible

-- after a part that ends by itself
pub after_free : {T E A B : Type 0} (N : Spelling T A) (M : A → Spelling T B) (more : T → Type 0)
    → (read : List T → Answer T E A) (next : A × List T → Answer T E B) → Reads N Never read → ((x : A) → Reads (M x) more (λ rest. next (x, rest)))
    → Reads (Then N M) more (λ tokens. read tokens >>= next)
after_free N M more read next first second = in_sequence N M Never more (λ x y v z m far. apart_never (v ++ z)) read next first second

-- after one token that has a meaning
pub after_token : {T E A B : Type 0} (meaning : T → Option A) (kind : E) → Begins (Meant meaning) [] → (M : A → Spelling T B) (more : T → Type 0)
    → (next : A × List T → Answer T E B) → ((x : A) → Reads (M x) more (λ rest. next (x, rest)))
    → Reads (Then (Meant meaning) M) more (λ tokens. meant_at meaning kind tokens >>= next)
after_token meaning kind some M more next second =
    after_free (Meant meaning) M more (λ tokens. meant_at meaning kind tokens) next (one_token meaning kind Never some) second

-- the same grammar in other words
pub in_words : {T E A : Type 0} (N M : Spelling T A) (more : T → Type 0) (read : List T → Answer T E A)
    → ((x : A) (w : List T) → N x w → M x w) → ((x : A) (w : List T) → M x w → N x w) → Reads N more read → Reads M more read
in_words N M more read to back reads = record {
  some = record { value = reads.some.value; after = reads.some.after; spelled = to reads.some.value reads.some.after reads.some.spelled };
  exact = λ tokens. parts.in_words N M more tokens (read tokens) to back (reads.exact tokens);
}

-- more tokens counted as going on
pub widened : {T E A : Type 0} (N : Spelling T A) (more wide : T → Type 0) (read : List T → Answer T E A) → ((t : T) → more t → wide t) → Reads N more read → Reads N wide read
widened N more wide read within reads = record { some = reads.some; exact = λ tokens. parts.widened N more wide tokens (read tokens) within (reads.exact tokens) }
