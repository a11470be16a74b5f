-- The longest front of bytes that pass a test, and what stands behind it.
use Rattle.std.proofs.Common.{◌≡◌, ◌≢◌, ℕ, ◌<◌, Bool, true, false, List, [], ◌∷◌, ◌++◌, refl, sym, ap, ◌∙◌, arith}
use Rattle.std.specs.List.{AllPass, prefix_len}
use Rattle.std.proofs.Math.Numerals.{one-add}
use Rattle.std.proofs.lemmas.List.{take-append-drop, length-take, get_or-take}
use Rattle.std.proofs.lemmas.List.Elements.{All-head, All-tail}
use Rattle.std.proofs.lemmas.List.Sums.{prefix_len_passes}
use Rattle.first_patterns.specs.Reading.{front, past}

-- the bytes do not begin with one that passes
abbrev pub Stops : (ℕ → Bool) → List ℕ → Type 0
Stops p [] = Unit {0}
Stops p (b ∷ bytes) = p b ≡ false

module _ (p : ℕ → Bool) where
  -- the two parts are the whole
  pub parts : (bytes : List ℕ) → bytes ≡ front p bytes ++ past p bytes
  unfolding front past
  parts bytes = sym (take-append-drop (prefix_len p bytes) bytes)

  -- the front passes
  pub front_passes : (bytes : List ℕ) → AllPass p (front p bytes)
  unfolding front
  front_passes bytes k d within =
      let n = prefix_len p bytes in
      let below : k < n = omega (arith, length-take n bytes) in
      rw (get_or-take n bytes k d below) (prefix_len_passes p bytes k d below)

  front_yes : (b : ℕ) (bytes : List ℕ) → p b ≡ true → front p (b ∷ bytes) ≡ b ∷ front p bytes
  unfolding front
  front_yes b bytes passes = rw (passes, one-add) refl

  front_no : (b : ℕ) (bytes : List ℕ) → p b ≡ false → front p (b ∷ bytes) ≡ []
  unfolding front
  front_no b bytes fails = rw fails refl

  past_yes : (b : ℕ) (bytes : List ℕ) → p b ≡ true → past p (b ∷ bytes) ≡ past p bytes
  unfolding past
  past_yes b bytes passes = rw (passes, one-add) refl

  past_no : (b : ℕ) (bytes : List ℕ) → p b ≡ false → past p (b ∷ bytes) ≡ b ∷ bytes
  unfolding past
  past_no b bytes fails = rw fails refl

  front_stopped : (bytes : List ℕ) → Stops p bytes → front p bytes ≡ []
  unfolding front
  front_stopped [] stops = refl
  front_stopped (b ∷ bytes) stops = front_no b bytes stops

  pub past_stopped : (bytes : List ℕ) → Stops p bytes → past p bytes ≡ bytes
  unfolding past
  past_stopped [] stops = refl
  past_stopped (b ∷ bytes) stops = past_no b bytes stops

  -- bytes that pass, before bytes that do not begin so
  pub front_again : (passing rest : List ℕ) → AllPass p passing → Stops p rest → front p (passing ++ rest) ≡ passing
  front_again [] rest passes stops = front_stopped rest stops
  front_again (b ∷ passing) rest passes stops =
      front_yes b (passing ++ rest) (All-head (λ x. p x ≡ true) b passing passes)
      ∙ ap (λ (xs : List ℕ). b ∷ xs) (front_again passing rest (All-tail (λ x. p x ≡ true) b passing passes) stops)

  pub past_again : (passing rest : List ℕ) → AllPass p passing → Stops p rest → past p (passing ++ rest) ≡ rest
  past_again [] rest passes stops = past_stopped rest stops
  past_again (b ∷ passing) rest passes stops =
      past_yes b (passing ++ rest) (All-head (λ x. p x ≡ true) b passing passes)
      ∙ past_again passing rest (All-tail (λ x. p x ≡ true) b passing passes) stops

  -- where what passes another test does not pass this one, a run of that stops this one
  pub stopped_by : (q : ℕ → Bool) → ((b : ℕ) → q b ≡ true → p b ≡ false) → (passing rest : List ℕ) → AllPass q passing → Stops p rest → Stops p (passing ++ rest)
  stopped_by q apart [] rest passes stops = stops
  stopped_by q apart (b ∷ passing) rest passes stops = apart b (All-head (λ x. q x ≡ true) b passing passes)

  pub stopped_by_some : (q : ℕ → Bool) → ((b : ℕ) → q b ≡ true → p b ≡ false) → (passing rest : List ℕ) → AllPass q passing → passing ≢ [] → Stops p (passing ++ rest)
  stopped_by_some q apart [] rest passes some = absurd (some refl)
  stopped_by_some q apart (b ∷ passing) rest passes some = apart b (All-head (λ x. q x ≡ true) b passing passes)
