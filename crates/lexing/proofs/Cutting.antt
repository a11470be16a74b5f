-- A source is cut in one way, up to where nothing begins; and where each piece moves on, it is cut up to there.
use Rattle.std.proofs.Common.{◌≡◌, ℕ, zero, suc, ◌-◌, ◌<◌, ◌≤◌, ◌⊎◌, inl, inr, List, [], ◌∷◌, ◌++◌, length, Option, Some, None, refl, sym, ap, ◌∙◌, subst, arith}
use Rattle.std.specs.List.{AllByRecursion}
use Rattle.std.proofs.lemmas.Bool.{cases_lt}
use Rattle.std.proofs.lemmas.List.{append-nil}
use Rattle.lexing.specs.Cuts.{Language, Cuts, done, separator, token, AreTokens, IsLexFault, HasOutcome, InOrder}

-- nothing begins there
pub record Stops {T : Type 0} (language : Language T) (source : List ℕ) (at : ℕ) : Type 0 where
  pub no_separator : language.separator_at source at ≡ None
  pub no_token : language.token_at source at ≡ None

-- separators and tokens have bytes, and these lie in the source
pub record Moves {T : Type 0} (language : Language T) : Type 0 where
  pub separator_ends : (source : List ℕ) (at to : ℕ) → at ≤ length source → language.separator_at source at ≡ Some to
      → (at < to) × (to ≤ length source)
  pub token_begins : (source : List ℕ) (at : ℕ) (t : T) → at ≤ length source → language.token_at source at ≡ Some t → (language.span_of t).from ≡ at
  pub token_ends : (source : List ℕ) (at : ℕ) (t : T) → at ≤ length source → language.token_at source at ≡ Some t
      → (at < (language.span_of t).to) × ((language.span_of t).to ≤ length source)

-- up to the place the source is cut into these tokens
pub record Reached {T : Type 0} (language : Language T) (source : List ℕ) (ts : List T) (at : ℕ) : Type 0 where
  pub cut : Cuts language source 0 ts at
  pub within : at ≤ length source

none_some : {X : Type 0} (o : Option X) (x : X) → o ≡ None → o ≡ Some x → ⊥
none_some o x n s = cc

same_some : {X : Type 0} (o : Option X) (x y : X) → o ≡ Some x → o ≡ Some y → x ≡ y
same_some o x y p q = cc

none_from_never : {X : Type 0} (o : Option X) → ((x : X) → o ≡ Some x → ⊥) → o ≡ None
none_from_never None never = refl
none_from_never (Some x) never = absurd (never x refl)

module _ {T : Type 0} {language : Language T} where
  pub cuts_further : (source : List ℕ) (a b c : ℕ) (ts us : List T) → Cuts language source a ts b → Cuts language source b us c
      → Cuts language source a (ts ++ us) c
  cuts_further source _ _ c _ us (done at) more = more
  cuts_further source _ _ c _ us (separator at next to ts is cut) more =
      separator at next c (ts ++ us) is (cuts_further source next to c ts us cut more)
  cuts_further source _ _ c _ us (token at to t ts none is cut) more =
      token at c t (ts ++ us) none is (cuts_further source (language.span_of t).to to c ts us cut more)

  pub one_cut : (source : List ℕ) (a b c : ℕ) (ts us : List T) → Cuts language source a ts b → Cuts language source a us c
      → Stops language source b → Stops language source c → (b ≡ c) × (ts ≡ us)
  one_cut source _ _ _ _ _ (done at) (done _) sb sc = (refl, refl)
  one_cut source _ _ _ _ _ (done at) (separator _ next to us is cut) sb sc =
      absurd (none_some (language.separator_at source at) next sb.no_separator is)
  one_cut source _ _ _ _ _ (done at) (token _ to u us none is cut) sb sc = absurd (none_some (language.token_at source at) u sb.no_token is)
  one_cut source _ _ _ _ _ (separator at next to ts is cut) (done _) sb sc =
      absurd (none_some (language.separator_at source at) next sc.no_separator is)
  one_cut source _ _ _ _ _ (separator at next to ts is cut) (separator _ next' to' us is' cut') sb sc =
      one_cut source next to to' ts us cut (subst (λ n. Cuts language source n us to') (same_some (language.separator_at source at) next' next is' is) cut') sb sc
  one_cut source _ _ _ _ _ (separator at next to ts is cut) (token _ to' u us none is' cut') sb sc =
      absurd (none_some (language.separator_at source at) next none is)
  one_cut source _ _ _ _ _ (token at to t ts none is cut) (done _) sb sc = absurd (none_some (language.token_at source at) t sc.no_token is)
  one_cut source _ _ _ _ _ (token at to t ts none is cut) (separator _ next' to' us is' cut') sb sc =
      absurd (none_some (language.separator_at source at) next' none is')
  one_cut source _ _ _ _ _ (token at to t ts none is cut) (token _ to' u us none' is' cut') sb sc =
      let same : u ≡ t = same_some (language.token_at source at) u t is' is in
      let p = one_cut source (language.span_of t).to to to' ts us cut (subst (λ v. Cuts language source (language.span_of v).to us to') same cut') sb sc in
      (p.0, ap (λ v. v ∷ ts) (sym same) ∙ ap (λ vs. u ∷ vs) p.1)

  stops_at : (source : List ℕ) (at : ℕ) → IsLexFault language source at → Stops language source at
  stops_at source at fault = record { no_separator = fault.no_separator; no_token = fault.no_token }

  pub one_fault : (source : List ℕ) (a b : ℕ) → IsLexFault language source a → IsLexFault language source b → a ≡ b
  one_fault source a b p q = (one_cut source 0 a b p.tokens q.tokens p.before q.before (stops_at source a p) (stops_at source b q)).0

  -- ---- one step more

  pub begun : (source : List ℕ) (ts : List T) → ts ≡ [] → Reached language source ts 0
  begun source ts e = subst (λ us. Reached language source us 0) (sym e) (record { cut = done 0; within = omega arith })

  pub whole : (source : List ℕ) (ts : List T) (at : ℕ) → Cuts language source 0 ts at → at ≤ length source → length source ≤ at
      → AreTokens language source ts
  whole source ts at cut le ge = let same : at ≡ length source = omega arith in subst (Cuts language source 0 ts) same cut

  module _ (moves : Moves language) where
    pub past_separator : (source : List ℕ) (ts : List T) (at to : ℕ) → Reached language source ts at → language.separator_at source at ≡ Some to
        → Reached language source ts to × (at < to)
    past_separator source ts at to reached is =
        let ends = moves.separator_ends source at to reached.within is in
        let cut = subst (λ us. Cuts language source 0 us to) (append-nil ts) (cuts_further source 0 at to ts [] reached.cut (separator at to to [] is (done to))) in
        (record { cut = cut; within = ends.1 }, ends.0)

    pub past_token : (source : List ℕ) (ts : List T) (at : ℕ) (t : T) → Reached language source ts at → language.separator_at source at ≡ None
        → language.token_at source at ≡ Some t
        → Reached language source (ts ++ t ∷ []) (language.span_of t).to × (at < (language.span_of t).to)
    past_token source ts at t reached none is =
        let to = (language.span_of t).to in
        let ends = moves.token_ends source at t reached.within is in
        (record { cut = cuts_further source 0 at to ts (t ∷ []) reached.cut (token at to t [] none is (done to)); within = ends.1 }, ends.0)

    nothing_at_end : (source : List ℕ) → Stops language source (length source)
    nothing_at_end source = record {
      no_separator = none_from_never (language.separator_at source (length source))
          (λ to e. let ends = moves.separator_ends source (length source) to (omega arith) e in omega (arith, ends));
      no_token = none_from_never (language.token_at source (length source))
          (λ t e. let ends = moves.token_ends source (length source) t (omega arith) e in omega (arith, ends));
    }

    pub same_tokens : (source : List ℕ) (ts us : List T) → AreTokens language source ts → AreTokens language source us → ts ≡ us
    same_tokens source ts us p q = (one_cut source 0 (length source) (length source) ts us p q (nothing_at_end source) (nothing_at_end source)).1

    pub no_tokens : (source : List ℕ) (at : ℕ) (ts : List T) → IsLexFault language source at → AreTokens language source ts → ⊥
    no_tokens source at ts fault tokens =
        let p = one_cut source 0 at (length source) fault.tokens ts fault.before tokens (stops_at source at fault) (nothing_at_end source) in
        omega (arith, p.0, fault.within)

    -- ---- each source has tokens or a fault

    at_end : (source : List ℕ) (ts : List T) (at : ℕ) → Reached language source ts at → length source ≤ at → HasOutcome language source
    at_end source ts at r ge = inl (ts, whole source ts at r.cut r.within ge)

    where_nothing_begins : (source : List ℕ) (ts : List T) (at : ℕ) → Reached language source ts at → language.separator_at source at ≡ None
        → language.token_at source at ≡ None → HasOutcome language source
    where_nothing_begins source ts at r s t = by (cases_lt at (length source)) where
      by : (at < length source) ⊎ (length source ≤ at) → HasOutcome language source
      by (inl lt) = inr (at, record { tokens = ts; before = r.cut; within = lt; no_separator = s; no_token = t })
      by (inr ge) = at_end source ts at r ge

    -- from a place that is reached, by steps that are no more than the bytes that are left
    outcome_from : (source : List ℕ) (left : ℕ) (ts : List T) (at : ℕ) → Reached language source ts at → length source - at ≤ left
        → HasOutcome language source
    outcome_from source zero ts at r few = at_end source ts at r (omega arith)
    outcome_from source (suc left) ts at r few =
        by (language.separator_at source at) (language.token_at source at) refl refl (λ us to later less. outcome_from source left us to later less) where
          by : (s : Option ℕ) (t : Option T) → language.separator_at source at ≡ s → language.token_at source at ≡ t
              → ((us : List T) (to : ℕ) → Reached language source us to → length source - to ≤ left → HasOutcome language source)
              → HasOutcome language source
          by (Some to) t p q later = let next = past_separator source ts at to r p in later ts to next.0 (omega (arith, next.1, next.0.within))
          by None (Some t) p q later =
              let next = past_token source ts at t r p q in
              later (ts ++ t ∷ []) (language.span_of t).to next.0 (omega (arith, next.1, next.0.within))
          by None None p q later = where_nothing_begins source ts at r p q

    pub outcome : (source : List ℕ) → HasOutcome language source
    outcome source = outcome_from source (length source) [] 0 (begun source [] refl) (omega arith)

    -- ---- where tokens stand

    later : (a b to : ℕ) (ts : List T) → a ≤ b → InOrder language.span_of b ts to → InOrder language.span_of a ts to
    later a b to [] le h = omega arith
    later a b to (t ∷ ts) le h = (omega (arith, h.0), h.1, h.2)

    cuts_in_order : (source : List ℕ) (a b : ℕ) (ts : List T) → Cuts language source a ts b → a ≤ length source → InOrder language.span_of a ts b
    cuts_in_order source _ _ _ (done at) le = omega arith
    cuts_in_order source _ _ _ (separator at next to ts is cut) le =
        let ends = moves.separator_ends source at next le is in
        later at next to ts (omega (arith, ends.0)) (cuts_in_order source next to ts cut ends.1)
    cuts_in_order source _ _ _ (token at to t ts none is cut) le =
        let begins = moves.token_begins source at t le is in
        let ends = moves.token_ends source at t le is in
        (omega (arith, begins), omega (arith, begins, ends.0), cuts_in_order source (language.span_of t).to to ts cut ends.1)

    pub tokens_in_order : (source : List ℕ) (ts : List T) → AreTokens language source ts → InOrder language.span_of 0 ts (length source)
    tokens_in_order source ts cut = cuts_in_order source 0 (length source) ts cut (omega arith)

    -- what holds of each token where it begins, holds of all
    module _ (P : List ℕ → T → Type 0) (holds : (source : List ℕ) (at : ℕ) (t : T) → at ≤ length source → language.token_at source at ≡ Some t → P source t) where
      all_cut : (source : List ℕ) (a b : ℕ) (ts : List T) → Cuts language source a ts b → a ≤ length source → AllByRecursion (P source) ts
      all_cut source _ _ _ (done at) le = tt
      all_cut source _ _ _ (separator at next to ts is cut) le = all_cut source next to ts cut (moves.separator_ends source at next le is).1
      all_cut source _ _ _ (token at to t ts none is cut) le =
          (holds source at t le is, all_cut source (language.span_of t).to to ts cut (moves.token_ends source at t le is).1)

      pub all_tokens : (source : List ℕ) (ts : List T) → AreTokens language source ts → AllByRecursion (P source) ts
      all_tokens source ts cut = all_cut source 0 (length source) ts cut (omega arith)
