-- A token-driven machine, read until no token leads on.
use Rattle.std.proofs.Common.{◌≡◌, List, [], ◌∷◌, ◌++◌, Option, Some, None, refl, sym, ap, subst, ◌∙◌}
use Rattle.grammar.specs.Spelling.{Begins, Leads, Driven}
use Rattle.grammar.specs.Reading.{rest_of, stands_or, run, meant_state, driven_at}
use Rattle.grammar.specs.Exact.{IsApart, Takes, IsExact}
use Rattle.grammar.proofs.Parts.{same_head}

some_is : {A : Type 0} (x y : A) → Some x ≡ Some y → x ≡ y
some_is x y e = cc

no_some : {A : Type 0} (x : A) → None ≡ Some x → ⊥
no_some x e = cc

no_token : {T : Type 0} (t : T) (after : List T) → [] ≡ t ∷ after → ⊥
no_token t after e = cc

-- where a machine stands: what led there, and that no token leads on
pub record Stands {T S : Type 0} (next : S → T → Option S) (s : S) (tokens : List T) (stand : S × List T) : Type 0 where
  pub front : List T
  pub cut : tokens ≡ front ++ stand.1
  pub led : Leads next s stand.0 front
  pub still : (t : T) (after : List T) → stand.1 ≡ t ∷ after → next stand.0 t ≡ None

stands_there : {T S : Type 0} (next : S → T → Option S) (s : S) (t : T) (rest : List T) (m : Option S) → next s t ≡ m
    → ((s : S) → Stands next s rest (run next s rest)) → Stands next s (t ∷ rest) (stands_or (s, t ∷ rest) m (λ m. run next m rest))
stands_there next s t rest None is further = record {
  front = [];
  cut = refl;
  led = refl;
  still = λ h after e. ap (next s) (sym (same_head t h rest after e)) ∙ is;
}
stands_there next s t rest (Some m) is further =
    let there = further m in
    record { front = t ∷ there.front; cut = ap (λ l. t ∷ l) there.cut; led = (m, is, there.led); still = there.still }

pub stands : {T S : Type 0} (next : S → T → Option S) (s : S) (tokens : List T) → Stands next s tokens (run next s tokens)
stands next s [] = record { front = []; cut = refl; led = refl; still = λ t after e. absurd (no_token t after e) }
stands next s (t ∷ rest) = stands_there next s t rest (next s t) refl (λ m. stands next m rest)

leads_on : {T S : Type 0} (next : S → T → Option S) (s m end : S) (u v : List T) → Leads next s m u → Leads next m end v → Leads next s end (u ++ v)
leads_on next s m end [] v first second = subst (λ k. Leads next k end v) (sym first) second
leads_on next s m end (t ∷ u) v first second = (first.0, first.1, leads_on next first.0 m end u v first.2 second)

parted : {T S : Type 0} (next : S → T → Option S) (s end : S) (u v : List T) → Leads next s end (u ++ v) → (m : S) × Leads next s m u × Leads next m end v
parted next s end [] v led = (s, refl, led)
parted next s end (t ∷ u) v led =
    let on = parted next led.0 end u v led.2 in
    (on.0, (led.0, led.1, on.1), on.2)

one_end : {T S : Type 0} (next : S → T → Option S) (s a b : S) (u : List T) → Leads next s a u → Leads next s b u → a ≡ b
one_end next s a b [] p q = sym p ∙ q
one_end {T = T} {S = S} next s a b (t ∷ u) p q =
    let same : p.0 ≡ q.0 = some_is p.0 q.0 (sym p.1 ∙ q.1) in
    one_end next q.0 a b u (subst (λ m. Leads next m a u) same p.2) q.2

module _ {T S E A : Type 0} (next : S → T → Option S) (meaning : S → Option A) (kind : E) (more : T → Type 0)
    (goes_on : (s : S) (t : T) (m : S) → next s t ≡ Some m → more t)
    (live : (s : S) → Begins (Driven next meaning s) []) where
  stays_at : (s : S) (v : List T) → IsApart more v → run next s v ≡ (s, v)
  stays_at s [] far = refl
  stays_at s (t ∷ v) far = stays_for (next s t) refl
    where
      stays_for : (m : Option S) → next s t ≡ m → stands_or (s, t ∷ v) m (λ k. run next k v) ≡ (s, t ∷ v)
      stays_for None is = refl
      stays_for (Some m) is = absurd (far (goes_on s t m is))

  run_through : (s end : S) (u v : List T) → Leads next s end u → IsApart more v → run next s (u ++ v) ≡ (end, v)
  run_through s end [] v led far = subst (λ k. run next s v ≡ (k, v)) led (stays_at s v far)
  run_through s end (t ∷ u) v led far = rw led.1 (run_through led.0 end u v led.2 far)

  takes_state : (start : S) (stand : S × List T) (front : List T) → Leads next start stand.0 front → (m : Option A) → meaning stand.0 ≡ m
      → Takes (Driven next meaning start) front (meant_state kind stand.1 m)
  takes_state start stand front led (Some x) is = (stand.0, led, is)
  takes_state start stand front led None is =
      let to_come = live stand.0 in
      record { value = to_come.value; after = to_come.after; spelled = (to_come.spelled.0, leads_on next start stand.0 to_come.spelled.0 front to_come.after led to_come.spelled.1, to_come.spelled.2) }

  rest_of_state : (rest : List T) (m : Option A) → rest_of (meant_state kind rest m) ≡ rest
  rest_of_state rest (Some x) = refl
  rest_of_state rest None = refl

  -- A machine is read exactly. Asked: a token that leads on in any state is one of `more`, and each state can come
  -- to one that has a meaning.
  pub driven : (start : S) (tokens : List T) → IsExact (Driven next meaning start) more tokens (driven_at next meaning kind start tokens)
  driven start tokens =
      let stand = run next start tokens in
      let there = stands next start tokens in
      record {
        front = there.front;
        cut = there.cut ∙ ap (λ l. there.front ++ l) (sym (rest_of_state stand.1 (meaning stand.0)));
        takes = takes_state start stand there.front there.led (meaning stand.0) refl;
        stops = λ t after e b.
            let parts = parted next start b.spelled.0 (there.front ++ t ∷ []) b.after b.spelled.1 in
            let before = parted next start parts.0 there.front (t ∷ []) parts.1 in
            let same : before.0 ≡ stand.0 = one_end next start before.0 stand.0 there.front before.1 there.led in
            let still : next stand.0 t ≡ None = there.still t after (sym (rest_of_state stand.1 (meaning stand.0)) ∙ e) in
            no_some before.2.0 (sym still ∙ ap (λ s. next s t) (sym same) ∙ before.2.1);
        only = λ x u v spelled e far.
            let stood : stand ≡ (spelled.0, v) = ap (run next start) e ∙ run_through start spelled.0 u v spelled.1 far in
            ap (λ (p : S × List T). meant_state kind p.1 (meaning p.0)) stood ∙ ap (meant_state kind v) spelled.2;
      }
