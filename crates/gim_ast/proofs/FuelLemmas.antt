-- More fuel changes no outcome but Running.
use Rattle.std.proofs.Common.{◌≡◌, ℕ, zero, suc, ◌+◌, ◌-◌, ◌≤◌, List, refl, sym, subst, ◌∙◌, ◌⊎◌, inl, inr, arith}
use Rattle.pm_wide.specs.Types.{Word}
use Rattle.gim_ast.specs.declared.function.Function.{Function}
use Rattle.gim_ast.specs.Runs.{Outcome, Running, Place, Step, Further, Ended, outcome_of, step_at, run_from, start_of, run_of}

-- if two ways on from a place agree wherever the first isn't Running, so do the outcomes of a step
abbrev pub Agrees : Outcome → Outcome → Type 0
Agrees less more = (less ≡ Running) ⊎ (more ≡ less)

pub step_agrees : (less more : Place → Outcome) → ((place : Place) → Agrees (less place) (more place)) → (step : Step) → Agrees (outcome_of less step) (outcome_of more step)
step_agrees less more h (Further place) = h place
step_agrees less more h (Ended outcome) = inr refl

pub one_more : (f : Function) (fuel : ℕ) (place : Place) → Agrees (run_from f fuel place) (run_from f (suc fuel) place)
one_more f zero place = inl refl
one_more f (suc fuel) place = step_agrees (run_from f fuel) (run_from f (suc fuel)) (one_more f fuel) (step_at f place)

pub agrees_on : {a b c : Outcome} → Agrees a b → Agrees b c → Agrees a c
agrees_on (inl p) q = inl p
agrees_on (inr p) (inl q) = inl (sym p ∙ q)
agrees_on (inr p) (inr q) = inr (q ∙ p)

pub some_more : (f : Function) (place : Place) (fuel more : ℕ) → Agrees (run_from f fuel place) (run_from f (more + fuel) place)
some_more f place fuel zero =
    let same : fuel ≡ zero + fuel = omega arith in
    subst (λ n. Agrees (run_from f fuel place) (run_from f n place)) same (inr refl)
some_more f place fuel (suc more) =
    let same : suc (more + fuel) ≡ suc more + fuel = omega arith in
    subst (λ n. Agrees (run_from f fuel place) (run_from f n place)) same
    (agrees_on (some_more f place fuel more) (one_more f (more + fuel) place))

pub more_fuel : (f : Function) (args : List Word) (less more : ℕ) → less ≤ more → Agrees (run_of f args less) (run_of f args more)
unfolding run_of
more_fuel f args less more le =
    let same : (more - less) + less ≡ more = omega arith in
    subst (λ n. Agrees (run_from f less (start_of f args)) (run_from f n (start_of f args))) same
    (some_more f (start_of f args) less (more - less))

pub more_fuel_same : (f : Function) (args : List Word) (less more : ℕ) → less ≤ more → (run_of f args less ≡ Running → ⊥) → run_of f args more ≡ run_of f args less
more_fuel_same f args less more le ends = elim (more_fuel f args less more le) [ inl running ↦ absurd (ends running) | inr same ↦ same ]

pub less_fuel_running : (f : Function) (args : List Word) (less more : ℕ) → less ≤ more → run_of f args more ≡ Running → run_of f args less ≡ Running
less_fuel_running f args less more le running = elim (more_fuel f args less more le) [ inl still ↦ still | inr same ↦ sym same ∙ running ]

pub no_fuel_running : (f : Function) (args : List Word) → run_of f args 0 ≡ Running
unfolding run_of
no_fuel_running f args = refl
