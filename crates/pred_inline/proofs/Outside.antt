-- So many conditions stand outside: none, or one and those behind it.
use Rattle.std.proofs.Common.{◌≡◌, ℕ, zero, suc, ◌-◌, ◌<◌, List, refl, ap, arith}
use Rattle.pd_ast.specs.declared.result.Out.{Out, out-Out}
use Rattle.pd_ast.specs.declared.result.Tail.{Tail, out-Tail}
use Rattle.pred_inline.specs.Inlined.{all_before, all_round, behind, behind_layer, inside, inside_layer}

pub inside_none : (n : ℕ) (tails : List Tail) (gives : Out) → n ≡ 0 → inside n tails gives ≡ all_round tails gives
inside_none zero tails gives h = refl
inside_none (suc n) tails gives h = absurd (omega (arith, h))

pub inside_some : (n : ℕ) (tails : List Tail) (gives : Out) → 0 < n → inside n tails gives ≡ inside_layer (inside (n - 1) tails) tails (out-Out gives) gives
inside_some zero tails gives h = absurd (omega (arith, h))
inside_some (suc n) tails gives h =
    let e : n ≡ suc n - 1 = omega arith in
    ap (λ m. inside_layer (inside m tails) tails (out-Out gives) gives) e

pub behind_none : (n : ℕ) (tails : List Tail) (last : Tail) → n ≡ 0 → behind n tails last ≡ all_before tails last
behind_none zero tails last h = refl
behind_none (suc n) tails last h = absurd (omega (arith, h))

pub behind_some : (n : ℕ) (tails : List Tail) (last : Tail) → 0 < n → behind n tails last ≡ behind_layer (behind (n - 1) tails) tails (out-Tail last) last
behind_some zero tails last h = absurd (omega (arith, h))
behind_some (suc n) tails last h =
    let e : n ≡ suc n - 1 = omega arith in
    ap (λ m. behind_layer (behind m tails) tails (out-Tail last) last) e
