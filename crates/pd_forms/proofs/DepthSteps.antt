-- What is open after one symbol more, and what is sound one place further.
use Rattle.std.proofs.Common.{◌≡◌, ℕ, zero, suc, ◌+◌, ◌-◌, ◌<◌, ◌≤◌, nat_le, Bool, true, false, ◌&&◌, List, [], ◌∷◌, take, drop, get_or, length, Option, Some, None, refl, sym, ap, subst, ◌∙◌, ◌⊎◌, inl, inr, arith}
use Rattle.std.specs.Prelude.{if◌then◌else◌}
use Rattle.std.proofs.lemmas.Bool.{leb-false}
use Rattle.std.proofs.Math.Nat.{eq-or-lt_of_le}
use Rattle.pm_ops.specs.declared.fault.PatternKind.{PatternKind}
use Rattle.pm_ops.specs.declared.fault.PatternKind.TheVariants.{TooDeep, TooManyTokens}
use Rattle.pd_text.specs.declared.symbol.Symbol.{Symbol}
use Rattle.pd_forms.specs.Depth.{opens, closes, open_after, open_from, open_before, opens_here, is_counted, is_long, fault_at, IsSoundBefore}

level_after : (d : Symbol) (level : ℕ) (file : List Symbol) (at : ℕ) → at < length file
    → open_from level (take (suc at) file) ≡ open_after (open_from level (take at file)) (get_or file at d)
level_after d level [] at inside = absurd (omega arith)
level_after d level (t ∷ rest) zero inside = refl
level_after d level (t ∷ rest) (suc at) inside = level_after d (open_after level t) rest at (omega arith)

opens_at : (d : Symbol) (file : List Symbol) (at : ℕ) → at < length file → opens_here (drop at file) ≡ opens (get_or file at d)
opens_at d [] at inside = absurd (omega arith)
opens_at d (t ∷ rest) zero inside = refl
opens_at d (t ∷ rest) (suc at) inside = opens_at d rest at (omega arith)

within_limit : (b : Bool) (c : Bool) (full : Bool) (level : ℕ) (other : Option PatternKind) → nat_le 64 level ≡ full → level ≤ 64
    → (if b && full then Some TooDeep else other) ≡ None → (if b then level + 1 else if c then level - 1 else level) ≤ 64
within_limit true c true level other e fits none = absurd (cc)
within_limit true c false level other e fits none = let low : level < 64 = leb-false 64 level e in omega arith
within_limit false true full level other e fits none = omega arith
within_limit false false full level other e fits none = fits

pub none_is : {X : Type 0} (found : Option X) → ((x : X) → found ≡ Some x → ⊥) → found ≡ None
none_is None other = refl
none_is (Some x) other = absurd (other x refl)

module _ (d : Symbol) (file : List Symbol) (at : ℕ) (inside : at < length file) where
  pub next_level : (level after : ℕ) → level ≡ open_before file at → after ≡ open_after level (get_or file at d) → after ≡ open_before file (at + 1)
  next_level level after is e =
      let next : at + 1 ≡ suc at = omega arith in
      e ∙ ap (λ n. open_after n (get_or file at d)) is ∙ sym (level_after d 0 file at inside) ∙ ap (open_before file) (sym next)

  pub next_fits : (level after : ℕ) → level ≤ 64 → level ≡ open_before file at → after ≡ open_after level (get_or file at d) → fault_at file at ≡ None → after ≤ 64
  next_fits level after fits is e none =
      let other = if is_counted file at && is_long (drop at file) then Some TooManyTokens else None in
      let here : (if opens (get_or file at d) && nat_le 64 level then Some TooDeep else other) ≡ None =
      ap (λ n. if opens (get_or file at d) && nat_le 64 n then Some TooDeep else other) is
      ∙ ap (λ b. if b && nat_le 64 (open_before file at) then Some TooDeep else other) (sym (opens_at d file at inside)) ∙ none in
      subst (λ n. n ≤ 64) (sym e) (within_limit (opens (get_or file at d)) (closes (get_or file at d)) (nat_le 64 level) level other refl fits here)

  pub next_sound : IsSoundBefore file at → fault_at file at ≡ None → IsSoundBefore file (at + 1)
  next_sound sound none k below = at_or_before (eq-or-lt_of_le {n = k} {m = at} (omega arith))
    where
      at_or_before : (k ≡ at) ⊎ (k < at) → fault_at file k ≡ None
      at_or_before (inl same) = ap (fault_at file) same ∙ none
      at_or_before (inr before) = sound k before
