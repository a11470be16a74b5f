-- What holds of the eleven types holds of each type.
use Rattle.std.proofs.Common.{◌≡◌, ℕ, ◌==◌, Bool, true, false, ◌&&◌, ◌||◌, refl, sym, subst, eqb-true}
use Rattle.pm_wide.specs.Types.{Ty, IsType, bool_type, signed_char_type, unsigned_char_type, short_type, unsigned_short_type, int_type, unsigned_int_type, long_type, unsigned_long_type, int128_type, unsigned_int128_type}

module _ (P : Ty → Type 0) where
  at_width : (t : Ty) (w : ℕ) → (t.width == w) ≡ true → (t.unsigned ≡ true → P (record { width = w; unsigned = true })) → (t.unsigned ≡ false → P (record { width = w; unsigned = false })) → P t
  at_width t w e f g = by t.unsigned refl
    where
      by : (u : Bool) → t.unsigned ≡ u → P t
      by true h = subst P (λ i. record { width = sym (eqb-true t.width w e) i; unsigned = sym h i }) (f h)
      by false h = subst P (λ i. record { width = sym (eqb-true t.width w e) i; unsigned = sym h i }) (g h)

  pub each_type : (t : Ty) → IsType t → P bool_type → P signed_char_type → P unsigned_char_type → P short_type → P unsigned_short_type → P int_type → P unsigned_int_type → P long_type → P unsigned_long_type → P int128_type
      → P unsigned_int128_type → P t
  each_type t known b sc uc s us i ui l ul sx ux = by (t.width == 8) (t.width == 16) (t.width == 32) (t.width == 64) (t.width == 128) (t.width == 1) t.unsigned refl refl refl refl refl refl refl known
    where
      by : (a c d e f g u : Bool) → (t.width == 8) ≡ a → (t.width == 16) ≡ c → (t.width == 32) ≡ d → (t.width == 64) ≡ e → (t.width == 128) ≡ f → (t.width == 1) ≡ g → t.unsigned ≡ u
          → ((a || c || d || e || f) || (g && u)) ≡ true → P t
      by true c d e f g u ea ec ed ee ef eg eu h = at_width t 8 ea (λ k. uc) (λ k. sc)
      by false true d e f g u ea ec ed ee ef eg eu h = at_width t 16 ec (λ k. us) (λ k. s)
      by false false true e f g u ea ec ed ee ef eg eu h = at_width t 32 ed (λ k. ui) (λ k. i)
      by false false false true f g u ea ec ed ee ef eg eu h = at_width t 64 ee (λ k. ul) (λ k. l)
      by false false false false true g u ea ec ed ee ef eg eu h = at_width t 128 ef (λ k. ux) (λ k. sx)
      by false false false false false true true ea ec ed ee ef eg eu h = at_width t 1 eg (λ k. b) (λ k. cc)
      by false false false false false true false ea ec ed ee ef eg eu h = cc
      by false false false false false false u ea ec ed ee ef eg eu h = cc
