-- A term of the class balances: its words where names are cut off above a place and where they are
-- 0 add up to its words where they are cut off below it and where they have that place alone.
use Rattle.std.proofs.Common.{◌≡◌, ℕ, ◌^◌, ◌<◌, false, ◌∷◌, refl, sym, ap, subst, ◌⊎◌, inl, inr, arith}
use Rattle.std.specs.Prelude.{ℤ, pos, ◌+ℤ◌, ◌-ℤ◌, ◌*ℤ◌, IsTrue}
use Rattle.std.proofs.lemmas.Int.{ints}
use Rattle.std.proofs.lemmas.Nat.{pow_pos}
use Rattle.pm_ops.specs.declared.code.Code.{Code}
use Rattle.pm_ops.specs.declared.code.Code.TheVariants.{Convert, Plus, Minus, Mult, Negate, BitAnd, BitIor, BitXor, BitNot}
use Rattle.pm_wide.specs.Congruence.{Congruent}
use Rattle.pm_wide.specs.Types.{Ty, Word, IsWord}
use Rattle.pm_wide.proofs.Congruence.{same, turned, joined, sums, differences, products}
use Rattle.pm_wide.proofs.Whole.{mul-add, mul_comm}
use Rattle.pm_wide.specs.Residues.{residue}
use Rattle.pm_wide.proofs.Residues.{residue_congruent, residue-below}
use Rattle.pm_term.specs.Trees.{Tree, name, constant, node, Trees, nil, cons, IsWellTyped}
use Rattle.bit_tables.specs.TableClass.{keeps_to_bits, IsConstant, AreConstant, HasConstant, IsBitwise, IsBuilt}
use Rattle.bit_tables.specs.WrappedWords.{wrapped_unary, wrapped_binary, wrapped_operation, wrapped_word, wrapped_words}
use Rattle.bit_tables.proofs.Crossing.{Four, four_same, four_and, four_or, four_xor, four_not, crossed_sum}

-- ---- sums modulo 2 ^ p

-- a word below 2 ^ p, and the sum of two numbers that is that of two others
pub record Balanced (p a b c d : ℕ) : Type 0 where
  pub first : a < 2 ^ p
  pub sum : Congruent p (pos a +ℤ pos b) (pos c +ℤ pos d)

nothing : (p : ℕ) → Balanced p 0 0 0 0
nothing p = record { first = pow_pos p; sum = same p (pos 0 +ℤ pos 0) }

pub of_four : (p k a b c d : ℕ) → Four p k a b c d → Balanced p a b c d
of_four p k a b c d h =
    let e = crossed_sum k a b c d h.crossed in
    let is : pos a +ℤ pos b ≡ pos c +ℤ pos d = omega (arith, ints, e) in
    record { first = h.first; sum = subst (Congruent p (pos a +ℤ pos b)) is (same p (pos a +ℤ pos b)) }

-- words of whole numbers that balance
of_whole : (p : ℕ) (a b c d : ℤ) → Congruent p (a +ℤ b) (c +ℤ d) → Balanced p (residue p a) (residue p b) (residue p c) (residue p d)
of_whole p a b c d h = record {
  first = residue-below p a;
  sum = joined p _ (a +ℤ b) _ (sums p _ _ _ _ (residue_congruent p a) (residue_congruent p b))
      (joined p _ (c +ℤ d) _ h (turned p _ _ (sums p _ _ _ _ (residue_congruent p c) (residue_congruent p d))));
}

exchanged : (p : ℕ) (l r m n : ℤ) → l ≡ m → r ≡ n → Congruent p m n → Congruent p l r
exchanged p l r m n e f h = subst (λ x. Congruent p x r) (sym e) (subst (Congruent p m) (sym f) h)

balanced_plus : (p a b c d x y z w : ℕ) → Balanced p a b c d → Balanced p x y z w
    → Balanced p (residue p (pos a +ℤ pos x)) (residue p (pos b +ℤ pos y)) (residue p (pos c +ℤ pos z)) (residue p (pos d +ℤ pos w))
balanced_plus p a b c d x y z w h g =
    of_whole p (pos a +ℤ pos x) (pos b +ℤ pos y) (pos c +ℤ pos z) (pos d +ℤ pos w)
    (exchanged p _ _ ((pos a +ℤ pos b) +ℤ (pos x +ℤ pos y)) ((pos c +ℤ pos d) +ℤ (pos z +ℤ pos w)) (omega (arith, ints)) (omega (arith, ints)) (sums p _ _ _ _ h.sum g.sum))

balanced_minus : (p a b c d x y z w : ℕ) → Balanced p a b c d → Balanced p x y z w
    → Balanced p (residue p (pos a -ℤ pos x)) (residue p (pos b -ℤ pos y)) (residue p (pos c -ℤ pos z)) (residue p (pos d -ℤ pos w))
balanced_minus p a b c d x y z w h g =
    of_whole p (pos a -ℤ pos x) (pos b -ℤ pos y) (pos c -ℤ pos z) (pos d -ℤ pos w)
    (exchanged p _ _ ((pos a +ℤ pos b) -ℤ (pos x +ℤ pos y)) ((pos c +ℤ pos d) -ℤ (pos z +ℤ pos w)) (omega (arith, ints)) (omega (arith, ints)) (differences p _ _ _ _ h.sum g.sum))

-- a product with one factor throughout, on either side
balanced_left : (p f a b c d : ℕ) → Balanced p a b c d
    → Balanced p (residue p (pos f *ℤ pos a)) (residue p (pos f *ℤ pos b)) (residue p (pos f *ℤ pos c)) (residue p (pos f *ℤ pos d))
balanced_left p f a b c d h =
    of_whole p (pos f *ℤ pos a) (pos f *ℤ pos b) (pos f *ℤ pos c) (pos f *ℤ pos d)
    (exchanged p _ _ (pos f *ℤ (pos a +ℤ pos b)) (pos f *ℤ (pos c +ℤ pos d)) (sym (mul-add (pos f) (pos a) (pos b))) (sym (mul-add (pos f) (pos c) (pos d))) (products p _ _ _ _ (same p (pos f)) h.sum))

balanced_right : (p f a b c d : ℕ) → Balanced p a b c d
    → Balanced p (residue p (pos a *ℤ pos f)) (residue p (pos b *ℤ pos f)) (residue p (pos c *ℤ pos f)) (residue p (pos d *ℤ pos f))
balanced_right p f a b c d h =
    subst (λ (g : ℕ → ℤ). Balanced p (residue p (g a)) (residue p (g b)) (residue p (g c)) (residue p (g d))) (λ i n. mul_comm (pos f) (pos n) i) (balanced_left p f a b c d h)

-- ---- constants have one word

mutual
  constant_word : (p : ℕ) (f g : ℕ → Ty → ℕ) (t : Tree) → IsConstant p t → wrapped_word f p t ≡ wrapped_word g p t
  constant_word p f g (name version ty) h = absurd h
  constant_word p f g (constant word) h = refl
  constant_word p f g (node code ty args) h = ap (wrapped_operation p code) (constant_words p f g args h.2)

  constant_words : (p : ℕ) (f g : ℕ → Ty → ℕ) (ts : Trees) → AreConstant p ts → wrapped_words f p ts ≡ wrapped_words g p ts
  constant_words p f g nil h = refl
  constant_words p f g (cons t ts) h = λ i. constant_word p f g t h.0 i ∷ constant_words p f g ts h.1 i

-- ---- terms

module _ (p k : ℕ) (a b c d : ℕ → Ty → ℕ) (of_name : (version : ℕ) (ty : Ty) → ty.width ≡ p → Four p k (a version ty) (b version ty) (c version ty) (d version ty)) where
  abbrev FourOf : Tree → Type 0
  FourOf t = Four p k (wrapped_word a p t) (wrapped_word b p t) (wrapped_word c p t) (wrapped_word d p t)

  abbrev pub BalancedOf : Tree → Type 0
  BalancedOf t = Balanced p (wrapped_word a p t) (wrapped_word b p t) (wrapped_word c p t) (wrapped_word d p t)

  zero_four : Four p k 0 0 0 0
  zero_four = four_same p k 0 (pow_pos p)

  four_constant : (w : Word) → IsWord w → w.ty.width ≡ p → Four p k w.bits w.bits w.bits w.bits
  four_constant w h e = four_same p k w.bits (subst (λ n. w.bits < 2 ^ n) e h.0)

  four_unary : (code : Code) (x y z w : ℕ) → Four p k x y z w → Four p k (wrapped_unary p code x) (wrapped_unary p code y) (wrapped_unary p code z) (wrapped_unary p code w) ⊎ (keeps_to_bits code ≡ false)
  four_unary Convert x y z w h = inl h
  four_unary BitNot x y z w h = inl (four_not p k x y z w h)
  four_unary Negate x y z w h = inr refl
  four_unary _ x y z w h = inl zero_four

  four_binary : (code : Code) (x y z w q r s t : ℕ) → Four p k x y z w → Four p k q r s t
      → Four p k (wrapped_binary p code x q) (wrapped_binary p code y r) (wrapped_binary p code z s) (wrapped_binary p code w t) ⊎ (keeps_to_bits code ≡ false)
  four_binary BitAnd x y z w q r s t h g = inl (four_and p k x y z w q r s t h g)
  four_binary BitIor x y z w q r s t h g = inl (four_or p k x y z w q r s t h g)
  four_binary BitXor x y z w q r s t h g = inl (four_xor p k x y z w q r s t h g)
  four_binary Plus x y z w q r s t h g = inr refl
  four_binary Minus x y z w q r s t h g = inr refl
  four_binary Mult x y z w q r s t h g = inr refl
  four_binary _ x y z w q r s t h g = inl zero_four

  known : {A : Type 0} (code : Code) → IsTrue (keeps_to_bits code) → A ⊎ (keeps_to_bits code ≡ false) → A
  known code h (inl x) = x
  known code h (inr e) = cc

  four_tree : (t : Tree) → IsWellTyped t → IsBitwise p t → FourOf t
  four_tree (name version ty) w h = of_name version ty h
  four_tree (constant word) w h = four_constant word w.1 h
  four_tree (node code ty nil) w h = zero_four
  four_tree (node code ty (cons t nil)) w h = known code h.0 (four_unary code _ _ _ _ (four_tree t w.2.0 h.2.0))
  four_tree (node code ty (cons t (cons u nil))) w h =
      known code h.0 (four_binary code _ _ _ _ _ _ _ _ (four_tree t w.2.0 h.2.0) (four_tree u w.2.1.0 h.2.1.0))
  four_tree (node code ty (cons t (cons u (cons v ts)))) w h = zero_four

  bits_tree : (t : Tree) → IsWellTyped t → IsBitwise p t → BalancedOf t
  bits_tree t w h = of_four p k _ _ _ _ (four_tree t w h)

  balanced_unary : (code : Code) (ty : Ty) (t : Tree) → IsWellTyped (node code ty (cons t nil)) → (IsWellTyped t → IsBuilt p t → BalancedOf t)
      → IsBuilt p (node code ty (cons t nil)) → BalancedOf (node code ty (cons t nil))
  balanced_unary Convert ty t w f h = f w.2.0 h.1.0
  balanced_unary Negate ty t w f h = balanced_minus p 0 0 0 0 _ _ _ _ (nothing p) (f w.2.0 h.1.0)
  balanced_unary BitNot ty t w f h = bits_tree (node BitNot ty (cons t nil)) w h
  balanced_unary _ ty t w f h = nothing p

  balanced_product : (t u : Tree) → HasConstant p (cons t (cons u nil)) → BalancedOf t → BalancedOf u
      → Balanced p (wrapped_binary p Mult (wrapped_word a p t) (wrapped_word a p u)) (wrapped_binary p Mult (wrapped_word b p t) (wrapped_word b p u)) (wrapped_binary p Mult (wrapped_word c p t) (wrapped_word c p u)) (wrapped_binary p Mult (wrapped_word d p t) (wrapped_word d p u))
  balanced_product t u (inl e) g h =
      let n = wrapped_word a p t in
      let r = balanced_left p n (wrapped_word a p u) (wrapped_word b p u) (wrapped_word c p u) (wrapped_word d p u) h in
      rw (← constant_word p a b t e, ← constant_word p a c t e, ← constant_word p a d t e) r
  balanced_product t u (inr (inl e)) g h =
      let n = wrapped_word a p u in
      let r = balanced_right p n (wrapped_word a p t) (wrapped_word b p t) (wrapped_word c p t) (wrapped_word d p t) g in
      rw (← constant_word p a b u e, ← constant_word p a c u e, ← constant_word p a d u e) r
  balanced_product t u (inr (inr e)) g h = absurd e

  balanced_binary : (code : Code) (ty : Ty) (t u : Tree) → IsWellTyped (node code ty (cons t (cons u nil)))
      → (IsWellTyped t → IsBuilt p t → BalancedOf t) → (IsWellTyped u → IsBuilt p u → BalancedOf u)
      → IsBuilt p (node code ty (cons t (cons u nil))) → BalancedOf (node code ty (cons t (cons u nil)))
  balanced_binary Plus ty t u w f g h = balanced_plus p _ _ _ _ _ _ _ _ (f w.2.0 h.1.0) (g w.2.1.0 h.1.1.0)
  balanced_binary Minus ty t u w f g h = balanced_minus p _ _ _ _ _ _ _ _ (f w.2.0 h.1.0) (g w.2.1.0 h.1.1.0)
  balanced_binary Mult ty t u w f g h = balanced_product t u h.1 (f w.2.0 h.0.1.0) (g w.2.1.0 h.0.1.1.0)
  balanced_binary BitAnd ty t u w f g h = bits_tree (node BitAnd ty (cons t (cons u nil))) w h
  balanced_binary BitIor ty t u w f g h = bits_tree (node BitIor ty (cons t (cons u nil))) w h
  balanced_binary BitXor ty t u w f g h = bits_tree (node BitXor ty (cons t (cons u nil))) w h
  balanced_binary _ ty t u w f g h = nothing p

  pub balanced_tree : (t : Tree) → IsWellTyped t → IsBuilt p t → BalancedOf t
  balanced_tree (name version ty) w h = of_four p k _ _ _ _ (of_name version ty h)
  balanced_tree (constant word) w h = of_four p k _ _ _ _ (four_constant word w.1 h)
  balanced_tree (node code ty nil) w h = nothing p
  balanced_tree (node code ty (cons t nil)) w h = balanced_unary code ty t w (λ v g. balanced_tree t v g) h
  balanced_tree (node code ty (cons t (cons u nil))) w h = balanced_binary code ty t u w (λ v g. balanced_tree t v g) (λ v g. balanced_tree u v g) h
  balanced_tree (node code ty (cons t (cons u (cons v ts)))) w h = nothing p
