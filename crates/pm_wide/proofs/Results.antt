-- The value of a well-typed operation on words is a word of the operation's type.
use Rattle.std.proofs.Common.{◌≡◌, ℕ, ◌^◌, ◌<◌, ◌==◌, Bool, true, false, not, cond, ◌&&◌, List, [], ◌∷◌, Option, Some, None, refl, sym, subst, arith, lit<}
use Rattle.std.specs.Prelude.{ℤ, pos, unsigned_abs, Result, IfOk, IsTrue, map}
use Rattle.std.specs.List.{All}
use Rattle.std.specs.Option.{ok_or}
use Rattle.pm_wide.specs.declared.undefined.Undefined.{Undefined}
use Rattle.std.proofs.lemmas.Bool.{and_parts}
use Rattle.std.proofs.lemmas.Nat.{pow_pos, and_le_l, or_lt, xor_lt}
use borrow.Author.Tests.{eqb-true}
use Rattle.pm_ops.specs.declared.code.Code.{Code}
use Rattle.pm_ops.specs.declared.code.Code.TheVariants.{Convert, Plus, Minus, Mult, TruncDiv, TruncMod, Negate, Abs, Absu, BitAnd, BitIor, BitXor, BitNot, Lshift, Rshift, Min, Max, Eq, Ne, Lt, Le, Gt, Ge, Cond}
use Rattle.pm_wide.specs.Types.{Ty, Word, IsType, IsWord, same_type, bool_type, word, value}
use Rattle.pm_wide.specs.Operations.{exact, reduced, as_word, truth, unary_value, binary_value, ternary_value, operation_value}
use Rattle.pm_wide.specs.Typing.{well_typed_unary, well_typed_binary, well_typed_ternary, well_typed_operation}
use Rattle.pm_wide.proofs.Words.{word-below}
use Rattle.pm_wide.proofs.Values.{exact_cases}

-- two types that pass the test are one
pub same_type_is : (a b : Ty) → IsTrue (same_type a b) → a ≡ b
same_type_is a b h =
    let p = and_parts (a.width == b.width) (cond a.unsigned b.unsigned (not b.unsigned)) h in
    let w : a.width ≡ b.width = eqb-true a.width b.width p.0 in
    let u : a.unsigned ≡ b.unsigned = by a.unsigned b.unsigned p.1 in
    λ i. record { width = w i; unsigned = u i }
  where
    by : (x y : Bool) → cond x y (not y) ≡ true → x ≡ y
    by true true e = refl
    by true false e = cc
    by false true e = cc
    by false false e = refl

-- of the type t, and a word of it under the condition P
abbrev IsOf : Type 0 → Ty → Word → Type 0
IsOf P t r = (r.ty ≡ t) × (P → IsWord r)

-- ---- each kind of result

reduced_word : {P : Type 0} (t : Ty) (z : ℤ) (r : Word) → (P → IsType t) → reduced t z ≡ Some r → IsOf P t r
reduced_word {P} t z r k e = let is : word t z ≡ r = cc in subst (IsOf P t) is (refl, λ p. (word-below t z, k p))

exact_word : {P : Type 0} (t : Ty) (z : ℤ) (r : Word) → (P → IsType t) → exact t z ≡ Some r → IsOf P t r
exact_word {P} t z r k e = subst (IsOf P t) (sym (exact_cases t z r e).1) (refl, λ p. (word-below t z, k p))

bits_word : {P : Type 0} (t : Ty) (n : ℕ) (r : Word) → (P → IsType t) → (P → n < 2 ^ t.width) → as_word t n ≡ Some r → IsOf P t r
bits_word {P} t n r k h e = let is : record { bits = n; ty = t } ≡ r = cc in subst (IsOf P t) is (refl, λ p. (h p, k p))

if_word : {P : Type 0} (d : Bool) (t : Ty) (z : ℤ) (r : Word) → (P → IsType t) → cond d (reduced t z) None ≡ Some r → IsOf P t r
if_word true t z r k e = reduced_word t z r k e
if_word false t z r k e = cc

truth_word : (P : Type 0) (t : Ty) (b : Bool) (r : Word) → IsTrue (same_type t bool_type) → truth b ≡ Some r → IsOf P t r
truth_word P t b r h e = subst (λ x. IsOf P x r) (sym (same_type_is t bool_type h)) (by b e)
  where
    by : (b : Bool) → truth b ≡ Some r → IsOf P bool_type r
    by true e = bits_word bool_type 1 r (λ _. refl) (λ _. lit< tt) e
    by false e = bits_word bool_type 0 r (λ _. refl) (λ _. lit< tt) e

below : (t : Ty) (a : Word) → IsWord a → IsTrue (same_type a.ty t) → a.bits < 2 ^ t.width
below t a k h = subst (λ x. a.bits < 2 ^ x.width) (same_type_is a.ty t h) k.0

-- ---- by the number of operands

unary_word : {P : Type 0} (code : Code) (t : Ty) (a r : Word) → (P → IsType t) → IsTrue (well_typed_unary code t a.ty) → unary_value code t a ≡ Some r → IsOf P t r
unary_word Convert t a r k h e = reduced_word t _ r k e
unary_word Negate t a r k h e = exact_word t _ r k e
unary_word Abs t a r k h e = exact_word t _ r k e
unary_word Absu t a r k h e = reduced_word t (pos (unsigned_abs (value a))) r k e
unary_word BitNot t a r k h e = bits_word t _ r k (λ _. let some = pow_pos t.width in omega arith) e
unary_word _ t a r k h e = cc

binary_word : {P : Type 0} (code : Code) (t : Ty) (a b r : Word) → (P → IsType t) → (P → IsWord a) → (P → IsWord b) → IsTrue (well_typed_binary code t a.ty b.ty) → binary_value code t a b ≡ Some r → IsOf P t r
binary_word Plus t a b r k p q h e = exact_word t _ r k e
binary_word Minus t a b r k p q h e = exact_word t _ r k e
binary_word Mult t a b r k p q h e = exact_word t _ r k e
binary_word TruncDiv t a b r k p q h e = if_word _ t _ r k e
binary_word TruncMod t a b r k p q h e = if_word _ t _ r k e
binary_word Lshift t a b r k p q h e = if_word _ t _ r k e
binary_word Rshift t a b r k p q h e = if_word _ t _ r k e
binary_word Min t a b r k p q h e = reduced_word t _ r k e
binary_word Max t a b r k p q h e = reduced_word t _ r k e
binary_word BitAnd t a b r k p q h e =
    let s = and_parts (same_type a.ty t) (same_type b.ty t) h in
    bits_word t _ r k (λ w. let x = below t a (p w) s.0 in omega (arith, and_le_l a.bits b.bits)) e
binary_word BitIor t a b r k p q h e = let s = and_parts (same_type a.ty t) (same_type b.ty t) h in bits_word t _ r k (λ w. or_lt t.width _ _ (below t a (p w) s.0) (below t b (q w) s.1)) e
binary_word BitXor t a b r k p q h e = let s = and_parts (same_type a.ty t) (same_type b.ty t) h in bits_word t _ r k (λ w. xor_lt t.width _ _ (below t a (p w) s.0) (below t b (q w) s.1)) e
binary_word {P} Eq t a b r k p q h e = truth_word P t _ r (and_parts (same_type a.ty b.ty) (same_type t bool_type) h).1 e
binary_word {P} Ne t a b r k p q h e = truth_word P t _ r (and_parts (same_type a.ty b.ty) (same_type t bool_type) h).1 e
binary_word {P} Lt t a b r k p q h e = truth_word P t _ r (and_parts (same_type a.ty b.ty) (same_type t bool_type) h).1 e
binary_word {P} Le t a b r k p q h e = truth_word P t _ r (and_parts (same_type a.ty b.ty) (same_type t bool_type) h).1 e
binary_word {P} Gt t a b r k p q h e = truth_word P t _ r (and_parts (same_type a.ty b.ty) (same_type t bool_type) h).1 e
binary_word {P} Ge t a b r k p q h e = truth_word P t _ r (and_parts (same_type a.ty b.ty) (same_type t bool_type) h).1 e
binary_word _ t a b r k p q h e = cc

ternary_word : {P : Type 0} (code : Code) (t : Ty) (a b c r : Word) → (P → IsWord b) → (P → IsWord c) → IsTrue (well_typed_ternary code t a.ty b.ty c.ty) → ternary_value code t a b c ≡ Some r → IsOf P t r
ternary_word {P} Cond t a b c r p q h e =
    let s = and_parts (same_type a.ty bool_type && same_type b.ty t) (same_type c.ty t) h in
    let u = and_parts (same_type a.ty bool_type) (same_type b.ty t) s.0 in
    by (a.bits == 1) u.1 s.1 e
  where
    by : (d : Bool) → IsTrue (same_type b.ty t) → IsTrue (same_type c.ty t) → cond d (Some b) (Some c) ≡ Some r → IsOf P t r
    by true u v e = let is : b ≡ r = cc in subst (IsOf P t) is (same_type_is b.ty t u, p)
    by false u v e = let is : c ≡ r = cc in subst (IsOf P t) is (same_type_is c.ty t v, q)
ternary_word _ t a b c r p q h e = cc

pub operation_word : (code : Code) (t : Ty) (args : List Word) (r : Word) → IsTrue (well_typed_operation code t (map (λ w. w.ty) args)) → operation_value code t args ≡ Some r
    → (r.ty ≡ t) × (IsType t × All IsWord args → IsWord r)
unfolding operation_value well_typed_operation
operation_word code t (a ∷ []) r h e = unary_word code t a r (λ w. w.0) h e
operation_word code t (a ∷ b ∷ []) r h e = binary_word code t a b r (λ w. w.0) (λ w. w.1 0 a (lit< tt)) (λ w. w.1 1 b (lit< tt)) h e
operation_word code t (a ∷ b ∷ c ∷ []) r h e = ternary_word code t a b c r (λ w. w.1 1 b (lit< tt)) (λ w. w.1 2 c (lit< tt)) h e
operation_word code t _ r h e = cc

-- ---- the type of what the code answers

typed : (t : Ty) (o : Option Word) (r : Result Word Undefined) → ((w : Word) → o ≡ Some w → w.ty ≡ t) → r ≡ ok_or o (record {}) → IfOk r (λ w. w.ty ≡ t)
typed t (Some w) r f e = subst (λ (x : Result Word Undefined). IfOk x (λ w. w.ty ≡ t)) (sym e) (f w refl)
typed t None r f e = subst (λ (x : Result Word Undefined). IfOk x (λ w. w.ty ≡ t)) (sym e) tt

pub operation_typed : (code : Code) (t : Ty) (args : List Word) (r : Result Word Undefined) → IsTrue (well_typed_operation code t (map (λ w. w.ty) args)) → r ≡ ok_or (operation_value code t args) (record {}) → IfOk r (λ w. w.ty ≡ t)
operation_typed code t args r h = typed t (operation_value code t args) r (λ w e. (operation_word code t args w h e).0)
