-- Which atoms are the same doesn't rest on the depth to which they are looked at, once it is above
-- their operations.
use Rattle.std.proofs.Common.{◌≡◌, ℕ, zero, suc, ◌<◌, max, Bool, true, false, cond, ◌&&◌, refl, ap, arith}
use Rattle.std.specs.Prelude.{bytes_eq, unwrap_or}
use Rattle.pm_ops.specs.Names.{code_name}
use Rattle.pm_wide.specs.Types.{same_type}
use Rattle.pm_term.specs.Trees.{Tree, name, constant, node, Trees, nil, cons, type_of, operations, operations_of}
use Rattle.ring_forms.specs.RingForms.{goes_by_parts, constant_places, atom, expanded, same_operands, same_atom}
use Rattle.ring_forms.specs.Sums.{Sum}
use Rattle.ring_forms.proofs.Agreement.{Factors, form_agree}
use Rattle.ring_forms.proofs.SameAtoms.{unary_factors, binary_factors}

module _ (n : ℕ) where
  -- fewer operations than n
  abbrev Fewer : Tree → Type 0
  Fewer t = operations t < n

  chosen : (b : Bool) (f g : Sum Tree) → Factors Fewer f → Factors Fewer g → Factors Fewer (cond b f g)
  chosen true f g h i = h
  chosen false f g h i = i

  alone : (t : Tree) → operations t < n → Factors Fewer (atom t)
  alone t h = ((h, tt), tt)

  fewer_factors : (m : ℕ) (t : Tree) → operations t < n → Factors Fewer (expanded m t)
  fewer_factors m (name version ty) h = alone (name version ty) h
  fewer_factors m (constant word) h = (tt, tt)
  fewer_factors m (node code ty nil) h = chosen (goes_by_parts m code ty nil) _ _ tt (alone (node code ty nil) h)
  fewer_factors m (node code ty (cons t nil)) h =
      chosen (goes_by_parts m code ty (cons t nil)) _ _ (unary_factors Fewer code (expanded m t) (fewer_factors m t (omega arith))) (alone (node code ty (cons t nil)) h)
  fewer_factors m (node code ty (cons t (cons u nil))) h =
      chosen (goes_by_parts m code ty (cons t (cons u nil))) _ _
      (binary_factors Fewer code (unwrap_or (constant_places ty (cons t (cons u nil))) 0) (expanded m t) (expanded m u) (fewer_factors m t (omega arith)) (fewer_factors m u (omega arith)))
      (alone (node code ty (cons t (cons u nil))) h)
  fewer_factors m (node code ty (cons t (cons u (cons r rs)))) h = chosen (goes_by_parts m code ty (cons t (cons u (cons r rs)))) _ _ tt (alone (node code ty (cons t (cons u (cons r rs)))) h)

  operands_alike : (s u : Tree → Tree → Bool) → ((a b : Tree) → operations a < n → operations b < n → s a b ≡ u a b) → (xs ys : Trees) → operations_of xs < n → operations_of ys < n
      → same_operands s xs ys ≡ same_operands u xs ys
  operands_alike s u alike nil nil h i = refl
  operands_alike s u alike nil (cons y ys) h i = refl
  operands_alike s u alike (cons x xs) nil h i = refl
  operands_alike s u alike (cons x xs) (cons y ys) h i =
      λ k. same_type (type_of x) (type_of y)
      && form_agree Fewer s u alike (type_of x).width (expanded (type_of x).width x) (expanded (type_of y).width y) (fewer_factors (type_of x).width x (omega arith)) (fewer_factors (type_of y).width y (omega arith)) k
      && operands_alike s u alike xs ys (omega arith) (omega arith) k

pub depth_is_free : (n d e : ℕ) (a b : Tree) → operations a < n → operations b < n → n < suc d → n < suc e → same_atom d a b ≡ same_atom e a b
depth_is_free zero d e a b h i j k = absurd (omega arith)
depth_is_free (suc n) zero e a b h i j k = absurd (omega arith)
depth_is_free (suc n) (suc d) zero a b h i j k = absurd (omega arith)
depth_is_free (suc n) (suc d) (suc e) (name v s) (name w t) h i j k = refl
depth_is_free (suc n) (suc d) (suc e) (name v s) (constant word) h i j k = refl
depth_is_free (suc n) (suc d) (suc e) (name v s) (node c t ys) h i j k = refl
depth_is_free (suc n) (suc d) (suc e) (constant word) b h i j k = refl
depth_is_free (suc n) (suc d) (suc e) (node c s xs) (name w t) h i j k = refl
depth_is_free (suc n) (suc d) (suc e) (node c s xs) (constant word) h i j k = refl
depth_is_free (suc n) (suc d) (suc e) (node c s xs) (node q t ys) h i j k =
    ap (λ x. bytes_eq (code_name c) (code_name q) && same_type s t && x)
    (operands_alike n (same_atom d) (same_atom e) (λ a b o p. depth_is_free n d e a b o p (omega (arith, j)) (omega (arith, k))) xs ys (omega (arith, h)) (omega (arith, i)))

pub depth_decides_nothing : (d e : ℕ) (a b : Tree) → operations a < d → operations b < d → operations a < e → operations b < e → same_atom d a b ≡ same_atom e a b
depth_decides_nothing d e a b h i j k = depth_is_free (suc (max (operations a) (operations b))) d e a b (omega arith) (omega arith) (omega (arith, h, i)) (omega (arith, j, k))
