-- Differences that are one modulo 2 ^ m are congruent in value.
use Rattle.std.proofs.Common.{◌≡◌, ℕ, ◌≤◌, ◌==◌, Bool, true, false, cond, Option, Some, None, List, [], ◌∷◌, length, refl, sym, ap, subst, ◌∙◌, arith, eqb-true}
use Rattle.std.specs.Prelude.{ℤ, pos, ◌+ℤ◌, ◌-ℤ◌, ◌*ℤ◌, IfSome}
use Rattle.std.proofs.lemmas.Int.{ints}
use Rattle.pm_wide.specs.Congruence.{Congruent}
use Rattle.pm_wide.specs.Types.{Ty, Word, IsType, value}
use Rattle.pm_wide.proofs.Congruence.{same, turned, joined, sums, differences}
use Rattle.pm_term.specs.Environments.{GivesWords}
use Rattle.pm_term.specs.Terms.{term_value}
use Rattle.pm_term.specs.Trees.{Tree, name, constant, node, Trees, nil, cons, type_of, IsWellTyped}
use Rattle.ring_forms.specs.declared.atom.Atom.{Atom}
use Rattle.ring_forms.specs.declared.form.Part.{Part}
use Rattle.ring_forms.specs.Differences.{AreOneModulo, ring_number}
use Rattle.ring_forms.specs.DifferenceTables.{less, HaveOne, ring_difference_read, number_of, number_of_part, number_read}
use Rattle.ring_forms.specs.Forms.{negated_form}
use Rattle.ring_forms.specs.TableForms.{and_forms, put_first, ring_form}
use Rattle.ring_forms.proofs.FormTotals.{sum_total, negated_total}
use Rattle.ring_forms.proofs.FormValues.{atoms_value, form_value}
use Rattle.ring_forms.proofs.RingDifferences.{one_over_table, number_is}
use Rattle.ring_forms.proofs.RingLaw.{FormOf, ring_law}
use Rattle.ring_forms.proofs.Tables.{OrderedFrom, ConsistentFrom, at, values_from, consistent}

abbrev pub pair : Tree → Tree → Trees
pair a b = cons a (cons b nil)

module _ (words : ℕ → Ty → Word) (given : GivesWords words) where
  -- the form of a difference is congruent to the difference of the values
  record PairOf (m : ℕ) (table : List Atom) (a b : Tree) (r : List Part × List Atom) : Type 0 where
    pub earlier : (v : ℕ → ℤ) → ConsistentFrom words v 0 r.1 → ConsistentFrom words v 0 table
    pub ordered : OrderedFrom 0 table → OrderedFrom 0 r.1
    pub means : m ≤ (type_of a).width → m ≤ (type_of b).width → (v : ℕ → ℤ) → ConsistentFrom words v 0 r.1 → (x y : Word) → term_value words a ≡ Some x → term_value words b ≡ Some y
        → Congruent m (value x -ℤ value y) (form_value v r.0)

  pair_law : (m : ℕ) (a b : Tree) → IsWellTyped a → IsWellTyped b → (table : List Atom) → IfSome (ring_difference_read m (cons a (cons b nil)) table) (PairOf m table a b)
  pair_law m a b wa wb table = by (ring_form m a table) (ring_law words given a wa m table)
    where
      inner : (r : List Part × List Atom) → FormOf words given m table a r → (o : Option (List Part × List Atom)) → IfSome o (FormOf words given m r.1 b)
          → IfSome (less m (put_first r.0 (and_forms o (λ last. Some ([], last))))) (PairOf m table a b)
      inner r h None k = tt
      inner r h (Some s) k = record {
        earlier = λ v c. h.earlier v (k.earlier v c);
        ordered = λ o. k.ordered (h.ordered o);
        means = λ p q v c x y e f.
            joined m _ (form_value v r.0 -ℤ form_value v s.0) _ (differences m _ _ _ _ (h.means p v (k.earlier v c) x e) (k.means q v c y f))
            (joined m _ (form_value v r.0 +ℤ form_value v (negated_form m s.0)) _ (sums m _ _ _ _ (same m (form_value v r.0)) (turned m _ _ (negated_total (atoms_value v) m s.0)))
            (turned m _ _ (sum_total (atoms_value v) m r.0 (negated_form m s.0))));
      }

      by : (o : Option (List Part × List Atom)) → IfSome o (FormOf words given m table a)
          → IfSome (less m (and_forms o (λ left. and_forms (ring_form m b left) (λ last. Some ([], last))))) (PairOf m table a b)
      by None h = tt
      by (Some r) h = inner r h (ring_form m b r.1) (ring_law words given b wb m r.1)

  module _ (ty : Ty) (known : IsType ty) (a b : Tree) (wa : IsWellTyped a) (wb : IsWellTyped b) (ea : type_of a ≡ ty) (eb : type_of b ≡ ty) (x y : Word) (fx : term_value words a ≡ Some x)
      (fy : term_value words b ≡ Some y) where
    wide : (t : Tree) → type_of t ≡ ty → ty.width ≤ (type_of t).width
    wide t e = subst (λ (s : Ty). ty.width ≤ s.width) (sym e) (omega arith)

    pub one_pair : (c d : Tree) → IsWellTyped c → IsWellTyped d → type_of c ≡ ty → type_of d ≡ ty → (z w : Word) → term_value words c ≡ Some z → term_value words d ≡ Some w
        → AreOneModulo ty.width (cons a (cons b nil)) (cons c (cons d nil)) → Congruent ty.width (value x -ℤ value y) (value z -ℤ value w)
    one_pair c d wc wd ec ed z w fz fw one =
        by (ring_difference_read ty.width (cons a (cons b nil)) []) (pair_law ty.width a b wa wb []) (ring_difference_read ty.width (cons c (cons d nil))) (λ table. pair_law ty.width c d wc wd table)
        (one_over_table ty known (cons a (cons b nil)) (cons c (cons d nil)) (wa, (wb, tt)) (wc, (wd, tt)) one)
      where
        by : (o : Option (List Part × List Atom)) → IfSome o (PairOf ty.width [] a b) → (second : List Atom → Option (List Part × List Atom)) → ((table : List Atom) → IfSome (second table) (PairOf ty.width table c d))
            → HaveOne o second → Congruent ty.width (value x -ℤ value y) (value z -ℤ value w)
        by None h second later one = absurd one
        by (Some f) h second later one =
            let g : PairOf ty.width f.1 c d (f.0, one.0) = subst (λ o. IfSome o (PairOf ty.width f.1 c d)) one.1 (later f.1) in
            let v : ℕ → ℤ = at (values_from words [] one.0) in
            let con = consistent words [] 0 one.0 refl (g.ordered (h.ordered tt)) in
            joined ty.width _ (form_value v f.0) _ (h.means (wide a ea) (wide b eb) v (g.earlier v con) x y fx fy) (turned ty.width _ _ (g.means (wide c ec) (wide d ed) v con z w fz fw))

    number_form : (v : ℕ → ℤ) (f : List Part) (n : ℕ) → number_of f ≡ Some n → form_value v f ≡ pos n
    number_form v [] n e = let is : 0 ≡ n = cc in ap pos is
    number_form v (p ∷ []) n e = single p.atoms p.coefficient e
      where
        once : (c : ℤ) → c *ℤ pos 1 +ℤ pos 0 ≡ c
        once c = omega (arith, ints)

        single : (atoms : List ℕ) (c : ℕ) → number_of_part (record { atoms = atoms; coefficient = c }) ≡ Some n → pos c *ℤ atoms_value v atoms +ℤ pos 0 ≡ pos n
        single [] c h = let is : c ≡ n = cc in once (pos c) ∙ ap pos is
        single (a ∷ rest) c h = by (length (a ∷ rest) == 0) refl h
          where
            by : (b : Bool) → (length (a ∷ rest) == 0) ≡ b → cond b (Some c) None ≡ Some n → pos c *ℤ atoms_value v (a ∷ rest) +ℤ pos 0 ≡ pos n
            by true g i = absurd (let z = eqb-true (length (a ∷ rest)) 0 g in omega (arith, z))
            by false g i = cc
    number_form v (p ∷ q ∷ rest) n e = cc

    pub number_pair : (n : ℕ) → ring_number ty.width (cons a (cons b nil)) ≡ Some n → Congruent ty.width (value x -ℤ value y) (pos n)
    number_pair n is =
        by (ring_difference_read ty.width (cons a (cons b nil)) []) (pair_law ty.width a b wa wb []) (number_is ty (cons a (cons b nil)) known (wa, (wb, tt)) ∙ is)
      where
        by : (o : Option (List Part × List Atom)) → IfSome o (PairOf ty.width [] a b) → number_read o ≡ Some n → Congruent ty.width (value x -ℤ value y) (pos n)
        by None h e = cc
        by (Some f) h e =
            let v : ℕ → ℤ = at (values_from words [] f.1) in
            let con = consistent words [] 0 f.1 refl (h.ordered tt) in
            subst (Congruent ty.width (value x -ℤ value y)) (number_form (at (values_from words [] f.1)) f.0 n e) (h.means (wide a ea) (wide b eb) v con x y fx fy)

-- the type of a well-typed term is one of the eleven
pub well_typed_type : (t : Tree) → IsWellTyped t → IsType (type_of t)
well_typed_type (name version ty) w = w
well_typed_type (constant word) w = w.0
well_typed_type (node code ty args) w = w.0
