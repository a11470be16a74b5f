-- The law of ring forms: a form is congruent to the value of its term.
use Rattle.std.proofs.Common.{◌≡◌, ℕ, ◌+◌, ◌-◌, ◌≤◌, ◌<◌, ◌^◌, ◌||◌, Bool, true, false, cond, Option, Some, None, List, [], ◌∷◌, length, refl, sym, ap, subst, ◌∙◌, arith}
use Rattle.std.specs.Prelude.{ℤ, pos, negsuc, neg_ℤ, ◌+ℤ◌, ◌-ℤ◌, ◌*ℤ◌, IsTrue, IfSome, is_some, unwrap_or, nat_lt, nat_le}
use Rattle.std.specs.Int.RustNames.{unsigned_abs}
use Rattle.std.proofs.lemmas.Bool.{and_parts}
use Rattle.std.proofs.lemmas.Bool.Decides.{nat_tests}
use Rattle.std.proofs.Math.Pow.{pow_mono}
use borrow.Author.Tests.{ltb-true, ltb-false}
use Rattle.pm_ops.specs.declared.code.Code.{Code}
use Rattle.pm_ops.specs.declared.code.Code.TheVariants.{Convert, Plus, Minus, Mult, Negate, BitNot, Lshift, Cond}
use Rattle.pm_wide.specs.Congruence.{Congruent}
use Rattle.pm_wide.specs.Operations.{operation_value, unary_value, binary_value}
use Rattle.pm_wide.specs.Types.{Ty, Word, IsType, IsWord, same_type, value, value_of, word, word_of}
use Rattle.pm_wide.specs.Typing.{well_typed_operation, well_typed_unary, well_typed_binary, well_typed_ternary}
use Rattle.pm_wide.proofs.Congruence.{same, turned, joined, sums, differences, negatives, products, fewer_places}
use Rattle.pm_wide.proofs.Results.{same_type_is}
use Rattle.pm_wide.proofs.Values.{exact_congruent, converted_congruent, complement_congruent, shifted_congruent, width_small}
use Rattle.pm_wide.proofs.Words.{same_word, word-value, value_congruent}
use Rattle.pm_term.specs.Terms.{operation_on, with_value, term_value, term_values}
use Rattle.pm_term.specs.Trees.{Tree, name, constant, node, Trees, nil, cons, type_of, IsWellTyped, AreWellTyped}
use Rattle.pm_term.proofs.OperandValues.{one_value, two_values}
use Rattle.pm_term.proofs.TermLaws.{values_are_words}
use Rattle.ring_forms.specs.declared.atom.Atom.{Atom}
use Rattle.ring_forms.specs.declared.atom.Atom.TheVariants.{Name, Operation}
use Rattle.ring_forms.specs.declared.atom.AtomOperand.{AtomOperand}
use Rattle.ring_forms.specs.declared.form.Part.{Part}
use Rattle.ring_forms.specs.Atoms.{atom_number, with_new_atom}
use Rattle.ring_forms.specs.Forms.{constant_form, atom_form, negated_form, product_form, within_limits}
use Rattle.ring_forms.specs.PolynomialValues.{value_or_zero}
use Rattle.ring_forms.specs.RingForms.{constant_places, small_constant, goes_by_parts}
use Rattle.ring_forms.specs.TableForms.{unary_form, binary_form, limited, combined, atomic, put_first, and_forms, and_operands, ring_form, operand_forms, HaveOneForm, AreEqualOverTable}
use Rattle.ring_forms.proofs.FormBounds.{FormBelow, OperandsBelow, AtomBelow, more_form, constant_below, unary_below, binary_below, operand_words, atom_value}
use Rattle.ring_forms.proofs.FormTotals.{equal_congruent, sum_total, negated_total}
use Rattle.ring_forms.proofs.FormValues.{atoms_value, form_value, constant_value, atom_value_is, product_value}
use Rattle.ring_forms.proofs.Tables.{OrderedFrom, ConsistentFrom, number_below, new_longer, new_ordered, older, newest, at, values_from, consistent}

abbrev Read : Type 0
Read = List Part × List Atom

at_most : (a b : ℕ) → nat_le a b ≡ true → a ≤ b
at_most a b h = grind (arith, nat_tests)

le_self : (n : ℕ) → n ≤ n
le_self n = omega arith

absurd_typed : {A : Type 0} → false ≡ true → A
absurd_typed h = cc

-- a small number is its own value in every type
small_value : (t : Ty) (n : ℕ) → IsType t → n < 128 → value_of t n ≡ pos n
small_value t n k h = by t.unsigned refl
  where
    inner : (b : Bool) → nat_lt n (2 ^ (t.width - 1)) ≡ b → n < 2 ^ (t.width - 1) → cond b (pos n) (pos n -ℤ pos (2 ^ t.width)) ≡ pos n
    inner true e i = refl
    inner false e i = absurd (let f = ltb-false n (2 ^ (t.width - 1)) e in omega arith)

    wide : t.unsigned ≡ false → 8 ≤ t.width
    wide u = grind (arith, nat_tests)

    by : (b : Bool) → t.unsigned ≡ b → cond (b || nat_lt n (2 ^ (t.width - 1))) (pos n) (pos n -ℤ pos (2 ^ t.width)) ≡ pos n
    by true e = refl
    by false e =
        let w = wide e in
        let places : 7 ≤ t.width - 1 = omega arith in
        let power = pow_mono places in
        inner (nat_lt n (2 ^ (t.width - 1))) refl (omega (arith, power))

module _ (words : ℕ → Ty → Word) (given : (version : ℕ) (ty : Ty) → IsType ty → ((words version ty).ty ≡ ty) × IsWord (words version ty)) where
  -- what a form of a term says: it goes by the table that it leaves, and is congruent to the value
  pub record FormOf (m : ℕ) (table : List Atom) (t : Tree) (r : List Part × List Atom) : Type 0 where
    pub longer : length table ≤ length r.1
    pub earlier : (v : ℕ → ℤ) → ConsistentFrom words v 0 r.1 → ConsistentFrom words v 0 table
    pub ordered : OrderedFrom 0 table → OrderedFrom 0 r.1
    pub below : FormBelow (length r.1) r.0
    pub means : m ≤ (type_of t).width → (v : ℕ → ℤ) → ConsistentFrom words v 0 r.1 → (w : Word) → term_value words t ≡ Some w → Congruent m (value w) (form_value v r.0)

  -- the same of an atom's operands: their forms give their words
  pub record OperandsOf (table : List Atom) (ts : Trees) (r : List AtomOperand × List Atom) : Type 0 where
    pub longer : length table ≤ length r.1
    pub earlier : (v : ℕ → ℤ) → ConsistentFrom words v 0 r.1 → ConsistentFrom words v 0 table
    pub ordered : OrderedFrom 0 table → OrderedFrom 0 r.1
    pub below : OperandsBelow (length r.1) r.0
    pub means : (v : ℕ → ℤ) → ConsistentFrom words v 0 r.1 → (ws : List Word) → term_values words ts ≡ Some ws → operand_words v r.0 ≡ ws

  -- ---- atoms

  -- an atom whose number has the value of the term
  atom_of : (m : ℕ) (table kept : List Atom) (t : Tree) (a : Atom) → length table ≤ length kept → ((v : ℕ → ℤ) → ConsistentFrom words v 0 kept → ConsistentFrom words v 0 table)
      → (OrderedFrom 0 table → OrderedFrom 0 kept) → AtomBelow (length kept) a
      → ((v : ℕ → ℤ) → ConsistentFrom words v 0 kept → (w : Word) → term_value words t ≡ Some w → atom_value words v a ≡ value w)
      → FormOf m table t (atom_form (atom_number kept a), with_new_atom kept a)
  atom_of m table kept t a long back order low gives =
      let grown = new_longer kept a in
      let total : 0 + length kept ≡ length kept = omega arith in
      record {
        longer = omega (arith, long, grown);
        earlier = λ v c. back v (older words v 0 kept a c);
        ordered = λ o. new_ordered 0 (length kept) kept a (sym total) (order o) low;
        below = ((number_below kept a, tt), tt);
        means = λ le v c w e.
            (let number : 0 + atom_number kept a ≡ atom_number kept a = omega arith in
            let here : v (atom_number kept a) ≡ value w = sym (ap v number) ∙ newest words v 0 kept a c ∙ gives v (older words v 0 kept a c) w e in
            equal_congruent m (value w) (form_value v (atom_form (atom_number kept a))) (sym (atom_value_is v m (atom_number kept a) ∙ here)));
      }

  -- ---- operations by parts

  kept_limits : (m : ℕ) (table : List Atom) (t : Tree) (f : List Part) (left : List Atom) → FormOf m table t (f, left) → IfSome (limited f left) (FormOf m table t)
  kept_limits m table t f left h = by (within_limits f)
    where
      by : (b : Bool) → IfSome (cond b (Some (f, left)) None) (FormOf m table t)
      by true = h
      by false = tt

  module _ (m : ℕ) (ty : Ty) (le : m ≤ ty.width) (v : ℕ → ℤ) where
    down : (a b : ℤ) → Congruent ty.width a b → Congruent m a b
    down a b h = fewer_places m ty.width a b le h

    unary_means : (code : Code) (t : Tree) (a x : Word) (f : List Part) → goes_by_parts m code ty (cons t nil) ≡ true
        → IsTrue (well_typed_unary code ty (type_of t)) → (a.ty ≡ type_of t) × IsWord a → (m ≤ (type_of t).width → Congruent m (value a) (form_value v f)) → unary_value code ty a ≡ Some x
        → Congruent m (value x) (form_value v (unary_form m code f))
    unfolding operation_value
    unary_means Convert t a x f g typed p h e = joined m _ (value a) _ (down (value x) (value a) (converted_congruent ty a x e)) (h (at_most m (type_of t).width g))
    unary_means Negate t a x f g typed p h e =
        let is = same_type_is (type_of t) ty typed in
        let part = h (subst (λ (s : Ty). m ≤ s.width) (sym is) le) in
        joined m _ (neg_ℤ (value a)) _ (down (value x) (neg_ℤ (value a)) (exact_congruent ty (neg_ℤ (value a)) x e))
        (joined m _ (neg_ℤ (form_value v f)) _ (negatives m _ _ part) (turned m _ _ (negated_total (atoms_value v) m f)))
    unary_means BitNot t a x f g typed p h e =
        let is = same_type_is (type_of t) ty typed in
        let part = h (subst (λ (s : Ty). m ≤ s.width) (sym is) le) in
        joined m _ (negsuc 0 -ℤ value a) _ (down (value x) (negsuc 0 -ℤ value a) (complement_congruent ty a x p.1 (p.0 ∙ is) e))
        (joined m _ (negsuc 0 +ℤ neg_ℤ (form_value v f)) _ (sums m _ _ _ _ (same m (negsuc 0)) (negatives m _ _ part))
        (joined m _ (form_value v (constant_form m (negsuc 0)) +ℤ form_value v (negated_form m f)) _
        (sums m _ _ _ _ (turned m _ _ (constant_value v m (negsuc 0))) (turned m _ _ (negated_total (atoms_value v) m f)))
        (turned m _ _ (sum_total (atoms_value v) m (constant_form m (negsuc 0)) (negated_form m f)))))
    unary_means _ t a x f g typed p h e = cc

    binary_means : (code : Code) (t u : Tree) (places : ℕ) (a b x : Word) (f g : List Part) → goes_by_parts m code ty (cons t (cons u nil)) ≡ true
        → IsTrue (well_typed_binary code ty (type_of t) (type_of u))
        → (m ≤ (type_of t).width → Congruent m (value a) (form_value v f)) → (m ≤ (type_of u).width → Congruent m (value b) (form_value v g))
        → ((m ≤ (type_of t).width → Congruent m (value a) (form_value v f)) → IsTrue (same_type (type_of t) ty) → binary_value Lshift ty a b ≡ Some x → goes_by_parts m Lshift ty (cons t (cons u nil)) ≡ true
        → Congruent m (value x) (form_value v (binary_form m Lshift places f g)))
        → binary_value code ty a b ≡ Some x
        → Congruent m (value x) (form_value v (binary_form m code places f g))
    binary_means Plus t u places a b x f g parts typed h i shift e =
        let both = and_parts (same_type (type_of t) ty) (same_type (type_of u) ty) typed in
        let p = h (subst (λ (s : Ty). m ≤ s.width) (sym (same_type_is (type_of t) ty both.0)) le) in
        let q = i (subst (λ (s : Ty). m ≤ s.width) (sym (same_type_is (type_of u) ty both.1)) le) in
        joined m _ (value a +ℤ value b) _ (down (value x) (value a +ℤ value b) (exact_congruent ty (value a +ℤ value b) x e))
        (joined m _ (form_value v f +ℤ form_value v g) _ (sums m _ _ _ _ p q) (turned m _ _ (sum_total (atoms_value v) m f g)))
    binary_means Minus t u places a b x f g parts typed h i shift e =
        let both = and_parts (same_type (type_of t) ty) (same_type (type_of u) ty) typed in
        let p = h (subst (λ (s : Ty). m ≤ s.width) (sym (same_type_is (type_of t) ty both.0)) le) in
        let q = i (subst (λ (s : Ty). m ≤ s.width) (sym (same_type_is (type_of u) ty both.1)) le) in
        joined m _ (value a -ℤ value b) _ (down (value x) (value a -ℤ value b) (exact_congruent ty (value a -ℤ value b) x e))
        (joined m _ (form_value v f -ℤ form_value v g) _ (differences m _ _ _ _ p q)
        (joined m _ (form_value v f +ℤ form_value v (negated_form m g)) _ (sums m _ _ _ _ (same m (form_value v f)) (turned m _ _ (negated_total (atoms_value v) m g)))
        (turned m _ _ (sum_total (atoms_value v) m f (negated_form m g)))))
    binary_means Mult t u places a b x f g parts typed h i shift e =
        let both = and_parts (same_type (type_of t) ty) (same_type (type_of u) ty) typed in
        let p = h (subst (λ (s : Ty). m ≤ s.width) (sym (same_type_is (type_of t) ty both.0)) le) in
        let q = i (subst (λ (s : Ty). m ≤ s.width) (sym (same_type_is (type_of u) ty both.1)) le) in
        joined m _ (value a *ℤ value b) _ (down (value x) (value a *ℤ value b) (exact_congruent ty (value a *ℤ value b) x e))
        (joined m _ (form_value v f *ℤ form_value v g) _ (products m _ _ _ _ p q) (turned m _ _ (product_value v m f g)))
    binary_means Lshift t u places a b x f g parts typed h i shift e = shift h typed e parts
    binary_means _ t u places a b x f g parts typed h i shift e = cc

    shift_means : (t : Tree) (a b x : Word) (f g : List Part) (count : Word) → b ≡ count → IsWord count → IsType ty → (m ≤ (type_of t).width → Congruent m (value a) (form_value v f))
        → IsTrue (same_type (type_of t) ty) → binary_value Lshift ty a b ≡ Some x → is_some (small_constant ty.width (constant count)) ≡ true
        → Congruent m (value x) (form_value v (binary_form m Lshift (unwrap_or (small_constant ty.width (constant count)) 0) f g))
    unfolding operation_value
    shift_means t a b x f g count is word known h typed e parts = by (nat_lt count.bits ty.width) refl parts
      where
        by : (s : Bool) → nat_lt count.bits ty.width ≡ s → is_some (cond s (Some count.bits) None) ≡ true
            → Congruent m (value x) (form_value v (product_form m f (constant_form m (pos (2 ^ unwrap_or (cond s (Some count.bits) None) 0)))))
        by true small p =
            let below = ltb-true count.bits ty.width small in
            let wide = width_small ty known in
            let itself : value b ≡ pos count.bits = ap value is ∙ small_value count.ty count.bits word.1 (omega arith) in
            let part = h (subst (λ (s : Ty). m ≤ s.width) (sym (same_type_is (type_of t) ty typed)) le) in
            let shifted : Congruent ty.width (value x) (value a *ℤ pos (2 ^ count.bits)) = subst (λ z. Congruent ty.width (value x) (value a *ℤ pos (2 ^ unsigned_abs z))) itself (shifted_congruent ty a b x e) in
            joined m _ (value a *ℤ pos (2 ^ count.bits)) _ (down (value x) (value a *ℤ pos (2 ^ count.bits)) shifted)
            (joined m _ (form_value v f *ℤ form_value v (constant_form m (pos (2 ^ count.bits)))) _
            (products m _ _ _ _ part (turned m _ _ (constant_value v m (pos (2 ^ count.bits)))))
            (turned m _ _ (product_value v m f (constant_form m (pos (2 ^ count.bits))))))
        by false small p = cc

  -- ---- values of operations

  atomic_value : (code : Code) (ty : Ty) (os : List AtomOperand) (v : ℕ → ℤ) (vals : Option (List Word)) → ((ws : List Word) → vals ≡ Some ws → operand_words v os ≡ ws)
      → (w : Word) → operation_on code ty vals ≡ Some w → atom_value words v (Operation code ty os) ≡ value w
  atomic_value code ty os v None h w e = cc
  atomic_value code ty os v (Some ws) h w e = ap (λ us. value_or_zero (operation_value code ty us)) (h ws refl) ∙ ap value_or_zero e

  atomic_law : (m : ℕ) (table : List Atom) (code : Code) (ty : Ty) (args : Trees) (o : Option (List AtomOperand × List Atom)) → IfSome o (OperandsOf table args)
      → IfSome (atomic code ty o) (FormOf m table (node code ty args))
  atomic_law m table code ty args None h = tt
  atomic_law m table code ty args (Some r) h =
      atom_of m table r.1 (node code ty args) (Operation code ty r.0) h.longer h.earlier h.ordered h.below
      (λ v c w e. atomic_value code ty r.0 v (term_values words args) (λ ws f. h.means v c ws f) w e)

  -- the last operand's word
  word_back : (t : Ty) (w : Word) (z : ℤ) → w.ty ≡ t → IsWord w → Congruent t.width (value w) z → word t z ≡ w
  word_back t w z e h c =
      let bits : word_of t z ≡ w.bits = sym (same_word t (value w) z c) ∙ subst (λ (s : Ty). word_of s (value w) ≡ w.bits) e (word-value w.ty w.bits h.0) in
      λ i. record { bits = bits i; ty = sym e i }

  cons_law : (table : List Atom) (t : Tree) (ts : Trees) → IsWellTyped t → (o : Option (List Part × List Atom)) → IfSome o (FormOf (type_of t).width table t)
      → (rest : List Atom → Option (List AtomOperand × List Atom)) → ((left : List Atom) → IfSome (rest left) (OperandsOf left ts))
      → IfSome (and_operands (type_of t) o rest) (OperandsOf table (cons t ts))
  cons_law table t ts typed None h rest later = tt
  cons_law table t ts typed (Some r) h rest later = by (rest r.1) (later r.1)
    where
      by : (o : Option (List AtomOperand × List Atom)) → IfSome o (OperandsOf r.1 ts) → IfSome (put_first (record { ty = type_of t; form = r.0 }) o) (OperandsOf table (cons t ts))
      by None g = tt
      by (Some s) g =
          let both : (v : ℕ → ℤ) → ConsistentFrom words v 0 s.1 → (o : Option Word) (p : Option (List Word)) → term_value words t ≡ o → term_values words ts ≡ p → (ws : List Word) → with_value o p ≡ Some ws
          → operand_words v (record { ty = type_of t; form = r.0 } ∷ s.0) ≡ ws
          = λ v c o p a b ws e. each v c o p a b ws e in
          record {
            longer = let i = h.longer in let j = g.longer in omega arith;
            earlier = λ v c. h.earlier v (g.earlier v c);
            ordered = λ i. g.ordered (h.ordered i);
            below = (more_form (length r.1) (length s.1) g.longer r.0 h.below, g.below);
            means = λ v c ws e. both v c (term_value words t) (term_values words ts) refl refl ws e;
          }
        where
          each : (v : ℕ → ℤ) → ConsistentFrom words v 0 s.1 → (o : Option Word) (p : Option (List Word)) → term_value words t ≡ o → term_values words ts ≡ p → (ws : List Word) → with_value o p ≡ Some ws
              → operand_words v (record { ty = type_of t; form = r.0 } ∷ s.0) ≡ ws
          each v c None p a b ws e = cc
          each v c (Some x) None a b ws e = cc
          each v c (Some x) (Some xs) a b ws e =
              let is : x ∷ xs ≡ ws = cc in
              let typed_word = values_are_words words t x given typed a in
              let congruent = h.means (le_self (type_of t).width) v (g.earlier v c) x a in
              let first = word_back (type_of t) x (form_value v r.0) typed_word.0 typed_word.1 congruent in
              let others = g.means v c xs b in
              (λ i. first i ∷ others i) ∙ is

  unary_law : (m : ℕ) (table : List Atom) (code : Code) (ty : Ty) (t : Tree) → IsWellTyped (node code ty (cons t nil)) → goes_by_parts m code ty (cons t nil) ≡ true
      → (o : Option (List Part × List Atom)) → IfSome o (FormOf m table t)
      → IfSome (combined m code (unwrap_or (constant_places ty (cons t nil)) 0) (and_forms o (λ left. Some ([], left)))) (FormOf m table (node code ty (cons t nil)))
  unfolding well_typed_operation
  unary_law m table code ty t w g None h = tt
  unary_law m table code ty t w g (Some r) h =
      kept_limits m table (node code ty (cons t nil)) (unary_form m code r.0) r.1 (record {
        longer = h.longer;
        earlier = h.earlier;
        ordered = h.ordered;
        below = unary_below (length r.1) m code r.0 h.below;
        means = λ le v c x e.
            (let o = one_value code ty (term_value words t) x e in
            unary_means m ty le v code t o.0 x r.0 g w.1 (values_are_words words t o.0 given w.2.0 o.1) (λ i. h.means i v c o.0 o.1) o.2);
      })

  binary_law : (m : ℕ) (table : List Atom) (code : Code) (ty : Ty) (t u : Tree) → IsWellTyped (node code ty (cons t (cons u nil))) → goes_by_parts m code ty (cons t (cons u nil)) ≡ true
      → (o : Option (List Part × List Atom)) → IfSome o (FormOf m table t)
      → (rest : List Atom → Option (List Part × List Atom)) → ((left : List Atom) → IfSome (rest left) (FormOf m left u))
      → IfSome (combined m code (unwrap_or (constant_places ty (cons t (cons u nil))) 0) (and_forms o (λ left. and_forms (rest left) (λ last. Some ([], last))))) (FormOf m table (node code ty (cons t (cons u nil))))
  unfolding well_typed_operation
  binary_law m table code ty t u w g None h rest later = tt
  binary_law m table code ty t u w g (Some r) h rest later = by (rest r.1) (later r.1)
    where
      shift : (m : ℕ) (ty : Ty) (le : m ≤ ty.width) (v : ℕ → ℤ) (t u : Tree) → IsType ty → IsWellTyped u → (a b x : Word) (f g : List Part) → term_value words u ≡ Some b
          → (m ≤ (type_of t).width → Congruent m (value a) (form_value v f)) → IsTrue (same_type (type_of t) ty) → binary_value Lshift ty a b ≡ Some x
          → goes_by_parts m Lshift ty (cons t (cons u nil)) ≡ true → Congruent m (value x) (form_value v (binary_form m Lshift (unwrap_or (constant_places ty (cons t (cons u nil))) 0) f g))
      shift m ty le v t (name version s) known typed a b x f g is h i e parts = cc
      shift m ty le v t (constant count) known typed a b x f g is h i e parts = let same_word_is : b ≡ count = cc in shift_means m ty le v t a b x f g count same_word_is typed.1 known h i e parts
      shift m ty le v t (node code s args) known typed a b x f g is h i e parts = cc

      by : (o : Option (List Part × List Atom)) → IfSome o (FormOf m r.1 u)
          → IfSome (combined m code (unwrap_or (constant_places ty (cons t (cons u nil))) 0) (put_first r.0 (and_forms o (λ last. Some ([], last))))) (FormOf m table (node code ty (cons t (cons u nil))))
      by None k = tt
      by (Some s) k =
          let places = unwrap_or (constant_places ty (cons t (cons u nil))) 0 in
          kept_limits m table (node code ty (cons t (cons u nil))) (binary_form m code (unwrap_or (constant_places ty (cons t (cons u nil))) 0) r.0 s.0) s.1 (record {
            longer = let i = h.longer in let j = k.longer in omega arith;
            earlier = λ v c. h.earlier v (k.earlier v c);
            ordered = λ i. k.ordered (h.ordered i);
            below = binary_below (length s.1) m code (unwrap_or (constant_places ty (cons t (cons u nil))) 0) r.0 s.0 (more_form (length r.1) (length s.1) k.longer r.0 h.below) k.below;
            means = λ le v c x e.
                (let o = two_values code ty (term_value words t) (term_value words u) x e in
                binary_means m ty le v code t u (unwrap_or (constant_places ty (cons t (cons u nil))) 0) o.0 o.1 x r.0 s.0 g w.1
                (λ i. h.means i v (k.earlier v c) o.0 o.2) (λ i. k.means i v c o.1 o.3)
                (λ i j q parts. shift m ty le v t u w.0 w.2.1.0 o.0 o.1 x r.0 s.0 o.3 i j q parts) o.4);
          })

  by_cases : (m : ℕ) (table : List Atom) (t : Tree) (b : Bool) (x y : Option (List Part × List Atom)) → (b ≡ true → IfSome x (FormOf m table t)) → IfSome y (FormOf m table t) → IfSome (cond b x y) (FormOf m table t)
  by_cases m table t true x y h g = h refl
  by_cases m table t false x y h g = g

  three_apart : (m : ℕ) (code : Code) (ty a b c : Ty) (args : Trees) → IsTrue (well_typed_ternary code ty a b c) → goes_by_parts m code ty args ≡ false
  three_apart m Cond ty a b c args h = refl
  three_apart m _ ty a b c args h = cc

  mutual
    unfolding well_typed_operation

    pub ring_law : (t : Tree) → IsWellTyped t → (m : ℕ) (table : List Atom) → IfSome (ring_form m t table) (FormOf m table t)
    ring_law (name version ty) w m table =
        atom_of m table table (name version ty) (Name version ty) (le_self (length table)) (λ v c. c) (λ o. o) tt (λ v c x e. (let is : words version ty ≡ x = cc in ap value is))
    ring_law (constant word) w m table = record {
      longer = le_self (length table);
      earlier = λ v c. c;
      ordered = λ o. o;
      below = constant_below (length table) m (pos word.bits);
      means = λ le v c x e.
          (let is : word ≡ x = cc in
          subst (λ y. Congruent m (value y) (form_value v (constant_form m (pos word.bits)))) is
          (joined m _ (pos word.bits) _ (fewer_places m word.ty.width _ _ le (value_congruent word.ty word.bits)) (turned m _ _ (constant_value v m (pos word.bits)))));
    }
    ring_law (node code ty nil) w m table = absurd_typed w.1
    ring_law (node code ty (cons t nil)) w m table =
        by_cases m table (node code ty (cons t nil)) (goes_by_parts m code ty (cons t nil)) _ _
        (λ g. unary_law m table code ty t w g (ring_form m t table) (ring_law t w.2.0 m table))
        (atomic_law m table code ty (cons t nil) (operand_forms (cons t nil) table) (operands_law (cons t nil) w.2 table))
    ring_law (node code ty (cons t (cons u nil))) w m table =
        by_cases m table (node code ty (cons t (cons u nil))) (goes_by_parts m code ty (cons t (cons u nil))) _ _
        (λ g. binary_law m table code ty t u w g (ring_form m t table) (ring_law t w.2.0 m table) (ring_form m u) (λ left. ring_law u w.2.1.0 m left))
        (atomic_law m table code ty (cons t (cons u nil)) (operand_forms (cons t (cons u nil)) table) (operands_law (cons t (cons u nil)) w.2 table))
    ring_law (node code ty (cons t (cons u (cons s nil)))) w m table =
        by_cases m table (node code ty (cons t (cons u (cons s nil)))) (goes_by_parts m code ty (cons t (cons u (cons s nil)))) _ _
        (λ g. let no = three_apart m code ty (type_of t) (type_of u) (type_of s) (cons t (cons u (cons s nil))) w.1 in cc)
        (atomic_law m table code ty (cons t (cons u (cons s nil))) (operand_forms (cons t (cons u (cons s nil))) table) (operands_law (cons t (cons u (cons s nil))) w.2 table))
    ring_law (node code ty (cons t (cons u (cons s (cons r rs))))) w m table = absurd_typed w.1

    pub operands_law : (ts : Trees) → AreWellTyped ts → (table : List Atom) → IfSome (operand_forms ts table) (OperandsOf table ts)
    operands_law nil w table = record {
      longer = le_self (length table);
      earlier = λ v c. c;
      ordered = λ o. o;
      below = tt;
      means = λ v c ws e. cc;
    }
    operands_law (cons t ts) w table =
        cons_law table t ts w.0 (ring_form (type_of t).width t table) (ring_law t w.0 (type_of t).width table) (operand_forms ts) (λ left. operands_law ts w.1 left)

  -- ---- one form, one word

  one_of : (left right : Tree) (r s : Word) → IsWellTyped left → IsWellTyped right → type_of left ≡ type_of right → term_value words left ≡ Some r → term_value words right ≡ Some s
      → (o : Option (List Part × List Atom)) → IfSome o (FormOf (type_of left).width [] left)
      → (second : List Atom → Option (List Part × List Atom)) → ((table : List Atom) → IfSome (second table) (FormOf (type_of right).width table right))
      → HaveOneForm o second → r ≡ s
  one_of left right r s wl wr same_type_of el er None h second later one = absurd one
  one_of left right r s wl wr same_type_of el er (Some f) h second later one =
      let table = one.0 in
      let g : FormOf (type_of right).width f.1 right (f.0, one.0) = subst (λ o. IfSome o (FormOf (type_of right).width f.1 right)) one.1 (later f.1) in
      let v : ℕ → ℤ = at (values_from words [] one.0) in
      let con = consistent words [] 0 one.0 refl (g.ordered (h.ordered tt)) in
      let p = h.means (le_self (type_of left).width) v (g.earlier v con) r el in
      let q = g.means (le_self (type_of right).width) v con s er in
      let tr = values_are_words words left r given wl el in
      let ts = values_are_words words right s given wr er in
      sym (word_back (type_of left) r (form_value v f.0) tr.0 tr.1 p)
      ∙ (λ i. word (same_type_of i) (form_value v f.0)) ∙ word_back (type_of right) s (form_value v f.0) ts.0 ts.1 q

  pub one_word : (left right : Tree) (r s : Word) → IsWellTyped left → IsWellTyped right → AreEqualOverTable left right → term_value words left ≡ Some r → term_value words right ≡ Some s → r ≡ s
  one_word left right r s wl wr one el er =
      one_of left right r s wl wr one.0 el er (ring_form (type_of left).width left []) (ring_law left wl (type_of left).width []) (ring_form (type_of right).width right)
      (λ table. ring_law right wr (type_of right).width table) one.1
