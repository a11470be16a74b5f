-- Occurrences of one version have one base, and default definitions of one parameter one version.
use Rattle.std.proofs.Common.{◌≡◌, ℕ, zero, suc, Bool, true, false, List, [], ◌∷◌}
use Rattle.std.proofs.Common.{Option, Some, None, refl, sym, ap, subst, ◌∙◌, arith}
use Rattle.std.specs.Prelude.{not, ◌&&◌, Contains}
use Rattle.std.specs.List.{list_any, cons_option, filter_map}
use Rattle.std.specs.Cmp.Lexicographic.{bytes_decides}
use Rattle.std.proofs.lemmas.Bool.{and_parts, or_parts, not-true, not-false}
use Rattle.gim_ast.specs.WellFormed.{same_text}
use Rattle.gim_text.specs.declared.tree.FunctionText.{FunctionText}
use Rattle.gim_text.specs.declared.occurrence.Occurrence.{Occurrence}
use Rattle.gim_text.specs.Occurrences.{occurrences_of}
use Rattle.gim_names.specs.OccurrenceTexts.{version_base, base_default}
use Rattle.gim_names.specs.Rules.{has_other_second}
use Rattle.gim_names.specs.Tables.{have_one_each}
use Rattle.gim_names.specs.KeepsNames.{KeepsNames, AreOne}

contains_later : {X : Type 0} (o : Option X) (xs : List X) (x : X) → Contains xs x → Contains (cons_option o xs) x
contains_later None xs x c = c
contains_later (Some y) xs x c = (suc c.0, omega (arith, c.1), c.2)

said_has : {M X : Type 0} (says : M → Option X) (ms : List M) (m : M) (x : X) → Contains ms m → says m ≡ Some x
    → Contains (filter_map says ms) x
said_has says [] m x c e = absurd (omega (arith, c.1))
said_has says (n ∷ ms) m x (zero, lt, is) e =
    subst (λ o. Contains (cons_option o (filter_map says ms)) x) (sym (ap says is ∙ e)) (0, omega arith, refl)
said_has says (n ∷ ms) m x (suc k, lt, is) e =
    contains_later (says n) (filter_map says ms) x (said_has says ms m x (k, omega (arith, lt), is) e)

-- no pair of the list has this first part and another second part
same_second : (p q : List ℕ × List ℕ) (pairs : List (List ℕ × List ℕ))
    → list_any (has_other_second p.0 p.1) pairs ≡ false → Contains pairs q → p.0 ≡ q.0 → p.1 ≡ q.1
same_second p q [] none c e = absurd (omega (arith, c.1))
same_second p q (r ∷ pairs) none (zero, lt, is) e =
    let t = (or_parts (has_other_second p.0 p.1 r) (list_any (has_other_second p.0 p.1) pairs) none).0 in
    let u : has_other_second p.0 p.1 q ≡ false = subst (λ (z : List ℕ × List ℕ). has_other_second p.0 p.1 z ≡ false) is t in
    (bytes_decides p.1 q.1).0 (second (same_text p.0 q.0) (same_text p.1 q.1) ((bytes_decides p.0 q.0).1 e) u) where
      second : (a b : Bool) → a ≡ true → (a && not b) ≡ false → b ≡ true
      second true b h none = not-false b none
      second false b h none = absurd cc
same_second p q (r ∷ pairs) none (suc k, lt, is) e =
    same_second p q pairs (or_parts (has_other_second p.0 p.1 r) (list_any (has_other_second p.0 p.1) pairs) none).1
    (k, omega (arith, lt), is) e

pub one_second : (pairs : List (List ℕ × List ℕ)) → have_one_each pairs ≡ true → (p q : List ℕ × List ℕ)
    → Contains pairs p → Contains pairs q → p.0 ≡ q.0 → p.1 ≡ q.1
one_second [] one p q a b e = absurd (omega (arith, a.1))
one_second (r ∷ pairs) one p q (zero, lt, is) (zero, lt', is') e = ap (λ (z : List ℕ × List ℕ). z.1) (sym is ∙ is')
one_second (r ∷ pairs) one p q (zero, lt, is) (suc k, lt', is') e =
    let none =
    not-true (list_any (has_other_second r.0 r.1) pairs)
    (and_parts (not (list_any (has_other_second r.0 r.1) pairs)) (have_one_each pairs) one).0 in
    same_second p q pairs (subst (λ (z : List ℕ × List ℕ). list_any (has_other_second z.0 z.1) pairs ≡ false) is none)
    (k, omega (arith, lt'), is') e
one_second (r ∷ pairs) one p q (suc k, lt, is) (zero, lt', is') e =
    let none =
    not-true (list_any (has_other_second r.0 r.1) pairs)
    (and_parts (not (list_any (has_other_second r.0 r.1) pairs)) (have_one_each pairs) one).0 in
    sym (same_second q p pairs (subst (λ (z : List ℕ × List ℕ). list_any (has_other_second z.0 z.1) pairs ≡ false) is'
    none) (k, omega (arith, lt), is) (sym e))
one_second (r ∷ pairs) one p q (suc k, lt, is) (suc k', lt', is') e =
    one_second pairs (and_parts (not (list_any (has_other_second r.0 r.1) pairs)) (have_one_each pairs) one).1 p q
    (k, omega (arith, lt), is) (k', omega (arith, lt'), is') e

pub are_one : (source : List ℕ) (f : FunctionText) → KeepsNames source f → (m n : Occurrence)
    → Contains (occurrences_of f) m → Contains (occurrences_of f) n → AreOne source m n
are_one source f keeps m n a b =
    let all = occurrences_of f in
    record {
      bases = λ p q d e same. one_second (filter_map (version_base source) all) keeps.bases p q
          (said_has (version_base source) all m p a d) (said_has (version_base source) all n q b e) same;
      defaults = λ p q d e same. one_second (filter_map (base_default source) all) keeps.defaults p q
          (said_has (base_default source) all m p a d) (said_has (base_default source) all n q b e) same;
    }
