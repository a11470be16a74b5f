-- Lists of operands that are too long or too short.
use Rattle.std.proofs.Common.{◌≡◌, suc, ◌<◌, ◌≤◌, false, Option, Some, None, List, [], ◌∷◌, length, get_or, refl, sym, ap, arith}
use Rattle.pm_wide.specs.Types.{Ty, Word}
use Rattle.pm_term.specs.Trees.{Trees, nil, cons, type_of, types_of, AreWellTyped}
use Rattle.pm_term.specs.TermTrees.{tree_of, trees_of}
use Rattle.pm_term.specs.declared.term.Term.{Term}
use Rattle.justify.specs.DefinedByRule.{has_truth_count, second_constant, AreRingEqualInOrder}
use Rattle.justify.specs.Order.{turned, type_of_two}

pub many_have_no_count : (ty : Ty) (ts : List Term) → 3 ≤ length ts → has_truth_count ty (types_of (trees_of ts)) ≡ false
many_have_no_count ty [] h = refl
many_have_no_count ty (a ∷ []) h = refl
many_have_no_count ty (a ∷ b ∷ []) h = absurd (omega arith)
many_have_no_count ty (a ∷ b ∷ c ∷ ts) h = refl

pub few_have_no_count : (ty : Ty) (ts : List Term) → length ts < 2 → has_truth_count ty (types_of (trees_of ts)) ≡ false
few_have_no_count ty [] h = refl
few_have_no_count ty (a ∷ []) h = refl
few_have_no_count ty (a ∷ b ∷ ts) h = absurd (omega arith)

pub many_have_no_constant : (ts : List Term) → 3 ≤ length ts → second_constant (trees_of ts) ≡ (let o : Option Word = None in o)
many_have_no_constant [] h = refl
many_have_no_constant (a ∷ []) h = refl
many_have_no_constant (a ∷ b ∷ []) h = absurd (omega arith)
many_have_no_constant (a ∷ b ∷ c ∷ ts) h = refl

pub few_have_no_constant : (ts : List Term) → length ts < 2 → second_constant (trees_of ts) ≡ (let o : Option Word = None in o)
few_have_no_constant [] h = refl
few_have_no_constant (a ∷ []) h = refl
few_have_no_constant (a ∷ b ∷ ts) h = absurd (omega arith)

pub as_many : (a b : List Term) → AreRingEqualInOrder (trees_of a) (trees_of b) → length a ≡ length b
as_many [] [] h = refl
as_many [] (u ∷ us) h = absurd h
as_many (t ∷ ts) [] h = absurd h
as_many (t ∷ ts) (u ∷ us) h = ap (λ n. suc n) (as_many ts us h.1)

pub as_many_types : (a b : List Term) → types_of (trees_of b) ≡ types_of (trees_of a) → length a ≡ length b
as_many_types [] [] h = refl
as_many_types [] (u ∷ us) h = cc
as_many_types (t ∷ ts) [] h = cc
as_many_types (t ∷ ts) (u ∷ us) h = ap (λ n. suc n) (as_many_types ts us (tail h))
  where
    tail : {x y : Ty} {xs ys : List Ty} → (x ∷ xs) ≡ (y ∷ ys) → xs ≡ ys
    tail e = cc

pub pair_has_type : (ts : List Term) (a : Term) → 2 ≤ length ts → length ts < 3 → a ≡ get_or ts 0 a → type_of_two (trees_of ts) ≡ Some (type_of (tree_of a))
pair_has_type [] a h g e = absurd (omega arith)
pair_has_type (x ∷ []) a h g e = absurd (omega arith)
pair_has_type (x ∷ y ∷ []) a h g e = ap (λ t. Some (type_of (tree_of t))) (sym e)
pair_has_type (x ∷ y ∷ z ∷ ts) a h g e = absurd (omega arith)

pub many_have_no_type : (ts : List Term) → 3 ≤ length ts → type_of_two (trees_of ts) ≡ (let o : Option Ty = None in o)
many_have_no_type [] h = refl
many_have_no_type (a ∷ []) h = refl
many_have_no_type (a ∷ b ∷ []) h = absurd (omega arith)
many_have_no_type (a ∷ b ∷ c ∷ ts) h = refl

pub few_have_no_type : (ts : List Term) → length ts < 2 → type_of_two (trees_of ts) ≡ (let o : Option Ty = None in o)
few_have_no_type [] h = refl
few_have_no_type (a ∷ []) h = refl
few_have_no_type (a ∷ b ∷ ts) h = absurd (omega arith)

pub many_turned : (ts : List Term) → 3 ≤ length ts → turned (trees_of ts) ≡ trees_of (let none : List Term = [] in none)
many_turned [] h = refl
many_turned (a ∷ []) h = refl
many_turned (a ∷ b ∷ []) h = absurd (omega arith)
many_turned (a ∷ b ∷ c ∷ ts) h = refl

pub few_turned : (ts : List Term) → length ts < 2 → turned (trees_of ts) ≡ trees_of (let none : List Term = [] in none)
few_turned [] h = refl
few_turned (a ∷ []) h = refl
few_turned (a ∷ b ∷ ts) h = absurd (omega arith)

-- the same terms in the other order are well typed
pub turned_typed : (ts : Trees) → AreWellTyped ts → AreWellTyped (turned ts)
turned_typed nil w = tt
turned_typed (cons a nil) w = tt
turned_typed (cons a (cons b nil)) w = (w.1.0, (w.0, tt))
turned_typed (cons a (cons b (cons c ts))) w = tt
