-- The shape of a pattern is matched exactly where the heads of its spots hold and each capture of them
-- has an operand.
use Rattle.std.proofs.Common.{◌≡◌, ◌==◌, ℕ, zero, suc, Bool, true, false, ◌&&◌, cond, Option, Some, None, List, [], ◌∷◌, ◌++◌, drop, slice_get, refl, sym, ap, subst, ◌∙◌}
use Rattle.std.specs.Prelude.{is_some}
use Rattle.std.specs.List.{list_all, flat_map}
use Rattle.std.specs.Option.{option_and_then}
use Rattle.std.proofs.lemmas.Bool.{and_parts, both_ways}
use Rattle.std.proofs.lemmas.Grind.{flat_map-append}
use Rattle.std.proofs.lemmas.List.Folds.{list_all-append}
use Rattle.std.proofs.lemmas.Option.{none-some, same_Some}
use Rattle.pm_ops.specs.declared.code.Code.{Code}
use Rattle.pm_ops.specs.Codes.{same_code, arity_of}
use Rattle.pm_wide.specs.declared.operand.Operand.{Operand}
use Rattle.pd_ast.specs.Predicates.{holds_of}
use Rattle.pd_ast.specs.declared.pattern.Cap.{Cap}
use Rattle.pattern_rows.specs.declared.row.Place.{Place}
use Rattle.pattern_rows.specs.declared.spot.Head.TheVariants as head
use Rattle.pattern_rows.specs.declared.spot.Spot.{Spot}
use Rattle.pattern_rows.specs.Places.{outermost, below}
use Rattle.pattern_rows.specs.Patterns.{Pattern, capture, predicate, operation, choice, Patterns, nil, cons, is_expanded, are_expanded, count_of}
use Rattle.pattern_rows.specs.Spots.{spot_at, spots, spots_below, spots_of}
use Rattle.pattern_rows.specs.TestRows.{head_probe, probes_at}
use Rattle.gim_terms.specs.Views.{View, Operation, operation_behind}
use Rattle.gim_terms.specs.Reached.{operand_of, operand_at, operand_at_steps, operation_at, operation_at_steps, has_code, is_there_with, holds_at}
use Rattle.gim_terms.specs.Matching.{Occurrence, occurs, captured, followed_by, on_code, occurrences, occurrences_of, occurrences_on}
use Rattle.gim_terms.specs.FullOperations.{operand_more}

-- ---- lists and options

drop_none : {X : Type 0} (xs : List X) (k : ℕ) → slice_get xs k ≡ None → drop k xs ≡ []
drop_none [] zero is = refl
drop_none [] (suc k) is = refl
drop_none (x ∷ xs) zero is = absurd (none-some x (sym is))
drop_none (x ∷ xs) (suc k) is = drop_none xs k is

drop_some : {X : Type 0} (xs : List X) (k : ℕ) (y : X) → slice_get xs k ≡ Some y → drop k xs ≡ y ∷ drop (suc k) xs
drop_some [] k y is = absurd (none-some y is)
drop_some (x ∷ xs) zero y is = ap (λ z. z ∷ xs) (same_Some x y is)
drop_some (x ∷ xs) (suc k) y is = drop_some xs k y is

join_tests : (a b c d : Bool) (xs ys : List Occurrence) → cond ((a && b) && (c && d)) (Some (xs ++ ys)) None ≡ followed_by (cond (a && c) (Some xs) None) (cond (b && d) (Some ys) None)
join_tests false b c d xs ys = refl
join_tests true false false d xs ys = refl
join_tests true false true d xs ys = refl
join_tests true true false d xs ys = refl
join_tests true true true false xs ys = refl
join_tests true true true true xs ys = refl

-- ---- spots on an operation

abbrev pub has_cap : Option Cap → Option Operand → Bool
has_cap None a = true
has_cap (Some c) a = is_some a

abbrev pub own_at : Option Cap → Option Operand → List Occurrence
own_at None a = []
own_at (Some c) None = []
own_at (Some c) (Some a) = occurs c a

module _ (view : View) (on : Operation) where
  abbrev pub head_holds : Spot → Bool
  head_holds s = list_all (holds_at view on) (probes_at s.place (head_probe s.head))

  abbrev pub has_own : Spot → Bool
  has_own s = has_cap s.cap (operand_at view on s.place)

  abbrev pub own : Spot → List Occurrence
  own s = own_at s.cap (operand_at view on s.place)

  abbrev pub reads : List Spot → Option (List Occurrence)
  reads ss = cond (list_all head_holds ss && list_all has_own ss) (Some (flat_map own ss)) None

  reads_append : (xs ys : List Spot) → reads (xs ++ ys) ≡ followed_by (reads xs) (reads ys)
  reads_append xs ys =
      let heads = list_all-append head_holds xs ys in
      let owns = list_all-append has_own xs ys in
      subst (λ b. cond (b && list_all has_own (xs ++ ys)) (Some (flat_map own (xs ++ ys))) None ≡ followed_by (reads xs) (reads ys)) (sym heads)
      (subst (λ b. cond ((list_all head_holds xs && list_all head_holds ys) && b) (Some (flat_map own (xs ++ ys))) None ≡ followed_by (reads xs) (reads ys)) (sym owns)
      (subst (λ zs. cond ((list_all head_holds xs && list_all head_holds ys) && (list_all has_own xs && list_all has_own ys)) (Some zs) None ≡ followed_by (reads xs) (reads ys)) (sym (flat_map-append own xs ys))
      (join_tests (list_all head_holds xs) (list_all head_holds ys) (list_all has_own xs) (list_all has_own ys) (flat_map own xs) (flat_map own ys))))

  -- ---- one spot, by its operand and its operation

  -- what a single spot reads: its head's test, its capture and its operand
  abbrev one_reads : Bool → Option Cap → Option Operand → Option (List Occurrence)
  one_reads b c a = cond (((b && true) && true) && (has_cap c a && true)) (Some (own_at c a ++ [])) None

  predicate_reads : (b : Bool) (c : Option Cap) (a : Operand) → one_reads b c (Some a) ≡ cond b (Some (captured c a)) None
  predicate_reads false c a = refl
  predicate_reads true None a = refl
  predicate_reads true (Some c) a = refl

  code_reads : (b : Bool) (c : Option Cap) (a : Operand) (rest other : Option (List Occurrence)) → rest ≡ other
      → followed_by (one_reads b c (Some a)) rest ≡ followed_by (Some (captured c a)) (cond b other None)
  code_reads false c a rest other e = refl
  code_reads true None a rest other e = ap (followed_by (Some [])) e
  code_reads true (Some c) a rest other e = ap (followed_by (Some (occurs c a))) e

  operation_reads : (b : Option Operation) (c : Option Cap) (a : Operand) (code : Code) (rest : Option (List Occurrence)) (f : List Operand → Option (List Occurrence))
      → ((there : Operation) → b ≡ Some there → rest ≡ f there.operands)
      → followed_by (one_reads (has_code code b) c (Some a)) rest ≡ followed_by (Some (captured c a)) (on_code code f b)
  operation_reads None c a code rest f each = refl
  operation_reads (Some there) c a code rest f each = code_reads (same_code code there.code) c a rest (f there.operands) (each there refl)

  -- ---- places below

  operation_more : (ks : List ℕ) (k : ℕ) → operation_at_steps view on (ks ++ k ∷ []) ≡ option_and_then (operation_behind view) (operand_at_steps view on (ks ++ k ∷ []))
  operation_more [] k = refl
  operation_more (j ∷ ks) k = refl

  operand_under : (at : Place) (there : Operation) (k : ℕ) → operation_at view on at ≡ Some there → operand_at view on (below at k) ≡ slice_get there.operands k
  operand_under at there k is = operand_more view on at.steps k ∙ ap (option_and_then (operand_of k)) is

  operation_under : (at : Place) (k : ℕ) → operation_at view on (below at k) ≡ option_and_then (operation_behind view) (operand_at view on (below at k))
  operation_under at k = operation_more at.steps k

  -- ---- patterns

  spots_absent : (p : Pattern) (at : Place) → is_expanded p ≡ true → operand_at view on at ≡ None → operation_at view on at ≡ None → reads (spots at p) ≡ None
  spots_absent (capture c) at expanded none nothing =
      subst (λ a. cond (true && (is_some a && true)) (Some (own_at (Some c) a ++ [])) None ≡ None) (sym none) refl
  spots_absent (predicate p c) at expanded none nothing =
      subst (λ a. one_reads (is_there_with (holds_of p) a) c a ≡ None) (sym none) refl
  spots_absent (operation code single c ps) at expanded none nothing =
      reads_append (spot_at at (head.Code code) c ∷ []) (spots_below at 0 ps)
      ∙ subst (λ b. followed_by (one_reads (has_code code b) c (operand_at view on at)) (reads (spots_below at 0 ps)) ≡ None) (sym nothing) refl
  spots_absent choice at expanded none nothing = absurd (both_ways false refl expanded)

  cons_reads : (p : Pattern) (ps : Patterns) (at : Place) (there : Operation) (k : ℕ) → is_expanded p ≡ true → operation_at view on at ≡ Some there
      → ((a : Operand) → operand_at view on (below at k) ≡ Some a → operation_at view on (below at k) ≡ operation_behind view a → reads (spots (below at k) p) ≡ occurrences view p a)
      → reads (spots_below at (suc k) ps) ≡ occurrences_of view ps (drop (suc k) there.operands)
      → followed_by (reads (spots (below at k) p)) (reads (spots_below at (suc k) ps)) ≡ occurrences_of view (cons p ps) (drop k there.operands)
  cons_reads p ps at there k expanded is first rest = by_operand (slice_get there.operands k) refl where
    by_operand : (o : Option Operand) → slice_get there.operands k ≡ o → followed_by (reads (spots (below at k) p)) (reads (spots_below at (suc k) ps)) ≡ occurrences_of view (cons p ps) (drop k there.operands)
    by_operand None e =
        let none = operand_under at there k is ∙ e in
        let absent = spots_absent p (below at k) expanded none (operation_under at k ∙ ap (option_and_then (operation_behind view)) none) in
        subst (λ r. followed_by r (reads (spots_below at (suc k) ps)) ≡ occurrences_of view (cons p ps) (drop k there.operands)) (sym absent)
        (subst (λ ds. None ≡ occurrences_of view (cons p ps) ds) (sym (drop_none there.operands k e)) refl)
    by_operand (Some a) e =
        let some = operand_under at there k is ∙ e in
        let present = first a some (operation_under at k ∙ ap (option_and_then (operation_behind view)) some) in
        subst (λ r. followed_by r (reads (spots_below at (suc k) ps)) ≡ occurrences_of view (cons p ps) (drop k there.operands)) (sym present)
        (subst (λ r. followed_by (occurrences view p a) r ≡ occurrences_of view (cons p ps) (drop k there.operands)) (sym rest)
        (subst (λ ds. followed_by (occurrences view p a) (occurrences_of view ps (drop (suc k) there.operands)) ≡ occurrences_of view (cons p ps) ds) (sym (drop_some there.operands k a e)) refl))

  mutual
    spots_read : (p : Pattern) (at : Place) (a : Operand) → is_expanded p ≡ true → operand_at view on at ≡ Some a → operation_at view on at ≡ operation_behind view a
        → reads (spots at p) ≡ occurrences view p a
    spots_read (capture c) at a expanded is behind =
        subst (λ o. cond (true && (is_some o && true)) (Some (own_at (Some c) o ++ [])) None ≡ Some (occurs c a)) (sym is) refl
    spots_read (predicate p c) at a expanded is behind =
        subst (λ o. one_reads (is_there_with (holds_of p) o) c o ≡ occurrences view (predicate p c) a) (sym is) (predicate_reads (holds_of p a) c a)
    spots_read (operation code single c ps) at a expanded is behind =
        let rest = reads (spots_below at 0 ps) in
        let target = occurrences view (operation code single c ps) a in
        let each = λ (there : Operation) (e : operation_behind view a ≡ Some there). below_read ps at there 0 (and_parts (count_of ps == arity_of code) (are_expanded ps) expanded).1 (behind ∙ e) in
        reads_append (spot_at at (head.Code code) c ∷ []) (spots_below at 0 ps)
        ∙ subst (λ o. followed_by (one_reads (has_code code (operation_at view on at)) c o) rest ≡ target) (sym is)
        (subst (λ b. followed_by (one_reads (has_code code b) c (Some a)) rest ≡ target) (sym behind)
        (operation_reads (operation_behind view a) c a code rest (occurrences_of view ps) each))
    spots_read choice at a expanded is behind = absurd (both_ways false refl expanded)

    below_read : (ps : Patterns) (at : Place) (there : Operation) (k : ℕ) → are_expanded ps ≡ true → operation_at view on at ≡ Some there
        → reads (spots_below at k ps) ≡ occurrences_of view ps (drop k there.operands)
    below_read nil at there k expanded is = refl
    below_read (cons p ps) at there k expanded is =
        let parts = and_parts (is_expanded p) (are_expanded ps) expanded in
        reads_append (spots (below at k) p) (spots_below at (suc k) ps)
        ∙ cons_reads p ps at there k parts.0 is (λ a some behind. spots_read p (below at k) a parts.0 some behind) (below_read ps at there (suc k) parts.1 is)

  -- ---- the whole pattern

  followed_none : (rest other : Option (List Occurrence)) → rest ≡ other → followed_by (Some []) rest ≡ other
  followed_none None other e = e
  followed_none (Some ys) other e = e

  outermost_reads : (b : Bool) (rest other : Option (List Occurrence)) → rest ≡ other → followed_by (one_reads b None None) rest ≡ cond b other None
  outermost_reads false rest other e = refl
  outermost_reads true rest other e = followed_none rest other e

  captured_outermost : (b : Bool) (c : Cap) (rest : Option (List Occurrence)) → followed_by (one_reads b (Some c) None) rest ≡ None
  captured_outermost false c rest = refl
  captured_outermost true c rest = refl

  pub whole_reads : (p : Pattern) → is_expanded p ≡ true → reads (spots_of p) ≡ occurrences_on view p on
  whole_reads (capture c) expanded = refl
  whole_reads (predicate p c) expanded = refl
  whole_reads (operation code single None ps) expanded =
      reads_append (spot_at outermost (head.Code code) None ∷ []) (spots_below outermost 0 ps)
      ∙ outermost_reads (same_code code on.code) (reads (spots_below outermost 0 ps)) (occurrences_of view ps on.operands)
      (below_read ps outermost on 0 (and_parts (count_of ps == arity_of code) (are_expanded ps) expanded).1 refl)
  whole_reads (operation code single (Some c) ps) expanded =
      reads_append (spot_at outermost (head.Code code) (Some c) ∷ []) (spots_below outermost 0 ps)
      ∙ captured_outermost (same_code code on.code) c (reads (spots_below outermost 0 ps))
  whole_reads choice expanded = absurd (both_ways false refl expanded)
