-- The tests of spots hold, and their holes have operands, exactly where the heads of the spots hold, each
-- capture has an operand, and captures that occur again agree.
use Rattle.std.proofs.Common.{◌≡◌, Bool, true, false, ◌&&◌, ◌||◌, cond, Option, Some, None, List, [], ◌∷◌, ◌++◌, refl, sym, ap, subst, ◌∙◌, append_assoc}
use Rattle.std.specs.Prelude.{is_some}
use Rattle.std.specs.List.{list_all, list_any, flat_map}
use Rattle.std.specs.Option.{option_and_then}
use Rattle.std.specs.Str.{bytes_eq}
use Rattle.std.proofs.lemmas.Bool.{and_parts, both_ways}
use Rattle.std.proofs.lemmas.Grind.{flat_map-append}
use Rattle.std.proofs.lemmas.List.{map-append, append-nil}
use Rattle.std.proofs.lemmas.List.Folds.{list_all-append}
use Rattle.std.proofs.lemmas.Option.{none-some, same_Some}
use Rattle.std.proofs.lemmas.Slice.Eq.{bytes_eq-Decides}
use Rattle.std.proofs.Math.Bool.{and-true}
use Rattle.pm_ops.specs.Names.{Name}
use Rattle.pm_wide.specs.declared.operand.Operand.{Operand}
use Rattle.pd_ast.specs.declared.pattern.Cap.{Cap}
use Rattle.gim_ast.specs.Functions.{same_operand}
use Rattle.pattern_rows.specs.declared.row.Place.{Place}
use Rattle.pattern_rows.specs.declared.row.Probe.{Probe}
use Rattle.pattern_rows.specs.declared.row.ProbeAt.{ProbeAt}
use Rattle.pattern_rows.specs.declared.spot.Spot.{Spot}
use Rattle.pattern_rows.specs.Found.{caps_of, operands_of, filled, found}
use Rattle.pattern_rows.specs.Places.{probe_at}
use Rattle.pattern_rows.specs.TestRows.{names, marks, is_named, is_marked, first_place, head_probe, same_probe, again, cap_probe, probes_at, tests_at, tests_from, place_or, stands_for, new_hole, hole_at, holes_from, row_of_spots}
use Rattle.gim_terms.specs.Views.{View, Operation}
use Rattle.gim_terms.specs.Reached.{operand_at, both, same_number, holds_at}
use Rattle.gim_terms.specs.Matching.{Occurrence, first_operand, is_of, is_by_value, are_same, is_same_as, all_agree, operand_or, new_capture, captures_from, agreed}
use Rattle.gim_terms.proofs.SpotShapes.{has_cap, own_at, head_holds, has_own, own, reads}

-- ---- tests and lists

shuffle : (a k h r : Bool) → ((a && k) && (h && r)) ≡ ((a && h) && (k && r))
shuffle false k h r = refl
shuffle true false false r = refl
shuffle true false true r = refl
shuffle true true h r = refl

probes_append : (at : Place) (xs ys : List Probe) → probes_at at (xs ++ ys) ≡ probes_at at xs ++ probes_at at ys
probes_append at [] ys = refl
probes_append at (x ∷ xs) ys = ap (λ zs. probe_at at x ∷ zs) (probes_append at xs ys)

-- the first place among spots, and then further ones
first_place_append : (p : Spot → Bool) (xs ys : List Spot) (at : Place) → first_place p xs ≡ Some at → first_place p (xs ++ ys) ≡ Some at
first_place_append p [] ys at is = absurd (none-some at is)
first_place_append p (x ∷ xs) ys at is =
    let rest = first_place_append p xs ys at in
    elim (p x) as (λ b. cond b (Some x.place) (first_place p xs) ≡ Some at → cond b (Some x.place) (first_place p (xs ++ ys)) ≡ Some at)
    [ true ↦ λ e. e | false ↦ rest ] is

first_place_later : (p : Spot → Bool) (xs ys : List Spot) → first_place p xs ≡ None → first_place p (xs ++ ys) ≡ first_place p ys
first_place_later p [] ys is = refl
first_place_later p (x ∷ xs) ys is =
    let rest = first_place_later p xs ys in
    elim (p x) as (λ b. cond b (Some x.place) (first_place p xs) ≡ None → cond b (Some x.place) (first_place p (xs ++ ys)) ≡ first_place p ys)
    [ true ↦ λ e. absurd (none-some x.place (sym e)) | false ↦ rest ] is

no_place : (p : Spot → Bool) (ss : List Spot) → list_any p ss ≡ false → first_place p ss ≡ None
no_place p [] none = refl
no_place p (s ∷ ss) none =
    let rest = no_place p ss in
    elim (p s) as (λ b. (b || list_any p ss) ≡ false → cond b (Some s.place) (first_place p ss) ≡ None)
    [ true ↦ λ e. absurd (both_ways true e refl) | false ↦ rest ] none

-- what is written with `@@` is named
marked_is_named : (name : Name) (c : Option Cap) → names name c ≡ false → marks name c ≡ false
marked_is_named name None unnamed = refl
marked_is_named name (Some c) unnamed =
    elim c.by_value as (λ b. (b && bytes_eq c.name name) ≡ false) [ true ↦ unnamed | false ↦ refl ]

no_mark : (name : Name) (ss : List Spot) → first_place (is_named name) ss ≡ None → first_place (is_marked name) ss ≡ None
no_mark name [] is = refl
no_mark name (s ∷ ss) is =
    let rest = no_mark name ss in
    by_name (names name s.cap) refl rest is
  where
    by_name : (b : Bool) → names name s.cap ≡ b → (first_place (is_named name) ss ≡ None → first_place (is_marked name) ss ≡ None)
        → cond b (Some s.place) (first_place (is_named name) ss) ≡ None → first_place (is_marked name) (s ∷ ss) ≡ None
    by_name true e rest is = absurd (none-some s.place (sym is))
    by_name false e rest is =
        subst (λ b. cond b (Some s.place) (first_place (is_marked name) ss) ≡ None) (sym (marked_is_named name s.cap e)) (rest is)

-- the captures that are found have operands
captures_there : (all before os : List Occurrence) → list_all is_some (captures_from all before os) ≡ true
captures_there all before [] = refl
captures_there all before (one ∷ others) =
    let rest = captures_there all (before ++ one ∷ []) others in
    elim (first_operand (is_of one.cap.name) before) as (λ o. list_all is_some (new_capture all o one ++ captures_from all (before ++ one ∷ []) others) ≡ true)
    [ None ↦ rest | Some a ↦ rest ]

module _ (view : View) (on : Operation) where
  abbrev here : Place → Option Operand
  here = operand_at view on

  abbrev holds : ProbeAt → Bool
  holds = holds_at view on

  abbrev owns : List Spot → Type 0
  owns ss = list_all (has_own view on) ss ≡ true

  abbrev occs : List Spot → List Occurrence
  occs ss = flat_map (own view on) ss

  -- ---- first occurrences

  first_step : (q : Option Cap → Bool) → q None ≡ false → (at : Place) (c : Option Cap) (a : Option Operand) → here at ≡ a → has_cap c a ≡ true
      → (rest : List Occurrence) (later : Option Place) → first_operand (λ (one : Occurrence). q (Some one.cap)) rest ≡ option_and_then here later
      → first_operand (λ (one : Occurrence). q (Some one.cap)) (own_at c a ++ rest) ≡ option_and_then here (cond (q c) (Some at) later)
  first_step q none at None a e has rest later is =
      subst (λ b. first_operand (λ (one : Occurrence). q (Some one.cap)) rest ≡ option_and_then here (cond b (Some at) later)) (sym none) is
  first_step q none at (Some c) None e has rest later is = absurd (both_ways false refl has)
  first_step q none at (Some c) (Some a) e has rest later is =
      elim (q (Some c)) as (λ b. cond b (Some a) (first_operand (λ (one : Occurrence). q (Some one.cap)) rest) ≡ option_and_then here (cond b (Some at) later))
      [ true ↦ sym e | false ↦ is ]

  first_is : (q : Option Cap → Bool) → q None ≡ false → (ss : List Spot) → owns ss
      → first_operand (λ (one : Occurrence). q (Some one.cap)) (occs ss) ≡ option_and_then here (first_place (λ (s : Spot). q s.cap) ss)
  first_is q none [] has = refl
  first_is q none (s ∷ ss) has =
      let parts = and_parts (has_own view on s) (list_all (has_own view on) ss) has in
      first_step q none s.place s.cap (here s.place) refl parts.0 (occs ss) (first_place (λ (t : Spot). q t.cap) ss) (first_is q none ss parts.1)

  first_there : (q : Option Cap → Bool) → q None ≡ false → (ss : List Spot) → owns ss → (at : Place) → first_place (λ (s : Spot). q s.cap) ss ≡ Some at → is_some (here at) ≡ true
  first_there q none [] has at is = absurd (none-some at is)
  first_there q none (s ∷ ss) has at is =
      let parts = and_parts (has_own view on s) (list_all (has_own view on) ss) has in
      let rest = first_there q none ss parts.1 at in
      by_test (q s.cap) refl parts.0 rest is
    where
      of_cap : (c : Option Cap) → q c ≡ true → has_cap c (here s.place) ≡ true → is_some (here s.place) ≡ true
      of_cap None e own = absurd (both_ways (q None) none e)
      of_cap (Some c) e own = own

      by_test : (b : Bool) → q s.cap ≡ b → has_cap s.cap (here s.place) ≡ true → (first_place (λ (t : Spot). q t.cap) ss ≡ Some at → is_some (here at) ≡ true)
          → cond b (Some s.place) (first_place (λ (t : Spot). q t.cap) ss) ≡ Some at → is_some (here at) ≡ true
      by_test true e own rest is = subst (λ p. is_some (here p) ≡ true) (same_Some s.place at is) (of_cap s.cap e own)
      by_test false e own rest is = rest is

  any_step : (q : Option Cap → Bool) → q None ≡ false → (c : Option Cap) (a : Option Operand) → has_cap c a ≡ true → (rest : List Occurrence) (later : Bool)
      → list_any (λ (one : Occurrence). q (Some one.cap)) rest ≡ later → list_any (λ (one : Occurrence). q (Some one.cap)) (own_at c a ++ rest) ≡ (q c || later)
  any_step q none None a has rest later is = subst (λ b. list_any (λ (one : Occurrence). q (Some one.cap)) rest ≡ (b || later)) (sym none) is
  any_step q none (Some c) None has rest later is = absurd (both_ways false refl has)
  any_step q none (Some c) (Some a) has rest later is = ap (λ b. q (Some c) || b) is

  any_is : (q : Option Cap → Bool) → q None ≡ false → (ss : List Spot) → owns ss → list_any (λ (one : Occurrence). q (Some one.cap)) (occs ss) ≡ list_any (λ (s : Spot). q s.cap) ss
  any_is q none [] has = refl
  any_is q none (s ∷ ss) has =
      let parts = and_parts (has_own view on s) (list_all (has_own view on) ss) has in
      any_step q none s.cap (here s.place) parts.0 (occs ss) (list_any (λ (t : Spot). q t.cap) ss) (any_is q none ss parts.1)

  -- ---- a capture that occurs again

  same_holds : (m : Bool) (first at : Place) (b a : Operand) → here first ≡ Some b → here at ≡ Some a → holds (probe_at at (same_probe m first)) ≡ are_same m b a
  same_holds true first at b a e f = subst (λ x. both same_number x (here at) ≡ same_number b a) (sym e) (subst (λ y. both same_number (Some b) y ≡ same_number b a) (sym f) refl)
  same_holds false first at b a e f = subst (λ x. both same_operand x (here at) ≡ same_operand b a) (sym e) (subst (λ y. both same_operand (Some b) y ≡ same_operand b a) (sym f) refl)

  -- no test holds of a place without an operand
  first_absent : (m : Bool) (first at : Place) → here first ≡ None → holds (probe_at at (same_probe m first)) ≡ false
  first_absent true first at e = subst (λ x. both same_number x (here at) ≡ false) (sym e) refl
  first_absent false first at e = subst (λ x. both same_operand x (here at) ≡ false) (sym e) refl

  both_absent : (same : Operand → Operand → Bool) (a : Option Operand) → both same a None ≡ false
  both_absent same None = refl
  both_absent same (Some a) = refl

  other_absent : (m : Bool) (first at : Place) → here at ≡ None → holds (probe_at at (same_probe m first)) ≡ false
  other_absent true first at e = subst (λ x. both same_number (here first) x ≡ false) (sym e) (both_absent same_number (here first))
  other_absent false first at e = subst (λ x. both same_operand (here first) x ≡ false) (sym e) (both_absent same_operand (here first))

  again_agrees : (m : Bool) (first : Option Place) (at : Place) (a : Operand) → here at ≡ Some a → ((q : Place) → first ≡ Some q → is_some (here q) ≡ true)
      → list_all holds (probes_at at (again m first)) ≡ is_same_as m (option_and_then here first) a
  again_agrees m None at a is each = refl
  again_agrees m (Some q) at a is each = by_operand (here q) refl (each q refl) where
    by_operand : (o : Option Operand) → here q ≡ o → is_some (here q) ≡ true → (holds (probe_at at (same_probe m q)) && true) ≡ is_same_as m (here q) a
    by_operand None e some = absurd (both_ways (is_some (here q)) (ap is_some e) some)
    by_operand (Some b) e some =
        and-true (holds (probe_at at (same_probe m q))) ∙ same_holds m q at b a e is ∙ ap (λ o. is_same_as m o a) (sym e)

  cap_agrees : (all before : List Spot) → owns all → owns before → (at : Place) (c : Option Cap) (a : Option Operand) → here at ≡ a → has_cap c a ≡ true → (rest : List Occurrence)
      → (list_all holds (probes_at at (cap_probe all before c)) && all_agree (occs all) (occs before ++ own_at c a) rest) ≡ all_agree (occs all) (occs before) (own_at c a ++ rest)
  cap_agrees all before alls befores at None a is has rest = ap (λ b. all_agree (occs all) b rest) (append-nil (occs before))
  cap_agrees all before alls befores at (Some c) None is has rest = absurd (both_ways false refl has)
  cap_agrees all before alls befores at (Some c) (Some a) is has rest =
      let marked = any_is (marks c.name) refl all alls in
      let earlier = first_is (names c.name) refl before befores in
      let test = again_agrees (list_any (is_marked c.name) all) (first_place (is_named c.name) before) at a is (first_there (names c.name) refl before befores) in
      ap (λ b. b && all_agree (occs all) (occs before ++ own_at (Some c) (Some a)) rest)
      (test ∙ ap (λ m. is_same_as m (option_and_then here (first_place (is_named c.name) before)) a) (sym marked)
      ∙ ap (λ o. is_same_as (list_any (is_by_value c.name) (occs all)) o a) (sym earlier))

  occs_more : (before : List Spot) (s : Spot) → occs (before ++ s ∷ []) ≡ occs before ++ own view on s
  occs_more before s = flat_map-append (own view on) before (s ∷ []) ∙ ap (λ xs. occs before ++ xs) (append-nil (own view on s))

  owns_more : (before : List Spot) (s : Spot) → owns before → has_own view on s ≡ true → owns (before ++ s ∷ [])
  owns_more before s befores mine =
      list_all-append (has_own view on) before (s ∷ [])
      ∙ ap (λ b. b && list_all (has_own view on) (s ∷ [])) befores ∙ and-true (has_own view on s) ∙ mine

  tests_of : (all before : List Spot) (s : Spot) → list_all holds (tests_at all before s) ≡ (head_holds view on s && list_all holds (probes_at s.place (cap_probe all before s.cap)))
  tests_of all before s =
      ap (list_all holds) (probes_append s.place (head_probe s.head) (cap_probe all before s.cap))
      ∙ list_all-append holds (probes_at s.place (head_probe s.head)) (probes_at s.place (cap_probe all before s.cap))

  tests_are : (all before ss : List Spot) → owns all → owns before → owns ss
      → list_all holds (tests_from all before ss) ≡ (list_all (head_holds view on) ss && all_agree (occs all) (occs before) (occs ss))
  tests_are all before [] alls befores has = refl
  tests_are all before (s ∷ ss) alls befores has =
      let parts = and_parts (has_own view on s) (list_all (has_own view on) ss) has in
      let cap = list_all holds (probes_at s.place (cap_probe all before s.cap)) in
      let heads = list_all (head_holds view on) ss in
      let rest = tests_are all (before ++ s ∷ []) ss alls (owns_more before s befores parts.0) parts.1 in
      list_all-append holds (tests_at all before s) (tests_from all (before ++ s ∷ []) ss)
      ∙ ap (λ b. b && list_all holds (tests_from all (before ++ s ∷ []) ss)) (tests_of all before s)
      ∙ ap (λ b. (head_holds view on s && cap) && b) rest
      ∙ shuffle (head_holds view on s) cap heads (all_agree (occs all) (occs (before ++ s ∷ [])) (occs ss))
      ∙ ap (λ b. (head_holds view on s && heads) && (cap && all_agree (occs all) b (occs ss))) (occs_more before s)
      ∙ ap (λ b. (head_holds view on s && heads) && b) (cap_agrees all before alls befores s.place s.cap (here s.place) refl parts.0 (occs ss))

  -- ---- holes

  new_is : (all : List Spot) → owns all → (earlier : Option Place) → ((q : Place) → earlier ≡ Some q → is_some (here q) ≡ true) → (at : Place) (c : Cap) (a : Operand) → here at ≡ Some a
      → operands_of here (new_hole earlier c.name (stands_for all c.name at)) ≡ new_capture (occs all) (option_and_then here earlier) (record { cap = c; operand = a })
  new_is all alls (Some q) each at c a is =
      elim (here q) as (λ o. is_some o ≡ true → [] ≡ new_capture (occs all) o (record { cap = c; operand = a })) [ None ↦ λ e. absurd (both_ways false refl e) | Some b ↦ λ e. refl ] (each q refl)
  new_is all alls None each at c a is =
      let marked = first_is (marks c.name) refl all alls in
      ap (λ o. o ∷ []) (by_mark (first_place (is_marked c.name) all) (first_there (marks c.name) refl all alls) ∙ ap (λ o. Some (operand_or o a)) (sym marked))
    where
      by_mark : (m : Option Place) → ((q : Place) → m ≡ Some q → is_some (here q) ≡ true) → here (place_or m at) ≡ Some (operand_or (option_and_then here m) a)
      by_mark None there = is
      by_mark (Some q) there =
          elim (here q) as (λ o. is_some o ≡ true → o ≡ Some (operand_or o a)) [ None ↦ λ e. absurd (both_ways false refl e) | Some b ↦ λ e. refl ] (there q refl)

  hole_is : (all before : List Spot) → owns all → owns before → (at : Place) (c : Option Cap) (a : Option Operand) → here at ≡ a → has_cap c a ≡ true → (rest : List Occurrence)
      → operands_of here (hole_at all before at c) ++ captures_from (occs all) (occs before ++ own_at c a) rest ≡ captures_from (occs all) (occs before) (own_at c a ++ rest)
  hole_is all before alls befores at None a is has rest = ap (λ b. captures_from (occs all) b rest) (append-nil (occs before))
  hole_is all before alls befores at (Some c) None is has rest = absurd (both_ways false refl has)
  hole_is all before alls befores at (Some c) (Some a) is has rest =
      let earlier = first_is (names c.name) refl before befores in
      ap (λ xs. xs ++ captures_from (occs all) (occs before ++ own_at (Some c) (Some a)) rest)
      (new_is all alls (first_place (is_named c.name) before) (first_there (names c.name) refl before befores) at c a is
      ∙ ap (λ o. new_capture (occs all) o (record { cap = c; operand = a })) (sym earlier))

  holes_are : (all before ss : List Spot) → owns all → owns before → owns ss → operands_of here (holes_from all before ss) ≡ captures_from (occs all) (occs before) (occs ss)
  holes_are all before [] alls befores has = refl
  holes_are all before (s ∷ ss) alls befores has =
      let parts = and_parts (has_own view on s) (list_all (has_own view on) ss) has in
      let rest = holes_are all (before ++ s ∷ []) ss alls (owns_more before s befores parts.0) parts.1 in
      map-append (λ (hole : Name × Place). here hole.1) (hole_at all before s.place s.cap) (holes_from all (before ++ s ∷ []) ss)
      ∙ ap (λ xs. operands_of here (hole_at all before s.place s.cap) ++ xs) rest
      ∙ ap (λ b. operands_of here (hole_at all before s.place s.cap) ++ captures_from (occs all) b (occs ss)) (occs_more before s)
      ∙ hole_is all before alls befores s.place s.cap (here s.place) refl parts.0 (occs ss)

  -- ---- each capture has an operand where the tests hold and the holes have one

  fails_again : (all before : List Spot) (name : Name) (q : Place) → here q ≡ None → first_place (is_named name) before ≡ Some q → (at : Place) (c : Option Cap) → names name c ≡ true
      → list_all holds (probes_at at (cap_probe all before c)) ≡ false
  fails_again all before name q none first at None is = absurd (both_ways false refl is)
  fails_again all before name q none first at (Some c) is =
      let same = (bytes_eq-Decides c.name name).0 is in
      let found = subst (λ n. first_place (is_named n) before ≡ Some q) (sym same) first in
      ap (λ o. list_all holds (probes_at at (again (list_any (is_marked c.name) all) o))) found
      ∙ ap (λ b. b && true) (first_absent (list_any (is_marked c.name) all) q at none)

  fails_later : (all before ss : List Spot) (name : Name) (q : Place) → here q ≡ None → first_place (is_named name) before ≡ Some q → list_any (is_named name) ss ≡ true
      → list_all holds (tests_from all before ss) ≡ true → ⊥
  fails_later all before [] name q none first any hold = both_ways false refl any
  fails_later all before (s ∷ ss) name q none first any hold =
      let parts = and_parts (list_all holds (tests_at all before s)) (list_all holds (tests_from all (before ++ s ∷ []) ss))
      (sym (list_all-append holds (tests_at all before s) (tests_from all (before ++ s ∷ []) ss)) ∙ hold) in
      let rest = λ (later : list_any (is_named name) ss ≡ true). fails_later all (before ++ s ∷ []) ss name q none (first_place_append (is_named name) before (s ∷ []) q first) later parts.1 in
      by_name (names name s.cap) refl parts.0 rest any
    where
      by_name : (b : Bool) → names name s.cap ≡ b → list_all holds (tests_at all before s) ≡ true → (list_any (is_named name) ss ≡ true → ⊥) → (b || list_any (is_named name) ss) ≡ true → ⊥
      by_name true e tests rest any =
          let cap = (and_parts (head_holds view on s) (list_all holds (probes_at s.place (cap_probe all before s.cap))) (sym (tests_of all before s) ∙ tests)).1 in
          both_ways (list_all holds (probes_at s.place (cap_probe all before s.cap))) (fails_again all before name q none first s.place s.cap e) cap
      by_name false e tests rest any = rest any

  -- a capture without an operand that occurs here first and nowhere later stands for this place
  stands_here : (all before ss : List Spot) (s : Spot) (name : Name) → all ≡ before ++ s ∷ ss → first_place (is_named name) before ≡ None → list_any (is_named name) ss ≡ false
      → stands_for all name s.place ≡ s.place
  stands_here all before ss s name whole first none =
      let later = no_mark name ss (no_place (is_named name) ss none) in
      ap (λ xs. place_or (first_place (is_marked name) xs) s.place) whole
      ∙ ap (λ o. place_or o s.place) (first_place_later (is_marked name) before (s ∷ ss) (no_mark name before first))
      ∙ (elim (marks name s.cap) as (λ b. place_or (cond b (Some s.place) (first_place (is_marked name) ss)) s.place ≡ s.place)
      [ true ↦ refl | false ↦ ap (λ o. place_or o s.place) later ])

  own_there : (all before ss : List Spot) (s : Spot) → all ≡ before ++ s ∷ ss → list_all holds (probes_at s.place (cap_probe all before s.cap)) ≡ true
      → list_all is_some (operands_of here (hole_at all before s.place s.cap)) ≡ true → list_all holds (tests_from all (before ++ s ∷ []) ss) ≡ true → has_own view on s ≡ true
  own_there all before ss s whole test hole later = by_cap s.cap refl test hole where
    alone : (c : Cap) → s.cap ≡ Some c → here s.place ≡ None → first_place (is_named c.name) before ≡ None → list_all is_some (operands_of here (new_hole None c.name (stands_for all c.name s.place))) ≡ true → ⊥
    alone c is none first hole = by_later (list_any (is_named c.name) ss) refl where
      named : names c.name s.cap ≡ true
      named = ap (names c.name) is ∙ (bytes_eq-Decides c.name c.name).1 refl

      found_here : first_place (is_named c.name) (before ++ s ∷ []) ≡ Some s.place
      found_here = first_place_later (is_named c.name) before (s ∷ []) first ∙ ap (λ b. cond b (Some s.place) None) named

      by_later : (b : Bool) → list_any (is_named c.name) ss ≡ b → ⊥
      by_later true e = fails_later all (before ++ s ∷ []) ss c.name s.place none found_here e later
      by_later false e =
          let at = stands_here all before ss s c.name whole first e in
          both_ways (is_some (here (stands_for all c.name s.place)) && true)
          (ap (λ p. is_some (here p) && true) at ∙ ap (λ o. is_some o && true) none) hole

    without : (c : Cap) → s.cap ≡ Some c → here s.place ≡ None → (first : Option Place) → first_place (is_named c.name) before ≡ first
        → list_all holds (probes_at s.place (again (list_any (is_marked c.name) all) first)) ≡ true
        → list_all is_some (operands_of here (new_hole first c.name (stands_for all c.name s.place))) ≡ true → ⊥
    without c is none None first test hole = alone c is none first hole
    without c is none (Some q) first test hole =
        both_ways (holds (probe_at s.place (same_probe (list_any (is_marked c.name) all) q)) && true)
        (ap (λ b. b && true) (other_absent (list_any (is_marked c.name) all) q s.place none)) test

    by_cap : (c : Option Cap) → s.cap ≡ c → list_all holds (probes_at s.place (cap_probe all before c)) ≡ true
        → list_all is_some (operands_of here (hole_at all before s.place c)) ≡ true → has_cap s.cap (here s.place) ≡ true
    by_cap None is test hole = ap (λ c. has_cap c (here s.place)) is
    by_cap (Some c) is test hole = ap (λ d. has_cap d (here s.place)) is ∙ by_operand (here s.place) refl where
      by_operand : (o : Option Operand) → here s.place ≡ o → is_some (here s.place) ≡ true
      by_operand None none = absurd (without c is none (first_place (is_named c.name) before) refl test hole)
      by_operand (Some a) some = ap is_some some

  owned : (all before ss : List Spot) → all ≡ before ++ ss → list_all holds (tests_from all before ss) ≡ true → list_all is_some (operands_of here (holes_from all before ss)) ≡ true → owns ss
  owned all before [] whole tests holes = refl
  owned all before (s ∷ ss) whole tests holes =
      let tests_now = tests_at all before s in
      let tests_then = tests_from all (before ++ s ∷ []) ss in
      let holes_now = hole_at all before s.place s.cap in
      let holes_then = holes_from all (before ++ s ∷ []) ss in
      let t = and_parts (list_all holds tests_now) (list_all holds tests_then) (sym (list_all-append holds tests_now tests_then) ∙ tests) in
      let h = and_parts (list_all is_some (operands_of here holes_now)) (list_all is_some (operands_of here holes_then))
      (sym (list_all-append is_some (operands_of here holes_now) (operands_of here holes_then)) ∙ sym (ap (list_all is_some) (map-append (λ (hole : Name × Place). here hole.1) holes_now holes_then)) ∙ holes) in
      let cap = (and_parts (head_holds view on s) (list_all holds (probes_at s.place (cap_probe all before s.cap))) (sym (tests_of all before s) ∙ t.0)).1 in
      let mine = own_there all before ss s whole cap h.0 t.1 in
      let rest = owned all (before ++ s ∷ []) ss (whole ∙ sym (append_assoc before (s ∷ []) ss)) t.1 h.1 in
      ap (λ b. b && list_all (has_own view on) ss) mine ∙ rest

  -- ---- both together

  with_owns : (h a : Bool) (all : List Occurrence) (slots : List (Option Operand)) → list_all is_some slots ≡ true → slots ≡ captures_from all [] all → a ≡ all_agree all [] all
      → cond (h && a) (cond (list_all is_some slots) (Some (caps_of slots)) None) None ≡ option_and_then agreed (cond (h && true) (Some all) None)
  with_owns false a all slots there is agree = refl
  with_owns true a all slots there is agree =
      ap (λ b. cond a (cond b (Some (caps_of slots)) None) None) there
      ∙ ap (λ b. cond b (Some (caps_of slots)) None) agree
      ∙ ap (λ xs. cond (all_agree all [] all) (Some (caps_of xs)) None) is

  no_reads : (h : Bool) (all : List Occurrence) → option_and_then agreed (cond (h && false) (Some all) None) ≡ None
  no_reads false all = refl
  no_reads true all = refl

  pub found_by_spots : (all : List Spot) → found holds here (row_of_spots all) ≡ option_and_then agreed (reads view on all)
  found_by_spots all = by_owns (list_all (has_own view on) all) refl where
    by_holes : (b : Bool) → list_all holds (tests_from all [] all) ≡ true → list_all (has_own view on) all ≡ false → list_all is_some (operands_of here (holes_from all [] all)) ≡ b
        → cond b (Some (caps_of (operands_of here (holes_from all [] all)))) None ≡ None
    by_holes true t none h = absurd (both_ways (list_all (has_own view on) all) none (owned all [] all refl t h))
    by_holes false t none h = refl

    by_tests : (b : Bool) → list_all (has_own view on) all ≡ false → list_all holds (tests_from all [] all) ≡ b
        → cond b (filled here (holes_from all [] all)) None ≡ None
    by_tests true none t = by_holes (list_all is_some (operands_of here (holes_from all [] all))) t none refl
    by_tests false none t = refl

    by_owns : (b : Bool) → list_all (has_own view on) all ≡ b → found holds here (row_of_spots all) ≡ option_and_then agreed (reads view on all)
    by_owns true e =
        let are = holes_are all [] all e refl e in
        ap (λ b. cond b (filled here (holes_from all [] all)) None) (tests_are all [] all e refl e)
        ∙ with_owns (list_all (head_holds view on) all) (all_agree (occs all) [] (occs all)) (occs all) (operands_of here (holes_from all [] all))
        (ap (list_all is_some) are ∙ captures_there (occs all) [] (occs all)) are refl
        ∙ ap (λ b. option_and_then agreed (cond (list_all (head_holds view on) all && b) (Some (occs all)) None)) (sym e)
    by_owns false e =
        by_tests (list_all holds (tests_from all [] all)) e refl
        ∙ sym (no_reads (list_all (head_holds view on) all) (occs all))
        ∙ ap (λ b. option_and_then agreed (cond (list_all (head_holds view on) all && b) (Some (occs all)) None)) (sym e)
