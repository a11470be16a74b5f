-- What a filter leaves of lists that rise, are distinct or are searched.
use Rattle.std.proofs.Common.{◌≡◌, ℕ, ◌≤◌, suc, Bool, true, false, cond, Some, List, [], ◌∷◌, ◌++◌, not, length, map, filter, flat_map, refl, ap, subst, arith}
use Rattle.std.specs.Prelude.{nat_lt, if◌then◌else◌}
use Rattle.std.specs.List.{list_any, list_all}
use Rattle.std.proofs.lemmas.Bool.{and_parts, and_from, not-true, both_ways, false_from_ne_true}
use Rattle.gim_ast.specs.declared.function.NameRow.{NameRow}
use Rattle.gim_ast.specs.Functions.{first_where}
use Rattle.gim_ast.specs.WellFormed.{same_text, all_distinct, rises, initial_bases}
use Rattle.gim_changes.proofs.Members.{IsMember, all_members, all_from_members, member_mapped, mapped_member, member_filtered}
use Rattle.gim_changes.proofs.TrimmedFirst.{any_of_parts}

pub fewer_filtered : {X : Type 0} (p : X → Bool) (xs : List X) → length (filter p xs) ≤ length xs
fewer_filtered p [] = omega arith
fewer_filtered p (x ∷ xs) = by (p x) (fewer_filtered p xs)
  where
    by : (b : Bool) → length (filter p xs) ≤ length xs → length (cond b (x ∷ filter p xs) (filter p xs)) ≤ suc (length xs)
    by true rest = omega (arith, rest)
    by false rest = omega (arith, rest)

-- the rest of a list after its first is in the rest
all_filtered : (p : NameRow → Bool) (q : ℕ → Bool) (rows : List NameRow) → list_all q (map (λ (row : NameRow). row.version) rows) ≡ true →
    list_all q (map (λ (row : NameRow). row.version) (filter p rows)) ≡ true
all_filtered p q rows all =
    all_from_members q (map (λ (row : NameRow). row.version) (filter p rows)) (λ v one.
    let found = member_mapped (λ (row : NameRow). row.version) v (filter p rows) one in
    all_members q (map (λ (row : NameRow). row.version) rows) all v
    (subst (λ w. IsMember w (map (λ (row : NameRow). row.version) rows)) found.2 (mapped_member (λ (row : NameRow). row.version) found.0 rows ((member_filtered p found.0 rows found.1).0))))

pub rises_filtered : (p : NameRow → Bool) (rows : List NameRow) → rises (map (λ (row : NameRow). row.version) rows) ≡ true → rises (map (λ (row : NameRow). row.version) (filter p rows)) ≡ true
rises_filtered p [] h = refl
rises_filtered p (r ∷ rows) h =
    let parts = and_parts (list_all (nat_lt r.version) (map (λ (row : NameRow). row.version) rows)) (rises (map (λ (row : NameRow). row.version) rows)) h in
    by (p r) (all_filtered p (nat_lt r.version) rows parts.0) (rises_filtered p rows parts.1)
  where
    by : (b : Bool) → list_all (nat_lt r.version) (map (λ (row : NameRow). row.version) (filter p rows)) ≡ true → rises (map (λ (row : NameRow). row.version) (filter p rows)) ≡ true →
        rises (map (λ (row : NameRow). row.version) (cond b (r ∷ filter p rows) (filter p rows))) ≡ true
    by true above rest = and_from _ _ above rest
    by false above rest = rest

abbrev base_if : NameRow → List (List ℕ)
base_if row = if row.initial then row.base ∷ [] else []

pub initials_filtered : (p : NameRow → Bool) (rows : List NameRow) → all_distinct same_text (initial_bases rows) ≡ true → all_distinct same_text (initial_bases (filter p rows)) ≡ true
initials_filtered p [] h = refl
initials_filtered p (r ∷ rows) h = by (p r) r.initial h (λ k. initials_filtered p rows k)
  where
    by : (b i : Bool) → all_distinct same_text (cond i (r.base ∷ []) [] ++ initial_bases rows) ≡ true →
        (all_distinct same_text (initial_bases rows) ≡ true → all_distinct same_text (initial_bases (filter p rows)) ≡ true) →
        all_distinct same_text (flat_map (λ (row : NameRow). cond row.initial (row.base ∷ []) []) (cond b (record r { initial = i } ∷ filter p rows) (filter p rows))) ≡ true
    by true true all rest =
        let parts = and_parts (not (list_any (same_text r.base) (initial_bases rows))) (all_distinct same_text (initial_bases rows)) all in
        and_from (not (list_any (same_text r.base) (initial_bases (filter p rows)))) (all_distinct same_text (initial_bases (filter p rows)))
        (ap not (false_from_ne_true (list_any (same_text r.base) (initial_bases (filter p rows)))
        (λ any. both_ways (list_any (same_text r.base) (initial_bases rows)) (not-true (list_any (same_text r.base) (initial_bases rows)) parts.0)
        (any_of_parts (same_text r.base) base_if p rows any))))
        (rest parts.1)
    by true false all rest = rest all
    by false true all rest = rest ((and_parts _ _ all).1)
    by false false all rest = rest all

-- a search for what stays finds the same
pub first_of_filtered : {X : Type 0} (p q : X → Bool) → ((x : X) → q x ≡ true → p x ≡ true) → (xs : List X) → first_where q (filter p xs) ≡ first_where q xs
first_of_filtered p q stays [] = refl
first_of_filtered {X} p q stays (x ∷ xs) = by (p x) (q x) refl (stays x) (first_of_filtered p q stays xs)
  where
    by : (b c : Bool) → q x ≡ c → (q x ≡ true → b ≡ true) → first_where q (filter p xs) ≡ first_where q xs → first_where q (cond b (x ∷ filter p xs) (filter p xs)) ≡ cond c (Some x) (first_where q xs)
    by true true is kept rest = rw is refl
    by true false is kept rest = rw is rest
    by false true is kept rest = absurd (both_ways false refl (kept is))
    by false false is kept rest = rest
