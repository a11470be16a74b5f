-- The rows of names in a table by version, and the list that the table holds.
use Rattle.std.proofs.Common.{◌≡◌, ℕ, suc, ◌+◌, add-one, ◌<◌, Bool, true, false, cond, List, [], ◌∷◌, ◌++◌}
use Rattle.std.proofs.Common.{length, get_or, map, take, Option, Some, refl, sym, ap, subst, ◌∙◌, arith}
use Rattle.std.specs.Prelude.{◌==◌, nat_lt, slice_get}
use Rattle.std.specs.BTreeMap as tree
use Rattle.std.specs.BTreeMap.{BTreeMap, is_at}
use Rattle.std.specs.List.{flat_map, list_all, All}
use Rattle.std.specs.List.Sorted.{IsStrictlySortedBy}
use Rattle.std.specs.Map.{lookup, keys_of, values_of}
use Rattle.std.specs.Option.{option_or}
use Rattle.std.specs.Ordering.{nat_cmp, is_eq}
use Rattle.std.specs.declared.cmp.Ordering.TheVariants.{Less}
use Rattle.std.proofs.lemmas.Bool.{and_from, lt-ltb, eqb-true}
use Rattle.std.proofs.lemmas.Bool.Decides.{nat_tests}
use Rattle.std.proofs.lemmas.Cmp.{nat_cmp_total, ranked}
use Rattle.std.proofs.lemmas.Grind.{flat_map-append}
use Rattle.std.proofs.lemmas.List.{append-nil}
use Rattle.std.proofs.lemmas.List.Elements.{All-head, All-tail}
use Rattle.std.proofs.lemmas.Map.Entries.{btree_map_get_place}
use Rattle.std.proofs.lemmas.Map.Keys.{sorted_tail}
use Rattle.std.proofs.lemmas.Map.Views.{All-after_first}
use Rattle.std.proofs.Math.Seq.{take-suc}
use Rattle.gim_ast.specs.declared.function.NameRow.{NameRow}
use Rattle.gim_ast.specs.WellFormed.{rises}
use Rattle.gim_making.specs.Names.{AreNames, first_of, version_of}

-- ---- the first row of a version

append_by : (b : Bool) (x : NameRow) (here there later : Option NameRow) → there ≡ option_or here later
    → cond b (Some x) there ≡ option_or (cond b (Some x) here) later
append_by true x here there later e = refl
append_by false x here there later e = e

pub first_of-append : (v : ℕ) (xs ys : List NameRow) → first_of v (xs ++ ys) ≡ option_or (first_of v xs) (first_of v ys)
first_of-append v [] ys = refl
first_of-append v (x ∷ xs) ys =
    append_by (x.version == v) x (first_of v xs) (first_of v (xs ++ ys)) (first_of v ys) (first_of-append v xs ys)

has_by : (b : Bool) (v : ℕ) (x row : NameRow) (later : Option NameRow) → (x.version == v) ≡ b
    → (later ≡ Some row → row.version ≡ v) → cond b (Some x) later ≡ Some row → row.version ≡ v
has_by true v x row later t h e = let same : x ≡ row = cc in subst (λ (r : NameRow). r.version ≡ v) same (eqb-true x.version v t)
has_by false v x row later t h e = h e

pub first_of_has : (v : ℕ) (rows : List NameRow) (row : NameRow) → first_of v rows ≡ Some row → row.version ≡ v
first_of_has v [] row e = absurd cc
first_of_has v (x ∷ rows) row e = has_by (x.version == v) v x row (first_of v rows) refl (first_of_has v rows row) e

-- one place more
pub first_of_more : {X : Type 0} (rows_at : X → List NameRow) (v : ℕ) (xs : List X) (i : ℕ) (d : X) → i < length xs
    → first_of v (flat_map rows_at (take (i + 1) xs))
    ≡ option_or (first_of v (flat_map rows_at (take i xs))) (first_of v (rows_at (get_or xs i d)))
first_of_more rows_at v xs i d lt =
    let x = get_or xs i d in
    let one : flat_map rows_at (x ∷ []) ≡ rows_at x = append-nil (rows_at x) in
    let front : take (i + 1) xs ≡ take i xs ++ x ∷ [] = rw add-one (take-suc xs i d lt) in
    ap (λ ys. first_of v (flat_map rows_at ys)) front
    ∙ ap (first_of v) (flat_map-append rows_at (take i xs) (x ∷ []) ∙ ap (λ ys. flat_map rows_at (take i xs) ++ ys) one)
    ∙ first_of-append v (flat_map rows_at (take i xs)) (rows_at x)

-- ---- a table by version

-- each row stands at its version
abbrev AreKeyed : List (ℕ × NameRow) → Type 0
AreKeyed [] = Unit {0}
AreKeyed (entry ∷ entries) = (entry.1.version ≡ entry.0) × AreKeyed entries

are_keyed : (entries : List (ℕ × NameRow))
    → ((i k : ℕ) (row : NameRow) → slice_get entries i ≡ Some (k, row) → row.version ≡ k) → AreKeyed entries
are_keyed [] h = tt
are_keyed (entry ∷ entries) h = (h 0 entry.0 entry.1 refl, are_keyed entries (λ i. h (suc i)))

all_above : (v : ℕ) (entries : List (ℕ × NameRow)) → All (λ k. nat_cmp v k ≡ Less) (keys_of entries) → AreKeyed entries
    → list_all (nat_lt v) (map version_of (values_of entries)) ≡ true
all_above v [] above keyed = refl
all_above v (entry ∷ entries) above keyed =
    let up : v < entry.0 = ranked v entry.0 Less (sym (All-head (λ k. nat_cmp v k ≡ Less) entry.0 (keys_of entries) above)) in
    and_from (nat_lt v entry.1.version) (list_all (nat_lt v) (map version_of (values_of entries)))
    (lt-ltb v entry.1.version (subst (λ k. v < k) (sym keyed.0) up))
    (all_above v entries (All-tail (λ k. nat_cmp v k ≡ Less) entry.0 (keys_of entries) above) keyed.1)

values_rise : (entries : List (ℕ × NameRow)) → IsStrictlySortedBy nat_cmp (keys_of entries) → AreKeyed entries
    → rises (map version_of (values_of entries)) ≡ true
values_rise [] sorted keyed = refl
values_rise (entry ∷ entries) sorted keyed =
    and_from (list_all (nat_lt entry.1.version) (map version_of (values_of entries))) (rises (map version_of (values_of entries)))
    (subst (λ k. list_all (nat_lt k) (map version_of (values_of entries)) ≡ true) (sym keyed.0)
    (all_above entry.0 entries (All-after_first nat_cmp entry.0 (keys_of entries) sorted) keyed.1))
    (values_rise entries (sorted_tail nat_cmp entry.0 (keys_of entries) sorted) keyed.1)

same_test : (v k : ℕ) → (k == v) ≡ is_eq (nat_cmp v k)
same_test v k = grind (arith, nat_tests)

first_of_values : (v : ℕ) (entries : List (ℕ × NameRow)) → AreKeyed entries
    → first_of v (values_of entries) ≡ lookup (is_at (nat_cmp v)) entries
first_of_values v [] keyed = refl
first_of_values v (entry ∷ entries) keyed =
    ap (λ b. cond b (Some entry.1) (first_of v (values_of entries))) (ap (λ k. k == v) keyed.0 ∙ same_test v entry.0)
    ∙ ap (λ rest. cond (is_eq (nat_cmp v entry.0)) (Some entry.1) rest) (first_of_values v entries keyed.1)

-- a table of the first row of each version holds the names
pub are_names : (rows : List NameRow) (table : BTreeMap ℕ NameRow) → tree.IsOrdered nat_cmp table
    → ((v : ℕ) → tree.get nat_cmp table v ≡ first_of v rows) → AreNames rows (tree.values table)
are_names rows table ordered gives =
    let keyed : AreKeyed table.entries =
    are_keyed table.entries (λ i k row at.
    first_of_has k rows row (sym (gives k) ∙ btree_map_get_place nat_cmp_total table i k row ordered at)) in
    record { rising = values_rise table.entries ordered keyed; same = λ v. first_of_values v table.entries keyed ∙ gives v }
