-- A binary search in rows that rise by version finds what a search from the first row finds.
use Rattle.std.proofs.Common.{◌≡◌, ◌≢◌, ℕ, zero, suc, ◌<◌, ◌≤◌, Bool, true, List, [], ◌∷◌, length, map, get_or, Some, None, refl, sym, subst, inl, inr, arith, Less, Equal, Greater}
use Rattle.std.specs.Prelude.{◌==◌, nat_lt, IsTrue, Result, Ok, Err}
use Rattle.std.specs.List.{list_all}
use Rattle.std.specs.List.Sorted.{IsBinarySearchResult, IsSearchInRange, IsNonDecreasingBy, IsPartitionPoint}
use Rattle.std.specs.Ordering.{nat_cmp, ordering_index}
use Rattle.std.proofs.Math.Nat.{eq-or-lt_of_le}
use Rattle.std.proofs.lemmas.Bool.{cases_lt, and_parts}
use Rattle.std.proofs.lemmas.Grind.{common_steps}
use Rattle.gim_ast.specs.declared.function.Function.{Function}
use Rattle.gim_ast.specs.declared.function.NameRow.{NameRow}
use Rattle.gim_ast.specs.Functions.{first_where, row_of}
use Rattle.gim_ast.specs.WellFormed.{rises, names_rise}

-- ---- what the answer of a comparison says

equal : (a b : ℕ) → nat_cmp a b ≡ Equal → a ≡ b
equal a b e = grind (arith, common_steps)

less_apart : (a b : ℕ) → a ≡ b → nat_cmp a b ≡ Less → ⊥
less_apart a b same e = grind (arith, common_steps)

greater_apart : (a b : ℕ) → a ≡ b → nat_cmp a b ≡ Greater → ⊥
greater_apart a b same e = grind (arith, common_steps)

index_of_cmp : (a b x : ℕ) → a ≤ b → ordering_index (nat_cmp a x) ≤ ordering_index (nat_cmp b x)
index_of_cmp a b x lower = grind (arith, common_steps)

-- ---- rows that rise

abbrev version_of : NameRow → ℕ
version_of row = row.version

abbrev of_version : ℕ → NameRow → Bool
of_version x row = row.version == x

-- the versions of all rows lie above x
above : (x : ℕ) (rows : List NameRow) (i : ℕ) (d : NameRow) → IsTrue (list_all (nat_lt x) (map version_of rows)) → i < length rows → x < version_of (get_or rows i d)
above x [] i d all within = absurd (omega arith)
above x (row ∷ rows) zero d all within = let first : nat_lt x row.version ≡ true = (and_parts _ _ all).0 in grind (arith, common_steps)
above x (row ∷ rows) (suc i) d all within = above x rows i d ((and_parts _ _ all).1) (omega arith)

rises_strictly : (rows : List NameRow) (i j : ℕ) (d : NameRow) → IsTrue (rises (map version_of rows)) → i < j → j < length rows → version_of (get_or rows i d) < version_of (get_or rows j d)
rises_strictly [] i j d rise lower within = absurd (omega arith)
rises_strictly (row ∷ rows) i zero d rise lower within = absurd (omega arith)
rises_strictly (row ∷ rows) zero (suc j) d rise lower within = above row.version rows j d ((and_parts _ _ rise).0) (omega arith)
rises_strictly (row ∷ rows) (suc i) (suc j) d rise lower within = rises_strictly rows i j d ((and_parts _ _ rise).1) (omega arith) (omega arith)

never_falls : (rows : List NameRow) (i j : ℕ) (d : NameRow) → IsTrue (rises (map version_of rows)) → i ≤ j → j < length rows → version_of (get_or rows i d) ≤ version_of (get_or rows j d)
never_falls rows i j d rise lower within = elim (eq-or-lt_of_le lower) [ inl same ↦ rw same (omega arith) | inr strictly ↦ omega (arith, rises_strictly rows i j d rise strictly within) ]

answers_rise : (rows : List NameRow) (x : ℕ) → IsTrue (rises (map version_of rows)) → IsNonDecreasingBy (λ (row : NameRow). ordering_index (nat_cmp row.version x)) rows
answers_rise rows x rise i j d lower within = index_of_cmp (version_of (get_or rows i d)) (version_of (get_or rows j d)) x (never_falls rows i j d rise lower within)

-- the row of a version is the first of that version
first_found : (rows : List NameRow) (x i : ℕ) (found : NameRow) → IsTrue (rises (map version_of rows)) → i < length rows → found ≡ get_or rows i found → found.version ≡ x
    → first_where (of_version x) rows ≡ Some found
first_found [] x i found rise within at is = absurd (omega arith)
first_found (row ∷ rows) x zero found rise within at is = let same : row.version ≡ x = cc in grind (arith, common_steps)
first_found (row ∷ rows) x (suc i) found rise within at is =
    let lower : row.version < version_of (get_or rows i found) = above row.version rows i found ((and_parts _ _ rise).0) (omega arith) in
    let here : version_of (get_or rows i found) ≡ x = cc in
    let rest : first_where (of_version x) rows ≡ Some found = first_found rows x i found ((and_parts (list_all (nat_lt row.version) (map version_of rows)) (rises (map version_of rows)) rise).1) (omega arith) at is in
    grind (arith, common_steps)

-- where no row has the version, none is found
none_found : (rows : List NameRow) (x : ℕ) → ((i : ℕ) (d : NameRow) → i < length rows → version_of (get_or rows i d) ≢ x) → first_where (of_version x) rows ≡ None
none_found [] x none = refl
none_found (row ∷ rows) x none =
    let here : row.version ≢ x = none 0 row (omega arith) in
    let rest : first_where (of_version x) rows ≡ None = none_found rows x (λ i d within. none (suc i) d (omega arith)) in
    grind (arith, common_steps)

-- ---- what a binary search says

passed_over : (rows : List NameRow) (x i k : ℕ) (d : NameRow) → k < length rows → version_of (get_or rows k d) ≡ x
    → IsPartitionPoint (λ (row : NameRow). nat_cmp row.version x ≡ Less) (λ (row : NameRow). nat_cmp row.version x ≡ Greater) rows i → ⊥
passed_over rows x i k d within is split = elim (cases_lt k i) [
  | inl before ↦ less_apart (version_of (get_or rows k d)) x is (split.0 k d (omega arith) before)
  | inr after ↦ greater_apart (version_of (get_or rows k d)) x is (split.1 k d after within)
]

abbrev Searched : List NameRow → ℕ → Result ℕ ℕ → Type 0
Searched rows x r = IsBinarySearchResult (λ (row : NameRow). nat_cmp row.version x) rows r

pub row_found : (f : Function) (rows : List NameRow) (x : ℕ) (r : Result ℕ ℕ) (i : ℕ) (found : NameRow) → rows ≡ f.names → IsTrue (names_rise f)
    → IsSearchInRange r (length rows) → Searched rows x r → r ≡ Ok i → found ≡ get_or rows i found → Some found ≡ row_of f x
unfolding row_of
row_found f rows x r i found is rise within holds answer at =
    let rising : IsTrue (rises (map version_of rows)) = rw is rise in
    let inside : IsSearchInRange (Ok i) (length rows) = subst (λ s. IsSearchInRange s (length rows)) answer within in
    let there : Searched rows x (Ok i) = subst (Searched rows x) answer holds in
    let same : found.version ≡ x = equal found.version x (subst (λ (row : NameRow). nat_cmp row.version x ≡ Equal) (sym at) (there found)) in
    sym (subst (λ (rs : List NameRow). first_where (of_version x) rs ≡ Some found) is (first_found rows x i found rising inside at same))

pub row_missing : (f : Function) (rows : List NameRow) (x : ℕ) (r : Result ℕ ℕ) (i : ℕ) → rows ≡ f.names → IsTrue (names_rise f)
    → Searched rows x r → r ≡ Err i → None ≡ row_of f x
unfolding row_of
row_missing f rows x r i is rise holds answer =
    let rising : IsTrue (rises (map version_of rows)) = rw is rise in
    let there : Searched rows x (Err i) = subst (Searched rows x) answer holds in
    let missing = none_found rows x (λ k d within same. passed_over rows x i k d within same (there (answers_rise rows x rising))) in
    sym (subst (λ (rs : List NameRow). first_where (of_version x) rs ≡ None) is missing)
