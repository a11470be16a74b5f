-- The names of a function that is made are the rows of its text.
use Rattle.std.proofs.Common.{◌≡◌, ℕ, ◌<◌, Bool, true, false, cond, Option, Some, List, []}
use Rattle.std.proofs.Common.{◌∷◌, map, refl, sym, ap, subst, ◌∙◌, arith, inl, inr}
use Rattle.std.specs.Prelude.{◌==◌, nat_lt}
use Rattle.std.specs.List.{list_all}
use Rattle.std.proofs.lemmas.Bool.{and_parts, ltb-true, eqb-true, eq-eqb, false≢true}
use Rattle.gim_ast.specs.declared.function.NameRow.{NameRow}
use Rattle.gim_ast.specs.WellFormed.{rises}
use Rattle.gim_text.specs.declared.tree.FunctionText.{FunctionText}
use Rattle.gim_names.specs.KeepsNames.{KeepsNames}
use Rattle.gim_making.specs.Names.{AreNames, first_of, version_of, named_rows}
use Rattle.gim_text.proofs.Membership.{Has}
use Rattle.gim_making.proofs.NamePlaces.{AreSmall, rows_agree}

-- ---- the first row of a version

here_by : (b : Bool) (v : ℕ) (x row : NameRow) (later : Option NameRow) → (x.version == v) ≡ b
    → ((x.version == v) ≡ true → x ≡ row) → ((x.version == v) ≡ false → later ≡ Some row)
    → cond b (Some x) later ≡ Some row
here_by true v x row later is same other = ap Some (same is)
here_by false v x row later is same other = other is

behind_other : (x row : NameRow) (rows : List NameRow) → Has (x ∷ rows) row → (x.version == row.version) ≡ false → Has rows row
behind_other x row rows (inl e) other = absurd (false≢true (sym other ∙ eq-eqb x.version row.version (ap version_of e)))
behind_other x row rows (inr h) other = h

-- where no other row has its version, a row is the first of it
pub first_of_here : (rows : List NameRow) (row : NameRow) → Has rows row
    → ((other : NameRow) → Has rows other → other.version ≡ row.version → other ≡ row)
    → first_of row.version rows ≡ Some row
first_of_here [] row h one = absurd h
first_of_here (x ∷ rows) row h one =
    here_by (x.version == row.version) row.version x row (first_of row.version rows) refl
    (λ same. one x (inl refl) (eqb-true x.version row.version same))
    (λ other. first_of_here rows row (behind_other x row rows h other) (λ y there. one y (inr there)))

in_by : (b : Bool) (x row : NameRow) (rows : List NameRow) (later : Option NameRow) → (later ≡ Some row → Has rows row)
    → cond b (Some x) later ≡ Some row → Has (x ∷ rows) row
in_by true x row rows later h e = let same : x ≡ row = cc in inl same
in_by false x row rows later h e = inr (h e)

pub first_of_in : (v : ℕ) (rows : List NameRow) (row : NameRow) → first_of v rows ≡ Some row → Has rows row
first_of_in v [] row e = absurd cc
first_of_in v (x ∷ rows) row e = in_by (x.version == v) x row rows (first_of v rows) (first_of_in v rows row) e

-- ---- rising rows

pub above : (v : ℕ) (rows : List NameRow) → list_all (nat_lt v) (map version_of rows) ≡ true → (row : NameRow)
    → Has rows row → v < row.version
above v [] h row has = absurd has
above v (r ∷ rows) h row (inl e) =
    subst (λ (x : NameRow). v < x.version) e
    (ltb-true v r.version (and_parts (nat_lt v r.version) (list_all (nat_lt v) (map version_of rows)) h).0)
above v (r ∷ rows) h row (inr has) = above v rows (and_parts (nat_lt v r.version) (list_all (nat_lt v) (map version_of rows)) h).1 row has

pub one_of_version : (rows : List NameRow) → rises (map version_of rows) ≡ true → (a b : NameRow) → Has rows a
    → Has rows b → a.version ≡ b.version → a ≡ b
one_of_version [] h a b p q e = absurd p
one_of_version (r ∷ rows) h a b (inl p) (inl q) e = sym p ∙ q
one_of_version (r ∷ rows) h a b (inl p) (inr q) e =
    let far : r.version < b.version =
    above r.version rows (and_parts (list_all (nat_lt r.version) (map version_of rows)) (rises (map version_of rows))
    h).0 b q in
    let same : r.version ≡ a.version = ap version_of p in
    absurd (omega arith)
one_of_version (r ∷ rows) h a b (inr p) (inl q) e =
    let far : r.version < a.version =
    above r.version rows (and_parts (list_all (nat_lt r.version) (map version_of rows)) (rises (map version_of rows))
    h).0 a p in
    let same : r.version ≡ b.version = ap version_of q in
    absurd (omega arith)
one_of_version (r ∷ rows) h a b (inr p) (inr q) e =
    one_of_version rows (and_parts (list_all (nat_lt r.version) (map version_of rows)) (rises (map version_of rows))
    h).1 a b p q e

-- ---- names

-- a row of the text is found by its version
pub found_row : (source : List ℕ) (tree : FunctionText) (names : List NameRow) → KeepsNames source tree
    → AreSmall source tree → AreNames (named_rows source tree) names → (row : NameRow)
    → Has (named_rows source tree) row → first_of row.version names ≡ Some row
found_row source tree names kept small are row h =
    are.same row.version ∙ first_of_here (named_rows source tree) row h
    (λ other there e. rows_agree source tree kept small other row there h e)

pub row_is_name : (source : List ℕ) (tree : FunctionText) (names : List NameRow) → KeepsNames source tree
    → AreSmall source tree → AreNames (named_rows source tree) names → (row : NameRow)
    → Has (named_rows source tree) row → Has names row
row_is_name source tree names kept small are row h = first_of_in row.version names row (found_row source tree names kept small are row h)

pub name_is_row : (source : List ℕ) (tree : FunctionText) (names : List NameRow)
    → AreNames (named_rows source tree) names → (row : NameRow) → Has names row → Has (named_rows source tree) row
name_is_row source tree names are row h =
    first_of_in row.version (named_rows source tree) row
    (sym (are.same row.version) ∙ first_of_here names row h
    (λ other there e. one_of_version names are.rising other row there h e))
