-- A file stands for one list of functions.
use Rattle.std.proofs.Common.{◌≡◌, ◌≢◌, ◌⊎◌, ℕ, ◌<◌, ◌==◌, ltb, Bool, true, false, List, [], ◌∷◌, map}
use Rattle.std.proofs.Common.{Option, Some, None, refl, sym, ap, subst, ◌∙◌, arith, inl, inr}
use Rattle.std.specs.Prelude.{nat_lt}
use Rattle.std.specs.List.{AllZip, list_all}
use Rattle.std.proofs.lemmas.Bool.{and_parts, eqb-true, eq-eqb, ne_eqb, ltb-true, ltb-false}
use Rattle.gim_ast.specs.declared.function.Function.{Function}
use Rattle.gim_ast.specs.declared.function.NameRow.{NameRow}
use Rattle.gim_ast.specs.WellFormed.{rises}
use Rattle.gim_text.specs.declared.tree.FunctionText.{FunctionText}
use Rattle.gim_making.specs.Names.{first_of, version_of}
use Rattle.gim_making.specs.Standing.{StandsFor, made}

abbrev Above : ℕ → List NameRow → Type 0
Above v rows = list_all (nat_lt v) (map version_of rows) ≡ true

-- no row of the version where all are above
above_first : (v w : ℕ) (rows : List NameRow) → Above w rows → (v < w) ⊎ (v ≡ w) → first_of v rows ≡ None
above_first v w [] above low = refl
above_first v w (row ∷ rows) above low =
    let p = and_parts (nat_lt w row.version) (list_all (nat_lt w) (map version_of rows)) above in
    let greater : w < row.version = ltb-true w row.version p.0 in
    let other : (row.version == v) ≡ false = ne_eqb row.version v (λ e. apart v w row.version greater e low) in
    rw other (above_first v w rows p.1 low)
  where
    apart : (v w r : ℕ) → w < r → r ≡ v → (v < w) ⊎ (v ≡ w) → ⊥
    apart v w r greater e (inl h) = omega arith
    apart v w r greater e (inr h) = omega arith

first_here : (row : NameRow) (rows : List NameRow) → first_of row.version (row ∷ rows) ≡ Some row
first_here row rows = rw (eq-eqb row.version row.version refl) refl

first_after : (v : ℕ) (row : NameRow) (rows : List NameRow) → row.version ≢ v → first_of v (row ∷ rows) ≡ first_of v rows
first_after v row rows other = rw (ne_eqb row.version v other) refl

-- of two lists that rise, with the same first row of each version, the heads are one
heads : (x y : NameRow) (xs ys : List NameRow) → Above x.version xs → Above y.version ys
    → ((v : ℕ) → first_of v (x ∷ xs) ≡ first_of v (y ∷ ys)) → x ≡ y
heads x y xs ys above_x above_y same = by (x.version == y.version) refl (ltb x.version y.version) refl where
  has : (a b : NameRow) → ◌≡◌ {A = Option NameRow} (Some a) (Some b) → a ≡ b
  has a b e = cc

  gone : (a : NameRow) → ◌≡◌ {A = Option NameRow} (Some a) None → ⊥
  gone a e = cc

  by : (equal : Bool) → (x.version == y.version) ≡ equal → (less : Bool) → ltb x.version y.version ≡ less → x ≡ y
  by true e less l =
      let same_version : x.version ≡ y.version = eqb-true x.version y.version e in
      has x y (sym (first_here x xs) ∙ same x.version ∙ ap (λ v. first_of v (y ∷ ys)) same_version ∙ first_here y ys)
  by false e true l =
      let lower : x.version < y.version = ltb-true x.version y.version l in
      let other : y.version ≢ x.version = λ h. absurd (omega (arith, lower, h)) in
      absurd (gone x (sym (first_here x xs) ∙ same x.version ∙ first_after x.version y ys other
      ∙ above_first x.version y.version ys above_y (inl lower)))
  by false e false l =
      let at_least = ltb-false x.version y.version l in
      let unlike : x.version ≢ y.version = λ h. absurd (let t : (x.version == y.version) ≡ true = eq-eqb x.version y.version h in cc) in
      let lower : y.version < x.version = omega (arith, at_least, unlike) in
      absurd (gone y (sym (first_here y ys) ∙ sym (same y.version) ∙ first_after y.version x xs unlike
      ∙ above_first y.version x.version xs above_x (inl lower)))

tails : (x : NameRow) (xs ys : List NameRow) → Above x.version xs → Above x.version ys
    → ((v : ℕ) → first_of v (x ∷ xs) ≡ first_of v (x ∷ ys)) → (v : ℕ) → first_of v xs ≡ first_of v ys
tails x xs ys above_xs above_ys same v = by (x.version == v) refl where
  by : (equal : Bool) → (x.version == v) ≡ equal → first_of v xs ≡ first_of v ys
  by true e =
      let here : v ≡ x.version = sym (eqb-true x.version v e) in
      above_first v x.version xs above_xs (inr here) ∙ sym (above_first v x.version ys above_ys (inr here))
  by false e =
      let other : x.version ≢ v = λ h. absurd (let t : (x.version == v) ≡ true = eq-eqb x.version v h in cc) in
      sym (first_after v x xs other) ∙ same v ∙ first_after v x ys other

names_once : (xs ys : List NameRow) → rises (map version_of xs) ≡ true → rises (map version_of ys) ≡ true
    → ((v : ℕ) → first_of v xs ≡ first_of v ys) → xs ≡ ys
names_once [] [] rise_xs rise_ys same = refl
names_once [] (y ∷ ys) rise_xs rise_ys same = absurd (let e = same y.version ∙ first_here y ys in cc)
names_once (x ∷ xs) [] rise_xs rise_ys same = absurd (let e = sym (same x.version) ∙ first_here x xs in cc)
names_once (x ∷ xs) (y ∷ ys) rise_xs rise_ys same =
    let p = and_parts (list_all (nat_lt x.version) (map version_of xs)) (rises (map version_of xs)) rise_xs in
    let q = and_parts (list_all (nat_lt y.version) (map version_of ys)) (rises (map version_of ys)) rise_ys in
    let e = heads x y xs ys p.0 q.0 same in
    let above : Above x.version ys = subst (λ (r : NameRow). Above r.version ys) (sym e) q.0 in
    let rest =
    names_once xs ys p.1 q.1 (tails x xs ys p.0 above
    (subst (λ (r : NameRow). (v : ℕ) → first_of v (x ∷ xs) ≡ first_of v (r ∷ ys)) (sym e) same)) in
    rw (e, rest) refl

stands_once : (source : List ℕ) (tree : FunctionText) (f g : Function) → StandsFor source tree f → StandsFor source tree g → f ≡ g
stands_once source tree f g of_f of_g =
    let names = names_once f.names g.names of_f.names.rising of_g.names.rising (λ v. of_f.names.same v ∙ sym (of_g.names.same v)) in
    of_f.whole ∙ ap (made source tree) names ∙ sym of_g.whole

pub stand_once : (source : List ℕ) (trees : List FunctionText) (fs gs : List Function)
    → AllZip (StandsFor source) trees fs → AllZip (StandsFor source) trees gs → fs ≡ gs
stand_once source [] [] [] all_f all_g = refl
stand_once source [] (f ∷ fs) gs all_f all_g = absurd all_f
stand_once source [] [] (g ∷ gs) all_f all_g = absurd all_g
stand_once source (tree ∷ trees) [] gs all_f all_g = absurd all_f
stand_once source (tree ∷ trees) (f ∷ fs) [] all_f all_g = absurd all_g
stand_once source (tree ∷ trees) (f ∷ fs) (g ∷ gs) all_f all_g =
    rw (stands_once source tree f g all_f.0 all_g.0, stand_once source trees fs gs all_f.1 all_g.1) refl
