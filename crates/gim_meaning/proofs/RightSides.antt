-- In a well-formed function the right side of a name is that of its statement, and no phi or
-- default definition has one.
use Rattle.std.proofs.Common.{◌≡◌, ℕ, Bool, true, false, cond, eqb, Option, Some, None, List, []}
use Rattle.std.proofs.Common.{◌∷◌, ◌++◌, ◌&&◌, ◌||◌, not, map, refl, sym, ap, subst, ◌∙◌, ⊎_elim}
use Rattle.std.proofs.Common.{arith}
use Rattle.std.specs.Bool.{IsTrue}
use Rattle.std.specs.Prelude.{option_map}
use Rattle.std.specs.Option.{option_map_or}
use Rattle.std.specs.List.{list_any, list_all, flat_map, AllByRecursion}
use Rattle.std.proofs.lemmas.Bool.{and_parts, not-true, or_parts, or_cases, or_left, or_right}
use Rattle.std.proofs.lemmas.Bool.{both_ways, eq-eqb, eqb-true}
use Rattle.std.proofs.lemmas.Bool.Decides.{nat_tests}
use Rattle.std.proofs.lemmas.List.Folds.{list_any-append}
use Rattle.std.proofs.lemmas.Option.{same_Some, none-some}
use Rattle.gim_ast.specs.declared.function.Function.{Function}
use Rattle.gim_ast.specs.declared.function.Block.{Block}
use Rattle.gim_ast.specs.declared.function.Phi.{Phi}
use Rattle.gim_ast.specs.declared.function.Stmt.{Stmt}
use Rattle.gim_ast.specs.declared.function.NameRow.{NameRow}
use Rattle.gim_ast.specs.declared.function.Rhs.{Rhs}
use Rattle.gim_ast.specs.Functions.{first_where, phi_name, stmt_name, assigned_in, assigned}
use Rattle.gim_ast.specs.Functions.{right_of, row_of, block_of, is_used}
use Rattle.gim_ast.specs.WellFormed.{IsWellFormed, all_distinct, is_assigned, same_text, base_holds}
use Rattle.gim_ast.specs.WellFormed.{row_stands}
use Rattle.gim_ast.specs.Readable.{is_initial}
use Rattle.gim_meaning.proofs.ListSearch.{first_of_front, first_behind, found_passes, all_of_found}
use Rattle.gim_meaning.specs.ReachedPoints.{Lies}

-- ---- lists of distinct names

-- the name is one of them
abbrev pub Has : ℕ → List ℕ → Type 0
Has y xs = list_any (eqb y) xs ≡ true

abbrev pub HasNot : ℕ → List ℕ → Type 0
HasNot y xs = list_any (eqb y) xs ≡ false

abbrev pub AreDistinct : List ℕ → Type 0
AreDistinct xs = all_distinct eqb xs ≡ true

pub in_front : (y : ℕ) (xs ys : List ℕ) → Has y xs → Has y (xs ++ ys)
in_front y xs ys h = list_any-append (eqb y) xs ys
    ∙ or_left (list_any (eqb y) xs) (list_any (eqb y) ys) h

pub in_back : (y : ℕ) (xs ys : List ℕ) → Has y ys → Has y (xs ++ ys)
in_back y xs ys h = list_any-append (eqb y) xs ys
    ∙ or_right (list_any (eqb y) xs) (list_any (eqb y) ys) h

-- a name of the front doesn't stand behind it
pub not_behind : (y : ℕ) (xs ys : List ℕ) → AreDistinct (xs ++ ys) → Has y xs → HasNot y ys
not_behind y [] ys h e = absurd (both_ways false refl e)
not_behind y (x ∷ xs) ys h e =
    let parts = and_parts _ _ h in
    let none = not-true (list_any (eqb x) (xs ++ ys)) parts.0 in
    ⊎_elim
    (λ here. let same = eqb-true y x here in
    (or_parts (list_any (eqb y) xs) (list_any (eqb y) ys)
    (sym (list_any-append (eqb y) xs ys)
    ∙ subst (λ z. list_any (eqb z) (xs ++ ys) ≡ false) (sym same) none)).1)
    (λ later. not_behind y xs ys parts.1 later)
    (or_cases (eqb y x) (list_any (eqb y) xs) e)

-- nor does a name from behind stand in the front
not_before : (y : ℕ) (xs ys : List ℕ) → AreDistinct (xs ++ ys) → Has y ys → HasNot y xs
not_before y xs ys h e = by (list_any (eqb y) xs) refl
  where
    by : (b : Bool) → list_any (eqb y) xs ≡ b → b ≡ false
    by true is = absurd (both_ways (list_any (eqb y) ys) (not_behind y xs ys h is) e)
    by false is = refl

pub back_distinct : (xs ys : List ℕ) → AreDistinct (xs ++ ys) → AreDistinct ys
back_distinct [] ys h = h
back_distinct (x ∷ xs) ys h = back_distinct xs ys ((and_parts _ _ h).1)

pub front_distinct : (xs ys : List ℕ) → AreDistinct (xs ++ ys) → AreDistinct xs
front_distinct [] ys h = refl
front_distinct (x ∷ xs) ys h =
    let parts = and_parts (not (list_any (eqb x) (xs ++ ys))) (all_distinct eqb (xs ++ ys)) h in
    let none = or_parts (list_any (eqb x) xs) (list_any (eqb x) ys)
    (sym (list_any-append (eqb x) xs ys) ∙ not-true (list_any (eqb x) (xs ++ ys)) parts.0) in
    rw none.0 (front_distinct xs ys parts.1)

-- ---- the statement of a name

-- the statement assigns the name
abbrev pub assigns : ℕ → Stmt → Bool
assigns y stmt = eqb stmt.name y

no_stmt : (y : ℕ) (stmts : List Stmt) → HasNot y (map stmt_name stmts) →
    first_where (assigns y) stmts ≡ None
no_stmt y [] h = refl
no_stmt y (stmt ∷ stmts) h =
    let parts = or_parts (eqb y stmt.name) (list_any (eqb y) (map stmt_name stmts)) h in
    by (eqb stmt.name y) refl parts.0 (no_stmt y stmts parts.1)
  where
    by : (b : Bool) → eqb stmt.name y ≡ b → eqb y stmt.name ≡ false →
        first_where (assigns y) stmts ≡ None →
        cond b (Some stmt) (first_where (assigns y) stmts) ≡ None
    by true is other rest = absurd (both_ways (eqb y stmt.name) other
        (eq-eqb y stmt.name (sym (eqb-true stmt.name y is))))
    by false is other rest = rest

only_stmt : (front : List Stmt) (stmt : Stmt) (rest : List Stmt) →
    AreDistinct (map stmt_name (front ++ stmt ∷ rest)) →
    first_where (assigns stmt.name) (front ++ stmt ∷ rest) ≡ Some stmt
only_stmt [] stmt rest h = rw (eq-eqb stmt.name stmt.name refl) refl
only_stmt (other ∷ front) stmt rest h =
    let parts = and_parts _ _ h in
    by (eqb other.name stmt.name) refl (not-true _ parts.0) (only_stmt front stmt rest parts.1)
  where
    there : (ss : List Stmt) → Has stmt.name (map stmt_name (ss ++ stmt ∷ rest))
    there [] = or_left _ _ (eq-eqb stmt.name stmt.name refl)
    there (s ∷ ss) = or_right _ _ (there ss)

    by : (b : Bool) → eqb other.name stmt.name ≡ b →
        HasNot other.name (map stmt_name (front ++ stmt ∷ rest)) →
        first_where (assigns stmt.name) (front ++ stmt ∷ rest) ≡ Some stmt →
        cond b (Some other) (first_where (assigns stmt.name) (front ++ stmt ∷ rest)) ≡ Some stmt
    by true is none found =
        absurd (both_ways _ none (subst (λ z. Has z (map stmt_name (front ++ stmt ∷ rest)))
        (sym (eqb-true other.name stmt.name is)) (there front)))
    by false is none found = found

abbrev pub stmts_in : Block → List Stmt
stmts_in block = block.stmts

no_stmt_in : (y : ℕ) (block : Block) → HasNot y (assigned_in block) →
    first_where (assigns y) block.stmts ≡ None
no_stmt_in y block h =
    no_stmt y block.stmts ((or_parts (list_any (eqb y) (map phi_name block.phis))
    (list_any (eqb y) (map stmt_name block.stmts))
    (sym (list_any-append (eqb y) (map phi_name block.phis) (map stmt_name block.stmts)) ∙ h)).1)

pub no_stmt_among : (y : ℕ) (blocks : List Block) → HasNot y (flat_map assigned_in blocks) →
    first_where (assigns y) (flat_map stmts_in blocks) ≡ None
no_stmt_among y [] h = refl
no_stmt_among y (block ∷ blocks) h =
    let parts = or_parts (list_any (eqb y) (assigned_in block))
    (list_any (eqb y) (flat_map assigned_in blocks))
    (sym (list_any-append (eqb y) (assigned_in block) (flat_map assigned_in blocks)) ∙ h) in
    first_behind (assigns y) block.stmts (flat_map stmts_in blocks) (no_stmt_in y block parts.0)
    ∙ no_stmt_among y blocks parts.1

-- what a block that is found assigns is assigned
pub assigned_in_found : (p : Block → Bool) (y : ℕ) (blocks : List Block) (block : Block) →
    first_where p blocks ≡ Some block → Has y (assigned_in block) →
    Has y (flat_map assigned_in blocks)
assigned_in_found p y [] block is h = absurd (none-some block is)
assigned_in_found p y (c ∷ blocks) block is h =
    by (p c) is (λ e. assigned_in_found p y blocks block e h)
  where
    by : (b : Bool) → cond b (Some c) (first_where p blocks) ≡ Some block →
        (first_where p blocks ≡ Some block → Has y (flat_map assigned_in blocks)) →
        Has y (assigned_in c ++ flat_map assigned_in blocks)
    by true e rest = in_front y (assigned_in c) (flat_map assigned_in blocks)
        (subst (λ b. Has y (assigned_in b)) (sym (same_Some c block e)) h)
    by false e rest = in_back y (assigned_in c) (flat_map assigned_in blocks) (rest e)

-- the statement of a name is sought in the block that assigns it
sought_in_block : (p : Block → Bool) (y : ℕ) (blocks : List Block) (block : Block) →
    first_where p blocks ≡ Some block → AreDistinct (flat_map assigned_in blocks) →
    Has y (assigned_in block) →
    first_where (assigns y) (flat_map stmts_in blocks) ≡ first_where (assigns y) block.stmts
sought_in_block p y [] block is distinct h = absurd (none-some block is)
sought_in_block p y (c ∷ blocks) block is distinct h =
    by (p c) is (λ e. sought_in_block p y blocks block e
    (back_distinct (assigned_in c) (flat_map assigned_in blocks) distinct) h)
  where
    rest_has_none : c ≡ block → first_where (assigns y) (flat_map stmts_in blocks) ≡ None
    rest_has_none same = no_stmt_among y blocks
        (not_behind y (assigned_in c) (flat_map assigned_in blocks) distinct
        (subst (λ b. Has y (assigned_in b)) (sym same) h))

    in_first : c ≡ block → (o : Option Stmt) → first_where (assigns y) c.stmts ≡ o →
        first_where (assigns y) (c.stmts ++ flat_map stmts_in blocks) ≡ o
    in_first same None none = first_behind (assigns y) c.stmts (flat_map stmts_in blocks) none
        ∙ rest_has_none same
    in_first same (Some stmt) found = first_of_front (assigns y) c.stmts
        (flat_map stmts_in blocks) stmt found

    by : (b : Bool) → cond b (Some c) (first_where p blocks) ≡ Some block →
        (first_where p blocks ≡ Some block → first_where (assigns y)
        (flat_map stmts_in blocks) ≡ first_where (assigns y) block.stmts) →
        first_where (assigns y) (c.stmts ++ flat_map stmts_in blocks) ≡ first_where
        (assigns y) block.stmts
    by true e rest = let same = same_Some c block e in
        in_first same (first_where (assigns y) c.stmts) refl
        ∙ ap (λ (b : Block). first_where (assigns y) b.stmts) same
    by false e rest =
        first_behind (assigns y) c.stmts (flat_map stmts_in blocks)
        (no_stmt_in y c (not_before y (assigned_in c) (flat_map assigned_in blocks) distinct
        (assigned_in_found p y blocks block e h)))
        ∙ rest e

-- ---- well-formed functions

abbrev pub rhs_of_found : Option Stmt → Option Rhs
rhs_of_found found = option_map (λ (stmt : Stmt). stmt.rhs) found

-- each name is assigned once
pub names_distinct : (f : Function) → IsWellFormed f → AreDistinct (flat_map assigned_in f.blocks)
unfolding assigned
names_distinct f well = (and_parts _ _ well.names).1

pub has_stmt : (front : List Stmt) (stmt : Stmt) (rest : List Stmt) →
    Has stmt.name (map stmt_name (front ++ stmt ∷ rest))
has_stmt [] stmt rest = or_left _ _ (eq-eqb stmt.name stmt.name refl)
has_stmt (s ∷ front) stmt rest = or_right _ _ (has_stmt front stmt rest)

pub block_distinct : (p : Block → Bool) (blocks : List Block) (block : Block) →
    first_where p blocks ≡ Some block → AreDistinct (flat_map assigned_in blocks) →
    AreDistinct (assigned_in block)
block_distinct p [] block is distinct = absurd (none-some block is)
block_distinct p (c ∷ blocks) block is distinct =
    by (p c) is (front_distinct (assigned_in c) (flat_map assigned_in blocks) distinct)
    (λ e. block_distinct p blocks block e
    (back_distinct (assigned_in c) (flat_map assigned_in blocks) distinct))
  where
    by : (b : Bool) → cond b (Some c) (first_where p blocks) ≡ Some block →
        AreDistinct (assigned_in c) → (first_where p blocks ≡ Some block →
        AreDistinct (assigned_in block)) → AreDistinct (assigned_in block)
    by true e here rest = subst (λ b. AreDistinct (assigned_in b)) (same_Some c block e) here
    by false e here rest = rest e

-- the right side of a name is that of its statement
pub right_at : (f : Function) → IsWellFormed f → (block : Block) (stmt : Stmt) (stmts : List Stmt) →
    Lies f block (stmt ∷ stmts) → right_of f stmt.name ≡ Some stmt.rhs
unfolding right_of block_of
right_at f well block stmt stmts there =
    let p = λ (b : Block). eqb b.number block.number in
    let distinct = names_distinct f well in
    let has : Has stmt.name (map stmt_name block.stmts) =
    subst (λ ss. Has stmt.name (map stmt_name ss)) (sym there.is)
    (has_stmt there.front stmt stmts) in
    let apart : AreDistinct (map stmt_name (there.front ++ stmt ∷ stmts)) =
    subst (λ ss. AreDistinct (map stmt_name ss)) there.is
    (back_distinct (map phi_name block.phis) (map stmt_name block.stmts)
    (block_distinct p f.blocks block there.found distinct)) in
    ap rhs_of_found (sought_in_block p stmt.name f.blocks block there.found distinct
    (in_back stmt.name (map phi_name block.phis) (map stmt_name block.stmts) has)
    ∙ ap (first_where (assigns stmt.name)) there.is ∙ only_stmt there.front stmt stmts apart)

-- no phi of a block that is found has a right side
abbrev pub HasNoRight : Function → Phi → Type 0
HasNoRight f phi = right_of f phi.name ≡ None

-- the name of a phi has none
pub no_right_at_phis : (f : Function) → IsWellFormed f → (n : ℕ) (block : Block) →
    block_of f n ≡ Some block → AllByRecursion (HasNoRight f) block.phis
unfolding right_of block_of
no_right_at_phis f well n block found = each block.phis (λ y has. has)
  where
    p : Block → Bool
    p b = eqb b.number n

    phi_names : List ℕ
    phi_names = map phi_name block.phis

    none : (y : ℕ) → Has y phi_names → right_of f y ≡ None
    none y has =
        let distinct = names_distinct f well in
        ap rhs_of_found (sought_in_block p y f.blocks block found distinct
        (in_front y phi_names (map stmt_name block.stmts) has)
        ∙ no_stmt y block.stmts (not_behind y phi_names (map stmt_name block.stmts)
        (block_distinct p f.blocks block found distinct) has))

    each : (phis : List Phi) → ((y : ℕ) → Has y (map phi_name phis) → Has y phi_names) →
        AllByRecursion (HasNoRight f) phis
    each [] inside = tt
    each (phi ∷ phis) inside = (
      none phi.name (inside phi.name (or_left _ _ (eq-eqb phi.name phi.name refl))),
      each phis (λ y has. inside y (or_right _ _ has)),
    )

eqb_turned : (x y : ℕ) → eqb x y ≡ eqb y x
eqb_turned x y = grind (arith, nat_tests)

-- a name stands in a list, tested from either side
pub any_turned : (y : ℕ) (xs : List ℕ) → list_any (λ z. eqb z y) xs ≡ list_any (eqb y) xs
any_turned y [] = refl
any_turned y (x ∷ xs) = ap (λ b. b || list_any (λ z. eqb z y) xs) (eqb_turned x y)
    ∙ ap (λ b. eqb y x || b) (any_turned y xs)

-- what a block that is found assigns is assigned in the function
pub is_assigned_in : (f : Function) (n : ℕ) (block : Block) (y : ℕ) → block_of f n ≡ Some block →
    list_any (eqb y) (assigned_in block) ≡ true → list_any (λ z. eqb z y) (assigned f) ≡ true
unfolding assigned block_of
is_assigned_in f n block y found has = any_turned y (flat_map assigned_in f.blocks)
    ∙ assigned_in_found (λ (b : Block). eqb b.number n) y f.blocks block found has

-- a default definition has none
pub no_right_of_initial : (f : Function) → IsWellFormed f → (x : ℕ) → IsTrue (is_initial f x) →
    right_of f x ≡ None
unfolding is_initial row_of right_of assigned
no_right_of_initial f well x initial =
    let rows : list_all (λ (row : NameRow). base_holds f row && row_stands f row) f.names ≡ true =
    (and_parts _ _ (and_parts _ _ (and_parts _ _ (and_parts _ _ well.names).0).0).0).1 in
    by rows (first_where (λ (row : NameRow). eqb row.version x) f.names) refl initial
  where
    by : list_all (λ (row : NameRow). base_holds f row && row_stands f row) f.names ≡ true →
        (o : Option NameRow) → first_where (λ (row : NameRow). eqb row.version x) f.names ≡ o →
        option_map_or (λ (row : NameRow). row.initial) o false ≡ true → right_of f x ≡ None
    by rows None is e = absurd (both_ways false refl e)
    by rows (Some row) is e =
        let version = eqb-true row.version x
        (found_passes (λ (r : NameRow). eqb r.version x) f.names row is) in
        let stands = (and_parts _ _ (all_of_found (λ (r : NameRow). eqb r.version x)
        (λ (r : NameRow). base_holds f r && row_stands f r) f.names row is rows)).1 in
        let chosen = subst (λ b. cond b (not (is_assigned f row.version) && is_used f row.version)
        (is_assigned f row.version || (same_text row.base [] && not (is_used f row.version)))
        ≡ true) e stands in
        let unassigned = not-true (is_assigned f row.version) ((and_parts _ _ chosen).0) in
        ap rhs_of_found (no_stmt_among x f.blocks
        (sym (any_turned x (flat_map assigned_in f.blocks))
        ∙ subst (λ v. list_any (λ z. eqb z v) (flat_map assigned_in f.blocks) ≡ false) version
        unassigned))
