-- In a valid function, where a name is readable each name of its support is.
use Rattle.std.proofs.Common.{◌≡◌, ℕ, ◌+◌, Bool, true, false, Option, Some, None, List, [], ◌∷◌, ◌++◌, ◌&&◌, ◌||◌, ◌⊎◌, eqb, map, not, length, cond, refl, sym, ap, ◌∙◌, subst, inl, inr, ⊎_elim, append_assoc}
use Rattle.std.specs.Bool.{IsTrue}
use Rattle.std.specs.List.{list_any, list_all, flat_map, AllByRecursion}
use Rattle.std.proofs.lemmas.Bool.{and_parts, not-true, or_cases, or_left, or_right, both_ways, eq-eqb, eqb-true}
use Rattle.std.proofs.lemmas.Option.{same_Some, none-some}
use Rattle.std.specs.Option.{option_map, option_map_or}
use Rattle.gim_ast.specs.declared.function.Function.{Function}
use Rattle.gim_ast.specs.declared.function.Block.{Block}
use Rattle.gim_ast.specs.declared.function.Stmt.{Stmt}
use Rattle.gim_ast.specs.declared.function.NameRow.{NameRow}
use Rattle.gim_ast.specs.declared.function.Rhs.{Rhs}
use Rattle.gim_ast.specs.Functions.{first_where, assigned_in, assigned, phi_name, stmt_name, stmts_of, right_of, row_of, operands_of_rhs, operands_of_stmt, operands_of_end, is_used}
use Rattle.gim_ast.specs.WellFormed.{is_among, all_distinct, same_text, is_assigned, base_holds, row_stands, names_hold}
use Rattle.gim_ast.specs.Paths.{Stretch, stretch_of, flow_of, entry_of, Path, enter, item, jump}
use Rattle.gim_ast.specs.Readable.{names_among, read_for, Supports, operand, further, is_initial, IsReadable, Use, uses_at, uses_in_phis, uses_in_stmts, uses_in_block, uses_in, IsReadableUse, IsValid}
use Rattle.gim_ast.proofs.AssignedOnce.{IsOneOf, assigned_among, one_place}
use Rattle.gim_ast.proofs.SupportLemmas.{AreReadFresh, support_is_fresh, read_by}

-- ---- lists

pub all_left : {X : Type 0} (P : X → Type 0) (xs ys : List X) → AllByRecursion P (xs ++ ys) → AllByRecursion P xs
all_left P [] ys h = tt
all_left P (x ∷ xs) ys h = (h.0, all_left P xs ys h.1)

pub all_right : {X : Type 0} (P : X → Type 0) (xs ys : List X) → AllByRecursion P (xs ++ ys) → AllByRecursion P ys
all_right P [] ys h = h
all_right P (x ∷ xs) ys h = all_right P xs ys h.1

-- where all hold that a list gives, that of each of its members does
pub all_at : {X : Type 0} (P : X → Type 0) (make : ℕ → X) (y : ℕ) (ys : List ℕ) → IsTrue (is_among y ys) → AllByRecursion P (map make ys) → P (make y)
all_at P make y [] h all = absurd (both_ways false refl h)
all_at P make y (z ∷ ys) h all = ⊎_elim
    (λ here. subst (λ w. P (make w)) (eqb-true z y here) all.0)
    (λ later. all_at P make y ys later all.1)
    (or_cases _ _ h)

-- the first that passes stands in the front, or else in what follows
pub first_in : {X : Type 0} (p : X → Bool) (xs ys : List X) (x : X) → first_where p (xs ++ ys) ≡ Some x → (first_where p xs ≡ Some x) ⊎ (first_where p ys ≡ Some x)
first_in p [] ys x h = inr h
first_in p (z ∷ xs) ys x h =
    let rest = first_in p xs ys x in
    elim (p z) as (λ b. cond b (Some z) (first_where p (xs ++ ys)) ≡ Some x → (cond b (Some z) (first_where p xs) ≡ Some x) ⊎ (first_where p ys ≡ Some x))
    [ true ↦ λ e. inl e | false ↦ rest ] h

-- ---- where a statement stands

-- the place of the statement of w in a block, and what is known of the names that it reads
pub record Stands (P : Use → Type 0) (w y number : ℕ) (assigns : List ℕ) : Type 0 where
  pub front : List ℕ
  pub left : List ℕ
  pub is : assigns ≡ front ++ w ∷ left
  pub block : ℕ
  pub item : ℕ
  pub known : P (record { block = block; item = item; name = y; at = number; left = w ∷ left })

stands_in_stmts : (P : Use → Type 0) (n k w y : ℕ) (stmts : List Stmt) (stmt : Stmt) → first_where (λ (s : Stmt). eqb s.name w) stmts ≡ Some stmt →
    IsTrue (is_among y (names_among (operands_of_stmt stmt))) → AllByRecursion P (uses_in_stmts n k stmts) → Stands P w y n (map stmt_name stmts)
stands_in_stmts P n k w y [] stmt h reads_it all = absurd (none-some stmt h)
stands_in_stmts P n k w y (s ∷ stmts) stmt h reads_it all =
    let here = all_left P (uses_at n k n (map stmt_name (s ∷ stmts)) (operands_of_stmt s)) (uses_in_stmts n (k + 1) stmts) all in
    let later = all_right P (uses_at n k n (map stmt_name (s ∷ stmts)) (operands_of_stmt s)) (uses_in_stmts n (k + 1) stmts) all in
    by_test (eqb s.name w) refl here (λ found. stands_in_stmts P n (k + 1) w y stmts stmt found reads_it later) h
  where
    by_test : (b : Bool) → eqb s.name w ≡ b → AllByRecursion P (uses_at n k n (map stmt_name (s ∷ stmts)) (operands_of_stmt s)) →
        (first_where (λ (t : Stmt). eqb t.name w) stmts ≡ Some stmt → Stands P w y n (map stmt_name stmts)) →
        cond b (Some s) (first_where (λ (t : Stmt). eqb t.name w) stmts) ≡ Some stmt → Stands P w y n (map stmt_name (s ∷ stmts))
    by_test true is here rest found =
        let same = same_Some s stmt found in
        let name = eqb-true s.name w is in
        record {
          front = [];
          left = map stmt_name stmts;
          is = ap (λ z. z ∷ map stmt_name stmts) name;
          block = n;
          item = k;
          known = subst (λ z. P (record { block = n; item = k; name = y; at = n; left = z ∷ map stmt_name stmts })) name
              (all_at P (λ x. record { block = n; item = k; name = x; at = n; left = map stmt_name (s ∷ stmts) }) y (names_among (operands_of_stmt s))
              (subst (λ (t : Stmt). IsTrue (is_among y (names_among (operands_of_stmt t)))) (sym same) reads_it) here);
        }
    by_test false is here rest found =
        let r = rest found in
        record {
          front = s.name ∷ r.front;
          left = r.left;
          is = ap (λ l. s.name ∷ l) r.is;
          block = r.block;
          item = r.item;
          known = r.known;
        }

stands_in_block : (P : Use → Type 0) (w y : ℕ) (block : Block) (stmt : Stmt) → first_where (λ (s : Stmt). eqb s.name w) block.stmts ≡ Some stmt →
    IsTrue (is_among y (names_among (operands_of_stmt stmt))) → AllByRecursion P (uses_in_block block) → Stands P w y block.number (assigned_in block)
stands_in_block P w y block stmt h reads_it all =
    let n = block.number in
    let phis = uses_in_phis n 1 block.phis in
    let stmts = uses_in_stmts n (1 + length block.phis) block.stmts in
    let ends = uses_at n (1 + length block.phis + length block.stmts) n [] (operands_of_end block.end) in
    let found = stands_in_stmts P n (1 + length block.phis) w y block.stmts stmt h reads_it (all_right P phis stmts (all_left P (phis ++ stmts) ends all)) in
    record {
      front = map phi_name block.phis ++ found.front;
      left = found.left;
      is = ap (λ l. map phi_name block.phis ++ l) found.is ∙ sym (append_assoc (map phi_name block.phis) found.front (w ∷ found.left));
      block = found.block;
      item = found.item;
      known = found.known;
    }

-- a block, one of these, in which the statement stands
pub record StandsIn (P : Use → Type 0) (w y : ℕ) (blocks : List Block) : Type 0 where
  pub home : Block
  pub one : IsOneOf home blocks
  pub there : Stands P w y home.number (assigned_in home)

stands_in_blocks : (P : Use → Type 0) (w y : ℕ) (blocks : List Block) (stmt : Stmt) → first_where (λ (s : Stmt). eqb s.name w) (flat_map (λ (b : Block). b.stmts) blocks) ≡ Some stmt →
    IsTrue (is_among y (names_among (operands_of_stmt stmt))) → AllByRecursion P (flat_map uses_in_block blocks) → StandsIn P w y blocks
stands_in_blocks P w y [] stmt h reads_it all = absurd (none-some stmt h)
stands_in_blocks P w y (b ∷ blocks) stmt h reads_it all = ⊎_elim
    (λ here. record {
      home = b;
      one = inl refl;
      there = stands_in_block P w y b stmt here reads_it (all_left P (uses_in_block b) (flat_map uses_in_block blocks) all);
    })
    (λ later. let r = stands_in_blocks P w y blocks stmt later reads_it (all_right P (uses_in_block b) (flat_map uses_in_block blocks) all) in
    record {
      home = r.home;
      one = inr r.one;
      there = r.there;
    })
    (first_in (λ (s : Stmt). eqb s.name w) b.stmts (flat_map (λ (c : Block). c.stmts) blocks) stmt h)

-- a name that the statement of w reads stands in a use
pub reader_stands : (f : Function) (P : Use → Type 0) (w y : ℕ) → IsTrue (is_among y (read_for f w)) → AllByRecursion P (uses_in f) → StandsIn P w y f.blocks
unfolding read_for right_of
reader_stands f P w y reads_it all = by_found (first_where (λ (s : Stmt). eqb s.name w) (stmts_of f)) refl reads_it
  where
    by_found : (o : Option Stmt) → first_where (λ (s : Stmt). eqb s.name w) (stmts_of f) ≡ o →
        IsTrue (is_among y (option_map_or (λ (rhs : Rhs). names_among (operands_of_rhs rhs)) (option_map (λ (s : Stmt). s.rhs) o) [])) → StandsIn P w y f.blocks
    by_found None is h = absurd (both_ways false refl h)
    by_found (Some stmt) is h = stands_in_blocks P w y f.blocks stmt is h all

-- ---- where a path leads

-- the block to whose point a path leads
pub record Leads (n : ℕ) (left : List ℕ) (blocks : List Block) : Type 0 where
  pub home : Block
  pub one : IsOneOf home blocks
  pub number : home.number ≡ n
  pub front : List ℕ
  pub is : assigned_in home ≡ front ++ left

-- a stretch found is that of a block
stretch_is : (p : Stretch → Bool) (blocks : List Block) (s : Stretch) → first_where p (map stretch_of blocks) ≡ Some s → (b : Block) × IsOneOf b blocks × (stretch_of b ≡ s)
stretch_is p [] s h = absurd (none-some s h)
stretch_is p (c ∷ blocks) s h = by_test (p (stretch_of c)) (stretch_is p blocks s) h
  where
    by_test : (b : Bool) → (first_where p (map stretch_of blocks) ≡ Some s → (d : Block) × IsOneOf d blocks × (stretch_of d ≡ s)) →
        cond b (Some (stretch_of c)) (first_where p (map stretch_of blocks)) ≡ Some s → (d : Block) × IsOneOf d (c ∷ blocks) × (stretch_of d ≡ s)
    by_test true rest e = (c, inl refl, same_Some (stretch_of c) s e)
    by_test false rest e = let r = rest e in (r.0, inr r.1, r.2)

entry_is : (blocks : List Block) (s : Stretch) → entry_of (map stretch_of blocks) ≡ Some s → (b : Block) × IsOneOf b blocks × (stretch_of b ≡ s)
entry_is [] s h = absurd (none-some s h)
entry_is (c ∷ blocks) s h = (c, inl refl, same_Some (stretch_of c) s h)

leads_to_stretch : (blocks : List Block) (s : Stretch) → ((b : Block) × IsOneOf b blocks × (stretch_of b ≡ s)) → Leads s.number s.assigns blocks
leads_to_stretch blocks s found = record {
  home = found.0;
  one = found.1;
  number = ap (λ (t : Stretch). t.number) found.2;
  front = [];
  is = ap (λ (t : Stretch). t.assigns) found.2;
}

pub path_leads : (blocks : List Block) (n : ℕ) (left past : List ℕ) → Path (map stretch_of blocks) n left past → Leads n left blocks
path_leads blocks _ _ _ (enter entry is) = leads_to_stretch blocks entry (entry_is blocks entry is)
path_leads blocks _ _ _ (jump from to past _ leads target path) = leads_to_stretch blocks to (stretch_is (λ (s : Stretch). eqb s.number to.number) blocks to target)
path_leads blocks _ _ _ (item n x left past path) =
    let r = path_leads blocks n (x ∷ left) past path in
    record {
      home = r.home;
      one = r.one;
      number = r.number;
      front = r.front ++ x ∷ [];
      is = r.is ∙ sym (append_assoc r.front (x ∷ []) left);
    }

-- ---- valid functions

all_assigned_distinct : (f : Function) → IsTrue (names_hold f) → all_distinct eqb (flat_map assigned_in f.blocks) ≡ true
unfolding assigned
all_assigned_distinct f h = (and_parts _ _ h).1

pub read_fresh : (f : Function) → IsValid f → AreReadFresh (flow_of f) (is_initial f) (read_for f)
read_fresh f valid n x y left past path reads_it =
    let stands = reader_stands f (IsReadableUse f) x y reads_it valid.readable in
    let leads = path_leads f.blocks n (x ∷ left) past path in
    let place = one_place assigned_in (λ (b : Block). b.number) f.blocks stands.home leads.home x stands.there.front stands.there.left leads.front left (all_assigned_distinct f valid.well_formed.names)
    stands.one stands.there.is leads.one leads.is in
    stands.there.known.fresh past (subst (λ m. Path (flow_of f) m (x ∷ stands.there.left) past) (sym (place.0 ∙ leads.number))
    (subst (λ l. Path (flow_of f) n (x ∷ l) past) (sym place.1) path))

support_apart : (f : Function) → IsValid f → (x y : ℕ) → Supports (read_for f) x y → Supports (read_for f) y y → ⊥
support_apart f valid x y supports =
    let reader = read_by (read_for f) x y supports in
    (reader_stands f (IsReadableUse f) reader.0 y reader.1 valid.readable).there.known.apart

-- what passes, of a list all of which passes
all_pass : {X : Type 0} (p q : X → Bool) (xs : List X) (x : X) → first_where p xs ≡ Some x → list_all q xs ≡ true → (p x ≡ true) × (q x ≡ true)
all_pass p q [] x h all = absurd (none-some x h)
all_pass p q (z ∷ xs) x h all =
    let parts = and_parts _ _ all in
    let rest = λ (e : first_where p xs ≡ Some x). all_pass p q xs x e parts.1 in
    by_test (p z) refl parts.0 rest h
  where
    by_test : (b : Bool) → p z ≡ b → q z ≡ true → (first_where p xs ≡ Some x → (p x ≡ true) × (q x ≡ true)) → cond b (Some z) (first_where p xs) ≡ Some x → (p x ≡ true) × (q x ≡ true)
    by_test true is passes rest e = subst (λ t. (p t ≡ true) × (q t ≡ true)) (same_Some z x e) (is, passes)
    by_test false is passes rest e = rest e

any_assigned : (x : ℕ) (us vs : List ℕ) → list_any (λ y. eqb y x) (us ++ x ∷ vs) ≡ true
any_assigned x [] vs = or_left _ _ (eq-eqb x x refl)
any_assigned x (u ∷ us) vs = or_right _ _ (any_assigned x us vs)

stands_assigned : (f : Function) (P : Use → Type 0) (x y : ℕ) → StandsIn P x y f.blocks → is_assigned f x ≡ true
unfolding assigned
stands_assigned f P x y s =
    let place = assigned_among assigned_in f.blocks s.home x s.there.front s.there.left s.one s.there.is in
    subst (λ l. list_any (λ z. eqb z x) l ≡ true) (sym place.2) (any_assigned x place.0 place.1)

all_rows : (f : Function) → IsTrue (names_hold f) → list_all (λ (row : NameRow). base_holds f row && row_stands f row) f.names ≡ true
all_rows f h = (and_parts _ _ (and_parts _ _ (and_parts _ _ (and_parts _ _ h).0).0).0).1

initial_unassigned : (f : Function) → IsTrue (names_hold f) → (x : ℕ) → IsTrue (is_initial f x) → is_assigned f x ≡ false
unfolding is_initial row_of
initial_unassigned f h x initial = by_row (first_where (λ (row : NameRow). eqb row.version x) f.names) refl initial
  where
    by_row : (o : Option NameRow) → first_where (λ (row : NameRow). eqb row.version x) f.names ≡ o → option_map_or (λ (row : NameRow). row.initial) o false ≡ true → is_assigned f x ≡ false
    by_row None is e = absurd (both_ways false refl e)
    by_row (Some row) is e =
        let passes = all_pass (λ (r : NameRow). eqb r.version x) (λ (r : NameRow). base_holds f r && row_stands f r) f.names row is (all_rows f h) in
        let stands = (and_parts _ _ passes.1).1 in
        let chosen = subst (λ b. cond b (not (is_assigned f row.version) && is_used f row.version) (is_assigned f row.version || (same_text row.base [] && not (is_used f row.version))) ≡ true) e stands in
        subst (λ v. is_assigned f v ≡ false) (eqb-true row.version x passes.0) (not-true _ ((and_parts _ _ chosen).0))

first_read : (reads : ℕ → List ℕ) (x y : ℕ) → Supports reads x y → (w : ℕ) × IsTrue (is_among w (reads x))
first_read reads x y (operand _ _ reads_it) = (y, reads_it)
first_read reads x y (further _ w _ reads_it rest) = (w, reads_it)

initial_reads_nothing : (f : Function) → IsValid f → (x y : ℕ) → IsTrue (is_initial f x) → Supports (read_for f) x y → ⊥
initial_reads_nothing f valid x y initial supports =
    let read = first_read (read_for f) x y supports in
    both_ways _ (initial_unassigned f valid.well_formed.names x initial)
    (stands_assigned f (IsReadableUse f) x read.0 (reader_stands f (IsReadableUse f) x read.0 read.1 valid.readable))

-- where a name is readable, each name of its support is
pub support_is_readable : (f : Function) → IsValid f → (x y n : ℕ) (left : List ℕ) → IsReadable f x n left → Supports (read_for f) x y → IsReadable f y n left
support_is_readable f valid x y n left readable supports = record {
  apart = support_apart f valid x y supports;
  fresh = λ past path. support_is_fresh (flow_of f) (is_initial f) (read_for f) (read_fresh f valid) (support_apart f valid) (initial_reads_nothing f valid)
      n left past path x y (readable.fresh past path) supports;
}

pub unreached_is_readable : (f : Function) (x n : ℕ) (left : List ℕ) → ((past : List ℕ) → Path (flow_of f) n left past → ⊥) →
    (Supports (read_for f) x x → ⊥) → IsReadable f x n left
unreached_is_readable f x n left unreached apart = record { apart = apart; fresh = λ past path. absurd (unreached past path) }
