-- What the rules of well-formed functions say of rows, names and blocks, one by one.
use Rattle.std.proofs.Common.{◌≡◌, ◌⊎◌, ℕ, Bool, true, false, cond, not, ◌&&◌, ◌||◌, Option, Some, None, List, [], ◌∷◌, ◌++◌, eqb, map, flat_map, option_map, refl, sym, ap, subst, inl, inr, ⊎_elim}
use Rattle.std.specs.Bool.{IsTrue}
use Rattle.std.specs.List.{list_all}
use Rattle.std.specs.Option.{option_map_or}
use Rattle.std.proofs.lemmas.Bool.{and_parts, not-true, both_ways, eqb-true, eq-eqb}
use Rattle.std.proofs.lemmas.Option.{same_Some, none-some}
use Rattle.gim_ast.specs.declared.function.Function.{Function}
use Rattle.gim_ast.specs.declared.function.Block.{Block}
use Rattle.gim_ast.specs.declared.function.Stmt.{Stmt}
use Rattle.gim_ast.specs.declared.function.NameRow.{NameRow}
use Rattle.gim_ast.specs.declared.function.Rhs.{Rhs}
use Rattle.gim_ast.specs.Functions.{first_where, assigned, assigned_in, phi_name, stmt_name, stmts_of, right_of, row_of, operands_of_rhs, operands_of_stmt, is_used}
use Rattle.gim_ast.specs.WellFormed.{is_among, is_assigned, base_holds, row_stands, names_hold, numbers_of, IsWellFormed, blocks_hold, same_text}
use Rattle.gim_ast.specs.Paths.{stretch_of, flow_of, stretch_at}
use Rattle.gim_ast.specs.Readable.{names_among, read_for, is_initial}
use Rattle.gim_changes.proofs.Members.{IsMember, all_members, any_from_member, member_from_any, member_of_parts, member_splits, member_middle, member_right, part_member, mapped_member}
use Rattle.gim_changes.proofs.DistinctNumbers.{AreDistinct, not_later}
use Rattle.gim_changes.proofs.Points.{assigned_on, IsPoint}

pub first_passes : {X : Type 0} (p : X → Bool) (xs : List X) (x : X) → first_where p xs ≡ Some x → IsMember x xs × (p x ≡ true)
first_passes p [] x h = absurd (none-some x h)
first_passes p (z ∷ xs) x h = by (p z) refl (first_passes p xs x) h
  where
    by : (b : Bool) → p z ≡ b → (first_where p xs ≡ Some x → IsMember x xs × (p x ≡ true)) → cond b (Some z) (first_where p xs) ≡ Some x → ((z ≡ x) ⊎ IsMember x xs) × (p x ≡ true)
    by true is rest found = let same = same_Some z x found in (inl same, subst (λ w. p w ≡ true) same is)
    by false is rest found = let r = rest found in (inr r.0, r.1)

pub among_member : (x : ℕ) (xs : List ℕ) → is_among x xs ≡ true → IsMember x xs
among_member x xs any =
    let found = member_from_any (λ y. eqb y x) xs any in
    subst (λ y. IsMember y xs) (eqb-true found.0 x found.2) found.1

pub member_among : (x : ℕ) (xs : List ℕ) → IsMember x xs → is_among x xs ≡ true
member_among x xs one = any_from_member (λ y. eqb y x) xs x one (eq-eqb x x refl)

-- ---- rows

pub row_cases : (f : Function) (row : NameRow) → row_stands f row ≡ true → ((row.initial ≡ true) × (is_assigned f row.version ≡ false) × (is_used f row.version ≡ true))
    ⊎ ((row.initial ≡ false) × ((is_assigned f row.version || (same_text row.base [] && not (is_used f row.version))) ≡ true))
row_cases f row stands = by row.initial refl stands
  where
    by : (b : Bool) → row.initial ≡ b → cond b (not (is_assigned f row.version) && is_used f row.version) (is_assigned f row.version || (same_text row.base [] && not (is_used f row.version))) ≡ true →
        ((row.initial ≡ true) × (is_assigned f row.version ≡ false) × (is_used f row.version ≡ true)) ⊎ ((row.initial ≡ false) × ((is_assigned f row.version || (same_text row.base [] && not (is_used f row.version))) ≡ true))
    by true is h = let parts = and_parts (not (is_assigned f row.version)) (is_used f row.version) h in inl (is, not-true (is_assigned f row.version) parts.0, parts.1)
    by false is h = inr (is, h)

-- ---- functions

-- each name is assigned once, no two blocks have one number, and no default definition is assigned
pub record IsOrdered (f : Function) : Type 0 where
  pub once : AreDistinct (assigned f)
  pub numbers : AreDistinct (numbers_of f)
  pub unassigned : (x : ℕ) → is_initial f x ≡ true → is_assigned f x ≡ false

pub initial_row : (f : Function) (x : ℕ) → is_initial f x ≡ true → (row : NameRow) × IsMember row f.names × (row.version ≡ x) × (row.initial ≡ true)
unfolding is_initial row_of
initial_row f x is = by (first_where (λ (row : NameRow). eqb row.version x) f.names) refl is
  where
    by : (o : Option NameRow) → first_where (λ (row : NameRow). eqb row.version x) f.names ≡ o → option_map_or (λ (row : NameRow). row.initial) o false ≡ true →
        (row : NameRow) × IsMember row f.names × (row.version ≡ x) × (row.initial ≡ true)
    by None found h = absurd (both_ways false refl h)
    by (Some row) found h =
        let passes = first_passes (λ (r : NameRow). eqb r.version x) f.names row found in
        (row, passes.0, eqb-true row.version x passes.1, h)

pub rows_hold : (f : Function) → IsTrue (names_hold f) → list_all (λ (row : NameRow). base_holds f row && row_stands f row) f.names ≡ true
rows_hold f h = (and_parts _ _ (and_parts _ _ (and_parts _ _ (and_parts _ _ h).0).0).0).1

pub assigned_once : (f : Function) → IsTrue (names_hold f) → AreDistinct (assigned f)
assigned_once f h = (and_parts _ _ h).1

pub numbers_differ : (f : Function) → IsTrue (blocks_hold f) → AreDistinct (numbers_of f)
numbers_differ f h = (and_parts _ _ (and_parts _ _ (and_parts _ _ h).0).0).1

pub ordered : (f : Function) → IsWellFormed f → IsOrdered f
ordered f well = record {
  once = assigned_once f well.names;
  numbers = numbers_differ f well.blocks;
  unassigned = λ x is.
      let found = initial_row f x is in
      let holds = all_members (λ (row : NameRow). base_holds f row && row_stands f row) f.names (rows_hold f well.names) found.0 found.1 in
      ⊎_elim
      (λ initial. subst (λ v. is_assigned f v ≡ false) found.2 initial.1)
      (λ other. absurd (both_ways found.0.initial other.0 found.3))
      (row_cases f found.0 (and_parts _ _ holds).1);
}

-- ---- what is assigned

pub flow_assigns : (blocks : List Block) → assigned_on (map stretch_of blocks) ≡ flat_map assigned_in blocks
flow_assigns [] = refl
flow_assigns (b ∷ blocks) = ap (λ l. assigned_in b ++ l) (flow_assigns blocks)

pub assigned_in_flow : (f : Function) → assigned_on (flow_of f) ≡ assigned f
unfolding assigned
assigned_in_flow f = flow_assigns f.blocks

pub assigned_is : (f : Function) (x : ℕ) → IsMember x (assigned f) → is_assigned f x ≡ true
assigned_is f x one = member_among x (assigned f) one

-- ---- statements by their names

-- a block and the place in it of a statement
pub record StandsAt (f : Function) (x : ℕ) (stmt : Stmt) : Type 0 where
  pub home : Block
  pub one : IsMember home f.blocks
  pub front : List Stmt
  pub rest : List Stmt
  pub is : home.stmts ≡ front ++ stmt ∷ rest
  pub name : stmt.name ≡ x

pub stmt_stands : (f : Function) (stmt : Stmt) → IsMember stmt (stmts_of f) → StandsAt f stmt.name stmt
stmt_stands f stmt one =
    let found = member_of_parts (λ (b : Block). b.stmts) stmt f.blocks one in
    let place = member_splits stmt found.0.stmts found.2 in
    record { home = found.0; one = found.1; front = place.0; rest = place.1; is = place.2; name = refl }

-- a name that is read for x is an operand of a statement of x
pub reader : (f : Function) (x y : ℕ) → is_among y (read_for f x) ≡ true → (stmt : Stmt) × StandsAt f x stmt × IsMember y (names_among (operands_of_stmt stmt))
unfolding read_for right_of
reader f x y reads = by (first_where (λ (s : Stmt). eqb s.name x) (stmts_of f)) refl reads
  where
    by : (o : Option Stmt) → first_where (λ (s : Stmt). eqb s.name x) (stmts_of f) ≡ o →
        is_among y (option_map_or (λ (rhs : Rhs). names_among (operands_of_rhs rhs)) (option_map (λ (s : Stmt). s.rhs) o) []) ≡ true →
        (stmt : Stmt) × StandsAt f x stmt × IsMember y (names_among (operands_of_stmt stmt))
    by None found h = absurd (both_ways false refl h)
    by (Some stmt) found h =
        let passes = first_passes (λ (s : Stmt). eqb s.name x) (stmts_of f) stmt found in
        (stmt, subst (λ z. StandsAt f z stmt) (eqb-true stmt.name x passes.1) (stmt_stands f stmt passes.0), among_member y (names_among (operands_of_stmt stmt)) h)

-- what a statement assigns is assigned
pub stmt_assigns : (f : Function) (x : ℕ) (stmt : Stmt) → StandsAt f x stmt → IsMember x (assigned f)
unfolding assigned
stmt_assigns f x stmt at =
    part_member assigned_in x at.home f.blocks at.one (member_right x (map phi_name at.home.phis) (map stmt_name at.home.stmts)
    (subst (λ l. IsMember x (map stmt_name l)) (sym at.is) (subst (λ z. IsMember z (map stmt_name (at.front ++ stmt ∷ at.rest))) at.name
    (mapped_member stmt_name stmt (at.front ++ stmt ∷ at.rest) (member_middle stmt at.front at.rest)))))

-- ---- blocks by their numbers

block_found : (blocks : List Block) → AreDistinct (map (λ (b : Block). b.number) blocks) → (b : Block) → IsMember b blocks →
    stretch_at (map stretch_of blocks) b.number ≡ Some (stretch_of b)
block_found [] once b one = absurd one
block_found (c ∷ blocks) once b one = ⊎_elim
    (λ (here : c ≡ b). subst (λ (d : Block). stretch_at (stretch_of c ∷ map stretch_of blocks) d.number ≡ Some (stretch_of d)) here (rw (eq-eqb c.number c.number refl) refl))
    (λ later.
    let apart : (eqb c.number b.number ≡ true) → ⊥ = λ same. not_later c.number (map (λ (d : Block). d.number) blocks) once
    (subst (λ m. IsMember m (map (λ (d : Block). d.number) blocks)) (sym (eqb-true c.number b.number same)) (mapped_member (λ (d : Block). d.number) b blocks later)) in
    by (eqb c.number b.number) apart (block_found blocks ((and_parts _ _ once).1) b later))
    one
  where
    by : (t : Bool) → (t ≡ true → ⊥) → stretch_at (map stretch_of blocks) b.number ≡ Some (stretch_of b) → cond t (Some (stretch_of c)) (stretch_at (map stretch_of blocks) b.number) ≡ Some (stretch_of b)
    by true apart rest = absurd (apart refl)
    by false apart rest = rest

pub point_of_block : (f : Function) → AreDistinct (numbers_of f) → (b : Block) → IsMember b f.blocks → (front left : List ℕ) → assigned_in b ≡ front ++ left → IsPoint (flow_of f) b.number left
point_of_block f once b one front left is = record { home = stretch_of b; at = block_found f.blocks once b one; front = front; is = is }
