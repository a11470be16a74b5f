-- A well-formed function is valid exactly where the name of each use is assigned on each path to it and isn't in its own support.
use Rattle.std.proofs.Common.{◌≡◌, ◌↔◌, ℕ, List, ◌∷◌, ◌++◌, map, refl, sym, ap, ◌∙◌, subst, append_assoc}
use Rattle.std.specs.Bool.{IsTrue}
use Rattle.std.specs.List.{AllByRecursion}
use Rattle.std.proofs.lemmas.Bool.{both_ways}
use Rattle.std.proofs.lemmas.List.{map-append}
use Rattle.gim_ast.specs.declared.function.Function.{Function}
use Rattle.gim_ast.specs.declared.function.Stmt.{Stmt}
use Rattle.gim_ast.specs.Functions.{phi_name, stmt_name}
use Rattle.gim_ast.specs.WellFormed.{is_among, is_assigned, IsWellFormed}
use Rattle.gim_ast.specs.Paths.{flow_of, Path}
use Rattle.gim_ast.specs.Readable.{read_for, Supports, is_initial, Fresh, IsReadable, uses_in, IsValid}
use Rattle.gim_changes.specs.Validity.{IsAssignedAfter, IsAlwaysAssigned, IsAlwaysAssignedUse}
use Rattle.gim_changes.proofs.Members.{IsMember}
use Rattle.gim_changes.proofs.DistinctNumbers.{AreDistinct}
use Rattle.gim_changes.proofs.Points.{IsPoint, path_point, assigned_on, assigned_at_point, one_point}
use Rattle.gim_changes.proofs.AssignedBefore.{AreReadAssigned, assigned_where_fresh, fresh_where_assigned}
use Rattle.gim_changes.proofs.NamesRead.{IsRead, by_stmt, said_of_uses, said_where_read}
use Rattle.gim_changes.proofs.RulesOfNames.{IsOrdered, ordered, StandsAt, reader, stmt_assigns, assigned_in_flow, assigned_is, point_of_block}

-- each name that is read is assigned on each path to the point
abbrev pub AreUsesAssigned : Function → Type 0
AreUsesAssigned f = (y n : ℕ) (left : List ℕ) → IsRead f y n left → (past : List ℕ) → Path (flow_of f) n left past → IsAssignedAfter (is_initial f) y past

-- the point before a statement
pub point_of_stmt : (f : Function) → IsOrdered f → (x : ℕ) (stmt : Stmt) (at : StandsAt f x stmt) → IsPoint (flow_of f) at.home.number (x ∷ map stmt_name at.rest)
point_of_stmt f order x stmt at =
    point_of_block f order.numbers at.home at.one (map phi_name at.home.phis ++ map stmt_name at.front) (x ∷ map stmt_name at.rest)
    (ap (λ l. map phi_name at.home.phis ++ map stmt_name l) at.is
    ∙ (ap (λ l. map phi_name at.home.phis ++ l) (map-append stmt_name at.front (stmt ∷ at.rest) ∙ ap (λ z. map stmt_name at.front ++ z ∷ map stmt_name at.rest) at.name)
    ∙ sym (append_assoc (map phi_name at.home.phis) (map stmt_name at.front) (x ∷ map stmt_name at.rest))))

module _ (f : Function) (order : IsOrdered f) where
  pub flow_once : AreDistinct (assigned_on (flow_of f))
  flow_once = subst AreDistinct (sym (assigned_in_flow f)) order.once

  -- where a statement assigns a name there is one point
  pub point_is : (n x : ℕ) (left past : List ℕ) → Path (flow_of f) n (x ∷ left) past → (stmt : Stmt) (at : StandsAt f x stmt) → (at.home.number ≡ n) × (map stmt_name at.rest ≡ left)
  point_is n x left past path stmt at =
      one_point (flow_of f) flow_once x at.home.number n (map stmt_name at.rest) left (point_of_stmt f order x stmt at) (path_point (flow_of f) n (x ∷ left) past path)

  pub plain_where_assigned : (n x : ℕ) (left past : List ℕ) → Path (flow_of f) n (x ∷ left) past → IsTrue (is_initial f x) → ⊥
  plain_where_assigned n x left past path is =
      both_ways (is_assigned f x) (order.unassigned x is)
      (assigned_is f x (subst (IsMember x) (assigned_in_flow f) (assigned_at_point (flow_of f) n x left (path_point (flow_of f) n (x ∷ left) past path))))

  pub initial_reads_nothing : (x y : ℕ) → IsTrue (is_initial f x) → IsTrue (is_among y (read_for f x)) → ⊥
  initial_reads_nothing x y is reads =
      let found = reader f x y reads in
      both_ways (is_assigned f x) (order.unassigned x is) (assigned_is f x (stmt_assigns f x found.0 found.1))

  pub reads_assigned : AreUsesAssigned f → AreReadAssigned (flow_of f) (is_initial f) (read_for f)
  reads_assigned all n x y left past path reads =
      let found = reader f x y reads in
      let at = found.1 in
      let met = point_is n x left past path found.0 at in
      let moved : Path (flow_of f) at.home.number (map stmt_name (found.0 ∷ at.rest)) past =
      subst (λ m. Path (flow_of f) m (map stmt_name (found.0 ∷ at.rest)) past) (sym met.0)
      (subst (λ l. Path (flow_of f) n l past) (ap (λ l. x ∷ l) (sym met.1) ∙ ap (λ z. z ∷ map stmt_name at.rest) (sym at.name)) path) in
      all y at.home.number (map stmt_name (found.0 ∷ at.rest)) (at.home, at.one, by_stmt at.front found.0 at.rest at.is found.2 refl refl) past moved

  pub fresh_in : AreUsesAssigned f → (x n : ℕ) (left past : List ℕ) → Path (flow_of f) n left past →
      ((other : List ℕ) → Path (flow_of f) n left other → IsAssignedAfter (is_initial f) x other) → Fresh (is_initial f) (read_for f) x past
  fresh_in all x n left past path always =
      fresh_where_assigned (flow_of f) (is_initial f) (read_for f) flow_once (reads_assigned all) plain_where_assigned initial_reads_nothing x n left past path always

always_where_readable : (f : Function) (x n : ℕ) (left : List ℕ) → IsReadable f x n left → IsAlwaysAssigned f x n left
always_where_readable f x n left readable = record {
  apart = readable.apart;
  assigned = λ past path. assigned_where_fresh (is_initial f) (read_for f) x past (readable.fresh past path);
}

pub uses_assigned : (f : Function) → IsValid f → AreUsesAssigned f
uses_assigned f valid y n left reads past path =
    assigned_where_fresh (is_initial f) (read_for f) y past ((said_where_read (IsReadable f) f valid.readable y n left reads).fresh past path)

pub readable_from : (f : Function) → IsOrdered f → AreUsesAssigned f → (x n : ℕ) (left : List ℕ) → IsAlwaysAssigned f x n left → IsReadable f x n left
readable_from f order all x n left always = record {
  apart = always.apart;
  fresh = λ past path. fresh_in f order all x n left past path always.assigned;
}

-- in a valid function a name is readable exactly where it is always assigned
pub readable_is : (f : Function) → IsValid f → (x n : ℕ) (left : List ℕ) → IsReadable f x n left ↔ IsAlwaysAssigned f x n left
readable_is f valid x n left = (always_where_readable f x n left, readable_from f (ordered f valid.well_formed) (uses_assigned f valid) x n left)

pub valid_from : (f : Function) → IsWellFormed f → ((y n : ℕ) (left : List ℕ) → IsRead f y n left → Supports (read_for f) y y → ⊥) → AreUsesAssigned f → IsValid f
valid_from f well apart all = record {
  well_formed = well;
  readable = said_of_uses (IsReadable f) f (λ y n left reads. readable_from f (ordered f well) all y n left (record { apart = apart y n left reads; assigned = all y n left reads }));
}

pub valid_is : (f : Function) → IsWellFormed f → IsValid f ↔ AllByRecursion (IsAlwaysAssignedUse f) (uses_in f)
valid_is f well = (
  λ valid. said_of_uses (IsAlwaysAssigned f) f (λ y n left reads. always_where_readable f y n left (said_where_read (IsReadable f) f valid.readable y n left reads)),
  λ uses. valid_from f well (λ y n left reads. (said_where_read (IsAlwaysAssigned f) f uses y n left reads).apart)
      (λ y n left reads past path. (said_where_read (IsAlwaysAssigned f) f uses y n left reads).assigned past path),
)
