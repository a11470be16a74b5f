-- Which names may be read in place of another: those of its support, and one with the same right side; and that such a name is readable wherever the other is.
use Rattle.std.proofs.Common.{◌≡◌, ℕ, true, Some, List, ◌∷◌, ◌++◌, map, slice_get, refl, sym, subst}
use Rattle.std.specs.Bool.{IsTrue}
use Rattle.std.proofs.lemmas.Bool.{both_ways}
use Rattle.gim_ast.specs.declared.function.Function.{Function}
use Rattle.gim_ast.specs.declared.function.Block.{Block}
use Rattle.gim_ast.specs.Functions.{assigned_in, right_of, stmt_name}
use Rattle.gim_ast.specs.WellFormed.{is_among, is_assigned}
use Rattle.gim_ast.specs.Paths.{flow_of, Path}
use Rattle.gim_ast.specs.Readable.{read_for, Supports, operand, further, is_initial, IsReadable, IsValid}
use Rattle.gim_changes.specs.Trimming.{stands_in}
use Rattle.gim_changes.specs.Validity.{IsAssignedAfter, ComesBefore}
use Rattle.gim_changes.proofs.Members.{slice_member}
use Rattle.gim_changes.proofs.Points.{path_point, one_point}
use Rattle.gim_changes.proofs.AssignedBefore.{assigned_where_fresh, assigned_since, support_assigned}
use Rattle.gim_changes.proofs.NamesRead.{IsRead, by_stmt, said_where_read}
use Rattle.gim_changes.proofs.NamesUsed.{read_is_used, used_stands}
use Rattle.gim_changes.proofs.RulesOfNames.{ordered, reader, point_of_block}
use Rattle.gim_changes.proofs.AlwaysAssigned.{flow_once, plain_where_assigned, initial_reads_nothing, reads_assigned, uses_assigned, readable_from}

pub supports_through : (reads : ℕ → List ℕ) (x y z : ℕ) → Supports reads x y → Supports reads y z → Supports reads x z
supports_through reads x y z (operand _ _ reads_it) after = further x y z reads_it after
supports_through reads x y z (further _ w _ reads_it before) after = further x w z reads_it (supports_through reads w y z before after)

-- who is in a support is read by some statement
read_somewhere : (reads : ℕ → List ℕ) (x y : ℕ) → Supports reads x y → (w : ℕ) × IsTrue (is_among y (reads w))
read_somewhere reads x y (operand _ _ reads_it) = (x, reads_it)
read_somewhere reads x y (further _ w _ reads_it rest) = read_somewhere reads w y rest

reads_of_same : (f : Function) (x y : ℕ) → right_of f y ≡ right_of f x → read_for f y ≡ read_for f x
unfolding read_for
reads_of_same f x y same = rw same refl

module _ (f : Function) where
  -- what is in a support is read at some point
  pub supporter_is_read : (x y : ℕ) → Supports (read_for f) x y → (n : ℕ) × (left : List ℕ) × IsRead f y n left
  supporter_is_read x y supports =
      let read = read_somewhere (read_for f) x y supports in
      let found = reader f read.0 y read.1 in
      (found.1.home.number, map stmt_name (found.0 ∷ found.1.rest), (found.1.home, found.1.one, by_stmt found.1.front found.0 found.1.rest found.1.is found.2 refl refl))

  module _ (valid : IsValid f) where
    pub none_in_own_support : (x : ℕ) → Supports (read_for f) x x → ⊥
    none_in_own_support x supports =
        let read = supporter_is_read x x supports in
        (said_where_read (IsReadable f) f valid.readable x read.0 read.1 read.2).apart supports

    pub readable_where_assigned : (x n : ℕ) (left : List ℕ) → ((past : List ℕ) → Path (flow_of f) n left past → IsAssignedAfter (is_initial f) x past) → IsReadable f x n left
    readable_where_assigned x n left always =
        readable_from f (ordered f valid.well_formed) (uses_assigned f valid) x n left (record { apart = none_in_own_support x; assigned = always })

    pub before_is_readable : (x y n : ℕ) (left : List ℕ) → is_assigned f x ≡ true → ((m : ℕ) (rest : List ℕ) → IsReadable f y m (x ∷ rest)) → IsReadable f x n left → IsReadable f y n left
    before_is_readable x y n left is before readable =
        readable_where_assigned y n left (λ past path.
        assigned_since (flow_of f) (is_initial f) x y (λ initial. both_ways (is_assigned f x) ((ordered f valid.well_formed).unassigned x initial) is)
        (λ m rest earlier to_x. assigned_where_fresh (is_initial f) (read_for f) y earlier ((before m rest).fresh earlier to_x))
        n left past path (assigned_where_fresh (is_initial f) (read_for f) x past (readable.fresh past path)))

    pub support_comes_before : (x y : ℕ) → Supports (read_for f) x y → ComesBefore f y x
    support_comes_before x y supports =
        let read = supporter_is_read x y supports in
        let order = ordered f valid.well_formed in
        record {
          stands = used_stands f y (read_is_used f y read.0 read.1 read.2);
          other = λ same. none_in_own_support x (subst (Supports (read_for f) x) same supports);
          apart = λ back. none_in_own_support x (supports_through (read_for f) x y x supports back);
          readable = λ n left. readable_where_assigned y n (x ∷ left) (λ past path.
              support_assigned (flow_of f) (is_initial f) (read_for f) (flow_once f order) (reads_assigned f order (uses_assigned f valid))
              (plain_where_assigned f order) (initial_reads_nothing f order) x y supports n left past path);
        }

    -- names with one right side have one support
    same_reads : (x y z : ℕ) → read_for f y ≡ read_for f x → Supports (read_for f) y z → Supports (read_for f) x z
    same_reads x y z same (operand _ _ reads_it) = operand x z (subst (λ l. IsTrue (is_among z l)) same reads_it)
    same_reads x y z same (further _ w _ reads_it rest) = further x w z (subst (λ l. IsTrue (is_among w l)) same reads_it) rest

    pub same_right_side_comes_before : (x y : ℕ) → right_of f y ≡ right_of f x → (y ≡ x → ⊥) → stands_in f y ≡ true →
        ((n : ℕ) (left : List ℕ) → IsReadable f y n (x ∷ left)) → ComesBefore f y x
    same_right_side_comes_before x y same other stands readable = record {
      stands = stands;
      other = other;
      apart = λ back. none_in_own_support x (same_reads x y x (reads_of_same f x y same) back);
      readable = readable;
    }

    -- a name is assigned at one point, so what is readable there is readable wherever it is assigned
    pub readable_at_the_point : (x y place : ℕ) (home : Block) (front left : List ℕ) → slice_get f.blocks place ≡ Some home → assigned_in home ≡ front ++ x ∷ left →
        IsReadable f y home.number (x ∷ left) → (n : ℕ) (rest : List ℕ) → IsReadable f y n (x ∷ rest)
    readable_at_the_point x y place home front left at is readable n rest =
        let order = ordered f valid.well_formed in
        let point = point_of_block f order.numbers home (slice_member f.blocks place home at) front (x ∷ left) is in
        record {
          apart = readable.apart;
          fresh = λ past path.
              let met = one_point (flow_of f) (flow_once f order) x home.number n left rest point (path_point (flow_of f) n (x ∷ rest) past path) in
              readable.fresh past (subst (λ m. Path (flow_of f) m (x ∷ left) past) (sym met.0) (subst (λ l. Path (flow_of f) n (x ∷ l) past) (sym met.1) path));
        }
