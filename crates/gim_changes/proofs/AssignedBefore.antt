-- Where each name that a statement reads is assigned on every path to it, a name that every path to a point assigns is fresh there: were a name of its
-- support assigned since, then some path to that name would have to pass it and the other before one another without end.
use Rattle.std.proofs.Common.{◌≡◌, ℕ, zero, suc, ◌<◌, Bool, List, [], ◌∷◌, length, subst, inl, inr, ⊎_elim, arith}
use Rattle.std.specs.Bool.{IsTrue}
use Rattle.std.proofs.lemmas.Bool.{cases_eq}
use Rattle.gim_ast.specs.WellFormed.{is_among}
use Rattle.gim_ast.specs.Paths.{Stretch, Path, enter, item, jump}
use Rattle.gim_ast.specs.Readable.{Supports, operand, further, Fresh}
use Rattle.gim_changes.specs.Validity.{IsAssignedAfter}
use Rattle.gim_changes.proofs.Points.{path_point, assigned_on, one_point}
use Rattle.gim_changes.proofs.DistinctNumbers.{AreDistinct}

-- what is fresh was assigned
pub assigned_where_fresh : (initial : ℕ → Bool) (reads : ℕ → List ℕ) (x : ℕ) (past : List ℕ) → Fresh initial reads x past → IsAssignedAfter initial x past
assigned_where_fresh initial reads x [] fresh = fresh
assigned_where_fresh initial reads x (y ∷ past) fresh = ⊎_elim (λ now. inl now) (λ earlier. inr (assigned_where_fresh initial reads x past earlier.1)) fresh

-- a path to the assignment of a name, which is shorter than another
pub record IsEarlier (flow : List Stretch) (x : ℕ) (past : List ℕ) : Type 0 where
  pub at : ℕ
  pub left : List ℕ
  pub before : List ℕ
  pub path : Path flow at (x ∷ left) before
  pub shorter : length before < length past

module _ (flow : List Stretch) (initial : ℕ → Bool) where
  -- a name that a path assigned was about to be assigned earlier on it
  pub assigned_earlier : (x : ℕ) → (IsTrue (initial x) → ⊥) → (n : ℕ) (left past : List ℕ) → Path flow n left past → IsAssignedAfter initial x past → IsEarlier flow x past
  assigned_earlier x plain _ _ _ (enter entry is) assigned = absurd (plain assigned)
  assigned_earlier x plain _ _ _ (jump from to past _ leads target path) assigned = assigned_earlier x plain from.number [] past path assigned
  assigned_earlier x plain _ _ _ (item n z left past path) assigned = ⊎_elim
      (λ (now : z ≡ x). record { at = n; left = left; before = past; path = subst (λ w. Path flow n (w ∷ left) past) now path; shorter = omega arith })
      (λ earlier. let found = assigned_earlier x plain n (z ∷ left) past path earlier in
      record { at = found.at; left = found.left; before = found.before; path = found.path; shorter = omega (arith, found.shorter) })
      assigned

  -- what was assigned before an earlier assignment is assigned
  pub assigned_since : (x y : ℕ) → (IsTrue (initial x) → ⊥) → ((n : ℕ) (left past : List ℕ) → Path flow n (x ∷ left) past → IsAssignedAfter initial y past) →
      (n : ℕ) (left past : List ℕ) → Path flow n left past → IsAssignedAfter initial x past → IsAssignedAfter initial y past
  assigned_since x y plain before _ _ _ (enter entry is) assigned = absurd (plain assigned)
  assigned_since x y plain before _ _ _ (jump from to past _ leads target path) assigned = assigned_since x y plain before from.number [] past path assigned
  assigned_since x y plain before _ _ _ (item n z left past path) assigned = ⊎_elim
      (λ (now : z ≡ x). inr (before n left past (subst (λ w. Path flow n (w ∷ left) past) now path)))
      (λ earlier. inr (assigned_since x y plain before n (z ∷ left) past path earlier))
      assigned

-- where a statement is about to assign its name, each name that it reads is assigned
abbrev pub AreReadAssigned : List Stretch → (ℕ → Bool) → (ℕ → List ℕ) → Type 0
AreReadAssigned flow initial reads =
    (n x y : ℕ) (left past : List ℕ) → Path flow n (x ∷ left) past → IsTrue (is_among y (reads x)) → IsAssignedAfter initial y past

module _ (flow : List Stretch) (initial : ℕ → Bool) (reads : ℕ → List ℕ) (once : AreDistinct (assigned_on flow)) (read : AreReadAssigned flow initial reads)
    (plain : (n x : ℕ) (left past : List ℕ) → Path flow n (x ∷ left) past → IsTrue (initial x) → ⊥)
    (unread : (x y : ℕ) → IsTrue (initial x) → IsTrue (is_among y (reads x)) → ⊥) where
  initial_alone : (x y : ℕ) → IsTrue (initial x) → Supports reads x y → ⊥
  initial_alone x y is (operand _ _ reads_it) = unread x y is reads_it
  initial_alone x y is (further _ w _ reads_it rest) = unread x w is reads_it

  -- each name of the support is assigned before
  pub support_assigned : (x z : ℕ) → Supports reads x z → (n : ℕ) (left past : List ℕ) → Path flow n (x ∷ left) past → IsAssignedAfter initial z past
  support_assigned x z (operand _ _ reads_it) n left past path = read n x z left past path reads_it
  support_assigned x z (further _ w _ reads_it rest) n left past path =
      assigned_since flow initial w z (λ is. initial_alone w z is rest) (support_assigned w z rest) n (x ∷ left) past path (read n x w left past path reads_it)

  -- two names can't each be assigned before the other
  pub no_circle : (x z : ℕ) → (IsTrue (initial x) → ⊥) → ((n : ℕ) (left past : List ℕ) → Path flow n (x ∷ left) past → IsAssignedAfter initial z past) →
      (n : ℕ) (left : List ℕ) → ((past : List ℕ) → Path flow n (z ∷ left) past → IsAssignedAfter initial x past) →
      (long : ℕ) (past : List ℕ) → length past < long → Path flow n (z ∷ left) past → ⊥
  no_circle x z plain_x needs n left leads zero past within path = omega arith
  no_circle x z plain_x needs n left leads (suc long) past within path =
      let to_x = assigned_earlier flow initial x plain_x n (z ∷ left) past path (leads past path) in
      let to_z = assigned_earlier flow initial z (plain n z left past path) to_x.at (x ∷ to_x.left) to_x.before to_x.path (needs to_x.at to_x.left to_x.before to_x.path) in
      let met = one_point flow once z to_z.at n to_z.left left (path_point flow to_z.at (z ∷ to_z.left) to_z.before to_z.path) (path_point flow n (z ∷ left) past path) in
      no_circle x z plain_x needs n left leads long to_z.before (omega (arith, to_x.shorter, to_z.shorter))
      (subst (λ l. Path flow n (z ∷ l) to_z.before) met.1 (subst (λ m. Path flow m (z ∷ to_z.left) to_z.before) met.0 to_z.path))

  pub fresh_where_assigned : (x n : ℕ) (left past : List ℕ) → Path flow n left past → ((other : List ℕ) → Path flow n left other → IsAssignedAfter initial x other) →
      Fresh initial reads x past
  fresh_where_assigned x _ _ _ (enter entry is) always = always [] (enter entry is)
  fresh_where_assigned x _ _ _ (jump from to past found leads target path) always =
      fresh_where_assigned x from.number [] past path (λ other earlier. always other (jump from to other found leads target earlier))
  fresh_where_assigned x _ _ _ (item n z left past path) always = ⊎_elim
      (λ (now : z ≡ x). inl now)
      (λ (apart : z ≡ x → ⊥).
      let before : (other : List ℕ) → Path flow n (z ∷ left) other → IsAssignedAfter initial x other =
      λ other earlier. ⊎_elim (λ now. absurd (apart now)) (λ assigned. assigned) (always (z ∷ other) (item n z left other earlier)) in
      inr (
        λ supports. no_circle x z (λ is. initial_alone x z is supports) (support_assigned x z supports) n left before (suc (length past)) past (omega arith) path,
        fresh_where_assigned x n (z ∷ left) past path before,
      ))
      (cases_eq z x)
