-- The points that paths lead to: in which block they are, and that a name is assigned at one point.
use Rattle.std.proofs.Common.{◌≡◌, ◌⊎◌, ℕ, Bool, true, false, cond, Some, List, [], ◌∷◌, ◌++◌, eqb, flat_map, refl, sym, ap, ◌∙◌, subst, inl, inr, ⊎_elim, append_assoc}
use Rattle.std.proofs.lemmas.Bool.{eq-eqb, eqb-true}
use Rattle.std.proofs.lemmas.Option.{same_Some, none-some}
use Rattle.gim_ast.specs.Paths.{Stretch, entry_of, stretch_at, Path, enter, item, jump}
use Rattle.gim_changes.proofs.Members.{IsMember, member_left, member_right, member_middle}
use Rattle.gim_changes.proofs.DistinctNumbers.{AreDistinct, distinct_front, distinct_back, not_in_both, one_rest}

-- the point is one of a block
pub record IsPoint (flow : List Stretch) (n : ℕ) (left : List ℕ) : Type 0 where
  pub home : Stretch
  pub at : stretch_at flow n ≡ Some home
  pub front : List ℕ
  pub is : home.assigns ≡ front ++ left

-- a block found is the first, or is found among the others
stretch_cases : (s : Stretch) (flow : List Stretch) (n : ℕ) (home : Stretch) → stretch_at (s ∷ flow) n ≡ Some home →
    ((s.number ≡ n) × (s ≡ home)) ⊎ (stretch_at flow n ≡ Some home)
stretch_cases s flow n home is = by (eqb s.number n) refl is
  where
    by : (b : Bool) → eqb s.number n ≡ b → cond b (Some s) (stretch_at flow n) ≡ Some home → ((s.number ≡ n) × (s ≡ home)) ⊎ (stretch_at flow n ≡ Some home)
    by true same found = inl (eqb-true s.number n same, same_Some s home found)
    by false same found = inr found

pub number_found : (flow : List Stretch) (n : ℕ) (home : Stretch) → stretch_at flow n ≡ Some home → home.number ≡ n
number_found [] n home is = absurd (none-some home is)
number_found (s ∷ flow) n home is = ⊎_elim
    (λ here. ap (λ (t : Stretch). t.number) (sym here.1) ∙ here.0)
    (λ later. number_found flow n home later)
    (stretch_cases s flow n home is)

pub entry_found : (flow : List Stretch) (entry : Stretch) → entry_of flow ≡ Some entry → stretch_at flow entry.number ≡ Some entry
entry_found [] entry is = absurd (none-some entry is)
entry_found (s ∷ flow) entry is =
    let same = same_Some s entry is in
    let number : eqb s.number entry.number ≡ true = eq-eqb s.number entry.number (ap (λ (t : Stretch). t.number) same) in
    rw number is

pub path_point : (flow : List Stretch) (n : ℕ) (left past : List ℕ) → Path flow n left past → IsPoint flow n left
path_point flow _ _ _ (enter entry is) = record { home = entry; at = entry_found flow entry is; front = []; is = refl }
path_point flow _ _ _ (jump from to past _ leads target path) = record { home = to; at = target; front = []; is = refl }
path_point flow _ _ _ (item n x left past path) =
    let before = path_point flow n (x ∷ left) past path in
    record {
      home = before.home;
      at = before.at;
      front = before.front ++ x ∷ [];
      is = before.is ∙ sym (append_assoc before.front (x ∷ []) left);
    }

abbrev pub assigned_on : List Stretch → List ℕ
assigned_on flow = flat_map (λ (s : Stretch). s.assigns) flow

assigned_there : (flow : List Stretch) (n x : ℕ) (home : Stretch) (front left : List ℕ) → stretch_at flow n ≡ Some home → home.assigns ≡ front ++ x ∷ left →
    IsMember x (assigned_on flow)
assigned_there [] n x home front left at is = absurd (none-some home at)
assigned_there (s ∷ flow) n x home front left at is = ⊎_elim
    (λ here. member_left x s.assigns (assigned_on flow) (subst (IsMember x) (sym (ap (λ (t : Stretch). t.assigns) here.1 ∙ is)) (member_middle x front left)))
    (λ later. member_right x s.assigns (assigned_on flow) (assigned_there flow n x home front left later is))
    (stretch_cases s flow n home at)

pub assigned_at_point : (flow : List Stretch) (n x : ℕ) (left : List ℕ) → IsPoint flow n (x ∷ left) → IsMember x (assigned_on flow)
assigned_at_point flow n x left point = assigned_there flow n x point.home point.front left point.at point.is

-- where no name is assigned twice, two points at which a name is about to be assigned are one
module _ (x : ℕ) (left rest : List ℕ) where
  points_met : (flow : List Stretch) → AreDistinct (assigned_on flow) → (n m : ℕ) (home other : Stretch) (front before : List ℕ) →
      stretch_at flow n ≡ Some home → home.assigns ≡ front ++ x ∷ left → stretch_at flow m ≡ Some other → other.assigns ≡ before ++ x ∷ rest →
      (n ≡ m) × (left ≡ rest)
  points_met [] once n m home other front before at is at_other is_other = absurd (none-some home at)
  points_met (s ∷ flow) once n m home other front before at is at_other is_other = ⊎_elim
      (λ here. ⊎_elim
      (λ here_too.
      let mine : s.assigns ≡ front ++ x ∷ left = ap (λ (t : Stretch). t.assigns) here.1 ∙ is in
      let mine_too : s.assigns ≡ before ++ x ∷ rest = ap (λ (t : Stretch). t.assigns) here_too.1 ∙ is_other in (
        sym here.0 ∙ here_too.0,
        one_rest x front left before rest (subst AreDistinct mine (distinct_front s.assigns (assigned_on flow) once)) (sym mine ∙ mine_too),
      ))
      (λ later. absurd (not_in_both x s.assigns (assigned_on flow) once
      (subst (IsMember x) (sym (ap (λ (t : Stretch). t.assigns) here.1 ∙ is)) (member_middle x front left))
      (assigned_there flow m x other before rest later is_other)))
      (stretch_cases s flow m other at_other))
      (λ later. ⊎_elim
      (λ here_too. absurd (not_in_both x s.assigns (assigned_on flow) once
      (subst (IsMember x) (sym (ap (λ (t : Stretch). t.assigns) here_too.1 ∙ is_other)) (member_middle x before rest))
      (assigned_there flow n x home front left later is)))
      (λ later_too. points_met flow (distinct_back s.assigns (assigned_on flow) once) n m home other front before later is later_too is_other)
      (stretch_cases s flow m other at_other))
      (stretch_cases s flow n home at)

pub one_point : (flow : List Stretch) → AreDistinct (assigned_on flow) → (x n m : ℕ) (left rest : List ℕ) → IsPoint flow n (x ∷ left) → IsPoint flow m (x ∷ rest) →
    (n ≡ m) × (left ≡ rest)
one_point flow once x n m left rest a b = points_met x left rest flow once n m a.home b.home a.front b.front a.at a.is b.at b.is
