-- Paths of a function and paths of the same without the assignments of one name: each leads where the other does, and passes the other names alike.
use Rattle.std.proofs.Common.{◌+◌, suc, length, length-append, append_assoc, append-nil, arith, subst, ◌≡◌, ◌⊎◌, ℕ, Bool, true, false, cond, not, Some, List, [], ◌∷◌, ◌++◌, eqb, map, filter, refl, sym, ap, ◌∙◌, inl, inr, ⊎_elim}
use Rattle.std.proofs.lemmas.Bool.{eqb-true}
use Rattle.std.proofs.lemmas.Option.{same_Some, none-some}
use Rattle.std.specs.Bool.{IsTrue}
use Rattle.std.proofs.lemmas.List.Elements.{filter-append}
use Rattle.gim_ast.specs.WellFormed.{is_among}
use Rattle.gim_ast.specs.Paths.{Stretch, entry_of, stretch_at, Path, enter, item, jump}
use Rattle.gim_changes.specs.Validity.{IsAssignedAfter}
use Rattle.gim_changes.proofs.Members.{first_or, rest_of}
use Rattle.gim_changes.proofs.Unused.{other}
use Rattle.gim_changes.proofs.Points.{IsPoint, number_found, entry_found}

-- a block without the assignments of x
abbrev pub less : ℕ → Stretch → Stretch
less x s = record s { assigns = filter (other x) s.assigns }

-- the names of `front`, passed after others
abbrev pub onto : List ℕ → List ℕ → List ℕ
onto [] past = past
onto (z ∷ front) past = onto front (z ∷ past)

onto_one_more : (front : List ℕ) (z : ℕ) (past : List ℕ) → onto (front ++ z ∷ []) past ≡ z ∷ onto front past
onto_one_more [] z past = refl
onto_one_more (y ∷ front) z past = onto_one_more front z (y ∷ past)

walk : (flow : List Stretch) (n : ℕ) (front left past : List ℕ) → Path flow n (front ++ left) past → Path flow n left (onto front past)
walk flow n [] left past path = path
walk flow n (z ∷ front) left past path = walk flow n front left (z ∷ past) (item n z (front ++ left) past path)

filtered_onto : (p : ℕ → Bool) (front past : List ℕ) → filter p (onto front past) ≡ onto (filter p front) (filter p past)
filtered_onto p [] past = refl
filtered_onto p (z ∷ front) past = filtered_onto p front (z ∷ past) ∙ by (p z)
  where
    by : (b : Bool) → onto (filter p front) (cond b (z ∷ filter p past) (filter p past)) ≡ onto (cond b (z ∷ filter p front) (filter p front)) (filter p past)
    by true = refl
    by false = refl

no_longer : (v : ℕ) (us vs : List ℕ) → vs ≡ v ∷ (us ++ vs) → ⊥
no_longer v us vs e =
    let long : length vs ≡ suc (length us + length vs) = ap length e ∙ ap suc (length-append us vs) in
    omega (arith, long)

-- what stands before one list is one list
pub front_is : (front us vs : List ℕ) → front ++ vs ≡ us ++ vs → front ≡ us
front_is [] [] vs e = refl
front_is [] (u ∷ us) vs e = absurd (no_longer u us vs e)
front_is (z ∷ front) [] vs e = absurd (no_longer z front vs (sym e))
front_is (z ∷ front) (u ∷ us) vs e = ap (λ y. y ∷ front) (ap (first_or z) e) ∙ ap (λ l. u ∷ l) (front_is front us vs (ap rest_of e))

module _ (x : ℕ) where
  less_found : (flow : List Stretch) (n : ℕ) (s : Stretch) → stretch_at flow n ≡ Some s → stretch_at (map (less x) flow) n ≡ Some (less x s)
  less_found [] n s is = absurd (none-some s is)
  less_found (t ∷ flow) n s is = by (eqb t.number n) (less_found flow n s) is
    where
      by : (b : Bool) → (stretch_at flow n ≡ Some s → stretch_at (map (less x) flow) n ≡ Some (less x s)) → cond b (Some t) (stretch_at flow n) ≡ Some s →
          cond b (Some (less x t)) (stretch_at (map (less x) flow) n) ≡ Some (less x s)
      by true rest found = ap (λ (u : Stretch). Some (less x u)) (same_Some t s found)
      by false rest found = rest found

  found_before : (flow : List Stretch) (n : ℕ) (s : Stretch) → stretch_at (map (less x) flow) n ≡ Some s → (t : Stretch) × (stretch_at flow n ≡ Some t) × (less x t ≡ s)
  found_before [] n s is = absurd (none-some s is)
  found_before (t ∷ flow) n s is = by (eqb t.number n) (found_before flow n s) is
    where
      by : (b : Bool) → (stretch_at (map (less x) flow) n ≡ Some s → (u : Stretch) × (stretch_at flow n ≡ Some u) × (less x u ≡ s)) →
          cond b (Some (less x t)) (stretch_at (map (less x) flow) n) ≡ Some s → (u : Stretch) × (cond b (Some t) (stretch_at flow n) ≡ Some u) × (less x u ≡ s)
      by true rest found = (t, refl, same_Some (less x t) s found)
      by false rest found = rest found

  entry_before : (flow : List Stretch) (s : Stretch) → entry_of (map (less x) flow) ≡ Some s → (t : Stretch) × (entry_of flow ≡ Some t) × (less x t ≡ s)
  entry_before [] s is = absurd (none-some s is)
  entry_before (t ∷ flow) s is = (t, refl, same_Some (less x t) s is)

  -- ---- what was assigned

  pub assigned_without_it : (initial : ℕ → Bool) (y : ℕ) → (y ≡ x → ⊥) → (past : List ℕ) → IsAssignedAfter initial y past → IsAssignedAfter initial y (filter (other x) past)
  assigned_without_it initial y apart [] is = is
  assigned_without_it initial y apart (z ∷ past) is = by (eqb z x) (eqb-true z x) (assigned_without_it initial y apart past) is
    where
      by : (b : Bool) → (b ≡ true → z ≡ x) → (IsAssignedAfter initial y past → IsAssignedAfter initial y (filter (other x) past)) → (z ≡ y) ⊎ IsAssignedAfter initial y past →
          IsAssignedAfter initial y (cond (not b) (z ∷ filter (other x) past) (filter (other x) past))
      by true same rest found = ⊎_elim (λ now. absurd (apart (sym now ∙ same refl))) (λ earlier. rest earlier) found
      by false same rest found = ⊎_elim (λ now. inl now) (λ earlier. inr (rest earlier)) found

  pub assigned_with_it : (initial : ℕ → Bool) (y : ℕ) (past : List ℕ) → IsAssignedAfter initial y (filter (other x) past) → IsAssignedAfter initial y past
  assigned_with_it initial y [] is = is
  assigned_with_it initial y (z ∷ past) is = by (eqb z x) (assigned_with_it initial y past) is
    where
      by : (b : Bool) → (IsAssignedAfter initial y (filter (other x) past) → IsAssignedAfter initial y past) →
          IsAssignedAfter initial y (cond (not b) (z ∷ filter (other x) past) (filter (other x) past)) → (z ≡ y) ⊎ IsAssignedAfter initial y past
      by true rest found = inr (rest found)
      by false rest found = ⊎_elim (λ now. inl now) (λ earlier. inr (rest earlier)) found

  -- ---- from a path to one without the name

  pub path_without : (flow : List Stretch) (n : ℕ) (left past : List ℕ) → Path flow n left past → Path (map (less x) flow) n (filter (other x) left) (filter (other x) past)
  path_without flow _ _ _ (enter entry is) = enter (less x entry) (first flow is)
    where
      first : (ss : List Stretch) → entry_of ss ≡ Some entry → entry_of (map (less x) ss) ≡ Some (less x entry)
      first [] e = absurd (none-some entry e)
      first (s ∷ ss) e = ap (λ (t : Stretch). Some (less x t)) (same_Some s entry e)
  path_without flow _ _ _ (jump from to past found leads target path) =
      jump (less x from) (less x to) (filter (other x) past) (less_found flow from.number from found) leads (less_found flow to.number to target)
      (path_without flow from.number [] past path)
  path_without flow _ _ _ (item n z left past path) = by (eqb z x) (path_without flow n (z ∷ left) past path)
    where
      by : (b : Bool) → Path (map (less x) flow) n (cond (not b) (z ∷ filter (other x) left) (filter (other x) left)) (filter (other x) past) →
          Path (map (less x) flow) n (filter (other x) left) (cond (not b) (z ∷ filter (other x) past) (filter (other x) past))
      by true shorter = shorter
      by false shorter = item n z (filter (other x) left) (filter (other x) past) shorter

  -- ---- from a path without the name to one with it

  -- the path to the head of the block, and what the block has assigned
  record IsLifted (flow : List Stretch) (n : ℕ) (left past : List ℕ) : Type 0 where
    home : Stretch
    at : stretch_at flow n ≡ Some home
    before : List ℕ
    path : Path flow n home.assigns before
    front : List ℕ
    is : filter (other x) home.assigns ≡ front ++ left
    past_is : past ≡ onto front (filter (other x) before)

  lift : (flow : List Stretch) (n : ℕ) (left past : List ℕ) → Path (map (less x) flow) n left past → IsLifted flow n left past
  lift flow _ _ _ (enter entry is) =
      let found = entry_before flow entry is in
      let number : found.0.number ≡ entry.number = ap (λ (s : Stretch). s.number) found.2 in
      record {
        home = found.0;
        at = subst (λ m. stretch_at flow m ≡ Some found.0) number (entry_found flow found.0 found.1);
        before = [];
        path = subst (λ m. Path flow m found.0.assigns []) number (enter found.0 found.1);
        front = [];
        is = ap (λ (s : Stretch). s.assigns) found.2;
        past_is = refl;
      }
  lift flow _ _ _ (item n z left past path) =
      let low = lift flow n (z ∷ left) past path in
      record {
        home = low.home;
        at = low.at;
        before = low.before;
        path = low.path;
        front = low.front ++ z ∷ [];
        is = low.is ∙ sym (append_assoc low.front (z ∷ []) left);
        past_is = ap (λ l. z ∷ l) low.past_is ∙ sym (onto_one_more low.front z (filter (other x) low.before));
      }
  lift flow _ _ _ (jump from to past found leads target path) =
      let low = lift flow from.number [] past path in
      let next = found_before flow to.number to target in
      let same : less x low.home ≡ from = same_Some (less x low.home) from (sym (less_found flow from.number low.home low.at) ∙ found) in
      let number : low.home.number ≡ from.number = number_found flow from.number low.home low.at in
      let to_number : next.0.number ≡ to.number = ap (λ (s : Stretch). s.number) next.2 in
      let walked : Path flow from.number [] (onto low.home.assigns low.before) =
      walk flow from.number low.home.assigns [] low.before (subst (λ l. Path flow from.number l low.before) (sym (append-nil low.home.assigns)) low.path) in
      let leads_on : IsTrue (is_among next.0.number low.home.targets) =
      subst (λ m. IsTrue (is_among m low.home.targets)) (sym to_number) (subst (λ ts. IsTrue (is_among to.number ts)) (sym (ap (λ (s : Stretch). s.targets) same)) leads) in
      let jumped : Path flow next.0.number next.0.assigns (onto low.home.assigns low.before) =
      jump low.home next.0 (onto low.home.assigns low.before) (subst (λ m. stretch_at flow m ≡ Some low.home) (sym number) low.at) leads_on
      (subst (λ m. stretch_at flow m ≡ Some next.0) (sym to_number) next.1) (subst (λ m. Path flow m [] (onto low.home.assigns low.before)) (sym number) walked) in
      record {
        home = next.0;
        at = next.1;
        before = onto low.home.assigns low.before;
        path = subst (λ m. Path flow m next.0.assigns (onto low.home.assigns low.before)) to_number jumped;
        front = [];
        is = ap (λ (s : Stretch). s.assigns) next.2;
        past_is = low.past_is ∙ (ap (λ l. onto l (filter (other x) low.before)) (sym (low.is ∙ append-nil low.front)) ∙ sym (filtered_onto (other x) low.home.assigns low.before));
      }

  pub lifted_to : (flow : List Stretch) (n : ℕ) (left past : List ℕ) → IsPoint flow n left → Path (map (less x) flow) n (filter (other x) left) past →
      (whole : List ℕ) × Path flow n left whole × (filter (other x) whole ≡ past)
  lifted_to flow n left past point path =
      let low = lift flow n (filter (other x) left) past path in
      let same : low.home ≡ point.home = same_Some low.home point.home (sym low.at ∙ point.at) in
      let assigns : low.home.assigns ≡ point.front ++ left = ap (λ (s : Stretch). s.assigns) same ∙ point.is in
      let fronts : low.front ≡ filter (other x) point.front =
      front_is low.front (filter (other x) point.front) (filter (other x) left) (sym low.is ∙ (ap (filter (other x)) assigns ∙ filter-append (other x) point.front left)) in (
        onto point.front low.before,
        walk flow n point.front left low.before (subst (λ l. Path flow n l low.before) assigns low.path),
        filtered_onto (other x) point.front low.before ∙ (ap (λ l. onto l (filter (other x) low.before)) (sym fronts) ∙ sym low.past_is),
      )

  pub lifted_to_end : (flow : List Stretch) (n : ℕ) (past : List ℕ) → Path (map (less x) flow) n [] past → (whole : List ℕ) × Path flow n [] whole × (filter (other x) whole ≡ past)
  lifted_to_end flow n past path =
      let low = lift flow n [] past path in
      lifted_to flow n [] past (record { home = low.home; at = low.at; front = low.home.assigns; is = sym (append-nil low.home.assigns) }) path
