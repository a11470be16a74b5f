-- Rules that no element of a list breaks, each judged by those before it, the latest of them first.
use Rattle.std.proofs.Common.{◌≡◌, ℕ, Bool, true, false, Option, Some, None, List, [], ◌∷◌, refl, sym, ap, subst, ◌∙◌, inl, inr}
use Rattle.std.specs.Prelude.{◌||◌, not}
use Rattle.std.specs.List.{list_any, filter_map, cons_option}
use Rattle.std.proofs.lemmas.Bool.{and_parts, or_parts, or_from, not-true, false≢true}
use Rattle.gim_ast.specs.WellFormed.{same_text, all_distinct}
use Rattle.gim_names.specs.Rules.{stands, differs, has_other_second}
use Rattle.gim_text.proofs.SameTexts.{same_text_symm, same_text_itself, same_text_is}
use Rattle.gim_text.proofs.Membership.{Has, none_from_has, has_said, from_said}

-- the rule is broken at no element
abbrev pub NeverBy : {X : Type 0} → (List X → X → Bool) → List X → List X → Type 0
NeverBy broken before [] = Unit {0}
NeverBy broken before (x ∷ xs) = (broken before x ≡ false) × NeverBy broken (x ∷ before) xs

-- neither of two rules
pub never_either : {X : Type 0} (p q : List X → X → Bool) (before xs : List X) → NeverBy p before xs → NeverBy q before xs
    → NeverBy (λ b x. p b x || q b x) before xs
never_either p q before [] h k = tt
never_either p q before (x ∷ xs) h k = (or_from (p before x) (q before x) h.0 k.0, never_either p q (x ∷ before) xs h.1 k.1)

-- a rule that is kept wherever those before are of the whole list too
never_within : {X : Type 0} (broken : List X → X → Bool) (all : List X)
    → ((before : List X) (x : X) → ((y : X) → Has before y → Has all y) → Has all x → broken before x ≡ false)
    → (before xs : List X) → ((y : X) → Has before y → Has all y) → ((y : X) → Has xs y → Has all y) → NeverBy broken before xs
never_within broken all kept before [] within rest = tt
never_within broken all kept before (x ∷ xs) within rest = (
  kept before x within (rest x (inl refl)),
  never_within broken all kept (x ∷ before) xs grown (λ y there. rest y (inr there)),
) where
  grown : (y : _) → Has (x ∷ before) y → Has all y
  grown y (inl e) = subst (Has all) e (rest x (inl refl))
  grown y (inr there) = within y there

pub never_among : {X : Type 0} (broken : List X → X → Bool) (all : List X)
    → ((before : List X) (x : X) → ((y : X) → Has before y → Has all y) → Has all x → broken before x ≡ false) → NeverBy broken [] all
never_among broken all kept = never_within broken all kept [] all (λ y there. absurd there) (λ y there. there)

-- a rule that looks at none before
pub never_each : {X : Type 0} (broken : X → Bool) (all : List X) → ((x : X) → Has all x → broken x ≡ false)
    → NeverBy (λ b x. broken x) [] all
never_each broken all kept = never_among (λ b x. broken x) all (λ before x within there. kept x there)

-- ---- nothing is said again

-- no text of the first list is one of the second
abbrev AreApart : List (List ℕ) → List (List ℕ) → Type 0
AreApart known later = (t : List ℕ) → Has known t → list_any (same_text t) later ≡ false

record IsNew (o : Option (List ℕ)) (known later : List (List ℕ)) : Type 0 where
  here : stands o known ≡ false
  apart : AreApart (cons_option o known) later
  distinct : all_distinct same_text later ≡ true

new_by : (o : Option (List ℕ)) (known later : List (List ℕ)) → AreApart known (cons_option o later)
    → all_distinct same_text (cons_option o later) ≡ true → IsNew o known later
new_by None known later apart distinct = record { here = refl; apart = apart; distinct = distinct }
new_by (Some x) known later apart distinct =
    let d = and_parts (not (list_any (same_text x) later)) (all_distinct same_text later) distinct in
    record {
      here = none_from_has (same_text x) known (λ t there same. false≢true
          (sym (or_parts (same_text t x) (list_any (same_text t) later) (apart t there)).0 ∙ same_text_symm t x ∙ same));
      apart = grown d.0;
      distinct = d.1;
    } where
      grown : not (list_any (same_text x) later) ≡ true → AreApart (x ∷ known) later
      grown new t (inl e) = subst (λ u. list_any (same_text u) later ≡ false) e (not-true (list_any (same_text x) later) new)
      grown new t (inr there) = (or_parts (same_text t x) (list_any (same_text t) later) (apart t there)).1

never_again : {M : Type 0} (says : M → Option (List ℕ)) (before ms : List M) → AreApart (filter_map says before) (filter_map says ms)
    → all_distinct same_text (filter_map says ms) ≡ true
    → NeverBy (λ b m. stands (says m) (filter_map says b)) before ms
never_again says before [] apart distinct = tt
never_again says before (m ∷ ms) apart distinct =
    let new = new_by (says m) (filter_map says before) (filter_map says ms) apart distinct in
    (new.here, never_again says (m ∷ before) ms new.apart new.distinct)

pub never_twice : {M : Type 0} (says : M → Option (List ℕ)) (all : List M) → all_distinct same_text (filter_map says all) ≡ true
    → NeverBy (λ b m. stands (says m) (filter_map says b)) [] all
never_twice says all distinct = never_again says [] all (λ t there. absurd there) distinct

-- ---- no two say what contradicts

-- nothing that one says is what the other says
pub never_both : {M : Type 0} (one other : M → Option (List ℕ)) (all : List M)
    → ((x y : List ℕ) → Has (filter_map one all) x → Has (filter_map other all) y → y ≡ x → ⊥)
    → NeverBy (λ b m. stands (other m) (filter_map one b)) [] all
never_both one other all apart = never_among (λ b m. stands (other m) (filter_map one b)) all
    (λ before m within there. by before m within there (other m) refl) where
      by : (before : List _) (m : _) → ((n : _) → Has before n → Has all n) → Has all m → (o : Option (List ℕ)) → other m ≡ o
          → stands o (filter_map one before) ≡ false
      by before m within there None is = refl
      by before m within there (Some y) is =
          none_from_has (same_text y) (filter_map one before) (λ x said same.
          let n = from_said one before x said in
          apart x y (has_said one all n.0 x (within n.0 n.1) n.2) (has_said other all m y there is) (same_text_is y x same))

-- pairs of one first part have one second part
pub never_differs : {M : Type 0} (says : M → Option (List ℕ × List ℕ)) (all : List M)
    → ((p q : List ℕ × List ℕ) → Has (filter_map says all) p → Has (filter_map says all) q → p.0 ≡ q.0 → p.1 ≡ q.1)
    → NeverBy (λ b m. differs (says m) (filter_map says b)) [] all
never_differs says all agree = never_among (λ b m. differs (says m) (filter_map says b)) all
    (λ before m within there. by before m within there (says m) refl) where
      alike : (p q : List ℕ × List ℕ) → (p.0 ≡ q.0 → p.1 ≡ q.1) → has_other_second p.0 p.1 q ≡ true → ⊥
      alike p q one other =
          let h = and_parts (same_text p.0 q.0) (not (same_text p.1 q.1)) other in
          false≢true (ap not (sym (ap (same_text p.1) (sym (one (same_text_is p.0 q.0 h.0))) ∙ same_text_itself p.1)) ∙ h.1)

      by : (before : List _) (m : _) → ((n : _) → Has before n → Has all n) → Has all m → (o : Option (List ℕ × List ℕ)) → says m ≡ o
          → differs o (filter_map says before) ≡ false
      by before m within there None is = refl
      by before m within there (Some p) is =
          none_from_has (has_other_second p.0 p.1) (filter_map says before) (λ q said other.
          let n = from_said says before q said in
          alike p q (agree p q (has_said says all m p there is) (has_said says all n.0 q (within n.0 n.1) n.2)) other)
