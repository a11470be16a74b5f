-- The loop of steps: what was done so far, followed by the rewriting of what stands now with the budget left.
use Rattle.std.proofs.Common.{◌≡◌, ℕ, zero, suc, Bool, false, List, [], ◌∷◌, ◌++◌, map, Option}
use Rattle.std.proofs.Common.{Some, None, refl, ap, sym, ◌∙◌, subst, append_assoc, append-nil}
use Rattle.std.specs.Prelude.{is_some}
use Rattle.std.specs.Option.{option_map}
use Rattle.std.proofs.lemmas.List.{map-append}
use Rattle.gim_ast.specs.declared.function.Function.{Function}
use Rattle.gim_changes.specs.Trimming.{tidied}
use Rattle.first_patterns.specs.Subjects as subjects
use Rattle.first_patterns.specs.Subjects.{Subject}
use Rattle.first_rewriting.specs.Rewriting as rewriting
use Rattle.first_rewriting.specs.Rewriting.{Rewritten, base_at, changed, first_choice, rewritten_by, rewriting_of}
use Rattle.first_patterns.specs.declared.row.Row.{Row}
use Rattle.first_patterns.specs.Matching.{row_at}
use Rattle.first_rewriting.specs.Choices.{by_site, EachFolds}
use Rattle.first_rewriting.specs.Typed.{IsTyped, KeepTypes}
use Rattle.first_rewriting.specs.Views.{firing_told}
use Rattle.first_rewriting.specs.declared.firing.Firing.{Firing}
use Rattle.first_rewriting.proofs.Keeping.{stepped_agrees, function_folds}
use Rattle.first_rewriting.proofs.Typings.{tidied_kept}

-- these firings before those of a rewriting
abbrev pub with_firings : List rewriting.Firing → Rewritten → Rewritten
with_firings firings r = record r { firings = firings ++ r.firings }

-- the firings so far, followed by the rewriting of f with so many steps left, are the whole rewriting
abbrev pub Leads : List Row → List Firing → ℕ → Function → Rewritten → Type 0
Leads rows firings left f whole = with_firings (map firing_told firings) (rewritten_by (row_at rows) left f) ≡ whole

subject_there : (o : Option (Subject × rewriting.Choice)) (placed : subjects.Site × rewriting.Choice)
    → option_map by_site o ≡ Some placed → (found : Subject × rewriting.Choice) × (o ≡ Some found)
    × (by_site found ≡ placed)
subject_there None placed is = cc
subject_there (Some found) placed is =
    let same : by_site found ≡ placed = cc in
    (found, refl, same)

none_there : (o : Option (Subject × rewriting.Choice)) → option_map by_site o ≡ None → o ≡ None
none_there None is = refl
none_there (Some found) is = cc

module _ (rows : List Row) where
  step_of : (left : ℕ) (f : Function) (found : Subject × rewriting.Choice) → first_choice (row_at rows) f ≡ Some found
      → rewritten_by (row_at rows) (suc left) f
      ≡ rewriting.with_firing (row_at rows) (rewriting.firing_of (row_at rows) f found)
      (rewritten_by (row_at rows) left (rewriting.stepped (row_at rows) f found))
  unfolding rewritten_by
  step_of left f found is = rw is refl

  stops : (left : ℕ) (f : Function) → first_choice (row_at rows) f ≡ None
      → rewritten_by (row_at rows) left f ≡ record { function = f; firings = []; exhausted = false }
  unfolding rewritten_by
  stops zero f none = rw none refl
  stops (suc left) f none = rw none refl

  spent : (f : Function) → rewritten_by (row_at rows) 0 f
      ≡ record { function = f; firings = []; exhausted = is_some (first_choice (row_at rows) f) }
  unfolding rewritten_by
  spent f = refl

  -- a step made: its firing comes after those so far
  pub leads_on : (firings : List Firing) (firing : Firing) (left less : ℕ) (f g : Function)
      (placed : subjects.Site × rewriting.Choice) (whole : Rewritten)
      → left ≡ suc less
      → option_map by_site (first_choice (row_at rows) f) ≡ Some placed
      → firing_told firing ≡ record { site = placed.0; base = base_at f placed.0; what = placed.1.what }
      → g ≡ tidied (changed placed.0 placed.1.result f)
      → Leads rows firings left f whole
      → Leads rows (firings ++ firing ∷ []) less g whole
  leads_on firings firing left less f g placed whole more there told next leads =
      let at = subject_there (first_choice (row_at rows) f) placed there in
      let found = at.0 in
      let step = step_of less f found at.1 in
      let site : found.0.site ≡ placed.0 = ap (λ (p : subjects.Site × rewriting.Choice). p.0) at.2 in
      let choice : found.1 ≡ placed.1 = ap (λ (p : subjects.Site × rewriting.Choice). p.1) at.2 in
      let fired : firing_told firing ≡ rewriting.firing_of (row_at rows) f found =
      told ∙ (ap (λ s. record { site = s; base = base_at f s; what = placed.1.what }) (sym site)
      ∙ ap (λ (c : rewriting.Choice). record { site = found.0.site; base = base_at f found.0.site; what = c.what })
      (sym choice)) in
      let stands : g ≡ rewriting.stepped (row_at rows) f found =
      next ∙ (ap (λ s. tidied (changed s placed.1.result f)) (sym site)
      ∙ ap (λ (c : rewriting.Choice). tidied (changed found.0.site c.result f)) (sym choice)) in
      let list : map firing_told (firings ++ firing ∷ []) ≡ map firing_told firings ++ rewriting.firing_of (row_at rows) f found ∷ [] =
      map-append firing_told firings (firing ∷ []) ∙ ap (λ x. map firing_told firings ++ x ∷ []) fired in
      let rest = rewritten_by (row_at rows) less (rewriting.stepped (row_at rows) f found) in
      ap (λ h. with_firings (map firing_told (firings ++ firing ∷ [])) (rewritten_by (row_at rows) less h)) stands
      ∙ (ap (λ fs. with_firings fs rest) list
      ∙ (ap (λ fs. record rest { firings = fs })
      (append_assoc (map firing_told firings) (rewriting.firing_of (row_at rows) f found ∷ []) rest.firings)
      ∙ (ap (with_firings (map firing_told firings)) (sym step ∙ ap (λ n. rewritten_by (row_at rows) n f) (sym more)) ∙ leads)))

  -- no subject has a choice
  pub leads_to_end : (firings : List Firing) (left : ℕ) (f : Function) (whole : Rewritten)
      → option_map by_site (first_choice (row_at rows) f) ≡ None → Leads rows firings left f whole
      → record { function = f; firings = map firing_told firings; exhausted = false } ≡ whole
  leads_to_end firings left f whole none leads =
      ap (λ fs. record { function = f; firings = fs; exhausted = false }) (sym (append-nil (map firing_told firings)))
      ∙ (sym (ap (with_firings (map firing_told firings)) (stops left f (none_there (first_choice (row_at rows) f) none))) ∙ leads)

  same_there : (o : Option (Subject × rewriting.Choice)) (b : Bool) → b ≡ is_some (option_map by_site o) → b ≡ is_some o
  same_there None b is = is
  same_there (Some found) b is = is

  -- no step is left
  pub leads_to_budget : (firings : List Firing) (left : ℕ) (f : Function) (further : Bool) (whole : Rewritten)
      → left ≡ 0 → further ≡ is_some (option_map by_site (first_choice (row_at rows) f))
      → Leads rows firings left f whole → record
      { function = f; firings = map firing_told firings; exhausted = further } ≡ whole
  leads_to_budget firings left f further whole none is leads =
      ap (λ fs. record { function = f; firings = fs; exhausted = further }) (sym (append-nil (map firing_told firings)))
      ∙ (ap (λ b. record { function = f; firings = map firing_told firings ++ []; exhausted = b })
      (same_there (first_choice (row_at rows) f) further is)
      ∙ (sym (ap (with_firings (map firing_told firings)) (ap (λ n. rewritten_by (row_at rows) n f) none ∙ spent f)) ∙ leads))

  -- the function after a step is well typed
  pub typed_on : (f g : Function) (placed : subjects.Site × rewriting.Choice) → KeepTypes rows
      → option_map by_site (first_choice (row_at rows) f) ≡ Some placed
      → g ≡ tidied (changed placed.0 placed.1.result f) → IsTyped f → IsTyped g
  typed_on f g placed keep there next h =
      let at = subject_there (first_choice (row_at rows) f) placed there in
      let found = at.0 in
      let kept = stepped_agrees h.ty rows keep f (record { names = h.names; blocks = h.blocks }) found.0 found.1 at.1 in
      let site : found.0.site ≡ placed.0 = ap (λ (p : subjects.Site × rewriting.Choice). p.0) at.2 in
      let choice : found.1 ≡ placed.1 = ap (λ (p : subjects.Site × rewriting.Choice). p.1) at.2 in
      let stands : tidied (changed found.0.site found.1.result f) ≡ g =
      ap (λ (c : rewriting.Choice). tidied (changed found.0.site c.result f)) choice
      ∙ (ap (λ s. tidied (changed s placed.1.result f)) site ∙ sym next) in
      subst IsTyped stands (record { ty = h.ty; names = kept.names; blocks = kept.blocks })

pub leads_begin : (rows : List Row) (firings : List Firing) (left budget : ℕ) (f g : Function) → firings ≡ []
    → left ≡ budget → g ≡ tidied f → Leads rows firings left g (rewriting_of (row_at rows) budget f)
leads_begin rows firings left budget f g none all starts =
    ap (λ fs. with_firings (map firing_told fs) (rewritten_by (row_at rows) left g)) none
    ∙ (ap (λ n. rewritten_by (row_at rows) n g) all ∙ ap (rewritten_by (row_at rows) budget) starts)

pub typed_begin : (f g : Function) → g ≡ tidied f → IsTyped f → IsTyped g
typed_begin f g starts h =
    let kept = tidied_kept h.ty f (record { names = h.names; blocks = h.blocks }) in
    subst IsTyped (sym starts) (record { ty = h.ty; names = kept.names; blocks = kept.blocks })

pub typed_folds : (f : Function) → IsTyped f → EachFolds f (subjects.subjects f)
typed_folds f h = function_folds h.ty f (record { names = h.names; blocks = h.blocks })

pub kept_some : {A B : Type 0} (view : A → B) (found : Option A) (o : Option B) → option_map view found ≡ o → is_some found ≡ is_some o
kept_some view None o is = ap is_some is
kept_some view (Some a) o is = ap is_some is
