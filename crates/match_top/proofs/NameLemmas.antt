-- The rows of `names` stay in order under the rewriting.
use Rattle.std.proofs.Common.{◌≡◌, ℕ, zero, suc, Bool, true, false, ◌&&◌, ◌||◌, List, [], ◌∷◌, Option, Some, None, map, refl, ap, ◌∙◌, ltb, cond, filter}
use Rattle.std.specs.List.{list_all}
use Rattle.std.specs.Option.{option_map_or}
use Rattle.pm_wide.specs.declared.operand.Operand.{Operand}
use Rattle.gim_ast.specs.declared.function.Function.{Function}
use Rattle.gim_ast.specs.declared.function.NameRow.{NameRow}
use Rattle.gim_changes.specs.Substitution.{put_in_all, with_rhs, with_condition}
use Rattle.gim_changes.specs.Removal.{without, pruned_by, pruned, last_unused}
use Rattle.gim_changes.specs.Trimming.{trimmed, tidied, stands_in, is_empty_text}
use Rattle.first_patterns.specs.Subjects.{Site, AtStmt, AtCond, Subject, View}
use Rattle.first_rewriting.specs.Rewriting.{Result, AsOperand, AsExchanged, Choice, Rewritten, changed, first_choice, stepped, rewritten_by, rewriting_of, firing_of, with_firing}
use Rattle.gim_ast.specs.WellFormed.{rises, names_rise}

both : (a b : Bool) → a ≡ true → b ≡ true → (a && b) ≡ true
both true b p q = q
both false b p q = p

left : (a b : Bool) → (a && b) ≡ true → a ≡ true
left true b p = refl
left false b p = p

right : (a b : Bool) → (a && b) ≡ true → b ≡ true
right true b p = p
right false b p = cc

-- a test of each element stays under a filter
module _ {X : Type 0} (value : X → ℕ) (keep : X → Bool) where
  all_kept : (p : ℕ → Bool) (xs : List X) → list_all p (map value xs) ≡ true → list_all p (map value (filter keep xs)) ≡ true
  all_kept p [] h = h
  all_kept p (x ∷ xs) h = by_cases (keep x) (all_kept p xs (right (p (value x)) (list_all p (map value xs)) h)) where
    by_cases : (b : Bool) → list_all p (map value (filter keep xs)) ≡ true → list_all p (map value (cond b (x ∷ filter keep xs) (filter keep xs))) ≡ true
    by_cases true rest = both (p (value x)) _ (left (p (value x)) (list_all p (map value xs)) h) rest
    by_cases false rest = rest

  rises_kept : (xs : List X) → rises (map value xs) ≡ true → rises (map value (filter keep xs)) ≡ true
  rises_kept [] h = h
  rises_kept (x ∷ xs) h = by_cases (keep x) (rises_kept xs (right (list_all (ltb (value x)) (map value xs)) (rises (map value xs)) h)) where
    by_cases : (b : Bool) → rises (map value (filter keep xs)) ≡ true → rises (map value (cond b (x ∷ filter keep xs) (filter keep xs))) ≡ true
    by_cases true rest = both (list_all (ltb (value x)) (map value (filter keep xs))) _ (all_kept (ltb (value x)) xs (left (list_all (ltb (value x)) (map value xs)) (rises (map value xs)) h)) rest
    by_cases false rest = rest

-- ---- what changes blocks alone keeps the rows

names-changed : (site : Site) (result : Result) (f : Function) → (changed site result f).names ≡ f.names
unfolding put_in_all with_rhs with_condition
names-changed (AtStmt x) (AsOperand a) f = refl
names-changed (AtStmt x) (AsExchanged code a b) f = refl
names-changed (AtCond n) (AsOperand a) f = refl
names-changed (AtCond n) (AsExchanged code a b) f = refl

names-without : (x : ℕ) (f : Function) → (without x f).names ≡ f.names
unfolding without
names-without x f = refl

module _ (more : ℕ → Function) (f : Function) (keeps : (x : ℕ) → (more x).names ≡ f.names) where
  names-pruned_at : (found : Option ℕ) → (option_map_or more found f).names ≡ f.names
  names-pruned_at None = refl
  names-pruned_at (Some x) = keeps x

names-pruned_by : (n : ℕ) (f : Function) → (pruned_by n f).names ≡ f.names
names-pruned_by zero f = refl
names-pruned_by (suc n) f = names-pruned_at (λ x. pruned_by n (without x f)) f (λ x. names-pruned_by n (without x f) ∙ names-without x f) (last_unused f)

names-pruned : (f : Function) → (pruned f).names ≡ f.names
unfolding pruned
names-pruned f = names-pruned_by _ f

-- rows that stay are in order as they were
pub rise_kept_rows : (g f : Function) → g.names ≡ f.names → names_rise f ≡ true → names_rise g ≡ true
rise_kept_rows g f same h = ap (λ rows. rises (map (λ (row : NameRow). row.version) rows)) same ∙ h

pub rise_trimmed : (f : Function) → names_rise f ≡ true → names_rise (trimmed f) ≡ true
unfolding trimmed
rise_trimmed f h = rises_kept (λ (row : NameRow). row.version) (λ (row : NameRow). stands_in f row.version || is_empty_text row.base) f.names h

pub rise_tidied : (f : Function) → names_rise f ≡ true → names_rise (tidied f) ≡ true
rise_tidied f h = rise_trimmed (pruned f) (rise_kept_rows (pruned f) f (names-pruned f) h)

module _ (row_at : View → Subject → Option (ℕ × Operand)) where
  rise_stepped : (f : Function) (found : Subject × Choice) → names_rise f ≡ true → names_rise (stepped row_at f found) ≡ true
  rise_stepped f found h = rise_tidied (changed found.0.site found.1.result f) (rise_kept_rows (changed found.0.site found.1.result f) f (names-changed found.0.site found.1.result f) h)

  module _ (more : Subject × Choice → Rewritten) (last : Rewritten) (each : (found : Subject × Choice) → names_rise (more found).function ≡ true) (here : names_rise last.function ≡ true) where
    rise_at : (found : Option (Subject × Choice)) → names_rise (option_map_or more found last).function ≡ true
    rise_at None = here
    rise_at (Some x) = each x

  rise_rewritten_by : (n : ℕ) (f : Function) → names_rise f ≡ true → names_rise (rewritten_by row_at n f).function ≡ true
  unfolding rewritten_by
  rise_rewritten_by zero f h = h
  rise_rewritten_by (suc n) f h =
      rise_at (λ found. with_firing row_at (firing_of row_at f found) (rewritten_by row_at n (stepped row_at f found))) (record { function = f; firings = []; exhausted = false })
      (λ found. rise_rewritten_by n (stepped row_at f found) (rise_stepped f found h)) h (first_choice row_at f)

  pub rise_rewriting : (budget : ℕ) (f : Function) → names_rise f ≡ true → names_rise (rewriting_of row_at budget f).function ≡ true
  rise_rewriting budget f h = rise_rewritten_by budget (tidied f) (rise_tidied f h)
