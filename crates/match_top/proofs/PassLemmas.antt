-- What a pass makes of functions, one by one.
use Rattle.std.proofs.Common.{◌≡◌, ◌<◌, ◌+◌, ℕ, suc, List, [], ◌∷◌, ◌++◌, length, take, take-suc, get_or, append_assoc, append-nil, refl, sym, ap, ap₂, subst, ◌∙◌, inl, inr, arith}
use Rattle.std.specs.List.{flat_map, AllByRecursion}
use Rattle.std.proofs.lemmas.List.Elements.{All-from_recursion}
use Rattle.gim_ast.specs.Readable.{IsValid}
use Rattle.gim_ast.specs.declared.function.Function.{Function}
use Rattle.cfg_tidy.specs.declared.change.Change.{Change}
use Rattle.cfg_tidy.specs.Tidying.{IsTidied}
use Rattle.value_numbers.specs.Merges as numbering
use Rattle.value_numbers.proofs.OneAnswer as numbered
use Rattle.match_top.specs.Answer.{Answer, printed, IsOrMemory, RightOrMemory}
use Rattle.match_top.specs.Number.{merge_line}
use Rattle.match_top.specs.Passes.{Becomes, AllBecome, no_function, one_more, Passes, Appends}
use Rattle.match_top.specs.Tidy.{change_line}
use Rattle.match_top.specs.declared.passes.Pass.{Pass}
use Rattle.match_top.specs.declared.passes.Pass.TheVariants.{Tidying, Numbering}
use Rattle.match_top.proofs.TidyLemmas.{tidied_once}

-- ---- one function

pub tidy_appends : (f copy g : Function) (changes : List Change) (before after : List ℕ) → copy ≡ f → IsTidied copy changes g → after ≡ before ++ flat_map (change_line f) changes
    → Appends Tidying f g before after
tidy_appends f copy g changes before after is tidied appended = record {
  lines = flat_map (change_line f) changes;
  becomes = record { changes = changes; tidied = subst (λ (h : Function). IsTidied h changes g) is tidied; told = refl };
  appended = appended;
}

pub number_appends : (f copy g : Function) (merges : List (ℕ × ℕ)) (before after : List ℕ) → copy ≡ f → numbering.Numbers copy merges g → after ≡ before ++ flat_map (merge_line f) merges
    → Appends Numbering f g before after
number_appends f copy g merges before after is numbered appended = record {
  lines = flat_map (merge_line f) merges;
  becomes = record { merges = merges; numbered = subst (λ (h : Function). numbering.Numbers h merges g) is numbered; told = refl };
  appended = appended;
}

-- ---- one more

pub valid_at : (fs : List Function) (i : ℕ) (f : Function) → i < length fs → f ≡ get_or fs i f → AllByRecursion IsValid fs → IsValid f
valid_at fs i f within is valid = subst IsValid (sym is) (All-from_recursion IsValid fs valid i f within)

pub taken : (fs : List Function) (i : ℕ) (f : Function) → i < length fs → f ≡ get_or fs i f → take (i + 1) fs ≡ take i fs ++ f ∷ []
taken fs i f within is = let next : i + 1 ≡ suc i = omega arith in rw next (take-suc fs i f within ∙ ap (λ g. take i fs ++ g ∷ []) (sym is))

pub none_become : (pass : Pass) (gs : List Function) (report : List ℕ) → gs ≡ [] → report ≡ [] → AllBecome pass [] gs report
none_become pass gs report no_gs no_report = subst (λ hs. AllBecome pass [] hs report) (sym no_gs) (subst (AllBecome pass [] []) (sym no_report) no_function)

become_more : (pass : Pass) (fs gs : List Function) (report : List ℕ) (f g : Function) (lines : List ℕ) → AllBecome pass fs gs report → Becomes pass f g lines
    → AllBecome pass (fs ++ f ∷ []) (gs ++ g ∷ []) (report ++ lines)
become_more pass _ _ _ f g lines no_function here = subst (AllBecome pass (f ∷ []) (g ∷ [])) (append-nil lines) (one_more f g lines [] [] [] here no_function)
become_more pass _ _ _ f g lines (one_more h i first hs is more now rest) here =
    subst (AllBecome pass (h ∷ (hs ++ f ∷ [])) (i ∷ (is ++ g ∷ []))) (sym (append_assoc first more lines))
    (one_more h i first (hs ++ f ∷ []) (is ++ g ∷ []) (more ++ lines) now (become_more pass hs is more f g lines rest here))

pub one_more_becomes : (pass : Pass) (fs longer gs more : List Function) (before after : List ℕ) (f g : Function) → AllBecome pass fs gs before → Appends pass f g before after
    → longer ≡ fs ++ f ∷ [] → more ≡ gs ++ g ∷ [] → AllBecome pass longer more after
one_more_becomes pass fs longer gs more before after f g so_far appends is_longer is_more =
    subst (λ hs. AllBecome pass hs more after) (sym is_longer)
    (subst (λ hs. AllBecome pass (fs ++ f ∷ []) hs after) (sym is_more)
    (subst (AllBecome pass (fs ++ f ∷ []) (gs ++ g ∷ [])) (sym appends.appended) (become_more pass fs gs before f g appends.lines so_far appends.becomes)))

-- ---- what is written

pub through_printed : (pass : Pass) (fs gs seen : List Function) (report : List ℕ) (answer : Answer) → AllBecome pass fs gs report → seen ≡ gs → IsOrMemory (printed seen report) answer
    → RightOrMemory (Passes pass fs) answer
through_printed pass fs gs seen report answer become is (inl e) =
    inl (record { functions = gs; report = report; become = become; answered = e ∙ ap (λ hs. printed hs report) is })
through_printed pass fs gs seen report answer become is (inr e) = inr e

-- ---- a pass is determined

becomes_once : (pass : Pass) (f g h : Function) (lines others : List ℕ) → Becomes pass f g lines → Becomes pass f h others → (g ≡ h) × (lines ≡ others)
becomes_once Tidying f g h lines others p q =
    let one = tidied_once f g h p.changes q.changes p.tidied q.tidied in
    (one.1, p.told ∙ ap (flat_map (change_line f)) one.0 ∙ sym q.told)
becomes_once Numbering f g h lines others p q =
    let one = numbered.one_answer f p.merges q.merges g h p.numbered q.numbered in
    (one.1, p.told ∙ ap (flat_map (merge_line f)) one.0 ∙ sym q.told)

all_become_once : (pass : Pass) (fs gs hs : List Function) (report others : List ℕ) → AllBecome pass fs gs report → AllBecome pass fs hs others → (gs ≡ hs) × (report ≡ others)
all_become_once pass _ _ _ _ _ no_function no_function = (refl, refl)
all_become_once pass _ _ _ _ _ (one_more f g lines fs gs more here rest) (one_more _ h lines' _ hs more' here' rest') =
    let one = becomes_once pass f g h lines lines' here here' in
    let all = all_become_once pass fs gs hs more more' rest rest' in
    (ap₂ (λ (x : Function) (l : List Function). x ∷ l) one.0 all.0, ap₂ (λ (x l : List ℕ). x ++ l) one.1 all.1)

pub passes_once : (pass : Pass) (fs : List Function) (a b : Answer) → Passes pass fs a → Passes pass fs b → a ≡ b
passes_once pass fs a b p q =
    let one = all_become_once pass fs p.functions q.functions p.report q.report p.become q.become in
    p.answered ∙ ap₂ (λ (gs : List Function) (report : List ℕ). printed gs report) one.0 one.1 ∙ sym q.answered
