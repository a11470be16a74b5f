-- The steps of one use, put together.
use Rattle.std.proofs.Common.{◌≡◌, ℕ, Bool, true, false, if◌then◌else◌, Option, sym, ap, ◌∙◌}
use Rattle.pm_ops.specs.Names.{Name}
use Rattle.pd_ast.specs.declared.pattern.Cap.{Cap}
use Rattle.pd_ast.specs.declared.pattern.Pat.{Pat}
use Rattle.pd_ast.specs.declared.result.Tail.{Tail}
use Rattle.pd_substitution.specs.Substituted.{tail_with}
use Rattle.pd_substitution.specs.declared.substitution.Substitution.{Substitution}
use Rattle.pattern_uses.specs.Captures.{capture_of, captured}
use Rattle.pattern_uses.specs.Uses.{cap_at, label}
use Rattle.pred_inline.specs.Arguments.{naming}
use Rattle.pred_inline.specs.Filled.{case_filled}
use Rattle.pred_inline.specs.Opened.{pairs_united, stay_two, united, with_pair}
use Rattle.pred_inline.specs.OneUse.{case_placed, name_of, one_inlined, placed, placed_twice, placed_with, taken_up, use_capture, use_placed}
use Rattle.pred_inline.specs.declared.case.Case.{Case}
use Rattle.pred_inline.specs.declared.opened.Opened.{Opened}

abbrev either : Name → Pat → Tail → Cap → Cap → Opened → Bool → Opened
either own new rest cap inner row two =
    if two
    then with_pair inner.name cap.name (placed own new rest row)
    else united inner.name cap.name (placed own (captured cap new) rest row)

pub as_two : (own : Name) (new : Pat) (rest : Tail) (cap inner : Cap) (row done : Opened) → stay_two row.params inner.name cap.name ≡ true → done ≡ placed own new rest row → with_pair inner.name cap.name done ≡ placed_twice own new rest cap inner row
unfolding placed_twice
as_two own new rest cap inner row done h d =
    ap (with_pair inner.name cap.name) d ∙ sym (ap (either own new rest cap inner row) h)

pub as_one : (own : Name) (new made : Pat) (rest : Tail) (cap inner : Cap) (row done : Opened) → stay_two row.params inner.name cap.name ≡ false → made ≡ captured cap new → done ≡ placed own made rest row → united inner.name cap.name done ≡ placed_twice own new rest cap inner row
unfolding placed_twice
as_one own new made rest cap inner row done h m d =
    ap (united inner.name cap.name) (d ∙ ap (λ p. placed own p rest row) m) ∙ sym (ap (either own new rest cap inner row) h)

pub case_step : (own : Name) (by : Substitution) (case : Case) (cap : Option Cap) (row : Opened) (new : Pat) (rest : Tail) (inner : Option Cap) → new ≡ case_filled by case row.args → rest ≡ tail_with by case.row.tail → inner ≡ capture_of new → placed_with own new rest cap inner row ≡ case_placed own by case cap row
unfolding case_placed
case_step own by case cap row new rest inner e f g =
    ap (λ i. placed_with own new rest cap i row) g
    ∙ ap (λ r. placed_with own new r cap (capture_of new) row) f
    ∙ ap (λ n. placed_with own n (tail_with by case.row.tail) cap (capture_of n) row) e

pub use_step : (own : Name) (case : Case) (cap : Option Cap) (row : Opened) (by : Substitution) (subject : Option Name) → subject ≡ name_of cap → by ≡ naming own case row.args subject → case_placed own by case cap row ≡ use_placed own case cap row
unfolding use_placed
use_step own case cap row by subject s b =
    ap (λ y. case_placed own y case cap row) (b ∙ ap (naming own case row.args) s)

abbrev from_label : Case → Name → Opened → Opened
from_label case own one = use_placed own case (use_capture own case.row.tail (cap_at own one.pattern)) one

pub one_step : (i : ℕ) (case : Case) (row up one : Opened) (own : Name) (cap chosen : Option Cap) → up ≡ taken_up i row → one ≡ pairs_united case.params case.same up → own ≡ label i → cap ≡ cap_at own one.pattern → chosen ≡ use_capture own case.row.tail cap → use_placed own case chosen one ≡ one_inlined i case row
unfolding one_inlined
one_step i case row up one own cap chosen u o l k h =
    ap (λ x. use_placed own case x one) (h ∙ ap (use_capture own case.row.tail) k)
    ∙ ap (λ n. from_label case n one) l
    ∙ ap (from_label case (label i)) (o ∙ ap (pairs_united case.params case.same) u)
