-- One use of a predicate inlined by one case of it.
use Rattle.std.specs.Prelude.{ℕ, slice_get, false, if◌then◌else◌, List, [], ◌∷◌, ◌++◌, Option, Some, None, option_map}
use Rattle.pm_ops.specs.Names.{Name}
use Rattle.pd_ast.specs.declared.pattern.Cap.{Cap}
use Rattle.pd_ast.specs.declared.pattern.Pat.{Pat}
use Rattle.pd_ast.specs.declared.result.Tail.{Tail}
use Rattle.pd_substitution.specs.Substituted.{tail_with}
use Rattle.pd_substitution.specs.declared.substitution.Substitution.{Substitution}
use Rattle.pattern_uses.specs.Captures.{capture_of, captured}
use Rattle.pattern_uses.specs.Mentions.{asks_subject}
use Rattle.pattern_uses.specs.Uses.{cap_at, label, put_at}
use Rattle.pred_inline.specs.Arguments.{naming, pointed}
use Rattle.pred_inline.specs.Filled.{case_filled}
use Rattle.pred_inline.specs.Opened.{pairs_united, stay_two, united, with_args, with_pair}
use Rattle.pred_inline.specs.declared.case.Case.{Case}
use Rattle.pred_inline.specs.declared.opened.Opened.{Opened}

-- the use with so many before it is taken up: its arguments
abbrev pub args_of : Option (List Pat) → List Pat
args_of None = []
args_of (Some args) = args

unfoldable pub taken_up : ℕ → Opened → Opened
taken_up i row = with_args (args_of (slice_get row.uses i)) row

-- the capture of the use, which gets `j.` where it has none and the case asks about `t` or `type`
abbrev pub use_capture : Name → Tail → Option Cap → Option Cap
use_capture own rest (Some cap) = Some cap
use_capture own rest None =
    if asks_subject rest then Some (record { name = pointed own; by_value = false }) else None

abbrev pub name_of : Option Cap → Option Name
name_of cap = option_map (λ (cap : Cap). cap.name) cap

-- a pattern in the place of the use, with the end of the case
unfoldable pub placed : Name → Pat → Tail → Opened → Opened
placed own new rest row = record {
  pattern = put_at own new row.pattern;
  args = [];
  uses = row.uses;
  tails = row.tails ++ rest ∷ [];
  changes = row.changes;
  params = row.params;
  same = row.same;
}

unfoldable pub placed_twice : Name → Pat → Tail → Cap → Cap → Opened → Opened
placed_twice own new rest cap inner row =
    if stay_two row.params inner.name cap.name
    then with_pair inner.name cap.name (placed own new rest row)
    else united inner.name cap.name (placed own (captured cap new) rest row)

-- The capture of the use goes on the pattern that stands for it. Where that has one of its own, both
-- become that of the use; two parameters stay two names, and their pair is kept.
unfoldable pub placed_with : Name → Pat → Tail → Option Cap → Option Cap → Opened → Opened
placed_with own new rest None inner row = placed own new rest row
placed_with own new rest (Some cap) None row = placed own (captured cap new) rest row
placed_with own new rest (Some cap) (Some inner) row = placed_twice own new rest cap inner row

-- the pattern and the end of the case, as they stand for the use
unfoldable pub case_placed : Name → Substitution → Case → Option Cap → Opened → Opened
case_placed own by case cap row =
    let new = case_filled by case row.args in
    placed_with own new (tail_with by case.row.tail) cap (capture_of new) row

unfoldable pub use_placed : Name → Case → Option Cap → Opened → Opened
use_placed own case cap row = case_placed own (naming own case row.args (name_of cap)) case cap row

unfoldable pub one_inlined : ℕ → Case → Opened → Opened
one_inlined i case row =
    let one = pairs_united case.params case.same (taken_up i row) in
    let own = label i in
    use_placed own case (use_capture own case.row.tail (cap_at own one.pattern)) one
