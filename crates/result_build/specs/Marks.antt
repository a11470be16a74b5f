-- Where the marked operations of a draft stand in its term.
use Rattle.std.specs.Prelude.{Bool, not, ◌&&◌, if◌then◌else◌, Option, None, List, [], ◌∷◌, ◌++◌}
use Rattle.pm_wide.specs.Types.{Ty}
use Rattle.pattern_rows.specs.declared.row.Place.{Place}
use Rattle.pattern_rows.specs.Places.{below}
use Rattle.result_types.specs.Drafts.{Shape, leaf, one, two, three}
use Rattle.result_types.specs.OwnTypes.{own, type_in}
use Rattle.result_build.specs.TypedResults.{asked, is_dropped}

abbrev pub mark : Bool → Place → List Place
mark must_fold at = if must_fold then at ∷ [] else []

-- the operand of a conversion that is dropped stands in its place
abbrev pub operand_place : Bool → Place → Place
operand_place dropped at = if dropped then at else below at 0

-- The places of the operations written with `!`, in preorder, where the draft's term stands at a place. A
-- conversion that is dropped has none.
abbrev pub marks : Option Ty → Place → Shape → List Place
marks wanted at (leaf a) = []
marks wanted at (one head a) =
    let t = type_in wanted (one head a) in
    let dropped = is_dropped head.code t (own a) in
    mark (head.must_fold && not dropped) at
    ++ marks (asked head.code t (own a) None).0 (operand_place dropped at) a
marks wanted at (two head a b) =
    let t = type_in wanted (two head a b) in
    (mark head.must_fold at ++ marks (asked head.code t (own a) (own b)).0 (below at 0) a)
    ++ marks (asked head.code t (own a) (own b)).1 (below at 1) b
marks wanted at (three head a b c) =
    let t = type_in wanted (three head a b c) in
    ((mark head.must_fold at ++ marks (asked head.code t (own a) (own b)).0 (below at 0) a)
    ++ marks (asked head.code t (own a) (own b)).1 (below at 1) b)
    ++ marks (asked head.code t (own a) (own b)).2 (below at 2) c
