use Rattle.std.specs.Bool.{MatchBool}
use Rattle.bit_tables.specs.TableEqual.{AreTableEqual, AreTableDifferent}
use Rattle.bit_tables.proofs.TableTheorem.{judged_of, answers}
use Rattle.bit_tables.proofs.table.table_equal.Goals as goal

holds : (c : goal.After-agree) → MatchBool c.agree.result (AreTableEqual c.args.left.now c.args.right.now) (AreTableDifferent c.args.left.now c.args.right.now)
holds c =
    judged_of _ _ c.args.left.now c.args.right.now c.ty.result c.as_slice.result.now c.in_ok-names.names.items c.agree.result c.term.ensures.value c.term-2.ensures.value
    c.term.ensures.well_typed c.term-2.ensures.well_typed c.ty.ensures c.as_slice.ensures.value c.in_ok-names.ensures c.agree.ensures

pub returns-clause-equal : goal.returns-clause-equal
returns-clause-equal c = (answers c.args.left.now c.args.right.now c.agree.result (holds c)).0

pub returns-clause-different : goal.returns-clause-different
returns-clause-different c = (answers c.args.left.now c.args.right.now c.agree.result (holds c)).1
