-- One function more, with its lines.
use Rattle.std.proofs.Common.{◌+◌, take, sym, subst}
use Rattle.std.proofs.lemmas.List.Elements.{All-nil, All-push}
use Rattle.std.specs.Prelude.{All, IsTrue}
use Rattle.gim_ast.specs.declared.function.Function.{Function}
use Rattle.gim_ast.specs.WellFormed.{names_rise}
use Rattle.match_top.proofs.PassLemmas.{valid_at, taken, none_become, one_more_becomes}
use Rattle.match_top.proofs.passes.pass_through.Goals as goal

abbrev Rises : Function → Type 0
Rises f = IsTrue (names_rise f)

pub loop-function-init : goal.loop-function-init
loop-function-init c = record {
  passed = none_become c.args.pass c.new-changed.result c.new-report.result c.new-changed.ensures c.new-report.ensures;
  rise = subst (All Rises) (sym c.new-changed.ensures) (All-nil Rises);
}

pub change-requires : goal.change-requires
change-requires c = valid_at c.args.functions.now c.loop-function.function-index c.function-item.result c.loop-function-test.true c.function-item.is c.requires

pub loop-function-preserved : goal.loop-function-preserved
loop-function-preserved c =
    let fs = c.args.functions.now in
    let i = c.loop-function.function-index in
    let so_far = c.loop-function.invariant in
    record {
      passed = one_more_becomes c.args.pass (take i fs) (take (i + 1) fs) c.loop-function.changed c.push.new.self c.loop-function.report c.change.new.report c.function-item.result c.in_ok-next.next
          so_far.passed c.in_ok-next.ensures.appends (taken fs i c.function-item.result c.loop-function-test.true c.function-item.is) c.in_ok-push.ensures.ok;
      rise = subst (All Rises) (sym c.in_ok-push.ensures.ok) (All-push Rises c.loop-function.changed c.in_ok-next.next so_far.rise c.in_ok-next.ensures.rises);
    }
