use Rattle.std.proofs.Common.{◌≡◌, ℕ, List, drop, subst, sym, arith}
use Rattle.gim_text.proofs.FrontsAndRests.{item_before, drop_all}
use Rattle.gim_text.specs.declared.occurrence.Occurrence.{Occurrence}
use Rattle.gim_names.specs.Tables.{Describes}
use Rattle.gim_names.proofs.scope.Scope.of.Goals as goal

pub loop-at-init : goal.loop-at-init
loop-at-init c = (
  omega arith,
  subst (λ (ms : List Occurrence). Describes c.args.source.now ms c.new-scope.result)
      (sym (drop_all c.args.occurrences.now)) (c.new-scope.ensures c.args.source.now),
)

pub loop-at-preserved : goal.loop-at-preserved
loop-at-preserved c =
    let all = c.args.occurrences.now in
    let at = c.loop-at.at in
    let more = c.in_ok-note.ensures (drop at all) c.loop-at.invariant.1 in (
      omega arith,
      subst (λ (ms : List Occurrence). Describes c.args.source.now ms c.note.new.self)
          (sym (item_before all at c.index-occurrences-at.result c.loop-at-test.true c.loop-at.invariant.0
          c.index-occurrences-at.is)) more,
    )

pub returns : goal.returns
returns c =
    let e : c.loop-at.at ≡ 0 = omega arith in
    subst (λ (i : ℕ). Describes c.args.source.now (drop i c.args.occurrences.now) c.loop-at.scope) e c.loop-at.invariant.1
