use Rattle.std.proofs.Common.{◌+◌, ◌∙◌, [], Some, drop, ap, sym, refl}
use Rattle.gim_text.proofs.FrontsAndRests.{drop_step, drop_past}
use Rattle.gim_text.specs.Faults.{fault_at}
use Rattle.gim_names.specs.NamesFault.{occurrences_fault}
use Rattle.gim_names.proofs.Judging.{is_fault, judged_none, judged_fault, judged_more}
use Rattle.gim_names.proofs.check_occurrences.Goals as goal

pub loop-occurrence-init : goal.loop-occurrence-init
loop-occurrence-init c =
    record {
      before = [];
      remembers = c.new-past.ensures c.args.source.now;
      sound = record { bases = refl; defaults = refl };
      same = refl;
    }

pub returns-in-Some : goal.returns-in-Some
returns-in-Some c =
    let i = c.loop-occurrence.invariant in
    let source = c.args.source.now in
    let all = c.args.occurrences.now in
    let at = c.loop-occurrence.occurrence-index in
    let kind = c.in-Some.kind in
    is_fault c.at.result.kind c.at.result (occurrences_fault source all)
    (judged_fault source all (drop at all) (drop (at + 1) all) c.loop-occurrence.past c.occurrence-item.result kind i
    (drop_step all at c.occurrence-item.result c.loop-occurrence-test.true c.occurrence-item.is)
    (sym (c.in-Some.ensures all i.before c.in_ok-scope.ensures i.remembers i.sound))
    ∙ ap Some (ap (fault_at kind) (sym c.place.ensures) ∙ sym c.at.ensures))

pub loop-occurrence-preserved : goal.loop-occurrence-preserved
loop-occurrence-preserved c =
    let i = c.loop-occurrence.invariant in
    let source = c.args.source.now in
    let all = c.args.occurrences.now in
    let at = c.loop-occurrence.occurrence-index in
    judged_more source all (drop at all) (drop (at + 1) all) c.loop-occurrence.past c.note.new.self
    c.occurrence-item.result i (drop_step all at c.occurrence-item.result c.loop-occurrence-test.true
    c.occurrence-item.is)
    (sym (c.kind_of.ensures all i.before c.in_ok-scope.ensures i.remembers i.sound) ∙ c.in_default.is)
    (c.in_ok-note.ensures i.before i.remembers)

pub returns : goal.returns
returns c =
    let all = c.args.occurrences.now in
    let at = c.loop-occurrence.occurrence-index in
    sym (judged_none c.args.source.now all (drop at all) c.loop-occurrence.past
    (drop_past all at c.loop-occurrence-test.false) c.loop-occurrence.invariant)
