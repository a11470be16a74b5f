use Rattle.std.proofs.Common.{◌≡◌, length, map, sym, ap, subst, ◌∙◌}
use Rattle.gim_ast.specs.declared.function.Function.{Function}
use Rattle.gim_ast.specs.Runs.{run_of, start_word}
use Rattle.gim_run.specs.Arguments.{AreArguments}
use Rattle.gim_run.specs.Slots.{AreSlots}
use Rattle.gim_run.proofs.SlotLemmas.{slot_count}
use Rattle.gim_run.proofs.StartLemmas.{typed_at_start, run_from_start}
use Rattle.gim_run.proofs.machine.Machine.run.Goals as goal

pub begin-requires : goal.begin-requires
begin-requires c =
    ap length c.as_mut_slice-slots.ensures.value
    ∙ slot_count c.self.inside.function c.self.inside.slots.items c.self.invariant.slots
    ∙ ap (λ (f : Function). length f.names) (sym c.function.ensures)

pub from_entry-requires-clause-slots : goal.from_entry-requires-clause-slots
from_entry-requires-clause-slots c =
    let begun = subst (λ (f : Function). c.begin.new.slots ≡ map (start_word f c.args.args.now) f.names) c.function.ensures c.begin.ensures in
    subst (AreSlots c.self.inside.function) (sym begun)
    (typed_at_start c.self.inside.function c.args.args.now c.self.invariant.well_formed (subst (λ (f : Function). AreArguments f c.args.args.now) (sym c.self.view_is) c.requires))

pub returns-clause-outcome : goal.returns-clause-outcome
returns-clause-outcome c =
    let begun = subst (λ (f : Function). c.begin.new.slots ≡ map (start_word f c.args.args.now) f.names) c.function.ensures c.begin.ensures in
    sym c.from_entry.ensures.outcome
    ∙ run_from_start c.self.inside.function c.args.args.now c.begin.new.slots c.args.fuel begun
    ∙ ap (λ (f : Function). run_of f c.args.args.now c.args.fuel) c.self.view_is
