use Rattle.std.proofs.Common.{◌≡◌, true, length, map, sym, ap, subst, ◌∙◌, arith}
use Rattle.std.specs.List.{list_all}
use Rattle.gim_ast.specs.declared.function.Function.{Function}
use Rattle.gim_ast.specs.declared.function.NameRow.{NameRow}
use Rattle.gim_ast.specs.Runs.{zero_of}
use Rattle.gim_ast.specs.WellFormed.{IsWellFormed}
use Rattle.gim_run.specs.Blocks.{has_room}
use Rattle.gim_run.specs.Slots.{types_of_words, types_of_rows}
use Rattle.gim_run.proofs.StartLemmas.{zeros_are_slots}
use Rattle.gim_run.proofs.machine.prepare.Goals as goal

pub invariant_of-result : goal.invariant_of-result
invariant_of-result c =
    let same : c.in_ok-function.function ≡ c.args.function.now = c.in_ok-function.ensures in
    let zeros : c.in_ok-slots.slots.items ≡ map (λ (row : NameRow). zero_of row.ty) c.as_slice.result.now = c.in_ok-slots.ensures in
    let count : length c.in_ok-scratch.scratch.items ≡ c.most_phis-most.result = grind arith in
    let roomy : list_all (has_room (length c.in_ok-scratch.scratch.items)) c.as_slice-2.result.now ≡ true = subst (λ n. list_all (has_room n) c.as_slice-2.result.now ≡ true) (sym count) c.most_phis-most.ensures in
    record {
      well_formed = subst IsWellFormed (sym same) c.requires;
      slots = ap types_of_words zeros ∙ zeros_are_slots c.as_slice.result.now ∙ ap types_of_rows c.as_slice.ensures ∙ ap (λ (f : Function). types_of_rows f.names) (sym same);
      room = subst (λ blocks. list_all (has_room (length c.in_ok-scratch.scratch.items)) blocks ≡ true) (c.as_slice-2.ensures ∙ ap (λ (f : Function). f.blocks) (sym same)) roomy;
    }
