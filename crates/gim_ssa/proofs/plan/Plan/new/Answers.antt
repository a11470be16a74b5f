use Rattle.std.proofs.Common.{map, ap, ◌∙◌}
use Rattle.gim_ast.specs.declared.function.NameRow.{NameRow}
use Rattle.gim_ast.specs.Functions.{row_of}
use Rattle.gim_ast.specs.Readable.{is_initial}
use Rattle.gim_ssa.specs.Places.{place_of, initial_among}
use Rattle.gim_ssa.specs.Plan.{number_of_block}
use Rattle.gim_ssa.proofs.PlaceLemmas.{ready_from, same_initial}
use Rattle.gim_ssa.proofs.plan.Plan.new.Goals as goal

pub returns-clause-plan : goal.returns-clause-plan
unfolding is_initial row_of
returns-clause-plan c = record {
  names = c.in_ok-layout.ensures.names;
  rooms = c.in_ok-layout.ensures.rooms;
  rows = c.in_ok-rows.ensures;
  places = λ name. c.in_ok-places.ensures name ∙ ap (λ l. place_of l name) (c.as_slice-3.ensures ∙ c.in_ok-layout.ensures.names);
  numbers = λ number. c.in_ok-numbers.ensures number ∙ ap (λ l. place_of l number) (c.as_slice-2.ensures ∙ (c.in_ok-block_numbers.ensures ∙ ap (map number_of_block) c.as_slice.ensures));
  initials = λ name. c.in_ok-initials.ensures name ∙ (ap (λ l. initial_among l name) c.as_slice-4.ensures ∙ same_initial (λ (row : NameRow). row.initial) (row_of c.args.function.now name));
}

pub returns-clause-ready : goal.returns-clause-ready
returns-clause-ready c = ready_from c.args.function.now _ (returns-clause-plan c)
