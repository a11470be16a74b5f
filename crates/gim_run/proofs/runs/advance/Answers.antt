use Rattle.std.proofs.Common.{◌≡◌, ◌≤◌, ◌∙◌, length, arith, Some}
use Rattle.std.specs.Prelude.{slice_get}
use Rattle.gim_run.specs.Blocks.{block_holds, has_room, place_of_block}
use Rattle.gim_run.specs.Slots.{env_of}
use Rattle.gim_run.proofs.StepLemmas.{step_inside, step_nowhere, got_holds, room_for}
use Rattle.gim_run.proofs.runs.advance.Goals as goal

pub inside-requires-clause-holds : goal.inside-requires-clause-holds
inside-requires-clause-holds c =
    let found : slice_get c.args.function.now.blocks c.block_place-at.result ≡ Some c.at.result.now = cc in
    got_holds (block_holds c.args.function.now) c.args.function.now.blocks c.block_place-at.result c.at.result.now c.requires.hold found

pub inside-requires-clause-room : goal.inside-requires-clause-room
inside-requires-clause-room c =
    let found : slice_get c.args.function.now.blocks c.block_place-at.result ≡ Some c.at.result.now = cc in
    room_for (length c.args.scratch.now) c.at.result.now (got_holds (has_room (length c.args.scratch.now)) c.args.function.now.blocks c.block_place-at.result c.at.result.now c.requires.room found)

pub returns-then-at-len-clause-step : goal.returns-then-at-len-clause-step
returns-then-at-len-clause-step c =
    let found : slice_get c.args.function.now.blocks (place_of_block c.args.function.now.blocks c.args.to) ≡ Some c.at.result.now = grind arith in
    step_inside c.args.function.now (record { from = c.args.from; to = c.args.to; env = env_of c.args.function.now.names c.args.slots.now }) c.at.result.now found ∙ c.inside.ensures.step

pub returns-else-at-len-clause-step : goal.returns-else-at-len-clause-step
returns-else-at-len-clause-step c =
    let past : length c.args.function.now.blocks ≤ place_of_block c.args.function.now.blocks c.args.to = grind arith in
    step_nowhere c.args.function.now (record { from = c.args.from; to = c.args.to; env = env_of c.args.function.now.names c.args.slots.now }) past
