use Rattle.std.proofs.Common.{ap, ◌∙◌}
use Rattle.gim_ast.specs.WellFormed.{same_text}
use Rattle.gim_shape.specs.Tables.{places_for}
use Rattle.gim_shape.proofs.TextTables.{put_place}
use Rattle.gim_shape.proofs.blocks.put_jump.Goals as goal
use Rattle.gim_text.proofs.SameTexts.{same_text_symm, same_text_is}

pub returns : goal.returns
returns c = λ q.
    let to = c.args.to.now in
    let t = c.take_places-places.ensures in
    put_place (same_text to q) (same_text q to) _ _ c.push.new.self c.take_places-places.result.items
    (places_for c.args.jumps.now q) c.args.from
    (c.in_ok-insert.ensures.updates.0 (record { ref_ptr = (0, 0); now = q })) (t.others q)
    (λ same. t.places ∙ ap (places_for c.args.jumps.now) (same_text_is to q same))
    (same_text_symm to q) c.in_ok-push.ensures.items
