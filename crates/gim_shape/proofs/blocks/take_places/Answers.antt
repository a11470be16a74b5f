use Rattle.gim_ast.specs.WellFormed.{same_text}
use Rattle.gim_shape.proofs.TextTables.{other_place}
use Rattle.gim_shape.proofs.blocks.take_places.Goals as goal

pub returns-in-Some-clause-others : goal.returns-in-Some-clause-others
returns-in-Some-clause-others c =
    λ q other. other_place (same_text c.args.to.now q) _ _
    (c.in-Some.ensures.updates.0 (record { ref_ptr = (0, 0); now = q })) other
