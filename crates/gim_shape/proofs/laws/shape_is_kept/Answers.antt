use Rattle.gim_shape.proofs.ShapeKept.{shape_kept}
use Rattle.gim_shape.proofs.laws.shape_is_kept.Goals as goal

pub returns : goal.returns
returns c = shape_kept
