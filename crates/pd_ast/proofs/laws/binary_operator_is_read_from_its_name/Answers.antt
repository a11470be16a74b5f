use Rattle.pd_ast.proofs.Names.{binary_read_exactly}
use Rattle.pd_ast.proofs.laws.binary_operator_is_read_from_its_name.Goals as goal

pub returns : goal.returns
returns c = binary_read_exactly
