use Rattle.pd_ast.proofs.Names.{unary_read_exactly}
use Rattle.pd_ast.proofs.laws.unary_operator_is_read_from_its_name.Goals as goal

pub returns : goal.returns
returns c = unary_read_exactly
