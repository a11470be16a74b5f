use Rattle.pd_ast.proofs.Names.{call_read_exactly}
use Rattle.pd_ast.proofs.laws.call_is_read_from_its_name.Goals as goal

pub returns : goal.returns
returns c = call_read_exactly
