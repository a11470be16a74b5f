-- `check G`: the functions of a GIMPLE file, printed.
use Rattle.std.specs.Prelude.{◌≡◌, Bool, true, false, List, []}
use Rattle.gim_ast.specs.declared.function.Function.{Function}
use Rattle.match_top.specs.Answer.{Answer, printed}
use Rattle.match_top.specs.declared.status.Status.{Status}
use Rattle.match_top.specs.declared.status.Status.TheVariants.{Done}

abbrev pub checked : List Function → Answer
checked fs = printed fs []

abbrev pub Checks : List Function → Answer → Type 0
Checks fs answer = answer ≡ checked fs

-- how its work ends
abbrev pub check_ends : Status → Bool
check_ends Done = true
check_ends status = false
