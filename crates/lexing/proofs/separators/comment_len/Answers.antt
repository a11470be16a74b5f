use Rattle.std.proofs.Common.{sym, arith}
use Rattle.lexing.proofs.Comments.{to_star_slash_within}
use Rattle.lexing.proofs.separators.comment_len.Goals as goal

pub overflow_add-result : goal.overflow_add-result
overflow_add-result c =
    omega (arith, to_star_slash_within c.split_at.result.1.now c.in_ok-len.len (sym c.in_ok-len.ensures), c.split_at.ensures.back_len)
