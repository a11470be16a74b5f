use Rattle.std.proofs.Common.{sym, arith}
use Rattle.gim_lexer.proofs.Fronts.{separator_within}
use Rattle.gim_lexer.proofs.pieces.piece_at.Goals as goal

pub overflow_add-result : goal.overflow_add-result
overflow_add-result c = omega (arith, separator_within c.line_begins.result c.split_at.result.1.now c.in-Some.len (sym c.in-Some.ensures), c.split_at.ensures.back_len)
