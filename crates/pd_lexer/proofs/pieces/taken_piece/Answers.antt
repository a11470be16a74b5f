use Rattle.std.proofs.Common.{sym, arith}
use Rattle.pd_lexer.proofs.Fronts.{separator_within, front_of}
use Rattle.pd_lexer.proofs.pieces.taken_piece.Goals as goal

pub overflow_add-result : goal.overflow_add-result
overflow_add-result c = omega (arith, separator_within c.split_at.result.1.now c.in-Some.len (sym c.in-Some.ensures), c.split_at.ensures.back_len)

pub token_piece-requires : goal.token_piece-requires
token_piece-requires c = omega (
  arith,
  (front_of c.split_at.result.1.now c.in-Some-token_front.kind c.in-Some-token_front.len
      (sym c.in-Some-token_front.ensures)).within,
  c.split_at.ensures.back_len,
)
