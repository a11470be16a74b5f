use Rattle.std.proofs.Common.{sym, arith}
use Rattle.lexing.proofs.QuotedLemmas.{quoted_front}
use Rattle.gim_lexer.proofs.tokens.text_at.Goals as goal

pub place-requires : goal.place-requires
place-requires c = omega (arith, c.requires, (quoted_front c.args.rest.now c.in_ok-len.len (sym c.in_ok-len.ensures)).within)
