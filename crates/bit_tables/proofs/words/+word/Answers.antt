use Rattle.std.proofs.Common.{arith}
use Rattle.bit_tables.proofs.WordLemmas.{no_word}
use Rattle.bit_tables.proofs.words.+word.Goals as goal

pub operation_at-returns-in_default-2 : goal.operation_at-returns-in_default-2
operation_at-returns-in_default-2 t c = no_word _ _ c.args.code c.args.args.now (omega (arith, c.in_default.len_at_least))
