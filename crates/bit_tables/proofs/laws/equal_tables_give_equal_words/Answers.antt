use Rattle.bit_tables.proofs.TableValues.{equal_words}
use Rattle.bit_tables.proofs.laws.equal_tables_give_equal_words.Goals as goal

pub returns : goal.returns
returns c = λ words left right r s given wl wr one el er. equal_words words given left right r s wl wr one el er
