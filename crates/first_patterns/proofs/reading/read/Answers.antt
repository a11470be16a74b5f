use Rattle.first_patterns.proofs.FileLemmas.{is_found, is_only, is_refused}
use Rattle.first_patterns.proofs.reading.read.Goals as goal

pub returns-clause-found : goal.returns-clause-found
returns-clause-found c = is_found c.args.source.now c.all_rows.result c.all_rows.ensures

pub returns-clause-only : goal.returns-clause-only
returns-clause-only c = λ rows spells. is_only c.args.source.now c.all_rows.result c.all_rows.ensures rows spells

pub returns-clause-refused : goal.returns-clause-refused
returns-clause-refused c = λ refused rows spells. is_refused c.args.source.now c.all_rows.result c.all_rows.ensures refused rows spells
