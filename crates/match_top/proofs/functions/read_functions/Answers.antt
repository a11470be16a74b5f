use Rattle.std.proofs.Common.{List, ℕ, subst}
use Rattle.match_top.specs.Given.{Judges}
use Rattle.match_top.proofs.GivenLemmas.{judged, unread}
use Rattle.match_top.specs.declared.needs.Kind.TheVariants.{Functions}
use Rattle.match_top.proofs.functions.read_functions.Goals as goal

pub returns-in-Ok-clause-staged : goal.returns-in-Ok-clause-staged
returns-in-Ok-clause-staged g c =
    judged (record { kind = Functions; name = c.args.name.now }) _ _ c.in-Ok.source c.judged.result c.in-Ok.ensures.asked
    (subst (λ (source : List ℕ). Judges Functions source c.judged.result) c.as_slice.ensures c.judged.ensures.judges)

pub returns-in-Err-clause-staged : goal.returns-in-Err-clause-staged
returns-in-Err-clause-staged g c = unread (record { kind = Functions; name = c.args.name.now }) _ _ c.in-Err.stop c.in-Err.ensures.asked
