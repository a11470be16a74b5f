use Rattle.std.proofs.Common.{◌≡◌, drop}
use Rattle.pm_term.specs.Environments.{word_of_name}
use Rattle.pm_term.proofs.environment.Env.word.Given as goal

abbrev pub invariant-loop-name : goal.invariant-loop-name
invariant-loop-name l =
    word_of_name (drop l.name-index l.self.words) l.version l.ty ≡ word_of_name l.self.words l.version l.ty
