-- What the crate's own types stand for in the definition of the rewriting.
use Rattle.std.specs.Prelude.{map}
use Rattle.first_patterns.specs.Subjects as subjects
use Rattle.first_rewriting.specs.Rewriting as rewriting
use Rattle.first_rewriting.specs.declared.firing.Site.{Site}
use Rattle.first_rewriting.specs.declared.firing.Site.TheVariants.{Stmt, Cond}
use Rattle.first_rewriting.specs.declared.firing.What.{What}
use Rattle.first_rewriting.specs.declared.firing.What.TheVariants.{Copy, Swap, Fold, Row}
use Rattle.first_rewriting.specs.declared.firing.Firing.{Firing}
use Rattle.first_rewriting.specs.declared.rewriting.Simplified.{Simplified}

abbrev pub site_of : Site → subjects.Site
site_of (Stmt x) = subjects.AtStmt x
site_of (Cond n) = subjects.AtCond n

abbrev pub what_of : What → rewriting.What
what_of Copy = rewriting.IsCopy
what_of Swap = rewriting.IsSwap
what_of Fold = rewriting.IsFold
what_of (Row n) = rewriting.IsRow n

abbrev pub firing_told : Firing → rewriting.Firing
firing_told firing = record { site = site_of firing.subject; base = firing.base; what = what_of firing.what }

abbrev pub rewritten : Simplified → rewriting.Rewritten
rewritten s = record { function = s.function; firings = map firing_told s.firings; exhausted = s.exhausted }
