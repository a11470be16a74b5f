use Rattle.justify.proofs.MethodLaws.{justified_refines}
use Rattle.justify.proofs.laws.what_is_justified_refines.Goals as goal

pub returns : goal.returns
returns c = λ left right m wl wr h. justified_refines left right wl wr m h
