use Rattle.gim_changes.proofs.PlaceCounts.{places_are_uses}
use Rattle.gim_changes.proofs.laws.places_are_uses.Goals as goal

pub returns : goal.returns
returns c = places_are_uses
