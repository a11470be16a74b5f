use Rattle.gim_changes.proofs.PlaceItems.{places_are_uses_read}
use Rattle.gim_changes.proofs.laws.places_are_counted_as_by_the_check.Goals as goal

pub returns : goal.returns
returns c = places_are_uses_read
