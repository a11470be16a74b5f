use Rattle.pm_places.proofs.FirstPlaces.{first_place}
use Rattle.gim_names.specs.NamesFault.{function_fault, names_fault}
use Rattle.gim_names.proofs.laws.first_function.Goals as goal

pub returns : goal.returns
unfolding names_fault
returns c = λ source functions fault e. first_place (function_fault source) functions fault e
