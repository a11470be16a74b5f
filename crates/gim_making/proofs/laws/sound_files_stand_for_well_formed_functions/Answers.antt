use Rattle.gim_making.proofs.SoundFunctions.{sound_files}
use Rattle.gim_making.proofs.laws.sound_files_stand_for_well_formed_functions.Goals as goal

pub returns : goal.returns
returns c = sound_files
