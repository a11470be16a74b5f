-- What faults print.
use Rattle.std.specs.Prelude.{ℕ, List, codes}
use Rattle.pm_io.specs.declared.faults.ReadFault.{ReadFault}
use Rattle.pm_io.specs.declared.faults.ReadFault.TheVariants.{Missing, Read, TooLong, Memory}

abbrev pub fault_text : ReadFault → List ℕ
fault_text Missing = codes "there is no such file"
fault_text Read = codes "the file can't be read"
fault_text TooLong = codes "the file is too long"
fault_text Memory = codes "out of memory"
