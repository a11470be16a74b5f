-- What the search leaves of the contract of `read_file`.
use Rattle.std.proofs.Common.{map}
use Rattle.pd_files.specs.Forms.{form_of}
use Rattle.pd_files.proofs.FilesExact.{found_in, only_in, fault_in}
use Rattle.pd_files.proofs.file.read_file.Goals as goal

pub returns-clause-found : goal.returns-clause-found
returns-clause-found c = found_in (map form_of) c.args.source_len c.args.symbols.now c.whole_file.result c.whole_file.ensures c.in_source.result c.in_source.ensures

pub returns-clause-only : goal.returns-clause-only
returns-clause-only c = only_in (map form_of) c.args.source_len c.args.symbols.now c.whole_file.result c.whole_file.ensures c.in_source.result c.in_source.ensures

pub returns-clause-fault : goal.returns-clause-fault
returns-clause-fault c = fault_in (map form_of) c.args.source_len c.args.symbols.now c.whole_file.result c.whole_file.ensures c.in_source.result c.in_source.ensures
