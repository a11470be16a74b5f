use Rattle.std.proofs.Common.{ap, sym, ◌∙◌}
use Rattle.std.specs.Option.{option_and_then}
use Rattle.pattern_rows.specs.Spots.{spots_of}
use Rattle.gim_terms.specs.Matching.{agreed}
use Rattle.gim_terms.proofs.SpotShapes.{whole_reads}
use Rattle.gim_terms.proofs.SpotTests.{found_by_spots}
use Rattle.gim_terms.proofs.laws.matched_by_tests.Goals as goal

pub returns : goal.returns
returns c = λ view p target expanded.
    ap (option_and_then agreed) (sym (whole_reads view target.on p expanded)) ∙ sym (found_by_spots view target.on (spots_of p))
