-- What is printed is read back.
use Rattle.std.proofs.Common.{◌≡◌, ℕ, None, List, refl}
use Rattle.gim_ast.specs.declared.function.Function.{Function}
use Rattle.gim_printer.specs.Printing.{text}
use Rattle.gim_text.specs.declared.tree.FunctionText.{FunctionText}
use Rattle.gim_names.specs.NamesFault.{names_fault}
use Rattle.gim_shape.specs.Shape.{shape_fault}
use Rattle.gim_limits.specs.Limits.{limits_fault}
use Rattle.gim_typing.specs.Types.{types_fault}
use Rattle.gim_reader.specs.Files.{IsFile, rules_fault}
use Rattle.gim_round_trip.specs.ReadBack.{MayBeReadBack}
use Rattle.gim_round_trip.proofs.text.Files.{text_reads}
use Rattle.gim_round_trip.proofs.rules.NamesSound.{names_sound}
use Rattle.gim_round_trip.proofs.rules.ShapeSound.{shape_sound}
use Rattle.gim_round_trip.proofs.rules.TypesSound.{types_sound, trees_stand}
use Rattle.gim_round_trip.proofs.rules.LimitsSound.{limits_sound}
use Rattle.gim_round_trip.proofs.tree.Writes.{all_write_well}

no_rule_broken : (source : List ℕ) (trees : List FunctionText) → names_fault source trees ≡ None → shape_fault source trees ≡ None
    → types_fault source trees ≡ None → limits_fault source trees ≡ None
    → rules_fault source trees ≡ None
unfolding rules_fault
no_rule_broken source trees names shape types limits = rw (names, shape, types, limits) refl

pub read_back : (fs : List Function) → MayBeReadBack fs → IsFile (text fs) fs
read_back fs may =
    let source = text fs in
    let r = text_reads fs may.well_formed may.within in
    let written = all_write_well source r.trees fs r.written may.well_formed may.within in
    record {
      within = may.short;
      tokens = r.tokens;
      are_tokens = r.are_tokens;
      from_tokens = record {
        trees = r.trees;
        spelled = r.spelled;
        kept = no_rule_broken source r.trees
            (names_sound source r.trees fs written may.distinct) (shape_sound source r.trees fs written)
            (types_sound source r.trees fs written)
            (limits_sound source r.trees fs written);
        stand = trees_stand source r.trees fs written;
      };
    }
