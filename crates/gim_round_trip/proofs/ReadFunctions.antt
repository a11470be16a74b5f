-- What is read from a file meets the condition of the law, but for the length of its text.
use Rattle.std.proofs.Common.{◌≡◌, ℕ, ◌<◌, ◌≤◌, true, Option, Some, None, List, map, length, lit≤, refl, sym, ap, subst, ◌∙◌, arith}
use Rattle.std.specs.Prelude.{nat_lt}
use Rattle.std.specs.List.{list_all}
use Rattle.std.specs.Option.{unwrap_or}
use Rattle.std.proofs.lemmas.Bool.{lt-ltb}
use Rattle.std.proofs.lemmas.List.{length-map}
use Rattle.gim_ast.specs.declared.function.Function.{Function}
use Rattle.gim_ast.specs.declared.function.Block.{Block}
use Rattle.gim_ast.specs.declared.function.NameRow.{NameRow}
use Rattle.lexing.specs.Numbers.{number_below}
use Rattle.gim_printer.specs.Printing.{text}
use Rattle.gim_ast.specs.WellFormed.{same_text, all_distinct}
use Rattle.lexing.proofs.NumberLemmas.{number_below_is}
use Rattle.gim_text.specs.declared.limits.TheConstants.{BLOCK_LIMIT, NUMBER_LIMIT}
use Rattle.gim_text.specs.declared.tree.FunctionText.{FunctionText}
use Rattle.gim_names.specs.KeepsNames.{KeepsNames}
use Rattle.gim_names.specs.NamesFault.{function_text}
use Rattle.gim_names.proofs.NamesKept.{each_keeps, functions_differ}
use Rattle.gim_limits.specs.KeepsLimits.{KeepsLimits}
use Rattle.gim_limits.proofs.LimitsKept.{limits_kept}
use Rattle.gim_typing.specs.Declarations.{declarations_of, number_of}
use Rattle.gim_making.specs.Names.{AreNames, version_of, named_rows}
use Rattle.gim_making.specs.Standing.{StandsFor, made}
use Rattle.gim_making.specs.Trees.{block_of}
use Rattle.gim_making.proofs.BoundsHold.{version_digits, row_digits, all_by, few_names}
use Rattle.gim_text.proofs.Membership.{has_contains, from_map, all_from_has, each_has}
use Rattle.gim_making.proofs.SmallNumbers.{are_small}
use Rattle.gim_making.proofs.SoundFunctions.{sound_files}
use Rattle.gim_reader.specs.declared.TheConstants.{FILE_LIMIT}
use Rattle.gim_reader.specs.Files.{IsFile}
use Rattle.gim_reader.proofs.Stages.{sound}
use Rattle.gim_round_trip.specs.ReadBack.{IsWithinLimits, function_names, MayBeReadBack}
use Rattle.gim_round_trip.proofs.tree.SmallNumbers.{AreSmallNumbers}
use Rattle.gim_round_trip.proofs.tree.PairedLists.{beside_second, same_images}

-- ---- numbers

-- what is read as a number is below the limit
number_small : (digits : List ℕ) → number_of digits < NUMBER_LIMIT
number_small digits = by (number_below NUMBER_LIMIT digits) refl where
  by : (o : Option ℕ) → number_below NUMBER_LIMIT digits ≡ o → unwrap_or o 0 < NUMBER_LIMIT
  by None is = omega arith
  by (Some n) is = (number_below_is NUMBER_LIMIT n digits (lit≤ tt) is).0

all_small : (ns : List ℕ) → AreSmallNumbers ns → list_all (λ n. nat_lt n NUMBER_LIMIT) ns ≡ true
all_small ns small = all_from_has (λ n. nat_lt n NUMBER_LIMIT) ns (λ n there. lt-ltb n NUMBER_LIMIT (small n there))

-- ---- one function

module _ (source : List ℕ) (tree : FunctionText) (names : List NameRow) (kept : KeepsNames source tree) (limits : KeepsLimits source tree)
    (are : AreNames (named_rows source tree) names) where
  versions_small : AreSmallNumbers (map version_of names)
  versions_small version there =
      let r = from_map version_of names version there in
      let digits = (row_digits source tree names kept (are_small source tree limits) are r.0 r.1).1 in
      subst (λ n. n < NUMBER_LIMIT) (digits ∙ r.2) (number_small (version_digits r.0))

  numbers_small : AreSmallNumbers (map (λ (block : Block). block.number) (map (block_of (declarations_of source tree)) tree.blocks))
  numbers_small n there =
      let b = from_map (λ (block : Block). block.number) (map (block_of (declarations_of source tree)) tree.blocks) n there in
      let t = from_map (block_of (declarations_of source tree)) tree.blocks b.0 b.1 in
      subst (λ m. m < NUMBER_LIMIT) (ap (λ (block : Block). block.number) t.2 ∙ b.2) (number_small _)

  made_within : IsWithinLimits (made source tree names)
  unfolding made
  made_within =
      let count : length (map (block_of (declarations_of source tree)) tree.blocks) ≡ length tree.blocks = length-map tree.blocks
      (block_of (declarations_of source tree)) in
      let limit : length tree.blocks ≤ BLOCK_LIMIT = limits.blocks in
      record {
        blocks = omega (arith, count, limit);
        names = few_names source tree names kept (are_small source tree limits) limits are;
        versions = all_small (map version_of names) versions_small;
        numbers = all_small (map (λ (block : Block). block.number)
            (map (block_of (declarations_of source tree)) tree.blocks)) numbers_small;
      }

name_stands : (source : List ℕ) (tree : FunctionText) (f : Function) → StandsFor source tree f → function_text source tree ≡ f.name
unfolding made
name_stands source tree f stands = sym (ap (λ (g : Function). g.name) stands.whole)

-- ---- the whole

pub read_may_be_printed : (source : List ℕ) (fs : List Function) → IsFile source fs → length (text fs) ≤ FILE_LIMIT → MayBeReadBack fs
read_may_be_printed source fs file short =
    let trees = file.from_tokens.trees in
    let stand = file.from_tokens.stand in
    let rules = sound source file.tokens trees file.within file.are_tokens file.from_tokens.spelled file.from_tokens.kept in
    let names : map (function_text source) trees ≡ function_names fs = same_images (StandsFor source) (function_text source)
    (λ (f : Function). f.name) trees fs (λ t f s. name_stands source t f s) stand in
    record {
      well_formed = sound_files source trees fs rules stand;
      within = all_by IsWithinLimits fs (λ f there.
          let t = beside_second (StandsFor source) trees fs stand f there in
          let kept = each_keeps source trees rules.names t.0 (has_contains trees t.0 t.1) in
          let limits = each_has (KeepsLimits source) trees (limits_kept source trees rules.limits) t.0 t.1 in
          subst IsWithinLimits (sym t.2.whole) (made_within source t.0 f.names kept limits t.2.names));
      distinct = ap (all_distinct same_text) (sym names) ∙ functions_differ source trees rules.names;
      short = short;
    }
