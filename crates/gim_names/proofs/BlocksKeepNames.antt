-- Each item and each end of a block keeps the rules on names that its function keeps.
use Rattle.std.proofs.Common.{◌≡◌, ℕ, zero, suc, Bool, true, List, [], ◌∷◌, ◌++◌}
use Rattle.std.proofs.Common.{map, sym, subst, ◌∙◌, arith}
use Rattle.std.specs.Prelude.{Contains}
use Rattle.std.specs.List.{list_all, flat_map}
use Rattle.std.proofs.lemmas.Bool.{and_parts}
use Rattle.std.proofs.lemmas.List.Folds.{list_all-append}
use Rattle.gim_text.specs.declared.tree.FunctionText.{FunctionText}
use Rattle.gim_text.specs.declared.tree.BlockText.{BlockText}
use Rattle.gim_text.specs.declared.tree.ItemText.{ItemText}
use Rattle.gim_text.specs.declared.occurrence.Occurrence.{Occurrence}
use Rattle.gim_text.specs.declared.occurrence.Occurrence.TheVariants.{Block}
use Rattle.gim_text.specs.Occurrences.{occurrence_of_parameter, occurrence_of_local, occurrences_of_item}
use Rattle.gim_text.specs.Occurrences.{occurrences_of_end, occurrences_of_block, occurrences_of}
use Rattle.gim_names.specs.KeepsNames.{locals_of, params_of, assigned_of, is_declared, has_word, KeepsNames, BlockKeepsNames}

both : {X : Type 0} (test : X → Bool) (xs ys : List X) → list_all test (xs ++ ys) ≡ true → (list_all test xs ≡ true)
    × (list_all test ys ≡ true)
both test xs ys h = and_parts (list_all test xs) (list_all test ys) (sym (list_all-append test xs ys) ∙ h)

of_each : {X Y : Type 0} (test : Y → Bool) (part : X → List Y) (xs : List X) → list_all test (flat_map part xs) ≡ true
    → (x : X) → Contains xs x → list_all test (part x) ≡ true
of_each test part [] h x c = absurd (omega (arith, c.1))
of_each test part (y ∷ ys) h x (zero, lt, is) = subst (λ z. list_all test (part z) ≡ true) is (both test (part y) (flat_map part ys) h).0
of_each test part (y ∷ ys) h x (suc k, lt, is) =
    of_each test part ys (both test (part y) (flat_map part ys) h).1 x (k, omega (arith, lt), is)

module _ (source : List ℕ) (f : FunctionText) (test : Occurrence → Bool) (h : list_all test (occurrences_of f) ≡ true)
    (block : BlockText) (has : Contains f.blocks block) where
  in_block : list_all test (occurrences_of_block block) ≡ true
  in_block = of_each test occurrences_of_block f.blocks
      (both test (map occurrence_of_parameter f.params ++ map occurrence_of_local f.decls)
      (flat_map occurrences_of_block f.blocks) h).1 block has

  in_parts : (list_all test (Block block.number ∷ flat_map occurrences_of_item block.items) ≡ true)
      × (list_all test (occurrences_of_end block.end) ≡ true)
  in_parts = both test (Block block.number ∷ flat_map occurrences_of_item block.items) (occurrences_of_end block.end) in_block

  in_item : (item : ItemText) → Contains block.items item → list_all test (occurrences_of_item item) ≡ true
  in_item item c =
      of_each test occurrences_of_item block.items
      (and_parts (test (Block block.number)) (list_all test (flat_map occurrences_of_item block.items)) in_parts.0).1
      item c

pub blocks_keep : (source : List ℕ) (f : FunctionText) → KeepsNames source f → (block : BlockText)
    → Contains f.blocks block → BlockKeepsNames source f block
blocks_keep source f keeps block has =
    let declared = is_declared source (locals_of source f) (params_of source f) (assigned_of source f) in
    record {
      items = λ item c. record {
        names = in_item source f declared keeps.names block has item c;
        constants = in_item source f (has_word source) keeps.constants block has item c;
      };
      end = record {
        names = (in_parts source f declared keeps.names block has).1;
        constants = (in_parts source f (has_word source) keeps.constants block has).1;
      };
    }
