-- A name is used in as many places as operands of the function are the name.
use Rattle.std.proofs.Common.{◌≡◌, ℕ, ◌+◌, Bool, List, [], ◌∷◌, ◌++◌, map, cond, refl, sym, ap, ◌∙◌}
use Rattle.std.specs.List.{flat_map, count_by, enumerate_from}
use Rattle.std.proofs.lemmas.Grind.{flat_map-append}
use Rattle.std.proofs.lemmas.List.{append-nil}
use Rattle.std.proofs.lemmas.List.Sums.{sum_by-append}
use Rattle.pm_wide.specs.declared.operand.Operand.{Operand}
use Rattle.pm_wide.specs.declared.operand.Operand.TheVariants.{Name, Const}
use Rattle.gim_ast.specs.declared.function.Function.{Function}
use Rattle.gim_ast.specs.declared.function.Block.{Block}
use Rattle.gim_ast.specs.Functions.{is_name, operands_of, operands_of_block, operands_of_phi, operands_of_stmt, operands_of_end, uses_of}
use Rattle.gim_changes.specs.UsePlaces.{items_of, places_of_operand, places_in_item, places_in_block, use_places, is_place_of}

count_both : {X Y : Type 0} (p : X → Bool) (q : Y → Bool) (xs us : List X) (ys vs : List Y) → count_by p xs ≡ count_by q ys → count_by p us ≡ count_by q vs →
    count_by p (xs ++ us) ≡ count_by q (ys ++ vs)
count_both p q xs us ys vs h k =
    sum_by-append (λ x. cond (p x) 1 0) xs us
    ∙ (ap (λ n. n + count_by p us) h ∙ (ap (λ n. count_by q ys + n) k ∙ sym (sum_by-append (λ y. cond (q y) 1 0) ys vs)))

abbrev concat : List (List Operand) → List Operand
concat items = flat_map (λ operands. operands) items

module _ (x : ℕ) where
  in_operand : (block item at : ℕ) (a : Operand) → count_by (is_place_of x) (places_of_operand block item (at, a)) ≡ count_by (is_name x) (a ∷ [])
  in_operand block item at (Name y t) = refl
  in_operand block item at (Const w) = refl

  in_operands : (block item at : ℕ) (operands : List Operand) → count_by (is_place_of x) (flat_map (places_of_operand block item) (enumerate_from at operands)) ≡ count_by (is_name x) operands
  in_operands block item at [] = refl
  in_operands block item at (a ∷ operands) =
      count_both (is_place_of x) (is_name x) (places_of_operand block item (at, a)) (flat_map (places_of_operand block item) (enumerate_from (at + 1) operands)) (a ∷ []) operands
      (in_operand block item at a) (in_operands block item (at + 1) operands)

  in_items : (block n : ℕ) (items : List (List Operand)) → count_by (is_place_of x) (flat_map (places_in_item block) (enumerate_from n items)) ≡ count_by (is_name x) (concat items)
  in_items block n [] = refl
  in_items block n (operands ∷ items) =
      count_both (is_place_of x) (is_name x) (places_in_item block (n, operands)) (flat_map (places_in_item block) (enumerate_from (n + 1) items)) operands (concat items)
      (in_operands block n 0 operands) (in_items block (n + 1) items)

concat_map : {X : Type 0} (g : X → List Operand) (xs : List X) → concat (map g xs) ≡ flat_map g xs
concat_map g [] = refl
concat_map g (y ∷ xs) = ap (λ operands. g y ++ operands) (concat_map g xs)

operands_of_items : (block : Block) → concat (items_of block) ≡ operands_of_block block
operands_of_items block =
    let phis = map operands_of_phi block.phis in
    let stmts = map operands_of_stmt block.stmts in
    let end = operands_of_end block.end in
    flat_map-append (λ operands. operands) (phis ++ stmts) (end ∷ [])
    ∙ (ap (λ l. l ++ (end ++ [])) (flat_map-append (λ operands. operands) phis stmts
    ∙ (ap (λ l. l ++ concat stmts) (concat_map operands_of_phi block.phis) ∙ ap (λ l. flat_map operands_of_phi block.phis ++ l) (concat_map operands_of_stmt block.stmts)))
    ∙ ap (λ l. (flat_map operands_of_phi block.phis ++ flat_map operands_of_stmt block.stmts) ++ l) (append-nil end))

in_blocks : (x n : ℕ) (blocks : List Block) → count_by (is_place_of x) (flat_map places_in_block (enumerate_from n blocks)) ≡ count_by (is_name x) (flat_map operands_of_block blocks)
in_blocks x n [] = refl
in_blocks x n (block ∷ blocks) =
    count_both (is_place_of x) (is_name x) (places_in_block (n, block)) (flat_map places_in_block (enumerate_from (n + 1) blocks)) (operands_of_block block) (flat_map operands_of_block blocks)
    (in_items x n 1 (items_of block) ∙ ap (count_by (is_name x)) (operands_of_items block)) (in_blocks x (n + 1) blocks)

pub places_are_uses : (f : Function) (x : ℕ) → count_by (is_place_of x) (use_places f) ≡ uses_of f x
unfolding use_places operands_of
places_are_uses f x = in_blocks x 0 f.blocks
