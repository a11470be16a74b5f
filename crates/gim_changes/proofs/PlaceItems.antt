-- The use places of a block are its uses, as the check for readability counts them.
use Rattle.std.proofs.Common.{◌≡◌, ℕ, ◌+◌, List, [], ◌∷◌, ◌++◌, length, map, refl, sym, ap, ◌∙◌, arith}
use Rattle.std.specs.List.{flat_map, enumerate_from}
use Rattle.std.proofs.lemmas.Grind.{flat_map-append}
use Rattle.std.proofs.lemmas.List.{append-nil, length-append, length-map, map-append}
use Rattle.pm_wide.specs.declared.operand.Operand.{Operand}
use Rattle.pm_wide.specs.declared.operand.Operand.TheVariants.{Name, Const}
use Rattle.gim_ast.specs.declared.function.Block.{Block}
use Rattle.gim_ast.specs.declared.function.Phi.{Phi}
use Rattle.gim_ast.specs.declared.function.Stmt.{Stmt}
use Rattle.gim_ast.specs.Functions.{operands_of_phi, operands_of_stmt, operands_of_end, stmt_name}
use Rattle.gim_ast.specs.Readable.{names_among, uses_at, uses_in_phi, uses_in_phis, uses_in_stmts, uses_in_block}
use Rattle.gim_changes.specs.UsePlaces.{item_and_name, item_and_name_read, items_of, places_of_operand, places_in_item, places_in_block}

-- the names among operands, each with the item
abbrev named : ℕ → List Operand → List (ℕ × ℕ)
named k operands = map (λ x. (k, x)) (names_among operands)

seen_both : {X Y : Type 0} (f : X → ℕ × ℕ) (g : Y → ℕ × ℕ) (xs us : List X) (ys vs : List Y) → map f xs ≡ map g ys → map f us ≡ map g vs → map f (xs ++ us) ≡ map g (ys ++ vs)
seen_both f g xs us ys vs h k =
    map-append f xs us ∙ (ap (λ l. l ++ map f us) h ∙ (ap (λ l. map g ys ++ l) k ∙ sym (map-append g ys vs)))

-- ---- one item

places_named : (n k at : ℕ) (operands : List Operand) → map item_and_name (flat_map (places_of_operand n k) (enumerate_from at operands)) ≡ named k operands
places_named n k at [] = refl
places_named n k at (Name x t ∷ operands) = ap (λ l. (k, x) ∷ l) (places_named n k (at + 1) operands)
places_named n k at (Const w ∷ operands) = places_named n k (at + 1) operands

names_seen : (n k at : ℕ) (left xs : List ℕ) → map item_and_name_read (map (λ x. record { block = n; item = k; name = x; at = at; left = left }) xs) ≡ map (λ x. (k, x)) xs
names_seen n k at left [] = refl
names_seen n k at left (x ∷ xs) = ap (λ l. (k, x) ∷ l) (names_seen n k at left xs)

uses_named : (n k at : ℕ) (left : List ℕ) (operands : List Operand) → map item_and_name_read (uses_at n k at left operands) ≡ named k operands
uses_named n k at left operands = names_seen n k at left (names_among operands)

args_named : (n k : ℕ) (args : List (ℕ × Operand)) → map item_and_name_read (flat_map (λ (arg : ℕ × Operand). uses_at n k arg.0 [] (arg.1 ∷ [])) args) ≡ named k (map (λ (arg : ℕ × Operand). arg.1) args)
args_named n k [] = refl
args_named n k ((m, Name x t) ∷ args) = ap (λ l. (k, x) ∷ l) (args_named n k args)
args_named n k ((m, Const w) ∷ args) = args_named n k args

-- ---- the items of a block

phis_seen : (n b k : ℕ) (phis : List Phi) → map item_and_name_read (uses_in_phis n k phis) ≡ map item_and_name (flat_map (places_in_item b) (enumerate_from k (map operands_of_phi phis)))
phis_seen n b k [] = refl
phis_seen n b k (phi ∷ phis) =
    seen_both item_and_name_read item_and_name (uses_in_phi n k phi) (uses_in_phis n (k + 1) phis)
    (places_in_item b (k, operands_of_phi phi)) (flat_map (places_in_item b) (enumerate_from (k + 1) (map operands_of_phi phis)))
    (args_named n k phi.args ∙ sym (places_named b k 0 (operands_of_phi phi))) (phis_seen n b (k + 1) phis)

stmts_seen : (n b k : ℕ) (stmts : List Stmt) → map item_and_name_read (uses_in_stmts n k stmts) ≡ map item_and_name (flat_map (places_in_item b) (enumerate_from k (map operands_of_stmt stmts)))
stmts_seen n b k [] = refl
stmts_seen n b k (stmt ∷ stmts) =
    let left = map stmt_name (stmt ∷ stmts) in
    seen_both item_and_name_read item_and_name (uses_at n k n left (operands_of_stmt stmt)) (uses_in_stmts n (k + 1) stmts)
    (places_in_item b (k, operands_of_stmt stmt)) (flat_map (places_in_item b) (enumerate_from (k + 1) (map operands_of_stmt stmts)))
    (uses_named n k n left (operands_of_stmt stmt) ∙ sym (places_named b k 0 (operands_of_stmt stmt))) (stmts_seen n b (k + 1) stmts)

enumerate-append : {X : Type 0} (n : ℕ) (xs ys : List X) → enumerate_from n (xs ++ ys) ≡ enumerate_from n xs ++ enumerate_from (n + length xs) ys
enumerate-append n [] ys = let e : n ≡ n + 0 = omega arith in ap (λ m. enumerate_from m ys) e
enumerate-append n (x ∷ xs) ys =
    let e : (n + 1) + length xs ≡ n + length (x ∷ xs) = omega arith in
    ap (λ l. (n, x) ∷ l) (enumerate-append (n + 1) xs ys ∙ ap (λ m. enumerate_from (n + 1) xs ++ enumerate_from m ys) e)

-- phis, statements and the end, each with its number
items_numbered : (block : Block) → enumerate_from 1 (items_of block) ≡
    (enumerate_from 1 (map operands_of_phi block.phis) ++ enumerate_from (1 + length block.phis) (map operands_of_stmt block.stmts))
    ++ (1 + length block.phis + length block.stmts, operands_of_end block.end) ∷ []
items_numbered block =
    let phis = map operands_of_phi block.phis in
    let stmts = map operands_of_stmt block.stmts in
    let end = operands_of_end block.end in
    let phis_long : length phis ≡ length block.phis = length-map block.phis operands_of_phi in
    let long : 1 + length (phis ++ stmts) ≡ 1 + length block.phis + length block.stmts =
    omega (arith, length-append phis stmts, phis_long, length-map block.stmts operands_of_stmt) in
    enumerate-append 1 (phis ++ stmts) (end ∷ [])
    ∙ (ap (λ l. l ++ enumerate_from (1 + length (phis ++ stmts)) (end ∷ [])) (enumerate-append 1 phis stmts ∙ ap (λ m. enumerate_from 1 phis ++ enumerate_from (1 + m) stmts) phis_long)
    ∙ ap (λ m. (enumerate_from 1 phis ++ enumerate_from (1 + length block.phis) stmts) ++ (m, end) ∷ []) long)

pub places_are_uses_read : (block : Block) (b : ℕ) → map item_and_name (places_in_block (b, block)) ≡ map item_and_name_read (uses_in_block block)
places_are_uses_read block b =
    let phis = enumerate_from 1 (map operands_of_phi block.phis) in
    let stmts = enumerate_from (1 + length block.phis) (map operands_of_stmt block.stmts) in
    let k = 1 + length block.phis + length block.stmts in
    let end = operands_of_end block.end in
    let parts : flat_map (places_in_item b) (enumerate_from 1 (items_of block)) ≡ (flat_map (places_in_item b) phis ++ flat_map (places_in_item b) stmts) ++ places_in_item b (k, end) =
    ap (flat_map (places_in_item b)) (items_numbered block)
    ∙ (flat_map-append (places_in_item b) (phis ++ stmts) ((k, end) ∷ [])
    ∙ (ap (λ l. l ++ (places_in_item b (k, end) ++ [])) (flat_map-append (places_in_item b) phis stmts)
    ∙ ap (λ l. (flat_map (places_in_item b) phis ++ flat_map (places_in_item b) stmts) ++ l) (append-nil (places_in_item b (k, end))))) in
    ap (map item_and_name) parts
    ∙ sym (seen_both item_and_name_read item_and_name (uses_in_phis block.number 1 block.phis ++ uses_in_stmts block.number (1 + length block.phis) block.stmts) (uses_at block.number k block.number [] end)
    (flat_map (places_in_item b) phis ++ flat_map (places_in_item b) stmts) (places_in_item b (k, end))
    (seen_both item_and_name_read item_and_name (uses_in_phis block.number 1 block.phis) (uses_in_stmts block.number (1 + length block.phis) block.stmts) (flat_map (places_in_item b) phis) (flat_map (places_in_item b) stmts)
    (phis_seen block.number b 1 block.phis) (stmts_seen block.number b (1 + length block.phis) block.stmts))
    (uses_named block.number k block.number [] end ∙ sym (places_named b k 0 end)))
