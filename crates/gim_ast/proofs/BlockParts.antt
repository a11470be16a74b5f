-- The rules on blocks, jumps and phis, part by part.
use Rattle.std.proofs.Common.{◌≡◌, ◌==◌, ℕ, Bool, true, false, List, [], ◌∷◌, map, refl, ap, ◌∙◌}
use Rattle.std.specs.Prelude.{◌&&◌, ◌||◌, not, if◌then◌else◌}
use Rattle.std.specs.List.{flat_map, list_any, list_all}
use Rattle.pm_wide.specs.declared.operand.Operand.{Operand}
use Rattle.gim_ast.specs.declared.function.Function.{Function}
use Rattle.gim_ast.specs.declared.function.Block.{Block}
use Rattle.gim_ast.specs.declared.function.Phi.{Phi}
use Rattle.gim_ast.specs.declared.function.End.{End}
use Rattle.gim_ast.specs.declared.function.End.TheVariants.{Goto, If, Return}
use Rattle.gim_ast.specs.Functions.{targets_of}
use Rattle.gim_ast.specs.WellFormed.{all_distinct, is_empty, numbers_of, predecessors, is_among, phi_blocks, phi_holds, entry_has_no_phi, blocks_hold}
use Rattle.gim_ast.specs.RulesByPart.{has_number, distinct_numbers, stays_in, jumps_stay_in, leads_to, is_way, comes_from, distinct_args, arg_has_way, way_has_arg, phi_by_part, phis_by_part, blocks_by_part}
use Rattle.gim_ast.proofs.ListTests.{and_cong, any_cong, all_cong, any_map, all_map, any_flat_map, all_flat_map, any_turned}

abbrev number_of : Block → ℕ
number_of block = block.number

abbrev from_of : ℕ × Operand → ℕ
from_of arg = arg.0

has : (n : ℕ) (blocks : List Block) → is_among n (map number_of blocks) ≡ list_any (has_number n) blocks
has n blocks = any_map (λ m. m == n) number_of blocks

numbers_apart : (blocks : List Block) → all_distinct ◌==◌ (map number_of blocks) ≡ distinct_numbers blocks
numbers_apart [] = refl
numbers_apart (b ∷ bs) =
    and_cong (not (list_any (λ m. b.number == m) (map number_of bs))) (not (list_any (has_number b.number) bs)) (all_distinct ◌==◌ (map number_of bs)) (distinct_numbers bs)
    (ap not (any_turned b.number (map number_of bs) ∙ has b.number bs)) (numbers_apart bs)

one_more : (a b : Bool) → a ≡ b → (a && true) ≡ b
one_more a true h = rw h refl
one_more a false h = rw h refl

two_more : (a b c d : Bool) → a ≡ b → c ≡ d → (a && (c && true)) ≡ (b && d)
two_more a b c d h k = and_cong a b (c && true) d h (one_more c d k)

end_stays : (blocks : List Block) (end : End) → list_all (λ n. is_among n (map number_of blocks)) (targets_of end) ≡ stays_in blocks end
end_stays blocks (Goto to) = one_more (is_among to (map number_of blocks)) (list_any (has_number to) blocks) (has to blocks)
end_stays blocks (If code left right yes_to no_to) =
    two_more (is_among yes_to (map number_of blocks)) (list_any (has_number yes_to) blocks) (is_among no_to (map number_of blocks)) (list_any (has_number no_to) blocks) (has yes_to blocks) (has no_to blocks)
end_stays blocks (Return a) = refl

all_stay : (blocks among : List Block) → list_all (λ n. is_among n (map number_of among)) (flat_map (λ (block : Block). targets_of block.end) blocks) ≡ list_all (jumps_stay_in among) blocks
all_stay blocks among =
    all_flat_map (λ n. is_among n (map number_of among)) (λ (block : Block). targets_of block.end) blocks
    ∙ all_cong (λ (block : Block). list_all (λ n. is_among n (map number_of among)) (targets_of block.end)) (jumps_stay_in among) (λ block. end_stays among block.end) blocks

or_none : (a : Bool) → (a || false) ≡ a
or_none true = refl
or_none false = refl

leads : (n : ℕ) (end : End) → list_any (λ to. to == n) (targets_of end) ≡ leads_to n end
leads n (Goto to) = or_none (to == n)
leads n (If code left right yes_to no_to) = ap (λ b. (yes_to == n) || b) (or_none (no_to == n))
leads n (Return a) = refl

from_one : (c d : Bool) (m k : ℕ) → c ≡ d → list_any (λ x. x == m) (if c then k ∷ [] else []) ≡ (d && (k == m))
from_one c true m k h = rw h (or_none (k == m))
from_one c false m k h = rw h refl

way : (m n : ℕ) (blocks : List Block) → list_any (λ k. k == m) (flat_map (λ (block : Block). if list_any (λ to. to == n) (targets_of block.end) then block.number ∷ [] else []) blocks) ≡ list_any (is_way m n) blocks
way m n blocks =
    any_flat_map (λ k. k == m) (λ (block : Block). if list_any (λ to. to == n) (targets_of block.end) then block.number ∷ [] else []) blocks
    ∙ any_cong (λ (block : Block). list_any (λ k. k == m) (if list_any (λ to. to == n) (targets_of block.end) then block.number ∷ [] else [])) (is_way m n)
    (λ block. from_one (list_any (λ to. to == n) (targets_of block.end)) (leads_to n block.end) m block.number (leads n block.end)) blocks

comes : (m : ℕ) (args : List (ℕ × Operand)) → is_among m (map from_of args) ≡ list_any (comes_from m) args
comes m args = any_map (λ k. k == m) from_of args

args_apart : (args : List (ℕ × Operand)) → all_distinct ◌==◌ (map from_of args) ≡ distinct_args args
args_apart [] = refl
args_apart (a ∷ rest) =
    and_cong (not (list_any (λ m. a.0 == m) (map from_of rest))) (not (list_any (comes_from a.0) rest)) (all_distinct ◌==◌ (map from_of rest)) (distinct_args rest)
    (ap not (any_turned a.0 (map from_of rest) ∙ comes a.0 rest)) (args_apart rest)

args_have_ways : (f : Function) (n : ℕ) (args : List (ℕ × Operand)) → list_all (λ m. is_among m (predecessors f n)) (map from_of args) ≡ list_all (arg_has_way f.blocks n) args
args_have_ways f n args =
    all_map (λ m. is_among m (predecessors f n)) from_of args
    ∙ all_cong (λ (arg : ℕ × Operand). is_among arg.0 (predecessors f n)) (arg_has_way f.blocks n) (λ arg. way arg.0 n f.blocks) args

for_one : (c d : Bool) (k : ℕ) (p : ℕ → Bool) (b : Bool) → c ≡ d → p k ≡ b → list_all p (if c then k ∷ [] else []) ≡ (if d then b else true)
for_one c true k p b h e = rw h (one_more (p k) b e)
for_one c false k p b h e = rw h refl

ways_have_args : (f : Function) (n : ℕ) (args : List (ℕ × Operand)) → list_all (λ m. is_among m (map from_of args)) (predecessors f n) ≡ list_all (way_has_arg args n) f.blocks
ways_have_args f n args =
    all_flat_map (λ m. is_among m (map from_of args)) (λ (block : Block). if list_any (λ to. to == n) (targets_of block.end) then block.number ∷ [] else []) f.blocks
    ∙ all_cong (λ (block : Block). list_all (λ m. is_among m (map from_of args)) (if list_any (λ to. to == n) (targets_of block.end) then block.number ∷ [] else [])) (way_has_arg args n)
    (λ block. for_one (list_any (λ to. to == n) (targets_of block.end)) (leads_to n block.end) block.number (λ m. is_among m (map from_of args)) (list_any (comes_from block.number) args) (leads n block.end) (comes block.number args)) f.blocks

three_of : (a b c d x y z : Bool) → a ≡ x → b ≡ y → c ≡ z → (a && b && c && d) ≡ (x && y && z && d)
three_of a b c d x y z h k l = rw (h, k, l) refl

phi_parts : (f : Function) (n : ℕ) (phi : Phi) → phi_holds f n phi ≡ phi_by_part f.blocks n phi
phi_parts f n phi =
    three_of (all_distinct ◌==◌ (phi_blocks phi)) (list_all (λ m. is_among m (predecessors f n)) (phi_blocks phi)) (list_all (λ m. is_among m (phi_blocks phi)) (predecessors f n)) (not (is_empty phi.args))
    (distinct_args phi.args) (list_all (arg_has_way f.blocks n) phi.args) (list_all (way_has_arg phi.args n) f.blocks)
    (args_apart phi.args) (args_have_ways f n phi.args) (ways_have_args f n phi.args)

phis_parts : (f : Function) (blocks : List Block) → list_all (λ (block : Block). list_all (phi_holds f block.number) block.phis) blocks ≡ list_all (phis_by_part f.blocks) blocks
phis_parts f blocks =
    all_cong (λ (block : Block). list_all (phi_holds f block.number) block.phis) (phis_by_part f.blocks)
    (λ block. all_cong (phi_holds f block.number) (phi_by_part f.blocks block.number) (phi_parts f block.number) block.phis) blocks

last_three : (d a b c x y z : Bool) → a ≡ x → b ≡ y → c ≡ z → (d && a && b && c) ≡ (d && x && y && z)
last_three d a b c x y z h k l = rw (h, k, l) refl

pub block_parts : (f : Function) → blocks_hold f ≡ blocks_by_part f
block_parts f =
    last_three (entry_has_no_phi f.blocks) (all_distinct ◌==◌ (numbers_of f)) (list_all (λ n. is_among n (numbers_of f)) (flat_map (λ (block : Block). targets_of block.end) f.blocks))
    (list_all (λ (block : Block). list_all (phi_holds f block.number) block.phis) f.blocks)
    (distinct_numbers f.blocks) (list_all (jumps_stay_in f.blocks) f.blocks) (list_all (phis_by_part f.blocks) f.blocks)
    (numbers_apart f.blocks) (all_stay f.blocks f.blocks) (phis_parts f f.blocks)
