-- What is known of blocks on the way.
use Rattle.std.proofs.Common.{◌≡◌, ℕ, zero, suc, ◌+◌, ◌-◌, ◌≤◌, ◌<◌, Bool, true, false, cond, ◌==◌, ◌&&◌, List, [], ◌∷◌, length, Some, refl, sym, ap, subst, ◌∙◌, arith}
use Rattle.std.specs.Prelude.{slice_get}
use Rattle.std.specs.List.{list_all}
use Rattle.std.specs.Option.{option_map_or}
use Rattle.std.proofs.lemmas.Option.{slice_get_past}
use Rattle.gim_ast.specs.declared.function.Function.{Function}
use Rattle.gim_ast.specs.declared.function.Block.{Block}
use Rattle.gim_ast.specs.Functions.{first_where, block_of, operands_of_end}
use Rattle.gim_ast.specs.WellFormed.{operand_holds, end_fits}
use Rattle.gim_ast.specs.Runs.{Outcome, Running, Place, Further, Ended, outcome_of, step_in, step_at, run_from}
use Rattle.gim_run.specs.Slots.{stmt_holds}
use Rattle.gim_run.specs.Blocks.{phi_holds, end_holds, block_holds, has_room, place_of_block}
use Rattle.gim_run.proofs.SlotLemmas.{and_first, and_second}

third : (a b c : Bool) → (a && b && c) ≡ true → c ≡ true
third true true c h = h
third true false c h = cc
third false b c h = cc

block_end : (f : Function) (block : Block) → block_holds f block ≡ true → end_holds f block ≡ true
block_end f block h = third (list_all (phi_holds f) block.phis) (list_all (stmt_holds f) block.stmts) (end_holds f block) h

pub block_end_known : (f : Function) (block : Block) → block_holds f block ≡ true → list_all (operand_holds f) (operands_of_end block.end) ≡ true
block_end_known f block h = and_second (end_fits f block.end) (list_all (operand_holds f) (operands_of_end block.end)) (block_end f block h)

pub block_end_fits : (f : Function) (block : Block) → block_holds f block ≡ true → end_fits f block.end ≡ true
block_end_fits f block h = and_first (end_fits f block.end) (list_all (operand_holds f) (operands_of_end block.end)) (block_end f block h)

-- the block at the place is the block of the number
pub block_at : (f : Function) (n : ℕ) → slice_get f.blocks (place_of_block f.blocks n) ≡ block_of f n
unfolding block_of
block_at f n = at f.blocks
  where
    choose : (b : Bool) (block : Block) (blocks : List Block) → slice_get blocks (place_of_block blocks n) ≡ first_where (λ (x : Block). x.number == n) blocks → slice_get (block ∷ blocks) (cond b zero (suc (place_of_block blocks n))) ≡ cond b (Some block) (first_where (λ (x : Block). x.number == n) blocks)
    choose true block blocks rest = refl
    choose false block blocks rest = rest

    at : (blocks : List Block) → slice_get blocks (place_of_block blocks n) ≡ first_where (λ (x : Block). x.number == n) blocks
    at [] = refl
    at (block ∷ blocks) = choose (block.number == n) block blocks (at blocks)

pub step_inside : (f : Function) (place : Place) (block : Block) → slice_get f.blocks (place_of_block f.blocks place.to) ≡ Some block → step_at f place ≡ step_in f place block
unfolding step_at
step_inside f place block is = ap (λ o. option_map_or (step_in f place) o (Further place)) (sym (block_at f place.to) ∙ is)

pub step_nowhere : (f : Function) (place : Place) → length f.blocks ≤ place_of_block f.blocks place.to → step_at f place ≡ Further place
unfolding step_at
step_nowhere f place past = ap (λ o. option_map_or (step_in f place) o (Further place)) (sym (block_at f place.to) ∙ slice_get_past f.blocks (place_of_block f.blocks place.to) past)

pub got_holds : {X : Type 0} (p : X → Bool) (xs : List X) (i : ℕ) (x : X) → list_all p xs ≡ true → slice_get xs i ≡ Some x → p x ≡ true
got_holds p [] i x h is = cc
got_holds p (y ∷ ys) zero x h is = let same : y ≡ x = cc in subst (λ z. p z ≡ true) same (and_first (p y) (list_all p ys) h)
got_holds p (y ∷ ys) (suc i) x h is = got_holds p ys i x (and_second (p y) (list_all p ys) h) is

pub room_for : (room : ℕ) (block : Block) → has_room room block ≡ true → length block.phis ≤ room
room_for room block h = grind arith

-- ---- fuel

pub run_on : (f : Function) (fuel i : ℕ) (place next : Place) → i < fuel → step_at f place ≡ Further next → run_from f (fuel - i) place ≡ run_from f (fuel - (i + 1)) next
run_on f fuel i place next less is =
    let more : fuel - i ≡ suc (fuel - (i + 1)) = omega arith in
    ap (λ n. run_from f n place) more ∙ ap (outcome_of (run_from f (fuel - (i + 1)))) is

pub run_out : (f : Function) (fuel i : ℕ) (place : Place) (o : Outcome) → i < fuel → step_at f place ≡ Ended o → run_from f (fuel - i) place ≡ o
run_out f fuel i place o less is =
    let more : fuel - i ≡ suc (fuel - (i + 1)) = omega arith in
    ap (λ n. run_from f n place) more ∙ ap (outcome_of (run_from f (fuel - (i + 1)))) is

pub run_ended : (f : Function) (fuel i : ℕ) (place : Place) → fuel ≤ i → run_from f (fuel - i) place ≡ Running
run_ended f fuel i place past = let none : fuel - i ≡ 0 = omega arith in ap (λ n. run_from f n place) none
