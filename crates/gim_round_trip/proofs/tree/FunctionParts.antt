-- The parts of a function in the order of its text, and what stands in the function by them.
use Rattle.std.proofs.Common.{◌≡◌, ℕ, Option, Some, None, List, [], ◌∷◌, ◌++◌, map, refl, sym, subst}
use Rattle.std.specs.List.{flat_map, filter_map}
use Rattle.std.proofs.lemmas.List.{append-nil, map-id}
use Rattle.std.proofs.lemmas.List.Concat.{flat_map_single}
use Rattle.std.proofs.lemmas.List.Elements.{filter_map-append}
use Rattle.pm_wide.specs.declared.operand.Operand.{Operand}
use Rattle.gim_ast.specs.declared.function.Function.{Function}
use Rattle.gim_ast.specs.declared.function.Block.{Block}
use Rattle.gim_ast.specs.declared.function.Phi.{Phi}
use Rattle.gim_ast.specs.declared.function.Stmt.{Stmt}
use Rattle.gim_ast.specs.declared.function.Decl.{Decl}
use Rattle.gim_ast.specs.declared.function.End.{End}
use Rattle.gim_ast.specs.Functions.{operands_of, operands_of_stmt, operands_of_end, assigned, targets_of}
use Rattle.gim_ast.specs.WellFormed.{numbers_of, phi_blocks}
use Rattle.gim_text.proofs.OccurrenceLemmas.{filter_of_map, filter_of_flat, each_says, none_says}
use Rattle.gim_text.proofs.Membership.{Has, has_said, from_said}

pub data Part : Type 0 where
  parameter : Decl → Part
  local : Decl → Part
  head : ℕ → Part
  jump : ℕ → Part
  assigns : ℕ → Part
  reads : Operand → Part

abbrev pub parts_of_arg : ℕ × Operand → List Part
parts_of_arg arg = jump arg.0 ∷ reads arg.1 ∷ []

abbrev pub parts_of_phi : Phi → List Part
parts_of_phi phi = assigns phi.name ∷ flat_map parts_of_arg phi.args

abbrev pub parts_of_stmt : Stmt → List Part
parts_of_stmt stmt = assigns stmt.name ∷ map reads (operands_of_stmt stmt)

abbrev pub parts_of_end : End → List Part
parts_of_end end = map reads (operands_of_end end) ++ map jump (targets_of end)

abbrev pub parts_of_block : Block → List Part
parts_of_block block =
    (head block.number ∷ (flat_map parts_of_phi block.phis ++ flat_map parts_of_stmt block.stmts))
    ++ parts_of_end block.end

abbrev pub parts_of : Function → List Part
parts_of f = (map parameter f.params ++ map local f.decls) ++ flat_map parts_of_block f.blocks

-- ---- parts of one kind

flat_none : {X A : Type 0} (xs : List X) → flat_map {A = A} (λ x. []) xs ≡ []
flat_none [] = refl
flat_none (x ∷ xs) = flat_none xs

-- what is picked from all parts, through their lists
ruleset picking = (filter_map-append, filter_of_flat, filter_of_map, none_says, each_says, flat_map_single, flat_none, append-nil, map-id)

abbrev a_parameter : Part → Option Decl
a_parameter (parameter decl) = Some decl
a_parameter part = None

abbrev a_local : Part → Option Decl
a_local (local decl) = Some decl
a_local part = None

abbrev a_head : Part → Option ℕ
a_head (head n) = Some n
a_head part = None

abbrev a_jump : Part → Option ℕ
a_jump (jump n) = Some n
a_jump part = None

abbrev pub a_name : Part → Option ℕ
a_name (assigns x) = Some x
a_name part = None

abbrev an_operand : Part → Option Operand
an_operand (reads a) = Some a
an_operand part = None

module _ (f : Function) where
  -- where the phis and the ends of blocks jump
  abbrev pub jumps_of : List ℕ
  jumps_of = flat_map (λ (block : Block). flat_map phi_blocks block.phis ++ targets_of block.end) f.blocks

  params_are : filter_map a_parameter (parts_of f) ≡ f.params
  params_are = simp picking

  locals_are : filter_map a_local (parts_of f) ≡ f.decls
  locals_are = simp picking

  heads_are : filter_map a_head (parts_of f) ≡ numbers_of f
  heads_are = simp picking

  jumps_are : filter_map a_jump (parts_of f) ≡ jumps_of
  jumps_are = simp picking

  pub names_are : filter_map a_name (parts_of f) ≡ assigned f
  unfolding assigned
  names_are = simp picking

  operands_are : filter_map an_operand (parts_of f) ≡ operands_of f
  unfolding operands_of
  operands_are = simp picking

  -- ---- a part and what stands in the function

  -- what each part is
  abbrev pub PartIs : Part → Type 0
  PartIs (parameter decl) = Has f.params decl
  PartIs (local decl) = Has f.decls decl
  PartIs (head n) = Has (numbers_of f) n
  PartIs (jump n) = Has jumps_of n
  PartIs (assigns x) = Has (assigned f) x
  PartIs (reads a) = Has (operands_of f) a

  pub part_is : (part : Part) → Has (parts_of f) part → PartIs part
  part_is (parameter decl) there = subst (λ l. Has l decl) params_are (has_said a_parameter (parts_of f) (parameter decl) decl there refl)
  part_is (local decl) there = subst (λ l. Has l decl) locals_are (has_said a_local (parts_of f) (local decl) decl there refl)
  part_is (head n) there = subst (λ l. Has l n) heads_are (has_said a_head (parts_of f) (head n) n there refl)
  part_is (jump n) there = subst (λ l. Has l n) jumps_are (has_said a_jump (parts_of f) (jump n) n there refl)
  part_is (assigns x) there = subst (λ l. Has l x) names_are (has_said a_name (parts_of f) (assigns x) x there refl)
  part_is (reads a) there = subst (λ l. Has l a) operands_are (has_said an_operand (parts_of f) (reads a) a there refl)

  is_there : {X : Type 0} (picks : Part → Option X) (v : X → Part)
      → ((part : Part) (x : X) → picks part ≡ Some x → part ≡ v x) → (xs : List X)
      → filter_map picks (parts_of f) ≡ xs → (x : X) → Has xs x → Has (parts_of f) (v x)
  is_there picks v only xs are x there =
      let part = from_said picks (parts_of f) x (subst (λ l. Has l x) (sym are) there) in
      subst (Has (parts_of f)) (only part.0 x part.2) part.1

  pub local_there : (decl : Decl) → Has f.decls decl → Has (parts_of f) (local decl)
  local_there decl there = is_there a_local local only f.decls locals_are decl there where
    only : (part : Part) (d : Decl) → a_local part ≡ Some d → part ≡ local d
    only (local e) d is = cc
    only part d is = absurd cc

  pub name_there : (x : ℕ) → Has (assigned f) x → Has (parts_of f) (assigns x)
  name_there x there = is_there a_name assigns only (assigned f) names_are x there where
    only : (part : Part) (y : ℕ) → a_name part ≡ Some y → part ≡ assigns y
    only (assigns z) y is = cc
    only part y is = absurd cc

  pub operand_there : (a : Operand) → Has (operands_of f) a → Has (parts_of f) (reads a)
  operand_there a there = is_there an_operand reads only (operands_of f) operands_are a there where
    only : (part : Part) (b : Operand) → an_operand part ≡ Some b → part ≡ reads b
    only (reads c) b is = cc
    only part b is = absurd cc
