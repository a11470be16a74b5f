-- What is read is used, and what is used stands in the function.
use Rattle.std.proofs.Common.{◌≡◌, ℕ, true, List, [], ◌∷◌, ◌++◌, flat_map, refl, sym, ap, subst, inl, inr, ⊎_elim}
use Rattle.std.specs.List.{list_any}
use Rattle.std.proofs.lemmas.Bool.{or_right, or_left, eq-eqb}
use Rattle.pm_wide.specs.Types.{Ty}
use Rattle.pm_wide.specs.declared.operand.Operand.{Operand}
use Rattle.pm_wide.specs.declared.operand.Operand.TheVariants.{Name, Const}
use Rattle.gim_ast.specs.declared.function.Function.{Function}
use Rattle.gim_ast.specs.declared.function.Block.{Block}
use Rattle.gim_ast.specs.Functions.{is_name, operands_of, operands_of_block, operands_of_phi, operands_of_stmt, operands_of_end, is_used}
use Rattle.gim_ast.specs.WellFormed.{is_assigned}
use Rattle.gim_ast.specs.Readable.{names_among}
use Rattle.gim_changes.specs.Trimming.{stands_in}
use Rattle.gim_changes.proofs.Members.{IsMember, any_from_member, member_left, member_right, member_middle, part_member, mapped_member}
use Rattle.gim_changes.proofs.NamesRead.{IsRead, IsReadIn, by_phi, by_stmt, by_end}

-- a name among operands is one of them
pub named : (y : ℕ) (operands : List Operand) → IsMember y (names_among operands) → (t : Ty) × IsMember (Name y t) operands
named y [] one = absurd one
named y (Name x t ∷ operands) one = ⊎_elim
    (λ (here : x ≡ y). (t, inl (ap (λ z. Name z t) here)))
    (λ later. let found = named y operands later in (found.0, inr found.1))
    one
named y (Const w ∷ operands) one = let found = named y operands one in (found.0, inr found.1)

pub names_it : (y : ℕ) (t : Ty) (operands : List Operand) → IsMember (Name y t) operands → list_any (is_name y) operands ≡ true
names_it y t operands one = any_from_member (is_name y) operands (Name y t) one (eq-eqb y y refl)

-- ---- operands of parts are operands of the function

pub operand_of_phis : (b : Block) (a : Operand) → IsMember a (flat_map operands_of_phi b.phis) → IsMember a (operands_of_block b)
operand_of_phis b a one =
    member_left a (flat_map operands_of_phi b.phis ++ flat_map operands_of_stmt b.stmts) (operands_of_end b.end)
    (member_left a (flat_map operands_of_phi b.phis) (flat_map operands_of_stmt b.stmts) one)

pub operand_of_stmts : (b : Block) (a : Operand) → IsMember a (flat_map operands_of_stmt b.stmts) → IsMember a (operands_of_block b)
operand_of_stmts b a one =
    member_left a (flat_map operands_of_phi b.phis ++ flat_map operands_of_stmt b.stmts) (operands_of_end b.end)
    (member_right a (flat_map operands_of_phi b.phis) (flat_map operands_of_stmt b.stmts) one)

pub operand_of_end : (b : Block) (a : Operand) → IsMember a (operands_of_end b.end) → IsMember a (operands_of_block b)
operand_of_end b a one = member_right a (flat_map operands_of_phi b.phis ++ flat_map operands_of_stmt b.stmts) (operands_of_end b.end) one

pub operand_of_block : (f : Function) (b : Block) (a : Operand) → IsMember b f.blocks → IsMember a (operands_of_block b) → IsMember a (operands_of f)
unfolding operands_of
operand_of_block f b a one mine = part_member operands_of_block a b f.blocks one mine

read_operand : (b : Block) (y n : ℕ) (left : List ℕ) → IsReadIn b y n left → (t : Ty) × IsMember (Name y t) (operands_of_block b)
read_operand b y n left (by_phi phi a one arg name none) =
    let found = named y (a ∷ []) name in
    let same : a ≡ Name y found.0 = ⊎_elim (λ here. here) (λ later. absurd later) found.1 in (
      found.0,
      operand_of_phis b (Name y found.0) (part_member operands_of_phi (Name y found.0) phi b.phis one
          (subst (λ c. IsMember c (operands_of_phi phi)) same (mapped_member (λ (more : ℕ × Operand). more.1) (n, a) phi.args arg))),
    )
read_operand b y n left (by_stmt front stmt rest is name at what) =
    let found = named y (operands_of_stmt stmt) name in (
      found.0,
      operand_of_stmts b (Name y found.0) (part_member operands_of_stmt (Name y found.0) stmt b.stmts
          (subst (IsMember stmt) (sym is) (member_middle stmt front rest)) found.1),
    )
read_operand b y n left (by_end name at what) =
    let found = named y (operands_of_end b.end) name in
    (found.0, operand_of_end b (Name y found.0) found.1)

pub read_is_used : (f : Function) (y n : ℕ) (left : List ℕ) → IsRead f y n left → is_used f y ≡ true
read_is_used f y n left (b, one, reads) =
    let found = read_operand b y n left reads in
    names_it y found.0 (operands_of f) (operand_of_block f b (Name y found.0) one found.1)

pub used_stands : (f : Function) (y : ℕ) → is_used f y ≡ true → stands_in f y ≡ true
used_stands f y used = or_right (is_assigned f y) (is_used f y) used

pub assigned_stands : (f : Function) (y : ℕ) → is_assigned f y ≡ true → stands_in f y ≡ true
assigned_stands f y is = or_left (is_assigned f y) (is_used f y) is
