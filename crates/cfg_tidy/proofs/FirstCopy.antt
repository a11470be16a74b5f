-- The first phi of one operand: where it stands, and what its arguments are.
use Rattle.std.proofs.Common.{◌≡◌, ℕ, Bool, true, false, cond, ◌||◌, Option, Some, None, List, [], ◌∷◌, ◌⊎◌, eqb, refl, sym, ap, ap₂, subst, ◌∙◌, inl, inr, ⊎_elim}
use Rattle.std.specs.Bool.{IsTrue}
use Rattle.std.specs.List.{AllByRecursion}
use Rattle.std.specs.Option.{option_map, option_map_or}
use Rattle.std.proofs.lemmas.Bool.{and_parts, or_cases, both_ways, eqb-true}
use Rattle.std.proofs.lemmas.Option.{same_Some, none-some}
use Rattle.pm_wide.specs.Types.{Ty}
use Rattle.pm_wide.specs.declared.operand.Operand.{Operand}
use Rattle.pm_wide.specs.declared.operand.Operand.TheVariants.{Name, Const}
use Rattle.pm_wide.proofs.Results.{same_type_is}
use Rattle.gim_ast.specs.declared.function.Block.{Block}
use Rattle.gim_ast.specs.declared.function.Phi.{Phi}
use Rattle.gim_ast.specs.Functions.{is_name, same_operand}
use Rattle.gim_changes.proofs.Members.{IsMember}
use Rattle.cfg_tidy.specs.Branches.{first_some}
use Rattle.cfg_tidy.specs.Phis.{other_operand, all_are, only_operand, copy_of, first_copy}

pub first_some_gives : {X Y : Type 0} (g : X → Option Y) (xs : List X) (y : Y) → first_some g xs ≡ Some y → (x : X) × IsMember x xs × (g x ≡ Some y)
first_some_gives g [] y is = absurd (none-some y is)
first_some_gives {X} {Y} g (x ∷ xs) y is = by (g x) refl is (first_some_gives g xs y)
  where
    Found : Type 0
    Found = (z : X) × IsMember z xs × (g z ≡ Some y)

    by : (o : Option Y) → g x ≡ o → option_map_or Some o (first_some g xs) ≡ Some y → (first_some g xs ≡ Some y → Found) →
        (z : X) × IsMember z (x ∷ xs) × (g z ≡ Some y)
    by None none e rest = let found = rest e in (found.0, inr found.1, found.2)
    by (Some z) gives e rest = (x, inl refl, gives ∙ e)

pub same_operand_is : (a b : Operand) → same_operand a b ≡ true → a ≡ b
same_operand_is (Name x t) (Name y u) h =
    let parts = and_parts (eqb x y) _ h in
    ap₂ Name (eqb-true x y parts.0) (same_type_is t u parts.1)
same_operand_is (Const v) (Const w) h =
    let parts = and_parts (eqb v.bits w.bits) _ h in
    ap₂ (λ (n : ℕ) (t : Ty). Const (record { bits = n; ty = t })) (eqb-true v.bits w.bits parts.0) (same_type_is v.ty w.ty parts.1)
same_operand_is (Name x t) (Const w) h = absurd (both_ways false refl h)
same_operand_is (Const v) (Name y u) h = absurd (both_ways false refl h)

-- the phi has one operand, which is another one than its name
pub record HasOne (phi : Phi) (by : Operand) : Type 0 where
  pub other : is_name phi.name by ≡ false
  pub arg : ℕ × Operand
  pub among : IsMember arg phi.args
  pub is : arg.1 ≡ by
  pub all : all_are phi.name by phi.args ≡ true

pub has_one : (phi : Phi) (by : Operand) → only_operand phi ≡ Some by → HasOne phi by
has_one phi by only = found (first_some (other_operand phi.name) phi.args) refl only
  where
    from_arg : (arg : ℕ × Operand) → IsMember arg phi.args → (b : Bool) → is_name phi.name arg.1 ≡ b → cond b None (Some arg.1) ≡ Some by →
        all_are phi.name by phi.args ≡ true → HasOne phi by
    from_arg arg among true own e all = absurd (none-some by e)
    from_arg arg among false own e all =
        let same = same_Some arg.1 by e in
        record { other = subst (λ a. is_name phi.name a ≡ false) same own; arg = arg; among = among; is = same; all = all }

    chosen : (a : Operand) (b : Bool) → all_are phi.name a phi.args ≡ b → cond b (Some a) None ≡ Some by → (a ≡ by) × (all_are phi.name a phi.args ≡ true)
    chosen a true all e = (same_Some a by e, all)
    chosen a false all e = absurd (none-some by e)

    found : (o : Option Operand) → first_some (other_operand phi.name) phi.args ≡ o →
        option_map_or (λ a. cond (all_are phi.name a phi.args) (Some a) None) o None ≡ Some by → HasOne phi by
    found None none e = absurd (none-some by e)
    found (Some a) is e =
        let told = chosen a (all_are phi.name a phi.args) refl e in
        let arg = first_some_gives (other_operand phi.name) phi.args a is in
        from_arg arg.0 arg.1 (is_name phi.name arg.0.1) refl (arg.2 ∙ ap Some told.0) (subst (λ b. all_are phi.name b phi.args ≡ true) told.0 told.1)

pub reads_only : (x : ℕ) (by : Operand) (args : List (ℕ × Operand)) → all_are x by args ≡ true →
    AllByRecursion (λ (arg : ℕ × Operand). (arg.1 ≡ by) ⊎ IsTrue (is_name x arg.1)) args
reads_only x by [] all = tt
reads_only x by (arg ∷ args) all =
    let parts = and_parts (is_name x arg.1 || same_operand by arg.1) (all_are x by args) all in
    (⊎_elim (λ own. inr own) (λ same. inl (sym (same_operand_is by arg.1 same))) (or_cases (is_name x arg.1) (same_operand by arg.1) parts.0), reads_only x by args parts.1)

pub record IsCopyAt (blocks : List Block) (x : ℕ) (by : Operand) : Type 0 where
  pub home : Block
  pub one : IsMember home blocks
  pub phi : Phi
  pub mine : IsMember phi home.phis
  pub name : phi.name ≡ x
  pub has : HasOne phi by

pub copy_at : (blocks : List Block) (x : ℕ) (by : Operand) → first_copy blocks ≡ Some (x, by) → IsCopyAt blocks x by
copy_at blocks x by is =
    let home = first_some_gives (λ (block : Block). first_some copy_of block.phis) blocks (x, by) is in
    let phi = first_some_gives copy_of home.0.phis (x, by) home.2 in
    told home.0 home.1 phi.0 phi.1 (only_operand phi.0) refl phi.2
  where
    told : (home : Block) → IsMember home blocks → (phi : Phi) → IsMember phi home.phis → (o : Option Operand) → only_operand phi ≡ o →
        option_map {U = ℕ × Operand} (λ a. (phi.name, a)) o ≡ Some (x, by) → IsCopyAt blocks x by
    told home one phi mine None none e = absurd (none-some (x, by) e)
    told home one phi mine (Some a) only e =
        let same = same_Some (phi.name, a) (x, by) e in
        record {
          home = home;
          one = one;
          phi = phi;
          mine = mine;
          name = ap (λ (p : ℕ × Operand). p.0) same;
          has = has_one phi by (only ∙ ap (λ (p : ℕ × Operand). Some p.1) same);
        }
