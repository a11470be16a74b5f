-- Words that agree on some names: what is read of these names alone is the same.
use Rattle.std.proofs.Common.{◌≡◌, ℕ, Bool, true, false, cond, ◌==◌, Option, Some, List, [], ◌∷◌}
use Rattle.std.proofs.Common.{map, refl, ap, ◌∙◌}
use Rattle.std.specs.Prelude.{⊤}
use Rattle.std.specs.Option.{option_map_or}
use Rattle.std.specs.List.{AllByRecursion}
use Rattle.pm_ops.specs.declared.code.Code.{Code}
use Rattle.pm_wide.specs.Types.{Ty, Word, bool_type}
use Rattle.pm_wide.specs.Operations.{operation_value}
use Rattle.pm_wide.specs.declared.operand.Operand.{Operand}
use Rattle.pm_wide.specs.declared.operand.Operand.TheVariants.{Name, Const}
use Rattle.gim_ast.specs.declared.function.Function.{Function}
use Rattle.gim_ast.specs.declared.function.Phi.{Phi}
use Rattle.gim_ast.specs.declared.function.Rhs.{Rhs}
use Rattle.gim_ast.specs.declared.function.Rhs.TheVariants.{Copy, Op}
use Rattle.gim_ast.specs.declared.function.End.{End}
use Rattle.gim_ast.specs.declared.function.End.TheVariants.{Goto, If, Return}
use Rattle.gim_ast.specs.Functions.{first_where, operands_of_rhs, operands_of_end, operands_of_phi}
use Rattle.gim_ast.specs.Runs.{Env, assign, assign_each, word_of_operand, zero_of, name_type}
use Rattle.gim_ast.specs.Runs.{phi_word, rhs_value, holds, To, Out, lead_of}

abbrev pub AgreeOn : (ℕ → Type 0) → Env → Env → Type 0
AgreeOn Stands e d = (x : ℕ) → Stands x → d x ≡ e x

-- the operand is a constant, or one of these names
abbrev pub OperandStands : (ℕ → Type 0) → Operand → Type 0
OperandStands Stands (Name x t) = Stands x
OperandStands Stands (Const w) = ⊤

abbrev pub AllStand : (ℕ → Type 0) → List Operand → Type 0
AllStand Stands operands = AllByRecursion (OperandStands Stands) operands

pub agree_assigned : (Stands : ℕ → Type 0) (e d : Env) (x : ℕ) (w : Word) → AgreeOn Stands e d →
    AgreeOn Stands (assign x w e) (assign x w d)
agree_assigned Stands e d x w agree y stands = ap (λ v. cond (x == y) w v) (agree y stands)

pub agree_assigned_each : (Stands : ℕ → Type 0) (pairs : List (ℕ × Word)) (e d : Env) →
    AgreeOn Stands e d → AgreeOn Stands (assign_each pairs e) (assign_each pairs d)
agree_assigned_each Stands [] e d agree = agree
agree_assigned_each Stands (pair ∷ pairs) e d agree =
    agree_assigned_each Stands pairs (assign pair.0 pair.1 e) (assign pair.0 pair.1 d)
    (agree_assigned Stands e d pair.0 pair.1 agree)

module _ (Stands : ℕ → Type 0) (e d : Env) (agree : AgreeOn Stands e d) where
  pub same_word : (a : Operand) → OperandStands Stands a → word_of_operand d a ≡ word_of_operand e a
  same_word (Name x t) stands = agree x stands
  same_word (Const w) stands = refl

  pub same_words : (operands : List Operand) → AllStand Stands operands →
      map (word_of_operand d) operands ≡ map (word_of_operand e) operands
  same_words [] all = refl
  same_words (a ∷ operands) all =
      ap (λ w. w ∷ map (word_of_operand d) operands) (same_word a all.0)
      ∙ ap (λ ws. word_of_operand e a ∷ ws) (same_words operands all.1)

  pub same_value : (t : Ty) (rhs : Rhs) → AllStand Stands (operands_of_rhs rhs) →
      rhs_value t d rhs ≡ rhs_value t e rhs
  same_value t (Copy a) all = ap Some (same_word a all.0)
  same_value t (Op code operands) all = ap (operation_value code t) (same_words operands all)

  same_truth : (code : Code) (left right : Operand) → OperandStands Stands left →
      OperandStands Stands right → holds d code left right ≡ holds e code left right
  same_truth code left right l r =
      ap (λ ws. option_map_or (λ (w : Word). w.bits == 1) (operation_value code bool_type ws) false)
      (same_words (left ∷ right ∷ []) (l, (r, tt)))

  pub same_lead : (end : End) → AllStand Stands (operands_of_end end) →
      lead_of d end ≡ lead_of e end
  same_lead (Goto to) all = refl
  same_lead (If code left right yes_to no_to) all =
      ap (λ b. To (cond b yes_to no_to)) (same_truth code left right all.0 all.1.0)
  same_lead (Return a) all = ap Out (same_word a all.0)

  pub same_arg : (from : ℕ) (zero : Word) (args : List (ℕ × Operand)) →
      AllStand Stands (map (λ (arg : ℕ × Operand). arg.1) args) →
      option_map_or (λ (arg : ℕ × Operand). word_of_operand d arg.1)
      (first_where (λ (arg : ℕ × Operand). arg.0 == from) args) zero
      ≡ option_map_or (λ (arg : ℕ × Operand). word_of_operand e arg.1)
      (first_where (λ (arg : ℕ × Operand). arg.0 == from) args) zero
  same_arg from zero [] all = refl
  same_arg from zero (arg ∷ args) all = by (arg.0 == from) (same_word arg.1 all.0)
      (same_arg from zero args all.1)
    where
      found : List (ℕ × Operand) → Option (ℕ × Operand)
      found rest = first_where (λ (a : ℕ × Operand). a.0 == from) rest

      by : (b : Bool) → word_of_operand d arg.1 ≡ word_of_operand e arg.1 →
          option_map_or (λ (a : ℕ × Operand). word_of_operand d a.1)
          (found args) zero ≡ option_map_or (λ (a : ℕ × Operand). word_of_operand e a.1)
          (found args) zero →
          option_map_or (λ (a : ℕ × Operand). word_of_operand d a.1)
          (cond b (Some arg) (found args)) zero
          ≡ option_map_or (λ (a : ℕ × Operand). word_of_operand e a.1)
          (cond b (Some arg) (found args)) zero
      by true here rest = here
      by false here rest = rest

  pub same_phi_word : (f g : Function) (from : ℕ) (phi : Phi) →
      name_type g phi.name ≡ name_type f phi.name → AllStand Stands (operands_of_phi phi) →
      phi_word g from d phi ≡ phi_word f from e phi
  same_phi_word f g from phi typed all =
      ap (λ t. option_map_or (λ (arg : ℕ × Operand). word_of_operand d arg.1)
      (first_where (λ (arg : ℕ × Operand). arg.0 == from) phi.args) (zero_of t)) typed
      ∙ same_arg from (zero_of (name_type f phi.name)) phi.args all
