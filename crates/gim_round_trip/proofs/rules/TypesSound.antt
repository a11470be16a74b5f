-- No rule on types is broken by trees that write well-formed functions, and each stands for its function.
use Rattle.std.proofs.Common.{◌≡◌, ℕ, Bool, true, Option, Some, None, List, [], ◌∷◌, refl, sym, ap, subst, ◌∙◌, inl, inr}
use Rattle.std.specs.Prelude.{◌&&◌}
use Rattle.std.specs.List.{AllZip, flat_map}
use Rattle.std.proofs.lemmas.Bool.{and_from}
use Rattle.pm_ops.specs.Codes.{is_comparison_code}
use Rattle.pm_wide.specs.Types.{Ty, same_type}
use Rattle.pm_wide.specs.declared.operand.Operand.{Operand}
use Rattle.gim_ast.specs.declared.function.Function.{Function}
use Rattle.gim_ast.specs.declared.function.Block.{Block}
use Rattle.gim_ast.specs.declared.function.Phi.{Phi}
use Rattle.gim_ast.specs.declared.function.Stmt.{Stmt}
use Rattle.gim_ast.specs.declared.function.Rhs.{Rhs}
use Rattle.gim_ast.specs.declared.function.Rhs.TheVariants as sides
use Rattle.gim_ast.specs.declared.function.End.{End}
use Rattle.gim_ast.specs.declared.function.End.TheVariants as ends
use Rattle.gim_ast.specs.Functions.{operands_of, operands_of_end}
use Rattle.gim_printer.specs.Printing as printing
use Rattle.gim_ast.specs.WellFormed.{type_of, rhs_fits, end_fits}
use Rattle.gim_text.specs.declared.fault.GimpleFault.{GimpleFault}
use Rattle.pm_places.specs.declared.span.Span.{Span}
use Rattle.gim_text.specs.declared.tree.BlockText.{BlockText}
use Rattle.gim_text.specs.declared.tree.EndText.{EndText}
use Rattle.gim_text.specs.declared.tree.EndText.TheVariants.{Goto, If, Return}
use Rattle.gim_text.specs.declared.tree.FunctionText.{FunctionText}
use Rattle.gim_text.specs.declared.tree.ItemText.{ItemText}
use Rattle.gim_text.specs.declared.tree.ItemText.TheVariants as items
use Rattle.gim_text.specs.declared.tree.OperandText.{OperandText}
use Rattle.gim_text.specs.declared.tree.RightForm.{RightForm}
use Rattle.gim_text.specs.declared.tree.RightForm.TheVariants.{Copy, Unary, Cast, Binary, Choice}
use Rattle.gim_typing.specs.Operands.{rhs_of}
use Rattle.gim_typing.specs.Declarations.{Declarations, declarations_of, type_of_name}
use Rattle.gim_making.specs.Standing.{StandsFor}
use Rattle.gim_typing.specs.Types.{types_fault, type_of_operand, form_fits, start_of, mismatch, place_of_arg}
use Rattle.gim_typing.specs.Types.{places_of_item, places_of_end, places_of_block, places_of_function}
use Rattle.gim_text.proofs.Membership.{Has, has_either, from_map, from_flat, all_has}
use Rattle.gim_making.proofs.NameParts.{type_itself}
use Rattle.gim_round_trip.proofs.tree.Rows.{name_facts}
use Rattle.gim_round_trip.proofs.tree.WellFormedParts.{phi_operand, stmt_operand, end_operand, phi_row, stmt_row, end_fits_here}
use Rattle.gim_round_trip.proofs.tree.KnownNames.{known_name, operand_is}
use Rattle.gim_round_trip.proofs.tree.StandingFunctions.{rhs_is, function_is}
use Rattle.gim_round_trip.proofs.tree.StandingNames.{names_stand}
use Rattle.gim_round_trip.proofs.tree.PairedLists.{beside_first, paired_by}
use Rattle.gim_round_trip.proofs.tree.Writes.{WritesWell, WritesOperand, WritesForm, WritesArg}
use Rattle.gim_round_trip.proofs.tree.Writes.{WritesPhi, WritesStmt, WritesEnd, WritesBlock}
use Rattle.gim_shape.proofs.PlacesWithoutFault.{none_at_each}

-- ---- places without a fault

-- no place has a fault
abbrev AreKept : List (Option GimpleFault) → Type 0
AreKept places = (place : Option GimpleFault) → Has places place → place ≡ None

kept_one : (fits : Bool) (at : Span) → fits ≡ true → AreKept (mismatch fits at ∷ [])
kept_one fits at h place (inl e) = sym e ∙ ap (λ b. mismatch b at) h
kept_one fits at h place (inr there) = absurd there

form_kept : (source : List ℕ) (f : Function) (known : Declarations) (t : Ty) (form : RightForm) (rhs : Rhs) → WritesForm source f t form rhs
    → rhs_of known form ≡ rhs → rhs_fits t rhs ≡ true → form_fits known t form ≡ true
form_kept source f known t (Copy a) rhs written is fits = ap (rhs_fits t) is ∙ fits
form_kept source f known t (Unary code a) rhs written is fits = ap (rhs_fits t) is ∙ fits
form_kept source f known t (Binary code a b) rhs written is fits = ap (rhs_fits t) is ∙ fits
form_kept source f known t (Choice a b c) rhs written is fits = ap (rhs_fits t) is ∙ fits
form_kept source f known t (Cast to a) (sides.Op op (x ∷ [])) written is fits =
    and_from (same_type to t) (rhs_fits t (rhs_of known (Cast to a)))
    (ap (λ u. same_type u t) written.1 ∙ type_itself t) (ap (rhs_fits t) is ∙ fits)
form_kept source f known t (Cast to a) rhs written is fits = absurd written

module _ (source : List ℕ) (tree : FunctionText) (f : Function) (w : WritesWell source tree f) where
  -- what the declarations of the tree give
  abbrev known : Declarations
  known = declarations_of source tree

  operand_type : (a : OperandText) (x : Operand) → WritesOperand source f a x → Has (operands_of f) x → type_of_operand known a ≡ type_of x
  operand_type a x written there = ap type_of (operand_is source tree f w a x written there)

  module _ (block : Block) (there : Has f.blocks block) where
    phi_kept : (item : ItemText) (phi : Phi) → Has block.phis phi → WritesPhi source f item phi → AreKept (places_of_item known item)
    phi_kept (items.Stmt name right) phi here written = absurd written
    phi_kept (items.Phi name args) phi here written = λ place among.
        let row = phi_row f block there w.well phi here in
        let t : type_of_name known name ≡ row.0.ty = (known_name source tree f w name phi.name row.0 written.0 row.1).type in
        let arg = from_map (place_of_arg known (type_of_name known name)) args place among in
        let x = beside_first (WritesArg source f) args phi.args written.1 arg.0 arg.1 in
        let typed = operand_type arg.0.operand x.0.1 x.2.1 (phi_operand f block there phi here x.0 x.1) in
        let fits : same_type (type_of_operand known arg.0.operand) (type_of_name known name) ≡ true =
        ap (λ u. same_type u (type_of_name known name)) typed ∙ ap (same_type (type_of x.0.1)) t
        ∙ all_has (λ (a : ℕ × Operand). same_type (type_of a.1) row.0.ty) phi.args row.2 x.0 x.1 in
        sym arg.2 ∙ ap (λ b. mismatch b arg.0.from) fits

    stmt_kept : (item : ItemText) (stmt : Stmt) → Has block.stmts stmt → WritesStmt source f item stmt → AreKept (places_of_item known item)
    stmt_kept (items.Phi name args) stmt here written = absurd written
    stmt_kept (items.Stmt name right) stmt here written =
        let row = stmt_row f block there w.well stmt here in
        let t : type_of_name known name ≡ row.0.ty = (known_name source tree f w name stmt.name row.0 written.0 row.1).type in
        let named : printing.type_of_name f stmt.name ≡ row.0.ty = (name_facts f stmt.name row.0 w.well w.within row.1).type in
        let form : WritesForm source f row.0.ty right.form stmt.rhs =
        subst (λ u. WritesForm source f u right.form stmt.rhs) named written.1 in
        let is = rhs_is source tree f w row.0.ty right.form stmt.rhs form (stmt_operand f block there stmt here) in
        kept_one (form_fits known (type_of_name known name) right.form) right.start
        (ap (λ u. form_fits known u right.form) t ∙ form_kept source f known row.0.ty right.form stmt.rhs form is row.2)

    end_kept : (text : Option EndText) (end : End) → WritesEnd source f text end
        → ((x : Operand) → Has (operands_of_end end) x → Has (operands_of f) x) → end_fits f end ≡ true
        → AreKept (places_of_end known tree.result text)
    end_kept (Some (Goto to)) (ends.Goto n) written inside fits = λ place among. absurd among
    end_kept (Some (If code a b yes_at no_at)) (ends.If op x y yes_to no_to) written inside fits =
        let first = operand_type a x written.1 (inside x (inl refl)) in
        let second = operand_type b y written.2 (inside y (inr (inl refl))) in
        kept_one (is_comparison_code code && same_type (type_of_operand known a) (type_of_operand known b)) (start_of a)
        (rw (written.0, first, second) fits)
    end_kept (Some (Return a)) (ends.Return x) written inside fits =
        kept_one (same_type (type_of_operand known a) tree.result) (start_of a)
        (rw (operand_type a x written (inside x (inl refl)), w.writes.result) fits)
    end_kept text end written inside fits = absurd written

    block_kept : (text : BlockText) → WritesBlock source f text block → AreKept (places_of_block known tree.result text)
    block_kept text written = λ place h.
        elim (has_either (flat_map (places_of_item known) text.items) (places_of_end known tree.result text.end) place h) [
          | inl front ↦
              let item = from_flat (places_of_item known) text.items place front in
              elim (has_either written.phi_items written.stmt_items item.0 (subst (λ l. Has l item.0) written.in_order item.1)) [
                | inl among ↦ let phi = beside_first (WritesPhi source f) written.phi_items block.phis written.phis item.0 among in
                    phi_kept item.0 phi.0 phi.1 phi.2 place item.2
                | inr among ↦ let stmt = beside_first (WritesStmt source f) written.stmt_items block.stmts written.stmts item.0 among in
                    stmt_kept item.0 stmt.0 stmt.1 stmt.2 place item.2
              ]
          | inr end ↦ end_kept text.end block.end written.end (end_operand f block there) (end_fits_here f block there w.well) place end
        ]

  function_kept : AreKept (places_of_function source tree)
  function_kept = λ place among.
      let text = from_flat (places_of_block known tree.result) tree.blocks place among in
      let block = beside_first (WritesBlock source f) tree.blocks f.blocks w.writes.blocks text.0 text.1 in
      block_kept block.0 block.1 text.0 block.2 place text.2

-- ---- the whole

pub types_sound : (source : List ℕ) (trees : List FunctionText) (fs : List Function) → AllZip (WritesWell source) trees fs
    → types_fault source trees ≡ None
unfolding types_fault
types_sound source trees fs written = none_at_each (flat_map (places_of_function source) trees) (λ place among.
    let tree = from_flat (places_of_function source) trees place among in
    let f = beside_first (WritesWell source) trees fs written tree.0 tree.1 in
    function_kept source tree.0 f.0 f.2 place tree.2)

pub trees_stand : (source : List ℕ) (trees : List FunctionText) (fs : List Function) → AllZip (WritesWell source) trees fs
    → AllZip (StandsFor source) trees fs
trees_stand source trees fs written =
    paired_by (WritesWell source) (StandsFor source) trees fs written
    (λ tree f w. record { whole = function_is source tree f w; names = names_stand source tree f w })
