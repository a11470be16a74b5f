-- A function is what the tree that writes it stands for.
use Rattle.std.proofs.Common.{◌≡◌, ℕ, ◌<◌, Option, Some, List, [], ◌∷◌, ◌++◌, map, refl, ap, ◌∙◌, inl, inr}
use Rattle.std.specs.List.{flat_map}
use Rattle.std.proofs.lemmas.Grind.{flat_map-append}
use Rattle.std.proofs.lemmas.List.{append-nil}
use Rattle.pm_wide.specs.Types.{Ty}
use Rattle.pm_wide.specs.declared.operand.Operand.{Operand}
use Rattle.gim_ast.specs.declared.function.Function.{Function}
use Rattle.gim_ast.specs.declared.function.Block.{Block}
use Rattle.gim_ast.specs.declared.function.Decl.{Decl}
use Rattle.gim_ast.specs.declared.function.Phi.{Phi}
use Rattle.gim_ast.specs.declared.function.Stmt.{Stmt}
use Rattle.gim_ast.specs.declared.function.Rhs.{Rhs}
use Rattle.gim_ast.specs.declared.function.Rhs.TheVariants as sides
use Rattle.gim_ast.specs.declared.function.End.{End}
use Rattle.gim_ast.specs.declared.function.End.TheVariants as ends
use Rattle.gim_ast.specs.Functions.{operands_of, operands_of_rhs, operands_of_end, targets_of}
use Rattle.gim_printer.specs.Printing.{type_of_name}
use Rattle.pm_places.specs.declared.span.Span.{Span}
use Rattle.gim_text.specs.declared.limits.TheConstants.{NUMBER_LIMIT}
use Rattle.gim_text.specs.declared.tree.ArgText.{ArgText}
use Rattle.gim_text.specs.declared.tree.BlockText.{BlockText}
use Rattle.gim_text.specs.declared.tree.DeclText.{DeclText}
use Rattle.gim_text.specs.declared.tree.EndText.{EndText}
use Rattle.gim_text.specs.declared.tree.EndText.TheVariants.{Goto, If, Return}
use Rattle.gim_text.specs.declared.tree.FunctionText.{FunctionText}
use Rattle.gim_text.specs.declared.tree.ItemText.{ItemText}
use Rattle.gim_text.specs.declared.tree.ItemText.TheVariants as items
use Rattle.gim_text.specs.declared.tree.RightForm.{RightForm}
use Rattle.gim_text.specs.declared.tree.RightForm.TheVariants.{Copy, Unary, Cast, Binary, Choice}
use Rattle.pm_places.specs.Spans.{text_of}
use Rattle.gim_typing.specs.Operands.{rhs_of}
use Rattle.gim_typing.specs.Declarations.{Declarations, declarations_of, number_of}
use Rattle.gim_making.specs.Standing.{made}
use Rattle.gim_making.specs.Trees.{block_number, arg_of, phi_of, stmt_of, end_of, block_of, decl_of}
use Rattle.gim_text.proofs.Membership.{Has, has_map}
use Rattle.gim_round_trip.proofs.tree.SmallNumbers.{AreSmallNumbers, number_of_decimal, number_small, targets_small, phi_blocks_small}
use Rattle.gim_round_trip.proofs.tree.WellFormedParts.{phi_operand, stmt_operand, end_operand, phi_row, stmt_row}
use Rattle.gim_round_trip.proofs.tree.KnownNames.{known_name, operand_is}
use Rattle.gim_round_trip.proofs.tree.PairedLists.{map_is, flat_map_is, nothing_is}
use Rattle.gim_round_trip.proofs.tree.Writes.{WritesWell, WritesForm, WritesArg, WritesPhi}
use Rattle.gim_round_trip.proofs.tree.Writes.{WritesStmt, WritesEnd, WritesBlock, WritesDecl}
use Rattle.gim_round_trip.proofs.tree.Writes.{NamesBlock}

block_number_is : (source : List ℕ) (at : Span) (n : ℕ) → NamesBlock source at n → n < NUMBER_LIMIT → block_number source at ≡ n
block_number_is source at n names small = ap number_of names ∙ number_of_decimal n small

decl_is : (source : List ℕ) (text : DeclText) (decl : Decl) → WritesDecl source text decl → decl_of source text ≡ decl
decl_is source text decl written = rw (written.0, written.1) refl

module _ (source : List ℕ) (tree : FunctionText) (f : Function) (w : WritesWell source tree f) where
  -- what the declarations of the tree give
  abbrev known : Declarations
  known = declarations_of source tree

  pub rhs_is : (t : Ty) (form : RightForm) (rhs : Rhs) → WritesForm source f t form rhs
      → ((x : Operand) → Has (operands_of_rhs rhs) x → Has (operands_of f) x) → rhs_of known form ≡ rhs
  rhs_is t (Copy a) (sides.Copy x) written inside = rw (operand_is source tree f w a x written (inside x (inl refl))) refl
  rhs_is t (Unary code a) (sides.Op op (x ∷ [])) written inside =
      rw (written.0, operand_is source tree f w a x written.1 (inside x (inl refl))) refl
  rhs_is t (Cast to a) (sides.Op op (x ∷ [])) written inside =
      rw (written.0, operand_is source tree f w a x written.2 (inside x (inl refl))) refl
  rhs_is t (Binary code a b) (sides.Op op (x ∷ y ∷ [])) written inside =
      rw (
        written.0,
        operand_is source tree f w a x written.1 (inside x (inl refl)),
        operand_is source tree f w b y written.2 (inside y (inr (inl refl))),
      ) refl
  rhs_is t (Choice a b c) (sides.Op op (x ∷ y ∷ z ∷ [])) written inside =
      rw (
        written.0,
        operand_is source tree f w a x written.1 (inside x (inl refl)),
        operand_is source tree f w b y written.2 (inside y (inr (inl refl))),
        operand_is source tree f w c z written.3 (inside z (inr (inr (inl refl)))),
      ) refl
  rhs_is t form rhs written inside = absurd written

  end_is : (text : Option EndText) (end : End) → WritesEnd source f text end
      → ((x : Operand) → Has (operands_of_end end) x → Has (operands_of f) x)
      → AreSmallNumbers (targets_of end) → end_of known text ≡ end
  end_is (Some (Goto to)) (ends.Goto n) written inside small = rw (block_number_is source to n written (small n (inl refl))) refl
  end_is (Some (If code a b yes_at no_at)) (ends.If op x y yes_to no_to) written inside small =
      rw (
        written.0,
        operand_is source tree f w a x written.1 (inside x (inl refl)),
        operand_is source tree f w b y written.2 (inside y (inr (inl refl))),
        block_number_is source yes_at yes_to written.3 (small yes_to (inl refl)),
        block_number_is source no_at no_to written.4 (small no_to (inr (inl refl))),
      ) refl
  end_is (Some (Return a)) (ends.Return x) written inside small = rw (operand_is source tree f w a x written (inside x (inl refl))) refl
  end_is text end written inside small = absurd written

  module _ (block : Block) (there : Has f.blocks block) where
    arg_is : (phi : Phi) → Has block.phis phi → (arg : ArgText) (x : ℕ × Operand) → Has phi.args x
        → WritesArg source f arg x → arg_of known arg ≡ x
    arg_is phi here arg x among written =
        let small = phi_blocks_small f w.within w.well block there phi here x.0 (has_map (λ (a : ℕ × Operand). a.0) phi.args x among) in
        rw (
          block_number_is source arg.from x.0 written.0 small,
          operand_is source tree f w arg.operand x.1 written.1
              (phi_operand f block there phi here x among),
        ) refl

    phi_is : (item : ItemText) (phi : Phi) → Has block.phis phi → WritesPhi source f item phi → phi_of known item ≡ phi ∷ []
    phi_is (items.Stmt name right) phi here written = absurd written
    phi_is (items.Phi name args) phi here written =
        let row = phi_row f block there w.well phi here in
        rw (
          (known_name source tree f w name phi.name row.0 written.0 row.1).version,
          map_is (WritesArg source f) (arg_of known) args phi.args written.1 (arg_is phi here),
        ) refl

    stmt_is : (item : ItemText) (stmt : Stmt) → Has block.stmts stmt → WritesStmt source f item stmt → stmt_of known item ≡ stmt ∷ []
    stmt_is (items.Phi name args) stmt here written = absurd written
    stmt_is (items.Stmt name right) stmt here written =
        let row = stmt_row f block there w.well stmt here in
        rw (
          (known_name source tree f w name stmt.name row.0 written.0 row.1).version,
          rhs_is (type_of_name f stmt.name) right.form stmt.rhs written.1 (stmt_operand f block there stmt here),
        ) refl

    no_stmt : (item : ItemText) (phi : Phi) → WritesPhi source f item phi → stmt_of known item ≡ []
    no_stmt (items.Phi name args) phi written = refl
    no_stmt (items.Stmt name right) phi written = absurd written

    no_phi : (item : ItemText) (stmt : Stmt) → WritesStmt source f item stmt → phi_of known item ≡ []
    no_phi (items.Phi name args) stmt written = absurd written
    no_phi (items.Stmt name right) stmt written = refl

    block_is : (text : BlockText) → WritesBlock source f text block → block_of known text ≡ block
    block_is text written =
        let number : number_of (text_of source text.number) ≡ block.number = ap number_of written.number
        ∙ number_of_decimal block.number (number_small f w.within block there) in
        let phis : flat_map (phi_of known) text.items ≡ block.phis =
        ap (flat_map (phi_of known)) written.in_order ∙ flat_map-append (phi_of known) written.phi_items written.stmt_items
        ∙ ap (λ l. flat_map (phi_of known) written.phi_items ++ l)
        (nothing_is (WritesStmt source f) (phi_of known) written.stmt_items block.stmts written.stmts no_phi)
        ∙ append-nil (flat_map (phi_of known) written.phi_items)
        ∙ flat_map_is (WritesPhi source f) (phi_of known) written.phi_items block.phis written.phis phi_is in
        let stmts : flat_map (stmt_of known) text.items ≡ block.stmts =
        ap (flat_map (stmt_of known)) written.in_order ∙ flat_map-append (stmt_of known) written.phi_items written.stmt_items
        ∙ ap (λ l. l ++ flat_map (stmt_of known) written.stmt_items)
        (nothing_is (WritesPhi source f) (stmt_of known) written.phi_items block.phis written.phis no_stmt)
        ∙ flat_map_is (WritesStmt source f) (stmt_of known) written.stmt_items block.stmts written.stmts stmt_is in
        rw (
          number,
          phis,
          stmts,
          end_is text.end block.end written.end (end_operand f block there)
              (targets_small f w.within w.well block there),
        ) refl

  pub function_is : f ≡ made source tree f.names
  unfolding made
  function_is =
      let params : map (decl_of source) tree.params ≡ f.params =
      map_is (WritesDecl source) (decl_of source) tree.params f.params w.writes.params
      (λ text decl there. decl_is source text decl) in
      let decls : map (decl_of source) tree.decls ≡ f.decls = map_is (WritesDecl source) (decl_of source) tree.decls f.decls w.writes.decls
      (λ text decl there. decl_is source text decl) in
      let blocks : map (block_of known) tree.blocks ≡ f.blocks =
      map_is (WritesBlock source f) (block_of known) tree.blocks f.blocks w.writes.blocks
      (λ text block there. block_is block there text) in
      rw (w.writes.name, w.writes.result, params, decls, blocks) refl
