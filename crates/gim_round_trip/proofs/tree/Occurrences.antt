-- What occurs in a tree that writes a function says, place by place, what the parts of the function tell.
use Rattle.std.proofs.Common.{◌≡◌, ℕ, Bool, true, false, Option, Some, List, [], ◌∷◌, ◌++◌, map, refl, sym, ap, ◌∙◌}
use Rattle.std.specs.List.{AllZip, flat_map}
use Rattle.std.specs.Fmt.{decimal}
use Rattle.std.proofs.lemmas.Simd.{map-map}
use Rattle.std.proofs.lemmas.Grind.{flat_map-append}
use Rattle.pm_wide.specs.Types.{Ty, Word}
use Rattle.pm_wide.specs.declared.operand.Operand.{Operand}
use Rattle.pm_wide.specs.declared.operand.Operand.TheVariants as operands
use Rattle.gim_ast.specs.declared.function.Function.{Function}
use Rattle.gim_ast.specs.declared.function.Block.{Block}
use Rattle.gim_ast.specs.declared.function.Phi.{Phi}
use Rattle.gim_ast.specs.declared.function.Stmt.{Stmt}
use Rattle.gim_ast.specs.declared.function.Rhs.{Rhs}
use Rattle.gim_ast.specs.declared.function.Rhs.TheVariants as sides
use Rattle.gim_ast.specs.declared.function.End.{End}
use Rattle.gim_ast.specs.declared.function.End.TheVariants as ends
use Rattle.gim_ast.specs.Functions.{operands_of_rhs}
use Rattle.gim_printer.specs.Printing.{assigned_text}
use Rattle.gim_ast.specs.Readable.{is_initial}
use Rattle.gim_text.specs.declared.occurrence.Occurrence.{Occurrence}
use Rattle.gim_text.specs.declared.occurrence.Occurrence.TheVariants.{Parameter, Local, Block as BlockAt, Jump}
use Rattle.gim_text.specs.declared.occurrence.Occurrence.TheVariants.{Assigned, Used, Default, Constant}
use Rattle.gim_text.specs.declared.tree.FunctionText.{FunctionText}
use Rattle.gim_text.specs.declared.tree.BlockText.{BlockText}
use Rattle.gim_text.specs.declared.tree.ItemText.{ItemText}
use Rattle.gim_text.specs.declared.tree.ItemText.TheVariants as items
use Rattle.gim_text.specs.declared.tree.ArgText.{ArgText}
use Rattle.gim_text.specs.declared.tree.RightForm.{RightForm}
use Rattle.gim_text.specs.declared.tree.RightForm.TheVariants.{Copy, Unary, Cast, Binary, Choice}
use Rattle.gim_text.specs.declared.tree.OperandText.{OperandText}
use Rattle.gim_text.specs.declared.tree.OperandText.TheVariants as texts
use Rattle.gim_text.specs.declared.tree.EndText.{EndText}
use Rattle.gim_text.specs.declared.tree.EndText.TheVariants.{Goto, If, Return}
use Rattle.gim_text.specs.Literals.{literal_word}
use Rattle.gim_text.specs.Occurrences.{occurrence_of_parameter, occurrence_of_local, occurrence_of_operand}
use Rattle.gim_text.specs.Occurrences.{occurrences_of_argument, occurrences_of_right, occurrences_of_item}
use Rattle.gim_text.specs.Occurrences.{occurrences_of_end, occurrences_of_block, occurrences_of}
use Rattle.gim_text.specs.Texts.{block_digits}
use Rattle.pm_places.specs.Spans.{text_of}
use Rattle.gim_text.proofs.Membership.{map-append, map_of_flat}
use Rattle.gim_round_trip.proofs.tree.FunctionParts.{Part, parameter, local, head, jump, assigns, reads, parts_of_arg}
use Rattle.gim_round_trip.proofs.tree.FunctionParts.{parts_of_phi, parts_of_stmt, parts_of_end, parts_of_block}
use Rattle.gim_round_trip.proofs.tree.FunctionParts.{parts_of}
use Rattle.gim_round_trip.proofs.tree.PairedLists.{same_images, same_flat_images}
use Rattle.gim_round_trip.proofs.tree.Writes.{Writes, WritesOperand, WritesForm, WritesArg, WritesPhi}
use Rattle.gim_round_trip.proofs.tree.Writes.{WritesStmt, WritesEnd, WritesBlock, WritesDecl}

-- ---- what a part and an occurrence say

-- a name, told whether a `(D)` stands behind it, or a constant's word
pub data OperandSaying : Type 0 where
  a_name : List ℕ → Bool → OperandSaying
  a_word : Option Word → OperandSaying

-- an identifier, digits, a name or an operand
pub data Saying : Type 0 where
  a_parameter : List ℕ → Saying
  a_local : List ℕ → Saying
  a_head : List ℕ → Saying
  a_jump : List ℕ → Saying
  an_assigned : List ℕ → Saying
  an_operand : OperandSaying → Saying

abbrev pub operand_told : Function → Operand → OperandSaying
operand_told f (operands.Name x t) = a_name (assigned_text f x) (is_initial f x)
operand_told f (operands.Const word) = a_word (Some word)

abbrev pub told : Function → Part → Saying
told f (parameter decl) = a_parameter decl.ident
told f (local decl) = a_local decl.ident
told f (head n) = a_head (decimal n)
told f (jump n) = a_jump (decimal n)
told f (assigns x) = an_assigned (assigned_text f x)
told f (reads a) = an_operand (operand_told f a)

abbrev pub said : List ℕ → Occurrence → Saying
said source (Parameter at) = a_parameter (text_of source at)
said source (Local at) = a_local (text_of source at)
said source (BlockAt at) = a_head (text_of source at)
said source (Jump at) = a_jump (block_digits (text_of source at))
said source (Assigned at) = an_assigned (text_of source at)
said source (Used at) = an_operand (a_name (text_of source at) false)
said source (Default at) = an_operand (a_name (text_of source at) true)
said source (Constant literal) = an_operand (a_word (literal_word source literal))

module _ (source : List ℕ) (f : Function) where
  -- the occurrences say what the parts tell
  abbrev Say : List Occurrence → List Part → Type 0
  Say os ps = map (said source) os ≡ map (told f) ps

  both_say : (os us : List Occurrence) (ps qs : List Part) → Say os ps → Say us qs → Say (os ++ us) (ps ++ qs)
  both_say os us ps qs first second = map-append (said source) os us ∙ ap (λ l. l ++ map (said source) us) first
      ∙ ap (λ l. map (told f) ps ++ l) second ∙ sym (map-append (told f) ps qs)

  all_say : {X Y : Type 0} (R : X → Y → Type 0) (v : X → List Occurrence) (u : Y → List Part) (xs : List X) (ys : List Y)
      → ((x : X) (y : Y) → R x y → Say (v x) (u y)) → AllZip R xs ys → Say (flat_map v xs) (flat_map u ys)
  all_say R v u xs ys each written = map_of_flat (said source) v xs
      ∙ same_flat_images R (λ x. map (said source) (v x)) (λ y. map (told f) (u y)) xs ys each written ∙ sym (map_of_flat (told f) u ys)

  each_says : {X Y : Type 0} (R : X → Y → Type 0) (v : X → Occurrence) (u : Y → Part) (xs : List X) (ys : List Y)
      → ((x : X) (y : Y) → R x y → said source (v x) ≡ told f (u y)) → AllZip R xs ys → Say (map v xs) (map u ys)
  each_says R v u xs ys each written =
      map-map (said source) v xs ∙ same_images R (λ x. said source (v x)) (λ y. told f (u y)) xs ys each written
      ∙ sym (map-map (told f) u ys)

  operand_says : (a : OperandText) (x : Operand) → WritesOperand source f a x → said source (occurrence_of_operand a) ≡ told f (reads x)
  operand_says (texts.Name at) (operands.Name x t) w = rw (w.0, w.1) refl
  operand_says (texts.Default at) (operands.Name x t) w = rw (w.0, w.1) refl
  operand_says (texts.Literal literal) (operands.Const word) w = ap (λ word. an_operand (a_word word)) w
  operand_says a x w = absurd w

  form_says : (t : Ty) (form : RightForm) (rhs : Rhs) → WritesForm source f t form rhs
      → Say (occurrences_of_right form) (map reads (operands_of_rhs rhs))
  form_says t (Copy a) (sides.Copy x) w = rw (operand_says a x w) refl
  form_says t (Unary code a) (sides.Op op (x ∷ [])) w = rw (operand_says a x w.1) refl
  form_says t (Cast to a) (sides.Op op (x ∷ [])) w = rw (operand_says a x w.2) refl
  form_says t (Binary code a b) (sides.Op op (x ∷ y ∷ [])) w = rw (operand_says a x w.1, operand_says b y w.2) refl
  form_says t (Choice a b c) (sides.Op op (x ∷ y ∷ z ∷ [])) w = rw (operand_says a x w.1, operand_says b y w.2, operand_says c z w.3) refl
  form_says t form rhs w = absurd w

  argument_says : (arg : ArgText) (x : ℕ × Operand) → WritesArg source f arg x → Say (occurrences_of_argument arg) (parts_of_arg x)
  argument_says arg x w = rw (w.0, operand_says arg.operand x.1 w.1) refl

  phi_says : (item : ItemText) (phi : Phi) → WritesPhi source f item phi → Say (occurrences_of_item item) (parts_of_phi phi)
  phi_says (items.Stmt name right) phi w = absurd w
  phi_says (items.Phi name args) phi w = rw (w.0) (ap (λ l. an_assigned (assigned_text f phi.name) ∷ l)
      (all_say (WritesArg source f) occurrences_of_argument parts_of_arg args phi.args argument_says w.1))

  stmt_says : (item : ItemText) (stmt : Stmt) → WritesStmt source f item stmt → Say (occurrences_of_item item) (parts_of_stmt stmt)
  stmt_says (items.Phi name args) stmt w = absurd w
  stmt_says (items.Stmt name right) stmt w =
      rw (w.0) (ap (λ l. an_assigned (assigned_text f stmt.name) ∷ l) (form_says _ right.form stmt.rhs w.1))

  end_says : (text : Option EndText) (end : End) → WritesEnd source f text end → Say (occurrences_of_end text) (parts_of_end end)
  end_says (Some (Goto to)) (ends.Goto n) w = rw w refl
  end_says (Some (If code a b yes_to no_to)) (ends.If op x y m n) w = rw (operand_says a x w.1, operand_says b y w.2, w.3, w.4) refl
  end_says (Some (Return a)) (ends.Return x) w = rw (operand_says a x w) refl
  end_says text end w = absurd w

  block_says : (text : BlockText) (block : Block) → WritesBlock source f text block → Say (occurrences_of_block text) (parts_of_block block)
  block_says text block w =
      let phis = all_say (WritesPhi source f) occurrences_of_item parts_of_phi w.phi_items block.phis phi_says w.phis in
      let stmts = all_say (WritesStmt source f) occurrences_of_item parts_of_stmt w.stmt_items block.stmts stmt_says w.stmts in
      let in_order : flat_map occurrences_of_item text.items ≡ flat_map occurrences_of_item w.phi_items
      ++ flat_map occurrences_of_item w.stmt_items =
      ap (flat_map occurrences_of_item) w.in_order ∙ flat_map-append occurrences_of_item w.phi_items w.stmt_items in
      let lines : Say (flat_map occurrences_of_item text.items)
      (flat_map parts_of_phi block.phis ++ flat_map parts_of_stmt block.stmts) = ap
      (map (said source)) in_order ∙ both_say _ _ _ _ phis stmts in
      both_say (BlockAt text.number ∷ flat_map occurrences_of_item text.items) (occurrences_of_end text.end)
      (head block.number ∷ (flat_map parts_of_phi block.phis ++ flat_map parts_of_stmt block.stmts)) (parts_of_end block.end)
      (rw (w.number) (ap (λ l. a_head (decimal block.number) ∷ l) lines)) (end_says text.end block.end w.end)

  pub occurrences_say : (tree : FunctionText) → Writes source tree f → Say (occurrences_of tree) (parts_of f)
  occurrences_say tree w =
      let params =
      each_says (WritesDecl source) occurrence_of_parameter parameter tree.params f.params
      (λ decl d h. ap a_parameter h.0) w.params in
      let locals = each_says (WritesDecl source) occurrence_of_local local tree.decls f.decls (λ decl d h. ap a_local h.0) w.decls in
      both_say (map occurrence_of_parameter tree.params ++ map occurrence_of_local tree.decls) (flat_map occurrences_of_block tree.blocks)
      (map parameter f.params ++ map local f.decls) (flat_map parts_of_block f.blocks)
      (both_say _ _ _ _ params locals) (all_say (WritesBlock source f) occurrences_of_block parts_of_block tree.blocks
      f.blocks block_says w.blocks)
