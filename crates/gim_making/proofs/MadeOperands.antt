-- The operands of a function that is made, and the names that it assigns, are those of its tree.
use Rattle.std.proofs.Common.{◌≡◌, ℕ, Option, Some, None, List, [], ◌∷◌, ◌++◌, map, refl, sym, ap, ◌∙◌, append_assoc}
use Rattle.std.specs.List.{flat_map, filter_map}
use Rattle.std.proofs.lemmas.List.Elements.{filter_map-append}
use Rattle.std.proofs.lemmas.List.{append-nil}
use Rattle.std.proofs.lemmas.List.Concat.{flat_map_single}
use Rattle.pm_wide.specs.declared.operand.Operand.{Operand}
use Rattle.gim_ast.specs.declared.function.Phi.{Phi}
use Rattle.gim_ast.specs.declared.function.Stmt.{Stmt}
use Rattle.gim_ast.specs.declared.function.NameRow.{NameRow}
use Rattle.gim_ast.specs.Functions.{operands_of, operands_of_block, operands_of_phi, operands_of_stmt}
use Rattle.gim_ast.specs.Functions.{operands_of_rhs, operands_of_end, assigned, assigned_in, phi_name}
use Rattle.gim_ast.specs.Functions.{stmt_name}
use Rattle.gim_text.specs.declared.tree.ArgText.{ArgText}
use Rattle.gim_text.specs.declared.tree.BlockText.{BlockText}
use Rattle.gim_text.specs.declared.tree.EndText.{EndText}
use Rattle.gim_text.specs.declared.tree.EndText.TheVariants.{Goto, If, Return}
use Rattle.gim_text.specs.declared.tree.FunctionText.{FunctionText}
use Rattle.gim_text.specs.declared.tree.ItemText.{ItemText}
use Rattle.gim_text.specs.declared.tree.ItemText.TheVariants as items
use Rattle.gim_text.specs.declared.tree.RightForm.{RightForm}
use Rattle.gim_text.specs.declared.tree.RightForm.TheVariants.{Copy, Unary, Cast, Binary, Choice}
use Rattle.gim_text.specs.declared.occurrence.Occurrence.{Occurrence}
use Rattle.gim_text.specs.declared.occurrence.Occurrence.TheVariants.{Assigned}
use Rattle.gim_text.specs.Occurrences.{operands_in_right, operands_in_end, occurrences_of_item}
use Rattle.gim_text.specs.Occurrences.{occurrences_of_end, occurrences_of_block, occurrences_of}
use Rattle.gim_text.specs.Occurrences.{operand_at}
use Rattle.gim_text.proofs.OccurrenceLemmas.{filter_of_flat, operand_in, operands_back, operands_in_args}
use Rattle.gim_text.proofs.OccurrenceLemmas.{operands_at_end, said_in_blocks, IsSilent, no_operands, no_args}
use Rattle.gim_text.proofs.OccurrenceLemmas.{no_end}
use Rattle.gim_shape.specs.HasShape.{HasNoPhi, HasPhisFirst}
use Rattle.gim_typing.specs.Operands.{operand_of, rhs_of}
use Rattle.gim_typing.specs.Declarations.{Declarations, declarations_of, version_of_name}
use Rattle.gim_making.specs.Standing.{made}
use Rattle.gim_making.specs.Trees.{arg_of, phi_of, stmt_of, end_of, block_of}
use Rattle.gim_making.specs.Written.{operands_in}
use Rattle.gim_text.proofs.Membership.{Has, flat_of_map_at, flat_same, map-append, map_of_flat}

-- ---- phis before statements

abbrev pub ArePhisFirst : FunctionText → Type 0
ArePhisFirst tree = (block : BlockText) → Has tree.blocks block → HasPhisFirst block.items

no_phi_first : (list : List ItemText) → HasNoPhi list → HasPhisFirst list
no_phi_first [] h = tt
no_phi_first (items.Phi name args ∷ later) h = absurd h
no_phi_first (items.Stmt name right ∷ later) h = h

pub no_phis : (known : Declarations) (list : List ItemText) → HasNoPhi list → flat_map (phi_of known) list ≡ []
no_phis known [] h = refl
no_phis known (items.Phi name args ∷ later) h = absurd h
no_phis known (items.Stmt name right ∷ later) h = no_phis known later h

-- what phis hold and then what statements hold is what the items hold
abbrev both : {A : Type 0} → (Phi → List A) → (Stmt → List A) → Declarations → ItemText → List A
both Q R known item = flat_map Q (phi_of known item) ++ flat_map R (stmt_of known item)

in_order : {A : Type 0} (Q : Phi → List A) (R : Stmt → List A) (known : Declarations) (list : List ItemText) → HasPhisFirst list
    → flat_map Q (flat_map (phi_of known) list) ++ flat_map R (flat_map (stmt_of known) list) ≡ flat_map (both Q R known) list
in_order Q R known [] h = refl
in_order Q R known (items.Phi name args ∷ later) h =
    let phi : Phi = record { name = version_of_name known.source name; args = map (arg_of known) args } in
    let phis = flat_map Q (flat_map (phi_of known) later) in
    let stmts = flat_map R (flat_map (stmt_of known) later) in
    let regrouped : (Q phi ++ phis) ++ stmts ≡ Q phi ++ (phis ++ stmts) = simp append_assoc in
    let alone : (Q phi ++ []) ++ [] ≡ Q phi = append-nil (Q phi ++ []) ∙ append-nil (Q phi) in
    regrouped ∙ ap (λ l. Q phi ++ l) (in_order Q R known later h) ∙ ap (λ l. l ++ flat_map (both Q R known) later) (sym alone)
in_order Q R known (items.Stmt name right ∷ later) h =
    let stmt : Stmt = record { name = version_of_name known.source name; rhs = rhs_of known right.form } in
    let stmts = flat_map R (flat_map (stmt_of known) later) in
    let nothing : flat_map Q (flat_map (phi_of known) later) ≡ [] = ap (flat_map Q) (no_phis known later h) in
    ap (λ l. l ++ (R stmt ++ stmts)) nothing
    ∙ ap (λ l. R stmt ++ l) (sym (ap (λ l. l ++ stmts) nothing) ∙ in_order Q R known later (no_phi_first later h))
    ∙ ap (λ l. l ++ flat_map (both Q R known) later) (sym (append-nil (R stmt)))

-- ---- operands

args_operands : (known : Declarations) (args : List ArgText)
    → map (λ (arg : ℕ × Operand). arg.1) (map (arg_of known) args) ≡ map (operand_of known) (map operand_in args)
args_operands known [] = refl
args_operands known (arg ∷ args) = ap (λ l. operand_of known arg.operand ∷ l) (args_operands known args)

form_operands : (known : Declarations) (form : RightForm)
    → operands_of_rhs (rhs_of known form) ≡ map (operand_of known) (operands_in_right form)
form_operands known (Copy a) = refl
form_operands known (Unary code a) = refl
form_operands known (Cast t a) = refl
form_operands known (Binary code a b) = refl
form_operands known (Choice a b c) = refl

item_operands : (known : Declarations) (item : ItemText)
    → both operands_of_phi operands_of_stmt known item
    ≡ map (operand_of known) (filter_map operand_at (occurrences_of_item item))
item_operands known (items.Phi name args) =
    let l = map (λ (arg : ℕ × Operand). arg.1) (map (arg_of known) args) in
    append-nil (l ++ []) ∙ append-nil l ∙ args_operands known args ∙ ap (map (operand_of known)) (sym (operands_in_args args))
item_operands known (items.Stmt name right) =
    append-nil (operands_of_rhs (rhs_of known right.form)) ∙ form_operands known right.form
    ∙ ap (map (operand_of known)) (sym (operands_back (operands_in_right right.form)))

end_operands : (known : Declarations) (end : Option EndText)
    → operands_of_end (end_of known end) ≡ map (operand_of known) (operands_in_end end)
end_operands known None = refl
end_operands known (Some (Goto to)) = refl
end_operands known (Some (If code a b yes_to no_to)) = refl
end_operands known (Some (Return a)) = refl

block_operands : (known : Declarations) (block : BlockText) → HasPhisFirst block.items
    → operands_of_block (block_of known block)
    ≡ map (operand_of known) (filter_map operand_at (occurrences_of_block block))
block_operands known block first =
    let O = operand_of known in
    let item = λ (x : ItemText). filter_map operand_at (occurrences_of_item x) in
    let end = operands_of_end (end_of known block.end) in
    ap (λ l. l ++ end) (in_order operands_of_phi operands_of_stmt known block.items first
    ∙ flat_same (both operands_of_phi operands_of_stmt known) (λ x. map O (item x)) block.items (item_operands known)
    ∙ sym (map_of_flat O item block.items))
    ∙ ap (λ l. map O (flat_map item block.items) ++ l) (end_operands known block.end ∙ ap (map O) (sym (operands_at_end block.end)))
    ∙ sym (map-append O (flat_map item block.items) (filter_map operand_at (occurrences_of_end block.end)))
    ∙ ap (map O) (ap (λ l. l ++ filter_map operand_at (occurrences_of_end block.end))
    (sym (filter_of_flat operand_at occurrences_of_item block.items))
    ∙ sym (filter_map-append operand_at (flat_map occurrences_of_item block.items) (occurrences_of_end block.end)))

pub made_operands : (source : List ℕ) (tree : FunctionText) (names : List NameRow) → ArePhisFirst tree
    → operands_of (made source tree names) ≡ map (operand_of (declarations_of source tree)) (operands_in tree)
unfolding made operands_of
made_operands source tree names first =
    let known = declarations_of source tree in
    let O = operand_of known in
    let block = λ (x : BlockText). filter_map operand_at (occurrences_of_block x) in
    flat_of_map_at operands_of_block (block_of known) (λ x. map O (block x)) tree.blocks (λ x there. block_operands known x (first x there))
    ∙ sym (map_of_flat O block tree.blocks) ∙ ap (map O) (sym (said_in_blocks operand_at (λ at. refl) (λ at. refl) tree))

-- ---- assigned names

abbrev pub assigned_number : List ℕ → Occurrence → Option ℕ
assigned_number source (Assigned at) = Some (version_of_name source at)
assigned_number source occurrence = None

silent : (source : List ℕ) → IsSilent (assigned_number source)
silent source = record { jump = λ at. refl; used = λ at. refl; initial = λ at. refl; constant = λ literal. refl }

abbrev phi_names : Phi → List ℕ
phi_names phi = phi_name phi ∷ []

abbrev stmt_names : Stmt → List ℕ
stmt_names stmt = stmt_name stmt ∷ []

item_assigns : (known : Declarations) (item : ItemText)
    → both phi_names stmt_names known item ≡ filter_map (assigned_number known.source) (occurrences_of_item item)
item_assigns known (items.Phi name args) =
    ap (λ l. version_of_name known.source name ∷ l)
    (sym (no_args (assigned_number known.source) (silent known.source) args))
item_assigns known (items.Stmt name right) =
    ap (λ l. version_of_name known.source name ∷ l)
    (sym (no_operands (assigned_number known.source) (silent known.source) (operands_in_right right.form)))

block_assigns : (known : Declarations) (block : BlockText) → HasPhisFirst block.items
    → assigned_in (block_of known block) ≡ filter_map (assigned_number known.source) (occurrences_of_block block)
block_assigns known block first =
    let A = assigned_number known.source in
    let phis = flat_map (phi_of known) block.items in
    let stmts = flat_map (stmt_of known) block.items in
    let whole = flat_map occurrences_of_item block.items in
    ap (λ l. l ++ map stmt_name stmts) (sym (flat_map_single phi_name phis))
    ∙ ap (λ l. flat_map phi_names phis ++ l) (sym (flat_map_single stmt_name stmts))
    ∙ in_order phi_names stmt_names known block.items first
    ∙ flat_same (both phi_names stmt_names known) (λ item. filter_map A (occurrences_of_item item)) block.items (item_assigns known)
    ∙ sym (filter_of_flat A occurrences_of_item block.items)
    ∙ sym (filter_map-append A whole (occurrences_of_end block.end)
    ∙ ap (λ l. filter_map A whole ++ l) (no_end A (silent known.source) block.end) ∙ append-nil (filter_map A whole))

pub made_assigns : (source : List ℕ) (tree : FunctionText) (names : List NameRow) → ArePhisFirst tree
    → assigned (made source tree names) ≡ filter_map (assigned_number source) (occurrences_of tree)
unfolding made assigned
made_assigns source tree names first =
    let known = declarations_of source tree in
    let A = assigned_number source in
    flat_of_map_at assigned_in (block_of known) (λ block. filter_map A (occurrences_of_block block)) tree.blocks
    (λ block there. block_assigns known block (first block there))
    ∙ sym (said_in_blocks A (λ at. refl) (λ at. refl) tree)
