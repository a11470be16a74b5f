-- The operands of a function that is made hold, and where no type is at fault each phi, statement and end fits.
use Rattle.std.proofs.Common.{◌≡◌, ℕ, ◌^◌, Bool, true, false, cond, Option, Some, None}
use Rattle.std.proofs.Common.{List, map, refl, ap, subst, ◌∙◌, inl, inr}
use Rattle.std.specs.Prelude.{◌&&◌, nat_lt, ℤ}
use Rattle.std.specs.List.{flat_map, list_all}
use Rattle.std.specs.Option.{option_map_or, unwrap_or}
use Rattle.std.proofs.lemmas.Bool.{and_parts, and_from, lt-ltb}
use Rattle.pm_wide.specs.Types.{Ty, same_type, in_range, word, int_type, unsigned_int_type, long_type, unsigned_long_type}
use Rattle.pm_wide.specs.declared.operand.Operand.{Operand}
use Rattle.pm_wide.proofs.Words.{word-below}
use Rattle.gim_ast.specs.declared.function.Block.{Block}
use Rattle.gim_ast.specs.declared.function.NameRow.{NameRow}
use Rattle.gim_ast.specs.declared.function.Phi.{Phi}
use Rattle.gim_ast.specs.declared.function.Stmt.{Stmt}
use Rattle.gim_ast.specs.Functions.{operands_of, row_of}
use Rattle.lexing.specs.Numbers.{number_after, leading_digits}
use Rattle.gim_ast.specs.WellFormed.{type_of, is_type_of, is_word, operand_holds, rhs_fits}
use Rattle.gim_ast.specs.WellFormed.{phi_fits, stmt_fits, end_fits, block_fits, operands_hold}
use Rattle.pm_ops.specs.Codes.{is_comparison_code}
use Rattle.pm_places.specs.declared.span.Span.{Span}
use Rattle.gim_text.specs.declared.fault.GimpleFault.{GimpleFault}
use Rattle.gim_text.specs.declared.tree.BlockText.{BlockText}
use Rattle.gim_text.specs.declared.tree.EndText.{EndText}
use Rattle.gim_text.specs.declared.tree.EndText.TheVariants.{Goto, If, Return}
use Rattle.gim_text.specs.declared.tree.FunctionText.{FunctionText}
use Rattle.gim_text.specs.declared.tree.ItemText.{ItemText}
use Rattle.gim_text.specs.declared.tree.ItemText.TheVariants as items
use Rattle.gim_text.specs.declared.tree.LiteralText.{LiteralText}
use Rattle.gim_text.specs.declared.tree.LiteralType.{LiteralType}
use Rattle.gim_text.specs.declared.tree.LiteralType.TheVariants.{Plain, Unsigned, Long, UnsignedLong, Written}
use Rattle.gim_text.specs.declared.tree.OperandText.{OperandText}
use Rattle.gim_text.specs.declared.tree.OperandText.TheVariants as texts
use Rattle.gim_text.specs.declared.tree.RightForm.{RightForm}
use Rattle.gim_text.specs.declared.tree.RightForm.TheVariants.{Copy, Unary, Cast, Binary, Choice}
use Rattle.pm_places.specs.FirstFaults.{first_fault}
use Rattle.gim_text.specs.Literals.{signed, literal_type, literal_word}
use Rattle.pm_places.specs.Spans.{text_of}
use Rattle.gim_text.specs.declared.occurrence.Occurrence.TheVariants.{Assigned, Used, Default, Constant}
use Rattle.gim_text.specs.Occurrences.{occurrences_of_item, occurrences_of}
use Rattle.gim_names.specs.KeepsNames.{KeepsNames}
use Rattle.gim_making.specs.declared.places.NamePlace.{NamePlace}
use Rattle.gim_typing.specs.Operands.{no_word, operand_of, rhs_of}
use Rattle.gim_typing.specs.Declarations.{Declarations, declarations_of, type_of_name, number_of, version_of_name, version_by_parts}
use Rattle.gim_making.specs.Names.{AreNames, first_of, plain, default_at, names_in, named_rows}
use Rattle.gim_making.specs.Standing.{made}
use Rattle.gim_making.specs.Trees.{arg_of, phi_of, stmt_of, end_of, block_of}
use Rattle.gim_typing.specs.Types.{type_of_operand, form_fits, start_of, mismatch, place_of_arg}
use Rattle.gim_typing.specs.Types.{places_of_item, places_of_end, places_of_block, places_of_function}
use Rattle.gim_making.specs.Written.{is_written, type_is_written, operands_in, IsWritten}
use Rattle.gim_text.proofs.Membership.{Has, has_left, has_right, has_map, from_map, has_flat, from_flat, all_from_has, all_has}
use Rattle.gim_making.proofs.MadeOperands.{ArePhisFirst, made_operands}
use Rattle.gim_making.proofs.Occurring.{in_item, operand_occurs}
use Rattle.gim_making.proofs.NameParts.{type_itself}
use Rattle.gim_making.proofs.NamePlaces.{AreSmall, in_names, place_facts, row_at, place_row}
use Rattle.gim_making.proofs.NameRows.{found_row}
use Rattle.gim_shape.proofs.PlacesWithoutFault.{no_fault, none_at_each}

-- ---- no fault

-- each function of a file without a fault has none
pub each_fits : (source : List ℕ) (functions : List FunctionText)
    → first_fault (flat_map (places_of_function source) functions) ≡ None → (tree : FunctionText) → Has functions tree
    → first_fault (places_of_function source tree) ≡ None
each_fits source functions e tree there =
    none_at_each (places_of_function source tree)
    (λ o h. no_fault (flat_map (places_of_function source) functions) e o
    (has_flat (places_of_function source) functions tree o there h))

fits_by : (b : Bool) (at : Span) → mismatch b at ≡ None → b ≡ true
fits_by true at e = refl
fits_by false at e = absurd cc

-- ---- rows of names

row_by : (o : Option NameRow) (row : NameRow) (p : NameRow → Bool) → o ≡ Some row → p row ≡ true → option_map_or p o false ≡ true
row_by o row p is h = ap (λ x. option_map_or p x false) is ∙ h

-- the row of a name where it stands
pub found : (source : List ℕ) (tree : FunctionText) (names : List NameRow) → KeepsNames source tree
    → AreSmall source tree → AreNames (named_rows source tree) names → (place : NamePlace)
    → Has (names_in source tree) place
    → (row : NameRow) × (row_of (made source tree names) (version_of_name source place.at) ≡ Some row)
    × (row.ty ≡ type_of_name (declarations_of source tree) place.at)
unfolding made row_of
found source tree names kept small are place there =
    let f = place_facts source tree kept small place there in
    let row = row_at source tree place f in
    let version : version_of_name source place.at ≡ number_of f.digits = ap version_by_parts f.parts in
    (row, ap (λ v. first_of v names) version ∙ found_row source tree names kept small are row (place_row source tree place f there), refl)

name_holds : (source : List ℕ) (tree : FunctionText) (names : List NameRow) → KeepsNames source tree
    → AreSmall source tree → AreNames (named_rows source tree) names → (place : NamePlace)
    → Has (names_in source tree) place
    → option_map_or (λ (row : NameRow). same_type row.ty (type_of_name (declarations_of source tree) place.at))
    (row_of (made source tree names) (version_of_name source place.at)) false ≡ true
name_holds source tree names kept small are place there =
    let t = type_of_name (declarations_of source tree) place.at in
    let r = found source tree names kept small are place there in
    row_by (row_of (made source tree names) (version_of_name source place.at)) r.0
    (λ (row : NameRow). same_type row.ty t) r.1 (ap (λ u. same_type u t) r.2 ∙ type_itself t)

-- ---- constants

plain_type : (b : Bool) (t u : Ty) → is_type_of t ≡ true → is_type_of u ≡ true → is_type_of (cond b t u) ≡ true
plain_type true t u h k = h
plain_type false t u h k = k

literal_has_type : (ty : LiteralType) (z : ℤ) → type_is_written ty ≡ true → is_type_of (literal_type ty z) ≡ true
literal_has_type Plain z h = plain_type (in_range int_type z) int_type long_type refl refl
literal_has_type Unsigned z h = plain_type (in_range unsigned_int_type z) unsigned_int_type unsigned_long_type refl refl
literal_has_type Long z h = refl
literal_has_type UnsignedLong z h = refl
literal_has_type (Written t) z h = h

word_by_range : (b : Bool) (t : Ty) (z : ℤ) → is_type_of t ≡ true → is_word (unwrap_or (cond b (Some (word t z)) None) no_word) ≡ true
word_by_range true t z h =
    and_from (is_type_of t) (nat_lt (word t z).bits (2 ^ t.width)) h
    (lt-ltb (word t z).bits (2 ^ t.width) (word-below t z))
word_by_range false t z h = refl

literal_is_word : (source : List ℕ) (literal : LiteralText) → type_is_written literal.ty ≡ true
    → is_word (unwrap_or (literal_word source literal) no_word) ≡ true
unfolding literal_word
literal_is_word source literal h =
    let z = signed literal.negative (number_after 0 (leading_digits (text_of source literal.number))) in
    let t = literal_type literal.ty z in
    word_by_range (in_range t z) t z (literal_has_type literal.ty z h)

-- ---- operands

operand_of_tree : (source : List ℕ) (tree : FunctionText) (names : List NameRow) → IsWritten source tree
    → KeepsNames source tree → AreSmall source tree → AreNames (named_rows source tree) names → (a : OperandText)
    → Has (operands_in tree) a
    → operand_holds (made source tree names) (operand_of (declarations_of source tree) a) ≡ true
operand_of_tree source tree names written kept small are (texts.Name at) there =
    name_holds source tree names kept small are (plain at)
    (in_names source tree (Used at) (plain at) (operand_occurs tree (texts.Name at) there) refl)
operand_of_tree source tree names written kept small are (texts.Default at) there =
    name_holds source tree names kept small are (default_at at)
    (in_names source tree (Default at) (default_at at) (operand_occurs tree (texts.Default at) there) refl)
operand_of_tree source tree names written kept small are (texts.Literal literal) there =
    literal_is_word source literal (all_has (is_written source) (occurrences_of tree) written.occurrences
    (Constant literal) (operand_occurs tree (texts.Literal literal) there))

operands_of_tree : (source : List ℕ) (tree : FunctionText) (names : List NameRow) → IsWritten source tree
    → KeepsNames source tree → AreSmall source tree → ArePhisFirst tree → AreNames (named_rows source tree) names
    → list_all (operand_holds (made source tree names)) (operands_of (made source tree names)) ≡ true
operands_of_tree source tree names written kept small first are =
    let f = made source tree names in
    let O = operand_of (declarations_of source tree) in
    ap (list_all (operand_holds f)) (made_operands source tree names first)
    ∙ all_from_has (operand_holds f) (map O (operands_in tree)) (λ o there.
    let a = from_map O (operands_in tree) o there in
    subst (λ x. operand_holds f x ≡ true) a.2 (operand_of_tree source tree names written kept small are a.0 a.1))

-- ---- phis, statements and ends

-- the name that an item assigns stands in the tree
assigned_name : (source : List ℕ) (tree : FunctionText) (block : BlockText) (item : ItemText) (name : Span)
    → Has tree.blocks block → Has block.items item → Has (occurrences_of_item item) (Assigned name)
    → Has (names_in source tree) (plain name)
assigned_name source tree block item name in_tree in_block there =
    in_names source tree (Assigned name) (plain name) (in_item tree block item (Assigned name) in_tree in_block there)
    refl

-- a place of an item or an end is one of the function
place_in_block : (source : List ℕ) (tree : FunctionText) (block : BlockText) (o : Option GimpleFault)
    → first_fault (places_of_function source tree) ≡ None → Has tree.blocks block
    → Has (places_of_block (declarations_of source tree) tree.result block) o → o ≡ None
place_in_block source tree block o e in_tree there =
    no_fault (places_of_function source tree) e o
    (has_flat (places_of_block (declarations_of source tree) tree.result) tree.blocks block o in_tree there)

place_in_item : (source : List ℕ) (tree : FunctionText) (block : BlockText) (item : ItemText) (o : Option GimpleFault)
    → first_fault (places_of_function source tree) ≡ None → Has tree.blocks block → Has block.items item
    → Has (places_of_item (declarations_of source tree) item) o → o ≡ None
place_in_item source tree block item o e in_tree in_block there =
    let known = declarations_of source tree in
    place_in_block source tree block o e in_tree
    (has_left (flat_map (places_of_item known) block.items) (places_of_end known tree.result block.end) o
    (has_flat (places_of_item known) block.items item o in_block there))

phi_of_tree : (source : List ℕ) (tree : FunctionText) (names : List NameRow) → KeepsNames source tree
    → AreSmall source tree → AreNames (named_rows source tree) names
    → first_fault (places_of_function source tree) ≡ None
    → (block : BlockText) → Has tree.blocks block → (item : ItemText) → Has block.items item → (phi : Phi)
    → Has (phi_of (declarations_of source tree) item) phi → phi_fits (made source tree names) phi ≡ true
phi_of_tree source tree names kept small are e block in_tree (items.Stmt name right) in_block phi h = absurd h
phi_of_tree source tree names kept small are e block in_tree (items.Phi name args) in_block phi (inr h) = absurd h
phi_of_tree source tree names kept small are e block in_tree (items.Phi name args) in_block phi (inl same) =
    let known = declarations_of source tree in
    let f = made source tree names in
    let t = type_of_name known name in
    let r = found source tree names kept small are (plain name)
    (assigned_name source tree block (items.Phi name args) name in_tree in_block (inl refl)) in
    let each : list_all (λ (arg : ℕ × Operand). same_type (type_of arg.1) t) (map (arg_of known) args) ≡ true =
    all_from_has (λ (arg : ℕ × Operand). same_type (type_of arg.1) t) (map (arg_of known) args) (λ arg there.
    let a = from_map (arg_of known) args arg there in
    let fits =
    fits_by (same_type (type_of_operand known a.0.operand) t) a.0.from
    (place_in_item source tree block (items.Phi name args) (place_of_arg known t a.0) e in_tree in_block
    (has_map (place_of_arg known t) args a.0 a.1)) in
    subst (λ (x : ℕ × Operand). same_type (type_of x.1) t ≡ true) a.2 fits) in
    subst (λ (x : Phi). phi_fits f x ≡ true) same
    (row_by (row_of f (version_of_name source name)) r.0
    (λ (row : NameRow). list_all (λ (arg : ℕ × Operand). same_type (type_of arg.1) row.ty) (map (arg_of known) args))
    r.1
    (ap (λ u. list_all (λ (arg : ℕ × Operand). same_type (type_of arg.1) u) (map (arg_of known) args)) r.2 ∙ each))

form_is_rhs : (known : Declarations) (t : Ty) (form : RightForm) → form_fits known t form ≡ true → rhs_fits t (rhs_of known form) ≡ true
form_is_rhs known t (Copy a) h = h
form_is_rhs known t (Unary code a) h = h
form_is_rhs known t (Cast to a) h = (and_parts (same_type to t) (rhs_fits t (rhs_of known (Cast to a))) h).1
form_is_rhs known t (Binary code a b) h = h
form_is_rhs known t (Choice a b c) h = h

stmt_of_tree : (source : List ℕ) (tree : FunctionText) (names : List NameRow) → KeepsNames source tree
    → AreSmall source tree → AreNames (named_rows source tree) names
    → first_fault (places_of_function source tree) ≡ None
    → (block : BlockText) → Has tree.blocks block → (item : ItemText) → Has block.items item → (stmt : Stmt)
    → Has (stmt_of (declarations_of source tree) item) stmt → stmt_fits (made source tree names) stmt ≡ true
stmt_of_tree source tree names kept small are e block in_tree (items.Phi name args) in_block stmt h = absurd h
stmt_of_tree source tree names kept small are e block in_tree (items.Stmt name right) in_block stmt (inr h) = absurd h
stmt_of_tree source tree names kept small are e block in_tree (items.Stmt name right) in_block stmt (inl same) =
    let known = declarations_of source tree in
    let f = made source tree names in
    let t = type_of_name known name in
    let rhs = rhs_of known right.form in
    let r = found source tree names kept small are (plain name)
    (assigned_name source tree block (items.Stmt name right) name in_tree in_block (inl refl)) in
    let fits =
    fits_by (form_fits known t right.form) right.start
    (place_in_item source tree block (items.Stmt name right) (mismatch (form_fits known t right.form) right.start) e
    in_tree in_block (inl refl)) in
    subst (λ (x : Stmt). stmt_fits f x ≡ true) same
    (row_by (row_of f (version_of_name source name)) r.0 (λ (row : NameRow). rhs_fits row.ty rhs) r.1
    (ap (λ u. rhs_fits u rhs) r.2 ∙ form_is_rhs known t right.form fits))

end_by : (source : List ℕ) (tree : FunctionText) (names : List NameRow) (end : Option EndText)
    → ((o : Option GimpleFault) → Has (places_of_end (declarations_of source tree) tree.result end) o → o ≡ None)
    → end_fits (made source tree names) (end_of (declarations_of source tree) end) ≡ true
unfolding made
end_by source tree names None h = refl
end_by source tree names (Some (Goto to)) h = refl
end_by source tree names (Some (If code left right yes_to no_to)) h =
    let known = declarations_of source tree in
    let fits = is_comparison_code code && same_type (type_of_operand known left) (type_of_operand known right) in
    fits_by fits (start_of left) (h (mismatch fits (start_of left)) (inl refl))
end_by source tree names (Some (Return a)) h =
    let fits = same_type (type_of_operand (declarations_of source tree) a) tree.result in
    fits_by fits (start_of a) (h (mismatch fits (start_of a)) (inl refl))

block_of_tree : (source : List ℕ) (tree : FunctionText) (names : List NameRow) → KeepsNames source tree
    → AreSmall source tree → AreNames (named_rows source tree) names
    → first_fault (places_of_function source tree) ≡ None
    → (block : BlockText) → Has tree.blocks block
    → block_fits (made source tree names) (block_of (declarations_of source tree) block) ≡ true
block_of_tree source tree names kept small are e block in_tree =
    let known = declarations_of source tree in
    let f = made source tree names in
    let phis = flat_map (phi_of known) block.items in
    let stmts = flat_map (stmt_of known) block.items in
    let end = end_of known block.end in
    and_from (list_all (phi_fits f) phis && list_all (stmt_fits f) stmts) (end_fits f end)
    (and_from (list_all (phi_fits f) phis) (list_all (stmt_fits f) stmts)
    (all_from_has (phi_fits f) phis (λ phi there. let r = from_flat (phi_of known) block.items phi there in
    phi_of_tree source tree names kept small are e block in_tree r.0 r.1 phi r.2))
    (all_from_has (stmt_fits f) stmts (λ stmt there. let r = from_flat (stmt_of known) block.items stmt there in
    stmt_of_tree source tree names kept small are e block in_tree r.0 r.1 stmt r.2)))
    (end_by source tree names block.end (λ o there.
    place_in_block source tree block o e in_tree
    (has_right (flat_map (places_of_item known) block.items) (places_of_end known tree.result block.end) o there)))

pub operands : (source : List ℕ) (tree : FunctionText) (names : List NameRow) → IsWritten source tree
    → KeepsNames source tree → AreSmall source tree → ArePhisFirst tree → AreNames (named_rows source tree) names
    → first_fault (places_of_function source tree) ≡ None
    → operands_hold (made source tree names) ≡ true
unfolding made
operands source tree names written kept small first are e =
    let f = made source tree names in
    let blocks = map (block_of (declarations_of source tree)) tree.blocks in
    and_from (list_all (operand_holds f) (operands_of f)) (list_all (block_fits f) blocks)
    (operands_of_tree source tree names written kept small first are)
    (all_from_has (block_fits f) blocks (λ block there.
    let b = from_map (block_of (declarations_of source tree)) tree.blocks block there in
    subst (λ (x : Block). block_fits f x ≡ true) b.2 (block_of_tree source tree names kept small are e b.0 b.1)))
