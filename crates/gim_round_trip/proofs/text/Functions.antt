-- The printed functions are read as these.
use Rattle.std.proofs.Common.{◌≡◌, ℕ, true, List, [], ◌∷◌, ◌++◌, map, codes, inl, refl, sym}
use Rattle.std.specs.List.{flat_map, AllZip}
use Rattle.std.proofs.lemmas.Bool.{and_parts}
use Rattle.std.proofs.lemmas.List.{append_assoc, append-nil}
use Rattle.gim_ast.specs.declared.function.Function.{Function}
use Rattle.gim_ast.specs.declared.function.Decl.{Decl}
use Rattle.gim_ast.specs.Identifiers.{is_identifier}
use Rattle.gim_printer.specs.Printing.{line, listed, type_text, declared_text, decl_line, block_text, head_text, function_text}
use Rattle.gim_ast.specs.WellFormed.{IsWellFormed, ident_of}
use Rattle.pm_places.specs.Spans.{text_of}
use Rattle.pm_places.specs.declared.span.Span.{Span}
use Rattle.gim_text.specs.declared.token.Keyword.TheVariants as keywords
use Rattle.gim_text.specs.declared.token.Mark.TheVariants as marks
use Rattle.gim_text.specs.declared.tree.DeclText.{DeclText}
use Rattle.gim_text.specs.declared.tree.BlockText.{BlockText}
use Rattle.gim_text.specs.declared.tree.FunctionText.{FunctionText}
use Rattle.gim_text.proofs.Membership.{Has, has_left, has_right, has_map, all_has}
use Rattle.gim_words.specs.Parentheses.{none_left}
use Rattle.gim_statements.specs.Grammar.{SpellsBlock}
use Rattle.gim_syntax.specs.Grammar.{SpellsTyped, SpellsDecl, SpellsParams, HoldsSsa}
use Rattle.gim_syntax.specs.Grammar.{SpellsHead, SpellsParamsBetween, SpellsBody}
use Rattle.gim_syntax.specs.Grammar.{SpellsFunction}
use Rattle.gim_round_trip.specs.ReadBack.{IsWithinLimits}
use Rattle.gim_round_trip.proofs.text.Prints.{any_end, word_end, Prints, joined, seen, blanks_before, blanks_after}
use Rattle.gim_round_trip.proofs.text.Tokens.{identifier_prints, mark_prints, a_mark_prints, a_keyword_prints, ssa_word_prints}
use Rattle.gim_round_trip.proofs.text.Operands.{type_prints, declared_prints}
use Rattle.gim_round_trip.proofs.text.Sequences.{Quiet, lead, trail, told, many, nothing_prints, comma_list, quiet_semicolon}
use Rattle.gim_round_trip.proofs.text.Lines.{decl_type}
use Rattle.gim_round_trip.proofs.text.Blocks.{block_prints}
use Rattle.gim_round_trip.proofs.tree.Writes.{WritesDecl, WritesBlock, Writes}

-- ---- declarations

decl_identifier : (f : Function) (decl : Decl) → IsWellFormed f → Has (f.params ++ f.decls) decl → is_identifier decl.ident ≡ true
decl_identifier f decl well there =
    let identifiers = (and_parts _ _ (and_parts _ _ (and_parts _ _ well.declarations).0).0).1 in
    all_has is_identifier (map ident_of (f.params ++ f.decls)) identifiers decl.ident (has_map ident_of (f.params ++ f.decls) decl there)

name_identifier : (f : Function) → IsWellFormed f → is_identifier f.name ≡ true
name_identifier f well = (and_parts _ _ (and_parts _ _ (and_parts _ _ well.declarations).0).0).0

typed_prints : (source : List ℕ) (f : Function) (decl : Decl) → IsWellFormed f → Has (f.params ++ f.decls) decl
    → Prints source word_end SpellsTyped (λ (tree : DeclText). WritesDecl source tree decl) (declared_text decl)
typed_prints source f decl well there = declared_prints source decl (decl_type f decl well there) (decl_identifier f decl well there)

-- a local on its line
decl_prints : (source : List ℕ) (f : Function) (decl : Decl) → IsWellFormed f → Has f.decls decl
    → Prints source any_end SpellsDecl (λ (tree : DeclText). WritesDecl source tree decl) (decl_line decl)
unfolding decl_line
decl_prints source f decl well there =
    let typed = typed_prints source f decl well (has_right f.params f.decls decl there) in
    blanks_after (10 ∷ []) refl (λ rest. refl) (blanks_before (codes "  ") refl (trail typed (λ rest. refl) (quiet_semicolon source)))

params_print : (source : List ℕ) (params : List Decl)
    → ((decl : Decl) → Has params decl → Prints source word_end SpellsTyped
    (λ (tree : DeclText). WritesDecl source tree decl) (declared_text decl))
    → Prints source word_end SpellsParams (λ (trees : List DeclText). AllZip (WritesDecl source) trees params) (listed declared_text params)
params_print source [] each = nothing_prints source word_end [] (inl refl) tt
params_print source (param ∷ params) each =
    seen (comma_list source SpellsTyped (WritesDecl source) declared_text param params each)
    (λ trees. trees.0 ∷ trees.1) (λ trees w is h. h) (λ trees is. is)

between_print : (source : List ℕ) (f : Function) → IsWellFormed f
    → Prints source any_end SpellsParamsBetween (λ (trees : List DeclText). AllZip (WritesDecl source) trees f.params)
    (codes " (" ++ (listed declared_text f.params ++ codes ")"))
between_print source f well =
    let params = params_print source f.params (λ decl there. typed_prints source f decl well (has_left f.params f.decls decl there)) in
    blanks_before (codes " ") refl (lead (a_mark_prints source marks.Open refl) (λ rest. tt)
    (trail params (λ rest. refl) (a_mark_prints source marks.Close refl)))

-- ---- the head

options_print : (source : List ℕ) → Quiet source word_end HoldsSsa (codes "ssa")
options_print source =
    seen (ssa_word_prints source) (λ u. u)
    (λ u w is h. ([], w, none_left refl, (w, [], h, none_left refl, sym (append-nil w)), refl)) (λ u is. is)

head_prints : (source : List ℕ) (f : Function) → IsWellFormed f
    → Prints source word_end (λ (name : Span). SpellsHead f.result name) (λ name. text_of source name ≡ f.name)
    (type_text f.result ++ (codes " __GIMPLE (ssa)" ++ (10 ∷ f.name)))
head_prints source f well =
    let name = blanks_before (10 ∷ []) refl (identifier_prints source f.name (name_identifier f well)) in
    let options = lead (options_print source) (λ rest. refl) (lead (a_mark_prints source marks.Close refl) (λ rest. tt) name) in
    let opened =
    lead (a_keyword_prints source keywords.Gimple) (λ rest. refl)
    (blanks_before (codes " ") refl (lead (a_mark_prints source marks.Open refl) (λ rest. tt) options)) in
    lead (type_prints source f.result (and_parts _ _ well.types).0) (λ rest. refl) (blanks_before (codes " ") refl opened)

-- ---- the body

abbrev WritesBody : List ℕ → Function → List DeclText × (List BlockText × Span) → Type 0
WritesBody source f body = AllZip (WritesDecl source) body.0 f.decls × AllZip (WritesBlock source f) body.1.0 f.blocks

body_prints : (source : List ℕ) (f : Function) → IsWellFormed f → IsWithinLimits f
    → Prints source any_end (λ (body : List DeclText × (List BlockText × Span)). SpellsBody body.0 body.1.0 body.1.1) (WritesBody source f)
    (10 ∷ codes "{" ++ (10 ∷ [] ++ (flat_map decl_line f.decls ++ (flat_map (block_text f) f.blocks ++ line (codes "}")))))
body_prints source f well limits =
    let decls =
    many source any_end SpellsDecl (WritesDecl source) decl_line f.decls
    (λ decl there. decl_prints source f decl well there) (λ decl rest ends. tt) in
    let blocks =
    many source any_end SpellsBlock (WritesBlock source f) (block_text f) f.blocks
    (λ block there. block_prints source f block well limits there) (λ block rest ends. tt) in
    let close = blanks_after (10 ∷ []) refl (λ rest. tt) (mark_prints source marks.CloseBrace refl) in
    let whole = joined decls (λ rest. tt) (joined blocks (λ rest. tt) close) in
    let opened =
    blanks_before (10 ∷ []) refl (lead (a_mark_prints source marks.OpenBrace refl) (λ rest. tt)
    (blanks_before (10 ∷ []) refl whole)) in
    seen opened (λ body. body) (λ body w is h. h) (λ body is. (is.0, is.1.0))

-- ---- functions

function_whole : (t name params decls blocks : List ℕ)
    → (t ++ (codes " __GIMPLE (ssa)" ++ (10 ∷ name)))
    ++ ((codes " (" ++ (params ++ codes ")"))
    ++ (10 ∷ codes "{" ++ (10 ∷ [] ++ (decls ++ (blocks ++ line (codes "}"))))))
    ≡ (line (t ++ codes " __GIMPLE (ssa)") ++ line (name ++ codes " (" ++ params ++ codes ")") ++ line (codes "{"))
    ++ decls ++ blocks ++ line (codes "}")
function_whole t name params decls blocks = simp append_assoc

pub function_prints : (source : List ℕ) (f : Function) → IsWellFormed f → IsWithinLimits f
    → Prints source any_end SpellsFunction (λ (tree : FunctionText). Writes source tree f) (function_text f)
unfolding function_text head_text
function_prints source f well limits =
    let whole =
    joined (head_prints source f well) (λ rest. refl)
    (joined (between_print source f well) (λ rest. tt) (body_prints source f well limits)) in
    let written =
    told (function_whole (type_text f.result) f.name (listed declared_text f.params) (flat_map decl_line f.decls)
    (flat_map (block_text f) f.blocks)) whole in
    seen written (λ x. record { result = f.result; name = x.0; params = x.1.0; decls = x.1.1.0; blocks = x.1.1.1.0; close = x.1.1.1.1 })
    (λ x w is h. h) (λ x is. record { name = is.0; result = refl; params = is.1.0; decls = is.1.1.0; blocks = is.1.1.1 })
