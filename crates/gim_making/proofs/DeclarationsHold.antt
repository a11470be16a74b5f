-- The declarations of a function that is made hold, and its types are among the eleven.
use Rattle.std.proofs.Common.{◌≡◌, ℕ, true, List, [], ◌∷◌, ◌++◌, map, refl, sym, ap, ◌∙◌}
use Rattle.std.specs.Prelude.{◌&&◌, not}
use Rattle.std.specs.List.{flat_map, list_any, list_all}
use Rattle.std.proofs.lemmas.List.Folds.{list_all-append}
use Rattle.std.proofs.lemmas.Bool.{and_parts, and_from}
use Rattle.gim_ast.specs.declared.function.Decl.{Decl}
use Rattle.gim_ast.specs.declared.function.NameRow.{NameRow}
use Rattle.gim_ast.specs.Identifiers.{is_identifier, is_anonymous}
use Rattle.gim_ast.specs.WellFormed.{same_text, all_distinct, ident_of, is_type_of, declarations_hold, types_hold}
use Rattle.gim_text.specs.declared.tree.DeclText.{DeclText}
use Rattle.gim_text.specs.declared.tree.FunctionText.{FunctionText}
use Rattle.gim_text.specs.declared.occurrence.Occurrence.{Occurrence}
use Rattle.gim_text.specs.Occurrences.{occurrence_of_parameter, occurrence_of_local, occurrences_of_block}
use Rattle.pm_places.specs.Spans.{text_of}
use Rattle.gim_names.specs.KeepsNames.{KeepsNames, ident_text, params_of, locals_of}
use Rattle.gim_making.specs.Standing.{made}
use Rattle.gim_making.specs.Trees.{decl_of}
use Rattle.gim_making.specs.Written.{has_written_type, is_written, IsWritten}
use Rattle.gim_text.proofs.Membership.{map-append}

idents : (source : List ℕ) (decls : List DeclText) → map ident_of (map (decl_of source) decls) ≡ map (ident_text source) decls
idents source [] = refl
idents source (decl ∷ decls) = ap (λ l. text_of source decl.ident ∷ l) (idents source decls)

both_idents : (source : List ℕ) (params decls : List DeclText)
    → map ident_of (map (decl_of source) params ++ map (decl_of source) decls) ≡ map (ident_text source) params
    ++ map (ident_text source) decls
both_idents source params decls =
    map-append ident_of (map (decl_of source) params) (map (decl_of source) decls)
    ∙ ap (λ l. l ++ map ident_of (map (decl_of source) decls)) (idents source params)
    ∙ ap (λ l. map (ident_text source) params ++ l) (idents source decls)

-- the identifiers of parameters and of locals are written as they should be
idents_written : (source : List ℕ) (of : DeclText → Occurrence) (decls : List DeclText)
    → ((decl : DeclText) → is_written source (of decl) ≡ is_identifier (text_of source decl.ident))
    → list_all (is_written source) (map of decls) ≡ true
    → list_all is_identifier (map (ident_text source) decls) ≡ true
idents_written source of [] says h = refl
idents_written source of (decl ∷ decls) says h =
    let p = and_parts (is_written source (of decl)) (list_all (is_written source) (map of decls)) h in
    and_from (is_identifier (text_of source decl.ident)) (list_all is_identifier (map (ident_text source) decls))
    (sym (says decl) ∙ p.0) (idents_written source of decls says p.1)

all_written : (source : List ℕ) (tree : FunctionText) → IsWritten source tree
    → list_all is_identifier (params_of source tree ++ locals_of source tree) ≡ true
all_written source tree written =
    let test = is_written source in
    let params = map occurrence_of_parameter tree.params in
    let locals = map occurrence_of_local tree.decls in
    let blocks = flat_map occurrences_of_block tree.blocks in
    let p = and_parts (list_all test (params ++ locals)) (list_all test blocks)
    (sym (list_all-append test (params ++ locals) blocks) ∙ written.occurrences) in
    let q = and_parts (list_all test params) (list_all test locals) (sym (list_all-append test params locals) ∙ p.0) in
    list_all-append is_identifier (params_of source tree) (locals_of source tree)
    ∙ and_from (list_all is_identifier (params_of source tree)) (list_all is_identifier (locals_of source tree))
    (idents_written source occurrence_of_parameter tree.params (λ decl. refl) q.0)
    (idents_written source occurrence_of_local tree.decls (λ decl. refl) q.1)

types_written : (source : List ℕ) (decls : List DeclText) → list_all has_written_type decls ≡ true
    → list_all (λ (decl : Decl). is_type_of decl.ty) (map (decl_of source) decls) ≡ true
types_written source [] h = refl
types_written source (decl ∷ decls) h =
    let p = and_parts (has_written_type decl) (list_all has_written_type decls) h in
    and_from (is_type_of decl.ty) (list_all (λ (d : Decl). is_type_of d.ty) (map (decl_of source) decls)) p.0
    (types_written source decls p.1)

pub declarations : (source : List ℕ) (tree : FunctionText) (names : List NameRow) → IsWritten source tree
    → KeepsNames source tree → declarations_hold (made source tree names) ≡ true
unfolding made
declarations source tree names written kept =
    let params = map (decl_of source) tree.params in
    let decls = map (decl_of source) tree.decls in
    let all = map ident_of (params ++ decls) in
    let same : all ≡ params_of source tree ++ locals_of source tree = both_idents source tree.params tree.decls in
    let named : list_all is_identifier all ≡ true = ap (list_all is_identifier) same ∙ all_written source tree written in
    let distinct : all_distinct same_text all ≡ true = ap (all_distinct same_text) same ∙ kept.declared in
    let bare : not (list_any is_anonymous (map ident_of params)) ≡ true =
    ap (λ l. not (list_any is_anonymous l)) (idents source tree.params) ∙ ap not kept.params in
    let first = is_identifier (text_of source tree.name) in
    and_from ((first && list_all is_identifier all) && all_distinct same_text all) (not (list_any is_anonymous (map ident_of params)))
    (and_from (first && list_all is_identifier all) (all_distinct same_text all)
    (and_from first (list_all is_identifier all) written.name named) distinct) bare

pub types : (source : List ℕ) (tree : FunctionText) (names : List NameRow) → IsWritten source tree
    → types_hold (made source tree names) ≡ true
unfolding made
types source tree names written =
    let all = map (decl_of source) tree.params ++ map (decl_of source) tree.decls in
    let same : all ≡ map (decl_of source) (tree.params ++ tree.decls) = sym (map-append (decl_of source) tree.params tree.decls) in
    and_from (is_type_of tree.result) (list_all (λ (decl : Decl). is_type_of decl.ty) all) written.result
    (ap (list_all (λ (decl : Decl). is_type_of decl.ty)) same ∙ types_written source (tree.params ++ tree.decls) written.types)
