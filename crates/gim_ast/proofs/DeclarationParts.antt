-- The rules on declarations and types, part by part.
use Rattle.std.proofs.Common.{◌≡◌, ℕ, Bool, true, false, List, [], ◌∷◌, ◌++◌, map, refl, ap, ◌∙◌}
use Rattle.std.specs.Prelude.{◌&&◌, ◌||◌, not}
use Rattle.std.specs.List.{list_any, list_all}
use Rattle.std.proofs.lemmas.List.Folds.{list_any-append, list_all-append}
use Rattle.gim_ast.specs.declared.function.Function.{Function}
use Rattle.gim_ast.specs.declared.function.Decl.{Decl}
use Rattle.gim_ast.specs.Identifiers.{is_identifier, is_anonymous}
use Rattle.gim_ast.specs.WellFormed.{same_text, all_distinct, ident_of, is_type_of, declarations_hold, types_hold}
use Rattle.gim_ast.specs.RulesByPart.{has_identifier, has_anonymous, has_ident, distinct_idents, declarations_by_part, has_type, types_by_part}
use Rattle.gim_ast.proofs.ListTests.{neither, any_map, all_map}

any_ident : (ident : List ℕ) (ps ds : List Decl) → list_any (same_text ident) (map ident_of (ps ++ ds)) ≡ (list_any (has_ident ident) ps || list_any (has_ident ident) ds)
any_ident ident ps ds = any_map (same_text ident) ident_of (ps ++ ds) ∙ list_any-append (has_ident ident) ps ds

distinct_both : (ps ds : List Decl) → all_distinct same_text (map ident_of (ps ++ ds)) ≡ (distinct_idents ps ds && all_distinct same_text (map ident_of ds))
distinct_both [] ds = refl
distinct_both (p ∷ ps) ds =
    neither (list_any (same_text p.ident) (map ident_of (ps ++ ds))) (list_any (has_ident p.ident) ps) (list_any (has_ident p.ident) ds)
    (all_distinct same_text (map ident_of (ps ++ ds))) (distinct_idents ps ds) (all_distinct same_text (map ident_of ds))
    (any_ident p.ident ps ds) (distinct_both ps ds)

alone : (a b d e : Bool) → a ≡ b → d ≡ e → (not a && d) ≡ (not b && true && e)
alone a true d e h k = rw h refl
alone a false d e h k = rw (h, k) refl

distinct_one : (ds : List Decl) → all_distinct same_text (map ident_of ds) ≡ distinct_idents ds []
distinct_one [] = refl
distinct_one (d ∷ ds) =
    alone (list_any (same_text d.ident) (map ident_of ds)) (list_any (has_ident d.ident) ds) (all_distinct same_text (map ident_of ds)) (distinct_idents ds [])
    (any_map (same_text d.ident) ident_of ds) (distinct_one ds)

distinct_all : (ps ds : List Decl) → all_distinct same_text (map ident_of (ps ++ ds)) ≡ (distinct_idents ps ds && distinct_idents ds [])
distinct_all ps ds = distinct_both ps ds ∙ ap (λ b. distinct_idents ps ds && b) (distinct_one ds)

inner : (p d q r y : Bool) → (true && (p && d) && (q && r) && not y) ≡ (true && p && d && q && r && not y)
inner true true true r y = refl
inner true true false r y = refl
inner true false q r y = refl
inner false d q r y = refl

regroup : (n i p d a q r x y : Bool) → i ≡ (p && d) → a ≡ (q && r) → x ≡ y → (n && i && a && not x) ≡ (n && p && d && q && r && not y)
regroup true i p d a q r x y h k l = rw (h, k, l) (inner p d q r y)
regroup false i p d a q r x y h k l = refl

all_identifiers : (ps ds : List Decl) → list_all is_identifier (map ident_of (ps ++ ds)) ≡ (list_all has_identifier ps && list_all has_identifier ds)
all_identifiers ps ds = all_map is_identifier ident_of (ps ++ ds) ∙ list_all-append has_identifier ps ds

pub declared_parts : (f : Function) → declarations_hold f ≡ declarations_by_part f
declared_parts f =
    regroup (is_identifier f.name) (list_all is_identifier (map ident_of (f.params ++ f.decls))) (list_all has_identifier f.params) (list_all has_identifier f.decls)
    (all_distinct same_text (map ident_of (f.params ++ f.decls))) (distinct_idents f.params f.decls) (distinct_idents f.decls [])
    (list_any is_anonymous (map ident_of f.params)) (list_any has_anonymous f.params)
    (all_identifiers f.params f.decls) (distinct_all f.params f.decls) (any_map is_anonymous ident_of f.params)

three : (r a p d : Bool) → a ≡ (p && d) → (r && a) ≡ (r && p && d)
three true a p d h = h
three false a p d h = refl

pub typed_parts : (f : Function) → types_hold f ≡ types_by_part f
typed_parts f = three (is_type_of f.result) (list_all has_type (f.params ++ f.decls)) (list_all has_type f.params) (list_all has_type f.decls) (list_all-append has_type f.params f.decls)
