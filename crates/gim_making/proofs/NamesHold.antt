-- The names of a function that is made hold.
use Rattle.std.proofs.Common.{◌≡◌, ℕ, ◌<◌, Bool, true, false, cond, Option, Some, None, option_map}
use Rattle.std.proofs.Common.{List, [], ◌∷◌, ◌++◌, map, refl, sym, ap, subst, ◌∙◌, arith, inl, inr}
use Rattle.std.specs.Prelude.{◌==◌, ◌&&◌, ◌||◌, not, nat_lt}
use Rattle.std.specs.List.{list_any, list_all, cons_option, filter_map}
use Rattle.std.specs.Option.{option_or, unwrap_or}
use Rattle.std.proofs.lemmas.Bool.{and_parts, and_from, eqb-true, false≢true}
use Rattle.pm_wide.specs.Types.{Ty, bool_type}
use Rattle.gim_ast.specs.declared.function.Decl.{Decl}
use Rattle.gim_ast.specs.declared.function.NameRow.{NameRow}
use Rattle.gim_ast.specs.Functions.{assigned, is_used}
use Rattle.gim_ast.specs.Identifiers.{is_anonymous, anonymous}
use Rattle.gim_ast.specs.WellFormed.{same_text, all_distinct, rises, declares_as, base_holds}
use Rattle.gim_ast.specs.WellFormed.{row_stands, is_assigned, initial_bases, names_hold}
use Rattle.pm_places.specs.declared.span.Span.{Span}
use Rattle.gim_text.proofs.SameTexts.{same_text_itself, same_text_is}
use Rattle.gim_text.specs.declared.tree.DeclText.{DeclText}
use Rattle.gim_text.specs.declared.tree.FunctionText.{FunctionText}
use Rattle.gim_text.specs.Texts.{name_parts}
use Rattle.pm_places.specs.Spans.{text_of}
use Rattle.gim_text.specs.declared.occurrence.Occurrence.{Occurrence}
use Rattle.gim_text.specs.declared.occurrence.Occurrence.TheVariants.{Parameter, Local, Block, Jump, Assigned, Used, Default, Constant}
use Rattle.gim_text.specs.Occurrences.{occurrences_of}
use Rattle.gim_names.specs.OccurrenceTexts.{version_in, assigned_version, base_default}
use Rattle.gim_names.specs.KeepsNames.{KeepsNames, locals_of, params_of, has_base, has_param, ident_text}
use Rattle.gim_making.specs.declared.places.NamePlace.{NamePlace}
use Rattle.gim_typing.specs.Declarations.{Declarations, declarations_of, declared_type, type_by_base}
use Rattle.gim_typing.specs.Declarations.{type_by_parts, type_of_name, number_of, version_of_name}
use Rattle.gim_typing.specs.Declarations.{version_by_parts}
use Rattle.gim_making.specs.Names.{AreNames, version_of, plain, default_at, name_place, names_in, named_rows}
use Rattle.gim_making.specs.Standing.{made}
use Rattle.gim_making.specs.Trees.{decl_of}
use Rattle.gim_text.proofs.Membership.{Has, from_flat, from_map, has_said, from_said, all_from_has, any_from_has, none_from_has}
use Rattle.gim_making.proofs.MadeOperands.{ArePhisFirst, assigned_number, made_assigns}
use Rattle.gim_making.proofs.Occurring.{local_occurs}
use Rattle.gim_making.proofs.NameParts.{parts_are, anonymous_has_parts, IsSmall, same_number, declared_some, declares, typed, some_is}
use Rattle.gim_making.proofs.NamePlaces.{AreSmall, PlaceFacts, one_each, in_names, local_here, place_facts}
use Rattle.gim_making.proofs.NamePlaces.{param_not_bare, row_at, one_row_at, row_place, place_row}
use Rattle.gim_making.proofs.NameRows.{above, row_is_name, name_is_row}
use Rattle.gim_making.proofs.AssignedAndUsed.{assigned_at, assigned_to, assigned_from, used_is_assigned, used_from, default_is_used}

-- ---- bases

type_is : (known : Declarations) (at : Span) (base digits : List ℕ) (t : Ty)
    → name_parts (text_of known.source at) ≡ Some (base, digits)
    → type_by_base known (text_of known.source at) base ≡ Some t → type_of_name known at ≡ t
type_is known at base digits t parts e = ap (type_by_parts known (text_of known.source at)) parts ∙ ap (λ o. unwrap_or o bool_type) e

not_initial : (initial : Bool) → (initial ≡ true → ⊥) → not initial ≡ true
not_initial true h = absurd (h refl)
not_initial false h = refl

or_left : (a b : Bool) → a ≡ true → (a || b) ≡ true
or_left true b h = refl
or_left false b h = absurd (false≢true h)

or_right : (a b : Bool) → b ≡ true → (a || b) ≡ true
or_right true b h = refl
or_right false b h = h

based_by : (source q : List ℕ) (params decls : List DeclText) (t : Ty) (initial : Bool) (o : Option Ty)
    → declared_type source q params ≡ o → option_or o (declared_type source q decls) ≡ Some t
    → (initial ≡ true → list_any (same_text q) (map (ident_text source) params) ≡ true)
    → (declares_as q t (map (decl_of source) params) || (not initial && declares_as q t (map (decl_of source) decls))) ≡ true
based_by source q params decls t initial (Some u) is e param =
    let types : u ≡ t = some_is u t e in
    or_left (declares_as q t (map (decl_of source) params))
    (not initial && declares_as q t (map (decl_of source) decls)) (declares source q params t (is ∙ ap Some types))
based_by source q params decls t initial None is e param =
    or_right (declares_as q t (map (decl_of source) params)) (not initial && declares_as q t (map (decl_of source) decls))
    (and_from (not initial) (declares_as q t (map (decl_of source) decls))
    (not_initial initial (λ i. let found = declared_some source q params (param i) in let clash = sym is ∙ found.1 in
    absurd cc)) (declares source q decls t e))

base_by : (source : List ℕ) (tree : FunctionText) (names : List NameRow) (at : Span) (initial : Bool)
    (base digits : List ℕ) → name_parts (text_of source at) ≡ Some (base, digits) → IsSmall digits
    → has_base (locals_of source tree) (params_of source tree) (text_of source at) (Some (base, digits)) ≡ true
    → (initial ≡ true → has_param (params_of source tree) (Some (base, digits)) ≡ true)
    → base_holds (made source tree names) (record
    { version = number_of digits; base = base; ty = type_of_name (declarations_of source tree) at; initial = initial })
    ≡ true
unfolding made
base_by source tree names at initial [] digits parts small declared param =
    let known = declarations_of source tree in
    let text = text_of source at in
    let found = typed known text [] digits declared in
    let t = type_of_name known at in
    let same : t ≡ found.0 = type_is known at [] digits found.0 parts found.1 in
    let whole : text ≡ anonymous (number_of digits) = (parts_are text [] digits parts).0 ∙ ap (λ d. 95 ∷ d) small in
    let local : declares_as text t (map (decl_of source) tree.decls) ≡ true =
    declares source text tree.decls t (found.1 ∙ ap Some (sym same)) in
    and_from (not initial) (declares_as (anonymous (number_of digits)) t (map (decl_of source) tree.decls))
    (not_initial initial (λ i. param_not_bare (params_of source tree) [] digits (param i) refl))
    (ap (λ q. declares_as q t (map (decl_of source) tree.decls)) (sym whole) ∙ local)
base_by source tree names at initial (b ∷ base) digits parts small declared param =
    let known = declarations_of source tree in
    let text = text_of source at in
    let found = typed known text (b ∷ base) digits declared in
    let t = type_of_name known at in
    let same : t ≡ found.0 = type_is known at (b ∷ base) digits found.0 parts found.1 in
    based_by source (b ∷ base) tree.params tree.decls t initial (declared_type source (b ∷ base) tree.params) refl
    (found.1 ∙ ap Some (sym same)) param

-- ---- rows stand

version_is : (source : List ℕ) (tree : FunctionText) (place : NamePlace) (f : PlaceFacts source tree place)
    → version_of_name source place.at ≡ number_of f.digits
version_is source tree place f = ap version_by_parts f.parts

-- a plain name and a default definition have no version in common
apart : (source : List ℕ) (tree : FunctionText) → KeepsNames source tree → AreSmall source tree → (a b : Span)
    → Has (names_in source tree) (plain a) → Has (names_in source tree) (default_at b)
    → version_of_name source a ≡ version_of_name source b → ⊥
apart source tree kept small a b one other e =
    let f = place_facts source tree kept small (plain a) one in
    let g = place_facts source tree kept small (default_at b) other in
    let rows =
    one_row_at source tree kept (plain a) (default_at b) f g
    (sym (version_is source tree (plain a) f) ∙ e ∙ version_is source tree (default_at b) g) in
    false≢true (ap (λ (r : NameRow). r.initial) rows)

not_from : (b : Bool) → (b ≡ true → ⊥) → not b ≡ true
not_from true h = absurd (h refl)
not_from false h = refl

or_not : (a b c : Bool) → b ≡ true → (c ≡ true → a ≡ true) → (a || (b && not c)) ≡ true
or_not true b c is h = refl
or_not false true c is h = not_from c (λ t. false≢true (h t))
or_not false false c is h = absurd (false≢true is)

-- whether a row stands, told its version and its base
abbrev stands_as : List ℕ → FunctionText → List NameRow → Bool → ℕ → List ℕ → Type 0
stands_as source tree names initial v base =
    cond initial (not (is_assigned (made source tree names) v) && is_used (made source tree names) v)
    (is_assigned (made source tree names) v || (same_text base [] && not (is_used (made source tree names) v))) ≡ true

bare_base : (text base digits : List ℕ) → is_anonymous text ≡ true → name_parts text ≡ Some (base, digits) → base ≡ []
bare_base text base digits h parts =
    let found = anonymous_has_parts text h in
    let same : (base, digits) ≡ ([], found.0) = some_is (base, digits) ([], found.0) (sym parts ∙ found.1) in
    ap (λ (p : List ℕ × List ℕ). p.0) same

default_stands : (source : List ℕ) (tree : FunctionText) (names : List NameRow) → KeepsNames source tree
    → AreSmall source tree → ArePhisFirst tree → (at : Span) → Has (occurrences_of tree) (Default at) → (base : List ℕ)
    → stands_as source tree names true (version_of_name source at) base
default_stands source tree names kept small first at there base =
    let v = version_of_name source at in
    let name = in_names source tree (Default at) (default_at at) there refl in
    and_from (not (is_assigned (made source tree names) v)) (is_used (made source tree names) v)
    (not_from (is_assigned (made source tree names) v) (λ h. let r = assigned_from source tree names first v h in
    apart source tree kept small r.0 at (in_names source tree (Assigned r.0) (plain r.0) r.1 refl) name r.2))
    (default_is_used source tree names first at there)

local_stands : (source : List ℕ) (tree : FunctionText) (names : List NameRow) → KeepsNames source tree
    → AreSmall source tree → ArePhisFirst tree → (at : Span) → Has (names_in source tree) (plain at) → (base : List ℕ)
    → base ≡ [] → stands_as source tree names false (version_of_name source at) base
local_stands source tree names kept small first at name base bare =
    let f = made source tree names in
    let v = version_of_name source at in
    or_not (is_assigned f v) (same_text base []) (is_used f v) (ap (λ b. same_text b []) bare ∙ same_text_itself []) (λ used.
    let r = used_from source tree names first v used in
    elim r.1 [
      | inl plain_one ↦ ap (is_assigned f) (sym r.2) ∙ used_is_assigned source tree names kept first r.0 plain_one
      | inr default_one ↦ absurd (apart source tree kept small at r.0 name
          (in_names source tree (Default r.0) (default_at r.0) default_one refl) (sym r.2))
    ])

stands : (source : List ℕ) (tree : FunctionText) (names : List NameRow) → KeepsNames source tree → AreSmall source tree
    → ArePhisFirst tree → (o : Occurrence) (place : NamePlace) → Has (occurrences_of tree) o
    → name_place source o ≡ Some place
    → (base digits : List ℕ) → name_parts (text_of source place.at) ≡ Some (base, digits)
    → stands_as source tree names place.initial (version_of_name source place.at) base
stands source tree names kept small first (Parameter at) place there e base digits parts = absurd cc
stands source tree names kept small first (Block at) place there e base digits parts = absurd cc
stands source tree names kept small first (Jump at) place there e base digits parts = absurd cc
stands source tree names kept small first (Constant literal) place there e base digits parts = absurd cc
stands source tree names kept small first (Assigned at) place there e base digits parts =
    let f = made source tree names in
    let v = version_of_name source at in
    subst (λ (p : NamePlace). stands_as source tree names p.initial (version_of_name source p.at) base)
    (some_is (plain at) place e) (or_left (is_assigned f v) (same_text base [] && not (is_used f v))
    (assigned_to source tree names first at there))
stands source tree names kept small first (Used at) place there e base digits parts =
    let f = made source tree names in
    let v = version_of_name source at in
    subst (λ (p : NamePlace). stands_as source tree names p.initial (version_of_name source p.at) base)
    (some_is (plain at) place e) (or_left (is_assigned f v) (same_text base [] && not (is_used f v))
    (used_is_assigned source tree names kept first at there))
stands source tree names kept small first (Default at) place there e base digits parts =
    subst (λ (p : NamePlace). stands_as source tree names p.initial (version_of_name source p.at) base)
    (some_is (default_at at) place e) (default_stands source tree names kept small first at there base)
stands source tree names kept small first (Local at) place there e base digits parts =
    let p = local_here (is_anonymous (text_of source at)) at place e in
    let name = in_names source tree (Local at) place there e in
    let bare : base ≡ [] =
    bare_base (text_of source place.at) base digits
    (ap (λ (q : NamePlace). is_anonymous (text_of source q.at)) (sym p.1) ∙ p.0) parts in
    subst (λ (q : NamePlace). stands_as source tree names q.initial (version_of_name source q.at) base) p.1
    (local_stands source tree names kept small first at (subst (Has (names_in source tree)) (sym p.1) name) base
    bare)

row_holds : (source : List ℕ) (tree : FunctionText) (names : List NameRow) → KeepsNames source tree
    → AreSmall source tree → ArePhisFirst tree → (place : NamePlace) → Has (names_in source tree) place
    → (f : PlaceFacts source tree place)
    → (base_holds (made source tree names) (row_at source tree place f)
    && row_stands (made source tree names) (row_at source tree place f)) ≡ true
row_holds source tree names kept small first place name f =
    let m = from_said (name_place source) (occurrences_of tree) place name in
    and_from (base_holds (made source tree names) (row_at source tree place f))
    (row_stands (made source tree names) (row_at source tree place f))
    (base_by source tree names place.at place.initial f.base f.digits f.parts f.small f.declared f.param)
    (subst (λ v. stands_as source tree names place.initial v f.base) (version_is source tree place f)
    (stands source tree names kept small first m.0 place m.1 m.2 f.base f.digits f.parts))

-- ---- default definitions

initial_by : (row : NameRow) (b : Bool) (x : List ℕ) → row.initial ≡ b → Has (cond b (row.base ∷ []) []) x
    → (row.initial ≡ true) × (row.base ≡ x)
initial_by row true x is (inl e) = (is, e)
initial_by row true x is (inr h) = absurd h
initial_by row false x is h = absurd h

distinct_by : (row : NameRow) (rest : List (List ℕ)) (b : Bool)
    → (b ≡ true → list_any (same_text row.base) rest ≡ false) → all_distinct same_text rest ≡ true
    → all_distinct same_text (cond b (row.base ∷ []) [] ++ rest) ≡ true
distinct_by row rest true h d = and_from (not (list_any (same_text row.base) rest)) (all_distinct same_text rest) (ap not (h refl)) d
distinct_by row rest false h d = d

one_default : (rows : List NameRow) → rises (map version_of rows) ≡ true
    → ((a b : NameRow) → Has rows a → Has rows b → a.initial ≡ true → b.initial ≡ true → a.base ≡ b.base
    → a.version ≡ b.version) → all_distinct same_text (initial_bases rows) ≡ true
one_default [] up same = refl
one_default (row ∷ rows) up same =
    let p = and_parts (list_all (nat_lt row.version) (map version_of rows)) (rises (map version_of rows)) up in
    distinct_by row (initial_bases rows) row.initial
    (λ initial. none_from_has (same_text row.base) (initial_bases rows) (λ x there equal.
    let r = from_flat (λ (other : NameRow). cond other.initial (other.base ∷ []) []) rows x there in
    let i = initial_by r.0 r.0.initial x refl r.2 in
    let versions : row.version ≡ r.0.version = same row r.0 (inl refl) (inr r.1) initial i.0 (same_text_is row.base x equal ∙ sym i.1) in
    let far : row.version < r.0.version = above row.version rows p.0 r.0 r.1 in
    absurd (omega arith)))
    (one_default rows p.1 (λ a b has_a has_b. same a b (inr has_a) (inr has_b)))

defaults_agree : (source : List ℕ) (tree : FunctionText) (names : List NameRow) → KeepsNames source tree
    → AreSmall source tree → AreNames (named_rows source tree) names
    → (a b : NameRow) → Has names a → Has names b → a.initial ≡ true → b.initial ≡ true → a.base ≡ b.base → a.version ≡ b.version
defaults_agree source tree names kept small are a b has_a has_b initial_a initial_b bases =
    let p = row_place source tree kept small a (name_is_row source tree names are a has_a) in
    let q = row_place source tree kept small b (name_is_row source tree names are b has_b) in
    let f = p.2.0 in
    let g = q.2.0 in
    let one : p.0.initial ≡ true = ap (λ (r : NameRow). r.initial) p.2.1 ∙ initial_a in
    let other : q.0.initial ≡ true = ap (λ (r : NameRow). r.initial) q.2.1 ∙ initial_b in
    let same : f.base ≡ g.base = ap (λ (r : NameRow). r.base) p.2.1 ∙ bases ∙ sym (ap (λ (r : NameRow). r.base) q.2.1) in
    let pairs = filter_map (base_default source) (occurrences_of tree) in
    let digits : f.digits ≡ g.digits =
    one_each pairs g.base f.digits g.digits kept.defaults
    (subst (λ x. Has pairs (x, f.digits)) same (f.default_pair one)) (g.default_pair other) in
    sym (ap (λ (r : NameRow). r.version) p.2.1) ∙ ap number_of digits ∙ ap (λ (r : NameRow). r.version) q.2.1

-- ---- anonymous locals

decl_by : (b c : Bool) → (b ≡ true → c ≡ true) → (not b || c) ≡ true
decl_by true c h = h refl
decl_by false c h = refl

decl_has_row : (source : List ℕ) (tree : FunctionText) (names : List NameRow) → KeepsNames source tree
    → AreSmall source tree → AreNames (named_rows source tree) names → (decl : DeclText) → Has tree.decls decl
    → is_anonymous (text_of source decl.ident) ≡ true
    → list_any (λ (row : NameRow). same_text row.base [] && same_text (anonymous row.version) (text_of source decl.ident)) names ≡ true
decl_has_row source tree names kept small are decl there h =
    let text = text_of source decl.ident in
    let place = plain decl.ident in
    let name : Has (names_in source tree) place =
    in_names source tree (Local decl.ident) place (local_occurs tree decl there)
    (ap (λ b. option_map plain (cond b (Some decl.ident) None)) h) in
    let f = place_facts source tree kept small place name in
    let row = row_at source tree place f in
    let bare : f.base ≡ [] = bare_base text f.base f.digits h f.parts in
    let whole : anonymous (number_of f.digits) ≡ text =
    sym ((parts_are text f.base f.digits f.parts).0 ∙ ap (λ b. b ++ 95 ∷ f.digits) bare ∙ ap (λ d. 95 ∷ d) f.small) in
    any_from_has (λ (r : NameRow). same_text r.base [] && same_text (anonymous r.version) text) names row
    (row_is_name source tree names kept small are row (place_row source tree place f name))
    (and_from (same_text f.base []) (same_text (anonymous (number_of f.digits)) text)
    (ap (λ b. same_text b []) bare ∙ same_text_itself []) (ap (λ t. same_text t text) whole ∙ same_text_itself text))

-- ---- assignments

-- what is assigned here has small digits
abbrev AssignsSmall : List ℕ → List Occurrence → Type 0
AssignsSmall source ms =
    (at : Span) → Has ms (Assigned at) → (digits : List ℕ) × (version_in (name_parts (text_of source at)) ≡ Some digits)
    × IsSmall digits × (version_of_name source at ≡ number_of digits)

said_first : {X : Type 0} (o : Option X) (x : X) (xs : List X) → o ≡ Some x → cons_option o xs ≡ x ∷ xs
said_first o x xs e = ap (λ p. cons_option p xs) e

distinct_numbers : (source : List ℕ) (ms : List Occurrence) → AssignsSmall source ms
    → all_distinct same_text (filter_map (assigned_version source) ms) ≡ true
    → all_distinct ◌==◌ (filter_map (assigned_number source) ms) ≡ true
distinct_numbers source [] small h = refl
distinct_numbers source (Jump at ∷ ms) small h = distinct_numbers source ms (λ a there. small a (inr there)) h
distinct_numbers source (Parameter at ∷ ms) small h = distinct_numbers source ms (λ a there. small a (inr there)) h
distinct_numbers source (Local at ∷ ms) small h = distinct_numbers source ms (λ a there. small a (inr there)) h
distinct_numbers source (Block at ∷ ms) small h = distinct_numbers source ms (λ a there. small a (inr there)) h
distinct_numbers source (Used at ∷ ms) small h = distinct_numbers source ms (λ a there. small a (inr there)) h
distinct_numbers source (Default at ∷ ms) small h = distinct_numbers source ms (λ a there. small a (inr there)) h
distinct_numbers source (Constant literal ∷ ms) small h = distinct_numbers source ms (λ a there. small a (inr there)) h
distinct_numbers source (Assigned at ∷ ms) small h =
    let v = version_of_name source at in
    let later = filter_map (assigned_version source) ms in
    let numbers = filter_map (assigned_number source) ms in
    let mine = small at (inl refl) in
    let digits = mine.0 in
    let p = and_parts (not (list_any (same_text digits) later)) (all_distinct same_text later)
    (ap (all_distinct same_text) (sym (said_first (version_in (name_parts (text_of source at))) digits later mine.1))
    ∙ h) in
    let new : list_any (λ y. v == y) numbers ≡ false = none_from_has (λ y. v == y) numbers (λ y there equal.
    let r = from_said (assigned_number source) ms y there in
    let a = assigned_at source r.0 y r.2 in
    let has = subst (Has ms) a.1 r.1 in
    let other = small a.0 (inr has) in
    let same : digits ≡ other.0 = same_number digits other.0 mine.2 other.2 (sym mine.3 ∙ eqb-true v y equal ∙ sym a.2 ∙ other.3) in
    let known : Has later other.0 = has_said (assigned_version source) ms (Assigned a.0) other.0 has other.1 in
    false≢true (sym (ap not (any_from_has (same_text digits) later other.0 known
    (ap (same_text digits) (sym same) ∙ same_text_itself digits))) ∙ p.0)) in
    and_from (not (list_any (λ y. v == y) numbers)) (all_distinct ◌==◌ numbers) (ap not new)
    (distinct_numbers source ms (λ a there. small a (inr there)) p.1)

assigns_small : (source : List ℕ) (tree : FunctionText) → KeepsNames source tree → AreSmall source tree
    → AssignsSmall source (occurrences_of tree)
assigns_small source tree kept small at there =
    let f = place_facts source tree kept small (plain at) (in_names source tree (Assigned at) (plain at) there refl) in
    (f.digits, ap version_in f.parts, f.small, version_is source tree (plain at) f)

-- ---- the whole

pub names : (source : List ℕ) (tree : FunctionText) (rows : List NameRow) → KeepsNames source tree
    → AreSmall source tree → ArePhisFirst tree → AreNames (named_rows source tree) rows
    → names_hold (made source tree rows) ≡ true
unfolding made
names source tree rows kept small first are =
    let f = made source tree rows in
    let decls = map (decl_of source) tree.decls in
    let up = rises (map version_of rows) in
    let each = list_all (λ (row : NameRow). base_holds f row && row_stands f row) rows in
    let distinct = all_distinct same_text (initial_bases rows) in
    let has_row =
    λ (decl : Decl). not (is_anonymous decl.ident)
    || list_any (λ (row : NameRow). same_text row.base [] && same_text (anonymous row.version) decl.ident) rows in
    let rows_hold : each ≡ true = all_from_has (λ (row : NameRow). base_holds f row && row_stands f row) rows (λ row there.
    let r = row_place source tree kept small row (name_is_row source tree rows are row there) in
    subst (λ (x : NameRow). (base_holds f x && row_stands f x) ≡ true) r.2.1 (row_holds source tree rows kept small first r.0 r.1 r.2.0)) in
    let locals : list_all has_row decls ≡ true = all_from_has has_row decls (λ decl there.
    let d = from_map (decl_of source) tree.decls decl there in
    subst (λ (x : Decl). has_row x ≡ true) d.2
    (decl_by (is_anonymous (text_of source d.0.ident))
    (list_any (λ (row : NameRow). same_text row.base []
    && same_text (anonymous row.version) (text_of source d.0.ident)) rows)
    (decl_has_row source tree rows kept small are d.0 d.1))) in
    let once : all_distinct ◌==◌ (assigned f) ≡ true =
    ap (all_distinct ◌==◌) (made_assigns source tree rows first)
    ∙ distinct_numbers source (occurrences_of tree) (assigns_small source tree kept small) kept.assigned in
    and_from (((up && each) && distinct) && list_all has_row decls) (all_distinct ◌==◌ (assigned f))
    (and_from ((up && each) && distinct) (list_all has_row decls)
    (and_from (up && each) distinct (and_from up each are.rising rows_hold)
    (one_default rows are.rising (defaults_agree source tree rows kept small are))) locals) once
