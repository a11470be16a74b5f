-- What is known of each place of a name, where the rules on names are kept and versions are below the limit.
use Rattle.std.proofs.Common.{◌≡◌, ◌⊎◌, ℕ, Bool, true, false, cond, Option, Some, None}
use Rattle.std.proofs.Common.{option_map, List, [], ◌∷◌, ◌++◌, refl, sym, ap, subst, ◌∙◌, inl}
use Rattle.std.proofs.Common.{inr}
use Rattle.std.specs.Prelude.{◌||◌}
use Rattle.std.specs.List.{list_any, filter_map}
use Rattle.std.proofs.lemmas.Bool.{and_parts, false≢true}
use Rattle.pm_wide.specs.Types.{Ty}
use Rattle.gim_ast.specs.declared.function.NameRow.{NameRow}
use Rattle.gim_ast.specs.Identifiers.{is_anonymous}
use Rattle.gim_ast.specs.WellFormed.{same_text}
use Rattle.pm_places.specs.declared.span.Span.{Span}
use Rattle.gim_text.proofs.SameTexts.{same_text_itself}
use Rattle.gim_text.specs.declared.tree.FunctionText.{FunctionText}
use Rattle.gim_text.specs.Texts.{name_parts}
use Rattle.pm_places.specs.Spans.{text_of}
use Rattle.gim_text.specs.declared.occurrence.Occurrence.{Occurrence}
use Rattle.gim_text.specs.declared.occurrence.Occurrence.TheVariants.{Parameter, Local, Block, Jump, Assigned, Used, Default, Constant}
use Rattle.gim_text.specs.Occurrences.{occurrences_of}
use Rattle.gim_names.proofs.OccurrencesAreOne.{one_second}
use Rattle.gim_names.specs.OccurrenceTexts.{version_in, turned, anonymous_parts, local_text}
use Rattle.gim_names.specs.OccurrenceTexts.{plain_version, default_version, version_base}
use Rattle.gim_names.specs.OccurrenceTexts.{base_default}
use Rattle.gim_names.specs.Tables.{have_one_each}
use Rattle.gim_names.specs.KeepsNames.{KeepsNames, locals_of, params_of, assigned_of, has_base, has_param, is_declared}
use Rattle.gim_names.proofs.DeclaredIdentifiers.{declares}
use Rattle.gim_making.specs.declared.places.NamePlace.{NamePlace}
use Rattle.gim_typing.specs.Declarations.{declarations_of, type_by_parts, type_of_name, number_of}
use Rattle.gim_making.specs.Names.{plain, default_at, name_place, names_in, rows_by_parts, rows_of_place, named_rows}
use Rattle.gim_text.proofs.Membership.{Has, has_contains, has_flat, from_flat, has_said, from_said, all_has, any_from_has}
use Rattle.gim_making.proofs.NameParts.{some_is, parts_are, anonymous_has_parts, IsSmall, same_number}

-- ---- pairs

-- two pairs of one first part have one second part
pub one_each : (pairs : List (List ℕ × List ℕ)) (k v w : List ℕ) → have_one_each pairs ≡ true → Has pairs (k, v) → Has pairs (k, w) → v ≡ w
one_each pairs k v w h a b = one_second pairs h (k, v) (k, w) (has_contains pairs (k, v) a) (has_contains pairs (k, w) b) refl

-- ---- places

-- each name's version is written below the limit
abbrev pub AreSmall : List ℕ → FunctionText → Type 0
AreSmall source tree =
    (place : NamePlace) → Has (names_in source tree) place → (base digits : List ℕ)
    → name_parts (text_of source place.at) ≡ Some (base, digits) → IsSmall digits

pub record PlaceFacts (source : List ℕ) (tree : FunctionText) (place : NamePlace) : Type 0 where
  pub base : List ℕ
  pub digits : List ℕ
  pub parts : name_parts (text_of source place.at) ≡ Some (base, digits)
  pub small : IsSmall digits
  pub declared : has_base (locals_of source tree) (params_of source tree) (text_of source place.at) (Some (base, digits)) ≡ true
  pub param : place.initial ≡ true → has_param (params_of source tree) (Some (base, digits)) ≡ true
  pub pair : Has (filter_map (version_base source) (occurrences_of tree)) (digits, base)
  pub default : place.initial ≡ true → Has (filter_map (default_version source) (occurrences_of tree)) digits
  pub default_pair : place.initial ≡ true → Has (filter_map (base_default source) (occurrences_of tree)) (base, digits)
  pub written : place.initial ≡ false → (base ≡ []) ⊎ Has (filter_map (plain_version source) (occurrences_of tree)) digits

has_some : (locals params : List (List ℕ)) (text : List ℕ) (o : Option (List ℕ × List ℕ))
    → has_base locals params text o ≡ true → (p : List ℕ × List ℕ) × (o ≡ Some p)
has_some locals params text None h = absurd (false≢true h)
has_some locals params text (Some p) h = (p, refl)

param_some : (params : List (List ℕ)) (o : Option (List ℕ × List ℕ)) → has_param params o ≡ true → (p : List ℕ × List ℕ) × (o ≡ Some p)
param_some params None h = absurd (false≢true h)
param_some params (Some p) h = (p, refl)

or_later : (a b : Bool) → b ≡ true → (a || b) ≡ true
or_later true b h = refl
or_later false b h = h

param_has_base : (locals params : List (List ℕ)) (text base digits : List ℕ)
    → has_param params (Some (base, digits)) ≡ true → has_base locals params text (Some (base, digits)) ≡ true
param_has_base locals params text [] digits h = absurd (false≢true h)
param_has_base locals params text (b ∷ base) digits h =
    or_later (list_any (same_text (b ∷ base)) locals) (list_any (same_text (b ∷ base)) params) h

pub param_not_bare : (params : List (List ℕ)) (base digits : List ℕ) → has_param params (Some (base, digits)) ≡ true → base ≡ [] → ⊥
param_not_bare params base digits h bare = false≢true (ap (λ b. has_param params (Some (b, digits))) (sym bare) ∙ h)

-- a name that occurs stands among the places of names
pub in_names : (source : List ℕ) (tree : FunctionText) (o : Occurrence) (place : NamePlace)
    → Has (occurrences_of tree) o → name_place source o ≡ Some place → Has (names_in source tree) place
in_names source tree o place there is = has_said (name_place source) (occurrences_of tree) o place there is

local_facts : (source : List ℕ) (tree : FunctionText) → AreSmall source tree → (at : Span)
    → Has (occurrences_of tree) (Local at) → is_anonymous (text_of source at) ≡ true
    → Has (names_in source tree) (plain at) → PlaceFacts source tree (plain at)
local_facts source tree small at there anonymous name =
    let ms = occurrences_of tree in
    let text = text_of source at in
    let found = anonymous_has_parts text anonymous in
    let local : Has (locals_of source tree) text =
    subst (λ l. Has l text) (declares source tree).locals
    (has_said (local_text source) ms (Local at) text there refl) in
    record {
      base = [];
      digits = found.0;
      parts = found.1;
      small = small (plain at) name [] found.0 found.1;
      declared = any_from_has (same_text text) (locals_of source tree) text local (same_text_itself text);
      param = λ e. absurd (false≢true e);
      pair = has_said (version_base source) ms (Local at) (found.0, []) there (ap (λ o. turned (anonymous_parts o)) found.1);
      default = λ e. absurd (false≢true e);
      default_pair = λ e. absurd (false≢true e);
      written = λ e. inl refl;
    }

-- a name without the mark of a default definition, whose base is declared
plain_facts : (source : List ℕ) (tree : FunctionText) → AreSmall source tree → (m : Occurrence) (at : Span) → Has (occurrences_of tree) m
    → version_base source m ≡ turned (name_parts (text_of source at)) → plain_version source m ≡ version_in (name_parts (text_of source at))
    → has_base (locals_of source tree) (params_of source tree) (text_of source at) (name_parts (text_of source at))
    ≡ true → Has (names_in source tree) (plain at) → PlaceFacts source tree (plain at)
plain_facts source tree small m at there pairs versions declared name =
    let ms = occurrences_of tree in
    let text = text_of source at in
    let found = has_some (locals_of source tree) (params_of source tree) text (name_parts text) declared in
    let p = found.0 in
    record {
      base = p.0;
      digits = p.1;
      parts = found.1;
      small = small (plain at) name p.0 p.1 found.1;
      declared = subst (λ o. has_base (locals_of source tree) (params_of source tree) text o ≡ true) found.1 declared;
      param = λ e. absurd (false≢true e);
      pair = has_said (version_base source) ms m (p.1, p.0) there (pairs ∙ ap turned found.1);
      default = λ e. absurd (false≢true e);
      default_pair = λ e. absurd (false≢true e);
      written = λ e. inr (has_said (plain_version source) ms m p.1 there (versions ∙ ap version_in found.1));
    }

default_facts : (source : List ℕ) (tree : FunctionText) → AreSmall source tree → (at : Span) → Has (occurrences_of tree) (Default at)
    → has_param (params_of source tree) (name_parts (text_of source at)) ≡ true
    → Has (names_in source tree) (default_at at) → PlaceFacts source tree (default_at at)
default_facts source tree small at there declared name =
    let ms = occurrences_of tree in
    let text = text_of source at in
    let found = param_some (params_of source tree) (name_parts text) declared in
    let p = found.0 in
    let param : has_param (params_of source tree) (Some (p.0, p.1)) ≡ true =
    subst (λ o. has_param (params_of source tree) o ≡ true) found.1 declared in
    record {
      base = p.0;
      digits = p.1;
      parts = found.1;
      small = small (default_at at) name p.0 p.1 found.1;
      declared = param_has_base (locals_of source tree) (params_of source tree) text p.0 p.1 param;
      param = λ e. param;
      pair = has_said (version_base source) ms (Default at) (p.1, p.0) there (ap turned found.1);
      default = λ e. has_said (default_version source) ms (Default at) p.1 there (ap version_in found.1);
      default_pair = λ e. has_said (base_default source) ms (Default at) p there found.1;
      written = λ e. absurd (false≢true (sym e));
    }

pub local_here : (b : Bool) (at : Span) (place : NamePlace) → option_map plain (cond b (Some at) None) ≡ Some place
    → (b ≡ true) × (plain at ≡ place)
local_here true at place e = (refl, some_is (plain at) place e)
local_here false at place e = absurd cc

occurrence_facts : (source : List ℕ) (tree : FunctionText) → KeepsNames source tree → AreSmall source tree
    → (o : Occurrence) (place : NamePlace) → Has (occurrences_of tree) o → name_place source o ≡ Some place
    → PlaceFacts source tree place
occurrence_facts source tree kept small (Parameter at) place there e = absurd cc
occurrence_facts source tree kept small (Block at) place there e = absurd cc
occurrence_facts source tree kept small (Jump at) place there e = absurd cc
occurrence_facts source tree kept small (Constant literal) place there e = absurd cc
occurrence_facts source tree kept small (Local at) place there e =
    let p = local_here (is_anonymous (text_of source at)) at place e in
    let name : Has (names_in source tree) (plain at) = in_names source tree (Local at) (plain at) there (e ∙ ap Some (sym p.1)) in
    subst (PlaceFacts source tree) p.1 (local_facts source tree small at there p.0 name)
occurrence_facts source tree kept small (Assigned at) place there e =
    let declared =
    all_has (is_declared source (locals_of source tree) (params_of source tree) (assigned_of source tree))
    (occurrences_of tree) kept.names (Assigned at) there in
    subst (PlaceFacts source tree) (some_is (plain at) place e)
    (plain_facts source tree small (Assigned at) at there refl refl declared
    (in_names source tree (Assigned at) (plain at) there refl))
occurrence_facts source tree kept small (Used at) place there e =
    let declared =
    all_has (is_declared source (locals_of source tree) (params_of source tree) (assigned_of source tree))
    (occurrences_of tree) kept.names (Used at) there in
    subst (PlaceFacts source tree) (some_is (plain at) place e) (plain_facts source tree small (Used at) at there refl refl
    (and_parts (has_base (locals_of source tree) (params_of source tree) (text_of source at)
    (name_parts (text_of source at))) (list_any (same_text (text_of source at)) (assigned_of source tree)) declared).0
    (in_names source tree (Used at) (plain at) there refl))
occurrence_facts source tree kept small (Default at) place there e =
    let declared =
    all_has (is_declared source (locals_of source tree) (params_of source tree) (assigned_of source tree))
    (occurrences_of tree) kept.names (Default at) there in
    subst (PlaceFacts source tree) (some_is (default_at at) place e)
    (default_facts source tree small at there declared (in_names source tree (Default at) (default_at at) there refl))

pub place_facts : (source : List ℕ) (tree : FunctionText) → KeepsNames source tree → AreSmall source tree
    → (place : NamePlace) → Has (names_in source tree) place → PlaceFacts source tree place
place_facts source tree kept small place name = let r =
    from_said (name_place source) (occurrences_of tree) place name in
    occurrence_facts source tree kept small r.0 place r.1 r.2

-- ---- two places of one version

marks_apart : (source : List ℕ) (tree : FunctionText) → KeepsNames source tree
    → (p q : NamePlace) (f : PlaceFacts source tree p) (g : PlaceFacts source tree q) → f.digits ≡ g.digits
    → f.base ≡ g.base → p.initial ≡ true → q.initial ≡ false → ⊥
marks_apart source tree kept p q f g digits bases initial plain_one =
    elim (g.written plain_one) [
      | inl bare ↦ param_not_bare (params_of source tree) f.base f.digits (f.param initial) (bases ∙ bare)
      | inr written ↦
          let one : list_any (same_text g.digits) (filter_map (plain_version source) (occurrences_of tree)) ≡ true =
          any_from_has (same_text g.digits) (filter_map (plain_version source) (occurrences_of tree)) g.digits written
          (same_text_itself g.digits) in
          let other : list_any (same_text g.digits) (filter_map (default_version source) (occurrences_of tree)) ≡ true =
          any_from_has (same_text g.digits) (filter_map (default_version source) (occurrences_of tree)) g.digits
          (subst (λ d. Has (filter_map (default_version source) (occurrences_of tree)) d) digits (f.default initial))
          (same_text_itself g.digits) in
          false≢true (sym (kept.marks g.digits one) ∙ other)
    ]

same_mark : (a b : Bool) → (a ≡ true → b ≡ false → ⊥) → (b ≡ true → a ≡ false → ⊥) → a ≡ b
same_mark true true h k = refl
same_mark true false h k = absurd (h refl refl)
same_mark false true h k = absurd (k refl refl)
same_mark false false h k = refl

-- the row of a place
abbrev pub row_at : (source : List ℕ) (tree : FunctionText) (place : NamePlace) → PlaceFacts source tree place → NameRow
row_at source tree place f =
    record {
      version = number_of f.digits;
      base = f.base;
      ty = type_of_name (declarations_of source tree) place.at;
      initial = place.initial;
    }

pub rows_at_place : (source : List ℕ) (tree : FunctionText) (place : NamePlace) (f : PlaceFacts source tree place)
    → rows_of_place (declarations_of source tree) place ≡ row_at source tree place f ∷ []
rows_at_place source tree place f = ap (rows_by_parts (declarations_of source tree) place) f.parts

pub same_base : (source : List ℕ) (tree : FunctionText) → KeepsNames source tree
    → (p q : NamePlace) (f : PlaceFacts source tree p) (g : PlaceFacts source tree q) → f.digits ≡ g.digits
    → f.base ≡ g.base
same_base source tree kept p q f g digits =
    one_each (filter_map (version_base source) (occurrences_of tree)) g.digits f.base g.base kept.bases
    (subst (λ d. Has (filter_map (version_base source) (occurrences_of tree)) (d, f.base)) digits f.pair) g.pair

pub one_row_at : (source : List ℕ) (tree : FunctionText) → KeepsNames source tree
    → (p q : NamePlace) (f : PlaceFacts source tree p) (g : PlaceFacts source tree q)
    → number_of f.digits ≡ number_of g.digits → row_at source tree p f ≡ row_at source tree q g
one_row_at source tree kept p q f g numbers =
    let known = declarations_of source tree in
    let digits : f.digits ≡ g.digits = same_number f.digits g.digits f.small g.small numbers in
    let bases = same_base source tree kept p q f g digits in
    let texts : text_of source p.at ≡ text_of source q.at =
    (parts_are (text_of source p.at) f.base f.digits f.parts).0 ∙ ap (λ b. b ++ 95 ∷ f.digits) bases
    ∙ ap (λ d. g.base ++ 95 ∷ d) digits ∙ sym (parts_are (text_of source q.at) g.base g.digits g.parts).0 in
    let types : type_of_name known p.at ≡ type_of_name known q.at = ap (λ t. type_by_parts known t (name_parts t)) texts in
    let marks : p.initial ≡ q.initial =
    same_mark p.initial q.initial (marks_apart source tree kept p q f g digits bases)
    (marks_apart source tree kept q p g f (sym digits) (sym bases)) in
    ap (λ (v : ℕ). record { version = v; base = f.base; ty = type_of_name known p.at; initial = p.initial }) numbers
    ∙ ap (λ (b : List ℕ). record { version = number_of g.digits; base = b; ty = type_of_name known p.at; initial = p.initial }) bases
    ∙ ap (λ (t : Ty). record { version = number_of g.digits; base = g.base; ty = t; initial = p.initial }) types
    ∙ ap (λ (m : Bool). record { version = number_of g.digits; base = g.base; ty = type_of_name known q.at; initial = m }) marks

-- ---- rows

pub row_place : (source : List ℕ) (tree : FunctionText) → KeepsNames source tree → AreSmall source tree
    → (row : NameRow) → Has (named_rows source tree) row
    → (place : NamePlace) × Has (names_in source tree) place × ((f : PlaceFacts source tree place) × (row_at source tree place f ≡ row))
row_place source tree kept small row h =
    let known = declarations_of source tree in
    let r = from_flat (rows_of_place known) (names_in source tree) row h in
    let f = place_facts source tree kept small r.0 r.1 in
    (r.0, r.1, (f, only row (row_at source tree r.0 f) (subst (λ l. Has l row) (rows_at_place source tree r.0 f) r.2))) where
      only : (row only_one : NameRow) → Has (only_one ∷ []) row → only_one ≡ row
      only row only_one (inl e) = e
      only row only_one (inr h) = absurd h

pub place_row : (source : List ℕ) (tree : FunctionText) (place : NamePlace) (f : PlaceFacts source tree place)
    → Has (names_in source tree) place → Has (named_rows source tree) (row_at source tree place f)
place_row source tree place f name =
    has_flat (rows_of_place (declarations_of source tree)) (names_in source tree) place (row_at source tree place f)
    name (subst (λ l. Has l (row_at source tree place f)) (sym (rows_at_place source tree place f)) (inl refl))

pub rows_agree : (source : List ℕ) (tree : FunctionText) → KeepsNames source tree → AreSmall source tree
    → (a b : NameRow) → Has (named_rows source tree) a → Has (named_rows source tree) b → a.version ≡ b.version → a ≡ b
rows_agree source tree kept small a b has_a has_b versions =
    let p = row_place source tree kept small a has_a in
    let q = row_place source tree kept small b has_b in
    let numbers = ap (λ (r : NameRow). r.version) p.2.1 ∙ versions ∙ sym (ap (λ (r : NameRow). r.version) q.2.1) in
    sym p.2.1 ∙ one_row_at source tree kept p.0 q.0 p.2.0 q.2.0 numbers ∙ q.2.1
