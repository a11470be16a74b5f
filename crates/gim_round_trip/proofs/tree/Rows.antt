-- The rules on the names of a well-formed function, one by one, and what is known of each row.
use Rattle.std.proofs.Common.{◌≡◌, ℕ, ◌<◌, Bool, true, false, cond, Some, List, [], ◌∷◌}
use Rattle.std.proofs.Common.{◌++◌, map, codes, refl, sym, ap, ◌∙◌, arith, inl, inr}
use Rattle.std.specs.Prelude.{◌==◌, ◌&&◌, ◌||◌, not, nat_lt}
use Rattle.std.specs.List.{list_all, list_any}
use Rattle.std.specs.Option.{option_map_or}
use Rattle.std.specs.Fmt.{decimal}
use Rattle.std.proofs.lemmas.Bool.{and_parts, or_cases, eq-eqb, ltb-true, not-true, false≢true}
use Rattle.pm_wide.specs.Types.{Ty, same_type}
use Rattle.pm_wide.proofs.Results.{same_type_is}
use Rattle.gim_ast.specs.declared.function.Function.{Function}
use Rattle.gim_ast.specs.declared.function.Decl.{Decl}
use Rattle.gim_ast.specs.declared.function.NameRow.{NameRow}
use Rattle.gim_ast.specs.Functions.{assigned, row_of, is_used}
use Rattle.gim_ast.specs.Identifiers.{is_anonymous, anonymous}
use Rattle.gim_printer.specs.Printing.{name_text, assigned_text, type_of_name, base_of}
use Rattle.gim_ast.specs.Readable.{is_initial}
use Rattle.gim_ast.specs.WellFormed.{IsWellFormed, same_text, all_distinct, rises, declares_as}
use Rattle.gim_ast.specs.WellFormed.{base_holds, row_stands, initial_bases, is_assigned}
use Rattle.lexing.proofs.NumberLemmas.{decimal_is_number_text}
use Rattle.gim_text.proofs.SameTexts.{same_text_is}
use Rattle.gim_text.specs.declared.limits.TheConstants.{NUMBER_LIMIT}
use Rattle.gim_text.specs.Texts.{name_parts}
use Rattle.gim_text.proofs.NameLemmas.{parts_found}
use Rattle.gim_making.specs.Names.{version_of}
use Rattle.gim_text.proofs.Membership.{Has, all_has, any_has, any_from_has, has_map}
use Rattle.gim_making.proofs.NameRows.{first_of_here, first_of_in, one_of_version}
use Rattle.gim_making.proofs.RowTables.{first_of_has}
use Rattle.gim_round_trip.specs.ReadBack.{IsWithinLimits}

-- ---- the rules on names, one by one

pub record NamesHold (f : Function) : Type 0 where
  pub rising : rises (map (λ (row : NameRow). row.version) f.names) ≡ true
  pub rows : list_all (λ (row : NameRow). base_holds f row && row_stands f row) f.names ≡ true
  pub initials : all_distinct same_text (initial_bases f.names) ≡ true
  pub locals : list_all (λ (decl : Decl). not (is_anonymous decl.ident)
      || list_any (λ (row : NameRow). same_text row.base [] && same_text (anonymous row.version) decl.ident) f.names)
      f.decls ≡ true
  pub assigned_once : all_distinct ◌==◌ (assigned f) ≡ true

pub of_names : (f : Function) → IsWellFormed f → NamesHold f
of_names f well =
    let last = and_parts _ _ well.names in
    let declared = and_parts _ _ last.0 in
    let defaults = and_parts _ _ declared.0 in
    let first = and_parts _ _ defaults.0 in
    record { rising = first.0; rows = first.1; initials = defaults.1; locals = declared.1; assigned_once = last.1 }

-- ---- rows

pub row_found : (f : Function) → IsWellFormed f → (row : NameRow) → Has f.names row → row_of f row.version ≡ Some row
unfolding row_of
row_found f well row there = first_of_here f.names row there (λ other has same. one_of_version f.names
    (of_names f well).rising other row has there same)

pub version_small : (f : Function) → IsWithinLimits f → (row : NameRow) → Has f.names row → row.version < NUMBER_LIMIT
version_small f limits row there = ltb-true row.version NUMBER_LIMIT
    (all_has (λ v. nat_lt v NUMBER_LIMIT) (map version_of f.names) limits.versions row.version (has_map version_of f.names row there))

-- what is known of the name whose row this is
pub record NameFacts (f : Function) (x : ℕ) (row : NameRow) : Type 0 where
  pub is_version : row.version ≡ x
  pub small : x < NUMBER_LIMIT
  pub in_names : Has f.names row
  pub text : assigned_text f x ≡ row.base ++ 95 ∷ decimal x
  pub parts : name_parts (assigned_text f x) ≡ Some (row.base, decimal x)
  pub initial : is_initial f x ≡ row.initial
  pub type : type_of_name f x ≡ row.ty
  pub base : base_holds f row ≡ true
  pub stands : row_stands f row ≡ true

underscored : (base bs : List ℕ) → base ++ codes "_" ++ bs ≡ base ++ 95 ∷ bs
underscored [] bs = refl
underscored (b ∷ base) bs = ap (λ t. b ∷ t) (underscored base bs)

pub name_facts : (f : Function) (x : ℕ) (row : NameRow) → IsWellFormed f → IsWithinLimits f → row_of f x ≡ Some row → NameFacts f x row
unfolding row_of base_of is_initial type_of_name
name_facts f x row well limits found =
    let has : Has f.names row = first_of_in x f.names row found in
    let version : row.version ≡ x = first_of_has x f.names row found in
    let small : x < NUMBER_LIMIT = omega (arith, version_small f limits row has, version) in
    let text : assigned_text f x ≡ row.base ++ 95 ∷ decimal x = ap (λ o. name_text (option_map_or (λ (r : NameRow). r.base) o []) x) found
    ∙ underscored row.base (decimal x) in
    let both = and_parts (base_holds f row) (row_stands f row) (all_has (λ (r : NameRow). base_holds f r && row_stands f r) f.names
    (of_names f well).rows row has) in
    record {
      is_version = version;
      small = small;
      in_names = has;
      text = text;
      parts = ap name_parts text ∙ parts_found row.base (decimal x) (decimal_is_number_text x (omega (arith, small)));
      initial = ap (λ o. option_map_or (λ (r : NameRow). r.initial) o false) found;
      type = ap (λ o. option_map_or (λ (r : NameRow). r.ty) o f.result) found;
      base = both.0;
      stands = both.1;
    }

-- an assigned name is no default definition
pub assigned_is_not_initial : (f : Function) (x : ℕ) (row : NameRow) → IsWellFormed f → IsWithinLimits f
    → Has (assigned f) x → row_of f x ≡ Some row
    → row.initial ≡ false
assigned_is_not_initial f x row well limits there found =
    let facts = name_facts f x row well limits found in
    let assigned_here : is_assigned f row.version ≡ true = any_from_has (λ y. y == row.version) (assigned f) x there
    (eq-eqb x row.version (sym facts.is_version)) in
    by row.initial (is_assigned f row.version) (is_used f row.version)
    (is_assigned f row.version || (same_text row.base [] && not (is_used f row.version))) refl assigned_here facts.stands where
      by : (initial a u other : Bool) → row.initial ≡ initial → a ≡ true → cond initial (not a && u) other ≡ true → row.initial ≡ false
      by false a u other is h stands = is
      by true true u other is h stands = absurd (false≢true stands)
      by true false u other is h stands = absurd (false≢true h)

-- a name that is used and is no default definition is assigned
pub used_is_assigned : (f : Function) (row : NameRow) → row_stands f row ≡ true → row.initial ≡ false
    → is_used f row.version ≡ true → is_assigned f row.version ≡ true
used_is_assigned f row stands plain used = by row.initial (is_assigned f row.version) (same_text row.base [])
    (is_used f row.version) stands plain used where
      by : (initial a bare u : Bool) → cond initial (not a && u) (a || (bare && not u)) ≡ true → initial ≡ false → u ≡ true → a ≡ true
      by true a bare u stands plain used = absurd (false≢true (sym plain))
      by false true bare u stands plain used = refl
      by false false true true stands plain used = stands
      by false false true false stands plain used = used
      by false false false u stands plain used = stands

-- an anonymous local is the name of a row without a base
pub local_row : (f : Function) → IsWellFormed f → (decl : Decl) → Has f.decls decl → is_anonymous decl.ident ≡ true
    → (row : NameRow) × Has f.names row × (row.base ≡ []) × (anonymous row.version ≡ decl.ident)
local_row f well decl there bare =
    let is_row = λ (d : Decl) (row : NameRow). same_text row.base [] && same_text (anonymous row.version) d.ident in
    let either =
    all_has (λ (d : Decl). not (is_anonymous d.ident) || list_any (is_row d) f.names) f.decls (of_names f well).locals
    decl there in
    let row = any_has (is_row decl) f.names (ap (λ b. not b || list_any (is_row decl) f.names) (sym bare) ∙ either) in
    let both = and_parts _ _ row.2 in
    (row.0, row.1, same_text_is row.0.base [] both.0, same_text_is (anonymous row.0.version) decl.ident both.1)

-- ---- bases

-- where the base of a row is declared, with its type: an anonymous name as a local, another base as a parameter or a local
pub data HasBase (f : Function) (row : NameRow) : Type 0 where
  bare : row.base ≡ [] → row.initial ≡ false → declares_as (anonymous row.version) row.ty f.decls ≡ true → HasBase f row
  of_param : (b : ℕ) (base : List ℕ) → row.base ≡ b ∷ base → declares_as (b ∷ base) row.ty f.params ≡ true → HasBase f row
  of_local : (b : ℕ) (base : List ℕ) → row.base ≡ b ∷ base → row.initial ≡ false
      → declares_as (b ∷ base) row.ty f.decls ≡ true → HasBase f row

pub base_of_row : (f : Function) (row : NameRow) → base_holds f row ≡ true → HasBase f row
base_of_row f row holds = by row.base refl holds where
  by : (base : List ℕ) → row.base ≡ base
      → cond (same_text base []) (not row.initial && declares_as (anonymous row.version) row.ty f.decls)
      (declares_as base row.ty f.params || (not row.initial && declares_as base row.ty f.decls)) ≡ true → HasBase f row
  by [] is h = let p = and_parts (not row.initial) (declares_as (anonymous row.version) row.ty f.decls) h in
      bare is (not-true row.initial p.0) p.1
  by (b ∷ base) is h =
      elim (or_cases (declares_as (b ∷ base) row.ty f.params) (not row.initial && declares_as (b ∷ base) row.ty f.decls)
      h) [
        | inl param ↦ of_param b base is param
        | inr local ↦ let p = and_parts (not row.initial) (declares_as (b ∷ base) row.ty f.decls) local in
            of_local b base is (not-true row.initial p.0) p.1
      ]

-- what is declared is the identifier and the type of a declaration
pub declared_as : (ident : List ℕ) (t : Ty) (decls : List Decl) → declares_as ident t decls ≡ true
    → (decl : Decl) × Has decls decl × (decl.ident ≡ ident) × (decl.ty ≡ t)
declared_as ident t decls h =
    let r = any_has (λ (decl : Decl). same_text decl.ident ident && same_type decl.ty t) decls h in
    let p = and_parts (same_text r.0.ident ident) (same_type r.0.ty t) r.2 in
    (r.0, r.1, same_text_is r.0.ident ident p.0, same_type_is r.0.ty t p.1)

-- a row without a base is declared as a local, and is no default definition
pub bare_row : (f : Function) (row : NameRow) → base_holds f row ≡ true → row.base ≡ []
    → (row.initial ≡ false) × (declares_as (anonymous row.version) row.ty f.decls ≡ true)
bare_row f row holds empty = by (base_of_row f row holds) where
  by : HasBase f row → (row.initial ≡ false) × (declares_as (anonymous row.version) row.ty f.decls ≡ true)
  by (bare is plain declared) = (plain, declared)
  by (of_param b base is declared) = absurd cc
  by (of_local b base is plain declared) = absurd cc
