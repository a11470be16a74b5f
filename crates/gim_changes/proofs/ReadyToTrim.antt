-- A function whose rows of `names` may stay behind what they are of: trimming makes it well formed.
use Rattle.std.proofs.Common.{◌≡◌, ℕ, ◌^◌, ◌≤◌, Bool, true, false, cond, not, ◌&&◌, ◌||◌, List, [], ◌∷◌, length, map, filter, eqb, refl, sym, ap, ◌∙◌, subst, inl, inr, ⊎_elim, arith}
use Rattle.std.specs.Bool.{IsTrue}
use Rattle.std.specs.Prelude.{nat_lt}
use Rattle.std.specs.List.{list_any, list_all}
use Rattle.std.specs.Option.{option_map_or}
use Rattle.std.proofs.lemmas.Bool.{and_parts, and_from, or_cases, or_left, or_right, not-true, both_ways, eqb-true, ltb-true, lt-ltb}
use Rattle.pm_wide.specs.Types.{same_type}
use Rattle.pm_wide.specs.declared.operand.Operand.{Operand}
use Rattle.pm_wide.specs.declared.operand.Operand.TheVariants.{Name, Const}
use Rattle.gim_ast.specs.declared.function.Function.{Function}
use Rattle.gim_ast.specs.declared.function.Block.{Block}
use Rattle.gim_ast.specs.declared.function.Decl.{Decl}
use Rattle.gim_ast.specs.declared.function.NameRow.{NameRow}
use Rattle.gim_ast.specs.Functions.{operands_of, assigned, assigned_in, phi_name, stmt_name, row_of, right_of, is_used}
use Rattle.gim_ast.specs.Identifiers.{is_anonymous, anonymous}
use Rattle.gim_ast.specs.WellFormed.{same_text, all_distinct, declarations_hold, types_hold, base_holds, is_assigned, row_stands, initial_bases, names_rise, names_hold, blocks_hold, operand_holds, rhs_fits, stmt_fits, phi_fits, end_fits, block_fits, operands_hold, bounds_hold, type_of, IsWellFormed}
use Rattle.gim_ast.specs.Readable.{read_for, Supports, is_initial, IsValid}
use Rattle.gim_changes.specs.Trimming.{stands_in, is_empty_text, row_stays, trimmed}
use Rattle.gim_changes.specs.Validity.{IsAssignedAfter}
use Rattle.gim_changes.proofs.Members.{IsMember, all_members, all_from_members, any_from_member, member_from_any, member_left, member_right, member_filtered, filtered_member, mapped_member, part_member, all_stay}
use Rattle.gim_changes.proofs.DistinctNumbers.{AreDistinct}
use Rattle.gim_changes.proofs.FilteredLists.{fewer_filtered, rises_filtered, initials_filtered, first_of_filtered}
use Rattle.gim_changes.proofs.NamesRead.{IsRead}
use Rattle.gim_changes.proofs.NamesUsed.{names_it, read_is_used, used_stands, assigned_stands}
use Rattle.gim_changes.proofs.RulesOfNames.{row_cases, rows_hold, member_among}
use Rattle.gim_changes.proofs.AlwaysAssigned.{AreUsesAssigned, valid_from}

-- the row may be one of its name, or of a name that stands nowhere: a default definition isn't assigned, and any other name is assigned where it is used
pub record MayStay (f : Function) (row : NameRow) : Type 0 where
  pub initial : row.initial ≡ true → is_assigned f row.version ≡ false
  pub other : row.initial ≡ false → is_used f row.version ≡ true → is_assigned f row.version ≡ true

-- the anonymous local has its row
abbrev pub has_row : List NameRow → Decl → Bool
has_row rows decl = not (is_anonymous decl.ident) || list_any (λ (row : NameRow). same_text row.base [] && same_text (anonymous row.version) decl.ident) rows

pub record IsReadyToTrim (f : Function) : Type 0 where
  pub declarations : IsTrue (declarations_hold f)
  pub types : IsTrue (types_hold f)
  pub rise : IsTrue (names_rise f)
  pub bases : (row : NameRow) → IsMember row f.names → base_holds f row ≡ true
  pub rows : (row : NameRow) → IsMember row f.names → MayStay f row
  pub initials : all_distinct same_text (initial_bases f.names) ≡ true
  pub locals : list_all (has_row f.names) f.decls ≡ true
  pub once : AreDistinct (assigned f)
  pub blocks : IsTrue (blocks_hold f)
  pub operands : IsTrue (operands_hold f)
  pub bounds : IsTrue (bounds_hold f)

-- ---- rows

empty_is : (text : List ℕ) → is_empty_text text ≡ true → same_text text [] ≡ true
empty_is [] h = refl
empty_is (b ∷ bs) h = h

is_empty : (text : List ℕ) → same_text text [] ≡ true → is_empty_text text ≡ true
is_empty [] h = refl
is_empty (b ∷ bs) h = h

taken : (b x y : Bool) → b ≡ true → cond b x y ≡ true → x ≡ true
taken b x y is h = subst (λ c. cond c x y ≡ true) is h

-- an anonymous name is no default definition
anonymous_is_plain : (f : Function) (row : NameRow) → base_holds f row ≡ true → is_empty_text row.base ≡ true → row.initial ≡ true → ⊥
anonymous_is_plain f row holds empty initial =
    both_ways row.initial (not-true row.initial (and_parts _ _ (taken (same_text row.base []) _ _ (empty_is row.base empty) holds)).0) initial

stands_from : (f : Function) (row : NameRow) → base_holds f row ≡ true → MayStay f row → row_stays f row ≡ true → row_stands f row ≡ true
stands_from f row holds may stays = by row.initial refl (is_assigned f row.version) refl (is_used f row.version) refl
  where
    by : (i : Bool) → row.initial ≡ i → (a : Bool) → is_assigned f row.version ≡ a → (u : Bool) → is_used f row.version ≡ u →
        cond i (not a && u) (a || (same_text row.base [] && not u)) ≡ true
    by true is true assigned u used = absurd (both_ways (is_assigned f row.version) (may.initial is) assigned)
    by true is false assigned u used = ⊎_elim
        (λ stands. ⊎_elim (λ found. absurd (both_ways (is_assigned f row.version) assigned found)) (λ found. sym used ∙ found) (or_cases (is_assigned f row.version) (is_used f row.version) stands))
        (λ empty. absurd (anonymous_is_plain f row holds empty is))
        (or_cases (stands_in f row.version) (is_empty_text row.base) stays)
    by false is true assigned u used = refl
    by false is false assigned true used = absurd (both_ways (is_assigned f row.version) assigned (may.other is used))
    by false is false assigned false used = ⊎_elim
        (λ stands. ⊎_elim (λ found. absurd (both_ways (is_assigned f row.version) assigned found)) (λ found. absurd (both_ways (is_used f row.version) used found))
        (or_cases (is_assigned f row.version) (is_used f row.version) stands))
        (λ empty. and_from (same_text row.base []) true (empty_is row.base empty) refl)
        (or_cases (stands_in f row.version) (is_empty_text row.base) stays)

-- the rows that stay
abbrev kept : Function → List NameRow
kept f = filter (row_stays f) f.names

abbrev with_names : List NameRow → Function → Function
with_names rows f = record f { names = rows }

stands_alike : (rows : List NameRow) (f : Function) (row : NameRow) → row_stands (with_names rows f) row ≡ row_stands f row
unfolding assigned operands_of
stands_alike rows f row = refl

rows_kept : (f : Function) → IsReadyToTrim f → list_all (λ (row : NameRow). base_holds (with_names (kept f) f) row && row_stands (with_names (kept f) f) row) (kept f) ≡ true
rows_kept f ready = all_from_members (λ (row : NameRow). base_holds (with_names (kept f) f) row && row_stands (with_names (kept f) f) row) (kept f) (λ row one.
    let found = member_filtered (row_stays f) row f.names one in
    and_from (base_holds f row) (row_stands (with_names (kept f) f) row) (ready.bases row found.0)
    (stands_alike (kept f) f row ∙ stands_from f row (ready.bases row found.0) (ready.rows row found.0) found.1))

has_row_kept : (f : Function) (decl : Decl) → has_row f.names decl ≡ true → has_row (kept f) decl ≡ true
has_row_kept f decl has = ⊎_elim
    (λ plain. or_left (not (is_anonymous decl.ident)) _ plain)
    (λ any.
    let p = λ (row : NameRow). same_text row.base [] && same_text (anonymous row.version) decl.ident in
    let found = member_from_any p f.names any in
    or_right (not (is_anonymous decl.ident)) _ (any_from_member p (kept f) found.0
    (filtered_member (row_stays f) found.0 f.names found.1 (or_right (stands_in f found.0.version) (is_empty_text found.0.base) (is_empty found.0.base (and_parts _ _ found.2).0))) found.2))
    (or_cases (not (is_anonymous decl.ident)) _ has)

names_kept : (f : Function) → IsReadyToTrim f → names_hold (with_names (kept f) f) ≡ true
unfolding assigned
names_kept f ready =
    and_from _ _ (and_from _ _ (and_from _ _ (and_from _ _ (rises_filtered (row_stays f) f.names ready.rise) (rows_kept f ready)) (initials_filtered (row_stays f) f.names ready.initials))
    (all_from_members (has_row (kept f)) f.decls (λ decl one. has_row_kept f decl (all_members (has_row f.names) f.decls ready.locals decl one)))) ready.once

-- ---- operands

row_found : (f : Function) (x : ℕ) → stands_in f x ≡ true → row_of (with_names (kept f) f) x ≡ row_of f x
unfolding row_of
row_found f x stands =
    first_of_filtered (row_stays f) (λ (row : NameRow). eqb row.version x) (λ row is.
    or_left (stands_in f row.version) (is_empty_text row.base) (subst (λ v. stands_in f v ≡ true) (sym (eqb-true row.version x is)) stands)) f.names

operand_kept : (f : Function) (a : Operand) → IsMember a (operands_of f) → operand_holds f a ≡ true → operand_holds (with_names (kept f) f) a ≡ true
operand_kept f (Name x t) one holds =
    subst (λ o. option_map_or (λ (row : NameRow). same_type row.ty t) o false ≡ true) (sym (row_found f x (used_stands f x (names_it x t (operands_of f) one)))) holds
operand_kept f (Const w) one holds = holds

block_assigned : (f : Function) (b : Block) (x : ℕ) → IsMember b f.blocks → IsMember x (assigned_in b) → is_assigned f x ≡ true
unfolding assigned
block_assigned f b x one mine = member_among x (assigned f) (part_member assigned_in x b f.blocks one mine)

block_kept : (f : Function) (b : Block) → IsMember b f.blocks → block_fits f b ≡ true → block_fits (with_names (kept f) f) b ≡ true
block_kept f b one fits =
    let parts = and_parts (list_all (phi_fits f) b.phis && list_all (stmt_fits f) b.stmts) (end_fits f b.end) fits in
    let both = and_parts (list_all (phi_fits f) b.phis) (list_all (stmt_fits f) b.stmts) parts.0 in
    let t = with_names (kept f) f in
    and_from (list_all (phi_fits t) b.phis && list_all (stmt_fits t) b.stmts) (end_fits t b.end)
    (and_from (list_all (phi_fits t) b.phis) (list_all (stmt_fits t) b.stmts)
    (all_from_members (phi_fits t) b.phis (λ phi mine.
    subst (λ o. option_map_or (λ (row : NameRow). list_all (λ (arg : ℕ × Operand). same_type (type_of arg.1) row.ty) phi.args) o false ≡ true)
    (sym (row_found f phi.name (assigned_stands f phi.name (block_assigned f b phi.name one (member_left phi.name (map phi_name b.phis) (map stmt_name b.stmts) (mapped_member phi_name phi b.phis mine))))))
    (all_members (phi_fits f) b.phis both.0 phi mine)))
    (all_from_members (stmt_fits t) b.stmts (λ stmt mine.
    subst (λ o. option_map_or (λ (row : NameRow). rhs_fits row.ty stmt.rhs) o false ≡ true)
    (sym (row_found f stmt.name (assigned_stands f stmt.name (block_assigned f b stmt.name one (member_right stmt.name (map phi_name b.phis) (map stmt_name b.stmts) (mapped_member stmt_name stmt b.stmts mine))))))
    (all_members (stmt_fits f) b.stmts both.1 stmt mine))))
    parts.1

operands_kept : (f : Function) → operands_hold f ≡ true → operands_hold (with_names (kept f) f) ≡ true
unfolding operands_of
operands_kept f holds =
    let parts = and_parts (list_all (operand_holds f) (operands_of f)) (list_all (block_fits f) f.blocks) holds in
    let t = with_names (kept f) f in
    and_from (list_all (operand_holds t) (operands_of f)) (list_all (block_fits t) f.blocks)
    (all_from_members (operand_holds t) (operands_of f) (λ a one. operand_kept f a one (all_members (operand_holds f) (operands_of f) parts.0 a one)))
    (all_from_members (block_fits t) f.blocks (λ b one. block_kept f b one (all_members (block_fits f) f.blocks parts.1 b one)))

pub below : (m n k : ℕ) → m ≤ n → nat_lt n k ≡ true → nat_lt m k ≡ true
below m n k less is = lt-ltb m k (omega (arith, ltb-true n k is, less))

bounds_kept : (f : Function) → bounds_hold f ≡ true → bounds_hold (with_names (kept f) f) ≡ true
unfolding operands_of
bounds_kept f holds =
    let parts = and_parts (nat_lt (length f.blocks) (2 ^ 31) && nat_lt (length f.names) (2 ^ 31)) (nat_lt (length (operands_of f)) (2 ^ 31)) holds in
    let both = and_parts (nat_lt (length f.blocks) (2 ^ 31)) (nat_lt (length f.names) (2 ^ 31)) parts.0 in
    and_from (nat_lt (length f.blocks) (2 ^ 31) && nat_lt (length (kept f)) (2 ^ 31)) (nat_lt (length (operands_of f)) (2 ^ 31))
    (and_from (nat_lt (length f.blocks) (2 ^ 31)) (nat_lt (length (kept f)) (2 ^ 31)) both.0 (below (length (kept f)) (length f.names) (2 ^ 31) (fewer_filtered (row_stays f) f.names) both.1))
    parts.1

pub trimmed_well_formed : (f : Function) → IsReadyToTrim f → IsWellFormed (trimmed f)
unfolding trimmed
trimmed_well_formed f ready = record {
  declarations = ready.declarations;
  types = ready.types;
  names = names_kept f ready;
  blocks = ready.blocks;
  operands = operands_kept f ready.operands;
  bounds = bounds_kept f ready.bounds;
}

-- ---- functions whose rows all stand

pub stays_where_stands : (f : Function) (row : NameRow) → row_stands f row ≡ true → row_stays f row ≡ true
stays_where_stands f row stands = ⊎_elim
    (λ initial. or_left (stands_in f row.version) (is_empty_text row.base) (used_stands f row.version initial.2))
    (λ other. ⊎_elim
    (λ assigned. or_left (stands_in f row.version) (is_empty_text row.base) (assigned_stands f row.version assigned))
    (λ alone. or_right (stands_in f row.version) (is_empty_text row.base) (is_empty row.base (and_parts _ _ alone).0))
    (or_cases (is_assigned f row.version) _ other.1))
    (row_cases f row stands)

pub trimmed_with_all : (f : Function) → list_all (row_stays f) f.names ≡ true → trimmed f ≡ f
unfolding trimmed
trimmed_with_all f all = ap (λ rows. with_names rows f) (all_stay (row_stays f) f.names all)

-- of a well-formed function each row stays
pub trimmed_is : (f : Function) → IsWellFormed f → trimmed f ≡ f
trimmed_is f well = trimmed_with_all f (all_from_members (row_stays f) f.names (λ row one.
    stays_where_stands f row (and_parts _ _ (all_members (λ (r : NameRow). base_holds f r && row_stands f r) f.names (rows_hold f well.names) row one)).1))

-- ---- valid ones

-- what is assigned from more default definitions
pub assigned_from_more : (initial other : ℕ → Bool) (x : ℕ) → (initial x ≡ true → other x ≡ true) → (past : List ℕ) → IsAssignedAfter initial x past → IsAssignedAfter other x past
assigned_from_more initial other x more [] is = more is
assigned_from_more initial other x more (y ∷ past) is = ⊎_elim (λ now. inl now) (λ earlier. inr (assigned_from_more initial other x more past earlier)) is

initial_kept : (f : Function) (x : ℕ) → stands_in f x ≡ true → is_initial (with_names (kept f) f) x ≡ is_initial f x
unfolding is_initial
initial_kept f x stands = ap (λ o. option_map_or (λ (row : NameRow). row.initial) o false) (row_found f x stands)

apart_in_trimmed : (f : Function) → ((x : ℕ) → Supports (read_for f) x x → ⊥) → (y n : ℕ) (left : List ℕ) → IsRead (trimmed f) y n left → Supports (read_for (trimmed f)) y y → ⊥
unfolding trimmed read_for right_of
apart_in_trimmed f apart y n left reads supports = apart y supports

all_in_trimmed : (f : Function) → AreUsesAssigned f → AreUsesAssigned (trimmed f)
unfolding trimmed
all_in_trimmed f all y n left reads past path =
    assigned_from_more (is_initial f) (is_initial (with_names (kept f) f)) y
    (λ is. initial_kept f y (used_stands f y (read_is_used f y n left reads)) ∙ is) past (all y n left reads past path)

pub trimmed_valid : (f : Function) → IsReadyToTrim f → ((x : ℕ) → Supports (read_for f) x x → ⊥) → AreUsesAssigned f → IsValid (trimmed f)
trimmed_valid f ready apart all = valid_from (trimmed f) (trimmed_well_formed f ready) (apart_in_trimmed f apart) (all_in_trimmed f all)
