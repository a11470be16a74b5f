-- Where a run comes each name has a word of its type.
use Rattle.std.proofs.Common.{◌≡◌, ℕ, zero, suc, ◌^◌, Bool, true, false, cond, eqb, Option, Some}
use Rattle.std.proofs.Common.{None, List, [], ◌∷◌, ◌++◌, ◌&&◌, ◌||◌, not, map, refl, sym, ap, subst}
use Rattle.std.proofs.Common.{◌∙◌, ⊎_elim, arith, pow_pos}
use Rattle.std.specs.Prelude.{All, nat_lt}
use Rattle.std.specs.Option.{option_map_or}
use Rattle.std.specs.List.{list_all, AllByRecursion}
use Rattle.std.proofs.lemmas.Bool.{and_parts, or_cases, both_ways, eqb-true}
use Rattle.std.proofs.lemmas.Bool.Decides.{nat_tests}
use Rattle.std.proofs.lemmas.List.Folds.{list_all-append}
use Rattle.pm_wide.specs.Types.{Ty, Word, IsType, IsWord, bool_type, same_type}
use Rattle.pm_wide.specs.Typing.{well_typed_operation}
use Rattle.pm_wide.specs.declared.operand.Operand.{Operand}
use Rattle.pm_wide.specs.declared.operand.Operand.TheVariants.{Name, Const}
use Rattle.pm_wide.proofs.Results.{same_type_is, operation_word}
use Rattle.gim_ast.specs.declared.function.Function.{Function}
use Rattle.gim_ast.specs.declared.function.Block.{Block}
use Rattle.gim_ast.specs.declared.function.Decl.{Decl}
use Rattle.gim_ast.specs.declared.function.Phi.{Phi}
use Rattle.gim_ast.specs.declared.function.Stmt.{Stmt}
use Rattle.gim_ast.specs.declared.function.NameRow.{NameRow}
use Rattle.gim_ast.specs.declared.function.Rhs.{Rhs}
use Rattle.gim_ast.specs.declared.function.Rhs.TheVariants.{Copy, Op}
use Rattle.gim_ast.specs.Functions.{first_where, row_of, block_of, operands_of_rhs, operands_of_phi}
use Rattle.gim_ast.specs.WellFormed.{IsWellFormed, same_text, declares_as, is_type_of, base_holds}
use Rattle.gim_ast.specs.WellFormed.{row_stands, is_word, type_of, operand_holds, rhs_fits}
use Rattle.gim_ast.specs.WellFormed.{phi_fits}
use Rattle.gim_ast.specs.Identifiers.{anonymous}
use Rattle.gim_ast.specs.Runs.{Env, assign, assign_each, argument_of, start_word, start_env}
use Rattle.gim_ast.specs.Runs.{word_of_operand, zero_of, name_type, phi_word, rhs_value, start_of}
use Rattle.gim_run.specs.Slots.{stmt_holds}
use Rattle.gim_run.specs.Blocks.{phi_holds, block_holds, phi_pair}
use Rattle.gim_run.proofs.SlotLemmas.{type_at_name, stmt_typed, stmt_known}
use Rattle.gim_run.proofs.StartLemmas.{words_at_start, typed_at_start}
use Rattle.gim_run.proofs.PhiLemmas.{block_phis, block_stmts}
use Rattle.gim_run.proofs.HoldLemmas.{blocks_hold}
use Rattle.gim_meaning.specs.KeptRuns.{AreArgumentWords}
use Rattle.gim_meaning.specs.PresentValues.{AreTyped}
use Rattle.gim_meaning.specs.ReachedPoints.{Spot, Between, Inside, Reaches, start, enter, pass}
use Rattle.gim_meaning.specs.ReachedPoints.{leave, Lies}
use Rattle.gim_meaning.proofs.ListSearch.{all_of_found, all_in_middle}
use Rattle.gim_meaning.proofs.Reached.{lies}

abbrev pub IsTypedWord : Ty → Word → Type 0
IsTypedWord t w = (w.ty ≡ t) × IsWord w

-- ---- types of names

declared_type : (ident : List ℕ) (t : Ty) (decls : List Decl) →
    list_all (λ (decl : Decl). is_type_of decl.ty) decls ≡ true → declares_as ident t decls ≡ true →
    IsType t
declared_type ident t [] types h = absurd (both_ways false refl h)
declared_type ident t (decl ∷ decls) types h =
    let parts = and_parts (is_type_of decl.ty)
    (list_all (λ (d : Decl). is_type_of d.ty) decls) types in
    ⊎_elim
    (λ here. subst IsType (same_type_is decl.ty t
    ((and_parts (same_text decl.ident ident) (same_type decl.ty t) here).1)) parts.0)
    (λ later. declared_type ident t decls parts.1 later)
    (or_cases (same_text decl.ident ident && same_type decl.ty t) (declares_as ident t decls) h)

row_type : (f : Function) (row : NameRow) → IsWellFormed f → base_holds f row ≡ true → IsType row.ty
row_type f row well h = by (same_text row.base []) h
  where
    declared : list_all (λ (decl : Decl). is_type_of decl.ty) (f.params ++ f.decls) ≡ true
    declared = (and_parts (is_type_of f.result)
        (list_all (λ (decl : Decl). is_type_of decl.ty) (f.params ++ f.decls)) well.types).1

    parts : (list_all (λ (decl : Decl). is_type_of decl.ty) f.params ≡ true) ×
        (list_all (λ (decl : Decl). is_type_of decl.ty) f.decls ≡ true)
    parts = and_parts (list_all (λ (decl : Decl). is_type_of decl.ty) f.params)
        (list_all (λ (decl : Decl). is_type_of decl.ty) f.decls)
        (sym (list_all-append (λ (decl : Decl). is_type_of decl.ty) f.params f.decls) ∙ declared)

    local_type : (ident : List ℕ) → (not row.initial && declares_as ident row.ty f.decls) ≡ true →
        IsType row.ty
    local_type ident e = declared_type ident row.ty f.decls parts.1
        ((and_parts (not row.initial) (declares_as ident row.ty f.decls) e).1)

    by : (b : Bool) → cond b (not row.initial && declares_as (anonymous row.version) row.ty f.decls)
        (declares_as row.base row.ty f.params ||
        (not row.initial && declares_as row.base row.ty f.decls)) ≡ true → IsType row.ty
    by true e = local_type (anonymous row.version) e
    by false e = ⊎_elim (λ param. declared_type row.base row.ty f.params parts.0 param)
        (λ decl. local_type row.base decl)
        (or_cases (declares_as row.base row.ty f.params)
        (not row.initial && declares_as row.base row.ty f.decls) e)

found_row_type : (f : Function) → IsWellFormed f → (x : ℕ) (row : NameRow) → row_of f x ≡ Some row →
    IsType row.ty
unfolding row_of
found_row_type f well x row is =
    let rows : list_all (λ (r : NameRow). base_holds f r && row_stands f r) f.names ≡ true =
    (and_parts _ _ (and_parts _ _ (and_parts _ _ (and_parts _ _ well.names).0).0).0).1 in
    row_type f row well ((and_parts _ _ (all_of_found (λ (r : NameRow). eqb r.version x)
    (λ (r : NameRow). base_holds f r && row_stands f r) f.names row is rows)).0)

pub name_has_type : (f : Function) → IsWellFormed f → (x : ℕ) → IsType (name_type f x)
unfolding name_type
name_has_type f well x = by (row_of f x) refl
  where
    by : (found : Option NameRow) → row_of f x ≡ found →
        IsType (option_map_or (λ (row : NameRow). row.ty) found bool_type)
    by None is = refl
    by (Some row) is = found_row_type f well x row is

-- ---- at the start

pub zero_is_word : (t : Ty) → IsType t → IsWord (zero_of t)
zero_is_word t is = (pow_pos t.width, is)

argument_is_word : (ident : List ℕ) (params : List Decl) (args : List Word) (t : Ty) → IsType t →
    AllByRecursion IsWord args → IsWord (option_map_or (λ w. w) (argument_of ident params args)
    (zero_of t))
argument_is_word ident [] args t is words = zero_is_word t is
argument_is_word ident (decl ∷ decls) [] t is words = zero_is_word t is
argument_is_word ident (decl ∷ decls) (w ∷ args) t is words =
    by (same_text decl.ident ident) words.0 (argument_is_word ident decls args t is words.1)
  where
    by : (b : Bool) → IsWord w → IsWord (option_map_or (λ v. v) (argument_of ident decls args)
        (zero_of t)) → IsWord (option_map_or (λ v. v)
        (cond b (Some w) (argument_of ident decls args)) (zero_of t))
    by true here rest = here
    by false here rest = rest

start_is_word : (f : Function) (args : List Word) (row : NameRow) → IsType row.ty →
    AllByRecursion IsWord args → IsWord (start_word f args row)
start_is_word f args row is words = by row.initial
  where
    by : (b : Bool) → IsWord (cond b (option_map_or (λ w. w) (argument_of row.base f.params args)
        (zero_of row.ty)) (zero_of row.ty))
    by true = argument_is_word row.base f.params args row.ty is words
    by false = zero_is_word row.ty is

start_typed : (f : Function) (args : List Word) → IsWellFormed f → AreArgumentWords f args →
    AreTyped f (start_env f args)
unfolding start_env
start_typed f args well words x = (
  ap (λ (env : Env). (env x).ty) (sym (words_at_start f args))
      ∙ type_at_name f (map (start_word f args) f.names) (typed_at_start f args well words.types) x,
  by (row_of f x) refl,
)
  where
    by : (found : Option NameRow) → row_of f x ≡ found →
        IsWord (option_map_or (start_word f args) found (zero_of bool_type))
    by None is = zero_is_word bool_type refl
    by (Some row) is = start_is_word f args row (found_row_type f well x row is) words.words

-- ---- what is read

pub constant_is_word : (w : Word) → is_word w ≡ true → IsWord w
constant_is_word w h =
    let parts = and_parts (is_type_of w.ty) (nat_lt w.bits (2 ^ w.ty.width)) h in
    (grind (arith, nat_tests), parts.0)

all_by_index : {X : Type 0} (P : X → Type 0) (xs : List X) → AllByRecursion P xs → All P xs
all_by_index P [] all k d within = absurd (omega arith)
all_by_index P (x ∷ xs) all zero d within = all.0
all_by_index P (x ∷ xs) all (suc k) d within = all_by_index P xs all.1 k d (omega arith)

phi_args_fit : (f : Function) (phi : Phi) → phi_fits f phi ≡ true →
    list_all (λ (arg : ℕ × Operand). same_type (type_of arg.1) (name_type f phi.name)) phi.args
    ≡ true
unfolding name_type
phi_args_fit f phi h = by (row_of f phi.name) h
  where
    by : (found : Option NameRow) → option_map_or
        (λ (row : NameRow). list_all (λ (arg : ℕ × Operand). same_type (type_of arg.1) row.ty)
        phi.args) found false ≡ true →
        list_all (λ (arg : ℕ × Operand). same_type (type_of arg.1)
        (option_map_or (λ (row : NameRow). row.ty) found bool_type)) phi.args ≡ true
    by None k = absurd (both_ways false refl k)
    by (Some row) k = k

-- a name that holds as an operand has the type that it has there
pub type_that_holds : (f : Function) (x : ℕ) (t : Ty) → operand_holds f (Name x t) ≡ true →
    name_type f x ≡ t
unfolding name_type
type_that_holds f x t h = by (row_of f x) h
  where
    by : (found : Option NameRow) →
        option_map_or (λ (row : NameRow). same_type row.ty t) found false ≡ true →
        option_map_or (λ (row : NameRow). row.ty) found bool_type ≡ t
    by None k = absurd (both_ways false refl k)
    by (Some row) k = same_type_is row.ty t k

module _ (f : Function) (e : Env) (typed : AreTyped f e) where
  operand_typed : (a : Operand) → operand_holds f a ≡ true →
      IsTypedWord (type_of a) (word_of_operand e a)
  operand_typed (Name x t) h = ((typed x).0 ∙ type_that_holds f x t h, (typed x).1)
  operand_typed (Const w) h = (refl, constant_is_word w h)

  operands_typed : (operands : List Operand) → list_all (operand_holds f) operands ≡ true →
      (map (λ (w : Word). w.ty) (map (word_of_operand e) operands) ≡ map type_of operands) ×
      AllByRecursion IsWord (map (word_of_operand e) operands)
  operands_typed [] h = (refl, tt)
  operands_typed (a ∷ operands) h =
      let parts = and_parts (operand_holds f a) (list_all (operand_holds f) operands) h in
      let here = operand_typed a parts.0 in
      let rest = operands_typed operands parts.1 in (
        ap (λ t. t ∷ map (λ (w : Word). w.ty) (map (word_of_operand e) operands)) here.0
            ∙ ap (λ ts. type_of a ∷ ts) rest.0,
        (here.1, rest.1),
      )

  -- the value of a right side that fits a type is a word of that type
  pub value_typed : (t : Ty) → IsType t → (rhs : Rhs) (w : Word) →
      list_all (operand_holds f) (operands_of_rhs rhs) ≡ true → rhs_fits t rhs ≡ true →
      rhs_value t e rhs ≡ Some w → IsTypedWord t w
  value_typed t is (Copy a) w h fits value =
      let here = operand_typed a ((and_parts (operand_holds f a) true h).0) in
      let same : word_of_operand e a ≡ w = cc in
      subst (IsTypedWord t) same (here.0 ∙ same_type_is (type_of a) t fits, here.1)
  value_typed t is (Op code operands) w h fits value =
      let known = operands_typed operands h in
      let result = operation_word code t (map (word_of_operand e) operands) w
      (subst (λ ts. well_typed_operation code t ts ≡ true) (sym known.0) fits) value in
      (result.0, result.1 (is, all_by_index IsWord (map (word_of_operand e) operands) known.1))

  arg_typed : (from : ℕ) (t : Ty) → IsType t → (args : List (ℕ × Operand)) →
      list_all (λ (arg : ℕ × Operand). same_type (type_of arg.1) t) args ≡ true →
      list_all (operand_holds f) (map (λ (arg : ℕ × Operand). arg.1) args) ≡ true →
      IsTypedWord t (option_map_or (λ (arg : ℕ × Operand). word_of_operand e arg.1)
      (first_where (λ (arg : ℕ × Operand). eqb arg.0 from) args) (zero_of t))
  arg_typed from t is [] fits holds = (refl, zero_is_word t is)
  arg_typed from t is (arg ∷ args) fits holds =
      let fit = and_parts (same_type (type_of arg.1) t)
      (list_all (λ (a : ℕ × Operand). same_type (type_of a.1) t) args) fits in
      let hold = and_parts (operand_holds f arg.1)
      (list_all (operand_holds f) (map (λ (a : ℕ × Operand). a.1) args)) holds in
      let here = operand_typed arg.1 hold.0 in
      by (eqb arg.0 from) (here.0 ∙ same_type_is (type_of arg.1) t fit.0, here.1)
      (arg_typed from t is args fit.1 hold.1)
    where
      found : Option (ℕ × Operand)
      found = first_where (λ (a : ℕ × Operand). eqb a.0 from) args

      by : (b : Bool) → IsTypedWord t (word_of_operand e arg.1) →
          IsTypedWord t (option_map_or (λ (a : ℕ × Operand). word_of_operand e a.1) found
          (zero_of t)) →
          IsTypedWord t (option_map_or (λ (a : ℕ × Operand). word_of_operand e a.1)
          (cond b (Some arg) found) (zero_of t))
      by true here rest = here
      by false here rest = rest

  phi_typed : IsWellFormed f → (from : ℕ) (phi : Phi) → phi_holds f phi ≡ true →
      IsTypedWord (name_type f phi.name) (phi_word f from e phi)
  phi_typed well from phi h =
      let parts = and_parts (phi_fits f phi) (list_all (operand_holds f) (operands_of_phi phi)) h in
      arg_typed from (name_type f phi.name) (name_has_type f well phi.name) phi.args
      (phi_args_fit f phi parts.0) parts.1

-- ---- along a run

assigned_typed : (f : Function) (e : Env) (y : ℕ) (w : Word) → AreTyped f e →
    IsTypedWord (name_type f y) w → AreTyped f (assign y w e)
assigned_typed f e y w typed word x = by (eqb y x) refl
  where
    by : (b : Bool) → eqb y x ≡ b → IsTypedWord (name_type f x) (cond b w (e x))
    by true is = subst (λ z. IsTypedWord (name_type f z) w) (eqb-true y x is) word
    by false is = typed x

phis_typed : (f : Function) → IsWellFormed f → (from : ℕ) (old : Env) → AreTyped f old →
    (phis : List Phi) → list_all (phi_holds f) phis ≡ true → (e : Env) → AreTyped f e →
    AreTyped f (assign_each (map (phi_pair f from old) phis) e)
phis_typed f well from old old_typed [] hold e typed = typed
phis_typed f well from old old_typed (phi ∷ phis) hold e typed =
    let parts = and_parts (phi_holds f phi) (list_all (phi_holds f) phis) hold in
    phis_typed f well from old old_typed phis parts.1 (assign phi.name (phi_word f from old phi) e)
    (assigned_typed f e phi.name (phi_word f from old phi) typed
    (phi_typed f old old_typed well from phi parts.0))

pub block_is_right : (f : Function) → IsWellFormed f → (n : ℕ) (block : Block) →
    block_of f n ≡ Some block → block_holds f block ≡ true
unfolding block_of
block_is_right f well n block found = all_of_found (λ (b : Block). eqb b.number n)
    (block_holds f) f.blocks block found (blocks_hold f well)

pub stmt_is_right : (f : Function) → IsWellFormed f →
    (block : Block) (stmt : Stmt) (stmts : List Stmt) → Lies f block (stmt ∷ stmts) →
    stmt_holds f stmt ≡ true
stmt_is_right f well block stmt stmts there =
    all_in_middle (stmt_holds f) there.front stmt stmts
    (subst (λ ss. list_all (stmt_holds f) ss ≡ true) there.is
    (block_stmts f block (block_is_right f well block.number block there.found)))

abbrev TypedThere : Function → Spot → Type 0
TypedThere f (Between place) = AreTyped f place.env
TypedThere f (Inside block stmts e) = AreTyped f e

typed_on_the_way : (f : Function) (args : List Word) → IsWellFormed f → AreArgumentWords f args →
    AreTyped f (start_of f args).env
unfolding start_of
typed_on_the_way f args well words = start_typed f args well words

typed_there : (f : Function) (args : List Word) → IsWellFormed f → AreArgumentWords f args →
    (spot : Spot) → Reaches f args spot → TypedThere f spot
typed_there f args well words _ start = typed_on_the_way f args well words
typed_there f args well words _ (enter place block is before) =
    let typed = typed_there f args well words (Between place) before in
    phis_typed f well place.from place.env typed block.phis
    (block_phis f block (block_is_right f well place.to block is)) place.env typed
typed_there f args well words _ (pass block stmt stmts e w value before) =
    let typed = typed_there f args well words (Inside block (stmt ∷ stmts) e) before in
    let right = stmt_is_right f well block stmt stmts (lies before) in
    assigned_typed f e stmt.name w typed
    (value_typed f e typed (name_type f stmt.name) (name_has_type f well stmt.name) stmt.rhs w
    (stmt_known f stmt right) (stmt_typed f stmt right) value)
typed_there f args well words _ (leave block e n leads before) =
    typed_there f args well words (Inside block [] e) before

pub names_are_typed : (f : Function) (args : List Word) → IsWellFormed f → AreArgumentWords f args →
    (block : Block) (stmts : List Stmt) (e : Env) → Reaches f args (Inside block stmts e) →
    AreTyped f e
names_are_typed f args well words block stmts e reached =
    typed_there f args well words (Inside block stmts e) reached
