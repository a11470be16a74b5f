-- Slots are read and written as the words of names.
use Rattle.std.proofs.Common.{◌≡◌, ℕ, zero, suc, ◌<◌, ◌≤◌, Bool, true, false, cond, ◌==◌, ◌&&◌, List, [], ◌∷◌, length, map, get_or, set, Option, Some, None, refl, sym, ap, subst, ◌∙◌, ◌⊎◌, inl, inr, arith}
use Rattle.std.specs.Prelude.{slice_get}
use Rattle.std.specs.Option.{option_map_or}
use Rattle.std.specs.List.{list_all}
use Rattle.std.proofs.lemmas.List.{length-map}
use Rattle.std.proofs.lemmas.Option.{slice_get_cases, slice_get_past}
use Rattle.std.proofs.Math.Seq.{map-set_same}
use Rattle.pm_wide.specs.Types.{Ty, Word, bool_type, same_type}
use Rattle.pm_ops.specs.Codes.{is_comparison_code}
use Rattle.pm_ops.specs.declared.code.Code.{Code}
use Rattle.pm_ops.specs.declared.code.Code.TheVariants.{Eq, Ne, Lt, Le, Gt, Ge}
use Rattle.pm_wide.specs.Typing.{well_typed_operation}
use Rattle.pm_wide.specs.Operations.{operation_value}
use Rattle.pm_wide.specs.declared.operand.Operand.{Operand}
use Rattle.pm_wide.specs.declared.operand.Operand.TheVariants.{Name, Const}
use Rattle.pm_wide.proofs.Results.{same_type_is, operation_word}
use Rattle.gim_ast.specs.declared.function.Function.{Function}
use Rattle.gim_ast.specs.declared.function.NameRow.{NameRow}
use Rattle.gim_ast.specs.declared.function.Stmt.{Stmt}
use Rattle.gim_ast.specs.declared.function.Rhs.{Rhs}
use Rattle.gim_ast.specs.declared.function.Rhs.TheVariants.{Copy, Op}
use Rattle.gim_ast.specs.Functions.{first_where, row_of, operands_of_rhs}
use Rattle.gim_ast.specs.WellFormed.{operand_holds, type_of, stmt_fits, rhs_fits}
use Rattle.gim_ast.specs.Runs.{zero_of, assign, word_of_operand, rhs_value, name_type}
use Rattle.gim_run.specs.Slots.{place_of, env_of, types_of_rows, types_of_words, AreSlots, stmt_holds}

-- ---- reading

pub read_slot : (rows : List NameRow) (words : List Word) (x : ℕ) → length words ≤ length rows → env_of rows words x ≡ get_or words (place_of rows x) (zero_of bool_type)
read_slot [] [] x h = refl
read_slot [] (w ∷ words) x h = absurd (omega arith)
read_slot (row ∷ rows) [] x h = refl
read_slot (row ∷ rows) (w ∷ words) x h =
    let rest : env_of rows words x ≡ get_or words (place_of rows x) (zero_of bool_type) = read_slot rows words x (omega arith) in
    choose (row.version == x) rest
  where
    choose : (b : Bool) → env_of rows words x ≡ get_or words (place_of rows x) (zero_of bool_type) → cond b w (env_of rows words x) ≡ get_or (w ∷ words) (cond b zero (suc (place_of rows x))) (zero_of bool_type)
    choose true rest = refl
    choose false rest = rest

pub slot_count : (f : Function) (words : List Word) → AreSlots f words → length words ≡ length f.names
slot_count f words h = sym (length-map words (λ (w : Word). w.ty)) ∙ ap length h ∙ length-map f.names (λ (row : NameRow). row.ty)

pub read_word : (f : Function) (words : List Word) (x : ℕ) → AreSlots f words → get_or words (place_of f.names x) (zero_of bool_type) ≡ env_of f.names words x
read_word f words x h =
    let count : length words ≡ length f.names = slot_count f words h in
    sym (read_slot f.names words x (omega arith))

-- ---- writing

write_at : (rows : List NameRow) (words : List Word) (x : ℕ) (w : Word) → length words ≡ length rows → place_of rows x < length rows → (y : ℕ) → env_of rows (set words (place_of rows x) w) y ≡ assign x w (env_of rows words) y
write_at [] words x w h within y = absurd (omega arith)
write_at (row ∷ rows) [] x w h within y = absurd (omega arith)
write_at (row ∷ rows) (v ∷ words) x w h within y =
    let below : length words ≡ length rows = omega arith in
    let rest : place_of rows x < length rows → env_of rows (set words (place_of rows x) w) y ≡ assign x w (env_of rows words) y = λ less. write_at rows words x w below less y in
    choose (row.version == x) refl within rest
  where
    found : (c : Bool) → (x == y) ≡ c → (row.version == x) ≡ true → cond (row.version == y) w (env_of rows words y) ≡ cond c w (cond (row.version == y) v (env_of rows words y))
    found true e is =
        let same : (row.version == y) ≡ true = grind arith in
        rw same refl
    found false e is =
        let other : (row.version == y) ≡ false = grind arith in
        rw other refl

    further : (c d : Bool) → (x == y) ≡ c → (row.version == y) ≡ d → (row.version == x) ≡ false → (t : Word) → t ≡ cond c w (env_of rows words y) → cond d v t ≡ cond c w (cond d v (env_of rows words y))
    further true true e g other t is = absurd (grind arith)
    further false true e g other t is = refl
    further c false e g other t is = is

    choose : (b : Bool) → (row.version == x) ≡ b → cond b zero (suc (place_of rows x)) < suc (length rows) → (place_of rows x < length rows → env_of rows (set words (place_of rows x) w) y ≡ assign x w (env_of rows words) y) → env_of (row ∷ rows) (set (v ∷ words) (cond b zero (suc (place_of rows x))) w) y ≡ assign x w (env_of (row ∷ rows) (v ∷ words)) y
    choose true e less rest = found (x == y) refl e
    choose false e less rest = further (x == y) (row.version == y) refl refl e (env_of rows (set words (place_of rows x) w) y) (rest (omega arith))

pub write_slot : (f : Function) (words : List Word) (x : ℕ) (w : Word) → AreSlots f words → place_of f.names x < length f.names → env_of f.names (set words (place_of f.names x) w) ≡ assign x w (env_of f.names words)
write_slot f words x w h within = λ i y. write_at f.names words x w (slot_count f words h) within y i

-- ---- rows

-- the row at the place is the row of the version
pub row_at : (rows : List NameRow) (x : ℕ) → slice_get rows (place_of rows x) ≡ first_where (λ (row : NameRow). row.version == x) rows
row_at [] x = refl
row_at (row ∷ rows) x = choose (row.version == x) (row_at rows x)
  where
    choose : (b : Bool) → slice_get rows (place_of rows x) ≡ first_where (λ (r : NameRow). r.version == x) rows → slice_get (row ∷ rows) (cond b zero (suc (place_of rows x))) ≡ cond b (Some row) (first_where (λ (r : NameRow). r.version == x) rows)
    choose true rest = refl
    choose false rest = rest

-- ---- types

types_at : (rows : List NameRow) (words : List Word) → types_of_words words ≡ types_of_rows rows → (x : ℕ) → (env_of rows words x).ty ≡ option_map_or (λ (row : NameRow). row.ty) (first_where (λ (row : NameRow). row.version == x) rows) bool_type
types_at [] words h x = refl
types_at (row ∷ rows) [] h x = cc
types_at (row ∷ rows) (w ∷ words) h x =
    let first : w.ty ≡ row.ty = cc in
    let rest : types_of_words words ≡ types_of_rows rows = cc in
    choose (row.version == x) first (types_at rows words rest x)
  where
    choose : (b : Bool) → w.ty ≡ row.ty → (env_of rows words x).ty ≡ option_map_or (λ (row : NameRow). row.ty) (first_where (λ (row : NameRow). row.version == x) rows) bool_type → (cond b w (env_of rows words x)).ty ≡ option_map_or (λ (row : NameRow). row.ty) (cond b (Some row) (first_where (λ (row : NameRow). row.version == x) rows)) bool_type
    choose true first rest = first
    choose false first rest = rest

-- each word has its name's type
pub type_at_name : (f : Function) (words : List Word) → AreSlots f words → (x : ℕ) → (env_of f.names words x).ty ≡ name_type f x
unfolding name_type row_of
type_at_name f words h x = types_at f.names words h x

pub type_at_operand : (f : Function) (words : List Word) (a : Operand) → AreSlots f words → operand_holds f a ≡ true → (word_of_operand (env_of f.names words) a).ty ≡ type_of a
unfolding name_type
type_at_operand f words (Const w) h holds = refl
type_at_operand f words (Name x t) h holds = type_at_name f words h x ∙ known (row_of f x) holds
  where
    known : (found : Option NameRow) → option_map_or (λ (row : NameRow). same_type row.ty t) found false ≡ true → option_map_or (λ (row : NameRow). row.ty) found bool_type ≡ t
    known None e = cc
    known (Some row) e = same_type_is row.ty t e

pub and_first : (a b : Bool) → (a && b) ≡ true → a ≡ true
and_first true b e = refl
and_first false b e = e

pub and_second : (a b : Bool) → (a && b) ≡ true → b ≡ true
and_second true b e = e
and_second false b e = cc

pub types_at_operands : (f : Function) (words : List Word) (operands : List Operand) → AreSlots f words → list_all (operand_holds f) operands ≡ true → map (λ (w : Word). w.ty) (map (word_of_operand (env_of f.names words)) operands) ≡ map type_of operands
types_at_operands f words [] h holds = refl
types_at_operands f words (a ∷ operands) h holds =
    let first : (word_of_operand (env_of f.names words) a).ty ≡ type_of a = type_at_operand f words a h (and_first (operand_holds f a) (list_all (operand_holds f) operands) holds) in
    let rest : map (λ (w : Word). w.ty) (map (word_of_operand (env_of f.names words)) operands) ≡ map type_of operands = types_at_operands f words operands h (and_second (operand_holds f a) (list_all (operand_holds f) operands) holds) in
    cc

pub still_slots : (f : Function) (words : List Word) (x : ℕ) (w : Word) → AreSlots f words → w.ty ≡ name_type f x → AreSlots f (set words (place_of f.names x) w)
still_slots f words x w h is =
    let count : length words ≡ length f.names = slot_count f words h in
    let read : env_of f.names words x ≡ get_or words (place_of f.names x) (zero_of bool_type) = read_slot f.names words x (omega arith) in
    map-set_same (λ (v : Word). v.ty) words (place_of f.names x) w (zero_of bool_type) (is ∙ sym (type_at_name f words h x) ∙ ap (λ (v : Word). v.ty) read) ∙ h

-- ---- statements

pub in_list : {X : Type 0} (xs : List X) (i : ℕ) (x : X) → slice_get xs i ≡ Some x → i < length xs
in_list xs i x is = elim (slice_get_cases xs i).1 [ inl h ↦ h.1 | inr h ↦ cc ]

pub known_type : (f : Function) (x : ℕ) (row : NameRow) → slice_get f.names (place_of f.names x) ≡ Some row → row.ty ≡ name_type f x
unfolding name_type row_of
known_type f x row is = ap (λ (o : Option NameRow). option_map_or (λ (r : NameRow). r.ty) o bool_type) (sym is ∙ row_at f.names x)

pub type_without_row : (f : Function) (x : ℕ) → length f.names ≤ place_of f.names x → bool_type ≡ name_type f x
unfolding name_type row_of
type_without_row f x past = ap (λ (o : Option NameRow). option_map_or (λ (r : NameRow). r.ty) o bool_type) (sym (slice_get_past f.names (place_of f.names x) past) ∙ row_at f.names x)

pub stmt_known : (f : Function) (stmt : Stmt) → stmt_holds f stmt ≡ true → list_all (operand_holds f) (operands_of_rhs stmt.rhs) ≡ true
stmt_known f stmt h = and_second (stmt_fits f stmt) (list_all (operand_holds f) (operands_of_rhs stmt.rhs)) h

stmt_fit : (f : Function) (stmt : Stmt) → stmt_holds f stmt ≡ true → stmt_fits f stmt ≡ true
stmt_fit f stmt h = and_first (stmt_fits f stmt) (list_all (operand_holds f) (operands_of_rhs stmt.rhs)) h

pub stmt_typed : (f : Function) (stmt : Stmt) → stmt_holds f stmt ≡ true → rhs_fits (name_type f stmt.name) stmt.rhs ≡ true
unfolding name_type
stmt_typed f stmt h = known (row_of f stmt.name) (stmt_fit f stmt h)
  where
    known : (found : Option NameRow) → option_map_or (λ (row : NameRow). rhs_fits row.ty stmt.rhs) found false ≡ true → rhs_fits (option_map_or (λ (row : NameRow). row.ty) found bool_type) stmt.rhs ≡ true
    known None e = cc
    known (Some row) e = e

pub stmt_within : (f : Function) (stmt : Stmt) → stmt_holds f stmt ≡ true → place_of f.names stmt.name < length f.names
unfolding row_of
stmt_within f stmt h = known (first_where (λ (row : NameRow). row.version == stmt.name) f.names) (row_at f.names stmt.name) (stmt_fit f stmt h)
  where
    known : (found : Option NameRow) → slice_get f.names (place_of f.names stmt.name) ≡ found → option_map_or (λ (row : NameRow). rhs_fits row.ty stmt.rhs) found false ≡ true → place_of f.names stmt.name < length f.names
    known None is e = cc
    known (Some row) is e = in_list f.names (place_of f.names stmt.name) row is

-- ---- values

pub words_typed : (f : Function) (words : List Word) (code : Code) (ty : Ty) (operands : List Operand) → AreSlots f words → list_all (operand_holds f) operands ≡ true → well_typed_operation code ty (map type_of operands) ≡ true → well_typed_operation code ty (map (λ (w : Word). w.ty) (map (word_of_operand (env_of f.names words)) operands)) ≡ true
words_typed f words code ty operands h known typed = subst (λ ts. well_typed_operation code ty ts ≡ true) (sym (types_at_operands f words operands h known)) typed

pub right_type : (f : Function) (words : List Word) (ty : Ty) (rhs : Rhs) (w : Word) → AreSlots f words → list_all (operand_holds f) (operands_of_rhs rhs) ≡ true → rhs_fits ty rhs ≡ true → rhs_value ty (env_of f.names words) rhs ≡ Some w → w.ty ≡ ty
right_type f words ty (Copy a) w h known fits is =
    let same : word_of_operand (env_of f.names words) a ≡ w = cc in
    ap (λ (v : Word). v.ty) (sym same) ∙ type_at_operand f words a h (and_first (operand_holds f a) true known) ∙ same_type_is (type_of a) ty fits
right_type f words ty (Op code operands) w h known fits is =
    (operation_word code ty (map (word_of_operand (env_of f.names words)) operands) w (words_typed f words code ty operands h known fits) is).0

pub each_holds : {X : Type 0} (p : X → Bool) (xs : List X) (i : ℕ) (d : X) → list_all p xs ≡ true → i < length xs → p (get_or xs i d) ≡ true
each_holds p [] i d h within = absurd (omega arith)
each_holds p (x ∷ xs) zero d h within = and_first (p x) (list_all p xs) h
each_holds p (x ∷ xs) (suc i) d h within = each_holds p xs i d (and_second (p x) (list_all p xs) h) (omega arith)

-- equal words for the words of operands
pub two_typed : (code : Code) (ty : Ty) (a b u v : Word) → u ≡ a → v ≡ b → well_typed_operation code ty (a.ty ∷ b.ty ∷ []) ≡ true → well_typed_operation code ty (u.ty ∷ v.ty ∷ []) ≡ true
two_typed code ty a b u v p q h = subst (λ t. well_typed_operation code ty (t ∷ v.ty ∷ []) ≡ true) (ap (λ (w : Word). w.ty) (sym p)) (subst (λ t. well_typed_operation code ty (a.ty ∷ t ∷ []) ≡ true) (ap (λ (w : Word). w.ty) (sym q)) h)

pub three_typed : (code : Code) (ty : Ty) (a b c u v w : Word) → u ≡ a → v ≡ b → w ≡ c → well_typed_operation code ty (a.ty ∷ b.ty ∷ c.ty ∷ []) ≡ true → well_typed_operation code ty (u.ty ∷ v.ty ∷ w.ty ∷ []) ≡ true
three_typed code ty a b c u v w p q r h =
    subst (λ t. well_typed_operation code ty (t ∷ v.ty ∷ w.ty ∷ []) ≡ true) (ap (λ (x : Word). x.ty) (sym p))
    (subst (λ t. well_typed_operation code ty (a.ty ∷ t ∷ w.ty ∷ []) ≡ true) (ap (λ (x : Word). x.ty) (sym q))
    (subst (λ t. well_typed_operation code ty (a.ty ∷ b.ty ∷ t ∷ []) ≡ true) (ap (λ (x : Word). x.ty) (sym r)) h))

-- no operation has as many operands
pub no_value : (code : Code) (ty : Ty) (g : Operand → Word) (operands : List Operand) → (length operands < 1) ⊎ (3 < length operands) → operation_value code ty (map g operands) ≡ None
unfolding operation_value
no_value code ty g [] h = refl
no_value code ty g (a ∷ []) h = absurd (elim h [ inl few ↦ omega arith | inr many ↦ omega arith ])
no_value code ty g (a ∷ b ∷ []) h = absurd (elim h [ inl few ↦ omega arith | inr many ↦ omega arith ])
no_value code ty g (a ∷ b ∷ c ∷ []) h = absurd (elim h [ inl few ↦ omega arith | inr many ↦ omega arith ])
no_value code ty g (a ∷ b ∷ c ∷ d ∷ operands) h = refl

both : (t u : Ty) → same_type t u ≡ true → (same_type t u && same_type bool_type bool_type) ≡ true
both t u h = grind arith

-- the comparison at the end of a block is a well-typed operation
pub comparison_typed : (code : Code) (t u : Ty) → (is_comparison_code code && same_type t u) ≡ true → well_typed_operation code bool_type (t ∷ u ∷ []) ≡ true
unfolding well_typed_operation
comparison_typed Eq t u h = both t u h
comparison_typed Ne t u h = both t u h
comparison_typed Lt t u h = both t u h
comparison_typed Le t u h = both t u h
comparison_typed Gt t u h = both t u h
comparison_typed Ge t u h = both t u h
comparison_typed _ t u h = cc
