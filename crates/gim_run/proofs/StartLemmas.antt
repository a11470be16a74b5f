-- At the start each slot has its row's word, and its type.
use Rattle.std.proofs.Common.{◌≡◌, ℕ, ◌+◌, ◌<◌, ◌≤◌, Bool, true, false, cond, ◌==◌, ◌&&◌, ◌||◌, not, nat_le, List, [], ◌∷◌, ◌++◌, length, map, take, drop, get_or, Some, None, refl, sym, ap, ◌∙◌, arith}
use Rattle.std.proofs.lemmas.Bool.{both_ways, not-true, or_right}
use Rattle.std.proofs.lemmas.List.{at_drop_more, at_drop_all}
use Rattle.std.proofs.lemmas.List.Folds.{list_all_more}
use Rattle.std.specs.Cmp.Lexicographic.{nat_list_eq_equiv}
use Rattle.std.specs.Option.{option_map_or}
use Rattle.std.specs.List.{list_all, list_any}
use Rattle.pm_wide.specs.Types.{Ty, Word, bool_type, same_type}
use Rattle.pm_wide.proofs.Results.{same_type_is}
use Rattle.gim_ast.specs.declared.function.Function.{Function}
use Rattle.gim_ast.specs.declared.function.Block.{Block}
use Rattle.gim_ast.specs.declared.function.Decl.{Decl}
use Rattle.gim_ast.specs.declared.function.NameRow.{NameRow}
use Rattle.gim_ast.specs.Functions.{first_where, row_of}
use Rattle.gim_ast.specs.Identifiers.{is_identifier, is_anonymous, anonymous}
use Rattle.gim_ast.specs.WellFormed.{IsWellFormed, same_text, all_distinct, declares_as, declarations_hold, names_hold, ident_of, base_holds, row_stands}
use Rattle.gim_ast.specs.Runs.{zero_of, argument_of, start_word, start_env, run_from, entry_of, start_of, run_of}
use Rattle.gim_run.specs.Slots.{env_of, types_of_rows, types_of_words, AreSlots}
use Rattle.gim_run.specs.Blocks.{has_room}
use Rattle.gim_run.specs.Arguments.{AreArguments}
use Rattle.gim_run.proofs.SlotLemmas.{and_first, and_second}

-- ---- words

words_at : (rows : List NameRow) (g : NameRow → Word) (x : ℕ) → env_of rows (map g rows) x ≡ option_map_or g (first_where (λ (row : NameRow). row.version == x) rows) (zero_of bool_type)
words_at [] g x = refl
words_at (row ∷ rows) g x = choose (row.version == x) (words_at rows g x)
  where
    choose : (b : Bool) → env_of rows (map g rows) x ≡ option_map_or g (first_where (λ (r : NameRow). r.version == x) rows) (zero_of bool_type) → cond b (g row) (env_of rows (map g rows) x) ≡ option_map_or g (cond b (Some row) (first_where (λ (r : NameRow). r.version == x) rows)) (zero_of bool_type)
    choose true rest = refl
    choose false rest = rest

pub words_at_start : (f : Function) (args : List Word) → env_of f.names (map (start_word f args) f.names) ≡ start_env f args
unfolding start_env row_of
words_at_start f args = λ i x. words_at f.names (start_word f args) x i

pub run_from_start : (f : Function) (args words : List Word) (fuel : ℕ) → words ≡ map (start_word f args) f.names → run_from f fuel (record { from = 0; to = entry_of f.blocks; env = env_of f.names words }) ≡ run_of f args fuel
unfolding run_of start_of
run_from_start f args words fuel begun = ap (λ env. run_from f fuel (record { from = 0; to = entry_of f.blocks; env = env })) (ap (env_of f.names) begun ∙ words_at_start f args)

-- ---- zeros

pub zeros_are_slots : (rows : List NameRow) → types_of_words (map (λ (row : NameRow). zero_of row.ty) rows) ≡ types_of_rows rows
zeros_are_slots [] = refl
zeros_are_slots (row ∷ rows) = ap (λ ts. row.ty ∷ ts) (zeros_are_slots rows)

-- ---- arguments

none_of : (ident : List ℕ) (params : List Decl) → argument_of ident params [] ≡ None
none_of ident [] = refl
none_of ident (decl ∷ decls) = refl

-- no argument is left
pub argument_past : (ident : List ℕ) (params : List Decl) (args : List Word) (at : ℕ) → length args ≤ at → None ≡ argument_of ident (drop at params) (drop at args)
argument_past ident params args at past = sym (at_drop_all (argument_of ident (drop at params)) args at past ∙ none_of ident (drop at params))

open_at : (ident : List ℕ) (params : List Decl) (args : List Word) (at : ℕ) (d : Decl) (w : Word) → at < length params → at < length args → argument_of ident (drop at params) (drop at args) ≡ argument_of ident (get_or params at d ∷ drop (at + 1) params) (get_or args at w ∷ drop (at + 1) args)
open_at ident params args at d w in_params in_args =
    at_drop_more (λ l. argument_of ident l (drop at args)) params at d in_params
    ∙ at_drop_more (argument_of ident (get_or params at d ∷ drop (at + 1) params)) args at w in_args

-- the parameter has the identifier
pub argument_here : (ident : List ℕ) (params : List Decl) (args : List Word) (at : ℕ) (d : Decl) (w : Word) → at < length params → at < length args → same_text (get_or params at d).ident ident ≡ true → argument_of ident (drop at params) (drop at args) ≡ Some (get_or args at w)
argument_here ident params args at d w in_params in_args same =
    open_at ident params args at d w in_params in_args
    ∙ ap (λ b. cond b (Some (get_or args at w)) (argument_of ident (drop (at + 1) params) (drop (at + 1) args))) same

-- it hasn't
pub argument_on : (ident : List ℕ) (params : List Decl) (args : List Word) (at : ℕ) (d : Decl) → at < length params → at < length args → same_text (get_or params at d).ident ident ≡ false → argument_of ident (drop (at + 1) params) (drop (at + 1) args) ≡ argument_of ident (drop at params) (drop at args)
argument_on ident params args at d in_params in_args other =
    let w : Word = zero_of bool_type in
    sym (open_at ident params args at d w in_params in_args
    ∙ ap (λ b. cond b (Some (get_or args at w)) (argument_of ident (drop (at + 1) params) (drop (at + 1) args))) other)

-- an identifier that is declared is among the identifiers
declared_among : (a ident : List ℕ) (t : Ty) (decls more : List Decl) → same_text a ident ≡ true → declares_as ident t decls ≡ true → list_any (same_text a) (map ident_of (decls ++ more)) ≡ true
declared_among a ident t [] more same h = cc
declared_among a ident t (decl ∷ decls) more same h = choose (same_text decl.ident ident) refl h (declared_among a ident t decls more same)
  where
    choose : (b : Bool) → same_text decl.ident ident ≡ b → (b && same_type decl.ty t || declares_as ident t decls) ≡ true → (declares_as ident t decls ≡ true → list_any (same_text a) (map ident_of (decls ++ more)) ≡ true) → (same_text a decl.ident || list_any (same_text a) (map ident_of (decls ++ more))) ≡ true
    choose true is e rest =
        let here : same_text a decl.ident ≡ true = nat_list_eq_equiv.congr a ident decl.ident same ∙ nat_list_eq_equiv.symm ident decl.ident ∙ is in
        rw here refl
    choose false is e rest = or_right (same_text a decl.ident) (list_any (same_text a) (map ident_of (decls ++ more))) (rest e)

-- the argument of a declared parameter has its type
argument_typed : (ident : List ℕ) (t : Ty) (decls more : List Decl) (args : List Word) → all_distinct same_text (map ident_of (decls ++ more)) ≡ true → types_of_words args ≡ map (λ (decl : Decl). decl.ty) decls → declares_as ident t decls ≡ true → (option_map_or (λ w. w) (argument_of ident decls args) (zero_of t)).ty ≡ t
argument_typed ident t [] more args distinct typed h = cc
argument_typed ident t (decl ∷ decls) more [] distinct typed h = refl
argument_typed ident t (decl ∷ decls) more (w ∷ args) distinct typed h =
    let first : w.ty ≡ decl.ty = cc in
    let rest : types_of_words args ≡ map (λ (d : Decl). d.ty) decls = cc in
    let none : list_any (same_text decl.ident) (map ident_of (decls ++ more)) ≡ false = not-true (list_any (same_text decl.ident) (map ident_of (decls ++ more))) (and_first (not (list_any (same_text decl.ident) (map ident_of (decls ++ more)))) (all_distinct same_text (map ident_of (decls ++ more))) distinct) in
    let further : all_distinct same_text (map ident_of (decls ++ more)) ≡ true = and_second (not (list_any (same_text decl.ident) (map ident_of (decls ++ more)))) (all_distinct same_text (map ident_of (decls ++ more))) distinct in
    choose (same_text decl.ident ident) refl first none (λ e. argument_typed ident t decls more args further rest e) h
  where
    here : (b : Bool) → same_type decl.ty t ≡ b → w.ty ≡ decl.ty → same_text decl.ident ident ≡ true → list_any (same_text decl.ident) (map ident_of (decls ++ more)) ≡ false → (b || declares_as ident t decls) ≡ true → w.ty ≡ t
    here true same first is none e = first ∙ same_type_is decl.ty t same
    here false other first is none e = absurd (both_ways (list_any (same_text decl.ident) (map ident_of (decls ++ more))) none (declared_among decl.ident ident t decls more is e))

    choose : (b : Bool) → same_text decl.ident ident ≡ b → w.ty ≡ decl.ty → list_any (same_text decl.ident) (map ident_of (decls ++ more)) ≡ false → (declares_as ident t decls ≡ true → (option_map_or (λ v. v) (argument_of ident decls args) (zero_of t)).ty ≡ t) → (b && same_type decl.ty t || declares_as ident t decls) ≡ true → (option_map_or (λ v. v) (cond b (Some w) (argument_of ident decls args)) (zero_of t)).ty ≡ t
    choose true is first none rest e = here (same_type decl.ty t) refl first is none e
    choose false is first none rest e = rest e

-- ---- rows

-- a default definition is declared as a parameter
initial_declared : (anonymous declared local row declared' : Bool) → row ≡ true → cond anonymous (not row && declared') (declared || (not row && local)) ≡ true → declared ≡ true
initial_declared true declared local true declared' is h = cc
initial_declared false true local true declared' is h = refl
initial_declared false false local true declared' is h = cc
initial_declared anonymous declared local false declared' is h = cc

row_typed : (f : Function) (args : List Word) (row : NameRow) → all_distinct same_text (map ident_of (f.params ++ f.decls)) ≡ true → AreArguments f args → base_holds f row ≡ true → (start_word f args row).ty ≡ row.ty
row_typed f args row distinct typed h = known row.initial refl
  where
    known : (b : Bool) → row.initial ≡ b → (cond b (option_map_or (λ w. w) (argument_of row.base f.params args) (zero_of row.ty)) (zero_of row.ty)).ty ≡ row.ty
    known true is = argument_typed row.base row.ty f.params f.decls args distinct typed (initial_declared (same_text row.base []) (declares_as row.base row.ty f.params) (declares_as row.base row.ty f.decls) row.initial (declares_as (anonymous row.version) row.ty f.decls) is h)
    known false is = refl

rows_typed : (f : Function) (args : List Word) (rows : List NameRow) → all_distinct same_text (map ident_of (f.params ++ f.decls)) ≡ true → AreArguments f args → list_all (λ (row : NameRow). base_holds f row && row_stands f row) rows ≡ true → types_of_words (map (start_word f args) rows) ≡ types_of_rows rows
rows_typed f args [] distinct typed h = refl
rows_typed f args (row ∷ rows) distinct typed h =
    let here : (base_holds f row && row_stands f row) ≡ true = and_first (base_holds f row && row_stands f row) (list_all (λ (r : NameRow). base_holds f r && row_stands f r) rows) h in
    let first : (start_word f args row).ty ≡ row.ty = row_typed f args row distinct typed (and_first (base_holds f row) (row_stands f row) here) in
    let rest : types_of_words (map (start_word f args) rows) ≡ types_of_rows rows = rows_typed f args rows distinct typed (and_second (base_holds f row && row_stands f row) (list_all (λ (r : NameRow). base_holds f r && row_stands f r) rows) h) in
    ap (λ t. t ∷ types_of_words (map (start_word f args) rows)) first ∙ ap (λ ts. row.ty ∷ ts) rest

distinct_identifiers : (f : Function) → declarations_hold f ≡ true → all_distinct same_text (map ident_of (f.params ++ f.decls)) ≡ true
distinct_identifiers f h = third (is_identifier f.name) (list_all is_identifier (map ident_of (f.params ++ f.decls))) (all_distinct same_text (map ident_of (f.params ++ f.decls))) (not (list_any is_anonymous (map ident_of f.params))) h
  where
    third : (a b c d : Bool) → (a && b && c && d) ≡ true → c ≡ true
    third true true true d e = refl
    third true true false d e = cc
    third true false c d e = cc
    third false b c d e = cc

each_row_holds : (f : Function) → names_hold f ≡ true → list_all (λ (row : NameRow). base_holds f row && row_stands f row) f.names ≡ true
each_row_holds f h = grind arith

pub typed_at_start : (f : Function) (args : List Word) → IsWellFormed f → AreArguments f args → AreSlots f (map (start_word f args) f.names)
typed_at_start f args well typed = rows_typed f args f.names (distinct_identifiers f well.declarations) typed (each_row_holds f well.names)

-- ---- room

pub more_room : (blocks : List Block) (less more : ℕ) → less ≤ more → list_all (has_room less) blocks ≡ true → list_all (has_room more) blocks ≡ true
more_room [] less more le h = refl
more_room (block ∷ blocks) less more le h =
    let first : nat_le (length block.phis) less ≡ true = and_first (has_room less block) (list_all (has_room less) blocks) h in
    let wider : nat_le (length block.phis) more ≡ true = grind arith in
    let rest : list_all (has_room more) blocks ≡ true = more_room blocks less more le (and_second (has_room less block) (list_all (has_room less) blocks) h) in
    rw (wider, rest) refl

pub room_on : (blocks : List Block) (at : ℕ) (d : Block) (less more : ℕ) → at < length blocks → less ≤ more → length (get_or blocks at d).phis ≤ more → list_all (has_room less) (take at blocks) ≡ true → list_all (has_room more) (take (at + 1) blocks) ≡ true
room_on blocks at d less more within le fits h =
    let here : nat_le (length (get_or blocks at d).phis) more ≡ true = grind arith in
    let before : list_all (has_room more) (take at blocks) ≡ true = more_room (take at blocks) less more le h in
    list_all_more (has_room more) blocks at d within ∙ rw (before, here) refl
