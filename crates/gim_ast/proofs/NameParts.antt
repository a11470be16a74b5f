-- The rules on names, part by part.
use Rattle.std.proofs.Common.{◌≡◌, ◌==◌, ℕ, Bool, true, false, List, [], ◌∷◌, ◌++◌, map, refl, sym, ap, ◌∙◌}
use Rattle.std.specs.Prelude.{◌&&◌, ◌||◌, not, nat_lt, if◌then◌else◌}
use Rattle.std.specs.List.{flat_map, list_any, list_all}
use Rattle.std.proofs.lemmas.List.{append_assoc}
use Rattle.std.proofs.lemmas.List.Folds.{list_any-append}
use Rattle.pm_wide.specs.declared.operand.Operand.{Operand}
use Rattle.gim_ast.specs.declared.function.Function.{Function}
use Rattle.gim_ast.specs.declared.function.Block.{Block}
use Rattle.gim_ast.specs.declared.function.Phi.{Phi}
use Rattle.gim_ast.specs.declared.function.Stmt.{Stmt}
use Rattle.gim_ast.specs.declared.function.NameRow.{NameRow}
use Rattle.gim_ast.specs.Functions.{is_name, operands_of, operands_of_phi, operands_of_stmt, operands_of_end, operands_of_block, assigned, assigned_in, phi_name, stmt_name, is_used}
use Rattle.gim_ast.specs.WellFormed.{same_text, all_distinct, rises, base_holds, is_assigned, row_stands, initial_bases, names_hold}
use Rattle.gim_ast.specs.RulesByPart.{uses_in_phi, uses_in_stmt, uses_in_block, phi_assigns, stmt_assigns, block_assigns, distinct_stmts, distinct_phis, distinct_names, is_later, rows_rise, is_initial_of, distinct_initials, row_stands_in, row_holds, local_holds, names_by_part}
use Rattle.gim_ast.proofs.ListTests.{and_cong, or_cong, neither, none_of_three, any_cong, all_cong, any_map, all_map, any_flat_map, any_turned}

-- ---- uses

in_phi : (x : ℕ) (phi : Phi) → list_any (is_name x) (operands_of_phi phi) ≡ uses_in_phi x phi
in_phi x phi = any_map (is_name x) (λ (arg : ℕ × Operand). arg.1) phi.args

in_phis : (x : ℕ) (phis : List Phi) → list_any (is_name x) (flat_map operands_of_phi phis) ≡ list_any (uses_in_phi x) phis
in_phis x phis = any_flat_map (is_name x) operands_of_phi phis ∙ any_cong (λ phi. list_any (is_name x) (operands_of_phi phi)) (uses_in_phi x) (in_phi x) phis

in_block : (x : ℕ) (block : Block) → list_any (is_name x) (operands_of_block block) ≡ uses_in_block x block
in_block x block =
    let phis = flat_map operands_of_phi block.phis in
    let stmts = flat_map operands_of_stmt block.stmts in
    let end = list_any (is_name x) (operands_of_end block.end) in
    list_any-append (is_name x) (phis ++ stmts) (operands_of_end block.end)
    ∙ ap (λ b. b || end) (list_any-append (is_name x) phis stmts
    ∙ or_cong (list_any (is_name x) phis) (list_any (uses_in_phi x) block.phis) (list_any (is_name x) stmts) (list_any (uses_in_stmt x) block.stmts)
    (in_phis x block.phis) (any_flat_map (is_name x) operands_of_stmt block.stmts))

pub used_by_block : (f : Function) (x : ℕ) → is_used f x ≡ list_any (uses_in_block x) f.blocks
unfolding operands_of
used_by_block f x = any_flat_map (is_name x) operands_of_block f.blocks ∙ any_cong (λ block. list_any (is_name x) (operands_of_block block)) (uses_in_block x) (in_block x) f.blocks

-- ---- assignments

by_block : (x : ℕ) (block : Block) → list_any (λ y. y == x) (assigned_in block) ≡ block_assigns x block
by_block x block =
    list_any-append (λ y. y == x) (map phi_name block.phis) (map stmt_name block.stmts)
    ∙ or_cong (list_any (λ y. y == x) (map phi_name block.phis)) (list_any (phi_assigns x) block.phis) (list_any (λ y. y == x) (map stmt_name block.stmts)) (list_any (stmt_assigns x) block.stmts)
    (any_map (λ y. y == x) phi_name block.phis) (any_map (λ y. y == x) stmt_name block.stmts)

by_blocks : (x : ℕ) (blocks : List Block) → list_any (λ y. y == x) (flat_map assigned_in blocks) ≡ list_any (block_assigns x) blocks
by_blocks x blocks = any_flat_map (λ y. y == x) assigned_in blocks ∙ any_cong (λ block. list_any (λ y. y == x) (assigned_in block)) (block_assigns x) (by_block x) blocks

pub assigned_by_block : (f : Function) (x : ℕ) → is_assigned f x ≡ list_any (block_assigns x) f.blocks
unfolding assigned
assigned_by_block f x = by_blocks x f.blocks

by_stmts : (x : ℕ) (stmts : List Stmt) (after : List Block) → list_any (λ y. x == y) (map stmt_name stmts ++ flat_map assigned_in after) ≡ (list_any (stmt_assigns x) stmts || list_any (block_assigns x) after)
by_stmts x stmts after =
    any_turned x (map stmt_name stmts ++ flat_map assigned_in after)
    ∙ (list_any-append (λ y. y == x) (map stmt_name stmts) (flat_map assigned_in after)
    ∙ or_cong (list_any (λ y. y == x) (map stmt_name stmts)) (list_any (stmt_assigns x) stmts) (list_any (λ y. y == x) (flat_map assigned_in after)) (list_any (block_assigns x) after)
    (any_map (λ y. y == x) stmt_name stmts) (by_blocks x after))

by_phis : (x : ℕ) (phis : List Phi) (stmts : List Stmt) (after : List Block) → list_any (λ y. x == y) (map phi_name phis ++ (map stmt_name stmts ++ flat_map assigned_in after))
    ≡ (list_any (phi_assigns x) phis || (list_any (stmt_assigns x) stmts || list_any (block_assigns x) after))
by_phis x phis stmts after =
    let rest = map stmt_name stmts ++ flat_map assigned_in after in
    any_turned x (map phi_name phis ++ rest)
    ∙ (list_any-append (λ y. y == x) (map phi_name phis) rest
    ∙ or_cong (list_any (λ y. y == x) (map phi_name phis)) (list_any (phi_assigns x) phis) (list_any (λ y. y == x) rest) (list_any (stmt_assigns x) stmts || list_any (block_assigns x) after)
    (any_map (λ y. y == x) phi_name phis) (sym (any_turned x rest) ∙ by_stmts x stmts after))

stmts_apart : (stmts : List Stmt) (after : List Block) → all_distinct ◌==◌ (map stmt_name stmts ++ flat_map assigned_in after) ≡ (distinct_stmts stmts after && all_distinct ◌==◌ (flat_map assigned_in after))
stmts_apart [] after = refl
stmts_apart (s ∷ ss) after =
    let rest = map stmt_name ss ++ flat_map assigned_in after in
    neither (list_any (λ y. s.name == y) rest) (list_any (stmt_assigns s.name) ss) (list_any (block_assigns s.name) after)
    (all_distinct ◌==◌ rest) (distinct_stmts ss after) (all_distinct ◌==◌ (flat_map assigned_in after))
    (by_stmts s.name ss after) (stmts_apart ss after)

phis_apart : (phis : List Phi) (stmts : List Stmt) (after : List Block) → all_distinct ◌==◌ (map phi_name phis ++ (map stmt_name stmts ++ flat_map assigned_in after))
    ≡ (distinct_phis phis stmts after && all_distinct ◌==◌ (map stmt_name stmts ++ flat_map assigned_in after))
phis_apart [] stmts after = refl
phis_apart (p ∷ ps) stmts after =
    let behind = map stmt_name stmts ++ flat_map assigned_in after in
    let rest = map phi_name ps ++ behind in
    none_of_three (list_any (λ y. p.name == y) rest) (list_any (phi_assigns p.name) ps) (list_any (stmt_assigns p.name) stmts) (list_any (block_assigns p.name) after)
    (all_distinct ◌==◌ rest) (distinct_phis ps stmts after) (all_distinct ◌==◌ behind)
    (by_phis p.name ps stmts after) (phis_apart ps stmts after)

chained : (x p y s z w : Bool) → x ≡ (p && y) → y ≡ (s && z) → z ≡ w → x ≡ (p && s && w)
chained x true y s z w h k l = rw (h, k, l) refl
chained x false y s z w h k l = rw h refl

names_apart : (blocks : List Block) → all_distinct ◌==◌ (flat_map assigned_in blocks) ≡ distinct_names blocks
names_apart [] = refl
names_apart (b ∷ bs) =
    let tail = flat_map assigned_in bs in
    let stmts = map stmt_name b.stmts in
    chained (all_distinct ◌==◌ (assigned_in b ++ tail)) (distinct_phis b.phis b.stmts bs) (all_distinct ◌==◌ (stmts ++ tail)) (distinct_stmts b.stmts bs) (all_distinct ◌==◌ tail) (distinct_names bs)
    (ap (λ xs. all_distinct ◌==◌ xs) (append_assoc (map phi_name b.phis) stmts tail) ∙ phis_apart b.phis b.stmts bs) (stmts_apart b.stmts bs) (names_apart bs)

assigned_apart : (f : Function) → all_distinct ◌==◌ (assigned f) ≡ distinct_names f.blocks
unfolding assigned
assigned_apart f = names_apart f.blocks

-- ---- rows

rise : (rows : List NameRow) → rises (map (λ (row : NameRow). row.version) rows) ≡ rows_rise rows
rise [] = refl
rise (r ∷ rs) =
    and_cong (list_all (nat_lt r.version) (map (λ (row : NameRow). row.version) rs)) (list_all (is_later r.version) rs) (rises (map (λ (row : NameRow). row.version) rs)) (rows_rise rs)
    (all_map (nat_lt r.version) (λ (row : NameRow). row.version) rs) (rise rs)

stands_alike : (i e a b u w : Bool) → a ≡ b → u ≡ w → (if i then (not a && u) else (a || (e && not u))) ≡ (if i then (not b && w) else (b || (e && not w)))
stands_alike i e a b u w h k = rw (h, k) refl

stands : (f : Function) (row : NameRow) → row_stands f row ≡ row_stands_in f.blocks row
stands f row = stands_alike row.initial (same_text row.base []) (is_assigned f row.version) (list_any (block_assigns row.version) f.blocks) (is_used f row.version) (list_any (uses_in_block row.version) f.blocks) (assigned_by_block f row.version) (used_by_block f row.version)

rows_stand : (f : Function) (rows : List NameRow) → list_all (λ (row : NameRow). base_holds f row && row_stands f row) rows ≡ list_all (row_holds f) rows
rows_stand f rows = all_cong (λ (row : NameRow). base_holds f row && row_stands f row) (row_holds f) (λ row. ap (λ b. base_holds f row && b) (stands f row)) rows

base_first : (i : Bool) (base : List ℕ) (p : List ℕ → Bool) (xs : List (List ℕ)) (b : Bool) → list_any p xs ≡ b → list_any p ((if i then base ∷ [] else []) ++ xs) ≡ ((i && p base) || b)
base_first true base p xs b h = ap (λ c. p base || c) h
base_first false base p xs b h = h

any_base : (base : List ℕ) (rows : List NameRow) → list_any (same_text base) (initial_bases rows) ≡ list_any (is_initial_of base) rows
any_base base [] = refl
any_base base (r ∷ rs) = base_first r.initial r.base (same_text base) (initial_bases rs) (list_any (is_initial_of base) rs) (any_base base rs)

base_apart : (i : Bool) (base : List ℕ) (xs : List (List ℕ)) (n d : Bool) → list_any (same_text base) xs ≡ n → all_distinct same_text xs ≡ d
    → all_distinct same_text ((if i then base ∷ [] else []) ++ xs) ≡ ((if i then not n else true) && d)
base_apart true base xs n d h k = and_cong (not (list_any (same_text base) xs)) (not n) (all_distinct same_text xs) d (ap not h) k
base_apart false base xs n d h k = k

bases_apart : (rows : List NameRow) → all_distinct same_text (initial_bases rows) ≡ distinct_initials rows
bases_apart [] = refl
bases_apart (r ∷ rs) = base_apart r.initial r.base (initial_bases rs) (list_any (is_initial_of r.base) rs) (distinct_initials rs) (any_base r.base rs) (bases_apart rs)

five : (a b c d e a2 b2 c2 e2 : Bool) → a ≡ a2 → b ≡ b2 → c ≡ c2 → e ≡ e2 → (a && b && c && d && e) ≡ (a2 && b2 && c2 && d && e2)
five a b c d e a2 b2 c2 e2 h i j k = rw (h, i, j, k) refl

pub named_parts : (f : Function) → names_hold f ≡ names_by_part f
named_parts f =
    five (rises (map (λ (row : NameRow). row.version) f.names)) (list_all (λ (row : NameRow). base_holds f row && row_stands f row) f.names) (all_distinct same_text (initial_bases f.names))
    (list_all (local_holds f.names) f.decls) (all_distinct ◌==◌ (assigned f))
    (rows_rise f.names) (list_all (row_holds f) f.names) (distinct_initials f.names) (distinct_names f.blocks)
    (rise f.names) (rows_stand f f.names) (bases_apart f.names) (assigned_apart f)
