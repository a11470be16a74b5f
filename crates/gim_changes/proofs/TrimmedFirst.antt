-- What removal leaves stands in the function before, so trimming may come before removal as well.
use Rattle.std.proofs.Common.{◌≡◌, ◌==◌, ℕ, zero, suc, Bool, true, false, List, [], ◌∷◌, ◌++◌, length, cond, Option, Some, None, refl, sym, ap, ◌∙◌}
use Rattle.std.specs.Prelude.{◌||◌, not, filter, map}
use Rattle.std.specs.Option.{option_map_or}
use Rattle.std.specs.List.{flat_map, list_any}
use Rattle.std.proofs.lemmas.Bool.{or_left, or_right}
use Rattle.std.proofs.lemmas.List.Folds.{list_any-append}
use Rattle.gim_ast.specs.declared.function.Function.{Function}
use Rattle.gim_ast.specs.declared.function.Block.{Block}
use Rattle.gim_ast.specs.declared.function.NameRow.{NameRow}
use Rattle.gim_ast.specs.Functions.{is_name, operands_of, operands_of_block, operands_of_phi, operands_of_stmt, operands_of_end, assigned, is_used}
use Rattle.gim_changes.specs.Removal.{last_unused, unused, phi_stays, stmt_stays, without, without_in_block, pruned, pruned_by}
use Rattle.gim_changes.specs.Trimming.{stands_in, is_empty_text, row_stays, trimmed, tidied}
use Rattle.gim_changes.proofs.Unused.{assigned_without}

-- ---- tests of parts of lists

pub either_kept : (a b c d : Bool) → (a ≡ true → c ≡ true) → (b ≡ true → d ≡ true) → (a || b) ≡ true → (c || d) ≡ true
either_kept true b c d h k e = or_left c d (h refl)
either_kept false b c d h k e = or_right c d (k e)

module _ {X : Type 0} (p : X → Bool) where
  any_both : (xs zs ys ws : List X) → (list_any p xs ≡ true → list_any p zs ≡ true) → (list_any p ys ≡ true → list_any p ws ≡ true) →
      list_any p (xs ++ ys) ≡ true → list_any p (zs ++ ws) ≡ true
  any_both xs zs ys ws h k e = list_any-append p zs ws
      ∙ either_kept (list_any p xs) (list_any p ys) (list_any p zs) (list_any p ws) h k (sym (list_any-append p xs ys) ∙ e)

  pub any_of_filtered : (q : X → Bool) (xs : List X) → list_any p (filter q xs) ≡ true → list_any p xs ≡ true
  any_of_filtered q [] e = e
  any_of_filtered q (x ∷ xs) e = by (q x) (any_of_filtered q xs) e
    where
      by : (b : Bool) → (list_any p (filter q xs) ≡ true → list_any p xs ≡ true) →
          list_any p (cond b (x ∷ filter q xs) (filter q xs)) ≡ true → (p x || list_any p xs) ≡ true
      by true rest e = either_kept (p x) (list_any p (filter q xs)) (p x) (list_any p xs) (λ h. h) rest e
      by false rest e = or_right (p x) (list_any p xs) (rest e)

  pub any_of_parts : {Y : Type 0} (g : Y → List X) (q : Y → Bool) (ys : List Y) → list_any p (flat_map g (filter q ys)) ≡ true → list_any p (flat_map g ys) ≡ true
  any_of_parts g q [] e = e
  any_of_parts g q (y ∷ ys) e = by (q y) (any_of_parts g q ys) e
    where
      by : (b : Bool) → (list_any p (flat_map g (filter q ys)) ≡ true → list_any p (flat_map g ys) ≡ true) →
          list_any p (flat_map g (cond b (y ∷ filter q ys) (filter q ys))) ≡ true → list_any p (g y ++ flat_map g ys) ≡ true
      by true rest e = any_both (g y) (g y) (flat_map g (filter q ys)) (flat_map g ys) (λ h. h) rest e
      by false rest e = list_any-append p (g y) (flat_map g ys) ∙ or_right (list_any p (g y)) (list_any p (flat_map g ys)) (rest e)

-- a weaker test takes out nothing more
filtered_by_both : {X : Type 0} (p q : X → Bool) → ((x : X) → p x ≡ true → q x ≡ true) → (xs : List X) → filter p (filter q xs) ≡ filter p xs
filtered_by_both p q weaker [] = refl
filtered_by_both {X} p q weaker (x ∷ xs) = by (p x) (q x) refl (weaker x) (filtered_by_both p q weaker xs)
  where
    by : (b c : Bool) → p x ≡ b → (p x ≡ true → c ≡ true) → filter p (filter q xs) ≡ filter p xs →
        filter p (cond c (x ∷ filter q xs) (filter q xs)) ≡ cond b (x ∷ filter p xs) (filter p xs)
    by true true is kept rest = rw is (ap (λ ys. x ∷ ys) rest)
    by true false is kept rest = absurd (let same : false ≡ true = kept is in cc)
    by false true is kept rest = rw is rest
    by false false is kept rest = rest

-- ---- what stands in the function after removal stands in it before

used_in_block : (x y : ℕ) (block : Block) → list_any (is_name y) (operands_of_block (without_in_block x block)) ≡ true → list_any (is_name y) (operands_of_block block) ≡ true
used_in_block x y block =
    let phis = filter (phi_stays x) block.phis in
    let stmts = filter (stmt_stays x) block.stmts in
    any_both (is_name y) (flat_map operands_of_phi phis ++ flat_map operands_of_stmt stmts) (flat_map operands_of_phi block.phis ++ flat_map operands_of_stmt block.stmts)
    (operands_of_end block.end) (operands_of_end block.end)
    (any_both (is_name y) (flat_map operands_of_phi phis) (flat_map operands_of_phi block.phis) (flat_map operands_of_stmt stmts) (flat_map operands_of_stmt block.stmts)
    (any_of_parts (is_name y) operands_of_phi (phi_stays x) block.phis) (any_of_parts (is_name y) operands_of_stmt (stmt_stays x) block.stmts)) (λ h. h)

used_in_blocks : (x y : ℕ) (blocks : List Block) → list_any (is_name y) (flat_map operands_of_block (map (without_in_block x) blocks)) ≡ true →
    list_any (is_name y) (flat_map operands_of_block blocks) ≡ true
used_in_blocks x y [] e = e
used_in_blocks x y (block ∷ blocks) e =
    any_both (is_name y) (operands_of_block (without_in_block x block)) (operands_of_block block) (flat_map operands_of_block (map (without_in_block x) blocks)) (flat_map operands_of_block blocks)
    (used_in_block x y block) (used_in_blocks x y blocks) e

pub used_before : (x y : ℕ) (f : Function) → is_used (without x f) y ≡ true → is_used f y ≡ true
unfolding operands_of without
used_before x y f = used_in_blocks x y f.blocks

stands_before : (x y : ℕ) (f : Function) → stands_in (without x f) y ≡ true → stands_in f y ≡ true
stands_before x y f =
    either_kept (list_any (λ z. z == y) (assigned (without x f))) (is_used (without x f) y) (list_any (λ z. z == y) (assigned f)) (is_used f y)
    (λ h. any_of_filtered (λ z. z == y) (λ z. not (z == x)) (assigned f) (sym (ap (list_any (λ z. z == y)) (assigned_without x f)) ∙ h))
    (used_before x y f)

-- after one removal and then more, where there is one
before_more : (n y : ℕ) (f : Function) (found : Option ℕ) → ((x : ℕ) → stands_in (pruned_by n (without x f)) y ≡ true → stands_in f y ≡ true) →
    stands_in (option_map_or (λ x. pruned_by n (without x f)) found f) y ≡ true → stands_in f y ≡ true
before_more n y f None more e = e
before_more n y f (Some x) more e = more x e

stands_before_all : (n y : ℕ) (f : Function) → stands_in (pruned_by n f) y ≡ true → stands_in f y ≡ true
stands_before_all zero y f e = e
stands_before_all (suc n) y f e = before_more n y f (last_unused f) (λ x h. stands_before x y f (stands_before_all n y (without x f) h)) e

row_stays_before : (f : Function) (row : NameRow) → row_stays (pruned f) row ≡ true → row_stays f row ≡ true
unfolding pruned
row_stays_before f row =
    either_kept (stands_in (pruned f) row.version) (is_empty_text row.base) (stands_in f row.version) (is_empty_text row.base)
    (stands_before_all (length (assigned f)) row.version f) (λ h. h)

-- ---- removal doesn't look at `names`

abbrev with_names : List NameRow → Function → Function
with_names rows f = record f { names = rows }

removed_with : (n : ℕ) (rows : List NameRow) (f : Function) (found : Option ℕ) →
    ((x : ℕ) → pruned_by n (without x (with_names rows f)) ≡ with_names rows (pruned_by n (without x f))) →
    option_map_or (λ x. pruned_by n (without x (with_names rows f))) found (with_names rows f) ≡ with_names rows (option_map_or (λ x. pruned_by n (without x f)) found f)
removed_with n rows f None more = refl
removed_with n rows f (Some x) more = more x

without_with : (x : ℕ) (rows : List NameRow) (f : Function) → without x (with_names rows f) ≡ with_names rows (without x f)
unfolding without
without_with x rows f = refl

last_with : (rows : List NameRow) (f : Function) → last_unused (with_names rows f) ≡ last_unused f
unfolding unused assigned operands_of
last_with rows f = refl

pruned_by_with : (n : ℕ) (rows : List NameRow) (f : Function) → pruned_by n (with_names rows f) ≡ with_names rows (pruned_by n f)
pruned_by_with zero rows f = refl
pruned_by_with (suc n) rows f =
    ap (λ found. option_map_or (λ x. pruned_by n (without x (with_names rows f))) found (with_names rows f)) (last_with rows f)
    ∙ removed_with n rows f (last_unused f) (λ x. ap (pruned_by n) (without_with x rows f) ∙ pruned_by_with n rows (without x f))

pruned_with : (rows : List NameRow) (f : Function) → pruned (with_names rows f) ≡ with_names rows (pruned f)
unfolding pruned assigned
pruned_with rows f = pruned_by_with (length (assigned f)) rows f

trimmed_with : (rows : List NameRow) (f : Function) → trimmed (with_names rows f) ≡ with_names (filter (row_stays f) rows) f
unfolding trimmed assigned operands_of
trimmed_with rows f = refl

-- trimming before removal changes nothing, since it comes behind it as well
pub tidied_trimmed : (f : Function) → tidied (trimmed f) ≡ tidied f
tidied_trimmed f =
    let rows = filter (row_stays f) f.names in
    let before : tidied (trimmed f) ≡ trimmed (pruned (with_names rows f)) = ap tidied (trimmed_with f.names f) in
    let taken : filter (row_stays (pruned f)) rows ≡ filter (row_stays (pruned f)) f.names =
    filtered_by_both (row_stays (pruned f)) (row_stays f) (row_stays_before f) f.names in
    before
    ∙ (ap trimmed (pruned_with rows f)
    ∙ (trimmed_with rows (pruned f)
    ∙ (ap (λ left. with_names left (pruned f)) taken
    ∙ (sym (trimmed_with f.names (pruned f)) ∙ ap trimmed (sym (pruned_with f.names f))))))
