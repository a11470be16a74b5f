-- Removal: the last unused name in parts of a function, what removal takes away, and that it comes to an end.
use Rattle.std.proofs.Common.{inl, inr, cond, eq-eqb, ◌≡◌, ◌==◌, ℕ, zero, suc, ◌+◌, ◌<◌, ◌≤◌, Bool, true, false, List, [], ◌∷◌, ◌++◌, length, map, Option, Some, None, refl, ap, sym, ◌∙◌, arith, get_or, drop}
use Rattle.std.specs.Prelude.{not, filter, ◌||◌, ◌⊎◌}
use Rattle.std.specs.Option.{option_map_or}
use Rattle.std.specs.List.{flat_map, list_any}
use Rattle.std.proofs.lemmas.List.{at_drop_more}
use Rattle.std.proofs.lemmas.List.Elements.{filter-append}
use Rattle.gim_ast.specs.declared.function.Function.{Function}
use Rattle.gim_ast.specs.declared.function.Block.{Block}
use Rattle.gim_ast.specs.declared.function.NameRow.{NameRow}
use Rattle.gim_ast.specs.Functions.{assigned, assigned_in, operands_of, phi_name, stmt_name, is_used}
use Rattle.gim_changes.specs.Removal.{last_or, last_unused, unused, without, without_in_block, stmt_stays, pruned, pruned_by}
use Rattle.gim_changes.specs.LastUnused.{last_unused_of}
use Rattle.gim_changes.specs.Trimming.{row_stays}

-- one more element of a list that a loop goes through, where each element changes what was found
pub turn : {S X R : Type 0} (F : S → List X → R) (h : S → X → S) → ((s : S) (x : X) (xs : List X) → F s (x ∷ xs) ≡ F (h s x) xs) → (s : S) (xs : List X) (i : ℕ) (x : X) → i < length xs → x ≡ get_or xs i x → F s (drop i xs) ≡ F (h s x) (drop (i + 1) xs)
turn F h step s xs i x within is =
    at_drop_more (F s) xs i x within ∙ (ap (λ y. F s (y ∷ drop (i + 1) xs)) (sym is) ∙ step s x (drop (i + 1) xs))

pub last_or_append : {X : Type 0} (found : Option X) (xs ys : List X) → last_or found (xs ++ ys) ≡ last_or (last_or found xs) ys
last_or_append found [] ys = refl
last_or_append found (x ∷ xs) ys = last_or_append (Some x) xs ys

pub last_unused_of_append : (f : Function) (found : Option ℕ) (xs ys : List ℕ) → last_unused_of f found (xs ++ ys) ≡ last_unused_of f (last_unused_of f found xs) ys
last_unused_of_append f found xs ys =
    ap (last_or found) (filter-append (λ x. not (is_used f x)) xs ys) ∙ last_or_append found (filter (λ x. not (is_used f x)) xs) (filter (λ x. not (is_used f x)) ys)

module _ {X : Type 0} (name : X → ℕ) (f : Function) where
  abbrev last_of : Option ℕ → List X → Option ℕ
  last_of found xs = last_unused_of f found (map name xs)

  pub used_turn : (found : Option ℕ) (xs : List X) (i : ℕ) (x : X) → i < length xs → x ≡ get_or xs i x → is_used f (name x) ≡ true → last_of found (drop i xs) ≡ last_of found (drop (i + 1) xs)
  used_turn found xs i x within is used =
      at_drop_more (last_of found) xs i x within ∙ (ap (λ y. last_of found (y ∷ drop (i + 1) xs)) (sym is) ∙ rw used refl)

  pub unused_turn : (found : Option ℕ) (xs : List X) (i : ℕ) (x : X) → i < length xs → x ≡ get_or xs i x → is_used f (name x) ≡ false → last_of found (drop i xs) ≡ last_of (Some (name x)) (drop (i + 1) xs)
  unused_turn found xs i x within is used =
      at_drop_more (last_of found) xs i x within ∙ (ap (λ y. last_of found (y ∷ drop (i + 1) xs)) (sym is) ∙ rw used refl)

pub block_turn : (f : Function) (found : Option ℕ) (blocks : List Block) (i : ℕ) (block : Block) → i < length blocks → block ≡ get_or blocks i block → last_unused_of f found (flat_map assigned_in (drop i blocks)) ≡ last_unused_of f (last_unused_of f found (assigned_in block)) (flat_map assigned_in (drop (i + 1) blocks))
block_turn f found = turn (λ s blocks. last_unused_of f s (flat_map assigned_in blocks)) (λ s block. last_unused_of f s (assigned_in block)) (λ s block blocks. last_unused_of_append f s (assigned_in block) (flat_map assigned_in blocks)) found

-- whether a row stays is said by the blocks alone
pub rows_stay : (f g : Function) (row : NameRow) → g ≡ record f { names = g.names } → row_stays g row ≡ row_stays f row
unfolding assigned operands_of
rows_stay f g row same =
    let blocks : g.blocks ≡ f.blocks = ap (λ (h : Function). h.blocks) same in
    rw blocks refl

-- ---- a removal takes an assigned name away

-- every name but this one
abbrev pub other : ℕ → ℕ → Bool
other x y = not (y == x)

pub names_of_others : {X : Type 0} (name : X → ℕ) (x : ℕ) (xs : List X) → map name (filter (λ a. other x (name a)) xs) ≡ filter (other x) (map name xs)
names_of_others name x [] = refl
names_of_others name x (a ∷ more) =
    let rest = names_of_others name x more in
    elim (name a == x) as (λ b. map name (cond (not b) (a ∷ filter (λ a. other x (name a)) more) (filter (λ a. other x (name a)) more)) ≡ cond (not b) (name a ∷ filter (other x) (map name more)) (filter (other x) (map name more))) [
      | true ↦ rest
      | false ↦ ap (λ ys. name a ∷ ys) rest
    ]

pub others_in_block : (x : ℕ) (block : Block) → assigned_in (without_in_block x block) ≡ filter (other x) (assigned_in block)
others_in_block x block =
    let in_phis = names_of_others phi_name x block.phis in
    let in_stmts = names_of_others stmt_name x block.stmts in
    ap (λ ns. ns ++ map stmt_name (filter (stmt_stays x) block.stmts)) in_phis
    ∙ (ap (λ ns. filter (other x) (map phi_name block.phis) ++ ns) in_stmts ∙ sym (filter-append (other x) (map phi_name block.phis) (map stmt_name block.stmts)))

others_in_blocks : (x : ℕ) (blocks : List Block) → flat_map assigned_in (map (without_in_block x) blocks) ≡ filter (other x) (flat_map assigned_in blocks)
others_in_blocks x [] = refl
others_in_blocks x (block ∷ blocks) =
    ap (λ ns. ns ++ flat_map assigned_in (map (without_in_block x) blocks)) (others_in_block x block)
    ∙ (ap (λ ns. filter (other x) (assigned_in block) ++ ns) (others_in_blocks x blocks) ∙ sym (filter-append (other x) (assigned_in block) (flat_map assigned_in blocks)))

pub assigned_without : (x : ℕ) (f : Function) → assigned (without x f) ≡ filter (other x) (assigned f)
unfolding assigned without
assigned_without x f = others_in_blocks x f.blocks

no_longer : (p : ℕ → Bool) (xs : List ℕ) → length (filter p xs) ≤ length xs
no_longer p [] = omega arith
no_longer p (x ∷ xs) =
    let rest = no_longer p xs in
    elim (p x) as (λ b. length (cond b (x ∷ filter p xs) (filter p xs)) ≤ suc (length xs)) [ true ↦ omega arith | false ↦ omega arith ]

shorter : (x : ℕ) (xs : List ℕ) → list_any (λ y. y == x) xs ≡ true → length (filter (other x) xs) < length xs
shorter x [] among = cc
shorter x (y ∷ ys) among =
    let most = no_longer (other x) ys in
    (elim (y == x) as (λ b. (b || list_any (λ y. y == x) ys) ≡ true → length (cond (not b) (y ∷ filter (other x) ys) (filter (other x) ys)) < suc (length ys)) [
      | true ↦ λ _. omega arith
      | false ↦ λ h. let rest = shorter x ys h in omega arith
    ]) among

or_true : (b : Bool) → (b || true) ≡ true
or_true true = refl
or_true false = refl

last_among : (p : ℕ → Bool) (x : ℕ) (found : Option ℕ) (xs : List ℕ) → last_or found (filter p xs) ≡ Some x → (found ≡ Some x) ⊎ (list_any (λ y. y == x) xs ≡ true)
last_among p x found [] is = inl is
last_among p x found (y ∷ ys) is =
    (elim (p y) as (λ b. last_or found (cond b (y ∷ filter p ys) (filter p ys)) ≡ Some x → (found ≡ Some x) ⊎ (((y == x) || list_any (λ y. y == x) ys) ≡ true)) [
      | true ↦ λ h. elim (last_among p x (Some y) ys h) [
        | inl e ↦ inr (let same : y ≡ x = cc in rw (eq-eqb y x same) refl)
        | inr among ↦ inr (rw among (or_true (y == x)))
      ]
      | false ↦ λ h. elim (last_among p x found ys h) [
        | inl e ↦ inl e
        | inr among ↦ inr (rw among (or_true (y == x)))
      ]
    ]) is

pub last_is_assigned : (f : Function) (x : ℕ) → last_unused f ≡ Some x → list_any (λ y. y == x) (assigned f) ≡ true
unfolding unused
last_is_assigned f x is =
    elim (last_among (λ y. not (is_used f y)) x None (assigned f) is) [ inl e ↦ cc | inr among ↦ among ]

-- the names that are assigned become fewer
pub fewer_assigned : (f : Function) (x : ℕ) → last_unused f ≡ Some x → length (assigned (without x f)) < length (assigned f)
fewer_assigned f x is = rw (assigned_without x f) (shorter x (assigned f) (last_is_assigned f x is))

-- ---- so many removals are enough

pruned_at : (n : ℕ) (f : Function) → last_unused f ≡ None → pruned_by n f ≡ f
pruned_at zero f none = refl
pruned_at (suc n) f none = rw none refl

none_assigned : (f : Function) → length (assigned f) ≤ 0 → last_unused f ≡ None
none_assigned f few =
    let among : (x : ℕ) → last_unused f ≡ Some x → ⊥ = λ x is. omega (arith, fewer_assigned f x is) in
    none_from (last_unused f) among where
      none_from : (o : Option ℕ) → ((x : ℕ) → o ≡ Some x → ⊥) → o ≡ None
      none_from None no_name = refl
      none_from (Some x) no_name = absurd (no_name x refl)

at_each : (f : Function) (n m : ℕ) (o : Option ℕ) → ((x : ℕ) → o ≡ Some x → pruned_by n (without x f) ≡ pruned_by m (without x f)) → option_map_or (λ x. pruned_by n (without x f)) o f ≡ option_map_or (λ x. pruned_by m (without x f)) o f
at_each f n m None each = refl
at_each f n m (Some x) each = each x refl

enough : (n m : ℕ) (f : Function) → length (assigned f) ≤ n → length (assigned f) ≤ m → pruned_by n f ≡ pruned_by m f
enough zero m f left right = sym (pruned_at m f (none_assigned f left))
enough (suc n) zero f left right = pruned_at (suc n) f (none_assigned f right)
enough (suc n) (suc m) f left right =
    at_each f n m (last_unused f) (λ x is. enough n m (without x f) (omega (arith, fewer_assigned f x is)) (omega (arith, fewer_assigned f x is)))

pub pruned_end : (f : Function) → last_unused f ≡ None → pruned f ≡ f
unfolding pruned
pruned_end f none = pruned_at (length (assigned f)) f none

pub pruned_more : (f : Function) (x : ℕ) → last_unused f ≡ Some x → pruned (without x f) ≡ pruned f
unfolding pruned
pruned_more f x is =
    let fewer = fewer_assigned f x is in
    let one : pruned_by (suc (length (assigned f))) f ≡ pruned_by (length (assigned f)) (without x f) = rw is refl in
    enough (length (assigned (without x f))) (length (assigned f)) (without x f) (omega arith) (omega arith)
    ∙ (sym one ∙ enough (suc (length (assigned f))) (length (assigned f)) f (omega arith) (omega arith))

-- ---- nothing unused is left

left_at : (f : Function) (n : ℕ) (o : Option ℕ) → ((x : ℕ) → o ≡ Some x → last_unused (pruned_by n (without x f)) ≡ None) → (o ≡ None → last_unused f ≡ None) → last_unused (option_map_or (λ x. pruned_by n (without x f)) o f) ≡ None
left_at f n None some none = none refl
left_at f n (Some x) some none = some x refl

none_left_by : (n : ℕ) (f : Function) → length (assigned f) ≤ n → last_unused (pruned_by n f) ≡ None
none_left_by zero f few = none_assigned f few
none_left_by (suc n) f few = left_at f n (last_unused f) (λ x is. none_left_by n (without x f) (omega (arith, fewer_assigned f x is))) (λ none. none)

pub none_left : (f : Function) → last_unused (pruned f) ≡ None
unfolding pruned
none_left f = none_left_by (length (assigned f)) f (omega arith)
