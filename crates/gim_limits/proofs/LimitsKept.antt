-- What limits functions without a fault keep.
use Rattle.std.proofs.Common.{◌≡◌, ◌≤◌, ℕ, suc, Bool, true, false, List, [], ◌∷◌, ◌++◌, length, Option}
use Rattle.std.proofs.Common.{Some, None, IsSome, IsTrue, append-nil, refl, sym, ap, subst, ◌∙◌, arith}
use Rattle.std.specs.Prelude.{not, ◌&&◌, ◌||◌, ◌==◌, if◌then◌else◌}
use Rattle.std.specs.List.{AllByRecursion, filter_map, cons_option}
use Rattle.std.proofs.lemmas.List.{length-append, length-map}
use Rattle.std.proofs.lemmas.List.Elements.{filter_map-append}
use Rattle.std.proofs.lemmas.Bool.{eq-eqb, or_parts}
use Rattle.lexing.specs.Numbers.{is_number_text, number_below}
use Rattle.gim_ast.specs.WellFormed.{same_text}
use Rattle.gim_text.proofs.SameTexts.{same_text_symm, same_text_is}
use Rattle.gim_text.specs.declared.limits.TheConstants.{BLOCK_LIMIT, NAME_LIMIT, NUMBER_LIMIT}
use Rattle.gim_text.specs.declared.fault.GimpleFault.{GimpleFault}
use Rattle.gim_text.specs.declared.fault.GimpleKind.TheVariants.{TooLarge}
use Rattle.pm_places.specs.declared.span.Span.{Span}
use Rattle.gim_text.specs.declared.tree.FunctionText.{FunctionText}
use Rattle.gim_text.specs.declared.tree.BlockText.{BlockText}
use Rattle.gim_text.specs.declared.occurrence.Occurrence.{Occurrence}
use Rattle.gim_text.specs.Faults.{fault_at}
use Rattle.pm_places.specs.FirstFaults.{first_fault}
use Rattle.gim_text.specs.Occurrences.{place_of, block_at, occurrences_of}
use Rattle.gim_text.proofs.OccurrenceLemmas.{each_says, none_says, said_at_heads}
use Rattle.gim_shape.specs.Blocks.{is_among}
use Rattle.gim_limits.specs.Limits.{digits_at, is_any_above, blocks_among, version_at, versions_of, different}
use Rattle.gim_limits.specs.Limits.{is_name_too_many, is_block_too_many, is_too_large, large_faults}
use Rattle.gim_limits.specs.Limits.{function_limit_faults, limits_fault}
use Rattle.gim_shape.proofs.Judging.{none_first, none_of_all}
use Rattle.gim_limits.specs.KeepsLimits.{NumberFits, KeepsLimits}

-- ---- different texts, in any order

swap : (x y : List ℕ) (zs : List (List ℕ)) → different (x ∷ y ∷ zs) ≡ different (y ∷ x ∷ zs)
swap x y zs = by (same_text x y) (is_among zs x) (is_among zs y) refl refl refl where
  by : (s a b : Bool) → same_text x y ≡ s → is_among zs x ≡ a → is_among zs y ≡ b → different (x ∷ y ∷ zs) ≡ different (y ∷ x ∷ zs)
  by true a b e f g = ap (λ t. different (t ∷ y ∷ zs)) (same_text_is x y e) ∙ ap (λ t. different (y ∷ t ∷ zs)) (sym (same_text_is x y e))
  by false true true e f g = rw (sym (same_text_symm x y) ∙ e, e, f, g) refl
  by false true false e f g = rw (sym (same_text_symm x y) ∙ e, e, f, g) refl
  by false false true e f g = rw (sym (same_text_symm x y) ∙ e, e, f, g) refl
  by false false false e f g = rw (sym (same_text_symm x y) ∙ e, e, f, g) refl

any_way : (a b c : Bool) → (a || (b || c)) ≡ (b || (a || c))
any_way true true c = refl
any_way true false c = refl
any_way false true c = refl
any_way false false c = refl

among_middle : (xs ys : List (List ℕ)) (y q : List ℕ) → is_among (xs ++ y ∷ ys) q ≡ is_among (y ∷ (xs ++ ys)) q
among_middle [] ys y q = refl
among_middle (x ∷ xs) ys y q =
    ap (λ b. same_text q x || b) (among_middle xs ys y q)
    ∙ any_way (same_text q x) (same_text q y) (is_among (xs ++ ys) q)

different_middle : (xs ys : List (List ℕ)) (y : List ℕ) → different (xs ++ y ∷ ys) ≡ different (y ∷ (xs ++ ys))
different_middle [] ys y = refl
different_middle (x ∷ xs) ys y =
    let first : different (x ∷ (xs ++ y ∷ ys)) ≡ different (x ∷ y ∷ (xs ++ ys)) =
    ap (λ b. if b then different (xs ++ y ∷ ys) else suc (different (xs ++ y ∷ ys))) (among_middle xs ys y x)
    ∙ ap (λ n. if is_among (y ∷ (xs ++ ys)) x then n else suc n) (different_middle xs ys y) in
    first ∙ swap x y (xs ++ ys)

-- one more, if there is one, anywhere in the list
versions_middle : (xs ys : List (List ℕ)) (o : Option (List ℕ)) → different (xs ++ cons_option o ys) ≡ different (cons_option o (xs ++ ys))
versions_middle xs ys None = refl
versions_middle xs ys (Some y) = different_middle xs ys y

blocks_middle : (xs ys : List Span) (o : Option Span) → length (xs ++ cons_option o ys) ≡ length (cons_option o (xs ++ ys))
blocks_middle xs ys None = refl
blocks_middle xs ys (Some at) = let whole = length-append xs ys in length-append xs (at ∷ ys) ∙ omega arith

-- ---- what is not too large

below : (n limit : ℕ) → (n == limit) ≡ false → n ≤ limit → suc n ≤ limit
below n limit other le = let apart : n ≡ limit → ⊥ = λ e. let same = eq-eqb n limit e in cc in omega arith

blocks_stay : (blocks : List Span) (o : Option Span) → is_block_too_many (length blocks) o ≡ false
    → length blocks ≤ BLOCK_LIMIT → length (cons_option o blocks) ≤ BLOCK_LIMIT
blocks_stay blocks None h le = le
blocks_stay blocks (Some at) h le = below (length blocks) BLOCK_LIMIT h le

names_stay : (versions : List (List ℕ)) (o : Option (List ℕ)) → is_name_too_many versions o ≡ false
    → different versions ≤ NAME_LIMIT → different (cons_option o versions) ≤ NAME_LIMIT
names_stay versions None h le = le
names_stay versions (Some version) h le = by (is_among versions version) refl h where
  by : (b : Bool) → is_among versions version ≡ b → (not b && (different versions == NAME_LIMIT)) ≡ false
      → different (version ∷ versions) ≤ NAME_LIMIT
  by true e room = rw e le
  by false e room = rw e (below (different versions) NAME_LIMIT room le)

number_fits : (digits : Option (List ℕ)) → is_any_above digits ≡ false → NumberFits digits
number_fits None h = tt
number_fits (Some digits) h = λ number. by number (number_below NUMBER_LIMIT digits) refl where
  by : IsTrue (is_number_text digits) → (n : Option ℕ) → number_below NUMBER_LIMIT digits ≡ n → IsSome (number_below NUMBER_LIMIT digits)
  by number None e = let no = rw (number, e) at h in absurd cc
  by number (Some n) e = rw e refl

record Fits (source : List ℕ) (before : List Occurrence) (o : Occurrence) : Type 0 where
  number : is_any_above (digits_at source o) ≡ false
  name : is_name_too_many (versions_of source before) (version_at source o) ≡ false
  block : is_block_too_many (blocks_among before) (block_at o) ≡ false

free : (large : Bool) (fault : GimpleFault) → (if large then Some fault else None) ≡ None → large ≡ false
free true fault h = absurd cc
free false fault h = refl

-- the first fits, and the others are without a fault
first_fits : (source : List ℕ) (before : List Occurrence) (o : Occurrence) (os : List Occurrence)
    → first_fault (large_faults source before (o ∷ os)) ≡ None
    → Fits source before o × (first_fault (large_faults source (o ∷ before) os) ≡ None)
first_fits source before o os none =
    let parts =
    none_first (if is_too_large source before o then Some (fault_at TooLarge (place_of o)) else None)
    (large_faults source (o ∷ before) os) none in
    let name = is_name_too_many (versions_of source before) (version_at source o) in
    let block = is_block_too_many (blocks_among before) (block_at o) in
    let p = or_parts (is_any_above (digits_at source o)) (name || block)
    (free (is_too_large source before o) (fault_at TooLarge (place_of o)) parts.0) in
    let q = or_parts name block p.1 in
    (record { number = p.0; name = q.0; block = q.1 }, parts.1)

-- ---- all that occurs

numbers_fit : (source : List ℕ) (before os : List Occurrence) → first_fault (large_faults source before os) ≡ None
    → AllByRecursion (λ o. NumberFits (digits_at source o)) os
numbers_fit source before [] none = tt
numbers_fit source before (o ∷ os) none =
    let p = first_fits source before o os none in
    (number_fits (digits_at source o) p.0.number, numbers_fit source (o ∷ before) os p.1)

few_blocks : (source : List ℕ) (before os : List Occurrence) → first_fault (large_faults source before os) ≡ None
    → blocks_among before ≤ BLOCK_LIMIT → blocks_among (os ++ before) ≤ BLOCK_LIMIT
few_blocks source before [] none le = le
few_blocks source before (o ∷ os) none le =
    let p = first_fits source before o os none in
    let same : blocks_among (os ++ o ∷ before) ≡ blocks_among (o ∷ (os ++ before)) =
    ap length (filter_map-append block_at os (o ∷ before))
    ∙ blocks_middle (filter_map block_at os) (filter_map block_at before) (block_at o)
    ∙ ap (λ xs. length (cons_option (block_at o) xs)) (sym (filter_map-append block_at os before)) in
    subst (λ n. n ≤ BLOCK_LIMIT) same (few_blocks source (o ∷ before) os p.1
    (blocks_stay (filter_map block_at before) (block_at o) p.0.block le))

few_names : (source : List ℕ) (before os : List Occurrence) → first_fault (large_faults source before os) ≡ None
    → different (versions_of source before) ≤ NAME_LIMIT
    → different (versions_of source (os ++ before)) ≤ NAME_LIMIT
few_names source before [] none le = le
few_names source before (o ∷ os) none le =
    let p = first_fits source before o os none in
    let says = version_at source in
    let same : different (versions_of source (os ++ o ∷ before)) ≡ different (versions_of source (o ∷ (os ++ before))) =
    ap different (filter_map-append says os (o ∷ before)) ∙ versions_middle (filter_map says os) (filter_map says before) (says o)
    ∙ ap (λ xs. different (cons_option (says o) xs)) (sym (filter_map-append says os before)) in
    subst (λ n. n ≤ NAME_LIMIT) same (few_names source (o ∷ before) os p.1 (names_stay (versions_of source before) (says o) p.0.name le))

-- ---- functions

abbrev number_place : BlockText → Span
number_place block = block.number

all_blocks : (function : FunctionText) → blocks_among (occurrences_of function) ≡ length function.blocks
all_blocks function =
    let heads =
    said_at_heads block_at (record {
      jump = λ at. refl;
      assigned = λ at. refl;
      used = λ at. refl;
      initial =
          λ at. refl;
      constant = λ literal. refl;
    }) function in
    ap length (heads ∙ three (none_says function.params) (none_says function.decls)
    (each_says number_place function.blocks)) ∙ length-map function.blocks number_place where
      three : {us vs ws zs : List Span} → us ≡ [] → vs ≡ [] → ws ≡ zs → (us ++ vs) ++ ws ≡ zs
      three p q r = rw (p, q) r

function_keeps : (source : List ℕ) (function : FunctionText)
    → first_fault (function_limit_faults source function) ≡ None → KeepsLimits source function
function_keeps source function none =
    let os = occurrences_of function in
    let all : os ++ [] ≡ os = append-nil os in
    record {
      blocks = subst (λ n. n ≤ BLOCK_LIMIT) (ap blocks_among all ∙ all_blocks function) (few_blocks source [] os none (omega arith));
      names = subst (λ xs. different (versions_of source xs) ≤ NAME_LIMIT) all (few_names source [] os none (omega arith));
      numbers = numbers_fit source [] os none;
    }

pub limits_kept : (source : List ℕ) (functions : List FunctionText) → limits_fault source functions ≡ None
    → AllByRecursion (KeepsLimits source) functions
unfolding limits_fault
limits_kept source functions none = none_of_all (function_limit_faults source) (KeepsLimits source) (function_keeps source) functions none
