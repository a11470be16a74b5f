-- A function that is made has fewer than 2 ^ 31 blocks, names and operands.
use Rattle.std.proofs.Common.{◌≡◌, ◌⊎◌, ℕ, suc, ◌^◌, ◌<◌, ◌≤◌, Bool, true, false, cond, Some, option_map}
use Rattle.std.proofs.Common.{List, [], ◌∷◌, map, length, refl, sym, ap, subst, ◌∙◌, arith, inl, inr}
use Rattle.std.specs.Prelude.{◌&&◌, ◌||◌, nat_lt}
use Rattle.std.specs.List.{list_all, IsDistinct, AllByRecursion}
use Rattle.std.specs.Set.{unique_keys, is_member}
use Rattle.std.specs.Fmt.{decimal}
use Rattle.std.specs.Cmp.Lexicographic.{nat_list_eq_equiv}
use Rattle.std.proofs.lemmas.Bool.{and_parts, and_from, lt-ltb, false≢true}
use Rattle.std.proofs.lemmas.Map.Made.{length-le_from_is_member}
use Rattle.gim_ast.specs.declared.function.NameRow.{NameRow}
use Rattle.gim_ast.specs.Functions.{operands_of}
use Rattle.gim_ast.specs.WellFormed.{same_text, rises, bounds_hold}
use Rattle.gim_text.proofs.SameTexts.{same_text_is}
use Rattle.gim_text.specs.declared.limits.TheConstants.{BLOCK_LIMIT, NAME_LIMIT}
use Rattle.gim_text.specs.declared.tree.FunctionText.{FunctionText}
use Rattle.gim_text.specs.Occurrences.{occurrences_of}
use Rattle.gim_names.specs.KeepsNames.{KeepsNames}
use Rattle.gim_shape.specs.Blocks.{is_among}
use Rattle.gim_limits.specs.KeepsLimits.{KeepsLimits}
use Rattle.gim_limits.specs.Limits.{version_at, versions_of, different}
use Rattle.gim_typing.specs.Operands.{operand_of}
use Rattle.gim_typing.specs.Declarations.{declarations_of, number_of}
use Rattle.gim_making.specs.Names.{AreNames, version_of, name_place, named_rows}
use Rattle.gim_making.specs.Standing.{made}
use Rattle.gim_making.specs.Trees.{block_of}
use Rattle.gim_making.specs.Written.{operands_in, IsWritten}
use Rattle.gim_text.proofs.Membership.{Has, from_map, has_said, from_said, any_has, any_from_has}
use Rattle.gim_making.proofs.MadeOperands.{ArePhisFirst, made_operands}
use Rattle.gim_making.proofs.NameRows.{above, name_is_row}
use Rattle.gim_making.proofs.NamePlaces.{AreSmall, row_place}
use Rattle.gim_making.proofs.SmallNumbers.{named_version}

length-map : {X Y : Type 0} (f : X → Y) (xs : List X) → length (map f xs) ≡ length xs
length-map f [] = refl
length-map f (x ∷ xs) = ap suc (length-map f xs)

-- ---- different texts

different_by : (b : Bool) (t : List ℕ) (n : ℕ) (later : List (List ℕ)) → n ≡ length later
    → cond b n (suc n) ≡ length (cond b later (t ∷ later))
different_by true t n later e = e
different_by false t n later e = ap suc e

different_is : (ts : List (List ℕ)) → different ts ≡ length (unique_keys same_text ts)
different_is [] = refl
different_is (t ∷ ts) = different_by (is_among ts t) t (different ts) (unique_keys same_text ts) (different_is ts)

or_parts : (a b : Bool) → (a || b) ≡ true → (a ≡ true) ⊎ (b ≡ true)
or_parts true b h = inl refl
or_parts false b h = inr h

or_back : (a b : Bool) → (a ≡ true) ⊎ (b ≡ true) → (a || b) ≡ true
or_back true b h = refl
or_back false b (inl h) = absurd (false≢true h)
or_back false b (inr h) = h

kept_by : (b : Bool) (t q : List ℕ) (ts later : List (List ℕ)) → is_member same_text ts t ≡ b
    → (is_member same_text ts q ≡ true → is_member same_text later q ≡ true)
    → (same_text q t || is_member same_text ts q) ≡ true
    → is_member same_text (cond b later (t ∷ later)) q ≡ true
kept_by true t q ts later known back h =
    elim (or_parts (same_text q t) (is_member same_text ts q) h) [
      | inl same ↦ back (ap (is_member same_text ts) (same_text_is q t same) ∙ known)
      | inr there ↦ back there
    ]
kept_by false t q ts later known back h =
    elim (or_parts (same_text q t) (is_member same_text ts q) h) [
      | inl same ↦ or_back (same_text q t) (is_member same_text later q) (inl same)
      | inr there ↦ or_back (same_text q t) (is_member same_text later q) (inr (back there))
    ]

unique_keeps : (q : List ℕ) (ts : List (List ℕ)) → is_member same_text ts q ≡ true → is_member same_text (unique_keys same_text ts) q ≡ true
unique_keeps q [] h = absurd (false≢true h)
unique_keeps q (t ∷ ts) h = kept_by (is_member same_text ts t) t q ts (unique_keys same_text ts) refl (unique_keeps q ts) h

-- ---- versions of names

abbrev pub version_digits : NameRow → List ℕ
version_digits row = decimal row.version

pub row_digits : (source : List ℕ) (tree : FunctionText) (names : List NameRow) → KeepsNames source tree
    → AreSmall source tree → AreNames (named_rows source tree) names → (row : NameRow) → Has names row
    → Has (versions_of source (occurrences_of tree)) (version_digits row) × (number_of (version_digits row) ≡ row.version)
row_digits source tree names kept small are row there =
    let p = row_place source tree kept small row (name_is_row source tree names are row there) in
    let f = p.2.0 in
    let version : number_of f.digits ≡ row.version = ap version_of p.2.1 in
    let digits : f.digits ≡ version_digits row = f.small ∙ ap decimal version in
    let r = from_said (name_place source) (occurrences_of tree) p.0 p.1 in
    let said : version_at source r.0 ≡ Some f.digits =
    named_version source r.0 p.0 r.2 ∙ ap (λ o. option_map (λ (x : List ℕ × List ℕ). x.1) o) f.parts in (
      subst (Has (versions_of source (occurrences_of tree))) digits
          (has_said (version_at source) (occurrences_of tree) r.0 f.digits r.1 said),
      ap number_of (sym digits) ∙ version,
    )

pub all_by : {X : Type 0} (P : X → Type 0) (xs : List X) → ((x : X) → Has xs x → P x) → AllByRecursion P xs
all_by P [] h = tt
all_by P (x ∷ xs) h = (h x (inl refl), all_by P xs (λ y there. h y (inr there)))

false_from : (b : Bool) → (b ≡ true → ⊥) → b ≡ false
false_from true h = absurd (h refl)
false_from false h = refl

distinct_digits : (rows : List NameRow) → rises (map version_of rows) ≡ true
    → ((row : NameRow) → Has rows row → number_of (version_digits row) ≡ row.version)
    → IsDistinct same_text (map version_digits rows)
unfolding IsDistinct
distinct_digits [] up h = tt
distinct_digits (row ∷ rows) up h =
    let p = and_parts (list_all (nat_lt row.version) (map version_of rows)) (rises (map version_of rows)) up in (
      all_by (λ y. same_text (version_digits row) y ≡ false) (map version_digits rows) (λ y there.
          let r = from_map version_digits rows y there in
          false_from (same_text (version_digits row) y) (λ same.
          let equal : row.version ≡ r.0.version =
          sym (h row (inl refl)) ∙ ap number_of (same_text_is (version_digits row) y same ∙ sym r.2)
          ∙ h r.0 (inr r.1) in
          let far : row.version < r.0.version = above row.version rows p.0 r.0 r.1 in
          absurd (omega arith))),
      distinct_digits rows p.1 (λ x there. h x (inr there)),
    )

pub few_names : (source : List ℕ) (tree : FunctionText) (names : List NameRow) → KeepsNames source tree
    → AreSmall source tree → KeepsLimits source tree → AreNames (named_rows source tree) names
    → length names ≤ NAME_LIMIT
few_names source tree names kept small limits are =
    let versions = versions_of source (occurrences_of tree) in
    let digits = map version_digits names in
    let apart : IsDistinct same_text digits =
    distinct_digits names are.rising (λ row there. (row_digits source tree names kept small are row there).1) in
    let known : (q : List ℕ) → is_member same_text digits q ≡ true → is_member same_text (unique_keys same_text versions) q ≡ true =
    λ q member.
    let d = any_has (same_text q) digits member in
    let r = from_map version_digits names d.0 d.1 in
    let there : Has versions d.0 = subst (Has versions) r.2 (row_digits source tree names kept small are r.0 r.1).0 in
    unique_keeps q versions (any_from_has (same_text q) versions d.0 there d.2) in
    let fewer : length digits ≤ length (unique_keys same_text versions) =
    length-le_from_is_member nat_list_eq_equiv digits (unique_keys same_text versions) apart known in
    let same : length digits ≡ length names = length-map version_digits names in
    let all : different versions ≡ length (unique_keys same_text versions) = different_is versions in
    let limit : different versions ≤ NAME_LIMIT = limits.names in
    omega arith

-- ---- the whole

pub bounds : (source : List ℕ) (tree : FunctionText) (names : List NameRow) → IsWritten source tree
    → KeepsNames source tree → AreSmall source tree → ArePhisFirst tree → KeepsLimits source tree
    → AreNames (named_rows source tree) names → bounds_hold (made source tree names) ≡ true
unfolding made
bounds source tree names written kept small first limits are =
    let f = made source tree names in
    let blocks = map (block_of (declarations_of source tree)) tree.blocks in
    let as_many : length blocks ≡ length tree.blocks = length-map (block_of (declarations_of source tree)) tree.blocks in
    let block_limit : length tree.blocks ≤ BLOCK_LIMIT = limits.blocks in
    let few_blocks : length blocks < 2 ^ 31 = omega arith in
    let name_limit : length names ≤ NAME_LIMIT = few_names source tree names kept small limits are in
    let few_rows : length names < 2 ^ 31 = omega arith in
    let operands : length (operands_of f) ≡ length (operands_in tree) =
    ap length (made_operands source tree names first)
    ∙ length-map (operand_of (declarations_of source tree)) (operands_in tree) in
    let few_texts : length (operands_in tree) < 2 ^ 31 = written.few in
    let few_operands : length (operands_of f) < 2 ^ 31 = omega arith in
    and_from (nat_lt (length blocks) (2 ^ 31) && nat_lt (length names) (2 ^ 31)) (nat_lt (length (operands_of f)) (2 ^ 31))
    (and_from (nat_lt (length blocks) (2 ^ 31)) (nat_lt (length names) (2 ^ 31))
    (lt-ltb (length blocks) (2 ^ 31) few_blocks) (lt-ltb (length names) (2 ^ 31) few_rows))
    (lt-ltb (length (operands_of f)) (2 ^ 31) few_operands)
