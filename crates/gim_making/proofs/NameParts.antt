-- The parts of names, and the declarations of their bases.
use Rattle.std.proofs.Common.{◌≡◌, ◌⊎◌, ℕ, Bool, true, false, cond, Option, Some, None, List, []}
use Rattle.std.proofs.Common.{◌∷◌, ◌++◌, map, lit≤, refl, sym, ap, subst, ◌∙◌, inl, inr}
use Rattle.std.specs.Prelude.{◌==◌, ◌&&◌, ◌||◌, not}
use Rattle.std.specs.List.{list_any}
use Rattle.std.specs.Option.{option_or, unwrap_or}
use Rattle.std.specs.Fmt.{decimal}
use Rattle.std.specs.Str.{bytes_eq}
use Rattle.std.specs.Cmp.Lexicographic.{nat_list_eq_equiv}
use Rattle.std.proofs.lemmas.Bool.{and_parts, and_from, eqb-true, eq-eqb, false≢true}
use Rattle.pm_wide.specs.Types.{Ty, same_type}
use Rattle.gim_ast.specs.Identifiers.{is_anonymous}
use Rattle.lexing.specs.Numbers.{is_number_text, number_below}
use Rattle.gim_ast.specs.WellFormed.{same_text, declares_as}
use Rattle.lexing.proofs.NumberLemmas.{number_below_is}
use Rattle.gim_text.specs.declared.limits.TheConstants.{NUMBER_LIMIT}
use Rattle.gim_text.specs.declared.tree.DeclText.{DeclText}
use Rattle.gim_text.specs.Texts.{name_parts, parts_from}
use Rattle.pm_places.specs.Spans.{text_of}
use Rattle.gim_text.proofs.NameLemmas.{parts_found}
use Rattle.gim_names.specs.KeepsNames.{ident_text, has_base}
use Rattle.gim_typing.specs.Declarations.{Declarations, declared_type, type_by_base, number_of}
use Rattle.gim_making.specs.Trees.{decl_of}

pub some_is : {X : Type 0} (x y : X) → Some x ≡ Some y → x ≡ y
some_is x y e = cc

-- ---- the text of a name

none_step : (t : Bool) (b : ℕ) (bytes base ds : List ℕ) → ((b == 95) && is_number_text bytes) ≡ t
    → cond {A = Option (List ℕ × List ℕ)} t (Some ([], bytes)) None ≡ Some (base, ds) → (b ∷ bytes ≡ base ++ 95 ∷ ds)
    × (is_number_text ds ≡ true)
none_step false b bytes base ds is e = absurd cc
none_step true b bytes base ds is e =
    let same : ([], bytes) ≡ (base, ds) = some_is ([], bytes) (base, ds) e in
    let p = and_parts (b == 95) (is_number_text bytes) is in
    let nothing : [] ≡ base = ap (λ (x : List ℕ × List ℕ). x.0) same in
    let rest : bytes ≡ ds = ap (λ (x : List ℕ × List ℕ). x.1) same in (
      ap (λ c. c ∷ bytes) (eqb-true b 95 p.0) ∙ ap (λ l. l ++ 95 ∷ bytes) nothing
          ∙ ap (λ l. base ++ 95 ∷ l) rest,
      subst (λ l. is_number_text l ≡ true) rest p.1,
    )

parts_step : (b : ℕ) (bytes : List ℕ) (found : Option (List ℕ × List ℕ)) (base ds : List ℕ)
    → ((x y : List ℕ) → found ≡ Some (x, y) → (bytes ≡ x ++ 95 ∷ y) × (is_number_text y ≡ true))
    → parts_from b found bytes ≡ Some (base, ds) → (b ∷ bytes ≡ base ++ 95 ∷ ds) × (is_number_text ds ≡ true)
parts_step b bytes None base ds later e = none_step ((b == 95) && is_number_text bytes) b bytes base ds refl e
parts_step b bytes (Some parts) base ds later e =
    let same : (b ∷ parts.0, parts.1) ≡ (base, ds) = some_is (b ∷ parts.0, parts.1) (base, ds) e in
    let r = later parts.0 parts.1 refl in
    let front : b ∷ parts.0 ≡ base = ap (λ (x : List ℕ × List ℕ). x.0) same in
    let rest : parts.1 ≡ ds = ap (λ (x : List ℕ × List ℕ). x.1) same in
    (ap (λ l. b ∷ l) r.0 ∙ ap (λ l. l ++ 95 ∷ parts.1) front ∙ ap (λ l. base ++ 95 ∷ l) rest, subst (λ l. is_number_text l ≡ true) rest r.1)

pub parts_are : (text base ds : List ℕ) → name_parts text ≡ Some (base, ds) → (text ≡ base ++ 95 ∷ ds) × (is_number_text ds ≡ true)
unfolding name_parts
parts_are [] base ds e = absurd cc
parts_are (b ∷ bytes) base ds e = parts_step b bytes (name_parts bytes) base ds (λ x y found. parts_are bytes x y found) e

pub anonymous_has_parts : (text : List ℕ) → is_anonymous text ≡ true → (ds : List ℕ) × (name_parts text ≡ Some ([], ds))
anonymous_has_parts [] h = absurd (false≢true h)
anonymous_has_parts (b ∷ bytes) h =
    let p = and_parts (b == 95) (is_number_text bytes) h in
    (bytes, ap (λ c. name_parts (c ∷ bytes)) (eqb-true b 95 p.0) ∙ parts_found [] bytes p.1)

pub bare_is_anonymous : (text ds : List ℕ) → name_parts text ≡ Some ([], ds) → is_anonymous text ≡ true
bare_is_anonymous text ds e =
    let p = parts_are text [] ds e in
    ap is_anonymous p.0 ∙ and_from (95 == 95) (is_number_text ds) (eq-eqb 95 95 refl) p.1

-- ---- numbers below the limit

-- the digits are those of their number
abbrev pub IsSmall : List ℕ → Type 0
IsSmall ds = ds ≡ decimal (number_of ds)

pub small_number : (ds : List ℕ) (n : ℕ) → number_below NUMBER_LIMIT ds ≡ Some n → IsSmall ds
small_number ds n e =
    let p = number_below_is NUMBER_LIMIT n ds (lit≤ tt) e in
    p.1 ∙ ap decimal (sym (ap (λ o. unwrap_or o 0) e))

pub same_number : (a b : List ℕ) → IsSmall a → IsSmall b → number_of a ≡ number_of b → a ≡ b
same_number a b small_a small_b e = small_a ∙ ap decimal e ∙ sym small_b

-- ---- declarations

pub type_itself : (t : Ty) → same_type t t ≡ true
type_itself t =
    and_from (t.width == t.width) (cond t.unsigned t.unsigned (not t.unsigned)) (eq-eqb t.width t.width refl)
    (one t.unsigned) where
      one : (u : Bool) → cond u u (not u) ≡ true
      one true = refl
      one false = refl

declared_by : (b : Bool) (t : Ty) (later : Option Ty) (any : Bool) → (any ≡ true → (u : Ty) × (later ≡ Some u))
    → (b || any) ≡ true → (u : Ty) × (cond b (Some t) later ≡ Some u)
declared_by true t later any h e = (t, refl)
declared_by false t later any h e = h e

pub declared_some : (source q : List ℕ) (decls : List DeclText)
    → list_any (same_text q) (map (ident_text source) decls) ≡ true → (t : Ty) × (declared_type source q decls ≡ Some t)
declared_some source q [] h = absurd (false≢true h)
declared_some source q (decl ∷ decls) h =
    declared_by (same_text q (text_of source decl.ident)) decl.ty (declared_type source q decls)
    (list_any (same_text q) (map (ident_text source) decls)) (λ later. declared_some source q decls later) h

declares_by : (b c later : Bool) (t u : Ty) (rest : Option Ty) → b ≡ c → (rest ≡ Some u → later ≡ true)
    → cond b (Some t) rest ≡ Some u → ((c && same_type t u) || later) ≡ true
declares_by true c later t u rest same h e =
    let types : t ≡ u = some_is t u e in
    rw (← same) (ap (λ s. s || later) (ap (same_type t) (sym types) ∙ type_itself t))
declares_by false c later t u rest same h e = rw (← same) (h e)

pub declares : (source q : List ℕ) (decls : List DeclText) (t : Ty) → declared_type source q decls ≡ Some t
    → declares_as q t (map (decl_of source) decls) ≡ true
declares source q [] t e = absurd cc
declares source q (decl ∷ decls) t e =
    declares_by (bytes_eq q (text_of source decl.ident)) (same_text (text_of source decl.ident) q)
    (declares_as q t (map (decl_of source) decls)) decl.ty t (declared_type source q decls)
    (nat_list_eq_equiv.symm q (text_of source decl.ident)) (λ later. declares source q decls t later) e

either_typed : (a b : Option Ty) → ((t : Ty) × (a ≡ Some t)) ⊎ ((t : Ty) × (b ≡ Some t)) → (t : Ty) × (option_or a b ≡ Some t)
either_typed (Some x) b h = (x, refl)
either_typed None b (inl h) = absurd (let e = h.1 in cc)
either_typed None b (inr h) = h

or_sides : (a b : Bool) → (a || b) ≡ true → (a ≡ true) ⊎ (b ≡ true)
or_sides true b h = inl refl
or_sides false b h = inr h

-- a name of a declared base has a type
pub typed : (known : Declarations) (text base ds : List ℕ)
    → has_base (map (ident_text known.source) known.locals) (map (ident_text known.source) known.params) text
    (Some (base, ds)) ≡ true
    → (t : Ty) × (type_by_base known text base ≡ Some t)
typed known text [] ds h = declared_some known.source text known.locals h
typed known text (b ∷ base) ds h =
    either_typed (declared_type known.source (b ∷ base) known.params) (declared_type known.source (b ∷ base) known.locals)
    (elim (or_sides (list_any (same_text (b ∷ base)) (map (ident_text known.source) known.locals))
    (list_any (same_text (b ∷ base)) (map (ident_text known.source) known.params)) h) [
      | inl l ↦ inr (declared_some known.source (b ∷ base) known.locals l)
      | inr r ↦ inl (declared_some known.source (b ∷ base) known.params r)
    ])
