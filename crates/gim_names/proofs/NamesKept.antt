-- What follows for a function where none of its occurrences is at fault.
use Rattle.std.proofs.Common.{◌≡◌, ℕ, zero, suc, Bool, true, false, List, [], ◌∷◌, map, Option}
use Rattle.std.proofs.Common.{Some, None, option_map, refl, sym, ap, subst, ◌∙◌, arith, inl, inr}
use Rattle.std.specs.Prelude.{if◌then◌else◌, not, ◌||◌, ◌&&◌, ◌==◌, Contains, is_some, is_none}
use Rattle.std.specs.List.{list_any, list_all, cons_option, filter_map}
use Rattle.std.specs.Cmp.Lexicographic.{bytes_decides}
use Rattle.std.proofs.lemmas.Bool.{and_from, or_parts, or_from, or_left, or_right, or_cases}
use Rattle.std.proofs.lemmas.Bool.{not_from_false, not-false, and_right, false_from_ne_true}
use Rattle.std.proofs.lemmas.Bool.{false≢true}
use Rattle.gim_ast.specs.Identifiers.{is_anonymous}
use Rattle.lexing.specs.Numbers.{is_number_text}
use Rattle.gim_ast.specs.WellFormed.{same_text, all_distinct}
use Rattle.lexing.proofs.NumberLemmas.{number_text_is_digits}
use Rattle.gim_text.proofs.Membership.{Has}
use Rattle.gim_text.proofs.SameTexts.{same_text_symm}
use Rattle.gim_text.specs.declared.fault.GimpleFault.{GimpleFault}
use Rattle.gim_text.specs.declared.fault.GimpleKind.{GimpleKind}
use Rattle.gim_text.specs.declared.fault.GimpleKind.TheVariants.{Redefined}
use Rattle.gim_text.specs.declared.tree.FunctionText.{FunctionText}
use Rattle.gim_text.specs.Faults.{fault_at}
use Rattle.pm_places.specs.FirstFaults.{or_fault, first_by}
use Rattle.gim_text.specs.Texts.{name_parts, parts_from}
use Rattle.pm_places.specs.Spans.{text_of}
use Rattle.gim_text.specs.Literals.{literal_word}
use Rattle.gim_text.proofs.NameLemmas.{no_parts_in_digits}
use Rattle.gim_text.proofs.OccurrenceLemmas.{each_says}
use Rattle.pm_wide.specs.Types.{Word}
use Rattle.gim_text.specs.declared.occurrence.Occurrence.{Occurrence}
use Rattle.gim_text.specs.declared.occurrence.Occurrence.TheVariants.{Parameter, Local, Block, Jump, Assigned, Used, Default, Constant}
use Rattle.gim_text.specs.Occurrences.{place_of, occurrences_of}
use Rattle.gim_names.specs.OccurrenceTexts.{param_text, local_text, declared_text, block_number, assigned_text}
use Rattle.gim_names.specs.OccurrenceTexts.{assigned_version, plain_version, default_version, version_base}
use Rattle.gim_names.specs.OccurrenceTexts.{base_default}
use Rattle.gim_names.specs.Rules.{has_other_second, stands, differs, is_declared_again, is_assigned_again, is_repeated}
use Rattle.gim_names.specs.Rules.{is_contradicted, is_marked_otherwise, has_other_base, has_other_mark}
use Rattle.gim_names.specs.Rules.{has_other_default, is_redefined, is_bare, lacks_base, lacks_param, is_unassigned}
use Rattle.gim_names.specs.Rules.{is_undeclared, is_wide}
use Rattle.gim_names.specs.NamesFault.{first_kind, kind_of_occurrence, occurrence_fault, occurrences_fault}
use Rattle.gim_names.specs.NamesFault.{function_text, second_function, function_fault, names_fault}
use Rattle.gim_names.specs.Tables.{have_one_each}
use Rattle.gim_names.specs.KeepsNames.{locals_of, assigned_of, has_base, has_param, is_declared, has_word, KeepsNames}
use Rattle.gim_names.proofs.DeclaredIdentifiers.{declares}

-- ---- no fault in a list

-- each is found without a fault by those before it
abbrev pub NoneBy : {X : Type 0} → (List X → X → Option GimpleFault) → List X → List X → Type 0
NoneBy judge before [] = Unit {0}
NoneBy judge before (x ∷ xs) = (judge before x ≡ None) × NoneBy judge (x ∷ before) xs

or_none : (a b : Option GimpleFault) → or_fault a b ≡ None → (a ≡ None) × (b ≡ None)
or_none None b e = (refl, e)
or_none (Some fault) b e = absurd cc

pub none_by : {X : Type 0} (judge : List X → X → Option GimpleFault) (before xs : List X)
    → first_by judge before xs ≡ None → NoneBy judge before xs
none_by judge before [] e = tt
none_by judge before (x ∷ xs) e =
    let p = or_none (judge before x) (first_by judge (x ∷ before) xs) e in
    (p.0, none_by judge (x ∷ before) xs p.1)

-- what holds of each that is found without a fault
pub every : {X : Type 0} (judge : List X → X → Option GimpleFault) (test : X → Bool)
    → ((before : List X) (x : X) → judge before x ≡ None → test x ≡ true) → (before xs : List X)
    → NoneBy judge before xs → list_all test xs ≡ true
every judge test tells before [] none = refl
every judge test tells before (x ∷ xs) none =
    and_from (test x) (list_all test xs) (tells before x none.0) (every judge test tells (x ∷ before) xs none.1)

pub every_at : {X : Type 0} (judge : List X → X → Option GimpleFault) (P : X → Type 0)
    → ((before : List X) (x : X) → judge before x ≡ None → P x) → (before xs : List X) → NoneBy judge before xs
    → (x : X) → Contains xs x → P x
every_at judge P tells before [] none x c = absurd (omega (arith, c.1))
every_at judge P tells before (y ∷ ys) none x (zero, lt, is) = subst P is (tells before y none.0)
every_at judge P tells before (y ∷ ys) none x (suc k, lt, is) = every_at judge P tells (y ∷ before) ys none.1 x (k, omega (arith, lt), is)

-- ---- no two alike

apart_of : {X : Type 0} (E : X → X → Bool) (x : X) (known : List X) → list_any (E x) known ≡ false → (q : X) → Has known q → E x q ≡ false
apart_of E x [] none q has = absurd has
apart_of E x (y ∷ ys) none q (inl is) = subst (λ z. E x z ≡ false) is (or_parts (E x y) (list_any (E x) ys) none).0
apart_of E x (y ∷ ys) none q (inr has) = apart_of E x ys (or_parts (E x y) (list_any (E x) ys) none).1 q has

module _ {M X : Type 0} (E : X → X → Bool) (symm : (x y : X) → E x y ≡ E y x) (says : M → Option X)
    (judge : List M → M → Option GimpleFault)
    (apart : (before : List M) (m : M) → judge before m ≡ None → (x : X) → says m ≡ Some x
    → list_any (E x) (filter_map says before) ≡ false) where
  far_step : (o : Option X) (known later : List X) → ((x : X) → o ≡ Some x → list_any (E x) known ≡ false)
      → ((q : X) → Has (cons_option o known) q → list_any (E q) later ≡ false) → (q : X) → Has known q
      → list_any (E q) (cons_option o later) ≡ false
  far_step None known later far tail q has = tail q has
  far_step (Some x) known later far tail q has =
      or_from (E q x) (list_any (E q) later) (symm q x ∙ apart_of E x known (far x refl) q has) (tail q (inr has))

  -- none is like one before
  far : (before ms : List M) → NoneBy judge before ms → (q : X) → Has (filter_map says before) q
      → list_any (E q) (filter_map says ms) ≡ false
  far before [] none q has = refl
  far before (m ∷ ms) none q has =
      far_step (says m) (filter_map says before) (filter_map says ms) (apart before m none.0)
      (far (m ∷ before) ms none.1) q has

  distinct_step : (o : Option X) (known later : List X)
      → ((q : X) → Has (cons_option o known) q → list_any (E q) later ≡ false) → all_distinct E later ≡ true
      → all_distinct E (cons_option o later) ≡ true
  distinct_step None known later tail distinct = distinct
  distinct_step (Some x) known later tail distinct =
      and_from (not (list_any (E x) later)) (all_distinct E later)
      (not_from_false (list_any (E x) later) (tail x (inl refl))) distinct

  -- no two are alike
  pub distinct : (before ms : List M) → NoneBy judge before ms → all_distinct E (filter_map says ms) ≡ true
  distinct before [] none = refl
  distinct before (m ∷ ms) none =
      distinct_step (says m) (filter_map says before) (filter_map says ms) (far (m ∷ before) ms none.1)
      (distinct (m ∷ before) ms none.1)

stands_none : (o : Option (List ℕ)) (texts : List (List ℕ)) → stands o texts ≡ false → (x : List ℕ) → o ≡ Some x
    → list_any (same_text x) texts ≡ false
stands_none o texts none x is = subst (λ (p : Option (List ℕ)). stands p texts ≡ false) is none

differs_none : (o : Option (List ℕ × List ℕ)) (pairs : List (List ℕ × List ℕ)) → differs o pairs ≡ false
    → (x : List ℕ × List ℕ) → o ≡ Some x → list_any (has_other_second x.0 x.1) pairs ≡ false
differs_none o pairs none x is = subst (λ (p : Option (List ℕ × List ℕ)). differs p pairs ≡ false) is none

parts_symm : (p q : List ℕ × List ℕ) → has_other_second p.0 p.1 q ≡ has_other_second q.0 q.1 p
parts_symm p q =
    ap (λ (a : Bool). a && not (same_text p.1 q.1)) (same_text_symm p.0 q.0)
    ∙ ap (λ (b : Bool). same_text q.0 p.0 && not b) (same_text_symm p.1 q.1)

one_each : (pairs : List (List ℕ × List ℕ)) → all_distinct (λ (p : List ℕ × List ℕ). has_other_second p.0 p.1) pairs ≡ have_one_each pairs
one_each [] = refl
one_each (p ∷ pairs) = ap (λ (b : Bool). not (list_any (has_other_second p.0 p.1) pairs) && b) (one_each pairs)

-- ---- one kind of text never stands with another

module _ (one other : Occurrence → Option (List ℕ)) (judge : List Occurrence → Occurrence → Option GimpleFault)
    (apart : (before : List Occurrence) (m : Occurrence) → judge before m ≡ None → stands (other m) (filter_map one before) ≡ false) where
  never_step : (q : List ℕ) (o p : Option (List ℕ)) (known later : List (List ℕ)) → stands p known ≡ false
      → (list_any (same_text q) (cons_option o known) ≡ true → list_any (same_text q) later ≡ false)
      → list_any (same_text q) known ≡ true → list_any (same_text q) (cons_option p later) ≡ false
  never_step q o None known later none tail h = tail (more o) where
    more : (o : Option (List ℕ)) → list_any (same_text q) (cons_option o known) ≡ true
    more None = h
    more (Some x) = or_right (same_text q x) (list_any (same_text q) known) h
  never_step q o (Some y) known later none tail h = or_from (same_text q y) (list_any (same_text q) later) other_text (tail (more o)) where
    more : (o : Option (List ℕ)) → list_any (same_text q) (cons_option o known) ≡ true
    more None = h
    more (Some x) = or_right (same_text q x) (list_any (same_text q) known) h

    other_text : same_text q y ≡ false
    other_text =
        false_from_ne_true (same_text q y)
        (λ t. false≢true (sym none ∙ ap (λ (z : List ℕ). list_any (same_text z) known) (sym ((bytes_decides q y).0 t))
        ∙ h))

  pub never : (q : List ℕ) (before ms : List Occurrence) → NoneBy judge before ms
      → list_any (same_text q) (filter_map one before) ≡ true → list_any (same_text q) (filter_map other ms) ≡ false
  never q before [] none h = refl
  never q before (m ∷ ms) none h =
      never_step q (one m) (other m) (filter_map one before) (filter_map other ms) (apart before m none.0)
      (never q (m ∷ before) ms none.1) h

both_step : (q : List ℕ) (o p : Option (List ℕ)) (known_o known_p later_o later_p : List (List ℕ))
    → ((x y : List ℕ) → o ≡ Some x → p ≡ Some y → ⊥)
    → (list_any (same_text q) (cons_option o known_o) ≡ true → list_any (same_text q) later_p ≡ false)
    → (list_any (same_text q) (cons_option p known_p) ≡ true → list_any (same_text q) later_o ≡ false)
    → (list_any (same_text q) later_o ≡ true → list_any (same_text q) later_p ≡ false)
    → list_any (same_text q) (cons_option o later_o) ≡ true → list_any (same_text q) (cons_option p later_p) ≡ false
both_step q None None ko kp lo lp apart a b c h = c h
both_step q (Some x) None ko kp lo lp apart a b c h =
    elim (or_cases (same_text q x) (list_any (same_text q) lo) h) [
      | inl e ↦ a
          (or_left (same_text q x) (list_any (same_text q) ko) e)
      | inr e ↦ c e
    ]
both_step q None (Some y) ko kp lo lp apart a b c h =
    or_from (same_text q y) (list_any (same_text q) lp)
    (false_from_ne_true (same_text q y) (λ t.
    false≢true (sym (b (or_left (same_text q y) (list_any (same_text q) kp) t)) ∙ h))) (c h)
both_step q (Some x) (Some y) ko kp lo lp apart a b c h = absurd (apart x y refl refl)

-- ---- the parts of a fault

no_kind : (source : List ℕ) (all before : List Occurrence) (m : Occurrence)
    → occurrence_fault source all before m ≡ None → kind_of_occurrence source all before m ≡ None
no_kind source all before m e = opened (kind_of_occurrence source all before m) e where
  opened : (k : Option GimpleKind) → option_map (λ (kind : GimpleKind). fault_at kind (place_of m)) k ≡ None → k ≡ None
  opened None e = refl
  opened (Some kind) e = absurd cc

three_false : (r u w : Bool) → first_kind r u w ≡ None → (r ≡ false) × (u ≡ false) × (w ≡ false)
three_false true u w e = absurd cc
three_false false true w e = absurd cc
three_false false false true e = absurd cc
three_false false false false e = (refl, refl, refl)

module _ (source : List ℕ) (all before : List Occurrence) (m : Occurrence) (none : occurrence_fault source all before m ≡ None) where
  kinds : (is_redefined source before m ≡ false) × (is_undeclared source all m ≡ false) × (is_wide source m ≡ false)
  kinds = three_false (is_redefined source before m) (is_undeclared source all m) (is_wide source m) (no_kind source all before m none)

  repeats : (is_declared_again source before m ≡ false) × (is_assigned_again source before m ≡ false)
  repeats = or_parts (is_declared_again source before m) (is_assigned_again source before m)
      (or_parts (is_repeated source before m) (is_contradicted source before m) kinds.0).0

  contradicts : (has_other_base source before m ≡ false) × (is_marked_otherwise source before m ≡ false)
  contradicts =
      or_parts (has_other_base source before m) (is_marked_otherwise source before m)
      (or_parts (is_repeated source before m) (is_contradicted source before m) kinds.0).1

  marked : (has_other_mark source before m ≡ false) × (has_other_default source before m ≡ false)
  marked = or_parts (has_other_mark source before m) (has_other_default source before m) contradicts.1

  again : (stands (declared_text source m) (filter_map (declared_text source) before) ≡ false)
      × (stands (block_number source m) (filter_map (block_number source) before) ≡ false)
  again = or_parts (stands (declared_text source m) (filter_map (declared_text source) before))
      (stands (block_number source m) (filter_map (block_number source) before)) repeats.0

  marks : (stands (default_version source m) (filter_map (plain_version source) before) ≡ false)
      × (stands (plain_version source m) (filter_map (default_version source) before) ≡ false)
  marks = or_parts (stands (default_version source m) (filter_map (plain_version source) before))
      (stands (plain_version source m) (filter_map (default_version source) before)) marked.0

-- a name is not both with `(D)` and without
one_mark : (source : List ℕ) (m : Occurrence) (x y : List ℕ) → plain_version source m ≡ Some x → default_version source m ≡ Some y → ⊥
one_mark source (Parameter at) x y p q = absurd cc
one_mark source (Local at) x y p q = absurd cc
one_mark source (Block at) x y p q = absurd cc
one_mark source (Jump at) x y p q = absurd cc
one_mark source (Assigned at) x y p q = absurd cc
one_mark source (Used at) x y p q = absurd cc
one_mark source (Default at) x y p q = absurd cc
one_mark source (Constant literal) x y p q = absurd cc

module _ (source : List ℕ) (all : List Occurrence) where
  with_default_after : (q : List ℕ) (before ms : List Occurrence) → NoneBy (occurrence_fault source all) before ms
      → list_any (same_text q) (filter_map (plain_version source) before) ≡ true
      → list_any (same_text q) (filter_map (default_version source) ms) ≡ false
  with_default_after =
      never (plain_version source) (default_version source) (occurrence_fault source all)
      (λ before m none. (marks source all before m none).0)

  plain_after : (q : List ℕ) (before ms : List Occurrence) → NoneBy (occurrence_fault source all) before ms
      → list_any (same_text q) (filter_map (default_version source) before) ≡ true
      → list_any (same_text q) (filter_map (plain_version source) ms) ≡ false
  plain_after =
      never (default_version source) (plain_version source) (occurrence_fault source all)
      (λ before m none. (marks source all before m none).1)

  pub one_marked : (q : List ℕ) (before ms : List Occurrence) → NoneBy (occurrence_fault source all) before ms
      → list_any (same_text q) (filter_map (plain_version source) ms) ≡ true
      → list_any (same_text q) (filter_map (default_version source) ms) ≡ false
  one_marked q before [] none h = refl
  one_marked q before (m ∷ ms) none h =
      both_step q (plain_version source m) (default_version source m) (filter_map (plain_version source) before)
      (filter_map (default_version source) before) (filter_map (plain_version source) ms)
      (filter_map (default_version source) ms)
      (one_mark source m) (with_default_after q (m ∷ before) ms none.1) (plain_after q (m ∷ before) ms none.1)
      (one_marked q (m ∷ before) ms none.1) h

-- ---- declarations

base_had : (source : List ℕ) (all : List Occurrence) (text : List ℕ) (p : Option (List ℕ × List ℕ))
    → lacks_base source all text p ≡ false
    → has_base (filter_map (local_text source) all) (filter_map (param_text source) all) text p ≡ true
base_had source all text None e = absurd cc
base_had source all text (Some ([], version)) e = not-false (list_any (same_text text) (filter_map (local_text source) all)) e
base_had source all text (Some (b ∷ base, version)) e =
    not-false (list_any (same_text (b ∷ base)) (filter_map (local_text source) all)
    || list_any (same_text (b ∷ base)) (filter_map (param_text source) all)) e

param_had : (source : List ℕ) (all : List Occurrence) (p : Option (List ℕ × List ℕ)) → lacks_param source all p ≡ false
    → has_param (filter_map (param_text source) all) p ≡ true
param_had source all None e = absurd cc
param_had source all (Some ([], version)) e = absurd cc
param_had source all (Some (b ∷ base, version)) e = not-false (list_any (same_text (b ∷ base)) (filter_map (param_text source) all)) e

declared_by : (source : List ℕ) (all : List Occurrence) (m : Occurrence) → is_undeclared source all m ≡ false
    → is_declared source (filter_map (local_text source) all) (filter_map (param_text source) all)
    (filter_map (assigned_text source) all) m ≡ true
declared_by source all (Parameter at) e = refl
declared_by source all (Local at) e = refl
declared_by source all (Block at) e = refl
declared_by source all (Jump at) e = refl
declared_by source all (Assigned at) e = base_had source all (text_of source at) (name_parts (text_of source at)) e
declared_by source all (Used at) e =
    let text = text_of source at in
    let p = or_parts (lacks_base source all text (name_parts text)) (is_unassigned source all text) e in
    and_from (has_base (filter_map (local_text source) all) (filter_map (param_text source) all) text (name_parts text))
    (list_any (same_text text) (filter_map (assigned_text source) all)) (base_had source all text (name_parts text) p.0)
    (not-false (list_any (same_text text) (filter_map (assigned_text source) all)) p.1)
declared_by source all (Default at) e = param_had source all (name_parts (text_of source at)) e
declared_by source all (Constant literal) e = refl

word_there : (word : Option Word) → is_none word ≡ false → is_some word ≡ true
word_there None e = absurd cc
word_there (Some word) e = refl

word_had : (source : List ℕ) (m : Occurrence) → is_wide source m ≡ false → has_word source m ≡ true
word_had source (Parameter at) e = refl
word_had source (Local at) e = refl
word_had source (Block at) e = refl
word_had source (Jump at) e = refl
word_had source (Assigned at) e = refl
word_had source (Used at) e = refl
word_had source (Default at) e = refl
word_had source (Constant literal) e = word_there (literal_word source literal) e

-- ---- anonymous names

bare_by : (b : ℕ) (bytes : List ℕ) (rest : Option (List ℕ × List ℕ)) → (is_number_text bytes ≡ true → rest ≡ None)
    → is_bare (parts_from b rest bytes) ≡ ((b == 95) && is_number_text bytes)
bare_by b bytes None none = here ((b == 95) && is_number_text bytes) where
  here : (t : Bool) → is_bare (if t then Some ([], bytes) else None) ≡ t
  here true = refl
  here false = refl
bare_by b bytes (Some p) none =
    sym (and_right (b == 95) (is_number_text bytes)
    (false_from_ne_true (is_number_text bytes) (λ t. absurd (some_none (none t))))) where
      some_none : Some p ≡ None → ⊥
      some_none e = cc

-- an anonymous name is an underscore and a number
pub bare_is_anonymous : (text : List ℕ) → is_bare (name_parts text) ≡ is_anonymous text
unfolding name_parts
bare_is_anonymous [] = refl
bare_is_anonymous (b ∷ bytes) = bare_by b bytes (name_parts bytes) (λ h. no_parts_in_digits bytes (number_text_is_digits bytes h))

-- no parameter is anonymous
no_bare : (source : List ℕ) (all : List Occurrence) (before ms : List Occurrence)
    → NoneBy (occurrence_fault source all) before ms → list_any is_anonymous (filter_map (param_text source) ms) ≡ false
no_bare source all before [] none = refl
no_bare source all before (m ∷ ms) none = step m (kinds source all before m none.0).1 (no_bare source all (m ∷ before) ms none.1) where
  step : (m : Occurrence) → is_undeclared source all m ≡ false
      → list_any is_anonymous (filter_map (param_text source) ms) ≡ false
      → list_any is_anonymous (cons_option (param_text source m) (filter_map (param_text source) ms)) ≡ false
  step (Parameter at) e rest =
      or_from (is_anonymous (text_of source at)) (list_any is_anonymous (filter_map (param_text source) ms))
      (sym (bare_is_anonymous (text_of source at)) ∙ e) rest
  step (Local at) e rest = rest
  step (Block at) e rest = rest
  step (Jump at) e rest = rest
  step (Assigned at) e rest = rest
  step (Used at) e rest = rest
  step (Default at) e rest = rest
  step (Constant literal) e rest = rest

-- ---- functions

pub keeps : (source : List ℕ) (f : FunctionText) → occurrences_fault source (occurrences_of f) ≡ None → KeepsNames source f
keeps source f e =
    let all = occurrences_of f in
    let none = none_by (occurrence_fault source all) [] all e in
    let says = declares source f in
    record {
      declared = subst (λ (xs : List (List ℕ)). all_distinct same_text xs ≡ true) says.declared
          (distinct same_text same_text_symm (declared_text source) (occurrence_fault source all)
          (λ before m n. stands_none (declared_text source m) (filter_map (declared_text source) before)
          (again source all before m n).0) [] all none);
      params = subst (λ (xs : List (List ℕ)). list_any is_anonymous xs ≡ false) says.params (no_bare source all [] all none);
      blocks = subst (λ (xs : List (List ℕ)). all_distinct same_text xs ≡ true) says.blocks
          (distinct same_text same_text_symm (block_number source) (occurrence_fault source all)
          (λ before m n. stands_none (block_number source m) (filter_map (block_number source) before)
          (again source all before m n).1) [] all none);
      assigned = distinct same_text same_text_symm (assigned_version source) (occurrence_fault source all)
          (λ before m n. stands_none (assigned_version source m) (filter_map (assigned_version source) before)
          (repeats source all before m n).1) [] all none;
      bases = sym (one_each (filter_map (version_base source) all))
          ∙ distinct (λ (p : List ℕ × List ℕ). has_other_second p.0 p.1) parts_symm (version_base source)
          (occurrence_fault source all) (λ before m n.
          differs_none (version_base source m) (filter_map (version_base source) before)
          (contradicts source all before m n).0) [] all none;
      defaults = sym (one_each (filter_map (base_default source) all))
          ∙ distinct (λ (p : List ℕ × List ℕ). has_other_second p.0 p.1) parts_symm (base_default source)
          (occurrence_fault source all) (λ before m n.
          differs_none (base_default source m) (filter_map (base_default source) before)
          (marked source all before m n).1) [] all none;
      marks = λ version h. one_marked source all version [] all none h;
      names = subst (λ (xs : List (List ℕ)).
          list_all (is_declared source (locals_of source f) xs (assigned_of source f)) all ≡ true) says.params
          (subst (λ (xs : List (List ℕ)). list_all
          (is_declared source xs (filter_map (param_text source) all) (assigned_of source f)) all ≡ true) says.locals
          (every (occurrence_fault source all)
          (is_declared source (filter_map (local_text source) all) (filter_map (param_text source) all)
          (filter_map (assigned_text source) all))
          (λ before m n. declared_by source all m (kinds source all before m n).1) [] all none));
      constants = every (occurrence_fault source all) (has_word source)
          (λ before m n. word_had source m (kinds source all before m n).2) [] all none;
    }

no_functions : (source : List ℕ) (functions : List FunctionText) → names_fault source functions ≡ None
    → NoneBy (function_fault source) [] functions
unfolding names_fault
no_functions source functions e = none_by (function_fault source) [] functions e

pub each_keeps : (source : List ℕ) (functions : List FunctionText) → names_fault source functions ≡ None
    → (f : FunctionText) → Contains functions f → KeepsNames source f
each_keeps source functions e =
    every_at (function_fault source) (KeepsNames source)
    (λ before f n. keeps source f (or_none (second_function source before f)
    (occurrences_fault source (occurrences_of f)) n).1) [] functions (no_functions source functions e)

no_second : (again : Bool) (fault : GimpleFault) → (if again then Some fault else None) ≡ None → again ≡ false
no_second true fault e = absurd cc
no_second false fault e = refl

pub functions_differ : (source : List ℕ) (functions : List FunctionText) → names_fault source functions ≡ None
    → all_distinct same_text (map (function_text source) functions) ≡ true
functions_differ source functions e =
    subst (λ (xs : List (List ℕ)). all_distinct same_text xs ≡ true) (each_says (function_text source) functions)
    (distinct same_text same_text_symm (λ (f : FunctionText). Some (function_text source f)) (function_fault source)
    apart [] functions (no_functions source functions e)) where
      some_is : (x y : List ℕ) → Some x ≡ Some y → x ≡ y
      some_is x y e = cc

      apart : (before : List FunctionText) (f : FunctionText) → function_fault source before f ≡ None → (x : List ℕ)
          → Some (function_text source f) ≡ Some x
          → list_any (same_text x) (filter_map (λ (g : FunctionText). Some (function_text source g)) before) ≡ false
      apart before f n x is =
          let new =
          no_second (list_any (same_text (function_text source f)) (map (function_text source) before))
          (fault_at Redefined f.name) (or_none (second_function source before f)
          (occurrences_fault source (occurrences_of f)) n).0 in
          subst (λ (xs : List (List ℕ)). list_any (same_text x) xs ≡ false) (sym (each_says (function_text source) before))
          (subst (λ (y : List ℕ). list_any (same_text y) (map (function_text source) before) ≡ false)
          (some_is (function_text source f) x is) new)
