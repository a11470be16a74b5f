-- What occurs in a tree that writes a function, by the declarations, the blocks and the names of this function.
use Rattle.std.proofs.Common.{◌≡◌, ℕ, ◌<◌, Bool, true, false, cond, Some, None, List, []}
use Rattle.std.proofs.Common.{◌∷◌, ◌++◌, map, refl, sym, ap, subst, ◌∙◌, arith, inl, inr}
use Rattle.std.specs.Prelude.{◌==◌, ◌&&◌, ◌||◌, not}
use Rattle.std.specs.Fmt.{decimal}
use Rattle.std.proofs.lemmas.Bool.{and_parts, and_from, or_cases, eqb-true, eq-eqb, false≢true}
use Rattle.pm_wide.specs.Types.{Word}
use Rattle.pm_wide.specs.declared.operand.Operand.{Operand}
use Rattle.pm_wide.specs.declared.operand.Operand.TheVariants as operands
use Rattle.gim_ast.specs.declared.function.Function.{Function}
use Rattle.gim_ast.specs.declared.function.Decl.{Decl}
use Rattle.gim_ast.specs.declared.function.NameRow.{NameRow}
use Rattle.gim_ast.specs.Functions.{operands_of, assigned, is_name, row_of, is_used}
use Rattle.gim_ast.specs.Identifiers.{is_anonymous, anonymous}
use Rattle.lexing.specs.Numbers.{is_number_text}
use Rattle.gim_printer.specs.Printing.{assigned_text}
use Rattle.gim_ast.specs.Readable.{is_initial}
use Rattle.gim_ast.specs.WellFormed.{same_text, ident_of, is_assigned, base_holds}
use Rattle.lexing.proofs.NumberLemmas.{decimal_is_number_text}
use Rattle.pm_places.specs.declared.span.Span.{Span}
use Rattle.gim_text.proofs.SameTexts.{same_text_is}
use Rattle.gim_text.specs.declared.limits.TheConstants.{NUMBER_LIMIT}
use Rattle.gim_text.specs.declared.occurrence.Occurrence.{Occurrence}
use Rattle.gim_text.specs.declared.occurrence.Occurrence.TheVariants.{Parameter, Local, Block, Jump, Assigned, Used, Default, Constant}
use Rattle.gim_text.specs.declared.tree.FunctionText.{FunctionText}
use Rattle.gim_text.specs.Literals.{literal_word}
use Rattle.gim_text.specs.Occurrences.{occurrences_of, name_at}
use Rattle.gim_text.specs.Texts.{name_parts}
use Rattle.pm_places.specs.Spans.{text_of}
use Rattle.gim_making.specs.Names.{is_default}
use Rattle.gim_text.proofs.Membership.{Has, has_map, from_map, any_has, any_from_has}
use Rattle.gim_round_trip.proofs.tree.FunctionParts.{Part, parameter, local, head, jump, assigns, reads, parts_of}
use Rattle.gim_round_trip.proofs.tree.FunctionParts.{PartIs, part_is, local_there, name_there, operand_there}
use Rattle.gim_round_trip.proofs.tree.Occurrences.{a_local, an_assigned, an_operand, a_name, told, said, occurrences_say}
use Rattle.gim_round_trip.proofs.tree.Rows.{name_facts, row_found, assigned_is_not_initial}
use Rattle.gim_round_trip.proofs.tree.Rows.{used_is_assigned, local_row, bare_row, declared_as}
use Rattle.gim_round_trip.proofs.tree.SmallNumbers.{numbers_small, jumps_small}
use Rattle.gim_round_trip.proofs.tree.WellFormedParts.{each_operand_holds, operand_row, assigned_row}
use Rattle.gim_round_trip.proofs.tree.Writes.{WritesWell, NamesBlock}

-- the name of this row stands at the place
pub record IsNameAt (source : List ℕ) (f : Function) (at : Span) (row : NameRow) : Type 0 where
  pub in_names : Has f.names row
  pub small : row.version < NUMBER_LIMIT
  pub text : text_of source at ≡ row.base ++ 95 ∷ decimal row.version
  pub named : text_of source at ≡ assigned_text f row.version
  pub parts : name_parts (text_of source at) ≡ Some (row.base, decimal row.version)
  pub base : base_holds f row ≡ true

-- an identifier of a declaration, the number of a block, a name that the function has, or a constant with its word
abbrev pub OccurrenceIs : List ℕ → Function → Occurrence → Type 0
OccurrenceIs source f (Parameter at) = Has (map ident_of f.params) (text_of source at)
OccurrenceIs source f (Local at) = (decl : Decl) × Has f.decls decl × (text_of source at ≡ decl.ident)
OccurrenceIs source f (Block at) = (n : ℕ) × (n < NUMBER_LIMIT) × (text_of source at ≡ decimal n)
OccurrenceIs source f (Jump at) = (n : ℕ) × (n < NUMBER_LIMIT) × NamesBlock source at n
OccurrenceIs source f (Assigned at) = (row : NameRow) × IsNameAt source f at row × (row.initial ≡ false)
OccurrenceIs source f (Used at) = (row : NameRow) × IsNameAt source f at row × (row.initial ≡ false) × (is_assigned f row.version ≡ true)
OccurrenceIs source f (Default at) = (row : NameRow) × IsNameAt source f at row × (row.initial ≡ true)
OccurrenceIs source f (Constant literal) = (word : Word) × (literal_word source literal ≡ Some word)

-- the occurrence is a name at the place, that of the row, with a `(D)` behind it if the row is a default definition
pub record IsNameOf (source : List ℕ) (f : Function) (occurrence : Occurrence) (at : Span) (row : NameRow) : Type 0 where
  pub place : name_at source occurrence ≡ Some at
  pub name : IsNameAt source f at row
  pub mark : is_default occurrence ≡ row.initial

-- ---- by what an occurrence says

assigned_said : (source text : List ℕ) (o : Occurrence) → said source o ≡ an_assigned text
    → (at : Span) × (name_at source o ≡ Some at) × (text_of source at ≡ text) × (is_default o ≡ false)
assigned_said source text (Assigned at) e = (at, refl, cc, refl)
assigned_said source text o e = absurd cc

operand_said : (source text : List ℕ) (mark : Bool) (o : Occurrence) → said source o ≡ an_operand (a_name text mark)
    → (at : Span) × (name_at source o ≡ Some at) × (text_of source at ≡ text) × (is_default o ≡ mark)
operand_said source text mark (Used at) e = (at, refl, cc, cc)
operand_said source text mark (Default at) e = (at, refl, cc, cc)
operand_said source text mark o e = absurd cc

local_said : (source text : List ℕ) (o : Occurrence) → said source o ≡ a_local text → is_anonymous text ≡ true
    → (at : Span) × (name_at source o ≡ Some at) × (text_of source at ≡ text) × (is_default o ≡ false)
local_said source text (Local at) e bare = let same : text_of source at ≡ text = cc in
    (at, ap (λ b. cond b (Some at) None) (ap is_anonymous same ∙ bare), same, refl)
local_said source text o e bare = absurd cc

anonymous_at : (b : Bool) (at place : Span) → cond b (Some at) None ≡ Some place → (b ≡ true) × (at ≡ place)
anonymous_at true at place e = (refl, cc)
anonymous_at false at place e = absurd cc

module _ (source : List ℕ) (tree : FunctionText) (f : Function) (w : WritesWell source tree f) where
  name_here : (at : Span) (x : ℕ) (row : NameRow) → row_of f x ≡ Some row → text_of source at ≡ assigned_text f x → IsNameAt source f at row
  name_here at x row found text =
      let facts = name_facts f x row w.well w.within found in
      let version : x ≡ row.version = sym facts.is_version in
      record {
        in_names = facts.in_names;
        small = subst (λ v. v < NUMBER_LIMIT) version facts.small;
        text = text ∙ facts.text ∙ ap (λ v. row.base ++ 95 ∷ decimal v) version;
        named = text ∙ ap (assigned_text f) version;
        parts = ap name_parts text ∙ facts.parts ∙ ap (λ v. Some (row.base, decimal v)) version;
        base = facts.base;
      }

  -- an operand that is a name, with its row
  used_here : (at : Span) (x : ℕ) (row : NameRow) (a : Operand) → is_name x a ≡ true → Has (operands_of f) a → row_of f x ≡ Some row
      → text_of source at ≡ assigned_text f x → is_initial f x ≡ false → OccurrenceIs source f (Used at)
  used_here at x row a names there found text plain =
      let facts = name_facts f x row w.well w.within found in
      let initial : row.initial ≡ false = sym facts.initial ∙ plain in
      let used : is_used f row.version ≡ true = ap (is_used f) facts.is_version ∙ any_from_has (is_name x) (operands_of f) a there names in
      (row, name_here at x row found text, initial, used_is_assigned f row facts.stands initial used)

  told_is : (o : Occurrence) (part : Part) → PartIs f part → told f part ≡ said source o → OccurrenceIs source f o
  told_is (Parameter at) (parameter decl) is e = let same : decl.ident ≡ text_of source at = cc in
      subst (Has (map ident_of f.params)) same (has_map ident_of f.params decl is)
  told_is (Local at) (local decl) is e = (decl, is, cc)
  told_is (Block at) (head n) is e = (n, numbers_small f w.within n is, cc)
  told_is (Jump at) (jump n) is e = (n, jumps_small f w.within w.well n is, cc)
  told_is (Assigned at) (assigns x) is e =
      let row = assigned_row f w.well x is in
      let text : text_of source at ≡ assigned_text f x = cc in
      (row.0, name_here at x row.0 row.1 text, assigned_is_not_initial f x row.0 w.well w.within is row.1)
  told_is (Used at) (reads (operands.Name x t)) is e =
      let row = operand_row f x t (each_operand_holds f w.well (operands.Name x t) is) in
      let text : text_of source at ≡ assigned_text f x = cc in
      let plain : is_initial f x ≡ false = cc in
      used_here at x row.0 (operands.Name x t) (eq-eqb x x refl) is row.1 text plain
  told_is (Default at) (reads (operands.Name x t)) is e =
      let row = operand_row f x t (each_operand_holds f w.well (operands.Name x t) is) in
      let marked : is_initial f x ≡ true = cc in
      let text : text_of source at ≡ assigned_text f x = cc in
      (row.0, name_here at x row.0 row.1 text, sym (name_facts f x row.0 w.well w.within row.1).initial ∙ marked)
  told_is (Constant literal) (reads (operands.Const word)) is e = (word, cc)
  told_is o part is e = absurd cc

  pub occurrence_is : (o : Occurrence) → Has (occurrences_of tree) o → OccurrenceIs source f o
  occurrence_is o there =
      let part = from_map (told f) (parts_of f) (said source o) (subst (λ l. Has l (said source o)) (occurrences_say source f tree w.writes)
      (has_map (said source) (occurrences_of tree) o there)) in
      told_is o part.0 (part_is f part.0 part.1) part.2

  -- the name that stands where a name occurs
  pub name_of : (o : Occurrence) (at : Span) → OccurrenceIs source f o → name_at source o ≡ Some at → (row : NameRow)
      × IsNameOf source f o at row
  name_of (Local place) at is e =
      let bare = anonymous_at (is_anonymous (text_of source place)) place at e in
      let row = local_row f w.well is.0 is.1 (ap is_anonymous (sym is.2) ∙ bare.0) in
      let found = row_found f w.well row.0 row.1 in
      let facts = name_facts f row.0.version row.0 w.well w.within found in
      let text : text_of source at ≡ assigned_text f row.0.version = ap (text_of source) (sym bare.1) ∙ is.2 ∙ sym row.3
      ∙ ap (λ base. base ++ 95 ∷ decimal row.0.version) (sym row.2) ∙ sym facts.text in
      (row.0, record { place = e; name = name_here at row.0.version row.0 found text; mark = sym (bare_row f row.0 facts.base row.2).0 })
  name_of (Assigned place) at is e = let here : place ≡ at = cc in
      (is.0, record { place = e; name = subst (λ p. IsNameAt source f p is.0) here is.1; mark = sym is.2 })
  name_of (Used place) at is e = let here : place ≡ at = cc in
      (is.0, record { place = e; name = subst (λ p. IsNameAt source f p is.0) here is.1; mark = sym is.2 })
  name_of (Default place) at is e = let here : place ≡ at = cc in
      (is.0, record { place = e; name = subst (λ p. IsNameAt source f p is.0) here is.1; mark = sym is.2 })
  name_of o at is e = absurd cc

  -- ---- each name occurs

  part_occurs : (part : Part) → Has (parts_of f) part → (o : Occurrence) × Has (occurrences_of tree) o × (said source o ≡ told f part)
  part_occurs part there = from_map (said source) (occurrences_of tree) (told f part)
      (subst (λ l. Has l (told f part)) (sym (occurrences_say source f tree w.writes)) (has_map (told f) (parts_of f) part there))

  abbrev pub Occurs : NameRow → Type 0
  Occurs row = (o : Occurrence) × Has (occurrences_of tree) o × (at : Span) × IsNameOf source f o at row

  occurs : (row : NameRow) (o : Occurrence) → Has f.names row → Has (occurrences_of tree) o
      → (at : Span) × (name_at source o ≡ Some at) × (text_of source at ≡ assigned_text f row.version)
      × (is_default o ≡ row.initial) → Occurs row
  occurs row o named there found = (
    o,
    there,
    found.0,
    record {
      place = found.1;
      name = name_here found.0 row.version row (row_found f w.well row named) found.2;
      mark = found.3;
    },
  )

  assigned_occurs : (row : NameRow) → Has f.names row → row.initial ≡ false → is_assigned f row.version ≡ true → Occurs row
  assigned_occurs row named plain a =
      let x = any_has (λ y. y == row.version) (assigned f) a in
      let o = part_occurs (assigns x.0) (name_there f x.0 x.1) in
      let s = assigned_said source (assigned_text f x.0) o.0 o.2 in
      occurs row o.0 named o.1 (s.0, s.1, s.2 ∙ ap (assigned_text f) (eqb-true x.0 row.version x.2), s.3 ∙ sym plain)

  used_occurs : (row : NameRow) → Has f.names row → is_used f row.version ≡ true → Occurs row
  used_occurs row named used = let a = any_has (is_name row.version) (operands_of f) used in by a.0 a.1 a.2 where
    by : (a : Operand) → Has (operands_of f) a → is_name row.version a ≡ true → Occurs row
    by (operands.Const word) there same = absurd (false≢true same)
    by (operands.Name x t) there same =
        let o = part_occurs (reads (operands.Name x t)) (operand_there f (operands.Name x t) there) in
        let s = operand_said source (assigned_text f x) (is_initial f x) o.0 o.2 in
        let version : x ≡ row.version = eqb-true x row.version same in
        let initial : is_initial f row.version ≡ row.initial = (name_facts f row.version row w.well w.within
        (row_found f w.well row named)).initial in
        occurs row o.0 named o.1 (s.0, s.1, s.2 ∙ ap (assigned_text f) version, s.3 ∙ ap (is_initial f) version ∙ initial)

  local_occurs : (row : NameRow) → Has f.names row → row.base ≡ [] → Occurs row
  local_occurs row named empty =
      let facts = name_facts f row.version row w.well w.within (row_found f w.well row named) in
      let bare = bare_row f row facts.base empty in
      let decl = declared_as (anonymous row.version) row.ty f.decls bare.1 in
      let o = part_occurs (local decl.0) (local_there f decl.0 decl.1) in
      let number : is_number_text (decimal row.version) ≡ true = decimal_is_number_text row.version (omega (arith, facts.small)) in
      let s = local_said source decl.0.ident o.0 o.2 (ap is_anonymous decl.2
      ∙ and_from (95 == 95) (is_number_text (decimal row.version)) (eq-eqb 95 95 refl) number) in
      occurs row o.0 named o.1 (
        s.0,
        s.1,
        s.2 ∙ decl.2 ∙ ap (λ base. base ++ 95 ∷ decimal row.version) (sym empty)
            ∙ sym facts.text,
        s.3 ∙ sym bare.0,
      )

  pub row_occurs : (row : NameRow) → Has f.names row → Occurs row
  row_occurs row named = by row.initial refl (name_facts f row.version row w.well w.within (row_found f w.well row named)).stands where
    by : (b : Bool) → row.initial ≡ b
        → cond b (not (is_assigned f row.version) && is_used f row.version)
        (is_assigned f row.version || (same_text row.base [] && not (is_used f row.version))) ≡ true → Occurs row
    by true is h = used_occurs row named (and_parts (not (is_assigned f row.version)) (is_used f row.version) h).1
    by false is h = elim (or_cases (is_assigned f row.version) (same_text row.base [] && not (is_used f row.version)) h) [
      | inl a ↦ assigned_occurs row named is a
      | inr alone ↦ local_occurs row named
          (same_text_is row.base [] (and_parts (same_text row.base []) (not (is_used f row.version)) alone).0)
    ]
