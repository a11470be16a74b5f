-- A form: the row that is read is the one that it spells, and the row that it spells is read.
use Rattle.std.proofs.Common.{◌≡◌, ◌≢◌, ℕ, Bool, true, false, cond, List, [], ◌++◌, codes, Some, None, refl, sym, ap, subst, ◌∙◌, append_assoc, inl, inr}
use Rattle.std.specs.Prelude.{◌⊎◌}
use Rattle.std.specs.List.{AllPass, concat}
use Rattle.std.specs.Str.{bytes_eq}
use Rattle.std.proofs.lemmas.Bool.{false_from_ne_true}
use Rattle.std.proofs.lemmas.Bool.Decides.{same_from_decides}
use Rattle.std.proofs.lemmas.Slice.Eq.{bytes_eq-Decides}
use Rattle.pm_ops.specs.declared.code.Code.{Code}
use Rattle.pm_ops.specs.Names.{code_name}
use Rattle.first_patterns.specs.declared.row.Row.{Row}
use Rattle.first_patterns.specs.declared.row.Side.{Side}
use Rattle.first_patterns.specs.declared.row.Side.TheVariants.{Left, Right}
use Rattle.first_patterns.specs.FirstForm.{is_white, is_digit, is_first_code, Gap, Break, Layout, pieces, IsResult, SpellsRow}
use Rattle.first_patterns.specs.Reading.{is_word, past, strip, token_at, code_at, capture_at, apart_capture_at, side_named, pattern_at, row_at}
use Rattle.first_patterns.proofs.Runs.{parts, past_again, stopped_by, stopped_by_some}
use Rattle.first_patterns.proofs.TokenLemmas.{bind_some, some_is, white_is_no_word, white_is_no_digit, strip_parts, strip_again, gap_of, token_parts, token_again, code_parts, code_again, name_stops, capture_parts, capture_again, apart_parts, apart_again}

-- more of the text behind one front
on : (before : List ℕ) {a b : List ℕ} → a ≡ b → before ++ a ≡ before ++ b
on before e = ap (λ (xs : List ℕ). before ++ xs) e

-- ---- the text of a form and what stands behind it, grouped from the left on

-- the pattern, from the white space before its parenthesis on
abbrev pattern_text : Code → Layout → List ℕ → List ℕ
pattern_text code l rest =
    l.before_pattern.bytes ++ (codes "(" ++ (l.before_operator.bytes ++ (code_name code
    ++ (l.before_left.bytes ++ (codes "@" ++ (l.left.bytes
    ++ (l.before_right.bytes ++ (codes "@" ++ (l.right.bytes
    ++ (l.after_right.bytes ++ (codes ")" ++ rest)))))))))))

-- the result, from the white space before it on
abbrev result_text : Layout → List ℕ → List ℕ
result_text l rest = l.before_result.bytes ++ (codes "@" ++ (l.result.bytes ++ (l.after_result.bytes ++ (codes ")" ++ rest))))

abbrev form_text : Code → Layout → List ℕ → List ℕ
form_text code l rest = codes "(" ++ (l.before_word.bytes ++ (codes "simplify" ++ pattern_text code l (result_text l rest)))

grouped : (code : Code) (l : Layout) (rest : List ℕ) → concat (pieces code l) ++ rest ≡ form_text code l rest
grouped code l rest = simp append_assoc

-- ---- the pattern

record TakesPattern (bytes : List ℕ) (code : Code) (left right rest : List ℕ) : Type 0 where
  pub before_pattern : Gap
  pub before_operator : Gap
  pub before_left : Break
  pub before_right : Break
  pub after_right : Gap
  pub text : bytes ≡ before_pattern.bytes ++ (codes "(" ++ (before_operator.bytes ++ (code_name code
      ++ (before_left.bytes ++ (codes "@" ++ (left
      ++ (before_right.bytes ++ (codes "@" ++ (right
      ++ (after_right.bytes ++ (codes ")" ++ rest)))))))))))
  pub first : is_first_code code ≡ true
  pub left_digit : AllPass is_digit left
  pub left_some : left ≢ []
  pub right_digit : AllPass is_digit right
  pub right_some : right ≢ []

pattern_parts : (bytes : List ℕ) (x : (Code × List ℕ × List ℕ) × List ℕ) → pattern_at bytes ≡ Some x → TakesPattern bytes x.0.0 x.0.1 x.0.2 x.1
unfolding pattern_at
pattern_parts bytes x e =
    let a = bind_some (token_at (codes "(") bytes) _ x e in
    let b = bind_some (code_at (past is_white a.0)) _ x a.2 in
    let c = bind_some (apart_capture_at b.0.1) _ x b.2 in
    let d = bind_some (apart_capture_at c.0.1) _ x c.2 in
    let f = bind_some (token_at (codes ")") d.0.1) _ x d.2 in
    let code = code_parts (past is_white a.0) b.0.0 b.0.1 b.1 in
    let left = apart_parts b.0.1 c.0.0 c.0.1 c.1 in
    let right = apart_parts c.0.1 d.0.0 d.0.1 d.1 in
    let made : (Code × List ℕ × List ℕ) × List ℕ = ((b.0.0, c.0.0, d.0.0), f.0) in
    let behind_right = token_parts (codes ")") d.0.1 f.0 f.1 in
    let behind_left = right.text ∙ on right.gap.bytes (on (codes "@") (on d.0.0 behind_right)) in
    let behind_name = left.text ∙ on left.gap.bytes (on (codes "@") (on c.0.0 behind_left)) in
    let inside = parts is_white a.0 ∙ on (gap_of a.0).bytes (code.text ∙ on (code_name b.0.0) behind_name) in
    let taken : TakesPattern bytes b.0.0 c.0.0 d.0.0 f.0 = record {
      before_pattern = gap_of bytes;
      before_operator = gap_of a.0;
      before_left = left.gap;
      before_right = right.gap;
      after_right = gap_of d.0.1;
      text = token_parts (codes "(") bytes a.0 a.1 ∙ on (gap_of bytes).bytes (on (codes "(") inside);
      first = code.first;
      left_digit = left.digit;
      left_some = left.some;
      right_digit = right.digit;
      right_some = right.some;
    } in
    subst (λ (y : (Code × List ℕ × List ℕ) × List ℕ). TakesPattern bytes y.0.0 y.0.1 y.0.2 y.1) (some_is made x f.2) taken

pattern_again : (code : Code) (l : Layout) (rest : List ℕ) → is_first_code code ≡ true → pattern_at (pattern_text code l rest) ≡ Some ((code, l.left.bytes, l.right.bytes), rest)
unfolding pattern_at
pattern_again code l rest first =
    let behind_right = l.after_right.bytes ++ (codes ")" ++ rest) in
    let behind_left = l.before_right.bytes ++ (codes "@" ++ (l.right.bytes ++ behind_right)) in
    let behind_name = l.before_left.bytes ++ (codes "@" ++ (l.left.bytes ++ behind_left)) in
    rw (
      token_again l.before_pattern (codes "(") (l.before_operator.bytes ++ (code_name code ++ behind_name)) refl,
      past_again is_white l.before_operator.bytes (code_name code ++ behind_name) l.before_operator.white (name_stops code first behind_name),
      code_again code behind_name first (stopped_by_some is_word is_white white_is_no_word l.before_left.bytes (codes "@" ++ (l.left.bytes ++ behind_left)) l.before_left.white l.before_left.some),
      apart_again l.before_left l.left behind_left (stopped_by_some is_digit is_white white_is_no_digit l.before_right.bytes (codes "@" ++ (l.right.bytes ++ behind_right)) l.before_right.white l.before_right.some),
      apart_again l.before_right l.right behind_right (stopped_by is_digit is_white white_is_no_digit l.after_right.bytes (codes ")" ++ rest) l.after_right.white refl),
      token_again l.after_right (codes ")") rest refl,
    ) refl

-- ---- the result

side_cases : (a b : Bool) (side : Side) → cond a (Some Left) (cond b (Some Right) None) ≡ Some side → ((a ≡ true) × (Left ≡ side)) ⊎ ((a ≡ false) × (b ≡ true) × (Right ≡ side))
side_cases true b side e = inl (refl, cc)
side_cases false true side e = inr (refl, refl, cc)
side_cases false false side e = absurd cc

side_is : (l : Layout) (side : Side) → side_named l.left.bytes l.right.bytes l.result.bytes ≡ Some side → IsResult side l
unfolding side_named
side_is l side e =
    let at_left = bytes_eq-Decides l.result.bytes l.left.bytes in
    let at_right = bytes_eq-Decides l.result.bytes l.right.bytes in
    elim (side_cases (bytes_eq l.result.bytes l.left.bytes) (bytes_eq l.result.bytes l.right.bytes) side e) [
      | inl w ↦ subst (λ (s : Side). IsResult s l) w.1 (at_left.0 w.0)
      | inr w ↦ subst (λ (s : Side). IsResult s l) w.2 (at_right.0 w.1, λ same. absurd (let t = at_left.1 same in let n = w.0 in cc))
    ]

side_again : (l : Layout) (side : Side) → IsResult side l → side_named l.left.bytes l.right.bytes l.result.bytes ≡ Some side
unfolding side_named
side_again l Left is =
    let left : bytes_eq l.result.bytes l.left.bytes ≡ true = (bytes_eq-Decides l.result.bytes l.left.bytes).1 is in
    rw left refl
side_again l Right is =
    let left : bytes_eq l.result.bytes l.left.bytes ≡ false = false_from_ne_true _ (λ t. is.1 ((bytes_eq-Decides l.result.bytes l.left.bytes).0 t)) in
    let right : bytes_eq l.result.bytes l.right.bytes ≡ true = (bytes_eq-Decides l.result.bytes l.right.bytes).1 is.0 in
    rw (left, right) refl

-- ---- the form

-- a form that is read, before the rest
pub record TakesRow (at : ℕ) (bytes : List ℕ) (row : Row) (rest : List ℕ) : Type 0 where
  pub form : List ℕ
  pub text : bytes ≡ form ++ rest
  pub place : row.at ≡ at
  pub spells : SpellsRow row form

pub row_parts : (at : ℕ) (bytes : List ℕ) (x : Row × List ℕ) → row_at at bytes ≡ Some x → TakesRow at bytes x.0 x.1
unfolding row_at
row_parts at bytes x e =
    let a = bind_some (strip (codes "(") bytes) _ x e in
    let b = bind_some (token_at (codes "simplify") a.0) _ x a.2 in
    let c = bind_some (pattern_at b.0) _ x b.2 in
    let pattern = c.0 in
    let d = bind_some (capture_at (past is_white pattern.1)) _ x c.2 in
    let f = bind_some (token_at (codes ")") d.0.1) _ x d.2 in
    let g = bind_some (side_named pattern.0.1 pattern.0.2 d.0.0) _ x f.2 in
    let p = pattern_parts b.0 pattern c.1 in
    let z = capture_parts (past is_white pattern.1) d.0.0 d.0.1 d.1 in
    let layout : Layout = record {
      before_word = gap_of a.0;
      before_pattern = p.before_pattern;
      before_operator = p.before_operator;
      before_left = p.before_left;
      left = record { bytes = pattern.0.1; digits = p.left_digit; some = p.left_some };
      before_right = p.before_right;
      right = record { bytes = pattern.0.2; digits = p.right_digit; some = p.right_some };
      after_right = p.after_right;
      before_result = gap_of pattern.1;
      result = record { bytes = d.0.0; digits = z.digit; some = z.some };
      after_result = gap_of d.0.1;
    } in
    let row : Row = record { at = at; code = pattern.0.0; same = bytes_eq pattern.0.1 pattern.0.2; result = g.0 } in
    let decides = bytes_eq-Decides pattern.0.1 pattern.0.2 in
    let behind_pattern : pattern.1 ≡ result_text layout f.0 =
    parts is_white pattern.1 ∙ on (gap_of pattern.1).bytes (z.text ∙ on (codes "@") (on d.0.0 (token_parts (codes ")") d.0.1 f.0 f.1))) in
    let behind_word : b.0 ≡ pattern_text pattern.0.0 layout (result_text layout f.0) = p.text ∙ ap (pattern_text pattern.0.0 layout) behind_pattern in
    let whole : bytes ≡ form_text pattern.0.0 layout f.0 =
    strip_parts (codes "(") bytes a.0 a.1 ∙ on (codes "(") (token_parts (codes "simplify") a.0 b.0 b.1 ∙ on (gap_of a.0).bytes (on (codes "simplify") behind_word)) in
    let taken : TakesRow at bytes row f.0 = record {
      form = concat (pieces pattern.0.0 layout);
      text = whole ∙ sym (grouped pattern.0.0 layout f.0);
      place = refl;
      spells = record { layout = layout; text = refl; code = p.first; same = (decides.0, decides.1); result = side_is layout g.0 g.1 };
    } in
    subst (λ (y : Row × List ℕ). TakesRow at bytes y.0 y.1) (some_is (row, f.0) x g.2) taken

pub row_again : (row : Row) (form rest : List ℕ) → SpellsRow row form → row_at row.at (form ++ rest) ≡ Some (row, rest)
unfolding row_at
row_again row form rest s =
    let l = s.layout in
    let code = row.code in
    let behind_capture = l.after_result.bytes ++ (codes ")" ++ rest) in
    let regrouped : form ++ rest ≡ form_text code l rest = ap (λ (xs : List ℕ). xs ++ rest) s.text ∙ grouped code l rest in
    let same : row.same ≡ bytes_eq l.left.bytes l.right.bytes = same_from_decides _ _ (s.same.0, s.same.1) (bytes_eq-Decides l.left.bytes l.right.bytes) in
    ap (row_at row.at) regrouped ∙ rw (
      strip_again (codes "(") (l.before_word.bytes ++ (codes "simplify" ++ pattern_text code l (result_text l rest))),
      token_again l.before_word (codes "simplify") (pattern_text code l (result_text l rest)) refl,
      pattern_again code l (result_text l rest) s.code,
      past_again is_white l.before_result.bytes (codes "@" ++ (l.result.bytes ++ behind_capture)) l.before_result.white refl,
      capture_again l.result behind_capture (stopped_by is_digit is_white white_is_no_digit l.after_result.bytes (codes ")" ++ rest) l.after_result.white refl),
      token_again l.after_result (codes ")") rest refl,
      side_again l row.result s.result,
    ) (ap (λ (b : Bool). Some (record { at = row.at; code = row.code; same = b; result = row.result }, rest)) (sym same))
