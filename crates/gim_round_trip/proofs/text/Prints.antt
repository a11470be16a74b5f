-- Texts that are read as something wherever they stand, and how such texts are put together. `a ++ b ++ c` is `(a ++ b) ++ c`.
use Rattle.std.proofs.Common.{◌≡◌, ℕ, ◌+◌, Bool, true, false, List, [], ◌∷◌, ◌++◌, length, Some, None, refl, sym, ap, ◌∙◌, subst, arith}
use Rattle.std.specs.Prelude.{option_map}
use Rattle.std.specs.List.{list_all}
use Rattle.std.proofs.lemmas.Bool.{and_parts}
use Rattle.std.proofs.lemmas.List.{append_assoc, append-nil}
use Rattle.lexing.specs.Bytes.{is_word_byte}
use Rattle.pm_places.specs.declared.span.Span.{Span}
use Rattle.gim_text.specs.declared.token.Token.{Token}
use Rattle.gim_text.specs.Meanings.{span_of}
use Rattle.pm_places.specs.Spans.{text_of, place}
use Rattle.gim_lexer.specs.Separators.{separator_length}
use Rattle.lexing.specs.Separators.{is_space}
use Rattle.gim_lexer.specs.Tokens.{token_of_text}
use Rattle.gim_lexer.specs.Cuts.{line_begins, separator_at, token_at, Cuts}
use Rattle.lexing.specs.Cuts.{done, separator, token}
use Rattle.lexing.proofs.Cutting.{cuts_further}
use Rattle.gim_statements.specs.Grammar.{◌▸◌}
use Rattle.gim_round_trip.proofs.text.RestOfSource.{Left, behind, text_there}

-- From a place on the source is cut into tokens that spell a value of which something holds, up to a place from which this is left.
pub record Reads {A : Type 0} (source : List ℕ) (at : ℕ) (N : A → List Token → Type 0) (Is : A → Type 0) (rest : List ℕ) : Type 0 where
  pub value : A
  pub tokens : List Token
  pub to : ℕ
  pub cut : Cuts source at tokens to
  pub left : Left source to rest
  pub spelled : N value tokens
  pub is : Is value

-- What may follow a text: anything, no byte of a word, or white space.
pub data Close : Type 0 where
  any_end : Close
  word_end : Close
  blank_end : Close

abbrev pub Ends : Close → List ℕ → Type 0
Ends any_end rest = Unit {0}
Ends word_end [] = Unit {0}
Ends word_end (b ∷ rest) = is_word_byte b ≡ false
Ends blank_end [] = ⊥
Ends blank_end (b ∷ rest) = is_space b ≡ true

-- Wherever the text stands in the source, with such an end, it is read so.
pub record Prints {A : Type 0} (source : List ℕ) (end : Close) (N : A → List Token → Type 0) (Is : A → Type 0)
    (text : List ℕ) : Type 0 where
  pub read : (at : ℕ) (rest : List ℕ) → Ends end rest → Left source at (text ++ rest) → Reads source at N Is rest

-- one text behind another that may be followed by it
pub joined : {A B : Type 0} {N : A → List Token → Type 0} {M : B → List Token → Type 0} {Is : A → Type 0}
    {Js : B → Type 0} {source : List ℕ} {first last : Close} {a b : List ℕ}
    → Prints source first N Is a → ((rest : List ℕ) → Ends first (b ++ rest)) → Prints source last M Js b
    → Prints source last (λ (x : A × B). N x.0 ▸ M x.1) (λ x. Is x.0 × Js x.1) (a ++ b)
joined {source = source} {a = a} {b = b} one follows two = record {
  read = λ at rest ends left.
      let r = one.read at (b ++ rest) (follows rest) (subst (Left source at) (append_assoc a b rest) left) in
      let s = two.read r.to rest ends r.left in
      record {
        value = (r.value, s.value);
        tokens = r.tokens ++ s.tokens;
        to = s.to;
        cut = cuts_further source at r.to s.to r.tokens s.tokens r.cut s.cut;
        left = s.left;
        spelled = (r.tokens, s.tokens, r.spelled, s.spelled, refl);
        is = (r.is, s.is);
      };
}

-- the same read as another value
pub seen : {A B : Type 0} {N : A → List Token → Type 0} {M : B → List Token → Type 0} {Is : A → Type 0}
    {Js : B → Type 0} {source : List ℕ} {end : Close} {a : List ℕ}
    → Prints source end N Is a → (f : A → B) → ((x : A) (w : List Token) → Is x → N x w → M (f x) w)
    → ((x : A) → Is x → Js (f x)) → Prints source end M Js a
seen one f spells holds = record {
  read = λ at rest ends left.
      let r = one.read at rest ends left in
      record {
        value = f r.value;
        tokens = r.tokens;
        to = r.to;
        cut = r.cut;
        left = r.left;
        spelled = spells r.value r.tokens r.is r.spelled;
        is = holds r.value r.is;
      };
}

-- what may be followed by anything may be followed by less
pub sooner : {A : Type 0} {N : A → List Token → Type 0} {Is : A → Type 0} {source : List ℕ} {end : Close} {a : List ℕ}
    → Prints source any_end N Is a → Prints source end N Is a
sooner one = record {
  read = λ at rest ends left.
      one.read at rest tt left;
}

-- ---- white space

space_separates : (l : Bool) (b : ℕ) (rest : List ℕ) → is_space b ≡ true → separator_length l (b ∷ rest) ≡ Some 1
unfolding separator_length
space_separates l b rest h = rw h refl

-- white space is cut away
pub blanks_cut : (source : List ℕ) (at : ℕ) (blanks rest : List ℕ) → list_all is_space blanks ≡ true
    → Left source at (blanks ++ rest) → Cuts source at [] (at + length blanks)
blanks_cut source at [] rest h left = let e : at + 0 ≡ at = omega arith in subst (Cuts source at []) (sym e) (done at)
blanks_cut source at (b ∷ blanks) rest h left =
    let p = and_parts (is_space b) (list_all is_space blanks) h in
    let here : separator_at source at ≡ Some (at + 1) =
    ap (λ text. option_map (λ n. at + n) (separator_length (line_begins source at) text)) left.is
    ∙ ap (option_map (λ n. at + n)) (space_separates (line_begins source at) b (blanks ++ rest) p.0) in
    let next : Left source (at + 1) (blanks ++ rest) = behind source at (b ∷ []) (blanks ++ rest) left in
    let e : at + 1 + length blanks ≡ at + length (b ∷ blanks) = omega arith in
    separator at (at + 1) (at + length (b ∷ blanks)) [] here
    (subst (Cuts source (at + 1) []) e (blanks_cut source (at + 1) blanks rest p.1 next))

pub blanks_before : {A : Type 0} {N : A → List Token → Type 0} {Is : A → Type 0} {source : List ℕ} {end : Close}
    {a : List ℕ} (blanks : List ℕ)
    → list_all is_space blanks ≡ true → Prints source end N Is a → Prints source end N Is (blanks ++ a)
blanks_before {source = source} {a = a} blanks all one = record {
  read = λ at rest ends left.
      let whole : Left source at (blanks ++ (a ++ rest)) = subst (Left source at) (append_assoc blanks a rest) left in
      let r = one.read (at + length blanks) rest ends (behind source at blanks (a ++ rest) whole) in
      record {
        value = r.value;
        tokens = r.tokens;
        to = r.to;
        cut = cuts_further source at (at + length blanks) r.to [] r.tokens (blanks_cut source at blanks (a ++ rest) all whole) r.cut;
        left = r.left;
        spelled = r.spelled;
        is = r.is;
      };
}

pub blanks_after : {A : Type 0} {N : A → List Token → Type 0} {Is : A → Type 0} {source : List ℕ} {first last : Close}
    {a : List ℕ} (blanks : List ℕ)
    → list_all is_space blanks ≡ true → ((rest : List ℕ) → Ends first (blanks ++ rest)) → Prints source first N Is a
    → Prints source last N Is (a ++ blanks)
blanks_after {source = source} {a = a} blanks all follows one = record {
  read = λ at rest ends left.
      let r = one.read at (blanks ++ rest) (follows rest) (subst (Left source at) (append_assoc a blanks rest) left) in
      record {
        value = r.value;
        tokens = r.tokens;
        to = r.to + length blanks;
        cut = subst (λ ts. Cuts source at ts (r.to + length blanks)) (append-nil r.tokens)
            (cuts_further source at r.to (r.to + length blanks) r.tokens [] r.cut (blanks_cut source r.to blanks rest all r.left));
        left = behind source r.to blanks rest r.left;
        spelled = r.spelled;
        is = r.is;
      };
}

-- ---- one token

-- A text that is one token wherever it stands. What the token is may depend on the place
pub token_prints : {A : Type 0} {N : A → List Token → Type 0} {Is : A → Type 0} (source : List ℕ) (end : Close)
    (bs : List ℕ) (make : ℕ → Token) (value : ℕ → A)
    → ((l : Bool) (rest : List ℕ) → Ends end rest → separator_length l (bs ++ rest) ≡ None)
    → ((at : ℕ) (rest : List ℕ) → Ends end rest → token_of_text at (bs ++ rest) ≡ Some (make at))
    → ((at : ℕ) → span_of (make at) ≡ place at (length bs))
    → ((at : ℕ) → N (value at) (make at ∷ []))
    → ((at : ℕ) → text_of source (place at (length bs)) ≡ bs → Is (value at))
    → Prints source end N Is bs
token_prints source end bs make value apart begins stands spells holds = record {
  read = λ at rest ends left.
      let none : separator_at source at ≡ None =
      ap (λ text. option_map (λ n. at + n) (separator_length (line_begins source at) text)) left.is
      ∙ ap (option_map (λ n. at + n)) (apart (line_begins source at) rest ends) in
      let some : token_at source at ≡ Some (make at) = ap (token_of_text at) left.is ∙ begins at rest ends in
      let to : (span_of (make at)).to ≡ at + length bs = ap (λ (s : Span). s.to) (stands at) in
      let rest_cut : Cuts source (span_of (make at)).to [] (at + length bs) =
      subst (λ n. Cuts source n [] (at + length bs)) (sym to) (done (at + length bs)) in
      record {
        value = value at;
        tokens = make at ∷ [];
        to = at + length bs;
        cut = token at (at + length bs) (make at) [] none some rest_cut;
        left = behind source at bs rest left;
        spelled = spells at;
        is = holds at (text_there source at bs rest left);
      };
}
