-- How the texts of a grammar's parts are put together: one behind the other, many, and behind blanks.
use Rattle.std.proofs.Common.{◌≡◌, ℕ, List, [], ◌∷◌, ◌++◌, codes, inl, inr, refl, sym, subst}
use Rattle.std.specs.List.{flat_map, AllZip}
use Rattle.std.proofs.lemmas.List.{append_assoc}
use Rattle.grammar.specs.Spelling.{Many}
use Rattle.gim_printer.specs.Printing.{listed}
use Rattle.gim_text.specs.declared.token.Token.{Token}
use Rattle.gim_text.specs.declared.token.Mark.TheVariants as marks
use Rattle.lexing.specs.Cuts.{done}
use Rattle.lexing.proofs.Cutting.{cuts_further}
use Rattle.gim_text.proofs.Membership.{Has}
use Rattle.gim_statements.specs.Grammar.{◌▸◌, AMark}
use Rattle.gim_round_trip.proofs.text.RestOfSource.{Left}
use Rattle.gim_round_trip.proofs.text.Prints.{Close, word_end, blank_end, Ends, Prints, joined, seen, blanks_before}
use Rattle.gim_round_trip.proofs.text.Tokens.{a_mark_prints, assign_prints, semicolon_prints}

-- tokens of which no value is kept
abbrev pub Quiet : List ℕ → Close → (List Token → Type 0) → List ℕ → Type 0
Quiet source end Q text = Prints source end (λ (u : Unit {0}). Q) (λ (u : Unit {0}). Unit {0}) text

-- tokens without a value before a part
pub lead : {B : Type 0} {Q : List Token → Type 0} {M : B → List Token → Type 0} {Js : B → Type 0} {source : List ℕ}
    {first last : Close} {a b : List ℕ}
    → Quiet source first Q a → ((rest : List ℕ) → Ends first (b ++ rest)) → Prints source last M Js b
    → Prints source last (λ (y : B). Q ▸ M y) Js (a ++ b)
lead one follows two = seen (joined one follows two) (λ x. x.1) (λ x w is spelled. spelled) (λ x is. is.1)

-- and behind a part
pub trail : {A : Type 0} {N : A → List Token → Type 0} {Q : List Token → Type 0} {Is : A → Type 0} {source : List ℕ}
    {first last : Close} {a b : List ℕ}
    → Prints source first N Is a → ((rest : List ℕ) → Ends first (b ++ rest)) → Quiet source last Q b
    → Prints source last (λ (x : A). N x ▸ Q) Is (a ++ b)
trail one follows two = seen (joined one follows two) (λ x. x.0) (λ x w is spelled. spelled) (λ x is. is.0)

-- the same text, written otherwise
pub told : {A : Type 0} {N : A → List Token → Type 0} {Is : A → Type 0} {source : List ℕ} {end : Close} {a b : List ℕ}
    → a ≡ b → Prints source end N Is a → Prints source end N Is b
told {N = N} {Is = Is} {source = source} {end = end} same one = subst (λ text. Prints source end N Is text) same one

-- ---- lists

-- an empty text, where no token spells the value
pub nothing_prints : {A : Type 0} {N : A → List Token → Type 0} {Is : A → Type 0} (source : List ℕ) (end : Close)
    (value : A) → N value [] → Is value → Prints source end N Is []
nothing_prints source end value spelled is =
    record {
      read = λ at rest ends left. record
          { value = value; tokens = []; to = at; cut = done at; left = left; spelled = spelled; is = is };
    }

-- what may follow the first text is the second, with what may follow that
abbrev Follows : Close → List ℕ → Close → Type 0
Follows first b last = (rest : List ℕ) → Ends last rest → Ends first (b ++ rest)

-- one text behind another, with what may follow that
followed : {A B : Type 0} {N : A → List Token → Type 0} {M : B → List Token → Type 0} {Is : A → Type 0}
    {Js : B → Type 0} {source : List ℕ} {first last : Close} {a b : List ℕ}
    → Prints source first N Is a → Follows first b last → Prints source last M Js b
    → Prints source last (λ (x : A × B). N x.0 ▸ M x.1) (λ x. Is x.0 × Js x.1) (a ++ b)
followed {source = source} {a = a} {b = b} one follows two = record {
  read = λ at rest ends left.
      let r = one.read at (b ++ rest) (follows rest ends) (subst (Left source at) (append_assoc a b rest) left) in
      let s = two.read r.to rest ends r.left in
      record {
        value = (r.value, s.value);
        tokens = r.tokens ++ s.tokens;
        to = s.to;
        cut = cuts_further source at r.to s.to r.tokens s.tokens r.cut s.cut;
        left = s.left;
        spelled = (r.tokens, s.tokens, r.spelled, s.spelled, refl);
        is = (r.is, s.is);
      };
}

one_more : {A X : Type 0} {source : List ℕ} {end : Close} {N : A → List Token → Type 0} {Is : A → X → Type 0}
    {a b : List ℕ} (x : X) (xs : List X)
    → Prints source end N (λ y. Is y x) a → Follows end b end → Prints source end (Many N) (λ (ys : List A). AllZip Is ys xs) b
    → Prints source end (Many N) (λ (ys : List A). AllZip Is ys (x ∷ xs)) (a ++ b)
one_more x xs one follows others = seen (followed one follows others) (λ p. p.0 ∷ p.1) (λ p w is spelled. spelled) (λ p is. is)

-- what may follow an item is what follows, or a further item
front : {X : Type 0} (end : Close) (text : X → List ℕ) (xs : List X) → ((x : X) → Follows end (text x) end)
    → Follows end (flat_map text xs) end
front end text [] follows rest ends = ends
front end text (x ∷ xs) follows rest ends =
    subst (Ends end) (sym (append_assoc (text x) (flat_map text xs) rest))
    (follows x (flat_map text xs ++ rest) (front end text xs follows rest ends))

-- items, where each may follow another
pub many : {A X : Type 0} (source : List ℕ) (end : Close) (N : A → List Token → Type 0) (Is : A → X → Type 0)
    (text : X → List ℕ) (xs : List X)
    → ((x : X) → Has xs x → Prints source end N (λ (y : A). Is y x) (text x)) → ((x : X) → Follows end (text x) end)
    → Prints source end (Many N) (λ (ys : List A). AllZip Is ys xs) (flat_map text xs)
many source end N Is text [] each follows = nothing_prints source end [] refl tt
many source end N Is text (x ∷ xs) each follows =
    one_more x xs (each x (inl refl)) (front end text xs follows) (many source end N Is text xs (λ y there. each y (inr there)) follows)

-- ---- `=` and `;` at any place

pub quiet_assign : (source : List ℕ) → Quiet source blank_end (AMark marks.Assign) (codes "=")
quiet_assign source = seen (assign_prints source) (λ at. tt) (λ at w is spelled. (at, spelled)) (λ at is. tt)

pub quiet_semicolon : (source : List ℕ) → Quiet source blank_end (AMark marks.Semicolon) (codes ";")
quiet_semicolon source = seen (semicolon_prints source) (λ at. tt) (λ at w is spelled. (at, spelled)) (λ at is. tt)

-- ---- lists with commas

after_comma : {A : Type 0} {N : A → List Token → Type 0} {Is : A → Type 0} {a : List ℕ} (source : List ℕ) → Prints source word_end N Is a
    → Prints source word_end (λ y. AMark marks.Comma ▸ N y) Is (codes ", " ++ a)
after_comma source one = lead (a_mark_prints source marks.Comma refl) (λ rest. tt) (blanks_before (codes " ") refl one)

-- parts with a comma and a space between two: the first, and each other behind its comma
pub comma_list : {A X : Type 0} (source : List ℕ) (N : A → List Token → Type 0) (Is : A → X → Type 0)
    (part : X → List ℕ) (x : X) (xs : List X)
    → ((y : X) → Has (x ∷ xs) y → Prints source word_end N (λ (a : A). Is a y) (part y))
    → Prints source word_end (λ (ys : A × List A). N ys.0 ▸ Many (λ y. AMark marks.Comma ▸ N y) ys.1)
    (λ ys. Is ys.0 x × AllZip Is ys.1 xs) (listed part (x ∷ xs))
comma_list source N Is part x xs each =
    followed (each x (inl refl)) (front word_end (λ y. codes ", " ++ part y) xs (λ y rest ends. refl))
    (many source word_end (λ y. AMark marks.Comma ▸ N y) Is (λ y. codes ", " ++ part y) xs
    (λ y there. after_comma source (each y (inr there))) (λ y rest ends. refl))
