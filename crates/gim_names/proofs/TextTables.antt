-- Sets and maps of texts, and the lists that they hold.
use Rattle.std.proofs.Common.{◌≡◌, ℕ, Bool, true, false, cond, List, [], ◌∷◌}
use Rattle.std.proofs.Common.{Option, Some, None, option_map, refl, ap, subst}
use Rattle.std.proofs.Common.{◌∙◌}
use Rattle.std.specs.Prelude.{not, ◌||◌, ◌&&◌}
use Rattle.std.specs.Borrow.{Bor}
use Rattle.std.specs.HashSet.{HashSet}
use Rattle.std.specs.List.{list_any, cons_option}
use Rattle.std.specs.Map.{lookup}
use Rattle.std.specs.Cmp.Lexicographic.{bytes_decides}
use Rattle.std.proofs.lemmas.Bool.{and_parts, and_from, not-true, not_from_false}
use Rattle.gim_ast.specs.WellFormed.{same_text}
use Rattle.gim_names.specs.Rules.{has_other_second, differs}
use Rattle.gim_names.specs.Tables.{HasTexts, have_one_each}
use Rattle.gim_text.proofs.SameTexts.{same_text_symm}

-- ---- one more text

either_way : (a b c d : Bool) → a ≡ b → c ≡ d → cond a true c ≡ (b || d)
either_way true b c d e f = rw (← e) refl
either_way false b c d e f = rw (← e) f

pub put_step : (x q : List ℕ) (old new : Bool) (texts : List (List ℕ)) → new ≡ cond (same_text x q) true old
    → old ≡ list_any (same_text q) texts → new ≡ (same_text q x || list_any (same_text q) texts)
put_step x q old new texts adds has =
    adds ∙ either_way (same_text x q) (same_text q x) old (list_any (same_text q) texts) (same_text_symm x q) has

-- ---- one more pair

value_of : Bor (List ℕ) → List ℕ
value_of v = v.now

pair_by : (a b : Bool) (v : Bor (List ℕ)) (old : Option (Bor (List ℕ))) (was : Option (List ℕ)) → a ≡ b
    → option_map (λ x. x.now) old ≡ was → option_map (λ x. x.now) (cond a (Some v) old) ≡ cond b (Some v.now) was
pair_by true b v old was e f = rw (← e) refl
pair_by false b v old was e f = rw (← e) f

pub pair_step : (x q : List ℕ) (v : Bor (List ℕ)) (old new : Option (Bor (List ℕ))) (was : Option (List ℕ))
    → new ≡ cond (same_text x q) (Some v) old → option_map (λ x. x.now) old ≡ was
    → option_map (λ x. x.now) new ≡ cond (same_text q x) (Some v.now) was
pair_step x q v old new was adds has =
    ap (option_map (λ x. x.now)) adds ∙ pair_by (same_text x q) (same_text q x) v old was (same_text_symm x q) has

-- ---- another second part

none_by : (a : Bool) (value w : List ℕ) (rest : Bool) (found : Option (List ℕ)) → (found ≡ None → rest ≡ false)
    → cond a (Some w) found ≡ None → ((a && not (same_text value w)) || rest) ≡ false
none_by true value w rest found later e = absurd cc
none_by false value w rest found later e = later e

pub other_none : (key value : List ℕ) (pairs : List (List ℕ × List ℕ)) → lookup (same_text key) pairs ≡ None
    → list_any (has_other_second key value) pairs ≡ false
other_none key value [] e = refl
other_none key value (p ∷ pairs) e =
    none_by (same_text key p.0) value p.1 (list_any (has_other_second key value) pairs) (lookup (same_text key) pairs)
    (λ h. other_none key value pairs h) e

-- at the value that the map has, there is no other one
here_by : (s : Bool) (rest : Bool) → (s ≡ true → rest ≡ false) → (not s || rest) ≡ not s
here_by true rest none = none refl
here_by false rest none = refl

found_by : (a : Bool) (value w found : List ℕ) (rest : Bool) (later : Option (List ℕ))
    → (a ≡ true → same_text value w ≡ true → rest ≡ false) → (later ≡ Some found → rest ≡ not (same_text value found))
    → cond a (Some w) later ≡ Some found → ((a && not (same_text value w)) || rest) ≡ not (same_text value found)
found_by true value w found rest later one goes e =
    let same : w ≡ found = cc in
    subst (λ (x : List ℕ). (not (same_text value w) || rest) ≡ not (same_text value x)) same (here_by (same_text value w) rest (one refl))
found_by false value w found rest later one goes e = goes e

pub other_some : (key value found : List ℕ) (pairs : List (List ℕ × List ℕ)) → have_one_each pairs ≡ true
    → lookup (same_text key) pairs ≡ Some found
    → list_any (has_other_second key value) pairs ≡ not (same_text value found)
other_some key value found [] one e = absurd cc
other_some key value found (p ∷ pairs) one e =
    let t = and_parts (not (list_any (has_other_second p.0 p.1) pairs)) (have_one_each pairs) one in
    found_by (same_text key p.0) value p.1 found (list_any (has_other_second key value) pairs) (lookup (same_text key) pairs)
    (λ k v. rw ((bytes_decides key p.0).0 k, (bytes_decides value p.1).0 v) (not-true (list_any (has_other_second p.0 p.1) pairs) t.0))
    (λ h. other_some key value found pairs t.1 h) e

-- one more pair that differs from none
pub one_more : (o : Option (List ℕ × List ℕ)) (pairs : List (List ℕ × List ℕ)) → differs o pairs ≡ false
    → have_one_each pairs ≡ true → have_one_each (cons_option o pairs) ≡ true
one_more None pairs d one = one
one_more (Some p) pairs d one =
    and_from (not (list_any (has_other_second p.0 p.1) pairs)) (have_one_each pairs)
    (not_from_false (list_any (has_other_second p.0 p.1) pairs) d) one

pub none_has : {S : Type 0} (set : HashSet (Bor (List ℕ)) S) → set.keys ≡ [] → HasTexts set []
none_has set e q = rw e refl
