-- What `run` needs: words for parameters, and the function of a name.
use Rattle.std.proofs.Common.{◌≡◌, ◌≢◌, ℕ, zero, suc, List, [], ◌∷◌, ◌++◌, length, map, Option, Some, None, Bool, true, false, ◌+◌, ◌<◌, get_or, drop, drop-cons, subst, refl, sym, ap, ◌∙◌, arith}
use Rattle.std.specs.List.{AllByRecursion}
use Rattle.std.specs.Prelude.{option_map, ℤ, cond}
use Rattle.pm_wide.specs.Types.{Ty, Word, in_range, word}
use Rattle.gim_ast.specs.declared.function.Function.{Function}
use Rattle.gim_ast.specs.declared.function.Decl.{Decl}
use Rattle.gim_ast.specs.Readable.{IsValid}
use Rattle.gim_run.specs.Slots.{types_of_words}
use Rattle.gim_run.specs.Arguments.{AreArguments}
use Rattle.gim_text.specs.Literals.{word_in}
use Rattle.match_top.specs.Run.{number_of_value, and_arguments, arguments_of, is_named, function_named}

-- ---- arguments

pub unequal : (decls : List Decl) (vs : List (List ℕ)) → length decls ≢ length vs → arguments_of decls vs ≡ None
unequal [] [] other = absurd (other refl)
unequal [] (v ∷ vs) other = refl
unequal (decl ∷ decls) [] other = refl
unequal (decl ∷ decls) (v ∷ vs) other = rw (unequal decls vs (λ e. other (ap suc e))) (none (word_in decl.ty (number_of_value v))) where
  none : (w : Option Word) → and_arguments w None ≡ None
  none None = refl
  none (Some w) = refl

-- a word more before the rest
pub one_more : (args : List Word) (w : Word) (rest : Option (List Word)) → option_map (λ l. args ++ l) (and_arguments (Some w) rest) ≡ option_map (λ l. (args ++ w ∷ []) ++ l) rest
one_more args w None = refl
one_more args w (Some l) = ap Some (joined args w l) where
  joined : (args : List Word) (w : Word) (l : List Word) → args ++ (w ∷ l) ≡ (args ++ w ∷ []) ++ l
  joined [] w l = refl
  joined (a ∷ args) w l = ap (λ k. a ∷ k) (joined args w l)

pub one_refused : (args : List Word) (rest : Option (List Word)) → option_map (λ l. args ++ l) (and_arguments None rest) ≡ None
one_refused args rest = refl

-- the words have the types of their parameters
has_type : (t : Ty) (z : ℤ) (w : Word) (test : Bool) → cond test (Some (word t z)) None ≡ Some w → w.ty ≡ t
has_type t z w true e = cc
has_type t z w false e = absurd cc

types_by : (t : Ty) (z : ℤ) (decls : List Decl) (rest : Option (List Word)) (args : List Word) → and_arguments (word_in t z) rest ≡ Some args
    → ((l : List Word) → rest ≡ Some l → types_of_words l ≡ map (λ (decl : Decl). decl.ty) decls) → types_of_words args ≡ t ∷ map (λ (decl : Decl). decl.ty) decls
types_by t z decls rest args e further = by (word_in t z) refl rest e further where
  by : (w : Option Word) → word_in t z ≡ w → (rest : Option (List Word)) → and_arguments w rest ≡ Some args
      → ((l : List Word) → rest ≡ Some l → types_of_words l ≡ map (λ (decl : Decl). decl.ty) decls) → types_of_words args ≡ t ∷ map (λ (decl : Decl). decl.ty) decls
  by (Some w) is (Some l) e further = let typed = has_type t z w (in_range t z) is in let rest_typed = further l refl in let same : args ≡ w ∷ l = cc in rw (same, typed, rest_typed) refl
  by (Some w) is None e further = absurd cc
  by None is rest e further = absurd cc

typed : (decls : List Decl) (vs : List (List ℕ)) (args : List Word) → arguments_of decls vs ≡ Some args → types_of_words args ≡ map (λ (decl : Decl). decl.ty) decls
typed [] [] args e = let same : args ≡ [] = cc in rw same refl
typed [] (v ∷ vs) args e = absurd cc
typed (decl ∷ decls) [] args e = absurd cc
typed (decl ∷ decls) (v ∷ vs) args e = types_by decl.ty (number_of_value v) decls (arguments_of decls vs) args e (λ l h. typed decls vs l h)

pub are_arguments : (f : Function) (vs : List (List ℕ)) (args : List Word) → Some args ≡ arguments_of f.params vs → AreArguments f args
are_arguments f vs args e = typed f.params vs args (sym e)

-- ---- words one after another

at_cons : {X : Type 0} (xs : List X) (i : ℕ) (x : X) → i < length xs → x ≡ get_or xs i x → drop i xs ≡ x ∷ drop (i + 1) xs
at_cons xs i x within is = let e : i + 1 ≡ suc i = omega arith in rw e (drop-cons xs i x within ∙ ap (λ y. y ∷ drop (suc i) xs) (sym is))

pub next_refused : (decls : List Decl) (values : List (List ℕ)) (args : List Word) (i : ℕ) (decl : Decl) (value : List ℕ) → i < length decls → i < length values
    → decl ≡ get_or decls i decl → value ≡ get_or values i value → word_in (get_or decls i decl).ty (number_of_value value) ≡ None
    → option_map (λ l. args ++ l) (arguments_of (drop i decls) (drop i values)) ≡ None
next_refused decls values args i decl value within among is_decl is_value refused =
    let none : word_in decl.ty (number_of_value value) ≡ None = ap (λ (d : Decl). word_in d.ty (number_of_value value)) is_decl ∙ refused in
    rw (at_cons decls i decl within is_decl, at_cons values i value among is_value, none) refl

pub next_word : (decls : List Decl) (values : List (List ℕ)) (args longer : List Word) (w : Word) (i : ℕ) (decl : Decl) (value : List ℕ) → i < length decls → i < length values
    → decl ≡ get_or decls i decl → value ≡ get_or values i value → word_in (get_or decls i decl).ty (number_of_value value) ≡ Some w → longer ≡ args ++ w ∷ []
    → option_map (λ l. args ++ l) (arguments_of (drop i decls) (drop i values)) ≡ option_map (λ l. longer ++ l) (arguments_of (drop (i + 1) decls) (drop (i + 1) values))
next_word decls values args longer w i decl value within among is_decl is_value found is_longer =
    let some : word_in decl.ty (number_of_value value) ≡ Some w = ap (λ (d : Decl). word_in d.ty (number_of_value value)) is_decl ∙ found in
    rw (at_cons decls i decl within is_decl, at_cons values i value among is_value, some, is_longer) (one_more args w (arguments_of (drop (i + 1) decls) (drop (i + 1) values)))

-- ---- the function of a name

pub found_valid : (name : List ℕ) (fs : List Function) (f : Function) → Some f ≡ function_named name fs → AllByRecursion IsValid fs → IsValid f
found_valid name [] f e valid = absurd cc
found_valid name (g ∷ fs) f e valid = by g fs f (is_named name g) (function_named name fs) e valid.0 (λ h. found_valid name fs f h valid.1) where
  by : (g : Function) (fs : List Function) (f : Function) (test : Bool) (further : Option Function) → Some f ≡ cond test (Some g) further → IsValid g → (Some f ≡ further → IsValid f) → IsValid f
  by g fs f true further e valid next = let same : g ≡ f = cc in subst IsValid same valid
  by g fs f false further e valid next = next e
