-- Tables of names, and what a search in one finds.
use Rattle.std.proofs.Common.{◌≡◌, ◌↔◌, Bool, true, List, [], ◌∷◌, Contains, Any, Option, Some, None, refl, sym, subst, find, get_or, arith}
use Rattle.std.specs.List.{list_any}
use Rattle.std.specs.Str.{bytes_eq}
use Rattle.std.proofs.lemmas.List.Folds.{Any-from_list_any}
use Rattle.std.proofs.lemmas.Slice.Eq.{bytes_eq-Decides}
use Rattle.pm_ops.specs.Names.{Name}

-- a search gives what passes the test
pub found_passes : {X : Type 0} (p : X → Bool) → (xs : List X) (x : X) → find p xs ≡ Some x → p x ≡ true
found_passes p [] x h = grind arith
found_passes p (y ∷ ys) x h = grind (arith, found_passes p ys x)

-- a search by name gives what has the name
pub found_has_name : {X : Type 0} (name_of : X → Name) → (xs : List X) (name : Name) (x : X)
    → find (λ one. bytes_eq (name_of one) name) xs ≡ Some x → name ≡ name_of x
found_has_name name_of xs name x found =
    sym ((bytes_eq-Decides (name_of x) name).0 (found_passes (λ one. bytes_eq (name_of one) name) xs x found))

-- a name that equals one of these is one of these
pub among_names : (names : List Name) (name : Name) → list_any (λ one. bytes_eq one name) names ≡ true → Contains names name
among_names names name some = among (Any-from_list_any (λ one. bytes_eq one name) names some)
  where
    among : Any (λ one. bytes_eq one name ≡ true) names → Contains names name
    among (k, one, within, at, same) =
        let is : one ≡ name = (bytes_eq-Decides one name).0 same in
        (k, within, subst (λ n. get_or names k n ≡ n) is at)

-- where each value is read from its name, and no value from another name, a name is read exactly as what it names
pub read_exactly : {N X : Type 0} (named : N → Option X) (name_of : X → N)
    → (each : (x : X) → named (name_of x) ≡ Some x)
    → (only : (n : N) (x : X) → named n ≡ Some x → n ≡ name_of x)
    → (n : N) (x : X) → (named n ≡ Some x) ↔ (n ≡ name_of x)
read_exactly named name_of each only n x = (only n x, λ is. subst (λ m. named m ≡ Some x) (sym is) (each x))

-- where each value is read from its name, no two have one name
pub names_differ : {N X : Type 0} (named : N → Option X) (name_of : X → N)
    → (each : (x : X) → named (name_of x) ≡ Some x)
    → (x y : X) → name_of x ≡ name_of y → x ≡ y
names_differ named name_of each x y same = grind (arith, each x, each y)

none_from : {X : Type 0} (r : Option X) → ((x : X) → r ≡ Some x → ⊥) → r ≡ None
none_from None never = refl
none_from (Some x) never = absurd (never x refl)

-- nothing is read exactly from a name that no value has
pub none_exactly : {N X : Type 0} (named : N → Option X) (HasName : X → N → Type 0)
    → (reads : (n : N) (x : X) → (named n ≡ Some x) ↔ HasName x n)
    → (n : N) → (named n ≡ None) ↔ ((x : X) → HasName x n → ⊥)
none_exactly named HasName reads n = (
  λ nothing x has. let some : named n ≡ Some x = (reads n x).1 has in grind arith,
  λ never. none_from (named n) (λ x some. never x ((reads n x).0 some)),
)
