-- Searches from the front: which row applies first, and which subject has a choice first.
use Rattle.std.proofs.Common.{◌≡◌, ℕ, ◌+◌, ◌<◌, List, [], ◌∷◌, ◌++◌, length, map, Option}
use Rattle.std.proofs.Common.{Some, None, refl, ap, sym, ◌∙◌, get_or, drop, subst}
use Rattle.std.specs.List.{flat_map}
use Rattle.std.specs.Option.{option_map}
use Rattle.std.proofs.lemmas.List.{at_drop_more}
use Rattle.gim_ast.specs.declared.function.Function.{Function}
use Rattle.gim_ast.specs.declared.function.Block.{Block}
use Rattle.gim_ast.specs.declared.function.Stmt.{Stmt}
use Rattle.first_patterns.specs.Subjects as subjects
use Rattle.first_patterns.specs.Subjects.{Subject, subject_of_stmt, subjects_of_end, subjects_of_block}
use Rattle.first_rewriting.specs.Rewriting as rewriting
use Rattle.first_rewriting.specs.Rewriting.{or_else, first_some}
use Rattle.first_patterns.specs.declared.row.Row.{Row}
use Rattle.first_rewriting.specs.Choices.{first_found, tried, by_site, stmt_subjects, EachFolds}

-- ---- rows

-- ---- subjects

pub found_append : (rows : List Row) (f : Function) (xs ys : List Subject)
    → first_found rows f (xs ++ ys) ≡ or_else (first_found rows f xs) (first_found rows f ys)
found_append rows f [] ys = refl
found_append rows f (x ∷ xs) ys =
    elim (tried rows f x) as (λ o. option_map by_site (or_else o (first_some (tried rows f) (xs ++ ys)))
    ≡ or_else (option_map by_site (or_else o (first_some (tried rows f) xs))) (first_found rows f ys)) [
      | Some y ↦ refl
      | None ↦ found_append rows f xs ys
    ]

pub folds_left : (f : Function) (xs ys : List Subject) → EachFolds f (xs ++ ys) → EachFolds f xs
folds_left f [] ys each = tt
folds_left f (x ∷ xs) ys each = (each.0, folds_left f xs ys each.1)

pub folds_right : (f : Function) (xs ys : List Subject) → EachFolds f (xs ++ ys) → EachFolds f ys
folds_right f [] ys each = each
folds_right f (x ∷ xs) ys each = folds_right f xs ys each.1

-- a search through a list whose elements have subjects
module _ {X : Type 0} (of : X → List Subject) (rows : List Row) (f : Function) where
  pub passed : (xs : List X) (i : ℕ) (x : X) → i < length xs → x ≡ get_or xs i x → first_found rows f (of x) ≡ None
      → first_found rows f (flat_map of (drop i xs)) ≡ first_found rows f (flat_map of (drop (i + 1) xs))
  passed xs i x within is none =
      let rest = flat_map of (drop (i + 1) xs) in
      at_drop_more (λ ys. first_found rows f (flat_map of ys)) xs i x within
      ∙ (ap (λ y. first_found rows f (of y ++ rest)) (sym is)
      ∙ (found_append rows f (of x) rest ∙ ap (λ o. or_else o (first_found rows f rest)) none))

  pub taken : (xs : List X) (i : ℕ) (x : X) (found : subjects.Site × rewriting.Choice) → i < length xs
      → x ≡ get_or xs i x → first_found rows f (of x) ≡ Some found
      → first_found rows f (flat_map of (drop i xs)) ≡ Some found
  taken xs i x found within is some =
      let rest = flat_map of (drop (i + 1) xs) in
      at_drop_more (λ ys. first_found rows f (flat_map of ys)) xs i x within
      ∙ (ap (λ y. first_found rows f (of y ++ rest)) (sym is)
      ∙ (found_append rows f (of x) rest ∙ ap (λ o. or_else o (first_found rows f rest)) some))

  folds_there : (xs : List X) (i : ℕ) (x : X) → i < length xs → x ≡ get_or xs i x
      → EachFolds f (flat_map of (drop i xs)) → EachFolds f (of x ++ flat_map of (drop (i + 1) xs))
  folds_there xs i x within is each =
      let same = at_drop_more (flat_map of) xs i x within ∙ ap (λ y. of y ++ flat_map of (drop (i + 1) xs)) (sym is) in
      subst (EachFolds f) same each

  pub folds_here : (xs : List X) (i : ℕ) (x : X) → i < length xs → x ≡ get_or xs i x
      → EachFolds f (flat_map of (drop i xs)) → EachFolds f (of x)
  folds_here xs i x within is each = folds_left f (of x) (flat_map of (drop (i + 1) xs)) (folds_there xs i x within is each)

  pub folds_after : (xs : List X) (i : ℕ) (x : X) → i < length xs → x ≡ get_or xs i x
      → EachFolds f (flat_map of (drop i xs)) → EachFolds f (flat_map of (drop (i + 1) xs))
  folds_after xs i x within is each = folds_right f (of x) (flat_map of (drop (i + 1) xs)) (folds_there xs i x within is each)

stmts_as_lists : (stmts : List Stmt) → flat_map stmt_subjects stmts ≡ map subject_of_stmt stmts
stmts_as_lists [] = refl
stmts_as_lists (stmt ∷ stmts) = ap (λ ss. subject_of_stmt stmt ∷ ss) (stmts_as_lists stmts)

pub block_as_lists : (block : Block) → flat_map stmt_subjects block.stmts ++ subjects_of_end block.number block.end
    ≡ subjects_of_block block
block_as_lists block = ap (λ ss. ss ++ subjects_of_end block.number block.end) (stmts_as_lists block.stmts)

pub found_in_block : (rows : List Row) (f : Function) (block : Block)
    → first_found rows f (subjects_of_block block)
    ≡ or_else (first_found rows f (flat_map stmt_subjects block.stmts))
    (first_found rows f (subjects_of_end block.number block.end))
found_in_block rows f block =
    ap (first_found rows f) (sym (block_as_lists block))
    ∙ found_append rows f (flat_map stmt_subjects block.stmts) (subjects_of_end block.number block.end)

-- nothing or something that was found, of what an answer stands for
pub none_found : {A B : Type 0} (view : A → B) (found : Option A) (o : Option B) → found ≡ None → option_map view found ≡ o → o ≡ None
none_found view found o none same = sym same ∙ ap (option_map view) none

pub some_found : {A B : Type 0} (view : A → B) (found : Option A) (o : Option B) (a : A) → found ≡ Some a
    → option_map view found ≡ o → o ≡ Some (view a)
some_found view found o a some same = sym same ∙ ap (option_map view) some
