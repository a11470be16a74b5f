-- Terms that operands stand for: what their statements compute, as deep as one likes.
use Rattle.std.specs.Prelude.{◌≡◌, ℕ, ⊤, IsTrue, if◌then◌else◌, Some, IsSome, List, [], ◌∷◌}
use Rattle.pm_ops.specs.declared.code.Code.{Code}
use Rattle.pm_wide.specs.Types.{Ty, Word, IsType, IsWord, same_type}
use Rattle.pm_wide.specs.declared.operand.Operand.{Operand}
use Rattle.pm_wide.specs.declared.operand.Operand.TheVariants.{Name, Const}
use Rattle.pm_term.specs.Terms.{term_value}
use Rattle.pm_term.specs.Trees.{Tree, node, Trees, nil, cons, leaf}
use Rattle.gim_ast.specs.declared.function.Function.{Function}
use Rattle.gim_ast.specs.declared.function.Rhs.{Rhs}
use Rattle.gim_ast.specs.declared.function.Rhs.TheVariants.{Copy, Op}
use Rattle.gim_ast.specs.Functions.{right_of}
use Rattle.gim_ast.specs.Readable.{read_for, Supports, IsReadable}
use Rattle.gim_ast.specs.Runs.{Env, zero_of, name_type}
use Rattle.gim_ast.specs.WellFormed.{operand_holds}

mutual
  -- the term stands for the operand: it is the operand itself, or stands for what its statement
  -- copies, or is the operation of its statement on terms that stand for the operands there
  pub data Unfolds (f : Function) : Operand → Tree → Type 0 where
    itself : (a : Operand) → IsTrue (operand_holds f a) → Unfolds f a (leaf a)
    copied : (x : ℕ) (t : Ty) (a : Operand) (term : Tree) → right_of f x ≡ Some (Copy a) →
        Unfolds f a term →
        Unfolds f (Name x t) term
    computed : (x : ℕ) (t : Ty) (code : Code) (operands : List Operand) (terms : Trees) →
        right_of f x ≡ Some (Op code operands) →
        EachUnfolds f operands terms → Unfolds f (Name x t) (node code (name_type f x) terms)

  -- each term stands for its operand
  pub data EachUnfolds (f : Function) : List Operand → Trees → Type 0 where
    no_operand : EachUnfolds f [] nil
    one_more : (a : Operand) (operands : List Operand) (term : Tree) (terms : Trees) →
        Unfolds f a term → EachUnfolds f operands terms →
        EachUnfolds f (a ∷ operands) (cons term terms)

-- the term stands for a right side of the type
abbrev pub UnfoldsRight : Function → Ty → Rhs → Tree → Type 0
UnfoldsRight f t (Copy a) term = Unfolds f a term
UnfoldsRight f t (Op code operands) term =
    (terms : Trees) × (term ≡ node code t terms) × EachUnfolds f operands terms

-- the operand is a constant, or a name that is readable at the point
abbrev pub MayRead : Function → ℕ → List ℕ → Operand → Type 0
MayRead f n left (Name x t) = IsReadable f x n left
MayRead f n left (Const w) = ⊤

-- the operand is a constant, or a name of the support of x
abbrev pub IsOfSupport : Function → ℕ → Operand → Type 0
IsOfSupport f x (Name y t) = Supports (read_for f) x y
IsOfSupport f x (Const w) = ⊤

-- the words of names in a term: a name that isn't of its own type there, which doesn't happen,
-- would be 0
abbrev pub words_in : Env → ℕ → Ty → Word
words_in env x t = if same_type (env x).ty t then env x else zero_of t

-- each name has a word of the type that it has in a term
abbrev pub AreWordsOfNames : (ℕ → Ty → Word) → Type 0
AreWordsOfNames words = (version : ℕ) (ty : Ty) → IsType ty →
    ((words version ty).ty ≡ ty) × IsWord (words version ty)

-- wherever the first term has a value, the second has that value
abbrev pub Refines : Tree → Tree → Type 0
Refines left right = (words : ℕ → Ty → Word) → AreWordsOfNames words → (w : Word) →
    term_value words left ≡ Some w → term_value words right ≡ Some w

-- wherever the first term has a value, the second has one
abbrev pub IsDefinedWith : Tree → Tree → Type 0
IsDefinedWith left part = (words : ℕ → Ty → Word) → AreWordsOfNames words →
    IsSome (term_value words left) → IsSome (term_value words part)

mutual
  -- the part is the term itself, or a part of one of its operands
  pub data IsPartOf (part : Tree) : Tree → Type 0 where
    itself_whole : IsPartOf part part
    below : (code : Code) (ty : Ty) (terms : Trees) → IsPartOfOne part terms →
        IsPartOf part (node code ty terms)

  -- the part is one of one of the terms
  pub data IsPartOfOne (part : Tree) : Trees → Type 0 where
    of_first : (term : Tree) (terms : Trees) → IsPartOf part term →
        IsPartOfOne part (cons term terms)
    of_later : (term : Tree) (terms : Trees) → IsPartOfOne part terms →
        IsPartOfOne part (cons term terms)
