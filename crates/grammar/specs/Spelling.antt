-- What a grammar spells. A nonterminal is a relation: which lists of tokens spell which value.
use Rattle.std.specs.Prelude.{◌≡◌, List, [], ◌∷◌, ◌++◌, Option, Some}

-- which lists of tokens spell which value
abbrev pub Spelling : Type 0 → Type 0 → Type 1
Spelling T A = A → List T → Type 0

-- no token, for this value alone
abbrev pub Nothing : {T A : Type 0} → A → Spelling T A
Nothing value x tokens = (x ≡ value) × (tokens ≡ [])

-- one token that has a meaning, which is the value
abbrev pub Meant : {T A : Type 0} → (T → Option A) → Spelling T A
Meant meaning x tokens = (t : _) × (meaning t ≡ Some x) × (tokens ≡ t ∷ [])

-- one token, and after it a part
abbrev pub After : {T A : Type 0} → T → Spelling T A → Spelling T A
After token M x tokens = (v : List _) × M x v × (tokens ≡ token ∷ v)

-- one part, and after it the part that its value asks for
abbrev pub Then : {T A B : Type 0} → Spelling T A → (A → Spelling T B) → Spelling T B
Then N M y tokens = (x : _) × (u : List _) × (v : List _) × N x u × M x y v × (tokens ≡ u ++ v)

-- a part whose value is seen by f
abbrev pub Mapped : {T A B : Type 0} → (A → B) → Spelling T A → Spelling T B
Mapped f N y tokens = (x : _) × N x tokens × (f x ≡ y)

-- Some accepted text begins so.
pub record Begins {T A : Type 0} (N : Spelling T A) (front : List T) : Type 0 where
  pub value : A
  pub after : List T
  pub spelled : N value (front ++ after)

-- A token-driven machine leads from one state to another by these tokens.
abbrev pub Leads : {T S : Type 0} → (S → T → Option S) → S → S → List T → Type 0
Leads next s end [] = s ≡ end
Leads next s end (t ∷ tokens) = (m : _) × (next s t ≡ Some m) × Leads next m end tokens

-- the tokens that lead a machine from its start to a state with a meaning, which is the value
abbrev pub Driven : {T S A : Type 0} → (S → T → Option S) → (S → Option A) → S → Spelling T A
Driven next meaning start x tokens = (end : _) × Leads next start end tokens × (meaning end ≡ Some x)

-- Steps from one value to another, as many as there are: the items of a list, or the operators of a chain.
pub data Steps {T S : Type 0} (Step : S → S → List T → Type 0) : S → S → List T → Type 0 where
  stays : {s end : S} {tokens : List T} → s ≡ end → tokens ≡ [] → Steps Step s end tokens
  goes : {s m end : S} {u v tokens : List T} → Step s m u → Steps Step m end v → tokens ≡ u ++ v → Steps Step s end tokens

-- items, one after the other
abbrev pub Many : {T A : Type 0} → Spelling T A → Spelling T (List A)
Many N [] tokens = tokens ≡ []
Many N (x ∷ xs) tokens = (u : List _) × (v : List _) × N x u × Many N xs v × (tokens ≡ u ++ v)

-- one item more at the end of a list
abbrev pub Item : {T A : Type 0} → Spelling T A → List A → List A → List T → Type 0
Item N before now tokens = (x : _) × N x tokens × (now ≡ before ++ x ∷ [])

-- The last step of a chain that groups to the left.
pub record LastStep {T A : Type 0} (Chain : Spelling T A) (Step : A → A → List T → Type 0) (now : A) (tokens : List T) : Type 0 where
  pub before : A
  pub left : List T
  pub right : List T
  pub chain : Chain before left
  pub step : Step before now right
  pub cut : tokens ≡ left ++ right
