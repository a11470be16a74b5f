-- Where a run comes, each readable name has the value that its operation gives: by induction over
-- the run.
use Rattle.std.proofs.Common.{◌≡◌, ◌≢◌, ℕ, Bool, true, false, cond, eqb, Some, List, [], ◌∷◌}
use Rattle.std.proofs.Common.{map, refl, sym, ap, subst, ◌∙◌, ⊎_elim}
use Rattle.std.specs.Bool.{IsTrue}
use Rattle.std.specs.Option.{option_map_or}
use Rattle.std.specs.List.{AllByRecursion}
use Rattle.std.proofs.lemmas.Bool.{or_left, or_right, both_ways, eq-eqb, eqb-true}
use Rattle.std.proofs.lemmas.Option.{same_Some, none-some}
use Rattle.pm_wide.specs.Types.{Word}
use Rattle.pm_wide.specs.declared.operand.Operand.{Operand}
use Rattle.pm_wide.specs.declared.operand.Operand.TheVariants.{Name, Const}
use Rattle.gim_ast.specs.declared.function.Function.{Function}
use Rattle.gim_ast.specs.declared.function.Block.{Block}
use Rattle.gim_ast.specs.declared.function.Phi.{Phi}
use Rattle.gim_ast.specs.declared.function.Stmt.{Stmt}
use Rattle.gim_ast.specs.declared.function.Rhs.{Rhs}
use Rattle.gim_ast.specs.Functions.{phi_name, stmt_name, right_of}
use Rattle.gim_ast.specs.Functions.{operands_of_rhs}
use Rattle.gim_ast.specs.WellFormed.{IsWellFormed, is_among}
use Rattle.gim_ast.specs.Readable.{names_among, read_for, Supports, operand, Fresh, is_initial}
use Rattle.gim_ast.specs.Readable.{IsReadable}
use Rattle.gim_ast.specs.Runs.{Env, assign, assign_each, rhs_value, name_type, phi_word}
use Rattle.gim_meaning.specs.ReachedPoints.{Inside, Reaches}
use Rattle.gim_meaning.specs.PresentValues.{HasItsValue}
use Rattle.gim_run.specs.Blocks.{phi_pair}
use Rattle.gim_meaning.proofs.AlongRuns.{Known, passed, known_inside}
use Rattle.gim_meaning.proofs.Agreement.{AgreeOn, AllStand, same_value}
use Rattle.gim_meaning.proofs.Reached.{lies}
use Rattle.gim_meaning.proofs.RightSides.{right_at, no_right_at_phis, HasNoRight}
use Rattle.gim_meaning.proofs.RightSides.{no_right_of_initial}

-- ---- an assignment of another name

abbrev pub IsOther : ℕ → ℕ → Type 0
IsOther y z = z ≢ y

pub others_agree : (e : Env) (y : ℕ) (w : Word) → AgreeOn (IsOther y) e (assign y w e)
others_agree e y w z other = by (eqb y z) refl
  where
    by : (b : Bool) → eqb y z ≡ b → cond b w (e z) ≡ e z
    by true is = absurd (other (sym (eqb-true y z is)))
    by false is = refl

pub own_word : (e : Env) (y : ℕ) (w : Word) → assign y w e y ≡ w
own_word e y w = rw (eq-eqb y y refl) refl

-- operands among which a name isn't
pub others_stand : (y : ℕ) (operands : List Operand) →
    (IsTrue (is_among y (names_among operands)) → ⊥) → AllStand (IsOther y) operands
others_stand y [] none = tt
others_stand y (Name x t ∷ operands) none = (
  λ same. none (or_left (eqb x y) (is_among y (names_among operands)) (eq-eqb x y same)),
  others_stand y operands (λ later. none
      (or_right (eqb x y) (is_among y (names_among operands)) later)),
)
others_stand y (Const w ∷ operands) none = (tt, others_stand y operands none)

pub reads_of : (f : Function) (x : ℕ) (rhs : Rhs) → right_of f x ≡ Some rhs →
    read_for f x ≡ names_among (operands_of_rhs rhs)
unfolding read_for
reads_of f x rhs is = ap (λ found. option_map_or
    (λ (r : Rhs). names_among (operands_of_rhs r)) found []) is

value_unread : (f : Function) (e : Env) (x y : ℕ) (w : Word) (rhs : Rhs) → right_of f x ≡ Some rhs →
    (IsTrue (is_among y (read_for f x)) → ⊥) →
    rhs_value (name_type f x) (assign y w e) rhs ≡ rhs_value (name_type f x) e rhs
value_unread f e x y w rhs is unread =
    same_value (IsOther y) e (assign y w e) (others_agree e y w) (name_type f x) rhs
    (others_stand y (operands_of_rhs rhs)
    (subst (λ l. IsTrue (is_among y l) → ⊥) (reads_of f x rhs is) unread))

-- ---- what is known of the words

-- each name that is fresh after these assignments has its value
abbrev AreValues : Function → List ℕ → Env → Type 0
AreValues f past e = (x : ℕ) → (Supports (read_for f) x x → ⊥) →
    Fresh (is_initial f) (read_for f) x past → HasItsValue f e x

-- a name that has no operation, or has its value now, is assigned
values_assigned : (f : Function) (past : List ℕ) (e : Env) (y : ℕ) (w : Word) → AreValues f past e →
    ((rhs : Rhs) → (Supports (read_for f) y y → ⊥) → right_of f y ≡ Some rhs →
    rhs_value (name_type f y) e rhs ≡ Some w) → AreValues f (y ∷ past) (assign y w e)
values_assigned f past e y w known own x apart fresh rhs is = by (eqb x y) refl
  where
    unread : (Supports (read_for f) x y → ⊥) →
        rhs_value (name_type f x) (assign y w e) rhs ≡ rhs_value (name_type f x) e rhs
    unread no_support = value_unread f e x y w rhs is
        (λ reads_it. no_support (operand x y reads_it))

    by : (b : Bool) → eqb x y ≡ b → rhs_value (name_type f x) (assign y w e) rhs ≡ Some
        (assign y w e x)
    by true same_name =
        let same : x ≡ y = eqb-true x y same_name in
        unread (subst (λ z. Supports (read_for f) x z → ⊥) same apart)
        ∙ subst (λ z. rhs_value (name_type f z) e rhs ≡ Some w) (sym same)
        (own rhs (subst (λ z. Supports (read_for f) z z → ⊥) same apart)
        (subst (λ z. right_of f z ≡ Some rhs) same is))
        ∙ ap Some (sym (own_word e y w) ∙ ap (assign y w e) (sym same))
    by false other_name =
        let other : x ≢ y = λ same. both_ways (eqb x y) other_name (eq-eqb x y same) in
        ⊎_elim
        (λ (here : y ≡ x). absurd (other (sym here)))
        (λ earlier. unread earlier.0 ∙ known x apart earlier.1 rhs is
        ∙ ap Some (sym (others_agree e y w x other)))
        fresh

-- past the phis of a block, which have no operation
phis_keep_values : (f : Function) (from : ℕ) (old : Env) (phis : List Phi) (past : List ℕ)
    (e : Env) →
    AllByRecursion (HasNoRight f) phis → AreValues f past e →
    AreValues f (passed (map phi_name phis) past) (assign_each (map (phi_pair f from old) phis) e)
phis_keep_values f from old [] past e none known = known
phis_keep_values f from old (phi ∷ phis) past e none known =
    let w = phi_word f from old phi in
    phis_keep_values f from old phis (phi.name ∷ past) (assign phi.name w e) none.1
    (values_assigned f past e phi.name w known
    (λ rhs apart is. absurd (none-some rhs (sym none.0 ∙ is))))

values_there : (f : Function) (args : List Word) → IsWellFormed f →
    (block : Block) (stmts : List Stmt) (e : Env) →
    Reaches f args (Inside block stmts e) →
    Known f args (AreValues f) block.number (map stmt_name stmts) e
values_there f args well =
    known_inside f args (AreValues f) well
    (λ x apart initial rhs is. absurd
    (none-some rhs (sym (no_right_of_initial f well x initial) ∙ is)))
    (λ before block e n past reached leads is path known. phis_keep_values f before.number e
    block.phis past e (no_right_at_phis f well n block is) known)
    (λ block stmt stmts e w past reached value known. values_assigned f past e stmt.name w known
    (λ rhs apart is. let same =
    same_Some stmt.rhs rhs (sym (right_at f well block stmt stmts (lies reached)) ∙ is) in
    subst (λ r. rhs_value (name_type f stmt.name) e r ≡ Some w) same value))

-- where a run comes each readable name has its value
pub readable_has_its_value : (f : Function) (args : List Word) → IsWellFormed f →
    (block : Block) (stmts : List Stmt) (e : Env) →
    Reaches f args (Inside block stmts e) → (x : ℕ) →
    IsReadable f x block.number (map stmt_name stmts) → HasItsValue f e x
readable_has_its_value f args well block stmts e reached x readable =
    let known = values_there f args well block stmts e reached in
    known.keeps x readable.apart (readable.fresh known.past known.path)
