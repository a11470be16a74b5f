-- A name that was inserted is readable behind its statement, and comes before the name that is assigned next; what came before a name still does.
use Rattle.std.proofs.Common.{◌≡◌, ℕ, suc, ◌+◌, Bool, true, false, cond, not, Some, List, [], ◌∷◌, ◌++◌, length, map, filter, take, drop, slice_get, eqb, refl, sym, ap, ◌∙◌, subst, inl, ⊎_elim, arith, append_assoc, length-append}
use Rattle.std.specs.List.{AllByRecursion}
use Rattle.std.proofs.lemmas.Bool.{eqb-true, false_from_ne_true}
use Rattle.std.proofs.lemmas.Option.{same_Some}
use Rattle.std.proofs.lemmas.List.{map-append}
use Rattle.pm_wide.specs.declared.operand.Operand.TheVariants.{Name}
use Rattle.gim_ast.specs.declared.function.Function.{Function}
use Rattle.gim_ast.specs.declared.function.Block.{Block}
use Rattle.gim_ast.specs.declared.function.Stmt.{Stmt}
use Rattle.gim_ast.specs.declared.function.Decl.{Decl}
use Rattle.gim_ast.specs.Functions.{assigned, assigned_in, phi_name, stmt_name, operands_of_rhs}
use Rattle.gim_ast.specs.WellFormed.{is_among, is_assigned}
use Rattle.gim_ast.specs.Paths.{Stretch, flow_of, stretch_at, Path, enter, item, jump}
use Rattle.gim_ast.specs.Readable.{names_among, read_for, is_initial, Supports, operand, further, IsReadable, IsValid}
use Rattle.gim_changes.specs.Insertion.{insert_in_block, with_stmt, MayBeInserted}
use Rattle.gim_changes.specs.Trimming.{stands_in}
use Rattle.gim_changes.specs.Validity.{IsAssignedAfter, ComesBefore, OperandComesBefore}
use Rattle.gim_changes.proofs.Members.{first_or, rest_of, IsMember, each_member}
use Rattle.gim_changes.proofs.Points.{path_point, entry_found}
use Rattle.gim_changes.proofs.Unused.{other}
use Rattle.gim_changes.proofs.PathsWithout.{front_is}
use Rattle.gim_changes.proofs.NamesUsed.{named, assigned_stands}
use Rattle.gim_changes.proofs.RulesOfNames.{ordered, among_member, reader, stmt_assigns, point_of_block}
use Rattle.gim_changes.proofs.ComesBefore.{readable_where_assigned, readable_at_the_point, support_comes_before}
use Rattle.gim_changes.proofs.SupportChanges.{through_new}
use Rattle.gim_changes.proofs.InsertedStatement.{grown, changed_member, changed_there, assigned_is_old, stands_is_old}
use Rattle.gim_changes.proofs.GrownRules.{new_assigned}
use Rattle.gim_changes.proofs.ValidInsertion.{grown_valid, grown_is, read_new, new_apart, stands_still, readable_still}

-- ---- what a path passed last in a block

same_last : (z v : ℕ) (us ws : List ℕ) → us ++ z ∷ [] ≡ ws ++ v ∷ [] → z ≡ v
same_last z v [] [] e = ap (first_or z) e
same_last z v [] (w ∷ ws) e = let long : 0 ≡ length ws + 1 = ap length (ap rest_of e) ∙ length-append ws (v ∷ []) in absurd (omega (arith, long))
same_last z v (u ∷ us) [] e = let long : length us + 1 ≡ 0 = sym (length-append us (z ∷ [])) ∙ ap length (ap rest_of e) in absurd (omega (arith, long))
same_last z v (u ∷ us) (w ∷ ws) e = same_last z v us ws (ap rest_of e)

not_behind_itself : (v : ℕ) (front left : List ℕ) → left ≡ front ++ v ∷ left → ⊥
not_behind_itself v front left e =
    let long : length left ≡ length front + suc (length left) = ap length e ∙ length-append front (v ∷ left) in
    omega (arith, long)

-- a path to the point right behind a name has assigned it
passed_last : (flow : List Stretch) (initial : ℕ → Bool) (v : ℕ) (home : Stretch) (front : List ℕ) (n : ℕ) (left past : List ℕ) → stretch_at flow n ≡ Some home →
    home.assigns ≡ front ++ v ∷ left → Path flow n left past → IsAssignedAfter initial v past
passed_last flow initial v home front _ _ _ at is (enter entry first) =
    let same : home ≡ entry = same_Some home entry (sym at ∙ entry_found flow entry first) in
    absurd (not_behind_itself v front entry.assigns (ap (λ (s : Stretch). s.assigns) (sym same) ∙ is))
passed_last flow initial v home front _ _ _ at is (jump from to past _ leads target path) =
    let same : home ≡ to = same_Some home to (sym at ∙ target) in
    absurd (not_behind_itself v front to.assigns (ap (λ (s : Stretch). s.assigns) (sym same) ∙ is))
passed_last flow initial v home front _ _ _ at is (item n z left past path) =
    let point = path_point flow n (z ∷ left) past path in
    let same : home ≡ point.home = same_Some home point.home (sym at ∙ point.at) in
    let lists : (point.front ++ z ∷ []) ++ left ≡ (front ++ v ∷ []) ++ left =
    append_assoc point.front (z ∷ []) left ∙ (sym point.is ∙ (ap (λ (s : Stretch). s.assigns) (sym same) ∙ (is ∙ sym (append_assoc front (v ∷ []) left)))) in
    inl (same_last z v point.front front (front_is (point.front ++ z ∷ []) (front ++ v ∷ []) left lists))

module _ (place before : ℕ) (stmt : Stmt) (decl : Decl) (f : Function) (valid : IsValid f) (may : MayBeInserted f place before stmt decl) where
  abbrev g : Function
  g = grown place before stmt decl f

  abbrev new_home : Block
  new_home = insert_in_block before stmt may.home

  abbrev left_there : List ℕ
  left_there = map stmt_name (drop before may.home.stmts)

  abbrev front_there : List ℕ
  front_there = map phi_name may.home.phis ++ map stmt_name (take before may.home.stmts)

  new_home_is : IsMember new_home g.blocks
  new_home_is = changed_member place (insert_in_block before stmt) f.blocks may.home may.at

  home_assigns : assigned_in new_home ≡ front_there ++ stmt.name ∷ left_there
  home_assigns =
      ap (λ l. map phi_name may.home.phis ++ l) (map-append stmt_name (take before may.home.stmts) (stmt ∷ drop before may.home.stmts))
      ∙ sym (append_assoc (map phi_name may.home.phis) (map stmt_name (take before may.home.stmts)) (stmt.name ∷ left_there))

  new_readable : IsReadable g stmt.name may.home.number left_there
  new_readable =
      let order = ordered g (grown_valid place before stmt decl f valid may).well_formed in
      let point = point_of_block g order.numbers new_home new_home_is front_there (stmt.name ∷ left_there) home_assigns in
      readable_where_assigned g (grown_valid place before stmt decl f valid may) stmt.name may.home.number left_there (λ past path.
      passed_last (flow_of g) (is_initial g) stmt.name point.home point.front may.home.number left_there past point.at point.is path)

  -- the new name is readable right behind its statement
  pub readable_behind : IsReadable (with_stmt place before stmt decl f) stmt.name may.home.number left_there
  readable_behind = subst (λ (h : Function). IsReadable h stmt.name may.home.number left_there) (sym (grown_is place before stmt decl f valid may)) new_readable

  -- ---- what comes before a name

  old_support : (y x : ℕ) → stands_in f y ≡ true → Supports (read_for g) y x → Supports (read_for f) y x
  old_support y x stands supports = ⊎_elim
      (λ old. old)
      (λ new. absurd (⊎_elim
      (λ same. stands_is_old f valid.well_formed stmt.name may.new y stands same)
      (λ more. stands_is_old f valid.well_formed stmt.name may.new stmt.name (support_comes_before f valid y stmt.name more).stands refl)
      new.0))
      (through_new (read_for f) (read_for g) stmt.name (λ z. IsMember z (names_among (operands_of_rhs stmt.rhs))) (read_new place before stmt decl f valid may) (new_apart place before stmt decl f valid may)
      y x supports)

  pub comes_still : (y x : ℕ) → is_assigned f x ≡ true → ComesBefore f y x → ComesBefore (with_stmt place before stmt decl f) y x
  comes_still y x is comes = record {
    stands = subst (λ (h : Function). stands_in h y ≡ true) (sym (grown_is place before stmt decl f valid may)) (stands_still place before stmt decl f valid may y comes.stands);
    other = comes.other;
    apart = λ supports. comes.apart (old_support y x comes.stands (subst (λ (h : Function). Supports (read_for h) y x) (grown_is place before stmt decl f valid may) supports));
    readable = λ n left. readable_still place before stmt decl f valid may y n (x ∷ left) (subst (IsReadable f y n) (sym (stays left)) (comes.readable n (filter (other stmt.name) left)));
  }
    where
      stays : (left : List ℕ) → filter (other stmt.name) (x ∷ left) ≡ x ∷ filter (other stmt.name) left
      stays left =
          let apart : eqb x stmt.name ≡ false = false_from_ne_true (eqb x stmt.name) (λ same. assigned_is_old f valid.well_formed stmt.name may.new x (among_member x (assigned f) is) (eqb-true x stmt.name same)) in
          ap (λ b. cond (not b) (x ∷ filter (other stmt.name) left) (filter (other stmt.name) left)) apart

  -- ---- the new name comes before the next

  none_read_before : (u : ℕ) → is_among u (read_for f stmt.name) ≡ true → ⊥
  none_read_before u reads =
      let found = reader f stmt.name u reads in
      assigned_is_old f valid.well_formed stmt.name may.new stmt.name (stmt_assigns f stmt.name found.0 found.1) refl

  module _ (x : ℕ) (left : List ℕ) (next : left_there ≡ x ∷ left) (is : is_assigned f x ≡ true) (operands : AllByRecursion (λ a. OperandComesBefore f a x) (operands_of_rhs stmt.rhs)) where
    operand_comes : (u : ℕ) → IsMember u (names_among (operands_of_rhs stmt.rhs)) → ComesBefore f u x
    operand_comes u one =
        let found = named u (operands_of_rhs stmt.rhs) one in
        each_member (λ a. OperandComesBefore f a x) (operands_of_rhs stmt.rhs) operands (Name u found.0) found.1

    read_by_new : (u : ℕ) → is_among u (read_for g stmt.name) ≡ true → ComesBefore f u x
    read_by_new u reads = ⊎_elim (λ old. absurd (none_read_before u old)) (λ new. operand_comes u new.1) (read_new place before stmt decl f valid may stmt.name u reads)

    new_apart_from : Supports (read_for g) stmt.name x → ⊥
    new_apart_from (operand _ _ reads_it) = (read_by_new x reads_it).other refl
    new_apart_from (further _ u _ reads_it rest) = let comes = read_by_new u reads_it in comes.apart (old_support u x comes.stands rest)

    pub new_comes_before : ComesBefore (with_stmt place before stmt decl f) stmt.name x
    new_comes_before = subst (λ (h : Function). ComesBefore h stmt.name x) (sym (grown_is place before stmt decl f valid may)) (record {
      stands = assigned_stands g stmt.name (new_assigned place before stmt decl f valid may);
      other = λ same. assigned_is_old f valid.well_formed stmt.name may.new x (among_member x (assigned f) is) (sym same);
      apart = new_apart_from;
      readable = λ n rest. readable_in_block n rest;
    })
      where
        new_home_at : slice_get g.blocks place ≡ Some new_home
        new_home_at = changed_there place (insert_in_block before stmt) f.blocks may.home may.at

        readable_in_block : (n : ℕ) (rest : List ℕ) → IsReadable g stmt.name n (x ∷ rest)
        readable_in_block n rest =
            readable_at_the_point g (grown_valid place before stmt decl f valid may) x stmt.name place new_home (front_there ++ stmt.name ∷ []) left new_home_at
            (home_assigns ∙ (ap (λ l. front_there ++ stmt.name ∷ l) next ∙ sym (append_assoc front_there (stmt.name ∷ []) (x ∷ left))))
            (subst (IsReadable g stmt.name may.home.number) next new_readable) n rest
