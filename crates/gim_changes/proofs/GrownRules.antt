-- A well-formed function with a new statement that may be inserted is well formed.
use Rattle.std.proofs.Common.{◌≡◌, ◌⊎◌, ℕ, zero, suc, ◌<◌, ◌^◌, Bool, true, false, cond, not, ◌&&◌, ◌||◌, Some, None, Option, List, [], ◌∷◌, ◌++◌, map, flat_map, drop, insert, eqb, refl, sym, ap, ◌∙◌, subst, inl, inr, ⊎_elim, arith, append_assoc, append-nil}
use Rattle.std.specs.Prelude.{nat_lt}
use Rattle.std.specs.List.{list_all, list_any}
use Rattle.std.specs.Option.{option_map_or}
use Rattle.std.proofs.lemmas.Bool.{and_parts, and_from, or_cases, or_left, or_right, not-true, both_ways, eqb-true, eq-eqb, false_from_ne_true, lt-ltb}
use Rattle.std.proofs.lemmas.Grind.{flat_map-append}
use Rattle.std.proofs.lemmas.List.{map-append}
use Rattle.std.proofs.lemmas.List.Folds.{list_any-append}
use Rattle.pm_wide.specs.Types.{Ty, same_type}
use Rattle.pm_wide.specs.declared.operand.Operand.{Operand}
use Rattle.pm_wide.specs.declared.operand.Operand.TheVariants.{Name, Const}
use Rattle.gim_ast.specs.declared.function.Function.{Function}
use Rattle.gim_ast.specs.declared.function.Block.{Block}
use Rattle.gim_ast.specs.declared.function.Phi.{Phi}
use Rattle.gim_ast.specs.declared.function.Stmt.{Stmt}
use Rattle.gim_ast.specs.declared.function.Decl.{Decl}
use Rattle.gim_ast.specs.declared.function.NameRow.{NameRow}
use Rattle.gim_ast.specs.Identifiers.{is_identifier, is_anonymous, anonymous}
use Rattle.gim_ast.specs.Functions.{first_where, is_name, operands_of_block, operands_of_phi, operands_of_stmt, operands_of_end, operands_of_rhs, assigned, stmt_name, row_of, is_used}
use Rattle.gim_ast.specs.WellFormed.{same_text, all_distinct, rises, ident_of, declares_as, declarations_hold, is_type_of, types_hold, base_holds, is_assigned, row_stands, initial_bases, operand_holds, rhs_fits, phi_fits, stmt_fits, operands_hold, bounds_hold, type_of, IsWellFormed}
use Rattle.gim_ast.specs.Readable.{IsValid}
use Rattle.gim_changes.specs.Insertion.{changed_at, insert_in_block, row_for, with_stmt, MayBeInserted}
use Rattle.gim_changes.specs.Trimming.{stands_in}
use Rattle.gim_changes.specs.Validity.{IsReadableOperand}
use Rattle.gim_changes.proofs.Members.{IsMember, all_members, all_from_members, any_from_member, member_from_any, each_member, member_right, member_cases, member_mapped, mapped_member, member_filtered, filtered_member, member_of_parts, part_member, slice_member, member_middle}
use Rattle.gim_changes.proofs.AnonymousNames.{same_text_is, same_text_itself, anonymous_is_anonymous, anonymous_is_identifier, anonymous_names_differ, distinct_with}
use Rattle.gim_changes.proofs.NamesUsed.{operand_of_phis, operand_of_stmts, operand_of_end, operand_of_block, used_stands}
use Rattle.gim_changes.proofs.Unused.{other}
use Rattle.gim_changes.proofs.RulesOfNames.{ordered, rows_hold, among_member, member_among}
use Rattle.gim_changes.proofs.ReadyToTrim.{MayStay, IsReadyToTrim, has_row}
use Rattle.gim_changes.proofs.ChangedBlocks.{IsLikeBlock, AreLikeBlocks, blocks_kept, row_may_stay, BlockHolds, block_holds, operands_from, used_in_block}
use Rattle.gim_changes.proofs.GoodOperands.{IsGood, good_readable, named_is_used}
use Rattle.gim_changes.proofs.Unused.{assigned_without}
use Rattle.gim_changes.proofs.InsertedStatement.{grown, member_changed, inserted_member, row_below, row_is_old, assigned_without_new, assigned_splits, once_grown}

-- ---- lists with one more

first_more : {X : Type 0} (p : X → Bool) (xs ys : List X) (x : X) → first_where p xs ≡ Some x → first_where p (xs ++ ys) ≡ Some x
first_more p [] ys x h = absurd (none_some h)
  where
    none_some : None ≡ Some x → ⊥
    none_some e = cc
first_more {X} p (z ∷ xs) ys x h = by (p z) (first_more p xs ys x) h
  where
    by : (b : Bool) → (first_where p xs ≡ Some x → first_where p (xs ++ ys) ≡ Some x) → cond b (Some z) (first_where p xs) ≡ Some x → cond b (Some z) (first_where p (xs ++ ys)) ≡ Some x
    by true rest e = e
    by false rest e = rest e

first_is_last : {X : Type 0} (p : X → Bool) (xs : List X) (x : X) → ((y : X) → IsMember y xs → p y ≡ true → ⊥) → p x ≡ true → first_where p (xs ++ x ∷ []) ≡ Some x
first_is_last p [] x none passes = rw passes refl
first_is_last p (y ∷ xs) x none passes =
    let fails : p y ≡ false = false_from_ne_true (p y) (none y (inl refl)) in
    rw fails (first_is_last p xs x (λ z one. none z (inr one)) passes)

any_more : {X : Type 0} (p : X → Bool) (xs ys : List X) → list_any p xs ≡ true → list_any p (xs ++ ys) ≡ true
any_more p xs ys any = list_any-append p xs ys ∙ or_left (list_any p xs) (list_any p ys) any

rises_with : (xs : List ℕ) (v : ℕ) → rises xs ≡ true → ((x : ℕ) → IsMember x xs → x < v) → rises (xs ++ v ∷ []) ≡ true
rises_with [] v h less = refl
rises_with (x ∷ xs) v h less =
    let parts = and_parts (list_all (nat_lt x) xs) (rises xs) h in
    and_from (list_all (nat_lt x) (xs ++ v ∷ [])) (rises (xs ++ v ∷ []))
    (all_from_members (nat_lt x) (xs ++ v ∷ []) (λ y one. ⊎_elim
    (λ old. all_members (nat_lt x) xs parts.0 y old)
    (λ last. ⊎_elim (λ here. subst (λ z. nat_lt x z ≡ true) here (lt-ltb x v (less x (inl refl)))) (λ none. absurd none) last)
    (member_cases y xs (v ∷ []) one)))
    (rises_with xs v parts.1 (λ y one. less y (inr one)))

pub same_type_itself : (t : Ty) → same_type t t ≡ true
same_type_itself t = and_from (eqb t.width t.width) _ (eq-eqb t.width t.width refl) (by t.unsigned)
  where
    by : (u : Bool) → cond u u (not u) ≡ true
    by true = refl
    by false = refl

like_itself : (b : Block) → IsLikeBlock b b
like_itself b = record { joint_is = refl; phis = λ phi one. (phi, one, refl) }

all_like : (bs : List Block) → AreLikeBlocks bs bs
all_like [] = tt
all_like (b ∷ bs) = (like_itself b, all_like bs)

like_grown : (place before : ℕ) (stmt : Stmt) (bs : List Block) → AreLikeBlocks bs (changed_at place (insert_in_block before stmt) bs)
like_grown place before stmt [] = tt
like_grown zero before stmt (b ∷ bs) = (record { joint_is = refl; phis = λ phi one. (phi, one, refl) }, all_like bs)
like_grown (suc place) before stmt (b ∷ bs) = (like_itself b, like_grown place before stmt bs)

module _ (place before : ℕ) (stmt : Stmt) (decl : Decl) (f : Function) (valid : IsValid f) (may : MayBeInserted f place before stmt decl) where
  abbrev g : Function
  g = grown place before stmt decl f

  well : IsWellFormed f
  well = valid.well_formed

  -- ---- names

  pub assigned_before : (y : ℕ) → (y ≡ stmt.name → ⊥) → is_assigned g y ≡ true → is_assigned f y ≡ true
  assigned_before y apart is =
      member_among y (assigned f) (subst (IsMember y) (sym (assigned_without stmt.name g) ∙ assigned_without_new place before stmt decl f well may.new)
      (filtered_member (other stmt.name) y (assigned g) (among_member y (assigned g) is) (ap not (false_from_ne_true (eqb y stmt.name) (λ same. apart (eqb-true y stmt.name same))))))

  pub assigned_still : (y : ℕ) → is_assigned f y ≡ true → is_assigned g y ≡ true
  assigned_still y is =
      member_among y (assigned g) (member_filtered (other stmt.name) y (assigned g)
      (subst (IsMember y) (sym (assigned_without_new place before stmt decl f well may.new) ∙ assigned_without stmt.name g) (among_member y (assigned f) is))).0

  pub new_good : (a : Operand) → IsMember a (operands_of_rhs stmt.rhs) → IsGood f may.home.number (map stmt_name (drop before may.home.stmts)) a
  new_good a one =
      good_readable f may.home.number (map stmt_name (drop before may.home.stmts)) a (all_members (operand_holds f) (operands_of_rhs stmt.rhs) may.holds a one)
      (each_member (IsReadableOperand f may.home.number (map stmt_name (drop before may.home.stmts))) (operands_of_rhs stmt.rhs) may.readable a one)

  -- the operands are the old ones, and those of the new statement
  new_block_operand : (b : Block) (a : Operand) → IsMember a (operands_of_block (insert_in_block before stmt b)) → IsMember a (operands_of_block b) ⊎ IsMember a (operands_of_rhs stmt.rhs)
  new_block_operand b a one = ⊎_elim
      (λ front. ⊎_elim
      (λ in_phis. inl (operand_of_phis b a in_phis))
      (λ in_stmts.
      let found = member_of_parts operands_of_stmt a (insert b.stmts before stmt) in_stmts in
      ⊎_elim
      (λ old. inl (operand_of_stmts b a (part_member operands_of_stmt a found.0 b.stmts old found.2)))
      (λ (new : stmt ≡ found.0). inr (subst (λ (s : Stmt). IsMember a (operands_of_stmt s)) (sym new) found.2))
      (inserted_member b.stmts before stmt found.0 found.1))
      (member_cases a (flat_map operands_of_phi b.phis) (flat_map operands_of_stmt (insert b.stmts before stmt)) front))
      (λ at_end. inl (operand_of_end b a at_end))
      (member_cases a (flat_map operands_of_phi b.phis ++ flat_map operands_of_stmt (insert b.stmts before stmt)) (operands_of_end b.end) one)

  operand_cases : (c : Block) → IsMember c g.blocks → (a : Operand) → IsMember a (operands_of_block c) → ((b : Block) × IsMember b f.blocks × IsMember a (operands_of_block b)) ⊎ IsMember a (operands_of_rhs stmt.rhs)
  operand_cases c one a mine = ⊎_elim
      (λ old. inl (c, old, mine))
      (λ (new : insert_in_block before stmt may.home ≡ c). ⊎_elim
      (λ its. inl (may.home, slice_member f.blocks place may.home may.at, its))
      (λ its. inr its)
      (new_block_operand may.home a (subst (λ (b : Block). IsMember a (operands_of_block b)) (sym new) mine)))
      (member_changed place (insert_in_block before stmt) f.blocks may.home may.at c one)

  pub used_cases : (y : ℕ) → is_used g y ≡ true → (is_used f y ≡ true) ⊎ ((a : Operand) × IsMember a (operands_of_rhs stmt.rhs) × (is_name y a ≡ true))
  used_cases y used =
      let found = used_in_block g y used in
      ⊎_elim
      (λ old. inl (named_is_used f y found.2.0 (operand_of_block f old.0 found.2.0 old.1 old.2) found.2.2))
      (λ new. inr (found.2.0, new, found.2.2))
      (operand_cases found.0 found.1 found.2.0 found.2.1)

  pub stood : (y : ℕ) → is_used g y ≡ true → stands_in f y ≡ true
  stood y used = ⊎_elim (λ old. used_stands f y old) (λ new. (new_good new.0 new.1).stands y new.2) (used_cases y used)

  -- ---- rows

  pub row_more : (p : NameRow → Bool) (y : ℕ) → option_map_or p (row_of f y) false ≡ true → option_map_or p (row_of g y) false ≡ true
  unfolding row_of
  row_more p y holds = by (first_where (λ (row : NameRow). eqb row.version y) f.names) refl holds
    where
      by : (o : Option NameRow) → first_where (λ (row : NameRow). eqb row.version y) f.names ≡ o → option_map_or p o false ≡ true →
          option_map_or p (first_where (λ (row : NameRow). eqb row.version y) (f.names ++ row_for stmt decl ∷ [])) false ≡ true
      by None found h = absurd (both_ways false refl h)
      by (Some row) found h = rw (first_more (λ (r : NameRow). eqb r.version y) f.names (row_for stmt decl ∷ []) row found) h

  row_new : row_of g stmt.name ≡ Some (row_for stmt decl)
  unfolding row_of
  row_new = first_is_last (λ (row : NameRow). eqb row.version stmt.name) f.names (row_for stmt decl)
      (λ row one same. row_is_old f well stmt.name may.new row one (eqb-true row.version stmt.name same)) (eq-eqb stmt.name stmt.name refl)

  operand_more : (a : Operand) → operand_holds f a ≡ true → operand_holds g a ≡ true
  operand_more (Name y t) holds = row_more (λ (row : NameRow). same_type row.ty t) y holds
  operand_more (Const w) holds = holds

  phi_more : (phi : Phi) → phi_fits f phi ≡ true → phi_fits g phi ≡ true
  phi_more phi fits = row_more (λ (row : NameRow). list_all (λ (arg : ℕ × Operand). same_type (type_of arg.1) row.ty) phi.args) phi.name fits

  stmt_more : (s : Stmt) → stmt_fits f s ≡ true → stmt_fits g s ≡ true
  stmt_more s fits = row_more (λ (row : NameRow). rhs_fits row.ty s.rhs) s.name fits

  new_fits : stmt_fits g stmt ≡ true
  new_fits = subst (λ o. option_map_or (λ (row : NameRow). rhs_fits row.ty stmt.rhs) o false ≡ true) (sym row_new) may.fits

  holds_more : (b : Block) → BlockHolds f b → BlockHolds g b
  holds_more b holds =
      let both = and_parts (list_all (phi_fits f) b.phis) (list_all (stmt_fits f) b.stmts) (and_parts _ _ holds.fits).0 in
      record {
        each = λ a one. operand_more a (holds.each a one);
        fits = and_from _ _ (and_from _ _
            (all_from_members (phi_fits g) b.phis (λ phi one. phi_more phi (all_members (phi_fits f) b.phis both.0 phi one)))
            (all_from_members (stmt_fits g) b.stmts (λ s one. stmt_more s (all_members (stmt_fits f) b.stmts both.1 s one))))
            (and_parts _ _ holds.fits).1;
      }

  holds_new : BlockHolds f may.home → BlockHolds g (insert_in_block before stmt may.home)
  holds_new holds =
      let both = and_parts (list_all (phi_fits f) may.home.phis) (list_all (stmt_fits f) may.home.stmts) (and_parts _ _ holds.fits).0 in
      record {
        each = λ a one. operand_more a (⊎_elim (λ old. holds.each a old) (λ new. all_members (operand_holds f) (operands_of_rhs stmt.rhs) may.holds a new) (new_block_operand may.home a one));
        fits = and_from _ _ (and_from _ _
            (all_from_members (phi_fits g) may.home.phis (λ phi one. phi_more phi (all_members (phi_fits f) may.home.phis both.0 phi one)))
            (all_from_members (stmt_fits g) (insert may.home.stmts before stmt) (λ s one. ⊎_elim
            (λ old. stmt_more s (all_members (stmt_fits f) may.home.stmts both.1 s old))
            (λ (new : stmt ≡ s). subst (λ (t : Stmt). stmt_fits g t ≡ true) new new_fits)
            (inserted_member may.home.stmts before stmt s one))))
            (and_parts _ _ holds.fits).1;
      }

  grown_operands : operands_hold g ≡ true
  grown_operands = operands_from g (λ c one. ⊎_elim
      (λ old. holds_more c (block_holds f well.operands c old))
      (λ (new : insert_in_block before stmt may.home ≡ c). subst (BlockHolds g) new (holds_new (block_holds f well.operands may.home (slice_member f.blocks place may.home may.at))))
      (member_changed place (insert_in_block before stmt) f.blocks may.home may.at c one))

  -- ---- declarations

  small : stmt.name < 2 ^ 64
  small = let less = may.small in omega (arith, less)

  idents_more : map ident_of (f.params ++ (f.decls ++ decl ∷ [])) ≡ map ident_of (f.params ++ f.decls) ++ decl.ident ∷ []
  idents_more = ap (map ident_of) (sym (append_assoc f.params f.decls (decl ∷ []))) ∙ map-append ident_of (f.params ++ f.decls) (decl ∷ [])

  ident_is_new : (text : List ℕ) → IsMember text (map ident_of (f.params ++ f.decls)) → same_text text decl.ident ≡ false
  ident_is_new text one = false_from_ne_true (same_text text decl.ident) (λ same.
      let found = member_mapped ident_of text (f.params ++ f.decls) one in
      let is : found.0.ident ≡ anonymous stmt.name = found.2 ∙ (same_text_is text decl.ident same ∙ may.declared) in
      let named : is_anonymous found.0.ident ≡ true = subst (λ t. is_anonymous t ≡ true) (sym is) (anonymous_is_anonymous stmt.name small) in
      ⊎_elim
      (λ param. both_ways (list_any is_anonymous (map ident_of f.params)) (not-true _ (and_parts _ _ well.declarations).1)
      (any_from_member is_anonymous (map ident_of f.params) found.0.ident (mapped_member ident_of found.0 f.params param) named))
      (λ local. ⊎_elim
      (λ plain. both_ways (is_anonymous found.0.ident) (not-true _ plain) named)
      (λ any.
      let row = member_from_any (λ (r : NameRow). same_text r.base [] && same_text (anonymous r.version) found.0.ident) f.names any in
      let less = row_below f well stmt.name may.new row.0 row.1 in
      let all_small = small in
      row_is_old f well stmt.name may.new row.0 row.1 (anonymous_names_differ row.0.version stmt.name (omega (arith, less, all_small)) all_small
      (same_text_is (anonymous row.0.version) found.0.ident (and_parts _ _ row.2).1 ∙ is)))
      (or_cases (not (is_anonymous found.0.ident)) _ (all_members (has_row f.names) f.decls (and_parts _ _ (and_parts _ _ well.names).0).1 found.0 local)))
      (member_cases found.0 f.params f.decls found.1))

  grown_declarations : declarations_hold g ≡ true
  grown_declarations =
      let parts = and_parts _ _ well.declarations in
      let more = and_parts _ _ parts.0 in
      let most = and_parts _ _ more.0 in
      and_from _ _ (and_from _ _ (and_from _ _ most.0
      (subst (λ l. list_all is_identifier l ≡ true) (sym idents_more) (all_from_members is_identifier (map ident_of (f.params ++ f.decls) ++ decl.ident ∷ []) (λ text one. ⊎_elim
      (λ old. all_members is_identifier (map ident_of (f.params ++ f.decls)) most.1 text old)
      (λ last. ⊎_elim (λ here. subst (λ t. is_identifier t ≡ true) (sym may.declared ∙ here) (anonymous_is_identifier stmt.name small)) (λ none. absurd none) last)
      (member_cases text (map ident_of (f.params ++ f.decls)) (decl.ident ∷ []) one)))))
      (subst (λ l. all_distinct same_text l ≡ true) (sym idents_more) (distinct_with (map ident_of (f.params ++ f.decls)) decl.ident more.1 ident_is_new)))
      parts.1

  grown_types : types_hold g ≡ true
  grown_types =
      let parts = and_parts _ _ well.types in
      and_from _ _ parts.0 (all_from_members (λ (d : Decl). is_type_of d.ty) (f.params ++ (f.decls ++ decl ∷ [])) (λ d one. ⊎_elim
      (λ old. all_members (λ (e : Decl). is_type_of e.ty) (f.params ++ f.decls) parts.1 d old)
      (λ last. ⊎_elim (λ here. subst (λ (e : Decl). is_type_of e.ty ≡ true) here may.type) (λ none. absurd none) last)
      (member_cases d (f.params ++ f.decls) (decl ∷ []) (subst (IsMember d) (sym (append_assoc f.params f.decls (decl ∷ []))) one))))

  -- ---- rows of the names

  base_more : (row : NameRow) → base_holds f row ≡ true → base_holds g row ≡ true
  base_more row holds = by (same_text row.base []) holds
    where
      local : (text : List ℕ) → declares_as text row.ty f.decls ≡ true → declares_as text row.ty (f.decls ++ decl ∷ []) ≡ true
      local text = any_more (λ (d : Decl). same_text d.ident text && same_type d.ty row.ty) f.decls (decl ∷ [])

      by : (b : Bool) → cond b (not row.initial && declares_as (anonymous row.version) row.ty f.decls) (declares_as row.base row.ty f.params || (not row.initial && declares_as row.base row.ty f.decls)) ≡ true →
          cond b (not row.initial && declares_as (anonymous row.version) row.ty (f.decls ++ decl ∷ [])) (declares_as row.base row.ty f.params || (not row.initial && declares_as row.base row.ty (f.decls ++ decl ∷ []))) ≡ true
      by true h = let parts = and_parts _ _ h in and_from _ _ parts.0 (local (anonymous row.version) parts.1)
      by false h = ⊎_elim (λ param. or_left _ _ param) (λ mine. let parts = and_parts _ _ mine in or_right _ _ (and_from _ _ parts.0 (local row.base parts.1))) (or_cases _ _ h)

  new_base : base_holds g (row_for stmt decl) ≡ true
  new_base = any_from_member (λ (d : Decl). same_text d.ident (anonymous stmt.name) && same_type d.ty decl.ty) (f.decls ++ decl ∷ []) decl (member_right decl f.decls (decl ∷ []) (inl refl))
      (and_from _ _ (subst (λ t. same_text decl.ident t ≡ true) may.declared (same_text_itself decl.ident)) (same_type_itself decl.ty))

  pub new_assigned : is_assigned g stmt.name ≡ true
  unfolding assigned
  new_assigned =
      let found = assigned_splits before stmt place f.blocks may.home may.at in
      member_among stmt.name (assigned g) (subst (IsMember stmt.name) (sym found.3) (member_middle stmt.name found.0 found.1))

  old_or_new : (P : NameRow → Type 0) → ((row : NameRow) → IsMember row f.names → P row) → P (row_for stmt decl) → (row : NameRow) → IsMember row (f.names ++ row_for stmt decl ∷ []) → P row
  old_or_new P old new row one = ⊎_elim (λ front. old row front) (λ last. ⊎_elim (λ here. subst P here new) (λ none. absurd none) last) (member_cases row f.names (row_for stmt decl ∷ []) one)

  grown_locals : list_all (has_row (f.names ++ row_for stmt decl ∷ [])) (f.decls ++ decl ∷ []) ≡ true
  grown_locals = all_from_members (has_row (f.names ++ row_for stmt decl ∷ [])) (f.decls ++ decl ∷ []) (λ d one. ⊎_elim
      (λ old. ⊎_elim
      (λ plain. or_left (not (is_anonymous d.ident)) _ plain)
      (λ any. or_right (not (is_anonymous d.ident)) _ (any_more (λ (row : NameRow). same_text row.base [] && same_text (anonymous row.version) d.ident) f.names (row_for stmt decl ∷ []) any))
      (or_cases (not (is_anonymous d.ident)) _ (all_members (has_row f.names) f.decls (and_parts _ _ (and_parts _ _ well.names).0).1 d old)))
      (λ last. ⊎_elim
      (λ (here : decl ≡ d). subst (λ (e : Decl). has_row (f.names ++ row_for stmt decl ∷ []) e ≡ true) here (or_right (not (is_anonymous decl.ident)) _
      (any_from_member (λ (row : NameRow). same_text row.base [] && same_text (anonymous row.version) decl.ident) (f.names ++ row_for stmt decl ∷ []) (row_for stmt decl)
      (member_right (row_for stmt decl) f.names (row_for stmt decl ∷ []) (inl refl)) (subst (λ t. same_text t decl.ident ≡ true) may.declared (same_text_itself decl.ident)))))
      (λ none. absurd none) last)
      (member_cases d f.decls (decl ∷ []) one))

  grown_bounds : bounds_hold g ≡ true
  unfolding with_stmt
  grown_bounds = may.bounds

  pub ready_grown : IsReadyToTrim g
  ready_grown = record {
    declarations = grown_declarations;
    types = grown_types;
    rise = subst (λ l. rises l ≡ true) (sym (map-append (λ (row : NameRow). row.version) f.names (row_for stmt decl ∷ [])))
        (rises_with (map (λ (row : NameRow). row.version) f.names) stmt.name (and_parts _ _ (and_parts _ _ (and_parts _ _ (and_parts _ _ well.names).0).0).0).0
        (λ y one. let found = member_mapped (λ (row : NameRow). row.version) y f.names one in subst (λ z. z < stmt.name) found.2 (row_below f well stmt.name may.new found.0 found.1)));
    bases = old_or_new (λ row. base_holds g row ≡ true)
        (λ row one. base_more row ((and_parts _ _ (all_members (λ (r : NameRow). base_holds f r && row_stands f r) f.names (rows_hold f well.names) row one)).0)) new_base;
    rows = old_or_new (MayStay g)
        (λ row one. row_may_stay f g well row one (assigned_before row.version (row_is_old f well stmt.name may.new row one)) (λ used is. assigned_still row.version is) (stood row.version))
        (record { initial = λ is. absurd (both_ways false refl is); other = λ is used. new_assigned });
    initials = subst (λ l. all_distinct same_text l ≡ true) (sym (flat_map-append (λ (row : NameRow). cond row.initial (row.base ∷ []) []) f.names (row_for stmt decl ∷ []) ∙ append-nil (initial_bases f.names)))
        ((and_parts _ _ (and_parts _ _ (and_parts _ _ well.names).0).0).1);
    locals = grown_locals;
    once = once_grown place before stmt decl f well may.new may.home may.at (ordered f well).once;
    blocks = blocks_kept f g (like_grown place before stmt f.blocks) well.blocks;
    operands = grown_operands;
    bounds = grown_bounds;
  }
