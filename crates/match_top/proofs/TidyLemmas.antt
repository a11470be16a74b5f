-- Tidying is determined, and keeps the rows of `names` in order.
use Rattle.std.proofs.Common.{◌≡◌, ℕ, true, List, [], ◌∷◌, ◌++◌, refl, sym, ap, ap₂, subst, ◌∙◌}
use Rattle.std.proofs.lemmas.Option.{same_Some, none-some}
use Rattle.pm_wide.specs.declared.operand.Operand.{Operand}
use Rattle.gim_ast.specs.declared.function.Block.{Block}
use Rattle.gim_ast.specs.declared.function.End.{End}
use Rattle.gim_ast.specs.declared.function.Function.{Function}
use Rattle.gim_ast.specs.WellFormed.{names_rise}
use Rattle.gim_changes.specs.Removal.{without}
use Rattle.gim_changes.specs.Substitution.{put_in_all}
use Rattle.gim_changes.specs.Trimming.{trimmed}
use Rattle.cfg_tidy.specs.declared.change.Change.{Change}
use Rattle.cfg_tidy.specs.declared.change.Change.TheVariants as change
use Rattle.cfg_tidy.specs.Branches.{branched}
use Rattle.cfg_tidy.specs.Phis.{replaced}
use Rattle.cfg_tidy.specs.Reached.{IsReached}
use Rattle.cfg_tidy.specs.Removal.{dropped}
use Rattle.cfg_tidy.specs.Tidying.{AllReached, IsFirstUnreached, Makes, branch, drop, phi, IsTidy, Becomes, same, then_on, IsTidied}
use Rattle.match_top.proofs.NameLemmas.{rise_kept_rows, rise_trimmed}

-- ---- the first block that isn't reached is one

module _ (blocks : List Block) where
  abbrev Unreached : Block → Type 0
  Unreached block = IsReached blocks block.number → ⊥

  one_block : (before others : List Block) (a b : Block) (after rest : List Block) → before ++ a ∷ after ≡ others ++ b ∷ rest → AllReached blocks before → AllReached blocks others
      → Unreached a → Unreached b → a ≡ b
  one_block [] [] a b after rest e reached reached' apart apart_too = cc
  one_block [] (t ∷ others) a b after rest e reached reached' apart apart_too =
      let here : t ≡ a = cc in absurd (apart (subst (λ (block : Block). IsReached blocks block.number) here reached'.0))
  one_block (t ∷ before) [] a b after rest e reached reached' apart apart_too =
      let here : t ≡ b = cc in absurd (apart_too (subst (λ (block : Block). IsReached blocks block.number) here reached.0))
  one_block (t ∷ before) (u ∷ others) a b after rest e reached reached' apart apart_too =
      let behind : before ++ a ∷ after ≡ others ++ b ∷ rest = cc in one_block before others a b after rest behind reached.1 reached'.1 apart apart_too

  one_unreached : (n m : ℕ) → IsFirstUnreached blocks n → IsFirstUnreached blocks m → n ≡ m
  one_unreached n m p q =
      sym p.number ∙ ap (λ (block : Block). block.number) (one_block p.before q.before p.block q.block p.after q.after (sym p.in_order ∙ q.in_order) p.reached q.reached p.unreached q.unreached)
      ∙ q.number

  reached_among : (before : List Block) (block : Block) (after : List Block) → AllReached blocks (before ++ block ∷ after) → IsReached blocks block.number
  reached_among [] block after reached = reached.0
  reached_among (t ∷ before) block after reached = reached_among before block after reached.1

  not_both : (n : ℕ) → AllReached blocks blocks → IsFirstUnreached blocks n → ⊥
  not_both n reached first = first.unreached (reached_among first.before first.block first.after (subst (AllReached blocks) first.in_order reached))

-- ---- the first change is one

abbrev branched_by : Function → ℕ × End × ℕ → Function
branched_by f way = branched way.0 way.1 way.2 f

abbrev replaced_by : Function → ℕ × Operand → Function
replaced_by f copy = replaced copy.0 copy.1 f

one_change : (f g h : Function) (a b : Change) → Makes f a g → Makes f b h → (a ≡ b) × (g ≡ h)
one_change f _ _ _ _ (branch n to end is) (branch m to' end' is') =
    let way = same_Some (n, end, to) (m, end', to') (sym is ∙ is') in
    (ap (λ (w : ℕ × End × ℕ). change.Branch w.0) way, ap (branched_by f) way)
one_change f _ _ _ _ (branch n to end is) (drop m none first) = absurd (none-some (n, end, to) (sym none ∙ is))
one_change f _ _ _ _ (branch n to end is) (phi x by none reached copy) = absurd (none-some (n, end, to) (sym none ∙ is))
one_change f _ _ _ _ (drop m none first) (branch n to end is) = absurd (none-some (n, end, to) (sym none ∙ is))
one_change f _ _ _ _ (drop n none first) (drop m none' first') =
    let number = one_unreached f.blocks n m first first' in (ap change.Dropped number, ap (λ k. dropped k f) number)
one_change f _ _ _ _ (drop n none first) (phi x by none' reached copy) = absurd (not_both f.blocks n reached first)
one_change f _ _ _ _ (phi x by none reached copy) (branch n to end is) = absurd (none-some (n, end, to) (sym none ∙ is))
one_change f _ _ _ _ (phi x by none reached copy) (drop n none' first) = absurd (not_both f.blocks n reached first)
one_change f _ _ _ _ (phi x by none reached copy) (phi y by' none' reached' copy') =
    let found = same_Some (x, by) (y, by') (sym copy ∙ copy') in
    (ap (λ (c : ℕ × Operand). change.Phi c.0) found, ap (replaced_by f) found)

none_left : (f g : Function) (a : Change) → IsTidy f → Makes f a g → ⊥
none_left f _ _ tidy (branch n to end is) = none-some (n, end, to) (sym tidy.branches ∙ is)
none_left f _ _ tidy (drop n none first) = not_both f.blocks n tidy.reached first
none_left f _ _ tidy (phi x by none reached copy) = none-some (x, by) (sym tidy.phis ∙ copy)

-- ---- and so are all of them

becomes_once : (f : Function) (changes others : List Change) (g h : Function) → Becomes f changes g → IsTidy g → Becomes f others h → IsTidy h → (changes ≡ others) × (g ≡ h)
becomes_once _ _ _ _ _ (same f) tidy (same _) tidy' = (refl, refl)
becomes_once _ _ _ _ _ (same f) tidy (then_on _ g h first others makes more) tidy' = absurd (none_left f g first tidy makes)
becomes_once _ _ _ _ _ (then_on f g h first changes makes more) tidy (same _) tidy' = absurd (none_left f g first tidy' makes)
becomes_once _ _ _ _ _ (then_on f g i first changes makes more) tidy (then_on _ h k second others makes' more') tidy' =
    let one = one_change f g h first second makes makes' in
    let rest = becomes_once g changes others i k more tidy (subst (λ (m : Function). Becomes m others k) (sym one.1) more') tidy' in
    (ap₂ (λ (c : Change) (l : List Change). c ∷ l) one.0 rest.0, rest.1)

pub tidied_once : (f g h : Function) (changes others : List Change) → IsTidied f changes g → IsTidied f others h → (changes ≡ others) × (g ≡ h)
tidied_once f g h changes others p q =
    let one = becomes_once f changes others p.last q.last p.becomes p.tidy q.becomes q.tidy in
    (one.0, p.trimmed ∙ ap trimmed one.1 ∙ sym q.trimmed)

-- ---- names

rows_made : (f g : Function) (a : Change) → Makes f a g → g.names ≡ f.names
unfolding branched dropped without put_in_all
rows_made f _ _ (branch n to end is) = refl
rows_made f _ _ (drop n none first) = refl
rows_made f _ _ (phi x by none reached copy) = refl

rows_kept : (f g : Function) (changes : List Change) → Becomes f changes g → g.names ≡ f.names
rows_kept _ _ _ (same f) = refl
rows_kept _ _ _ (then_on f g h first changes makes more) = rows_kept g h changes more ∙ rows_made f g first makes

pub tidied_rises : (f g : Function) (changes : List Change) → IsTidied f changes g → names_rise f ≡ true → names_rise g ≡ true
tidied_rises f g changes tidied rises =
    ap names_rise tidied.trimmed ∙ rise_trimmed tidied.last (rise_kept_rows tidied.last f (rows_kept f tidied.last changes tidied.becomes) rises)
