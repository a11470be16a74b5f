use Rattle.std.proofs.Common.{◌≡◌, ◌++◌, ◌∷◌, [], length, sym, subst}
use Rattle.ring_forms.specs.Digests.{AreFound, HasStart, IsFrom, digest, start_in}
use Rattle.ring_forms.proofs.DigestLemmas.{one_more}
use Rattle.ring_forms.proofs.table.AtomTable.numbered.Goals as goal

-- src/table.rt:58:13
pub invariant_of-self-in-Continue-branch-2 : goal.invariant_of-self-in-Continue-branch-2
invariant_of-self-in-Continue-branch-2 c a =
    let grown : c.push.new.self ≡ c.self.inside.atoms ++ c.args.atom ∷ [] = c.in_ok-push.ensures.ok in
    let found : AreFound c.self.inside.atoms c.begin.new.starts = c.begin.ensures.found c.self.inside.atoms (sym c.len-count.ensures) c.self.invariant in
    let begun : HasStart c.begin.new.starts (digest c.args.atom) = subst (λ d. HasStart c.begin.new.starts d) c.digest-key.ensures c.in_ok-begin.ensures.begun in
    subst (λ atoms. IsFrom atoms (start_in c.begin.new.starts (length atoms) (digest a)) a) (sym grown)
    (one_more c.self.inside.atoms c.begin.new.starts found c.args.atom begun.0 begun.1 a)
