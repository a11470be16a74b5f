use Rattle.std.proofs.Common.{◌≡◌, false, map, take}
use Rattle.pd_substitution.specs.Substituted.{decl_with}
use Rattle.pd_substitution.proofs.c_text.decls_anew.Given as goal

abbrev pub invariant-loop-decl : goal.invariant-loop-decl
invariant-loop-decl l =
    (l.made ≡ map (decl_with l.by) (take l.decl-index l.decls))
    × (l.changed ≡ false → l.made ≡ take l.decl-index l.decls)
