-- The table of declared types, filled from the last declaration to the first.
use Rattle.std.proofs.Common.{◌≡◌, ℕ, ◌-◌, ◌<◌, ◌≤◌, cond, List, length, get_or, drop, Option, Some, ap, ◌∙◌}
use Rattle.std.specs.Str.{bytes_eq}
use Rattle.std.specs.Cmp.Lexicographic.{nat_list_eq_equiv}
use Rattle.pm_wide.specs.Types.{Ty}
use Rattle.gim_text.proofs.FrontsAndRests.{item_before}
use Rattle.gim_text.specs.declared.tree.DeclText.{DeclText}
use Rattle.pm_places.specs.Spans.{text_of}
use Rattle.gim_typing.specs.Declarations.{declared_type}

-- one declaration more, before the others
pub declared_step : (source q ident : List ℕ) (decls : List DeclText) (at : ℕ) (decl : DeclText) (old new : Option Ty)
    → 0 < at → at ≤ length decls → decl ≡ get_or decls (at - 1) decl
    → ident ≡ text_of source decl.ident → new ≡ cond (bytes_eq ident q) (Some decl.ty) old
    → old ≡ declared_type source q (drop at decls) → new ≡ declared_type source q (drop (at - 1) decls)
declared_step source q ident decls at decl old new some within is text adds so_far =
    rw (item_before decls at decl some within is, ← text)
    (adds ∙ ap (λ b. cond b (Some decl.ty) old) (nat_list_eq_equiv.symm ident q)
    ∙ ap (λ o. cond (bytes_eq q ident) (Some decl.ty) o) so_far)
