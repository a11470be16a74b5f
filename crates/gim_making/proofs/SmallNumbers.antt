-- Versions and block numbers of a tree that keeps the limits are those of their digits.
use Rattle.std.proofs.Common.{◌≡◌, ℕ, Bool, true, Option, Some, None, option_map, List, refl, ap, subst, ◌∙◌}
use Rattle.std.specs.Prelude.{IsSome}
use Rattle.std.proofs.lemmas.Bool.{false≢true}
use Rattle.lexing.specs.Numbers.{is_number_text, number_below}
use Rattle.pm_places.specs.declared.span.Span.{Span}
use Rattle.gim_text.specs.declared.limits.TheConstants.{NUMBER_LIMIT}
use Rattle.gim_text.specs.declared.tree.BlockText.{BlockText}
use Rattle.gim_text.specs.declared.tree.FunctionText.{FunctionText}
use Rattle.gim_text.specs.declared.occurrence.Occurrence.{Occurrence}
use Rattle.gim_text.specs.declared.occurrence.Occurrence.TheVariants.{Parameter, Local, Block, Jump, Assigned, Used, Default, Constant}
use Rattle.gim_text.specs.Occurrences.{name_at, occurrences_of}
use Rattle.pm_places.specs.Spans.{text_of}
use Rattle.gim_shape.specs.Blocks.{named_at}
use Rattle.gim_limits.specs.KeepsLimits.{NumberFits, KeepsLimits}
use Rattle.gim_limits.specs.Limits.{version_of, version_at, digits_at}
use Rattle.gim_making.specs.declared.places.NamePlace.{NamePlace}
use Rattle.gim_making.specs.Names.{is_default, name_place}
use Rattle.gim_making.specs.Written.{is_written, IsWritten}
use Rattle.gim_text.proofs.Membership.{Has, each_has, from_said, all_has}
use Rattle.gim_making.proofs.Occurring.{number_occurs}
use Rattle.gim_making.proofs.NameParts.{some_is, parts_are, IsSmall, small_number}
use Rattle.gim_making.proofs.NamePlaces.{AreSmall}

-- ---- the digits of a name

placed : (initial : Bool) (found : Option Span) (place : NamePlace)
    → option_map (λ (at : Span). record { at = at; initial = initial }) found ≡ Some place → found ≡ Some place.at
placed initial None place e = absurd cc
placed initial (Some at) place e = ap Some (ap (λ (p : NamePlace). p.at) (some_is (record { at = at; initial = initial }) place e))

pub named_version : (source : List ℕ) (o : Occurrence) (place : NamePlace) → name_place source o ≡ Some place
    → version_at source o ≡ version_of source (Some place.at)
named_version source o place e = ap (version_of source) (placed (is_default o) (name_at source o) place e)

named_digits : (source : List ℕ) (o : Occurrence) (place : NamePlace) → name_place source o ≡ Some place
    → digits_at source o ≡ version_of source (Some place.at)
named_digits source (Block at) place e = absurd cc
named_digits source (Jump at) place e = absurd cc
named_digits source (Parameter at) place e = named_version source (Parameter at) place e
named_digits source (Local at) place e = named_version source (Local at) place e
named_digits source (Assigned at) place e = named_version source (Assigned at) place e
named_digits source (Used at) place e = named_version source (Used at) place e
named_digits source (Default at) place e = named_version source (Default at) place e
named_digits source (Constant literal) place e = named_version source (Constant literal) place e

-- ---- small numbers

small_some : (digits : List ℕ) (o : Option ℕ) → number_below NUMBER_LIMIT digits ≡ o → IsSome o → IsSmall digits
small_some digits None is h = absurd (false≢true h)
small_some digits (Some n) is h = small_number digits n is

small_fits : (digits : List ℕ) → NumberFits (Some digits) → is_number_text digits ≡ true → IsSmall digits
small_fits digits fits number = small_some digits (number_below NUMBER_LIMIT digits) refl (fits number)

fits_at : (source : List ℕ) (tree : FunctionText) → KeepsLimits source tree → (o : Occurrence)
    → Has (occurrences_of tree) o → NumberFits (digits_at source o)
fits_at source tree limits o there =
    each_has (λ (x : Occurrence). NumberFits (digits_at source x)) (occurrences_of tree) limits.numbers o there

pub are_small : (source : List ℕ) (tree : FunctionText) → KeepsLimits source tree → AreSmall source tree
are_small source tree limits place there base digits parts =
    let r = from_said (name_place source) (occurrences_of tree) place there in
    small_fits digits (subst NumberFits (named_digits source r.0 place r.2
    ∙ ap (λ o. option_map (λ (p : List ℕ × List ℕ). p.1) o) parts) (fits_at source tree limits r.0 r.1))
    (parts_are (text_of source place.at) base digits parts).1

pub small_block : (source : List ℕ) (tree : FunctionText) → IsWritten source tree → KeepsLimits source tree
    → (block : BlockText) → Has tree.blocks block → IsSmall (text_of source block.number)
small_block source tree written limits block there =
    let occurs = number_occurs tree block there in
    small_fits (text_of source block.number) (fits_at source tree limits (Block block.number) occurs)
    (all_has (is_written source) (occurrences_of tree) written.occurrences (Block block.number) occurs)

pub small_target : (source : List ℕ) (tree : FunctionText) → IsWritten source tree → KeepsLimits source tree
    → (at : Span) → Has (occurrences_of tree) (Jump at) → IsSmall (named_at source at)
small_target source tree written limits at there =
    small_fits (named_at source at) (fits_at source tree limits (Jump at) there)
    (all_has (is_written source) (occurrences_of tree) written.occurrences (Jump at) there)
