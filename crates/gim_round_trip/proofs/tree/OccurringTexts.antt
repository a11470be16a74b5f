-- The texts that occur in a tree that writes a function, in their order: identifiers, numbers of blocks and assigned names.
use Rattle.std.proofs.Common.{◌≡◌, ℕ, Option, Some, None, List, ◌++◌, map, option_map, refl, sym, ap, ◌∙◌}
use Rattle.std.specs.List.{AllZip, filter_map}
use Rattle.std.specs.Fmt.{decimal}
use Rattle.std.proofs.lemmas.Simd.{map-map}
use Rattle.gim_ast.specs.declared.function.Function.{Function}
use Rattle.gim_ast.specs.declared.function.Block.{Block}
use Rattle.gim_ast.specs.declared.function.Decl.{Decl}
use Rattle.gim_ast.specs.Functions.{assigned}
use Rattle.gim_printer.specs.Printing.{assigned_text}
use Rattle.gim_ast.specs.WellFormed.{ident_of, numbers_of}
use Rattle.gim_text.specs.declared.occurrence.Occurrence.{Occurrence}
use Rattle.gim_text.specs.declared.occurrence.Occurrence.TheVariants.{Assigned}
use Rattle.gim_text.specs.declared.tree.DeclText.{DeclText}
use Rattle.gim_text.specs.declared.tree.FunctionText.{FunctionText}
use Rattle.gim_text.specs.Occurrences.{occurrences_of}
use Rattle.gim_text.specs.Texts.{name_parts}
use Rattle.gim_text.proofs.OccurrenceLemmas.{filter_of_map}
use Rattle.gim_names.specs.KeepsNames.{ident_text, number_text}
use Rattle.gim_names.specs.OccurrenceTexts.{version_in, param_text, local_text, declared_text}
use Rattle.gim_names.specs.OccurrenceTexts.{block_number, assigned_text as text_assigned}
use Rattle.gim_names.specs.OccurrenceTexts.{assigned_version}
use Rattle.gim_names.proofs.DeclaredIdentifiers.{declares}
use Rattle.gim_text.proofs.Membership.{Has, map-append}
use Rattle.gim_round_trip.proofs.tree.FunctionParts.{Part, assigns, parts_of, a_name, part_is, names_are}
use Rattle.gim_making.proofs.Filters.{kept_of_images, images_kept}
use Rattle.gim_round_trip.proofs.tree.Occurrences.{Saying, an_assigned, told, said, occurrences_say}
use Rattle.gim_round_trip.proofs.tree.PairedLists.{same_images}
use Rattle.gim_round_trip.proofs.tree.Rows.{name_facts}
use Rattle.gim_round_trip.proofs.tree.WellFormedParts.{assigned_row}
use Rattle.gim_round_trip.proofs.tree.Writes.{WritesWell, WritesBlock, WritesDecl}

-- what is read of the text of a name that is assigned
abbrev of_assigned : (List ℕ → Option (List ℕ)) → Saying → Option (List ℕ)
of_assigned reading (an_assigned text) = reading text
of_assigned reading saying = None

module _ (source : List ℕ) (tree : FunctionText) (f : Function) (w : WritesWell source tree f) where
  idents_written : (texts : List DeclText) (decls : List Decl) → AllZip (WritesDecl source) texts decls
      → map (ident_text source) texts ≡ map ident_of decls
  idents_written texts decls written = same_images (WritesDecl source) (ident_text source) ident_of texts decls (λ text decl h. h.0) written

  pub params_said : filter_map (param_text source) (occurrences_of tree) ≡ map ident_of f.params
  params_said = (declares source tree).params ∙ idents_written tree.params f.params w.writes.params

  pub locals_said : filter_map (local_text source) (occurrences_of tree) ≡ map ident_of f.decls
  locals_said = (declares source tree).locals ∙ idents_written tree.decls f.decls w.writes.decls

  pub declared_said : filter_map (declared_text source) (occurrences_of tree) ≡ map ident_of (f.params ++ f.decls)
  declared_said =
      (declares source tree).declared ∙ ap (λ l. l ++ map (ident_text source) tree.decls)
      (idents_written tree.params f.params w.writes.params)
      ∙ ap (λ l. map ident_of f.params ++ l) (idents_written tree.decls f.decls w.writes.decls) ∙ sym (map-append ident_of f.params f.decls)

  pub numbers_said : filter_map (block_number source) (occurrences_of tree) ≡ map decimal (numbers_of f)
  numbers_said =
      (declares source tree).blocks
      ∙ same_images (WritesBlock source f) (number_text source) (λ (block : Block). decimal block.number) tree.blocks f.blocks
      (λ text block h. h.number) w.writes.blocks
      ∙ sym (map-map decimal (λ (block : Block). block.number) f.blocks)

  -- what is read of each name that is assigned
  names_said : (says : Occurrence → Option (List ℕ)) (reading : List ℕ → Option (List ℕ)) (g : ℕ → List ℕ)
      → ((o : Occurrence) → says o ≡ of_assigned reading (said source o))
      → ((x : ℕ) → Has (assigned f) x → reading (assigned_text f x) ≡ Some (g x))
      → filter_map says (occurrences_of tree) ≡ map g (assigned f)
  names_said says reading g same each =
      kept_of_images says (of_assigned reading) (said source) same (occurrences_of tree)
      ∙ ap (filter_map (of_assigned reading)) (occurrences_say source f tree w.writes)
      ∙ filter_of_map (of_assigned reading) (told f) (parts_of f)
      ∙ images_kept (λ part. of_assigned reading (told f part)) a_name g (parts_of f) by
      ∙ ap (map g) (names_are f) where
        by : (part : Part) → Has (parts_of f) part → of_assigned reading (told f part) ≡ option_map g (a_name part)
        by (assigns x) there = each x (part_is f (assigns x) there)
        by part there = refl

  pub assigned_said : filter_map (text_assigned source) (occurrences_of tree) ≡ map (assigned_text f) (assigned f)
  assigned_said = names_said (text_assigned source) Some (assigned_text f) same (λ x there. refl) where
    same : (o : Occurrence) → text_assigned source o ≡ of_assigned Some (said source o)
    same (Assigned at) = refl
    same o = refl

  pub versions_said : filter_map (assigned_version source) (occurrences_of tree) ≡ map decimal (assigned f)
  versions_said = names_said (assigned_version source) (λ text. version_in (name_parts text)) decimal same
      (λ x there. let row = assigned_row f w.well x there in ap version_in (name_facts f x row.0 w.well w.within row.1).parts) where
        same : (o : Occurrence) → assigned_version source o ≡ of_assigned (λ text. version_in (name_parts text)) (said source o)
        same (Assigned at) = refl
        same o = refl
