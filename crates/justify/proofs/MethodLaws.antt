-- What each method accepts, refines.
use Rattle.std.proofs.Common.{◌≡◌, Option, Some, None, sym, ap, ◌∙◌}
use Rattle.std.specs.Prelude.{IfSome}
use Rattle.pm_term.specs.Refines.{Refines}
use Rattle.pm_term.specs.Terms.{term_value}
use Rattle.pm_term.specs.Trees.{Tree, type_of, IsWellTyped}
use Rattle.pm_term.proofs.RefiningLaws.{each_node}
use Rattle.bit_tables.specs.TableEqual.{AreTableEqual}
use Rattle.bit_tables.proofs.TableValues.{equal_words}
use Rattle.ring_forms.specs.RingForms.{AreRingEqual}
use Rattle.ring_forms.proofs.RingLaw.{one_word}
use Rattle.ring_forms.proofs.SameAtoms.{equal_over_table}
use Rattle.justify.specs.DefinedByRule.{IsDefined}
use Rattle.justify.specs.Methods.{IsMethod}
use Rattle.justify.specs.declared.method.Method.{Method}
use Rattle.justify.specs.declared.method.Method.TheVariants.{Ring, Table, Order, Enumerate}
use Rattle.justify.specs.Enumeration.{AreEnumerated}
use Rattle.justify.specs.Order.{AreRelatedByOrder}
use Rattle.justify.proofs.DefinedLaw.{some_value, defined_value}
use Rattle.justify.proofs.OrderLaw.{related_word}

module _ (left right : Tree) (wl : IsWellTyped left) (wr : IsWellTyped right) where
  pub ring_refines : IsDefined left right → AreRingEqual left right → Refines left right
  ring_refines known h = λ words r given e.
      (let d = defined_value words given left wl (each_node words left r e) right wr known in
      let s = some_value (term_value words right) d.1 in
      let same = one_word words given left right r s.0 wl wr (equal_over_table left right wl wr h) e s.1 in
      (d.0, s.1 ∙ ap Some (sym same), sym h.0))

  pub table_refines : IsDefined left right → AreTableEqual left right → Refines left right
  table_refines known h = λ words r given e.
      (let d = defined_value words given left wl (each_node words left r e) right wr known in
      let s = some_value (term_value words right) d.1 in
      let same = equal_words words given left right r s.0 wl wr h e s.1 in
      (d.0, s.1 ∙ ap Some (sym same), sym h.0.0))

  pub order_refines : type_of left ≡ type_of right → IsDefined left right → AreRelatedByOrder left right → Refines left right
  order_refines one known h = λ words r given e.
      (let d = defined_value words given left wl (each_node words left r e) right wr known in
      let s = some_value (term_value words right) d.1 in
      let same = related_word words given left right r s.0 wl wr h e s.1 in
      (d.0, s.1 ∙ ap Some (sym same), sym one))

  pub enumeration_refines : type_of left ≡ type_of right → AreEnumerated left right → Refines left right
  enumeration_refines one h = λ words r given e. (let v = h.1 words r given e in (v.0, v.1, sym one))

  pub justified_refines : (m : Method) → IsMethod left right (Some m) → Refines left right
  justified_refines Ring h = ring_refines h.1.0 h.1.1
  justified_refines Table h = table_refines h.2.0 h.2.1
  justified_refines Order h = order_refines h.0.0 h.3.0 h.3.1
  justified_refines Enumerate h = enumeration_refines h.0.0 h.4

  pub method_refines : (m : Option Method) → IsMethod left right m → IfSome m (λ (n : Method). Refines left right)
  method_refines None h = tt
  method_refines (Some m) h = justified_refines m h
