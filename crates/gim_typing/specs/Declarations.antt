-- The declarations of a function, and the types that they give to its names.
use Rattle.std.specs.Prelude.{ℕ, Option, Some, None, List, [], ◌∷◌, if◌then◌else◌}
use Rattle.std.specs.Option.{unwrap_or, option_or}
use Rattle.std.specs.Str.{bytes_eq}
use Rattle.pm_wide.specs.Types.{Ty, bool_type}
use Rattle.lexing.specs.Numbers.{number_below}
use Rattle.pm_places.specs.declared.span.Span.{Span}
use Rattle.gim_text.specs.declared.limits.TheConstants.{NUMBER_LIMIT}
use Rattle.gim_text.specs.declared.tree.DeclText.{DeclText}
use Rattle.gim_text.specs.declared.tree.FunctionText.{FunctionText}
use Rattle.gim_text.specs.Texts.{name_parts}
use Rattle.pm_places.specs.Spans.{text_of}

-- the source, and the declarations of a function's parameters and locals in it
pub record Declarations : Type 0 where
  pub source : List ℕ
  pub params : List DeclText
  pub locals : List DeclText

abbrev pub declarations_of : List ℕ → FunctionText → Declarations
declarations_of source tree = record { source = source; params = tree.params; locals = tree.decls }

-- the type that the first declaration of the identifier gives it
abbrev pub declared_type : List ℕ → List ℕ → List DeclText → Option Ty
declared_type source ident [] = None
declared_type source ident (decl ∷ decls) =
    if bytes_eq ident (text_of source decl.ident) then Some decl.ty else declared_type source ident decls

-- Without a base the whole identifier is declared, as a local. Another base is that of a parameter or a local.
abbrev pub type_by_base : Declarations → List ℕ → List ℕ → Option Ty
type_by_base known ident [] = declared_type known.source ident known.locals
type_by_base known ident (b ∷ base) =
    option_or (declared_type known.source (b ∷ base) known.params) (declared_type known.source (b ∷ base) known.locals)

abbrev pub type_by_parts : Declarations → List ℕ → Option (List ℕ × List ℕ) → Ty
type_by_parts known ident None = bool_type
type_by_parts known ident (Some parts) = unwrap_or (type_by_base known ident parts.0) bool_type

-- The type of the name at a place: that of its declaration. A name without one has `_Bool`; the rules on names let none pass.
abbrev pub type_of_name : Declarations → Span → Ty
type_of_name known at = type_by_parts known (text_of known.source at) (name_parts (text_of known.source at))

-- The number that a text writes. One that isn't below the limit is taken as 0; the limits let none pass.
abbrev pub number_of : List ℕ → ℕ
number_of text = unwrap_or (number_below NUMBER_LIMIT text) 0

abbrev pub version_by_parts : Option (List ℕ × List ℕ) → ℕ
version_by_parts None = 0
version_by_parts (Some parts) = number_of parts.1

-- the version of the name at a place
abbrev pub version_of_name : List ℕ → Span → ℕ
version_of_name source at = version_by_parts (name_parts (text_of source at))
