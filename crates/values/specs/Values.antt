-- What a field says, by the kind of value that it has to be. Each reading answers None where the field is no value of its kind.
use Rattle.std.specs.Prelude.{ℕ, ◌+◌, ◌-◌, ◌*◌, Bool, true, false, cond, not, ◌&&◌, List, [], ◌∷◌, length, Some, None, codes, Option, ◌==◌, nat_le, nat_lt, slice_index, find}
use Rattle.std.specs.Option.{option_map}
use Rattle.std.specs.Str.{bytes_eq}
use Rattle.values.specs.declared.values.InlineConstMode.{InlineConstMode}
use Rattle.values.specs.declared.values.InlineConstMode.TheVariants as inline
use Rattle.values.specs.declared.values.ModuleKind.{ModuleKind}
use Rattle.values.specs.declared.values.ModuleKind.TheVariants.{Normal, External}
use Rattle.values.specs.declared.values.ExportsKind.{ExportsKind}
use Rattle.values.specs.declared.values.ExportsKind.TheVariants as exports
use Rattle.values.specs.declared.values.WrapKind.{WrapKind}
use Rattle.values.specs.declared.values.WrapKind.TheVariants as wrap
use Rattle.values.specs.declared.values.RecordKind.{RecordKind}
use Rattle.values.specs.declared.values.RecordKind.TheVariants.{Import, Other}
use Rattle.values.specs.declared.values.Resolution.{Resolution}
use Rattle.values.specs.declared.values.Resolution.TheVariants.{Open, Lost, To}
use Rattle.values.specs.declared.values.Imported.{Imported}
use Rattle.values.specs.declared.values.Imported.TheVariants.{Namespace, Literal}
use Rattle.values.specs.declared.values.ExportClass.{ExportClass}
use Rattle.values.specs.declared.values.ExportClass.TheVariants as export
use Rattle.values.specs.declared.scalars.Scalar.{Scalar}
use Rattle.values.specs.declared.scalars.Scalar.TheVariants.{Missing, Number}
use Rattle.values.specs.declared.scalars.Scalar.TheVariants as scalar
use Rattle.values.specs.declared.values.TargetKind.{TargetKind}
use Rattle.values.specs.declared.values.TargetKind.TheVariants as target

-- decimal digits, from `0` to `9`
abbrev pub is_digit : ℕ → Bool
is_digit b = nat_le 48 b && nat_le b 57

abbrev pub all_digits : List ℕ → Bool
all_digits [] = true
all_digits (b ∷ bs) = is_digit b && all_digits bs

-- the number that digits write after n
abbrev pub value_from : ℕ → List ℕ → ℕ
value_from n [] = n
value_from n (b ∷ bs) = value_from (n * 10 + (b - 48)) bs

-- at least one digit, no leading zero, and a value of at most 65,535
abbrev pub is_number : List ℕ → Bool
is_number ds = nat_lt 0 (length ds) && (not (slice_index ds 0 == 48 && nat_lt 1 (length ds)) && (all_digits ds && nat_le (value_from 0 ds) 65535))

abbrev pub digits_of : List ℕ → Option ℕ
digits_of ds = cond (is_number ds) (Some (value_from 0 ds)) None

-- what stands where a number can stand: `-`, `*` or the number
abbrev pub scalar_of : List ℕ → Option Scalar
scalar_of p = cond (bytes_eq p (codes "-")) (Some Missing) (cond (bytes_eq p (codes "*")) (Some scalar.Namespace) (option_map Number (digits_of p)))

-- a number alone
abbrev pub only_number : Option Scalar → Option ℕ
only_number None = None
only_number (Some Missing) = None
only_number (Some scalar.Namespace) = None
only_number (Some (Number n)) = Some n

abbrev pub number_of : List ℕ → Option ℕ
number_of p = only_number (scalar_of p)

-- a number, or `-` for none
abbrev pub number_or_missing : Option Scalar → Option (Option ℕ)
number_or_missing None = None
number_or_missing (Some Missing) = Some None
number_or_missing (Some scalar.Namespace) = None
number_or_missing (Some (Number n)) = Some (Some n)

abbrev pub optional_of : List ℕ → Option (Option ℕ)
optional_of p = number_or_missing (scalar_of p)

-- a name, or `*` for the whole namespace
abbrev pub name_or_namespace : Option Scalar → Option Imported
name_or_namespace None = None
name_or_namespace (Some Missing) = None
name_or_namespace (Some scalar.Namespace) = Some Namespace
name_or_namespace (Some (Number n)) = Some (Literal n)

abbrev pub imported_of : List ℕ → Option Imported
imported_of p = name_or_namespace (scalar_of p)

-- the first of some values whose word is this
abbrev pub word_among : {V : Type 0} → (V → List ℕ) → List V → List ℕ → Option V
word_among word vs p = find (λ v. bytes_eq p (word v)) vs

abbrev pub flag_word : Bool → List ℕ
flag_word false = codes "0"
flag_word true = codes "1"

abbrev pub flags : List Bool
flags = false ∷ true ∷ []

abbrev pub flag_of : List ℕ → Option Bool
flag_of p = word_among flag_word flags p

abbrev pub inline_word : InlineConstMode → List ℕ
inline_word inline.Off = codes "none"
inline_word inline.Smart = codes "smart"
inline_word inline.All = codes "all"

abbrev pub inline_modes : List InlineConstMode
inline_modes = inline.Off ∷ inline.Smart ∷ inline.All ∷ []

abbrev pub inline_of : List ℕ → Option InlineConstMode
inline_of p = word_among inline_word inline_modes p

abbrev pub module_kind_word : ModuleKind → List ℕ
module_kind_word Normal = codes "normal"
module_kind_word External = codes "external"

abbrev pub module_kinds : List ModuleKind
module_kinds = Normal ∷ External ∷ []

abbrev pub module_kind_of : List ℕ → Option ModuleKind
module_kind_of p = word_among module_kind_word module_kinds p

abbrev pub exports_word : ExportsKind → List ℕ
exports_word exports.None = codes "none"
exports_word exports.Esm = codes "esm"
exports_word exports.CommonJs = codes "cjs"

abbrev pub exports_kinds : List ExportsKind
exports_kinds = exports.None ∷ exports.Esm ∷ exports.CommonJs ∷ []

abbrev pub exports_of : List ℕ → Option ExportsKind
exports_of p = word_among exports_word exports_kinds p

abbrev pub wrap_word : WrapKind → List ℕ
wrap_word wrap.None = codes "none"
wrap_word wrap.Cjs = codes "cjs"
wrap_word wrap.Esm = codes "esm"

abbrev pub wrap_kinds : List WrapKind
wrap_kinds = wrap.None ∷ wrap.Cjs ∷ wrap.Esm ∷ []

abbrev pub wrap_of : List ℕ → Option WrapKind
wrap_of p = word_among wrap_word wrap_kinds p

abbrev pub record_kind_word : RecordKind → List ℕ
record_kind_word Import = codes "import"
record_kind_word Other = codes "other"

abbrev pub record_kinds : List RecordKind
record_kinds = Import ∷ Other ∷ []

abbrev pub record_kind_of : List ℕ → Option RecordKind
record_kind_of p = word_among record_kind_word record_kinds p

abbrev pub class_word : ExportClass → List ℕ
class_word export.Local = codes "local"
class_word export.Indirect = codes "indirect"
class_word export.All = codes "all"

abbrev pub export_classes : List ExportClass
export_classes = export.Local ∷ export.Indirect ∷ export.All ∷ []

abbrev pub class_of : List ℕ → Option ExportClass
class_of p = word_among class_word export_classes p

-- `open`, `lost`, or the number of the symbol
abbrev pub resolution_of : List ℕ → Option Resolution
resolution_of p = cond (bytes_eq p (codes "open")) (Some Open) (cond (bytes_eq p (codes "lost")) (Some Lost) (option_map To (number_of p)))

abbrev pub target_word : TargetKind → List ℕ
target_word target.Module = codes "module"
target_word target.Carrier = codes "carrier"

abbrev pub target_kinds : List TargetKind
target_kinds = target.Module ∷ target.Carrier ∷ []

abbrev pub target_of : List ℕ → Option TargetKind
target_of p = word_among target_word target_kinds p
