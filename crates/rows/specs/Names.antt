-- The names in the rows of a graph, and how many names it has.
use Rattle.std.specs.Prelude.{ℕ, ◌+◌, ◌<◌, ◌≤◌, max, List, [], ◌∷◌, ◌++◌, All, Some, None, Option}
use Rattle.std.specs.List.{flat_map}
use Rattle.line.specs.declared.rows.ExportRow.{ExportRow}
use Rattle.line.specs.declared.rows.ImportRow.{ImportRow}
use Rattle.values.specs.declared.values.ExportClass.{ExportClass}
use Rattle.values.specs.declared.values.ExportClass.TheVariants.{Local, Indirect, All as Whole}
use Rattle.values.specs.declared.values.Imported.{Imported}
use Rattle.values.specs.declared.values.Imported.TheVariants.{Namespace, Literal}
use Rattle.tables.specs.declared.reference.Reference.{Reference}
use Rattle.tables.specs.declared.reference.Reference.TheVariants.{Reads, Member}
use Rattle.tables.specs.Graph.{Graph}

-- a name that can be missing
abbrev pub given : Option ℕ → List ℕ
given None = []
given (Some n) = n ∷ []

-- the property of a member
abbrev pub reference_names : Reference → List ℕ
reference_names (Reads r) = []
reference_names (Member r) = given r.property

abbrev pub asked_name : Imported → List ℕ
asked_name Namespace = []
asked_name (Literal n) = n ∷ []

abbrev pub import_names : ImportRow → List ℕ
import_names r = asked_name r.name

-- only an indirect export reads the name in the importee
abbrev pub read_name : ExportClass → Option ℕ → List ℕ
read_name Local n = []
read_name Indirect n = given n
read_name Whole n = []

abbrev pub export_names : ExportRow → List ℕ
export_names r = r.name ∷ read_name r.class r.imported

-- the names that rows have and read
abbrev pub names_in : Graph → List ℕ
names_in g = flat_map reference_names g.references ++ (flat_map import_names g.imports ++ flat_map export_names g.exports)

-- one more than the highest of some numbers, or 0
abbrev pub one_above : List ℕ → ℕ
one_above [] = 0
one_above (n ∷ ns) = max (n + 1) (one_above ns)

abbrev pub count_names : Graph → ℕ
count_names g = one_above (names_in g)

-- the least number that every one of these is below
pub record LeastAbove (ns : List ℕ) (b : ℕ) : Type 0 where
  pub above : All (λ n. n < b) ns
  pub least : (c : ℕ) → All (λ n. n < c) ns → b ≤ c
