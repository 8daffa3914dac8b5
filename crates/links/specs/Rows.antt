-- The first bad field of each row, by the limit of names and the graph that it stands in. Fields are counted from 1; those that cannot be bad are left out.
use Rattle.std.specs.Prelude.{ℕ, Bool, true, false, ◌&&◌, [], ◌∷◌, Option}
use Rattle.line.specs.declared.rows.ConstantRow.{ConstantRow}
use Rattle.line.specs.declared.rows.ExportRow.{ExportRow}
use Rattle.line.specs.declared.rows.ImportRow.{ImportRow}
use Rattle.line.specs.declared.rows.MemberRow.{MemberRow}
use Rattle.line.specs.declared.rows.ModuleRow.{ModuleRow}
use Rattle.line.specs.declared.rows.ReadsRow.{ReadsRow}
use Rattle.line.specs.declared.rows.RecordRow.{RecordRow}
use Rattle.line.specs.declared.rows.StatementRow.{StatementRow}
use Rattle.line.specs.declared.rows.SymbolRow.{SymbolRow}
use Rattle.line.specs.declared.rows.UsesRow.{UsesRow}
use Rattle.values.specs.declared.values.ExportClass.{ExportClass}
use Rattle.values.specs.declared.values.ExportClass.TheVariants.{Local, Indirect, All}
use Rattle.values.specs.declared.values.Imported.{Imported}
use Rattle.values.specs.declared.values.Imported.TheVariants.{Namespace, Literal}
use Rattle.values.specs.declared.values.Resolution.{Resolution}
use Rattle.values.specs.declared.values.Resolution.TheVariants.{Open, Lost, To}
use Rattle.tables.specs.Graph.{Graph}
use Rattle.tables.specs.Lookups.{statement_at}
use Rattle.links.specs.Fields.{missing, too_high, given, required, foreign, first_field}

abbrev pub bad_module : ℕ → Graph → ModuleRow → Option ℕ
bad_module names g r = first_field
    ((4, given (missing g.symbols) r.wrapper)
    ∷ (8, given (missing g.symbols) r.namespace)
    ∷ [])

abbrev pub bad_symbol : ℕ → Graph → SymbolRow → Option ℕ
bad_symbol names g r = first_field
    ((1, missing g.modules r.owner)
    ∷ (2, missing g.symbols r.canonical)
    ∷ (3, missing g.symbols r.through)
    ∷ [])

abbrev pub bad_record : ℕ → Graph → RecordRow → Option ℕ
bad_record names g r = first_field
    ((1, missing g.modules r.«module»)
    ∷ (3, given (missing g.modules) r.importee)
    ∷ [])

-- of a statement only its module can be bad
abbrev pub bad_module_of_statement : ℕ → Graph → ℕ → Option ℕ
bad_module_of_statement names g m = first_field ((1, missing g.modules m) ∷ [])

abbrev pub bad_statement : ℕ → Graph → StatementRow → Option ℕ
bad_statement names g r = bad_module_of_statement names g r.«module»

-- the record has to belong to the module of the statement
abbrev pub bad_uses : ℕ → Graph → UsesRow → Option ℕ
bad_uses names g r = first_field
    ((1, missing g.statements r.statement)
    ∷ (2, foreign g.records r.«record» (statement_at g r.statement).«module»)
    ∷ [])

abbrev pub bad_reads : ℕ → Graph → ReadsRow → Option ℕ
bad_reads names g r = first_field
    ((1, missing g.statements r.statement)
    ∷ (2, missing g.symbols r.symbol)
    ∷ [])

-- only a resolution to a symbol names one
abbrev pub unresolved : Graph → Resolution → Bool
unresolved g Open = false
unresolved g Lost = false
unresolved g (To symbol) = missing g.symbols symbol

abbrev pub bad_member : ℕ → Graph → MemberRow → Option ℕ
bad_member names g r = first_field
    ((1, missing g.statements r.statement)
    ∷ (2, missing g.symbols r.object)
    ∷ (3, given (too_high names) r.property)
    ∷ (4, unresolved g r.resolution)
    ∷ [])

-- the whole namespace is no name
abbrev pub imports_too_high : ℕ → Imported → Bool
imports_too_high names Namespace = false
imports_too_high names (Literal name) = too_high names name

abbrev pub bad_import : ℕ → Graph → ImportRow → Option ℕ
bad_import names g r = first_field
    ((1, missing g.modules r.«module»)
    ∷ (2, missing g.symbols r.local)
    ∷ (3, missing g.symbols r.imported_as)
    ∷ (4, foreign g.records r.«record» r.«module»)
    ∷ (5, imports_too_high names r.name)
    ∷ [])

-- whether a class of exports reads the record, and the name in the importee; what it does not read is not judged
abbrev pub reads_record : ExportClass → Bool
reads_record Local = false
reads_record Indirect = true
reads_record All = true

abbrev pub reads_imported : ExportClass → Bool
reads_imported Local = false
reads_imported Indirect = true
reads_imported All = false

abbrev pub bad_export : ℕ → Graph → ExportRow → Option ℕ
bad_export names g r = first_field
    ((1, missing g.modules r.«module»)
    ∷ (2, too_high names r.name)
    ∷ (4, missing g.symbols r.symbol)
    ∷ (5, reads_record r.class && required (λ s. foreign g.records s r.«module») r.«record»)
    ∷ (6, reads_imported r.class && required (too_high names) r.imported)
    ∷ [])

abbrev pub bad_constant : ℕ → Graph → ConstantRow → Option ℕ
bad_constant names g r = first_field ((1, missing g.symbols r.symbol) ∷ [])
