-- What linking makes sure of: each number names a row, each name is below the limit of names, and a row uses the records of its own module.
use Rattle.std.specs.Prelude.{◌≡◌, ℕ, ◌<◌, All, length, IfSome, IsSomeAnd, IsTrue}
use Rattle.line.specs.declared.rows.ConstantRow.{ConstantRow}
use Rattle.line.specs.declared.rows.ExportRow.{ExportRow}
use Rattle.line.specs.declared.rows.ImportRow.{ImportRow}
use Rattle.line.specs.declared.rows.MemberRow.{MemberRow}
use Rattle.line.specs.declared.rows.ModuleRow.{ModuleRow}
use Rattle.line.specs.declared.rows.ReadsRow.{ReadsRow}
use Rattle.line.specs.declared.rows.RecordRow.{RecordRow}
use Rattle.line.specs.declared.rows.StatementRow.{StatementRow}
use Rattle.line.specs.declared.rows.SymbolRow.{SymbolRow}
use Rattle.line.specs.declared.rows.UsesRow.{UsesRow}
use Rattle.values.specs.declared.values.Imported.TheVariants.{Literal}
use Rattle.values.specs.declared.values.Resolution.TheVariants.{To}
use Rattle.tables.specs.Graph.{Graph}
use Rattle.tables.specs.Lookups.{record_at, statement_at}
use Rattle.tables.specs.References.{reads_in, members_in}
use Rattle.links.specs.Rows.{reads_record, reads_imported}

abbrev pub IsModule : Graph → ℕ → Type 0
IsModule g m = m < length g.modules

abbrev pub IsSymbol : Graph → ℕ → Type 0
IsSymbol g s = s < length g.symbols

abbrev pub IsStatement : Graph → ℕ → Type 0
IsStatement g s = s < length g.statements

-- a record of this module
abbrev pub IsRecordOf : Graph → ℕ → ℕ → Type 0
IsRecordOf g m r = (r < length g.records) × ((record_at g r).«module» ≡ m)

pub record SoundModule (g : Graph) (r : ModuleRow) : Type 0 where
  pub wrapper : IfSome r.wrapper (IsSymbol g)
  pub namespace : IfSome r.namespace (IsSymbol g)

pub record SoundSymbol (g : Graph) (r : SymbolRow) : Type 0 where
  pub owner : IsModule g r.owner
  pub canonical : IsSymbol g r.canonical
  pub through : IsSymbol g r.through

pub record SoundRecord (g : Graph) (r : RecordRow) : Type 0 where
  pub importer : IsModule g r.«module»
  pub importee : IfSome r.importee (IsModule g)

abbrev pub SoundStatement : Graph → StatementRow → Type 0
SoundStatement g r = IsModule g r.«module»

pub record SoundUses (g : Graph) (r : UsesRow) : Type 0 where
  pub statement : IsStatement g r.statement
  pub its_record : IsRecordOf g (statement_at g r.statement).«module» r.«record»

pub record SoundReads (g : Graph) (r : ReadsRow) : Type 0 where
  pub statement : IsStatement g r.statement
  pub symbol : IsSymbol g r.symbol

pub record SoundMember (names : ℕ) (g : Graph) (r : MemberRow) : Type 0 where
  pub statement : IsStatement g r.statement
  pub object : IsSymbol g r.object
  pub property : IfSome r.property (λ n. n < names)
  pub resolution : (s : ℕ) → r.resolution ≡ To s → IsSymbol g s

pub record SoundImport (names : ℕ) (g : Graph) (r : ImportRow) : Type 0 where
  pub importer : IsModule g r.«module»
  pub local : IsSymbol g r.local
  pub imported_as : IsSymbol g r.imported_as
  pub its_record : IsRecordOf g r.«module» r.«record»
  pub name : (n : ℕ) → r.name ≡ Literal n → n < names

pub record SoundExport (names : ℕ) (g : Graph) (r : ExportRow) : Type 0 where
  pub exporter : IsModule g r.«module»
  pub name : r.name < names
  pub symbol : IsSymbol g r.symbol
  pub its_record : IsTrue (reads_record r.class) → IsSomeAnd r.«record» (IsRecordOf g r.«module»)
  pub imported : IsTrue (reads_imported r.class) → IsSomeAnd r.imported (λ n. n < names)

abbrev pub SoundConstant : Graph → ConstantRow → Type 0
SoundConstant g r = IsSymbol g r.symbol

-- a graph each of whose rows is sound
pub record Sound (names : ℕ) (g : Graph) : Type 0 where
  pub modules : All (SoundModule g) g.modules
  pub symbols : All (SoundSymbol g) g.symbols
  pub records : All (SoundRecord g) g.records
  pub statements : All (SoundStatement g) g.statements
  pub uses : All (SoundUses g) g.uses
  pub reads : All (SoundReads g) (reads_in g.references)
  pub members : All (SoundMember names g) (members_in g.references)
  pub imports : All (SoundImport names g) g.imports
  pub exports : All (SoundExport names g) g.exports
  pub constants : All (SoundConstant g) g.constants
