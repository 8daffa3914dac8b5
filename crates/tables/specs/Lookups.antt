-- The rows of a graph by number. Past the end of a table stands a row that means nothing.
use Rattle.std.specs.Prelude.{ℕ, Bool, false, Some, None, Option, slice_index_or}
use Rattle.line.specs.declared.rows.ConstantRow.{ConstantRow}
use Rattle.line.specs.declared.rows.ExportRow.{ExportRow}
use Rattle.line.specs.declared.rows.ImportRow.{ImportRow}
use Rattle.line.specs.declared.rows.MemberRow.{MemberRow}
use Rattle.line.specs.declared.rows.ModeRow.{ModeRow}
use Rattle.line.specs.declared.rows.ModuleRow.{ModuleRow}
use Rattle.line.specs.declared.rows.ReadsRow.{ReadsRow}
use Rattle.line.specs.declared.rows.RecordRow.{RecordRow}
use Rattle.line.specs.declared.rows.StatementRow.{StatementRow}
use Rattle.line.specs.declared.rows.SymbolRow.{SymbolRow}
use Rattle.line.specs.declared.rows.UsesRow.{UsesRow}
use Rattle.values.specs.declared.values.ExportClass.TheVariants as class
use Rattle.values.specs.declared.values.ExportsKind.TheVariants as exports
use Rattle.values.specs.declared.values.Imported.TheVariants as imported
use Rattle.values.specs.declared.values.InlineConstMode.TheVariants as inline
use Rattle.values.specs.declared.values.ModuleKind.TheVariants as module_kind
use Rattle.values.specs.declared.values.RecordKind.TheVariants as record_kind
use Rattle.values.specs.declared.values.Resolution.TheVariants as resolution
use Rattle.values.specs.declared.values.WrapKind.TheVariants as wrap
use Rattle.tables.specs.Flags.{no_statement}
use Rattle.tables.specs.Graph.{Graph}
use Rattle.tables.specs.References.{reads_in, members_in}

-- a book without a mode row is not strict, and writes no constant in place
abbrev pub mode_or : Option ModeRow → ModeRow
mode_or None = record { strict = false; inline = inline.Off }
mode_or (Some m) = m

abbrev pub mode_of : Graph → ModeRow
mode_of g = mode_or g.mode

abbrev pub module_at : Graph → ℕ → ModuleRow
module_at g i = slice_index_or g.modules i (record { kind = module_kind.External; exports = exports.None; wrap = wrap.None; wrapper = None; included = false; inner = false; side_effects = false; namespace = None })

abbrev pub symbol_at : Graph → ℕ → SymbolRow
symbol_at g i = slice_index_or g.symbols i (record { owner = 0; canonical = 0; through = 0 })

abbrev pub record_at : Graph → ℕ → RecordRow
record_at g i = slice_index_or g.records i (record { «module» = 0; kind = record_kind.Other; importee = None; star = false; reexport_only = false })

abbrev pub importee_of : Graph → ℕ → Option ℕ
importee_of g r = (record_at g r).importee

abbrev pub statement_at : Graph → ℕ → StatementRow
statement_at g i = slice_index_or g.statements i no_statement

abbrev pub included_of : Graph → ℕ → Bool
included_of g s = (statement_at g s).included

abbrev pub uses_at : Graph → ℕ → UsesRow
uses_at g i = slice_index_or g.uses i (record { statement = 0; «record» = 0 })

-- `reads` and `member` rows are numbered each by their own word
abbrev pub reads_at : Graph → ℕ → ReadsRow
reads_at g i = slice_index_or (reads_in g.references) i (record { statement = 0; symbol = 0 })

abbrev pub member_at : Graph → ℕ → MemberRow
member_at g i = slice_index_or (members_in g.references) i (record { statement = 0; object = 0; property = None; resolution = resolution.Open })

abbrev pub import_at : Graph → ℕ → ImportRow
import_at g i = slice_index_or g.imports i (record { «module» = 0; local = 0; imported_as = 0; «record» = 0; name = imported.Namespace })

abbrev pub export_at : Graph → ℕ → ExportRow
export_at g i = slice_index_or g.exports i (record { «module» = 0; name = 0; class = class.Local; symbol = 0; «record» = None; imported = None })

abbrev pub constant_at : Graph → ℕ → ConstantRow
constant_at g i = slice_index_or g.constants i (record { symbol = 0; commonjs = false; safe = false })
