-- The graph that a book holds: a list of rows for each table, in the order in which they were loaded.
-- Nothing here says how the code holds it.
use Rattle.std.specs.Prelude.{List, [], ◌∷◌, ◌++◌, Some, None, Option}
use Rattle.line.specs.declared.rows.ConstantRow.{ConstantRow}
use Rattle.line.specs.declared.rows.ExportRow.{ExportRow}
use Rattle.line.specs.declared.rows.ImportRow.{ImportRow}
use Rattle.line.specs.declared.rows.LoadRow.{LoadRow}
use Rattle.line.specs.declared.rows.LoadRow.TheVariants.{Mode, Module, Symbol, Record, Statement, Uses, Reads, Member, Import, Export, Constant}
use Rattle.line.specs.declared.rows.ModeRow.{ModeRow}
use Rattle.line.specs.declared.rows.ModuleRow.{ModuleRow}
use Rattle.line.specs.declared.rows.RecordRow.{RecordRow}
use Rattle.line.specs.declared.rows.StatementRow.{StatementRow}
use Rattle.line.specs.declared.rows.SymbolRow.{SymbolRow}
use Rattle.line.specs.declared.rows.UsesRow.{UsesRow}
use Rattle.tables.specs.declared.reference.Reference.{Reference}
use Rattle.tables.specs.declared.reference.Reference.TheVariants as reference

pub record Graph : Type 0 where
  pub mode : Option ModeRow
  pub modules : List ModuleRow
  pub symbols : List SymbolRow
  pub records : List RecordRow
  pub statements : List StatementRow
  pub uses : List UsesRow
  pub references : List Reference
  pub imports : List ImportRow
  pub exports : List ExportRow
  pub constants : List ConstantRow

abbrev pub graph_of : Option ModeRow → List ModuleRow → List SymbolRow → List RecordRow → List StatementRow → List UsesRow → List Reference → List ImportRow → List ExportRow → List ConstantRow → Graph
graph_of o ms ys rs ss us fs is es cs = record { mode = o; modules = ms; symbols = ys; records = rs; statements = ss; uses = us; references = fs; imports = is; exports = es; constants = cs }

-- a graph without rows
abbrev pub no_rows : Graph
no_rows = graph_of None [] [] [] [] [] [] [] [] []

-- a graph with one row more at the end of its table, and nothing else changed
abbrev pub added : Graph → LoadRow → Graph
added g (Mode r) = graph_of (Some r) g.modules g.symbols g.records g.statements g.uses g.references g.imports g.exports g.constants
added g (Module r) = graph_of g.mode (g.modules ++ r ∷ []) g.symbols g.records g.statements g.uses g.references g.imports g.exports g.constants
added g (Symbol r) = graph_of g.mode g.modules (g.symbols ++ r ∷ []) g.records g.statements g.uses g.references g.imports g.exports g.constants
added g (Record r) = graph_of g.mode g.modules g.symbols (g.records ++ r ∷ []) g.statements g.uses g.references g.imports g.exports g.constants
added g (Statement r) = graph_of g.mode g.modules g.symbols g.records (g.statements ++ r ∷ []) g.uses g.references g.imports g.exports g.constants
added g (Uses r) = graph_of g.mode g.modules g.symbols g.records g.statements (g.uses ++ r ∷ []) g.references g.imports g.exports g.constants
added g (Reads r) = graph_of g.mode g.modules g.symbols g.records g.statements g.uses (g.references ++ reference.Reads r ∷ []) g.imports g.exports g.constants
added g (Member r) = graph_of g.mode g.modules g.symbols g.records g.statements g.uses (g.references ++ reference.Member r ∷ []) g.imports g.exports g.constants
added g (Import r) = graph_of g.mode g.modules g.symbols g.records g.statements g.uses g.references (g.imports ++ r ∷ []) g.exports g.constants
added g (Export r) = graph_of g.mode g.modules g.symbols g.records g.statements g.uses g.references g.imports (g.exports ++ r ∷ []) g.constants
added g (Constant r) = graph_of g.mode g.modules g.symbols g.records g.statements g.uses g.references g.imports g.exports (g.constants ++ r ∷ [])
