-- What the slices of a draft show: the tables of its graph, row by row.
use Rattle.std.specs.Prelude.{◌≡◌, ℕ, map}
use Rattle.line.specs.declared.rows.StatementRow.{StatementRow}
use Rattle.tables.specs.declared.limits.Limits.{Limits}
use Rattle.tables.specs.declared.slices.Slices.{Slices}
use Rattle.tables.specs.Graph.{Graph}

abbrev pub module_of_statement : StatementRow → ℕ
module_of_statement s = s.«module»

pub record Shows (t : Slices) (g : Graph) (l : Limits) : Type 0 where
  pub mode : t.mode ≡ g.mode
  pub modules : t.modules.now ≡ g.modules
  pub symbols : t.symbols.now ≡ g.symbols
  pub records : t.records.now ≡ g.records
  pub statements : t.statements.now ≡ map module_of_statement g.statements
  pub uses : t.uses.now ≡ g.uses
  pub references : t.references.now ≡ g.references
  pub imports : t.imports.now ≡ g.imports
  pub exports : t.exports.now ≡ g.exports
  pub constants : t.constants.now ≡ g.constants
  pub names : t.names ≡ l.names
