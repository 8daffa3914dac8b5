-- What a line shows that is kept as the parts of its text: its kind, and the text of its fields.
use Rattle.std.specs.Prelude.{ℕ, List, [], ◌∷◌, Ok, Err, Result}
use Rattle.parts.specs.declared.faults.LineFault.{LineFault}
use Rattle.line.specs.declared.kinds.Kind.{Kind}
use Rattle.line.specs.declared.kinds.Kind.TheVariants as kind
use Rattle.line.specs.declared.kinds.LoadKind.TheVariants as load
use Rattle.line.specs.declared.kinds.MarkKind.TheVariants as mark
use Rattle.line.specs.declared.kinds.HostKind.TheVariants as host
use Rattle.line.specs.declared.kinds.AskKind.TheVariants as ask
use Rattle.line.specs.declared.lines.LoadLine.{LoadLine}
use Rattle.line.specs.declared.lines.LoadLine.TheVariants.{Mode, Module, Symbol, Record, Statement, Uses, Reads, Member, Import, Export, Constant}
use Rattle.line.specs.declared.lines.MarkLine.{MarkLine}
use Rattle.line.specs.declared.lines.MarkLine.TheVariants.{Wrapped, Transparent, Route, LocalRecord, Nested, Facade, Carrier, Bind}
use Rattle.line.specs.declared.lines.HostLine.{HostLine}
use Rattle.line.specs.declared.lines.HostLine.TheVariants.{Used, Reachable, Owns}
use Rattle.line.specs.declared.lines.AskLine.{AskLine}
use Rattle.line.specs.declared.lines.AskLine.TheVariants as question
use Rattle.line.specs.declared.lines.Line.{Line}
use Rattle.line.specs.declared.lines.Line.TheVariants.{Load, Mark, Host, Ask}

abbrev pub load_shown : LoadLine → Kind × List (List ℕ)
load_shown (Mode l) = (kind.Load load.Mode, l.strict.now ∷ l.inline.now ∷ [])
load_shown (Module l) = (kind.Load load.Module, l.kind.now ∷ l.exports.now ∷ l.wrap.now ∷ l.wrapper.now ∷ l.included.now ∷ l.inner.now ∷ l.side_effects.now ∷ l.namespace.now ∷ [])
load_shown (Symbol l) = (kind.Load load.Symbol, l.owner.now ∷ l.canonical.now ∷ l.through.now ∷ [])
load_shown (Record l) = (kind.Load load.Record, l.«module».now ∷ l.kind.now ∷ l.importee.now ∷ l.star.now ∷ l.reexport_only.now ∷ [])
load_shown (Statement l) = (kind.Load load.Statement, l.«module».now ∷ l.included.now ∷ [])
load_shown (Uses l) = (kind.Load load.Uses, l.statement.now ∷ l.«record».now ∷ [])
load_shown (Reads l) = (kind.Load load.Reads, l.statement.now ∷ l.symbol.now ∷ [])
load_shown (Member l) = (kind.Load load.Member, l.statement.now ∷ l.object.now ∷ l.property.now ∷ l.resolution.now ∷ [])
load_shown (Import l) = (kind.Load load.Import, l.«module».now ∷ l.local.now ∷ l.imported_as.now ∷ l.«record».now ∷ l.name.now ∷ [])
load_shown (Export l) = (kind.Load load.Export, l.«module».now ∷ l.name.now ∷ l.class.now ∷ l.symbol.now ∷ l.«record».now ∷ l.imported.now ∷ [])
load_shown (Constant l) = (kind.Load load.Constant, l.symbol.now ∷ l.commonjs.now ∷ l.safe.now ∷ [])

abbrev pub mark_shown : MarkLine → Kind × List (List ℕ)
mark_shown (Wrapped a b) = (kind.Mark mark.Wrapped, a.now ∷ b.now ∷ [])
mark_shown (Transparent a) = (kind.Mark mark.Transparent, a.now ∷ [])
mark_shown (Route a) = (kind.Mark mark.Route, a.now ∷ [])
mark_shown (LocalRecord a) = (kind.Mark mark.LocalRecord, a.now ∷ [])
mark_shown (Nested a) = (kind.Mark mark.Nested, a.now ∷ [])
mark_shown (Facade a) = (kind.Mark mark.Facade, a.now ∷ [])
mark_shown (Carrier a b c) = (kind.Mark mark.Carrier, a.now ∷ b.now ∷ c.now ∷ [])
mark_shown (Bind a b) = (kind.Mark mark.Bind, a.now ∷ b.now ∷ [])

abbrev pub host_shown : HostLine → Kind × List (List ℕ)
host_shown (Used a) = (kind.Host host.Used, a.now ∷ [])
host_shown (Reachable a) = (kind.Host host.Reachable, a.now ∷ [])
host_shown (Owns a) = (kind.Host host.Owns, a.now ∷ [])

abbrev pub ask_shown : AskLine → Kind × List (List ℕ)
ask_shown (question.Record a b) = (kind.Ask ask.Record, a.now ∷ b.now ∷ [])
ask_shown (question.Circle a) = (kind.Ask ask.Circle, a.now ∷ [])
ask_shown (question.Caller a b c d) = (kind.Ask ask.Caller, a.now ∷ b.now ∷ c.now ∷ d.now ∷ [])

abbrev pub shown : Line → Kind × List (List ℕ)
shown (Load l) = load_shown l
shown (Mark l) = mark_shown l
shown (Host l) = host_shown l
shown (Ask l) = ask_shown l

-- the same of an answer that may be a refusal
abbrev pub told_by : {L : Type 0} → (L → Kind × List (List ℕ)) → Result L LineFault → Result (Kind × List (List ℕ)) LineFault
told_by s (Ok l) = Ok (s l)
told_by s (Err e) = Err e
