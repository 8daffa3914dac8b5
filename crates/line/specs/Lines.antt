-- Which row a line is, or how it is refused.
use Rattle.std.specs.Prelude.{ℕ, ◌+◌, Bool, false, cond, List, [], ◌∷◌, length, Some, None, Ok, Err, codes, Option, Result, ◌==◌, nat_le, slice_index_or}
use Rattle.std.specs.Option.{option_map, unwrap_or}
use Rattle.std.specs.Str.{bytes_eq}
use Rattle.parts.specs.declared.faults.LineFault.{LineFault}
use Rattle.parts.specs.declared.faults.LineFault.TheVariants.{Form, Value}
use Rattle.line.specs.declared.kinds.Kind.{Kind}
use Rattle.line.specs.declared.kinds.Kind.TheVariants as kind
use Rattle.line.specs.declared.kinds.LoadKind.{LoadKind}
use Rattle.line.specs.declared.kinds.LoadKind.TheVariants as load
use Rattle.line.specs.declared.kinds.MarkKind.{MarkKind}
use Rattle.line.specs.declared.kinds.MarkKind.TheVariants as mark
use Rattle.line.specs.declared.kinds.HostKind.{HostKind}
use Rattle.line.specs.declared.kinds.HostKind.TheVariants as host
use Rattle.line.specs.declared.kinds.AskKind.{AskKind}
use Rattle.line.specs.declared.kinds.AskKind.TheVariants as ask
use Rattle.values.specs.declared.values.InlineConstMode.TheVariants as inline
use Rattle.values.specs.declared.values.ExportsKind.TheVariants as exports
use Rattle.values.specs.declared.values.ModuleKind.TheVariants as module_kind
use Rattle.values.specs.declared.values.WrapKind.TheVariants as wrap
use Rattle.values.specs.declared.values.RecordKind.TheVariants as record_kind
use Rattle.values.specs.declared.values.ExportClass.TheVariants as class
use Rattle.values.specs.declared.values.Imported.TheVariants as imported
use Rattle.values.specs.declared.values.Resolution.TheVariants as resolution
use Rattle.line.specs.declared.rows.Target.{Target}
use Rattle.line.specs.declared.rows.Target.TheVariants as target
use Rattle.values.specs.declared.values.TargetKind.{TargetKind}
use Rattle.values.specs.declared.values.TargetKind.TheVariants as target_kind
use Rattle.line.specs.declared.rows.LoadRow.{LoadRow}
use Rattle.line.specs.declared.rows.LoadRow.TheVariants.{Mode, Module, Symbol, Record, Statement, Uses, Reads, Member, Import, Export, Constant}
use Rattle.line.specs.declared.rows.MarkRow.{MarkRow}
use Rattle.line.specs.declared.rows.MarkRow.TheVariants.{Wrapped, Transparent, Route, LocalRecord, Nested, Facade, Carrier, Bind}
use Rattle.line.specs.declared.rows.HostRow.{HostRow}
use Rattle.line.specs.declared.rows.HostRow.TheVariants.{Used, Reachable, Owns}
use Rattle.line.specs.declared.rows.AskRow.{AskRow}
use Rattle.line.specs.declared.rows.AskRow.TheVariants as question
use Rattle.line.specs.declared.rows.Row.{Row}
use Rattle.line.specs.declared.rows.Row.TheVariants.{Load, Mark, Host, Ask}
use Rattle.line.specs.Shape.{FieldKind, is_value, shape, load_word, mark_word, host_word, question_word}
use Rattle.parts.specs.Parts.{front, after, fields}
use Rattle.values.specs.Values.{word_among, number_of, optional_of, imported_of, flag_of, inline_of, module_kind_of, exports_of, wrap_of, record_kind_of, class_of, resolution_of, target_of}

abbrev pub load_kinds : List LoadKind
load_kinds = load.Mode ∷ load.Module ∷ load.Symbol ∷ load.Record ∷ load.Statement ∷ load.Uses ∷ load.Reads ∷ load.Member ∷ load.Import ∷ load.Export ∷ load.Constant ∷ []

abbrev pub mark_kinds : List MarkKind
mark_kinds = mark.Wrapped ∷ mark.Transparent ∷ mark.Route ∷ mark.LocalRecord ∷ mark.Nested ∷ mark.Facade ∷ mark.Carrier ∷ mark.Bind ∷ []

abbrev pub host_kinds : List HostKind
host_kinds = host.Used ∷ host.Reachable ∷ host.Owns ∷ []

abbrev pub ask_kinds : List AskKind
ask_kinds = ask.Record ∷ ask.Circle ∷ ask.Caller ∷ []

abbrev pub either : {V : Type 0} → Option V → Option V → Option V
either None o = o
either (Some v) o = Some v

-- the first of some questions that has n fields
abbrev pub counted : ℕ → List AskKind → Option AskKind
counted n [] = None
counted n (k ∷ ks) = cond (n == length (shape (kind.Ask k)).kinds) (Some k) (counted n ks)

-- An ask row is of the kind that its first field names. Where that names none it is of the kind that has its count of fields,
-- so that its first field is then found to be no value.
abbrev pub asked : List (List ℕ) → Option AskKind
asked fs = either (word_among question_word ask_kinds (slice_index_or fs 0 [])) (counted (length fs) ask_kinds)

-- the kind of a row, by its word and, for an ask row, its fields
abbrev pub kind_of : List ℕ → List (List ℕ) → Option Kind
kind_of w fs =
    either (option_map kind.Load (word_among load_word load_kinds w))
    (either (option_map kind.Mark (word_among mark_word mark_kinds w))
    (either (option_map kind.Host (word_among host_word host_kinds w))
    (cond (bytes_eq w (codes "ask")) (option_map kind.Ask (asked fs)) None)))

-- a row of one kind, if its count of fields is right
abbrev pub counts : Kind → List (List ℕ) → Result (Kind × List (List ℕ)) LineFault
counts k fs = cond (length fs == length (shape k).kinds) (Ok (k, fs)) (Err Form)

abbrev pub of_kind : Option Kind → List (List ℕ) → Result (Kind × List (List ℕ)) LineFault
of_kind None fs = Err Form
of_kind (Some k) fs = counts k fs

-- the kind and the fields of a line, or its refusal
abbrev pub split_of : List ℕ → Result (Kind × List (List ℕ)) LineFault
split_of line = cond (nat_le (length line) 127) (of_kind (kind_of (front line) (fields (after line))) (fields (after line))) (Err Form)

-- r, if each field is a value of its kind; else the refusal that tells the first that is not, of fields numbered from n
abbrev pub check : {R : Type 0} → ℕ → List FieldKind → List (List ℕ) → R → Result R LineFault
check n [] ps r = Ok r
check n (k ∷ ks) [] r = Ok r
check n (k ∷ ks) (p ∷ ps) r = cond (is_value k p) (check (n + 1) ks ps r) (Err (Value n))

abbrev number_at : List (List ℕ) → ℕ → ℕ
number_at fs i = unwrap_or (number_of (slice_index_or fs i [])) 0

abbrev optional_at : List (List ℕ) → ℕ → Option ℕ
optional_at fs i = unwrap_or (optional_of (slice_index_or fs i [])) None

abbrev flag_at : List (List ℕ) → ℕ → Bool
flag_at fs i = unwrap_or (flag_of (slice_index_or fs i [])) false

abbrev pub target_as : TargetKind → ℕ → Target
target_as target_kind.Module n = target.Module n
target_as target_kind.Carrier n = target.Carrier n

-- the row that fields write, where each is a value of its kind
abbrev pub load_row : LoadKind → List (List ℕ) → LoadRow
load_row load.Mode fs = Mode (record { strict = flag_at fs 0; inline = unwrap_or (inline_of (slice_index_or fs 1 [])) inline.Off })
load_row load.Module fs = Module (record {
  kind = unwrap_or (module_kind_of (slice_index_or fs 0 [])) module_kind.Normal;
  exports = unwrap_or (exports_of (slice_index_or fs 1 [])) exports.None;
  wrap = unwrap_or (wrap_of (slice_index_or fs 2 [])) wrap.None;
  wrapper = optional_at fs 3;
  included = flag_at fs 4;
  inner = flag_at fs 5;
  side_effects = flag_at fs 6;
  namespace = optional_at fs 7;
})
load_row load.Symbol fs = Symbol (record { owner = number_at fs 0; canonical = number_at fs 1; through = number_at fs 2 })
load_row load.Record fs = Record (record {
  «module» = number_at fs 0;
  kind = unwrap_or (record_kind_of (slice_index_or fs 1 [])) record_kind.Import;
  importee = optional_at fs 2;
  star = flag_at fs 3;
  reexport_only = flag_at fs 4;
})
load_row load.Statement fs = Statement (record { «module» = number_at fs 0; included = flag_at fs 1 })
load_row load.Uses fs = Uses (record { statement = number_at fs 0; «record» = number_at fs 1 })
load_row load.Reads fs = Reads (record { statement = number_at fs 0; symbol = number_at fs 1 })
load_row load.Member fs = Member (record {
  statement = number_at fs 0;
  object = number_at fs 1;
  property = optional_at fs 2;
  resolution = unwrap_or (resolution_of (slice_index_or fs 3 [])) resolution.Open;
})
load_row load.Import fs = Import (record {
  «module» = number_at fs 0;
  local = number_at fs 1;
  imported_as = number_at fs 2;
  «record» = number_at fs 3;
  name = unwrap_or (imported_of (slice_index_or fs 4 [])) imported.Namespace;
})
load_row load.Export fs = Export (record {
  «module» = number_at fs 0;
  name = number_at fs 1;
  class = unwrap_or (class_of (slice_index_or fs 2 [])) class.Local;
  symbol = number_at fs 3;
  «record» = optional_at fs 4;
  imported = optional_at fs 5;
})
load_row load.Constant fs = Constant (record { symbol = number_at fs 0; commonjs = flag_at fs 1; safe = flag_at fs 2 })

abbrev pub mark_row : MarkKind → List (List ℕ) → MarkRow
mark_row mark.Wrapped fs = Wrapped (number_at fs 0) (number_at fs 1)
mark_row mark.Transparent fs = Transparent (number_at fs 0)
mark_row mark.Route fs = Route (number_at fs 0)
mark_row mark.LocalRecord fs = LocalRecord (number_at fs 0)
mark_row mark.Nested fs = Nested (number_at fs 0)
mark_row mark.Facade fs = Facade (number_at fs 0)
mark_row mark.Carrier fs = Carrier (number_at fs 0) (number_at fs 1) (flag_at fs 2)
mark_row mark.Bind fs = Bind (number_at fs 0) (number_at fs 1)

abbrev pub host_row : HostKind → List (List ℕ) → HostRow
host_row host.Used fs = Used (number_at fs 0)
host_row host.Reachable fs = Reachable (number_at fs 0)
host_row host.Owns fs = Owns (number_at fs 0)

abbrev pub ask_row : AskKind → List (List ℕ) → AskRow
ask_row ask.Record fs = question.Record (number_at fs 1)
ask_row ask.Circle fs = question.Circle
ask_row ask.Caller fs = question.Caller (number_at fs 1) (target_as (unwrap_or (target_of (slice_index_or fs 2 [])) target_kind.Module) (number_at fs 3))

abbrev pub row_in : Kind → List (List ℕ) → Row
row_in (kind.Load k) fs = Load (load_row k fs)
row_in (kind.Mark k) fs = Mark (mark_row k fs)
row_in (kind.Host k) fs = Host (host_row k fs)
row_in (kind.Ask k) fs = Ask (ask_row k fs)

-- the fields of one kind of row, read as values
abbrev pub read_as : Kind → List (List ℕ) → Result Row LineFault
read_as k fs = check 1 (shape k).kinds fs (row_in k fs)

abbrev pub read_split : Result (Kind × List (List ℕ)) LineFault → Result Row LineFault
read_split (Ok p) = read_as p.0 p.1
read_split (Err e) = Err e

-- the row that a line is, or its refusal
abbrev pub row_of : List ℕ → Result Row LineFault
row_of line = read_split (split_of line)
