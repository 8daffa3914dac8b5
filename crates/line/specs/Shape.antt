-- Every kind of row: its word, and from left to right the kinds of its fields.
use Rattle.std.specs.Prelude.{ℕ, Bool, List, [], ◌∷◌, is_some, codes}
use Rattle.std.specs.Str.{bytes_eq}
use Rattle.line.specs.declared.kinds.Kind.{Kind}
use Rattle.line.specs.declared.kinds.Kind.TheVariants.{Load, Mark, Host, Ask}
use Rattle.line.specs.declared.kinds.LoadKind.{LoadKind}
use Rattle.line.specs.declared.kinds.LoadKind.TheVariants as load
use Rattle.line.specs.declared.kinds.MarkKind.{MarkKind}
use Rattle.line.specs.declared.kinds.HostKind.{HostKind}
use Rattle.line.specs.declared.kinds.AskKind.{AskKind}
use Rattle.line.specs.declared.kinds.MarkKind.TheVariants as mark
use Rattle.line.specs.declared.kinds.HostKind.TheVariants as host
use Rattle.line.specs.declared.kinds.AskKind.TheVariants as ask
use Rattle.values.specs.Values.{number_of, optional_of, imported_of, flag_of, inline_of, module_kind_of, exports_of, wrap_of, record_kind_of, class_of, resolution_of, target_of}

-- the kinds of values that a field can have to be
pub data FieldKind : Type 0 where
  number : FieldKind  -- a decimal number without leading zeros, at most 65,535
  optional : FieldKind  -- such a number, or `-`
  imported : FieldKind  -- such a number, or `*`
  flag : FieldKind  -- `0` or `1`
  inline : FieldKind  -- `none`, `smart` or `all`
  module_kind : FieldKind  -- `normal` or `external`
  exports : FieldKind  -- `none`, `esm` or `cjs`
  wrap : FieldKind  -- `none`, `cjs` or `esm`
  record_kind : FieldKind  -- `import` or `other`
  class : FieldKind  -- `local`, `indirect` or `all`
  resolution : FieldKind  -- `open`, `lost` or a number
  target : FieldKind  -- `module` or `carrier`
  word : List ℕ → FieldKind  -- this word

abbrev pub is_value : FieldKind → List ℕ → Bool
is_value number p = is_some (number_of p)
is_value optional p = is_some (optional_of p)
is_value imported p = is_some (imported_of p)
is_value flag p = is_some (flag_of p)
is_value inline p = is_some (inline_of p)
is_value module_kind p = is_some (module_kind_of p)
is_value exports p = is_some (exports_of p)
is_value wrap p = is_some (wrap_of p)
is_value record_kind p = is_some (record_kind_of p)
is_value class p = is_some (class_of p)
is_value resolution p = is_some (resolution_of p)
is_value target p = is_some (target_of p)
is_value (word w) p = bytes_eq p w

pub record Shape : Type 0 where
  pub word_of : List ℕ
  pub kinds : List FieldKind

abbrev row : List ℕ → List FieldKind → Shape
row w ks = record { word_of = w; kinds = ks }

abbrev pub shape : Kind → Shape
shape (Load load.Mode) = row (codes "mode") (flag ∷ inline ∷ [])
shape (Load load.Module) = row (codes "module") (module_kind ∷ exports ∷ wrap ∷ optional ∷ flag ∷ flag ∷ flag ∷ optional ∷ [])
shape (Load load.Symbol) = row (codes "symbol") (number ∷ number ∷ number ∷ [])
shape (Load load.Record) = row (codes "record") (number ∷ record_kind ∷ optional ∷ flag ∷ flag ∷ [])
shape (Load load.Statement) = row (codes "statement") (number ∷ flag ∷ [])
shape (Load load.Uses) = row (codes "uses") (number ∷ number ∷ [])
shape (Load load.Reads) = row (codes "reads") (number ∷ number ∷ [])
shape (Load load.Member) = row (codes "member") (number ∷ number ∷ optional ∷ resolution ∷ [])
shape (Load load.Import) = row (codes "import") (number ∷ number ∷ number ∷ number ∷ imported ∷ [])
shape (Load load.Export) = row (codes "export") (number ∷ number ∷ class ∷ number ∷ optional ∷ optional ∷ [])
shape (Load load.Constant) = row (codes "constant") (number ∷ flag ∷ flag ∷ [])
shape (Mark mark.Wrapped) = row (codes "wrapped") (number ∷ number ∷ [])
shape (Mark mark.Transparent) = row (codes "transparent") (number ∷ [])
shape (Mark mark.Route) = row (codes "route") (number ∷ [])
shape (Mark mark.LocalRecord) = row (codes "localrecord") (number ∷ [])
shape (Mark mark.Nested) = row (codes "nested") (number ∷ [])
shape (Mark mark.Facade) = row (codes "facade") (number ∷ [])
shape (Mark mark.Carrier) = row (codes "carrier") (number ∷ number ∷ flag ∷ [])
shape (Mark mark.Bind) = row (codes "bind") (number ∷ number ∷ [])
shape (Host host.Used) = row (codes "used") (number ∷ [])
shape (Host host.Reachable) = row (codes "reachable") (number ∷ [])
shape (Host host.Owns) = row (codes "owns") (number ∷ [])
shape (Ask ask.Record) = row (codes "ask") (word (codes "record") ∷ number ∷ [])
shape (Ask ask.Circle) = row (codes "ask") (word (codes "circle") ∷ [])
shape (Ask ask.Caller) = row (codes "ask") (word (codes "caller") ∷ number ∷ target ∷ number ∷ [])

abbrev pub load_word : LoadKind → List ℕ
load_word k = (shape (Load k)).word_of

abbrev pub mark_word : MarkKind → List ℕ
mark_word k = (shape (Mark k)).word_of

abbrev pub host_word : HostKind → List ℕ
host_word k = (shape (Host k)).word_of

-- the word by which a question is told, the first field of an ask row
abbrev pub question_word : AskKind → List ℕ
question_word ask.Record = codes "record"
question_word ask.Circle = codes "circle"
question_word ask.Caller = codes "caller"
