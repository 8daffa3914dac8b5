-- No row has a bad field exactly where the graph is sound.
use Rattle.std.proofs.Common.{◌≡◌, ℕ, zero, suc, ◌+◌, ◌<◌, Bool, true, false, ◌&&◌, List, [], ◌∷◌, length, refl, sym, ap, ◌∙◌, true≢false, arith}
use Rattle.std.specs.Prelude.{◌↔◌, Some, None, Option, All, IfSome, IsSomeAnd, IsTrue, ⊤, cond, is_some, slice_index_or}
use Rattle.std.specs.List.{enumerate_from}
use Rattle.std.specs.Option.{option_or, option_map}
use Rattle.line.specs.declared.kinds.LoadKind.{LoadKind}
use Rattle.line.specs.declared.rows.RecordRow.{RecordRow}
use Rattle.line.specs.declared.rows.ConstantRow.{ConstantRow}
use Rattle.line.specs.declared.rows.ExportRow.{ExportRow}
use Rattle.line.specs.declared.rows.ImportRow.{ImportRow}
use Rattle.line.specs.declared.rows.MemberRow.{MemberRow}
use Rattle.line.specs.declared.rows.ModuleRow.{ModuleRow}
use Rattle.line.specs.declared.rows.ReadsRow.{ReadsRow}
use Rattle.line.specs.declared.rows.StatementRow.{StatementRow}
use Rattle.line.specs.declared.rows.SymbolRow.{SymbolRow}
use Rattle.line.specs.declared.rows.UsesRow.{UsesRow}
use Rattle.values.specs.declared.values.Imported.{Imported}
use Rattle.values.specs.declared.values.Imported.TheVariants.{Namespace, Literal}
use Rattle.values.specs.declared.values.Resolution.{Resolution}
use Rattle.values.specs.declared.values.Resolution.TheVariants.{Open, Lost, To}
use Rattle.tables.specs.Graph.{Graph}
use Rattle.tables.specs.References.{reads_in, members_in}
use Rattle.line.specs.declared.kinds.LoadKind.TheVariants.{Module, Symbol, Record, Statement, Uses, Reads, Member, Import, Export, Constant}
use Rattle.links.specs.Bad.{find_map, bad_at, first_bad, bad_row}
use Rattle.links.specs.Fields.{missing, too_high, given, required, foreign}
use Rattle.links.specs.Rows.{bad_module, bad_symbol, bad_record, bad_statement, bad_uses, bad_reads, bad_member, bad_import, bad_export, bad_constant, unresolved, imports_too_high, reads_record, reads_imported}
use Rattle.links.specs.Sound.{IsModule, IsSymbol, IsRecordOf, SoundModule, SoundSymbol, SoundRecord, SoundStatement, SoundUses, SoundReads, SoundMember, SoundImport, SoundExport, SoundConstant, Sound}

abbrev Good : Bool → Type 0 → Type 0
Good bad P = (bad ≡ false) ↔ P

-- whether there is none, where it is read as something else
to : {A P Q : Type 0} → A ↔ P → (P → Q) → (Q → P) → A ↔ Q
to e forth back = ((λ a. forth (e.0 a)), λ q. e.1 (back q))

there : {T : Type 0} (rows : List T) (i : ℕ) → Good (missing rows i) (i < length rows)
there rows i = ((λ e. grind arith), λ l. grind arith)

low : (names n : ℕ) → Good (too_high names n) (n < names)
low names n = ((λ e. grind arith), λ l. grind arith)

given_is : (bad : ℕ → Bool) (P : ℕ → Type 0) → ((n : ℕ) → Good (bad n) (P n)) → (o : Option ℕ) → Good (given bad o) (IfSome o P)
given_is bad P good None = ((λ e. tt), λ t. refl)
given_is bad P good (Some n) = good n

required_is : (bad : ℕ → Bool) (P : ℕ → Type 0) → ((n : ℕ) → Good (bad n) (P n)) → (o : Option ℕ) → Good (required bad o) (IsSomeAnd o P)
required_is bad P good None = ((λ e. absurd (true≢false e)), λ t. absurd t)
required_is bad P good (Some n) = good n

of_module : (records : List RecordRow) (r m : ℕ) (d : RecordRow) → Good (foreign records r m) ((r < length records) × ((slice_index_or records r d).«module» ≡ m))
of_module [] r m d = ((λ e. absurd (true≢false e)), λ p. absurd (omega (arith, p.0)))
of_module (x ∷ xs) zero m d = ((λ e. (omega arith, grind arith)), λ p. grind (arith, p.1))
of_module (x ∷ xs) (suc r) m d = to (of_module xs r m d) (λ p. (omega (arith, p.0), p.1)) (λ p. (omega (arith, p.0), p.1))

own : (g : Graph) (m r : ℕ) → Good (foreign g.records r m) (IsRecordOf g m r)
own g m r = of_module g.records r m _

-- a field that is read in some cases only
read_is : (reads bad : Bool) (P : Type 0) → Good bad P → Good (reads && bad) (IsTrue reads → P)
read_is true bad P good = ((λ e t. good.0 e), λ p. good.1 (p refl))
read_is false bad P good = ((λ e t. absurd (true≢false (sym t))), λ p. refl)

abbrev leads : Resolution → Bool
leads Open = false
leads Lost = false
leads (To s) = true

resolved : (g : Graph) (o : Resolution) → Good (unresolved g o) ((s : ℕ) → o ≡ To s → IsSymbol g s)
resolved g Open = ((λ e s is. absurd (true≢false (sym (ap leads is)))), λ p. refl)
resolved g Lost = ((λ e s is. absurd (true≢false (sym (ap leads is)))), λ p. refl)
resolved g (To t) = ((λ e s is. (there g.symbols s).0 (sym (ap (unresolved g) is) ∙ e)), λ p. (there g.symbols t).1 (p t refl))

abbrev names_one : Imported → Bool
names_one Namespace = false
names_one (Literal n) = true

low_import : (names : ℕ) (o : Imported) → Good (imports_too_high names o) ((n : ℕ) → o ≡ Literal n → n < names)
low_import names Namespace = ((λ e n is. absurd (true≢false (sym (ap names_one is)))), λ p. refl)
low_import names (Literal m) = ((λ e n is. (low names n).0 (sym (ap (imports_too_high names) is) ∙ e)), λ p. (low names m).1 (p m refl))

-- a row has no bad field where its first is good and it has none among the others
abbrev NoneOf : Option (ℕ × Bool) → Type 0
NoneOf found = option_map (λ (f : ℕ × Bool). f.0) found ≡ None

field : (n : ℕ) (bad : Bool) (rest : Option (ℕ × Bool)) {P Q : Type 0} → Good bad P → NoneOf rest ↔ Q → NoneOf (cond bad (Some (n, bad)) rest) ↔ (P × Q)
field n true rest good others = ((λ e. absurd (true≢false (ap is_some e))), λ p. absurd (true≢false (good.1 p.0)))
field n false rest good others = ((λ e. (good.0 refl, others.0 e)), λ p. others.1 p.1)

no_more : NoneOf None ↔ ⊤
no_more = ((λ e. tt), λ t. refl)

module _ (names : ℕ) (g : Graph) where
  module_is : (r : ModuleRow) → (bad_module names g r ≡ None) ↔ SoundModule g r
  module_is r = to (field 4 _ _ (given_is (missing g.symbols) (IsSymbol g) (there g.symbols) r.wrapper) (field 8 _ _ (given_is (missing g.symbols) (IsSymbol g) (there g.symbols) r.namespace) no_more))
      (λ p. record { wrapper = p.0; namespace = p.1.0 }) (λ s. (s.wrapper, (s.namespace, tt)))

  symbol_is : (r : SymbolRow) → (bad_symbol names g r ≡ None) ↔ SoundSymbol g r
  symbol_is r = to (field 1 _ _ (there g.modules r.owner) (field 2 _ _ (there g.symbols r.canonical) (field 3 _ _ (there g.symbols r.through) no_more)))
      (λ p. record { owner = p.0; canonical = p.1.0; through = p.1.1.0 }) (λ s. (s.owner, (s.canonical, (s.through, tt))))

  record_is : (r : RecordRow) → (bad_record names g r ≡ None) ↔ SoundRecord g r
  record_is r = to (field 1 _ _ (there g.modules r.«module») (field 3 _ _ (given_is (missing g.modules) (IsModule g) (there g.modules) r.importee) no_more))
      (λ p. record { importer = p.0; importee = p.1.0 }) (λ s. (s.importer, (s.importee, tt)))

  statement_is : (r : StatementRow) → (bad_statement names g r ≡ None) ↔ SoundStatement g r
  statement_is r = to (field 1 _ _ (there g.modules r.«module») no_more) (λ p. p.0) (λ s. (s, tt))

  uses_is : (r : UsesRow) → (bad_uses names g r ≡ None) ↔ SoundUses g r
  uses_is r = to (field 1 _ _ (there g.statements r.statement) (field 2 _ _ (own g _ r.«record») no_more))
      (λ p. record { statement = p.0; its_record = p.1.0 }) (λ s. (s.statement, (s.its_record, tt)))

  reads_is : (r : ReadsRow) → (bad_reads names g r ≡ None) ↔ SoundReads g r
  reads_is r = to (field 1 _ _ (there g.statements r.statement) (field 2 _ _ (there g.symbols r.symbol) no_more))
      (λ p. record { statement = p.0; symbol = p.1.0 }) (λ s. (s.statement, (s.symbol, tt)))

  member_is : (r : MemberRow) → (bad_member names g r ≡ None) ↔ SoundMember names g r
  member_is r = to (field 1 _ _ (there g.statements r.statement) (field 2 _ _ (there g.symbols r.object)
      (field 3 _ _ (given_is (too_high names) (λ n. n < names) (low names) r.property) (field 4 _ _ (resolved g r.resolution) no_more))))
      (λ p. record { statement = p.0; object = p.1.0; property = p.1.1.0; resolution = p.1.1.1.0 }) (λ s. (s.statement, (s.object, (s.property, (s.resolution, tt)))))

  import_is : (r : ImportRow) → (bad_import names g r ≡ None) ↔ SoundImport names g r
  import_is r = to (field 1 _ _ (there g.modules r.«module») (field 2 _ _ (there g.symbols r.local) (field 3 _ _ (there g.symbols r.imported_as)
      (field 4 _ _ (own g r.«module» r.«record») (field 5 _ _ (low_import names r.name) no_more)))))
      (λ p. record { importer = p.0; local = p.1.0; imported_as = p.1.1.0; its_record = p.1.1.1.0; name = p.1.1.1.1.0 })
      (λ s. (s.importer, (s.local, (s.imported_as, (s.its_record, (s.name, tt))))))

  export_is : (r : ExportRow) → (bad_export names g r ≡ None) ↔ SoundExport names g r
  export_is r = to (field 1 _ _ (there g.modules r.«module») (field 2 _ _ (low names r.name) (field 4 _ _ (there g.symbols r.symbol)
      (field 5 _ _ (read_is (reads_record r.class) _ _ (required_is (λ s. foreign g.records s r.«module») (IsRecordOf g r.«module») (own g r.«module») r.«record»))
      (field 6 _ _ (read_is (reads_imported r.class) _ _ (required_is (too_high names) (λ n. n < names) (low names) r.imported)) no_more)))))
      (λ p. record { exporter = p.0; name = p.1.0; symbol = p.1.1.0; its_record = p.1.1.1.0; imported = p.1.1.1.1.0 })
      (λ s. (s.exporter, (s.name, (s.symbol, (s.its_record, (s.imported, tt))))))

  constant_is : (r : ConstantRow) → (bad_constant names g r ≡ None) ↔ SoundConstant g r
  constant_is r = to (field 1 _ _ (there g.symbols r.symbol) no_more) (λ p. p.0) (λ s. (s, tt))

-- neither of two finds is a find
neither : {T P Q : Type 0} (o p : Option T) → (o ≡ None) ↔ P → (p ≡ None) ↔ Q → (option_or o p ≡ None) ↔ (P × Q)
neither None p first others = ((λ e. (first.0 refl, others.0 e)), λ q. others.1 q.1)
neither (Some x) p first others = ((λ e. absurd (true≢false (ap is_some e))), λ q. absurd (true≢false (ap is_some (first.1 q.0))))

at_is : (kind : LoadKind) (i : ℕ) (bad : Option ℕ) → (bad_at kind i bad ≡ None) ↔ (bad ≡ None)
at_is kind i None = ((λ e. refl), λ e. refl)
at_is kind i (Some n) = ((λ e. absurd (true≢false (ap is_some e))), λ e. absurd (true≢false (ap is_some e)))

-- no row from number n on has a bad field where each is sound
rows_are : {T : Type 0} (kind : LoadKind) (bad : T → Option ℕ) (P : T → Type 0) → ((r : T) → (bad r ≡ None) ↔ P r) → (n : ℕ) (rows : List T)
    → (find_map (λ (p : ℕ × T). bad_at kind p.0 (bad p.1)) (enumerate_from n rows) ≡ None) ↔ All P rows
rows_are kind bad P is n [] = ((λ e k d l. absurd (omega arith)), λ a. refl)
rows_are kind bad P is n (r ∷ rs) = to (neither _ _ (to (at_is kind n (bad r)) (is r).0 (is r).1) (rows_are kind bad P is (n + 1) rs))
    each (λ a. (a zero r (omega arith), λ k d l. a (suc k) d (omega arith)))
  where
    each : P r × All P rs → All P (r ∷ rs)
    each p zero d l = p.0
    each p (suc k) d l = p.1 k d (omega arith)

table_is : {T : Type 0} (kind : LoadKind) (bad : T → Option ℕ) (P : T → Type 0) → ((r : T) → (bad r ≡ None) ↔ P r) → (rows : List T) → (first_bad kind bad rows ≡ None) ↔ All P rows
table_is kind bad P is rows = rows_are kind bad P is 0 rows

none_left : {T : Type 0} (o : Option T) → o ≡ None → (o ≡ None) ↔ ⊤
none_left o is = ((λ e. tt), λ t. is)

pub sound_is : (names : ℕ) (g : Graph) → (bad_row names g ≡ None) ↔ Sound names g
sound_is names g = to
    (neither _ _ (table_is Module _ _ (module_is names g) g.modules)
    (neither _ _ (table_is Symbol _ _ (symbol_is names g) g.symbols)
    (neither _ _ (table_is Record _ _ (record_is names g) g.records)
    (neither _ _ (table_is Statement _ _ (statement_is names g) g.statements)
    (neither _ _ (table_is Uses _ _ (uses_is names g) g.uses)
    (neither _ _ (table_is Reads _ _ (reads_is names g) (reads_in g.references))
    (neither _ _ (table_is Member _ _ (member_is names g) (members_in g.references))
    (neither _ _ (table_is Import _ _ (import_is names g) g.imports)
    (neither _ _ (table_is Export _ _ (export_is names g) g.exports)
    (neither _ _ (table_is Constant _ _ (constant_is names g) g.constants) (none_left None refl)))))))))))
    (λ p. record {
      modules = p.0;
      symbols = p.1.0;
      records = p.1.1.0;
      statements = p.1.1.1.0;
      uses = p.1.1.1.1.0;
      reads = p.1.1.1.1.1.0;
      members = p.1.1.1.1.1.1.0;
      imports = p.1.1.1.1.1.1.1.0;
      exports = p.1.1.1.1.1.1.1.1.0;
      constants = p.1.1.1.1.1.1.1.1.1.0;
    })
    (λ s. (s.modules, (s.symbols, (s.records, (s.statements, (s.uses, (s.reads, (s.members, (s.imports, (s.exports, (s.constants, tt)))))))))))
