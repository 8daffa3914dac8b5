-- The first row of a graph with a bad field, and the field: over the tables in their order, and in a table by rising number.
use Rattle.std.specs.Prelude.{ℕ, List, [], ◌∷◌, None, Option}
use Rattle.std.specs.List.{enumerate_from}
use Rattle.std.specs.Option.{option_or, option_map}
use Rattle.faults.specs.declared.told.BadRow.{BadRow}
use Rattle.line.specs.declared.kinds.LoadKind.{LoadKind}
use Rattle.line.specs.declared.kinds.LoadKind.TheVariants.{Module, Symbol, Record, Statement, Uses, Reads, Member, Import, Export, Constant}
use Rattle.tables.specs.Graph.{Graph}
use Rattle.tables.specs.References.{reads_in, members_in}
use Rattle.links.specs.Rows.{bad_module, bad_symbol, bad_record, bad_statement, bad_uses, bad_reads, bad_member, bad_import, bad_export, bad_constant}

-- what `find_map` gives: the first that f gives of the items
abbrev pub find_map : {X Y : Type 0} → (X → Option Y) → List X → Option Y
find_map f [] = None
find_map f (x ∷ xs) = option_or (f x) (find_map f xs)

-- the row of a table with this number, where it has a bad field
abbrev pub bad_at : LoadKind → ℕ → Option ℕ → Option BadRow
bad_at kind i bad = option_map (λ n. record { row = record { table = kind; number = i }; field = n }) bad

-- the first row of a table with a bad field
abbrev pub first_bad : {T : Type 0} → LoadKind → (T → Option ℕ) → List T → Option BadRow
first_bad {T} kind bad rows = find_map (λ (p : ℕ × T). bad_at kind p.0 (bad p.1)) (enumerate_from 0 rows)

-- the first over the tables; `reads` and `member` rows are numbered each by their own word, and a mode has no field that can be bad
abbrev pub bad_row : ℕ → Graph → Option BadRow
bad_row names g = find_map (λ found. found)
    (first_bad Module (bad_module names g) g.modules
    ∷ first_bad Symbol (bad_symbol names g) g.symbols
    ∷ first_bad Record (bad_record names g) g.records
    ∷ first_bad Statement (bad_statement names g) g.statements
    ∷ first_bad Uses (bad_uses names g) g.uses
    ∷ first_bad Reads (bad_reads names g) (reads_in g.references)
    ∷ first_bad Member (bad_member names g) (members_in g.references)
    ∷ first_bad Import (bad_import names g) g.imports
    ∷ first_bad Export (bad_export names g) g.exports
    ∷ first_bad Constant (bad_constant names g) g.constants
    ∷ [])
