-- Flags that stand thirty-two to a word, the first in the lowest bit.
use Rattle.std.specs.Prelude.{ℕ, ◌/◌, ◌%◌, ◌^◌, Bool, false, List, map, length, vec_items, ◌==◌, slice_index}
use Rattle.std.specs.List.{range_with_len}
use Rattle.line.specs.declared.rows.StatementRow.{StatementRow}
use Rattle.tables.specs.declared.flags.Flags.{Flags}
use Rattle.tables.specs.declared.statements.Statements.{Statements}
use Rattle.tables.specs.Room.{rows_of, limit_of}

-- bit k of a word
abbrev pub bit : ℕ → ℕ → Bool
bit word k = word / 2 ^ k % 2 == 1

-- flag i of some words
abbrev pub flag_at : List ℕ → ℕ → Bool
flag_at words i = bit (slice_index words (i / 32)) (i % 32)

-- all flags, in order
abbrev pub flags_of : Flags → List Bool
flags_of f = map (flag_at (vec_items f.words)) (range_with_len 0 f.len)

abbrev pub statement_at : List ℕ → List ℕ → ℕ → StatementRow
statement_at modules words i = record { «module» = slice_index modules i; included = flag_at words i }

-- the statements as rows
abbrev pub statements_of : Statements → List StatementRow
statements_of s = map (statement_at (rows_of s.modules) (vec_items s.included.words)) (range_with_len 0 (length (rows_of s.modules)))

abbrev pub statement_limit : Statements → ℕ
statement_limit s = limit_of s.modules

-- stands past the end of the table
abbrev pub no_statement : StatementRow
no_statement = record { «module» = 0; included = false }
