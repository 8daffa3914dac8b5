use Rattle.std.proofs.Common.{false, map, length, get_or, vec_items, ap, ◌∙◌}
use Rattle.std.specs.List.{range_with_len}
use Rattle.tables.specs.Flags.{no_statement, statement_at, flag_at}
use Rattle.tables.specs.Room.{rows_of}
use Rattle.tables.proofs.Packing.{row_flag}
use Rattle.tables.proofs.statements.Statements.is_included.Goals as goal

pub returns : goal.returns
returns c =
    let s = c.args.self.now in
    let ms = rows_of s.modules in
    let ws = vec_items s.included.words in
    c.get.ensures ∙ ap (λ n. get_or (map (flag_at ws) (range_with_len 0 n)) c.args.statement false) (s.one_length ∙ s.modules.rows.ok.0)
    ∙ row_flag (statement_at ms ws) no_statement (range_with_len 0 (length ms)) c.args.statement
