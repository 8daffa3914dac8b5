use Rattle.std.proofs.Common.{sym, ◌∙◌}
use Rattle.std.proofs.lemmas.List.FromFn.{length-map-range_with_len}
use Rattle.tables.proofs.statements.Statements.len.Goals as goal

pub returns : goal.returns
returns c = c.len.ensures ∙ sym (length-map-range_with_len _ 0 _)
