use Rattle.std.proofs.Common.{◌≡◌, rules, arith, vec_items, ap, ◌∙◌}
use Rattle.std.proofs.lemmas.List.FromFn.{length-map-range_with_len}
use Rattle.std.proofs.lemmas.Grind.{common_steps}
use Rattle.tables.specs.contracts.statements.Statements.{the_row}
use Rattle.tables.specs.Flags.{statements_of}
use Rattle.tables.specs.Room.{rows_of, limit_of, below, fits}
use Rattle.tables.proofs.Packing.{rows_push}
use Rattle.tables.proofs.statements.Statements.push.Goals as goal

pub returns-in_err-push : goal.returns-in_err-push
returns-in_err-push c =
    let s = c.args.self.now in
    let alike : fits (statements_of s) (limit_of s.modules) ≡ fits (rows_of s.modules) (limit_of s.modules) = ap (λ n. below n (limit_of s.modules)) (length-map-range_with_len _ 0 _) in
    record { value = search rules; after = search rules; limits = search rules; refused = grind (arith, common_steps, the_row.coded.inj, c.push.ensures.refused, c.in_err-push.was) }

pub returns : goal.returns
returns c =
    let s = c.args.self.now in
    let ms = rows_of s.modules in
    let alike : fits (statements_of s) (limit_of s.modules) ≡ fits ms (limit_of s.modules) = ap (λ n. below n (limit_of s.modules)) (length-map-range_with_len _ 0 _) in
    record {
      value = search rules;
      after = rows_push ms (rows_of c.push.new.self) (vec_items s.included.words) (vec_items c.push-2.new.self.words) c.args.row s.included.len c.push-2.new.self.len
          (s.one_length ∙ s.modules.rows.ok.0) c.push-2.ensures.len (search rules) c.push-2.ensures.flags;
      limits = search rules;
      refused = search rules;
    }
