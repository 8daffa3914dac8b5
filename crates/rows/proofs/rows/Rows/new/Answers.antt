use Rattle.std.proofs.Common.{refl, ap, ◌∙◌}
use Rattle.std.specs.List.{flat_map}
use Rattle.tables.specs.View.{graph}
use Rattle.rows.specs.Names.{names_in, one_above, reference_names, import_names, export_names}
use Rattle.rows.proofs.Above.{counted, least_above}
use Rattle.rows.proofs.rows.Rows.new.Goals as goal

pub invariant_of-result : goal.invariant_of-result
invariant_of-result c =
    let seen = c.slices-seen.ensures in
    record {
      counted = counted (graph c.args.draft) _ _ _ _ _
          (c.above_all.ensures ∙ ap (λ l. one_above (flat_map reference_names l)) seen.references)
          (c.above_all-2.ensures ∙ ap (λ l. one_above (flat_map import_names l)) seen.imports)
          (c.above_all-3.ensures ∙ ap (λ l. one_above (flat_map export_names l)) seen.exports)
          c.max.ensures c.max-names.ensures;
    }

pub returns : goal.returns
returns c =
    let seen = c.slices-seen.ensures in
    let count = counted (graph c.args.draft) _ _ _ _ _
    (c.above_all.ensures ∙ ap (λ l. one_above (flat_map reference_names l)) seen.references)
    (c.above_all-2.ensures ∙ ap (λ l. one_above (flat_map import_names l)) seen.imports)
    (c.above_all-3.ensures ∙ ap (λ l. one_above (flat_map export_names l)) seen.exports)
    c.max.ensures c.max-names.ensures in
    record { kept = refl; names = count; least = least_above (names_in (graph c.args.draft)) _ count }
