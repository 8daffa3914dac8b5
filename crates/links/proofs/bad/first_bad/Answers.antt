use Rattle.std.proofs.Common.{rules, tests}
use Rattle.std.proofs.lemmas.Iterator.{YieldsList-from_slice}
use Rattle.std.proofs.lemmas.Iterator.Consumers.{YieldsList-from_enumerate}
use Rattle.tables.specs.View.{graph, limits_of}
use Rattle.links.specs.Bad.{bad_at}
use Rattle.links.proofs.Finds.{find_map_from_yields_List}
use Rattle.links.proofs.bad.first_bad.Goals as goal

pub returns : goal.returns
returns g c =
    let draft = c.args.draft.now in
    find_map_from_yields_List (λ p. bad_at g.T.Judged.TABLE p.0 (g.T.Judged.bad (limits_of draft).names (graph draft) p.1)) _ _ c.find_map.result c.find_map.ensures.ran c.find_map.ensures.runs
    (YieldsList-from_enumerate (YieldsList-from_slice c.args.rows.now cc) cc)
    (λ x r q k. search (rules, tests))
