use Rattle.std.proofs.Common.{◌≡◌, refl, sym, rules, tests, ◌∙◌}
use Rattle.std.specs.List.{position}
use Rattle.std.proofs.lemmas.Iterator.{YieldsList-from_slice}
use Rattle.std.proofs.lemmas.Iterator.Search.{position_from_yields_List}
use Rattle.parts.proofs.Cuts.{comma, at_comma, at_end, joined_by, plain_by}
use Rattle.parts.proofs.fields.field.Goals as goal

pub returns-in-Some : goal.returns-in-Some
returns-in-Some c =
    let xs = c.args.line.now in
    let at : c.position.result ≡ position comma xs = position_from_yields_List comma _ _ c.position.result c.position.ensures.ran (YieldsList-from_slice xs (cc)) (λ x b q k. search (rules, tests)) in
    let cut = at_comma xs c.in-Some.i (sym c.in-Some.is ∙ at) in
    record { first = cut.0; second = cut.1; whole = joined_by xs _ _ cut.0 cut.1; plain = plain_by xs _ cut.0 }

pub returns-in-None : goal.returns-in-None
returns-in-None c =
    let xs = c.args.line.now in
    let at : c.position.result ≡ position comma xs = position_from_yields_List comma _ _ c.position.result c.position.ensures.ran (YieldsList-from_slice xs (cc)) (λ x b q k. search (rules, tests)) in
    let all = at_end xs (sym c.in-None.is ∙ at) in
    record { first = all.0; second = all.1; whole = refl; plain = plain_by xs _ all.0 }
