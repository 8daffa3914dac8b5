use Rattle.std.proofs.Common.{◌≡◌, ◌+◌, ◌-◌, ◌*◌, ◌<◌, ◌≤◌, get_or, length, sym, ◌∙◌, arith, rules, tests}
use Rattle.values.proofs.Numbers.{well_begun, none_large}
use Rattle.values.proofs.scalars.digits.Goals as goal

pub returns-in_err-checked_mul : goal.returns-in_err-checked_mul
returns-in_err-checked_mul c =
    let ds = c.args.part.now in
    let big : 65535 < c.loop-d.n * 10 + (get_or ds c.loop-d.d-index 0 - 48) = omega (arith, c.in_err-checked_mul.ensures) in
    let lo : 48 ≤ get_or ds c.loop-d.d-index 0 = search (rules, tests) in
    let hi : get_or ds c.loop-d.d-index 0 ≤ 57 = search (rules, tests) in
    let some : length ds ≡ 0 → ⊥ = search (rules, tests) in
    c.from_residual.ensures ∙ sym (well_begun ds some c.else-part-eq48.either ∙ none_large ds _ _ c.loop-d-test.true c.loop-d.invariant.1 lo hi big)

pub returns-in_err-n : goal.returns-in_err-n
returns-in_err-n c =
    let ds = c.args.part.now in
    let big : 65535 < c.loop-d.n * 10 + (get_or ds c.loop-d.d-index 0 - 48) = omega (arith, c.in_err-n.ensures, c.in_ok-checked_mul.ensures, c.from.ensures) in
    let lo : 48 ≤ get_or ds c.loop-d.d-index 0 = search (rules, tests) in
    let hi : get_or ds c.loop-d.d-index 0 ≤ 57 = search (rules, tests) in
    let some : length ds ≡ 0 → ⊥ = search (rules, tests) in
    c.from_residual-in_err-n.ensures ∙ sym (well_begun ds some c.else-part-eq48.either ∙ none_large ds _ _ c.loop-d-test.true c.loop-d.invariant.1 lo hi big)
