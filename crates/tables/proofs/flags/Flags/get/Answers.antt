use Rattle.std.proofs.Common.{◌≡◌, ◌/◌, ◌%◌, ◌<◌, false, get_or, vec_items, vec_len, sym, ap, ◌∙◌, arith, le-ltb}
use Rattle.std.proofs.lemmas.List.{get_or_past, get_or_read_under}
use Rattle.std.proofs.lemmas.List.FromFn.{length-map-range_with_len, get_or-map-range_with_len}
use Rattle.tables.specs.Flags.{bit, flag_at}
use Rattle.tables.proofs.flags.Flags.get.Goals as goal

pub returns-then-i-self : goal.returns-then-i-self
returns-then-i-self c =
    let f = c.args.self.now in
    let i = c.args.i in
    let inside : i / 32 < vec_len f.words = omega (arith, f.counted) in
    let word : c.index.result.now ≡ get_or (vec_items f.words) (i / 32) 0 = get_or_read_under _ _ (vec_len f.words) _ 0 c.index.ensures inside f.words.ok.0 in
    ap (λ w. bit w (i % 32)) word ∙ sym (get_or-map-range_with_len (flag_at (vec_items f.words)) 0 f.len i i false c.if-i-self.true (omega arith))

pub returns-else-i-self : goal.returns-else-i-self
returns-else-i-self c =
    let f = c.args.self.now in
    le-ltb c.args.i f.len c.if-i-self.false ∙ sym (get_or_past _ c.args.i false (omega (arith, length-map-range_with_len (flag_at (vec_items f.words)) 0 f.len)))
