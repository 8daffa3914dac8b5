use Rattle.std.proofs.Common.{◌≡◌, ℕ, ◌+◌, ◌/◌, ◌<◌, length, get_or, set, vec_items, vec_len, ap, ◌∙◌, arith}
use Rattle.std.proofs.lemmas.List.{get_or_read_under}
use Rattle.tables.specs.Flags.{bit, flag_at}
use Rattle.tables.proofs.Packing.{flag_padded, flag_here, flag_other, flags_push}
use Rattle.tables.proofs.flags.Flags.push.Goals as goal
use Rattle.tables.proofs.flags.Flags.push.Goals.{then-self-eq0, else-self-eq0}

pub returns-clause-flags : goal.returns-clause-flags
returns-clause-flags c =
    let f = c.args.self.now in
    let n = f.len in
    let old = vec_items f.words in
    let now = c.if-self-eq0.words in
    -- the words that are written to have the flags that there were, and enough words
    let padded : (vec_len now ≡ (n + 32) / 32) × ((k : ℕ) → flag_at (vec_items now) k ≡ flag_at old k) = elim c.if-self-eq0.branch [
      | then-self-eq0 w ↦ (
        ap vec_len w.words-is ∙ omega (arith, w.push_reserved.ensures.len, w.if-self-eq0.true, f.counted),
        λ k. ap (λ l. flag_at l k) (ap vec_items w.words-is ∙ w.push_reserved.ensures.items) ∙ flag_padded old k,
      )
      | else-self-eq0 w ↦ (
        ap vec_len w.words-is ∙ omega (arith, w.if-self-eq0.false, f.counted),
        λ k. ap (λ l. flag_at l k) (ap vec_items w.words-is),
      )
    ] in
    let inside : n / 32 < vec_len now = omega (arith, padded.0) in
    let lt : n / 32 < length (vec_items now) = omega (arith, now.ok.0) in
    let word : c.index.result.now ≡ get_or (vec_items now) (n / 32) 0 = get_or_read_under _ _ (vec_len now) _ 0 c.index.ensures inside now.ok.0 in
    flags_push old (set (vec_items now) (n / 32) c.with_bit.result) n c.args.on
    (flag_here (vec_items now) c.with_bit.result n lt ∙ c.with_bit.ensures.here)
    (λ k ne. flag_other (vec_items now) c.with_bit.result n lt (λ j away. c.with_bit.ensures.others j away ∙ ap (λ v. bit v j) word) k ne ∙ padded.1 k)
