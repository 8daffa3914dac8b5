use Rattle.std.proofs.Common.{◌≡◌, ℕ, ◌≤◌, ◌*◌, ◌%◌, ◌^◌, eqb, bit_and, sym, ap, ◌∙◌, ⊎_elim, w32, arith}
use Rattle.std.specs.Int.{bit_at, bit_not}
use Rattle.std.proofs.lemmas.Bool.{cases_lt}
use Rattle.std.proofs.lemmas.Nat.Bits.{bit_at_set_same, bit_at_set_other, bit_at_clear_same, bit_at_clear_other, bit_at_and, bit_at_above}
use Rattle.tables.proofs.packs.with_bit.Goals as goal

pub returns-then-on : goal.returns-then-on
returns-then-on c = record {
  here = ap (λ n. eqb n 1) (bit_at_set_same w32 c.args.word c.args.k c.requires) ∙ sym c.if-on.true;
  others = λ j ne. ap (λ n. eqb n 1) (bit_at_set_other w32 c.args.word c.args.k c.requires j ne);
}

pub returns-else-on : goal.returns-else-on
returns-else-on c =
    let word = c.args.word in
    let mask = bit_not w32 (1 * 2 ^ c.args.k % 2 ^ 32) in
    -- no bit stands past the word
    let past : (j : ℕ) → 32 ≤ j → bit_at (bit_and word mask) j ≡ bit_at word j = λ j high. omega (arith, bit_at_and word mask j, bit_at_above word 32 j (omega (arith, c.ranges.word)) high) in
    record {
      here = ap (λ n. eqb n 1) (bit_at_clear_same w32 word c.args.k c.requires) ∙ sym c.if-on.false;
      others = λ j ne. ap (λ n. eqb n 1) (⊎_elim (λ low. bit_at_clear_other w32 word c.args.k c.requires j low ne) (past j) (cases_lt j 32));
    }
