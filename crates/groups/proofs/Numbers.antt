-- The numbers of the rows of one owner.
use Rattle.std.proofs.Common.{◌≡◌, ℕ, zero, suc, ◌+◌, ◌<◌, ◌≤◌, cond, eqb, List, [], ◌∷◌, ◌++◌, length, get_or, drop, sym, refl, ap, ◌∙◌, ⊎_elim, arith, eq-eqb, ne_eqb, eqb-true}
use Rattle.std.specs.List.{range_with_len, flat_map}
use Rattle.std.proofs.lemmas.Bool.{cases_Bool}
use Rattle.std.proofs.lemmas.List.{drop_more, length-append}
use Rattle.groups.specs.Owned.{numbers_from, numbers_of}

-- a row of the owner takes room that was left
module _ {T : Type 0} (owner : T → ℕ) (i k : ℕ) (rows : List T) (x : T) where
  pub next_fits : (now old : List ℕ) → k < length rows → x ≡ get_or rows k x → owner x ≡ i → now ++ numbers_from owner i k (drop k rows) ≡ old ++ numbers_of owner rows i → length now + 1 ≤ length old + length (numbers_of owner rows i)
  next_fits now old lt is mine so =
      let rest = numbers_from owner i (k + 1) (drop (k + 1) rows) in
      let here : numbers_from owner i k (drop k rows) ≡ k ∷ rest =
      ap (numbers_from owner i k) (drop_more rows k x lt ∙ ap (λ y. y ∷ drop (k + 1) rows) (sym is)) ∙ ap (λ b. cond b (k ∷ rest) rest) (eq-eqb (owner x) i mine) in
      let long : length now + length (k ∷ rest) ≡ length old + length (numbers_of owner rows i) =
      sym (length-append now (k ∷ rest)) ∙ ap (λ l. length (now ++ l)) (sym here) ∙ ap length so ∙ length-append old (numbers_of owner rows i) in
      omega (arith, long)

-- how many of n numbers from a on are this one: one at the most
abbrev hits : ℕ → ℕ → ℕ → ℕ
hits o a zero = 0
hits o a (suc n) = cond (eqb o a) 1 0 + hits o (a + 1) n

none_before : (o a n : ℕ) → o < a → hits o a n ≡ 0
none_before o a zero lt = refl
none_before o a (suc n) lt = ap (λ b. cond b 1 0 + hits o (a + 1) n) (ne_eqb o a (λ e. omega arith)) ∙ omega (arith, none_before o (a + 1) n (omega arith))

one_hit : (o a n : ℕ) → hits o a n ≤ 1
one_hit o a zero = omega arith
one_hit o a (suc n) = ⊎_elim
    (λ e. let o_is = eqb-true o a e in rw e (omega (arith, none_before o (a + 1) n (omega arith))))
    (λ e. rw e (omega (arith, one_hit o (a + 1) n)))
    (cases_Bool (eqb o a))

module _ {T : Type 0} (owner : T → ℕ) where
  abbrev all_from : ℕ → ℕ → ℕ → List T → List ℕ
  all_from k a n rows = flat_map (λ i. numbers_from owner i k rows) (range_with_len a n)

  no_rows : (k a n : ℕ) → length (all_from k a n []) ≡ 0
  no_rows k a zero = refl
  no_rows k a (suc n) = no_rows k (a + 1) n

  -- each row is among the rows of one owner at the most
  row_more : (k a n : ℕ) (x : T) (xs : List T) → length (all_from k a n (x ∷ xs)) ≡ hits (owner x) a n + length (all_from (k + 1) a n xs)
  row_more k a zero x xs = refl
  row_more k a (suc n) x xs =
      let rest = numbers_from owner a (k + 1) xs in
      let head : length (cond (eqb (owner x) a) (k ∷ rest) rest) ≡ cond (eqb (owner x) a) 1 0 + length rest = ⊎_elim (λ e. rw e (omega arith)) (λ e. rw e (omega arith)) (cases_Bool (eqb (owner x) a)) in
      omega (
        arith,
        head,
        row_more k (a + 1) n x xs,
        length-append (cond (eqb (owner x) a) (k ∷ rest) rest) (all_from k (a + 1) n (x ∷ xs)),
        length-append rest (all_from (k + 1) (a + 1) n xs),
      )

  all_fit : (k a n : ℕ) (rows : List T) → length (all_from k a n rows) ≤ length rows
  all_fit k a n [] = omega (arith, no_rows k a n)
  all_fit k a n (x ∷ xs) = omega (arith, row_more k a n x xs, one_hit (owner x) a n, all_fit (k + 1) a n xs)

  -- the rows of the first owners are not more than there are rows
  pub owners_fit : (rows : List T) (n : ℕ) → length (flat_map (numbers_of owner rows) (range_with_len 0 n)) ≤ length rows
  owners_fit rows n = all_fit 0 0 n rows
