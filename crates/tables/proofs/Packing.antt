-- The flags of statements, and one more of them.
use Rattle.std.proofs.Common.{◌≡◌, ℕ, zero, suc, ◌+◌, ◌/◌, ◌%◌, ◌<◌, Bool, false, List, [], ◌∷◌, ◌++◌, map, length, get_or, set, sym, refl, ap, ◌∙◌, ⊎_elim, arith}
use mathlib.Core.List.{map-map}
use Rattle.std.specs.List.{range_with_len}
use Rattle.std.proofs.lemmas.Nat.{div-add-mod'}
use Rattle.std.proofs.lemmas.List.FromFn.{length-map-range_with_len, get_or-map-range_with_len, map-range_with_len_more, fill_by_all}
use Rattle.std.proofs.lemmas.List.{get_or_append_left, get_or_push, get_or-set_same, get_or-set_other, length_push}
use Rattle.std.proofs.lemmas.Bool.{cases_eq}
use Rattle.line.specs.declared.rows.StatementRow.{StatementRow}
use Rattle.tables.specs.Flags.{bit, flag_at, statement_at}
use Rattle.tables.specs.Slices.{module_of_statement}

-- a word of no flags at the end changes none
zero_word : (ws : List ℕ) (j : ℕ) → get_or (ws ++ 0 ∷ []) j 0 ≡ get_or ws j 0
zero_word [] zero = refl
zero_word [] (suc j) = refl
zero_word (w ∷ ws) zero = refl
zero_word (w ∷ ws) (suc j) = zero_word ws j

pub flag_padded : (ws : List ℕ) (k : ℕ) → flag_at (ws ++ 0 ∷ []) k ≡ flag_at ws k
flag_padded ws k = ap (λ w. bit w (k % 32)) (zero_word ws (k / 32))

-- a word written where flag n stands
module _ (ws : List ℕ) (w n : ℕ) (lt : n / 32 < length ws) where
  pub flag_here : flag_at (set ws (n / 32) w) n ≡ bit w (n % 32)
  flag_here = ap (λ v. bit v (n % 32)) (get_or-set_same ws (n / 32) w 0 lt)

  pub flag_other : ((j : ℕ) → (j ≡ n % 32 → ⊥) → bit w j ≡ bit (get_or ws (n / 32) 0) j) → (k : ℕ) → (k ≡ n → ⊥) → flag_at (set ws (n / 32) w) k ≡ flag_at ws k
  flag_other same k ne = ⊎_elim at_word (λ o. ap (λ v. bit v (k % 32)) (get_or-set_other ws (n / 32) (k / 32) w 0 o)) (cases_eq (k / 32) (n / 32))
    where
      at_word : k / 32 ≡ n / 32 → flag_at (set ws (n / 32) w) k ≡ flag_at ws k
      at_word e =
          let apart : k % 32 ≡ n % 32 → ⊥ = λ r. ne (omega (arith, div-add-mod' k 32, div-add-mod' n 32)) in
          ap (λ i. bit (get_or (set ws (n / 32) w) i 0) (k % 32)) e ∙ ap (λ v. bit v (k % 32)) (get_or-set_same ws (n / 32) w 0 lt)
          ∙ same (k % 32) apart ∙ sym (ap (λ i. bit (get_or ws i 0) (k % 32)) e)

-- two functions that agree below n list the same
listed_same : {X : Type 0} (f g : ℕ → X) (n : ℕ) → ((k : ℕ) → k < n → f k ≡ g k) → map f (range_with_len 0 n) ≡ map g (range_with_len 0 n)
listed_same f g zero same = refl
listed_same f g (suc n) same =
    fill_by_all g (map f (range_with_len 0 (suc n))) (suc n) (f 0) (length-map-range_with_len f 0 (suc n))
    (λ k lt. get_or-map-range_with_len f 0 (suc n) k k (f 0) lt (omega arith) ∙ same k lt)

-- all flags with one more
pub flags_push : (ws ws' : List ℕ) (n : ℕ) (on : Bool) → flag_at ws' n ≡ on → ((k : ℕ) → (k ≡ n → ⊥) → flag_at ws' k ≡ flag_at ws k)
    → map (flag_at ws') (range_with_len 0 (n + 1)) ≡ map (flag_at ws) (range_with_len 0 n) ++ on ∷ []
flags_push ws ws' n on here others =
    map-range_with_len_more (flag_at ws') 0 n n (omega arith)
    ∙ ap (λ l. l ++ flag_at ws' n ∷ []) (listed_same (flag_at ws') (flag_at ws) n (λ k lt. others k (λ e. omega arith)))
    ∙ ap (λ b. map (flag_at ws) (range_with_len 0 n) ++ b ∷ []) here

-- the rows of statements with one more, where their flags are those that there were with one more
module _ (ms ms' ws ws' : List ℕ) (row : StatementRow) (n n' : ℕ) (long : n ≡ length ms) (one : n' ≡ n + 1) (is : ms' ≡ ms ++ row.«module» ∷ [])
    (more : map (flag_at ws') (range_with_len 0 n') ≡ map (flag_at ws) (range_with_len 0 n) ++ row.included ∷ []) where
  abbrev flags : List Bool
  flags = map (flag_at ws) (range_with_len 0 n)

  at : (k : ℕ) → k < n + 1 → flag_at ws' k ≡ get_or (flags ++ row.included ∷ []) k false
  at k lt =
      sym (get_or-map-range_with_len (flag_at ws') 0 (n + 1) k k false lt (omega arith))
      ∙ ap (λ j. get_or (map (flag_at ws') (range_with_len 0 j)) k false) (sym one) ∙ ap (λ l. get_or l k false) more

  made : (a a' : ℕ) (b b' : Bool) → a ≡ a' → b ≡ b' → ◌≡◌ {A = StatementRow} (record { «module» = a; included = b }) (record { «module» = a'; included = b' })
  made a a' b b' p q = cc

  before : (k : ℕ) → k < n → statement_at (ms ++ row.«module» ∷ []) ws' k ≡ statement_at ms ws k
  before k lt =
      made _ _ _ _ (get_or_append_left ms (row.«module» ∷ []) 0 k (omega arith))
      (at k (omega arith) ∙ get_or_append_left flags (row.included ∷ []) false k (omega (arith, length-map-range_with_len (flag_at ws) 0 n)) ∙ get_or-map-range_with_len (flag_at ws) 0 n k k false lt (omega arith))

  last : statement_at (ms ++ row.«module» ∷ []) ws' n ≡ row
  last = made _ _ _ _ (get_or_push ms row.«module» 0 n (sym long)) (at n (omega arith) ∙ get_or_push flags row.included false n (length-map-range_with_len (flag_at ws) 0 n))

  pub rows_push : map (statement_at ms' ws') (range_with_len 0 (length ms')) ≡ map (statement_at ms ws) (range_with_len 0 (length ms)) ++ row ∷ []
  rows_push =
      let f = statement_at (ms ++ row.«module» ∷ []) ws' in
      ap (λ l. map (statement_at l ws') (range_with_len 0 (length l))) is
      ∙ ap (λ j. map f (range_with_len 0 j)) (length_push ms row.«module» ∙ ap (λ j. j + 1) (sym long))
      ∙ map-range_with_len_more f 0 n n (omega arith)
      ∙ ap (λ l. l ++ f n ∷ []) (listed_same f (statement_at ms ws) n before)
      ∙ ap (λ r. map (statement_at ms ws) (range_with_len 0 n) ++ r ∷ []) last
      ∙ ap (λ j. map (statement_at ms ws) (range_with_len 0 j) ++ row ∷ []) long

-- the flag of a row, past the end too
pub row_flag : (row : ℕ → StatementRow) (d : StatementRow) (xs : List ℕ) (i : ℕ) → get_or (map (λ k. (row k).included) xs) i d.included ≡ (get_or (map row xs) i d).included
row_flag row d [] i = refl
row_flag row d (x ∷ xs) zero = refl
row_flag row d (x ∷ xs) (suc i) = row_flag row d xs i

-- the modules of the rows are the column that they came from
pub row_modules : (ms ws : List ℕ) → map module_of_statement (map (statement_at ms ws) (range_with_len 0 (length ms))) ≡ ms
row_modules ms ws =
    map-map module_of_statement (statement_at ms ws) (range_with_len 0 (length ms))
    ∙ sym (fill_by_all (λ i. get_or ms i 0) ms (length ms) 0 refl (λ k lt. refl))
