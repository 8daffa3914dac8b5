-- The number that digits write, read from the left.
use Rattle.std.proofs.Common.{◌≡◌, ℕ, ◌+◌, ◌-◌, ◌*◌, ◌<◌, ◌≤◌, true, false, cond, ◌&&◌, eqb, ltb, leb, ◌⊎◌, List, [], ◌∷◌, length, get_or, drop, Some, None, Option, sym, refl, ap, ◌∙◌, ⊎_elim, arith, le-ltb, lt-ltb, ne_eqb, le-leb}
use borrow.Author.Tests.{lt-leb}
use Rattle.std.proofs.lemmas.Bool.{cases_Bool, and_left, and_right}
use Rattle.std.proofs.lemmas.List.{drop_more}
use Rattle.values.specs.Values.{all_digits, value_from, digits_of}

-- what is read of the digits that are left, where those before them wrote n
abbrev pub read_on : ℕ → List ℕ → Option ℕ
read_on n ds = cond (all_digits ds && leb (value_from n ds) 65535) (Some (value_from n ds)) None

value_grows : (n : ℕ) (ds : List ℕ) → n ≤ value_from n ds
value_grows n [] = omega arith
value_grows n (b ∷ bs) = let h = value_grows (n * 10 + (b - 48)) bs in omega arith

pub read_end : (n : ℕ) → n ≤ 65535 → read_on n [] ≡ Some n
read_end n h = rw (le-leb n 65535 h) refl

read_digit : (n b : ℕ) (bs : List ℕ) → 48 ≤ b → b ≤ 57 → read_on n (b ∷ bs) ≡ read_on (n * 10 + (b - 48)) bs
read_digit n b bs lo hi = rw (le-leb 48 b lo, le-leb b 57 hi) refl

read_low : (n b : ℕ) (bs : List ℕ) → b < 48 → read_on n (b ∷ bs) ≡ None
read_low n b bs h = rw (lt-leb 48 b h) refl

read_high : (n b : ℕ) (bs : List ℕ) → 57 < b → read_on n (b ∷ bs) ≡ None
read_high n b bs h = let lo : 48 ≤ b = omega arith in rw (le-leb 48 b lo, lt-leb b 57 h) refl

read_large : (n : ℕ) (ds : List ℕ) → 65535 < n → read_on n ds ≡ None
read_large n ds h =
    let g = value_grows n ds in
    let big : 65535 < value_from n ds = omega arith in
    rw (lt-leb (value_from n ds) 65535 big) (⊎_elim (λ e. rw e refl) (λ e. rw e refl) (cases_Bool (all_digits ds)))

-- digits that begin as they should are read to the end
pub well_begun : (ds : List ℕ) → (length ds ≡ 0 → ⊥) → ((get_or ds 0 0 ≡ 48) × (length ds ≤ 1)) ⊎ (get_or ds 0 0 ≡ 48 → ⊥) → digits_of ds ≡ read_on 0 ds
well_begun ds some first =
    let a : ltb 0 (length ds) ≡ true = lt-ltb 0 (length ds) (omega arith) in
    let b : (eqb (get_or ds 0 0) 48 && ltb 1 (length ds)) ≡ false = ⊎_elim (λ h. and_right _ _ (le-ltb 1 (length ds) h.1)) (λ h. and_left _ _ (ne_eqb _ 48 h)) first in
    rw (a, b) refl

-- a turn of the loop at digit i, where the digits before it wrote n
module _ (ds : List ℕ) (n i : ℕ) (lt : i < length ds) (so : read_on n (drop i ds) ≡ read_on 0 ds) where
  at_next : {o : Option ℕ} → read_on n (get_or ds i 0 ∷ drop (i + 1) ds) ≡ o → read_on 0 ds ≡ o
  at_next e = sym so ∙ ap (read_on n) (drop_more ds i 0 lt) ∙ e

  pub none_low : get_or ds i 0 < 48 → read_on 0 ds ≡ None
  none_low h = at_next (read_low n (get_or ds i 0) (drop (i + 1) ds) h)

  pub none_high : 57 < get_or ds i 0 → read_on 0 ds ≡ None
  none_high h = at_next (read_high n (get_or ds i 0) (drop (i + 1) ds) h)

  pub none_large : 48 ≤ get_or ds i 0 → get_or ds i 0 ≤ 57 → 65535 < n * 10 + (get_or ds i 0 - 48) → read_on 0 ds ≡ None
  none_large lo hi big = at_next (read_digit n (get_or ds i 0) (drop (i + 1) ds) lo hi ∙ read_large (n * 10 + (get_or ds i 0 - 48)) (drop (i + 1) ds) big)

  pub one_digit : 48 ≤ get_or ds i 0 → get_or ds i 0 ≤ 57 → read_on (n * 10 + (get_or ds i 0 - 48)) (drop (i + 1) ds) ≡ read_on 0 ds
  one_digit lo hi = sym (at_next (read_digit n (get_or ds i 0) (drop (i + 1) ds) lo hi))
