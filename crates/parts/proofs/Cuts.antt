-- Where a line is cut at its commas.
use Rattle.std.proofs.Common.{◌≡◌, ℕ, ◌+◌, ◌-◌, ltb, eqb, cond, Bool, List, [], ◌∷◌, length, take, drop, Some, None, Option, sym, refl, ap, ◌∙◌, ⊎_elim, eqb-true, arith}
use borrow.Author.Tests.{eqb-false}
use Rattle.std.specs.List.{position, position_or_len}
use Rattle.std.proofs.lemmas.Grind.{common_steps}
use Rattle.std.proofs.lemmas.Bool.{cases_Bool}
use Rattle.parts.specs.Parts.{front, after, joined, NoComma}

-- what `field` looks for
abbrev pub comma : ℕ → Bool
comma b = eqb b 44

-- the two parts by the place of the first comma
front_is : (xs : List ℕ) → front xs ≡ take (position_or_len comma xs) xs
front_is [] = refl
front_is (b ∷ bs) = ⊎_elim (λ e. rw e (grind (arith, common_steps))) (λ e. rw e (grind (arith, common_steps, front_is bs))) (cases_Bool (eqb b 44))

after_is : (xs : List ℕ) → after xs ≡ cond (ltb (position_or_len comma xs) (length xs)) (Some (drop (position_or_len comma xs + 1) xs)) None
after_is [] = refl
after_is (b ∷ bs) = ⊎_elim (λ e. rw e (grind (arith, common_steps))) (λ e. rw e (grind (arith, common_steps, after_is bs))) (cases_Bool (eqb b 44))

-- what is cut at the first comma, and what is left whole where there is none
pub at_comma : (xs : List ℕ) (i : ℕ) → Some i ≡ position comma xs → (take i xs ≡ front xs) × (Some (take (length xs - (i + 1)) (drop (i + 1) xs)) ≡ after xs)
at_comma xs i e = (grind (arith, common_steps, front_is xs, e), grind (arith, common_steps, after_is xs, e))

pub at_end : (xs : List ℕ) → None ≡ position comma xs → (xs ≡ front xs) × (None ≡ after xs)
at_end xs e = (grind (arith, common_steps, front_is xs, e), grind (arith, common_steps, after_is xs, e))

-- a part and what is left make the line again
pub rejoined : (xs : List ℕ) → joined (front xs) (after xs) ≡ xs
rejoined [] = refl
rejoined (b ∷ bs) = ⊎_elim
    (λ e. rw e (ap (λ n. n ∷ bs) (sym (eqb-true b 44 e))))
    (λ e. rw e (more (front bs) (after bs) ∙ ap (λ l. b ∷ l) (rejoined bs)))
    (cases_Bool (eqb b 44))
  where
    more : (p : List ℕ) (o : Option (List ℕ)) → joined (b ∷ p) o ≡ b ∷ joined p o
    more p None = refl
    more p (Some l) = refl

pub no_comma : (xs : List ℕ) → NoComma (front xs)
no_comma [] = tt
no_comma (b ∷ bs) = ⊎_elim (λ e. rw e tt) (λ e. rw e (eqb-false b 44 e, no_comma bs)) (cases_Bool (eqb b 44))

-- what `field` promises of its answer beside the two equations
pub joined_by : (xs p : List ℕ) (o : Option (List ℕ)) → p ≡ front xs → o ≡ after xs → joined p o ≡ xs
joined_by xs p o ep eo = ap (λ l. joined l o) ep ∙ ap (joined (front xs)) eo ∙ rejoined xs

pub plain_by : (xs p : List ℕ) → p ≡ front xs → NoComma p
plain_by xs p e = rw e (no_comma xs)
