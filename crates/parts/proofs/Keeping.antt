-- A line of which the first 128 bytes are kept.
use Rattle.std.proofs.Common.{◌≡◌, ℕ, ◌+◌, ◌<◌, ◌≤◌, eqb, List, [], ◌∷◌, ◌++◌, length, take, set, sym, refl, ap, ◌∙◌, ⊎_elim, arith, ne_eqb}
use Rattle.std.proofs.lemmas.Bool.{cases_Bool, cases_lt}
use Rattle.parts.specs.Held.{open_line}
use Rattle.std.proofs.lemmas.List.{take_all, take_more_set, length-take, length_push, take-append-le}

-- one byte more, with room for it and without
pub kept_more : (xs : List ℕ) (n b : ℕ) → length xs ≡ 128 → n < 128 → take (n + 1) (set xs n b) ≡ take 128 (take n xs ++ b ∷ [])
kept_more xs n b long lt =
    let inside : n < length xs = omega arith in
    let few : length (take n xs ++ b ∷ []) ≤ 128 = omega (arith, length_push (take n xs) b, length-take n xs) in
    take_more_set xs n b inside ∙ sym (take_all 128 (take n xs ++ b ∷ []) few)

pub kept_full : (xs : List ℕ) (n b : ℕ) → length xs ≡ 128 → n ≡ 128 → take n xs ≡ take 128 (take n xs ++ b ∷ [])
kept_full xs n b long e =
    let whole : take n xs ≡ xs = take_all n xs (omega arith) in
    whole ∙ sym (ap (λ l. take 128 (l ++ b ∷ [])) whole ∙ take-append-le 128 xs (b ∷ []) (omega arith) ∙ take_all 128 xs (omega arith))

-- the line that a text ends in, with one byte more of the text
open_more : (before text : List ℕ) (b : ℕ) → (b ≡ 10 → ⊥) → open_line before (text ++ b ∷ []) ≡ open_line before text ++ b ∷ []
open_more before [] b ne = rw (ne_eqb b 10 ne)
open_more before (c ∷ cs) b ne = ⊎_elim (λ e. rw e (open_more [] cs b ne)) (λ e. rw e (open_more (before ++ c ∷ []) cs b ne)) (cases_Bool (eqb c 10))

pub open_fed : (before text : List ℕ) → open_line before (text ++ 10 ∷ []) ≡ []
open_fed before [] = refl
open_fed before (c ∷ cs) = ⊎_elim (λ e. rw e (open_fed [] cs)) (λ e. rw e (open_fed (before ++ c ∷ []) cs)) (cases_Bool (eqb c 10))

-- what is kept of a list with one more is what is kept of it, with one more
kept_twice : (xs : List ℕ) (b : ℕ) → take 128 (take 128 xs ++ b ∷ []) ≡ take 128 (xs ++ b ∷ [])
kept_twice xs b = ⊎_elim
    (λ h. ap (λ l. take 128 (l ++ b ∷ [])) (take_all 128 xs (omega arith)))
    (λ h. take-append-le 128 (take 128 xs) (b ∷ []) (omega (arith, length-take 128 xs)) ∙ take_all 128 (take 128 xs) (omega (arith, length-take 128 xs)) ∙ sym (take-append-le 128 xs (b ∷ []) h))
    (cases_lt (length xs) 128)

pub kept_on : (text held after : List ℕ) (b : ℕ) → (b ≡ 10 → ⊥) → after ≡ take 128 (held ++ b ∷ []) → held ≡ take 128 (open_line [] text) → after ≡ take 128 (open_line [] (text ++ b ∷ []))
kept_on text held after b ne e h =
    e ∙ ap (λ l. take 128 (l ++ b ∷ [])) h ∙ kept_twice (open_line [] text) b ∙ ap (take 128) (sym (open_more [] text b ne))
