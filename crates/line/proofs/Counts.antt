-- The parts of a line, one after another.
use Rattle.std.proofs.Common.{◌≡◌, ℕ, ◌+◌, ◌≤◌, eqb, List, [], ◌∷◌, length, get_or, count_by, is_some, Some, None, Option, Bor, true, refl, ap, ⊎_elim, arith}
use Rattle.std.proofs.lemmas.Bool.{cases_Bool}
use Rattle.std.proofs.lemmas.List.Splits.{length-slice_split}
use Rattle.std.specs.List.{onto_first}
use Rattle.parts.specs.Parts.{front, after, parts, fields, seen}

-- the parts of a line are its first part, and the parts of what is left
pub parts_next : (xs : List ℕ) → parts xs ≡ front xs ∷ fields (after xs)
parts_next [] = refl
parts_next (b ∷ bs) = ⊎_elim (λ e. rw e refl) (λ e. rw e (ap (onto_first b) (parts_next bs))) (cases_Bool (eqb b 44))

pub parts_first : (xs : List ℕ) → get_or (parts xs) 0 [] ≡ front xs
parts_first xs = ap (λ l. get_or l 0 []) (parts_next xs)

pub parts_count : (xs : List ℕ) → length (parts xs) ≡ 1 + count_by (λ b. eqb b 44) xs
parts_count xs = omega (arith, length-slice_split (λ b. eqb b 44) xs)

-- what is left has a part at least
pub some_left : (o : Option (Bor (List ℕ))) → is_some o ≡ true → 1 ≤ length (fields (seen o))
some_left None e = let z : ◌≡◌ {A = ℕ} 0 1 = cc in omega arith
some_left (Some s) e = omega (arith, length-slice_split (λ b. eqb b 44) s.now)
