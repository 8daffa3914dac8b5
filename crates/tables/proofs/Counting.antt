-- The references of each word, and how many there are.
use Rattle.std.proofs.Common.{◌≡◌, ◌+◌, List, [], ◌∷◌, ◌++◌, length, refl, ap, arith}
use Rattle.tables.specs.declared.reference.Reference.{Reference}
use Rattle.tables.specs.declared.reference.Reference.TheVariants.{Reads, Member}
use Rattle.tables.specs.References.{reads_in, members_in}

-- those of a word keep their order, and come after those that there were
pub reads_append : (xs ys : List Reference) → reads_in (xs ++ ys) ≡ reads_in xs ++ reads_in ys
reads_append [] ys = refl
reads_append (Reads r ∷ xs) ys = ap (λ l. r ∷ l) (reads_append xs ys)
reads_append (Member m ∷ xs) ys = reads_append xs ys

pub members_append : (xs ys : List Reference) → members_in (xs ++ ys) ≡ members_in xs ++ members_in ys
members_append [] ys = refl
members_append (Reads r ∷ xs) ys = members_append xs ys
members_append (Member m ∷ xs) ys = ap (λ l. m ∷ l) (members_append xs ys)

-- each is of one word
pub count_both : (xs : List Reference) → length xs ≡ length (reads_in xs) + length (members_in xs)
count_both [] = refl
count_both (Reads r ∷ xs) = omega (arith, count_both xs)
count_both (Member m ∷ xs) = omega (arith, count_both xs)

-- one more counts as it does alone
pub reads_more : (xs : List Reference) (y : Reference) → length (reads_in (xs ++ y ∷ [])) ≡ length (reads_in xs) + length (reads_in (y ∷ []))
reads_more [] y = omega arith
reads_more (Reads r ∷ xs) y = omega (arith, reads_more xs y)
reads_more (Member m ∷ xs) y = reads_more xs y

pub members_more : (xs : List Reference) (y : Reference) → length (members_in (xs ++ y ∷ [])) ≡ length (members_in xs) + length (members_in (y ∷ []))
members_more [] y = omega arith
members_more (Reads r ∷ xs) y = members_more xs y
members_more (Member m ∷ xs) y = omega (arith, members_more xs y)
