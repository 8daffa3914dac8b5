-- The tables one after another: what `or_else` makes of their answers, and the tables that the slices show in another form.
use Rattle.std.proofs.Common.{◌≡◌, ℕ, ◌+◌, List, [], ◌∷◌, map, refl, ap, ◌∙◌}
use Rattle.std.specs.Prelude.{Some, None, Option, filter_map}
use Rattle.std.specs.List.{enumerate_from}
use Rattle.std.specs.Option.{MatchOption, option_or}
use Rattle.line.specs.declared.kinds.LoadKind.{LoadKind}
use Rattle.tables.specs.declared.reference.Reference.{Reference}
use Rattle.tables.specs.declared.reference.Reference.TheVariants.{Reads, Member}
use Rattle.tables.specs.References.{reads_in, members_in}
use Rattle.links.specs.Among.{as_reads, as_member}
use Rattle.links.specs.Bad.{find_map, bad_at, first_bad}

-- the clause of `or_else`
pub or_else_is : {T Q : Type 0} (o r p : Option T) → MatchOption o Q (λ x. r ≡ Some x) → (Q → r ≡ p) → r ≡ option_or o p
or_else_is None r p m made = made m
or_else_is (Some x) r p m made = m

abbrev pub joined : {T : Type 0} → Option T → List (Option T) → Option T
joined o [] = o
joined o (p ∷ ps) = joined (option_or o p) ps

or_none : {T : Type 0} (o : Option T) → o ≡ option_or o None
or_none None = refl
or_none (Some x) = refl

or_or : {T : Type 0} (o p q : Option T) → option_or (option_or o p) q ≡ option_or o (option_or p q)
or_or None p q = refl
or_or (Some x) p q = refl

-- one after another from the left is the first from the right
pub joined_is : {T : Type 0} (o : Option T) (ps : List (Option T)) → joined o ps ≡ option_or o (find_map (λ found. found) ps)
joined_is o [] = or_none o
joined_is o (p ∷ ps) = joined_is (option_or o p) ps ∙ or_or o p (find_map (λ found. found) ps)

-- rows that are judged by something made of them
judged_from : {T U : Type 0} (kind : LoadKind) (bad : U → Option ℕ) (make : T → U) (n : ℕ) (rows : List T)
    → find_map (λ (p : ℕ × U). bad_at kind p.0 (bad p.1)) (enumerate_from n (map make rows)) ≡ find_map (λ (p : ℕ × T). bad_at kind p.0 (bad (make p.1))) (enumerate_from n rows)
judged_from kind bad make n [] = refl
judged_from kind bad make n (r ∷ rs) = ap (option_or (bad_at kind n (bad (make r)))) (judged_from kind bad make (n + 1) rs)

pub judged_by : {T U : Type 0} (kind : LoadKind) (bad : U → Option ℕ) (make : T → U) (rows : List T) → first_bad kind bad (map make rows) ≡ first_bad kind (λ r. bad (make r)) rows
judged_by kind bad make rows = judged_from kind bad make 0 rows

pub reads_are : (rs : List Reference) → filter_map as_reads rs ≡ reads_in rs
reads_are [] = refl
reads_are (Reads r ∷ rs) = ap (λ xs. r ∷ xs) (reads_are rs)
reads_are (Member m ∷ rs) = reads_are rs

pub members_are : (rs : List Reference) → filter_map as_member rs ≡ members_in rs
members_are [] = refl
members_are (Reads r ∷ rs) = members_are rs
members_are (Member m ∷ rs) = ap (λ xs. m ∷ xs) (members_are rs)
