use Rattle.std.proofs.Common.{rules, ◌≡◌, ◌+◌, ◌<◌, List, [], ◌∷◌, ◌++◌, length, vec_items, vec_len, vec_capacity, Ok, Result, ap, arith}
use Rattle.std.proofs.lemmas.Bool.Decides.{nat_tests}
use Rattle.tables.specs.declared.faults.RowFault.{RowFault}
use Rattle.tables.specs.declared.quota.Quota.{Quota}
use Rattle.tables.specs.declared.reference.Reference.{Reference}
use Rattle.tables.specs.declared.references.References.{References}
use Rattle.tables.specs.Quotas.{taken_of, quota_limit, next}
use Rattle.tables.specs.References.{reads_in, members_in}
use Rattle.tables.specs.Room.{below, Takes}
use Rattle.tables.proofs.Counting.{count_both, reads_more, members_more}
use Rattle.tables.proofs.references.References.push.Goals as goal
use Rattle.tables.proofs.references.References.push.Goals.{in-Reads+in_ok-take-in-Reads, in-Member+in_ok-take-in-Member}

-- one more was taken of a kind
took : (q q' : Quota) (result : Result (Unit {0}) RowFault) → Takes taken_of quota_limit q q' result (below q.taken q.limit) (next q.taken result) → result ≡ Ok tt
    → (q.taken < q.limit) × (q'.taken ≡ q.taken + 1) × (q'.limit ≡ q.limit)
took q q' result t was = (grind (arith, nat_tests, t.value, was), search (rules, t.after, was), t.limits)

-- where fewer rows were taken than the two limits allow, there is room for one more
room_left : (s : References) → s.reads.taken + s.members.taken < s.reads.limit + s.members.limit → vec_len s.rows < vec_capacity s.rows
room_left s fewer = omega (arith, s.rows.ok.0, count_both (vec_items s.rows), s.reads_counted, s.members_counted, s.room)

-- two counts that are more by what one reference counts are those of the rows with it
counted : (s : References) (y : Reference) (new : List Reference) (q r : Quota) → new ≡ vec_items s.rows ++ y ∷ []
    → q.taken ≡ s.reads.taken + length (reads_in (y ∷ [])) → r.taken ≡ s.members.taken + length (members_in (y ∷ []))
    → (q.taken ≡ length (reads_in new)) × (r.taken ≡ length (members_in new))
counted s y new q r is reads members =
    let old = vec_items s.rows in (
      omega (arith, ap (λ l. length (reads_in l)) is, reads_more old y, s.reads_counted),
      omega (arith, ap (λ l. length (members_in l)) is, members_more old y, s.members_counted),
    )

pub push_reserved-requires : goal.push_reserved-requires
push_reserved-requires c =
    let s = c.args.self.now in
    elim c.match-row.branch [
      | in-Reads+in_ok-take-in-Reads w ↦
          let one = took s.reads w.take.new.self _ w.take.ensures w.in_ok-take-in-Reads.was in
          room_left s (omega (arith, one.0, s.members.within))
      | in-Member+in_ok-take-in-Member w ↦
          let one = took s.members w.take-in-Member.new.self _ w.take-in-Member.ensures w.in_ok-take-in-Member.was in
          room_left s (omega (arith, one.0, s.reads.within))
    ]

pub invariant_of-self-2 : goal.invariant_of-self-2
invariant_of-self-2 c =
    let s = c.args.self.now in
    let new = vec_items c.push_reserved.new.self in
    let more = c.push_reserved.ensures.items in
    elim c.match-row.branch [
      | in-Reads+in_ok-take-in-Reads w ↦
          let one = took s.reads w.take.new.self _ w.take.ensures w.in_ok-take-in-Reads.was in
          let both = counted s c.args.row new w.take.new.self s.members more (rw w.in-Reads.is one.1) (rw w.in-Reads.is (omega arith)) in
          rw w.self-is (record { reads_counted = both.0; members_counted = both.1; room = omega (arith, s.room, c.push_reserved.ensures.capacity, one.2) })
      | in-Member+in_ok-take-in-Member w ↦
          let one = took s.members w.take-in-Member.new.self _ w.take-in-Member.ensures w.in_ok-take-in-Member.was in
          let both = counted s c.args.row new s.reads w.take-in-Member.new.self more (rw w.in-Member.is (omega arith)) (rw w.in-Member.is one.1) in
          rw w.self-is (record { reads_counted = both.0; members_counted = both.1; room = omega (arith, s.room, c.push_reserved.ensures.capacity, one.2) })
    ]
