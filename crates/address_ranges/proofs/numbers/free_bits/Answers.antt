use Rattle.std.proofs.Common.{◌≡◌, ◌+◌, ◌-◌, ◌^◌, inl, inr, sym, subst, arith}
use Rattle.std.proofs.lemmas.Bool.{cases_lt}
use Rattle.address_ranges.proofs.BlockLemmas.{IsLargest, IsLog, largest_of, log_of, log_of_all}
use Rattle.address_ranges.proofs.numbers.free_bits.Goals.{in-Some, in-None}
use Rattle.address_ranges.proofs.numbers.free_bits.Goals as goal

-- the largest power that the range has room for
room_of : (c : goal.After-min) → IsLog (c.args.last - c.args.first + 1) c.match-checked_add.room
room_of c =
    let size = c.args.last - c.args.first + 1 in
    elim c.match-checked_add.branch [
      | in-Some w ↦
          subst (IsLog size) (sym w.room-is)
          (log_of size w.ilog2-room.result (omega (arith, w.in-Some.ensures.1, w.ilog2-room.ensures.power_le))
          (omega (arith, w.in-Some.ensures.1, w.ilog2-room.ensures.next_power_gt)))
      | in-None w ↦ elim (cases_lt size (2 ^ 128)) [
        | inl less ↦ absurd (w.in-None.ensures less)
        | inr more ↦
            let all : size ≡ 2 ^ 128 = omega (arith, more, c.ranges.last.fits) in
            subst (IsLog size) (sym w.room-is) (log_of_all size all)
      ]
    ]

-- the smaller of the two exponents is that of the largest block
largest : (c : goal.After-min) → IsLargest c.args.first c.args.last c.min.result
largest c =
    largest_of c.args.first c.args.last c.match-checked_add.room c.min.result c.requires c.ranges.last.fits (room_of c) c.min.ensures

pub returns-clause-begins : goal.returns-clause-begins
returns-clause-begins c = (largest c).begins

pub returns-clause-within : goal.returns-clause-within
returns-clause-within c = (largest c).within

pub returns-clause-largest : goal.returns-clause-largest
returns-clause-largest c = (largest c).largest
