-- The number of a replay tells its moves, rooms and runs, and that of a refused move its ordinal, the rooms and runs before it and why it
-- is refused. The latter is above all numbers of refusals, so it is not one of those that are returned alone.
use Rattle.std.specs.Prelude.{◌≡◌, ℕ, ◌≤◌, ◌<◌}
use Rattle.std.proofs.Common.{arith}
use Rattle.record.specs.Refusal.{number_of}
use Rattle.record.specs.declared.Refusal.{Refusal}
use Rattle.record.specs.declared.Refusal.TheVariants.{Count, RoomSize, Overlap, Uncovered, FourMeet, LabelOutside, LabelTwice, BarredPattern, NoKind, ShortBody, BytesAfter, MissingRun, SeveralRuns, SpareBit, ShortOutput, PositionOutside, SamePosition, TextForm, NotSlicing, NameTwice, TooLong, BeyondBook, OtherSummary, OtherLength, ZeroSize, BrokenRelation, EmptyGroup, BadMove, OnlyRoom, NotCounted}
use Rattle.codes.specs.Code.{replayed_number, refused_move_number}

-- rooms and runs are bytes
pub record Bytes (rooms runs : ℕ) : Type 0 where
  pub rooms_byte : rooms ≤ 255
  pub runs_byte : runs ≤ 255

pub m111_replayed_number_tells : (moves rooms runs moves' rooms' runs' : ℕ) → Bytes rooms runs → Bytes rooms' runs'
    → replayed_number moves rooms runs ≡ replayed_number moves' rooms' runs' → (moves ≡ moves') × (rooms ≡ rooms') × (runs ≡ runs')
m111_replayed_number_tells moves rooms runs moves' rooms' runs' b c e = (omega (arith, b, c), omega (arith, b, c), omega (arith, b, c))

-- a refusal's number is a byte too
number_byte : (refusal : Refusal) → number_of refusal ≤ 255
number_byte Count = omega arith
number_byte RoomSize = omega arith
number_byte Overlap = omega arith
number_byte Uncovered = omega arith
number_byte FourMeet = omega arith
number_byte LabelOutside = omega arith
number_byte LabelTwice = omega arith
number_byte BarredPattern = omega arith
number_byte NoKind = omega arith
number_byte ShortBody = omega arith
number_byte BytesAfter = omega arith
number_byte MissingRun = omega arith
number_byte SeveralRuns = omega arith
number_byte SpareBit = omega arith
number_byte ShortOutput = omega arith
number_byte PositionOutside = omega arith
number_byte SamePosition = omega arith
number_byte TextForm = omega arith
number_byte NotSlicing = omega arith
number_byte NameTwice = omega arith
number_byte TooLong = omega arith
number_byte BeyondBook = omega arith
number_byte OtherSummary = omega arith
number_byte OtherLength = omega arith
number_byte ZeroSize = omega arith
number_byte BrokenRelation = omega arith
number_byte EmptyGroup = omega arith
number_byte BadMove = omega arith
number_byte OnlyRoom = omega arith
number_byte NotCounted = omega arith

pub m111_refused_move_number_tells : (refusal refusal' : Refusal) (ordinal rooms runs ordinal' rooms' runs' : ℕ) → Bytes rooms runs
    → Bytes rooms' runs' → refused_move_number refusal ordinal rooms runs ≡ refused_move_number refusal' ordinal' rooms' runs'
    → (number_of refusal ≡ number_of refusal') × (ordinal ≡ ordinal') × (rooms ≡ rooms') × (runs ≡ runs')
m111_refused_move_number_tells refusal refusal' ordinal rooms runs ordinal' rooms' runs' b c e =
    let n = number_byte refusal in
    let m = number_byte refusal' in
    (omega (arith, b, c, n, m), omega (arith, b, c, n, m), omega (arith, b, c, n, m), omega (arith, b, c, n, m))

pub m111_refused_move_number_not_alone : (refusal alone : Refusal) (ordinal rooms runs : ℕ) → 1 ≤ ordinal
    → number_of alone < refused_move_number refusal ordinal rooms runs
m111_refused_move_number_not_alone refusal alone ordinal rooms runs h = omega (arith, number_byte alone)
