-- What the question of two groups answers. "Answer left, right, above or below if every room of the first has that relation to every room
-- of the second, direct or not, and "mixed" otherwise." "Answers: 27 for an empty group, after 16 and before 17, which now also means a
-- position in both groups."
use Rattle.std.specs.Prelude.{List, ℕ, Option, Some, None, Result, Ok, Err}
use Rattle.std.proofs.Math.Logic.{ite}
use Rattle.record.specs.Labels.{label_at}
use Rattle.record.specs.Read.{kind_of, labels_of}
use Rattle.record.specs.Checked.{checked}
use Rattle.record.specs.declared.Refusal.{Refusal}
use Rattle.record.specs.declared.Refusal.TheVariants.{PositionOutside, EmptyGroup, SamePosition}
use Rattle.drawing.specs.declared.Side.{Side}
use Rattle.drawing.specs.declared.Side.TheVariants.{Left, Right, Above, Below}
use Rattle.groups.specs.Group.{dec_outside, dec_some_empty, dec_common}
use Rattle.groups.specs.Standing.{dec_all_stand}

-- the side, or nothing for "mixed"
abbrev pub GroupsAnswer : Type 0
GroupsAnswer = Result (Option Side) Refusal

-- the answer for two groups of rooms; f is the label at a position
abbrev pub standing : (f : ℕ → ℕ) (first second : List ℕ) → GroupsAnswer
standing f first second =
    ite (dec_all_stand f first second Left) (Ok (Some Left))
    (ite (dec_all_stand f first second Right) (Ok (Some Right))
    (ite (dec_all_stand f first second Above) (Ok (Some Above))
    (ite (dec_all_stand f first second Below) (Ok (Some Below))
    (Ok None))))

-- the answer for a record and two groups
abbrev pub groups_answer : (bytes first second : List ℕ) → GroupsAnswer
groups_answer bytes first second =
    checked Err bytes
    (ite (dec_outside (kind_of bytes) first second) (Err PositionOutside)
    (ite (dec_some_empty first second) (Err EmptyGroup)
    (ite (dec_common first second) (Err SamePosition)
    (standing (label_at (labels_of bytes)) first second))))
