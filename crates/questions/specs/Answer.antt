-- What the question answers: "for a record and two positions, .. the relation (left, right, above, below) of the first to the second and
-- whether they touch"; since M-102 the relation says whether it is direct. "Order: records 9, 10, 11, 14, 12, 13, then 16 and 17 for a
-- question."
use Rattle.std.specs.Prelude.{Bool, List, ◌⊎◌, ◌≡◌, ℕ, ◌<◌, Result, Ok, Err}
use Rattle.std.proofs.Math.Logic.{ite}
use Rattle.std.proofs.Math.Decide.{dec_lt, ℕ_discrete}
use Rattle.finite.specs.Decide.{holds, dec-⊎}
use Rattle.record.specs.Read.{kind_of, labels_of}
use Rattle.record.specs.Checked.{checked}
use Rattle.record.specs.declared.Refusal.{Refusal}
use Rattle.record.specs.declared.Refusal.TheVariants.{PositionOutside, SamePosition}
use Rattle.drawing.specs.declared.Relation.{Relation}
use Rattle.contacts.specs.Direct.{relation_of}
use Rattle.contacts.specs.DecideTouches.{dec_positions_touch}
use Rattle.questions.specs.declared.Related.{Related}

-- "asked position outside 1 to n"
abbrev pub Outside : (position n : ℕ) → Type 0
Outside position n = (position ≡ 0) ⊎ (n < position)

unfoldable pub dec_outside : (first second n : ℕ) → Dec (Outside first n ⊎ Outside second n)
unfolding dec-⊎ dec_lt ℕ_discrete
dec_outside first second n =
    dec-⊎ (dec-⊎ (ℕ_discrete first 0) (dec_lt n first)) (dec-⊎ (ℕ_discrete second 0) (dec_lt n second))

-- the answer that tells a relation and whether the rooms touch
abbrev pub answering : Relation → (touch : Bool) → Result Related Refusal
answering relation touch = Ok (record { relation = relation; touch = touch })

-- the answer for a record and two positions
abbrev pub question_answer : List ℕ → (first second : ℕ) → Result Related Refusal
question_answer bytes first second =
    let labels = labels_of bytes in
    checked Err bytes
    (ite (dec_outside first second (kind_of bytes)) (Err PositionOutside)
    (ite (ℕ_discrete first second) (Err SamePosition)
    (answering (relation_of labels first second) (holds (dec_positions_touch labels first second)))))
