-- The number that a call of the C interface returns: the result, which is at least 0, or the refusal's number negated.
use Rattle.std.specs.Prelude.{Bool, true, false, ◌≡◌, ℕ, ◌+◌, ◌*◌, ◌^◌, ℤ, pos, neg_ℤ, Result, Ok, Err, Option, Some, None}
use Rattle.record.specs.Refusal.{number_of}
use Rattle.record.specs.declared.Refusal.{Refusal}
use Rattle.patterns.specs.Pattern.{condition_number}
use Rattle.patterns.specs.declared.Condition.{Condition}
use Rattle.patterns.specs.declared.Pattern.{Pattern}
use Rattle.drawing.specs.declared.Relation.{Relation}
use Rattle.drawing.specs.declared.Side.{Side}
use Rattle.drawing.specs.declared.Side.TheVariants.{Left, Right, Above, Below}
use Rattle.sizes.specs.declared.Slack.{Slack}
use Rattle.book.specs.declared.BookError.{BookError}
use Rattle.book.specs.declared.BookError.TheVariants as book
use Rattle.questions.specs.declared.Related.{Related}
use Rattle.traces.specs.declared.Replayed.{Replayed}
use Rattle.traces.specs.declared.TraceError.{TraceError}
use Rattle.traces.specs.declared.TraceError.TheVariants as trace

-- the number that a call returns is that of its answer, and with this answer it did what is said of it
pub record Coded {A : Type 0} (code : A → ℤ) (number : ℤ) (Did : A → Type 0) : Type 0 where
  pub answer : A
  pub numbered : number ≡ code answer
  pub did : Did answer

abbrev pub refusal_code : Refusal → ℤ
refusal_code refusal = neg_ℤ (pos (number_of refusal))

-- Rooms in and Labels in: the record's length. Tidy: the length of the tidy text. Record in and Lowest corners: the number of rooms. Tree:
-- the length of the cutting tree. Plan count and Plan total: the figure
abbrev pub size_code : Result ℕ Refusal → ℤ
size_code (Ok size) = pos size
size_code (Err refusal) = refusal_code refusal

-- Pattern: a number for the condition and the four positions, whose bytes they are; 0 for no pattern
abbrev pub pattern_number : Condition → (i j k l : ℕ) → ℕ
pattern_number which i j k l = condition_number which * 2 ^ 32 + i * 2 ^ 24 + j * 2 ^ 16 + k * 2 ^ 8 + l

abbrev pub pattern_code : Result (Option Pattern) Refusal → ℤ
pattern_code (Ok (Some p)) = pos (pattern_number p.condition p.i.0 p.j.0 p.k.0 p.l.0)
pattern_code (Ok None) = pos 0
pattern_code (Err refusal) = refusal_code refusal

-- the relations of 000, Definition 3.2, in the sheet's order of the sides: a room is "left of" another, or "directly left-of" it, and
-- likewise for the other three. The number of each, where it is not direct and where it is
abbrev pub relation_number : Side → (direct : Bool) → ℕ
relation_number Left false = 0
relation_number Right false = 1
relation_number Above false = 2
relation_number Below false = 3
relation_number Left true = 8
relation_number Right true = 9
relation_number Above true = 10
relation_number Below true = 11

-- 4 more where the two rooms touch
abbrev pub related_number : Relation → (touch : Bool) → ℕ
related_number relation true = 4 + relation_number relation.side relation.direct
related_number relation false = relation_number relation.side relation.direct

abbrev pub question_code : Result Related Refusal → ℤ
question_code (Ok related) = pos (related_number related.relation related.touch)
question_code (Err refusal) = refusal_code refusal

-- a bad record in a book: its number and 256 times its ordinal, negated
abbrev pub bad_record_code : Refusal → (ordinal : ℕ) → ℤ
bad_record_code refusal ordinal = neg_ℤ (pos (number_of refusal + 256 * ordinal))

-- why a call of a book is refused
abbrev pub book_error_code : BookError → ℤ
book_error_code (book.BadRecord refusal ordinal) = bad_record_code refusal ordinal
book_error_code (book.Refused refusal) = refusal_code refusal

-- Reading on in a book: the record's length, 0 at the end
abbrev pub next_code : Result (Option ℕ) BookError → ℤ
next_code (Ok (Some size)) = pos size
next_code (Ok None) = pos 0
next_code (Err error) = book_error_code error

-- Adding to a book: the new used length
abbrev pub add_code : Result ℕ BookError → ℤ
add_code (Ok size) = pos size
add_code (Err error) = book_error_code error

-- Slack: 0, the slack itself being left in two numbers
abbrev pub slack_code : Result Slack Refusal → ℤ
slack_code (Ok slack) = pos 0
slack_code (Err refusal) = refusal_code refusal

-- Placing in: 0 for a placing that is accepted
abbrev pub placing_code : Result Unit Refusal → ℤ
placing_code (Ok done) = pos 0
placing_code (Err refusal) = refusal_code refusal

-- Groups: the number of the side, as that of a relation which is not direct; 4 for mixed
abbrev pub groups_code : Result (Option Side) Refusal → ℤ
groups_code (Ok (Some side)) = pos (relation_number side false)
groups_code (Ok None) = pos 4
groups_code (Err refusal) = refusal_code refusal

-- Trace: the count of the moves, the final rooms and the final runs
abbrev pub replayed_number : (moves rooms runs : ℕ) → ℕ
replayed_number moves rooms runs = moves * 2 ^ 16 + rooms * 2 ^ 8 + runs

-- of a refused move its number, the runs and the rooms before it, and its ordinal, negated
abbrev pub refused_move_number : Refusal → (ordinal rooms runs : ℕ) → ℕ
refused_move_number refusal ordinal rooms runs = number_of refusal + runs * 2 ^ 8 + rooms * 2 ^ 16 + ordinal * 2 ^ 24

abbrev pub trace_code : Result Replayed TraceError → ℤ
trace_code (Ok r) = pos (replayed_number r.moves r.rooms r.runs)
trace_code (Err (trace.RefusedMove refusal ordinal rooms runs)) = neg_ℤ (pos (refused_move_number refusal ordinal rooms runs))
trace_code (Err (trace.Refused refusal)) = refusal_code refusal
