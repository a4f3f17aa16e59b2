-- What is answered for a label list. "A list with no barred pattern gets "no pattern"." "Lists refused with 1, 6 or 7 get that number."
use Rattle.std.specs.Prelude.{Result, Ok, Err, Option, Some, None, List, ℕ, length}
use Rattle.record.specs.Labels.{label_at}
use Rattle.record.specs.Barred.{Barred}
use Rattle.record.specs.Causes.{dec_barred}
use Rattle.record.specs.Judged.{permuted}
use Rattle.patterns.specs.Pattern.{Four}
use Rattle.patterns.specs.FirstOne.{first_four}
use Rattle.patterns.specs.declared.Condition.{Condition}
use Rattle.patterns.specs.declared.Pattern.{Pattern}
use Rattle.record.specs.declared.Refusal.{Refusal}

-- the four positions of a pattern
abbrev pub four_of : Pattern → Four
four_of p = record { i = p.i.0; j = p.j.0; k = p.k.0; l = p.l.0 }

-- "name the four positions and which of the two conditions they meet"
abbrev pub named : Condition → Four → Result (Option Pattern) Refusal
named which p =
    Ok (Some (record { condition = which; i = record { 0 = p.i }; j = record { 0 = p.j }; k = record { 0 = p.k }; l = record { 0 = p.l } }))

-- the first pattern, or "no pattern"; f is the label at a position
abbrev pub first_or_none : (f : ℕ → ℕ) (n : ℕ) → Dec (Barred f n) → Result (Option Pattern) Refusal
first_or_none f n (yes barred) = named (first_four f n barred).which (first_four f n barred).four
first_or_none f n (no free) = Ok None

-- the answer for a label list
abbrev pub pattern_answer : List ℕ → Result (Option Pattern) Refusal
pattern_answer labels =
    permuted Err labels (first_or_none (label_at labels) (length labels) (dec_barred (label_at labels) (length labels)))
