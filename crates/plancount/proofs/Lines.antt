-- Lines that follow one another.
use Rattle.std.proofs.Common.{List, [], ◌∷◌, ◌++◌, ◌≡◌, ℕ, zero, suc, ◌+◌, ◌-◌, ◌≤◌, append-nil, append_assoc, sym, ◌∙◌, add-one, arith}
use Rattle.std.proofs.Math.Decide.{ℕ_discrete}
use Rattle.digits.specs.Ascii.{ascii}
use Rattle.digits.specs.Decimal.{newline, field}
use Rattle.text.specs.Form.{filled}
use Rattle.counting.specs.Ways.{plan_count}
use Rattle.counting.proofs.Figures.{count_how_many}
use Rattle.plancount.specs.Text.{line_of, lines_of, up_to, Printed}

-- ---- a line: a form, then the figure
pub line_form : (n rises figure : ℕ) (before : List ℕ) {front after : List ℕ} → front ≡ before ++ filled (ascii "% % ") (n ∷ rises ∷ [])
    → after ≡ front ++ field figure newline → after ≡ before ++ line_of n rises figure
unfolding filled ℕ_discrete
line_form n rises figure before e f = rw e at f ∙ simp append_assoc

-- ---- the lines of n rooms
pub no_lines : (before : List ℕ) (n : ℕ) → before ≡ before ++ lines_of plan_count n 0
unfolding lines_of
no_lines before n = sym (append-nil before)

pub one_line_more : (before : List ℕ) (n rises : ℕ) {so_far after : List ℕ} → so_far ≡ before ++ lines_of plan_count n rises
    → after ≡ so_far ++ line_of n rises (plan_count n rises) → after ≡ before ++ lines_of plan_count n (rises + 1)
unfolding lines_of
one_line_more before n rises e f =
    rw (add-one rises) ((rw e at f) ∙ append_assoc before (lines_of plan_count n rises) _)

-- ---- the rooms
pub no_rooms : {text : List ℕ} → text ≡ [] → text ≡ up_to plan_count 0
unfolding up_to
no_rooms e = e

pub one_room_more : (n : ℕ) {text : List ℕ} → 1 ≤ n → text ≡ up_to plan_count (n - 1) ++ lines_of plan_count n n
    → text ≡ up_to plan_count (n + 1 - 1)
unfolding up_to
one_room_more zero h e = absurd (omega arith)
one_room_more (suc n) h e =
    let below : suc n - 1 ≡ n = omega arith in
    let this : suc n + 1 - 1 ≡ suc n = omega arith in
    rw this (rw below at e)

-- ---- the whole text
pub printed : {text : List ℕ} → text ≡ up_to plan_count 17 → Printed text
printed e = record { count = plan_count; how_many = λ n rises few. count_how_many n rises (omega arith); lines = e }

-- what is put in turn: nothing, a line more, the lines of n rooms more, and all of them
pub ruleset in_turn = (no_rooms, no_lines, one_line_more, one_room_more, printed)
