-- The grid drawing of a label list. "The outline is 0 to n both ways." Here f is the label at a position, and positions are 1 to n.
use Rattle.std.proofs.Common.{inl, inr}
use Rattle.std.specs.Prelude.{List, ℕ, suc, ◌-◌, ◌<◌, length}
use Rattle.std.proofs.Math.Decide.{dec_lt}
use Rattle.finite.specs.Search.{last}
use Rattle.finite.specs.First.{first}
use Rattle.finite.specs.Table.{table}
use Rattle.record.specs.Labels.{label_at}
use Rattle.drawing.specs.declared.Room.{Room}

-- the last position before i that has P, 0 if none
unfoldable pub last_before : (P : ℕ → Type 0) → ((j : ℕ) → Dec (P j)) → (i : ℕ) → ℕ
unfolding last
last_before P d i = elim (last P d 1 i) [ inl r ↦ r.at | inr none ↦ 0 ]

-- the first position after i that has P, less 1; n if none
unfoldable pub first_later : (P : ℕ → Type 0) → ((j : ℕ) → Dec (P j)) → (i n : ℕ) → ℕ
unfolding first
first_later P d i n = elim (first P d (suc i) (suc n)) [ inl r ↦ r.at - 1 | inr none ↦ n ]

-- "left: the last position before i with a smaller label, 0 if none"
abbrev pub left_at : (ℕ → ℕ) → (i : ℕ) → ℕ
left_at f i = last_before (λ j. f j < f i) (λ j. dec_lt (f j) (f i)) i

-- "bottom: the last position before i with a larger label, 0 if none"
abbrev pub bottom_at : (ℕ → ℕ) → (i : ℕ) → ℕ
bottom_at f i = last_before (λ j. f i < f j) (λ j. dec_lt (f i) (f j)) i

-- "right: the first later position with a larger label, less 1; n if none"
abbrev pub right_at : (ℕ → ℕ) → (n i : ℕ) → ℕ
right_at f n i = first_later (λ j. f i < f j) (λ j. dec_lt (f i) (f j)) i n

-- "top: the first later position with a smaller label, less 1; n if none"
abbrev pub top_at : (ℕ → ℕ) → (n i : ℕ) → ℕ
top_at f n i = first_later (λ j. f j < f i) (λ j. dec_lt (f j) (f i)) i n

-- "the room at position i"; "a drawing made from a record has name 0 in all rooms" (M-106)
abbrev pub room_at : (ℕ → ℕ) → (n i : ℕ) → Room
room_at f n i = record { left = left_at f i; bottom = bottom_at f i; right = right_at f n i; top = top_at f n i; name = 0 }

-- the drawing of a label list: its rooms by position
unfoldable pub drawing_of : List ℕ → List Room
unfolding table last_before first_later dec_lt
drawing_of labels = table (λ i. room_at (label_at labels) (length labels) (suc i)) (length labels)
