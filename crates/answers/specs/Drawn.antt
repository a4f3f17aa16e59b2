-- What reading a record leaves is its drawing: the numbers that the two passes give for each position are the corners of the room
-- there, by the drawing's definitions.
use mathlib.Core.List.{List, ◌++◌}
use Rattle.std.specs.Prelude.{◌≡◌, ℕ, zero, suc, ◌≤◌, ◌<◌, length}
use Rattle.std.proofs.Common.{sym, ◌∙◌, arith}
use Rattle.std.proofs.Math.Path.{ap}
use Rattle.std.proofs.Math.ListN.{drop}
use Rattle.finite.specs.Table.{table, table_same}
use Rattle.finite.specs.Fill.{Filling, filling_end}
use Rattle.record.specs.Labels.{label_at}
use Rattle.record.specs.Triple.{Triple}
use Rattle.record.specs.Walk.{Accepted}
use Rattle.record.specs.Way.{up, down}
use Rattle.record.specs.Decode.{label_of, decode}
use Rattle.record.specs.Positions.{newest_met}
use Rattle.record.proofs.Backward.{length_decode, decode_at}
use Rattle.record.specs.Read.{kind_of, labels_of}
use Rattle.record.specs.Checked.{Readable}
use Rattle.record.proofs.Demand2Read.{readable_accepted}
use Rattle.steps.specs.Passes.{Starts}
use Rattle.backward.specs.Written.{end_at, Written}
use Rattle.reading.specs.Answer.{triples_of}
use Rattle.drawing.specs.Drawing.{left_at, bottom_at, right_at, top_at, room_at, drawing_of}
use Rattle.drawing.specs.Corners.{room_in}
use Rattle.drawing.specs.Walked.{walked_left, walked_bottom, walked_right, walked_top}
use Rattle.answers.specs.Corners.{rooms_from}

-- ---- one position
module _ (t : ℕ → Triple) where
  left_is : (n : ℕ) → Accepted t n → (i : ℕ) → i < n → newest_met t (suc i) down ≡ left_at (label_at (decode t n)) (suc i)
  left_is zero accepted i h = absurd (omega arith)
  left_is (suc m) accepted i h = walked_left t m accepted (suc i) (omega arith) h

  bottom_is : (n : ℕ) → Accepted t n → (i : ℕ) → i < n → newest_met t (suc i) up ≡ bottom_at (label_at (decode t n)) (suc i)
  bottom_is zero accepted i h = absurd (omega arith)
  bottom_is (suc m) accepted i h = walked_bottom t m accepted (suc i) (omega arith) h

  right_is : (n : ℕ) → Accepted t n → (i : ℕ) → i < n → end_at t n up i ≡ right_at (label_at (decode t n)) n (suc i)
  right_is zero accepted i h = absurd (omega arith)
  right_is (suc m) accepted i h = walked_right t m accepted (suc i) (omega arith) h

  top_is : (n : ℕ) → Accepted t n → (i : ℕ) → i < n → end_at t n down i ≡ top_at (label_at (decode t n)) n (suc i)
  top_is zero accepted i h = absurd (omega arith)
  top_is (suc m) accepted i h = walked_top t m accepted (suc i) (omega arith) h

length_labels : (bytes : List ℕ) → length (labels_of bytes) ≡ kind_of bytes
unfolding labels_of
length_labels bytes = length_decode (triples_of bytes) (kind_of bytes)

decoded : (bytes : List ℕ) (n : ℕ) → n ≡ kind_of bytes → decode (triples_of bytes) n ≡ labels_of bytes
unfolding labels_of
decoded bytes n kind = ap (decode (triples_of bytes)) kind

-- ---- a record that is not refused
module _ {bytes : List ℕ} {n : ℕ} (kind : n ≡ kind_of bytes) (readable : Readable bytes) where
  abbrev t : ℕ → Triple
  t = triples_of bytes

  abbrev f : ℕ → ℕ
  f = label_at (labels_of bytes)

  accepted : Accepted t n
  accepted = rw kind (readable_accepted bytes readable)

  list : decode t n ≡ labels_of bytes
  list = decoded bytes n kind

  size : n ≡ length (labels_of bytes)
  size = kind ∙ sym (length_labels bytes)

  -- the label and the corners of one position
  pub label_at_lem : (i : ℕ) → i < n → label_of t n (suc i) ≡ f (suc i)
  label_at_lem i h = sym (decode_at t n i h) ∙ (λ j. label_at (list j) (suc i))

  pub left_at_lem : (i : ℕ) → i < n → newest_met t (suc i) down ≡ left_at f (suc i)
  left_at_lem i h = left_is t n accepted i h ∙ (λ j. left_at (label_at (list j)) (suc i))

  pub bottom_at_lem : (i : ℕ) → i < n → newest_met t (suc i) up ≡ bottom_at f (suc i)
  bottom_at_lem i h = bottom_is t n accepted i h ∙ (λ j. bottom_at (label_at (list j)) (suc i))

  pub right_at_lem : (i : ℕ) → i < n → end_at t n up i ≡ right_at f n (suc i)
  right_at_lem i h = right_is t n accepted i h ∙ (λ j. right_at (label_at (list j)) n (suc i))

  pub top_at_lem : (i : ℕ) → i < n → end_at t n down i ≡ top_at f n (suc i)
  top_at_lem i h = top_is t n accepted i h ∙ (λ j. top_at (label_at (list j)) n (suc i))

  -- the room at a position that the walk back has passed
  module _ {earliest : ℕ} {labels₀ right₀ top₀ labels left bottom right top : List ℕ} (w : Written t n earliest labels₀ right₀ top₀ labels right top)
      (lefts : Starts down t n left) (bottoms : Starts up t n bottom) where
    pub room_is : (i : ℕ) → earliest ≤ i → i < n
        → room_in (record { left = left; bottom = bottom; right = right; top = top }) (suc i) ≡ room_at f n (suc i)
    room_is i past h = λ j. record {
      left = (lefts.at i h ∙ left_at_lem i h) j;
      bottom = (bottoms.at i h ∙ bottom_at_lem i h) j;
      right = (w.rights_are.done i past h ∙ right_at_lem i h) j;
      top = (w.tops_are.done i past h ∙ top_at_lem i h) j;
      name = 0;
    }

  -- all labels, from the front of a slice
  pub labels_front : (before : List ℕ) {now : List ℕ} → n ≤ length before → Filling (λ i. label_of t n (suc i)) 0 n before now
      → now ≡ labels_of bytes ++ drop n before
  unfolding decode
  labels_front before long k = filling_end (λ i. label_of t n (suc i)) n k long ∙ ap (λ (part : List ℕ). part ++ drop n before) list

  -- all rooms: the corners are those of the drawing
  pub drawing_held : {labels₀ right₀ top₀ labels left bottom right top : List ℕ} → Written t n 0 labels₀ right₀ top₀ labels right top
      → Starts down t n left → Starts up t n bottom
      → rooms_from (record { left = left; bottom = bottom; right = right; top = top }) n ≡ drawing_of (labels_of bytes)
  unfolding drawing_of
  drawing_held w lefts bottoms =
      table_same _ (λ i. room_at f n (suc i)) n (λ i h. room_is w lefts bottoms i (omega arith) h)
      ∙ (λ j. table (λ i. room_at f (size j) (suc i)) (size j))
