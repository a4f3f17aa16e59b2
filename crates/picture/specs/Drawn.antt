-- Rooms and segments follow one another; what is read of a record is a plan; and a picture looks at its n positions alone.
use Rattle.std.specs.Prelude.{List, ◌++◌, ◌≡◌, refl, ℕ, zero, suc, ◌+◌, ◌-◌, ◌≤◌, ◌<◌, Ok}
use Rattle.std.proofs.Common.{append-nil, append_assoc, sym, ap, subst, ◌∙◌, arith, add-one}
use Rattle.record.specs.Labels.{label_at}
use Rattle.record.specs.Read.{labels_of}
use Rattle.drawing.specs.declared.Room.{Room}
use Rattle.drawing.specs.Within.{Within, drawn_within}
use Rattle.drawing.specs.Corners.{room_in}
use Rattle.contacts.specs.GridLine.{line_at, line_between}
use Rattle.digits.specs.Ascii.{ascii}
use Rattle.finite.specs.Put.{Put, put_none, put_more, put_as}
use Rattle.text.specs.View.{Local}
use Rattle.text.specs.Places.{corners}
use Rattle.text.specs.Written.{Written, room_read}
use Rattle.shapes.specs.Picture.{rectangle, names, rooms_drawn, segment_drawn, segments_drawn, head, picture}

parts : (a b c d : List ℕ) → ((a ++ b) ++ c) ++ d ≡ a ++ (b ++ (c ++ d))
parts a b c d = simp append_assoc

-- ---- a room more, and a segment more, follow those before, in a text
module _ (before : List ℕ) (label : ℕ → ℕ) (room : ℕ → Room) (n : ℕ) where
  pub no_rooms : before ≡ before ++ rooms_drawn label room n 0
  unfolding rooms_drawn
  no_rooms = sym (append-nil before)

  pub one_room_more : (i : ℕ) {so_far drawn after : List ℕ} → so_far ≡ before ++ rooms_drawn label room n i
      → drawn ≡ so_far ++ rectangle n (room (i + 1)) → after ≡ drawn ++ names n (i + 1) (label (i + 1)) (room (i + 1))
      → after ≡ before ++ rooms_drawn label room n (i + 1)
  unfolding rooms_drawn
  one_room_more i e f g =
      rw (add-one i) ((rw (f, e, add-one i) at g) ∙ parts before (rooms_drawn label room n i) (rectangle n (room (suc i))) _)

  pub no_segments : before ≡ before ++ segments_drawn label room n 0
  unfolding segments_drawn
  no_segments = sym (append-nil before)

  -- the segment on line k follows those on the lines below it
  pub one_segment_more : (k : ℕ) {so_far after : List ℕ} → 1 ≤ k → so_far ≡ before ++ segments_drawn label room n (k - 1)
      → after ≡ so_far ++ segment_drawn n (line_at label room k) → after ≡ before ++ segments_drawn label room n (k + 1 - 1)
  unfolding segments_drawn
  one_segment_more zero h e f = absurd (omega arith)
  one_segment_more (suc k) h e f =
      let below : suc k - 1 ≡ k = omega arith in
      let this : suc k + 1 - 1 ≡ suc k = omega arith in
      rw this ((rw (e, below) at f) ∙ append_assoc before (segments_drawn label room n k) _)

-- ---- rooms and segments that are put into a store
module _ (label : ℕ → ℕ) (room : ℕ → Room) (n : ℕ) where
  -- ---- rooms, before the first turn
  pub no_rooms_put : (text : List ℕ) (at : ℕ) → Put text at (rooms_drawn label room n 0) text at
  unfolding rooms_drawn
  no_rooms_put text at = put_none text at

  -- a turn puts the room at the next position, which is i + 1
  pub one_room : {before middle drawn after : List ℕ} {start at next end : ℕ} (i : ℕ) {here : Room} → here ≡ room (suc i)
      → Put before start (rooms_drawn label room n i) middle at → Put middle at (rectangle n here) drawn next
      → Put drawn next (names n (i + 1) (label (suc i)) here) after end → Put before start (rooms_drawn label room n (i + 1)) after end
  unfolding rooms_drawn
  one_room i is p q r =
      put_as (ap (λ (k : ℕ). rooms_drawn label room n k) (sym (add-one i)))
      (put_more p (put_more {part = rectangle n (room (suc i))} (put_as (λ t. rectangle n (is t)) q)
      (put_as (λ t. names n (add-one i t) (label (suc i)) (is t)) r)))

  -- after the last turn
  pub all_rooms : {before after : List ℕ} {start at i : ℕ} → i ≡ n
      → Put before start (rooms_drawn label room n i) after at → Put before start (rooms_drawn label room n n) after at
  all_rooms e p = put_as (ap (λ (k : ℕ). rooms_drawn label room n k) e) p

  -- ---- segments, before the first turn
  pub no_segments_put : (text : List ℕ) (at : ℕ) → Put text at (segments_drawn label room n 0) text at
  unfolding segments_drawn
  no_segments_put text at = put_none text at

  -- a turn puts the segment after the next position, which is k + 1
  pub one_segment : {before middle after : List ℕ} {start at end : ℕ} (k : ℕ) {earlier later : Room}
      → earlier ≡ room (suc k) → later ≡ room (suc (k + 1)) → Put before start (segments_drawn label room n k) middle at
      → Put middle at (segment_drawn n (line_between (k + 1) (label (suc k)) (label (suc (k + 1))) earlier later)) after end
      → Put before start (segments_drawn label room n (k + 1)) after end
  unfolding segments_drawn
  one_segment k is next p q =
      let then = next ∙ ap (λ (j : ℕ). room (suc j)) (add-one k) in
      put_as (ap (λ (j : ℕ). segments_drawn label room n j) (sym (add-one k)))
      (put_more p
      (put_as (λ t. segment_drawn n (line_between (add-one k t) (label (suc k)) (label (suc (add-one k t))) (is t) (then t))) q))

  -- after the last turn
  pub all_segments : {before after : List ℕ} {start at k : ℕ} → k ≡ n - 1
      → Put before start (segments_drawn label room n k) after at → Put before start (segments_drawn label room n (n - 1)) after at
  all_segments e p = put_as (ap (λ (k : ℕ). segments_drawn label room n k) e) p

-- ---- what is read of a record is a plan
pub within_read : {bytes : List ℕ} {n : ℕ} {labels left bottom right top : List ℕ} → Written bytes (Ok n) labels left bottom right top
    → (k : ℕ) → k < n → Within n (room_in (corners left bottom right top) (suc k))
within_read {bytes} {n} w k h =
    subst (λ (room : Room). Within n room) (sym (room_read w k h)) (drawn_within (label_at (labels_of bytes)) n (suc k) (omega arith) h)

-- ---- the picture looks at positions 1 to n alone
module _ (label other : ℕ → ℕ) (room another : ℕ → Room) (n : ℕ)
    (h : (k : ℕ) → k < n → label (suc k) ≡ other (suc k)) (g : (k : ℕ) → k < n → room (suc k) ≡ another (suc k)) where
  rooms_same : (i : ℕ) → i ≤ n → rooms_drawn label room n i ≡ rooms_drawn other another n i
  unfolding rooms_drawn
  rooms_same zero l = refl
  rooms_same (suc i) l = λ t.
      rooms_same i (omega arith) t
      ++ (rectangle n (g i (omega arith) t) ++ names n (suc i) (h i (omega arith) t) (g i (omega arith) t))

  segments_same : (k : ℕ) → k ≤ n - 1 → segments_drawn label room n k ≡ segments_drawn other another n k
  unfolding segments_drawn
  segments_same zero l = refl
  segments_same (suc k) l = λ t.
      segments_same k (omega arith) t
      ++ segment_drawn n
      (line_between (suc k) (h k (omega arith) t) (h (suc k) (omega arith) t) (g k (omega arith) t) (g (suc k) (omega arith) t))

pub picture_local : Local picture
picture_local label other room another n h g =
    let rooms = rooms_same label other room another n h g n (omega arith) in
    let segments = segments_same label other room another n h g (n - 1) (omega arith) in
    λ t. head n ++ rooms t ++ segments t ++ ascii "</svg>\n"
