-- A line is a form; the lines of positions follow one another; and a listing looks at its n positions alone.
use Rattle.std.specs.Prelude.{List, [], ◌∷◌, ◌++◌, ◌≡◌, refl, ℕ, zero, suc, ◌+◌, ◌<◌}
use Rattle.std.proofs.Common.{append-nil, append_assoc, sym, ap, ◌∙◌, arith, add-one}
use Rattle.std.proofs.Math.Decide.{ℕ_discrete}
use Rattle.drawing.specs.declared.Room.{Room}
use Rattle.digits.specs.Ascii.{ascii}
use Rattle.text.specs.Form.{filled}
use Rattle.finite.specs.Put.{Put, put_none, put_more, put_as}
use Rattle.text.specs.View.{Local}
use Rattle.listing.specs.Text.{head_of, line_of, lines_of, listing}

-- ---- a line is a form
pub line_form : (position label : ℕ) (room : Room)
    → filled (ascii "% % % % % %\n") (position ∷ label ∷ room.left ∷ room.bottom ∷ room.right ∷ room.top ∷ [])
    ≡ line_of position label room
unfolding filled ℕ_discrete
line_form position label room = simp append_assoc

-- ---- the line of a position more follows those before, in a text
module _ (before : List ℕ) (label : ℕ → ℕ) (room : ℕ → Room) where
  pub no_lines : before ≡ before ++ lines_of label room 0
  unfolding lines_of
  no_lines = sym (append-nil before)

  pub one_line_more : (i : ℕ) {so_far after : List ℕ} → so_far ≡ before ++ lines_of label room i
      → after ≡ so_far ++ line_of (i + 1) (label (i + 1)) (room (i + 1)) → after ≡ before ++ lines_of label room (i + 1)
  unfolding lines_of
  one_line_more i e f = rw (add-one i) ((rw (e, add-one i) at f) ∙ append_assoc before (lines_of label room i) _)

-- ---- lines that are put into a store
module _ (label : ℕ → ℕ) (room : ℕ → Room) where
  -- before the first turn
  pub no_lines_put : (text : List ℕ) (at : ℕ) → Put text at (lines_of label room 0) text at
  unfolding lines_of
  no_lines_put text at = put_none text at

  -- a turn puts the line of the next position, which is i + 1
  pub one_more : {before middle after : List ℕ} {start at end : ℕ} (i : ℕ) {here : Room} → here ≡ room (suc i)
      → Put before start (lines_of label room i) middle at → Put middle at (line_of (i + 1) (label (suc i)) here) after end
      → Put before start (lines_of label room (i + 1)) after end
  unfolding lines_of
  one_more i is p q =
      put_as (ap (λ (k : ℕ). lines_of label room k) (sym (add-one i)))
      (put_more p (put_as (λ t. line_of (add-one i t) (label (suc i)) (is t)) q))

  -- after the last turn
  pub all_lines : {before after : List ℕ} {start at i n : ℕ} → i ≡ n
      → Put before start (lines_of label room i) after at → Put before start (lines_of label room n) after at
  all_lines e p = put_as (ap (λ (k : ℕ). lines_of label room k) e) p

-- ---- lines of equal labels and rooms are equal
lines_same : (label other : ℕ → ℕ) (room another : ℕ → Room) (n : ℕ)
    → ((k : ℕ) → k < n → label (suc k) ≡ other (suc k)) → ((k : ℕ) → k < n → room (suc k) ≡ another (suc k))
    → lines_of label room n ≡ lines_of other another n
unfolding lines_of
lines_same label other room another zero h g = refl
lines_same label other room another (suc n) h g = λ t.
    lines_same label other room another n (λ k l. h k (omega arith)) (λ k l. g k (omega arith)) t
    ++ line_of (suc n) (h n (omega arith) t) (g n (omega arith) t)

pub listing_local : Local listing
listing_local label other room another n h g = ap (λ (l : List ℕ). head_of n ++ l) (lines_same label other room another n h g)
