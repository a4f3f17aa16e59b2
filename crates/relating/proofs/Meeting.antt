-- The walk that sees which rooms of the first group stand before rooms of the second: a room of the first group ends its line at 1, and a
-- room of the second that would start at 1 has met one.
use mathlib.Core.List.{List}
use mathlib.Core.Logic.{◌⊎◌, inl, inr}
use mathlib.Core.Path.{◌≡◌, refl, sym, ap, subst, ◌∙◌}
use Prim.Native.Nat.{ℕ, zero, suc, ◌+◌, ◌-◌, ◌≤◌, ◌<◌, max, zero-le}
use native.Mathlib.Omega.{arith}
use native.Mathlib.Numerals.{add-one}
use lib.Bits.{bit_and, bit_or, and_le_l}
use lib.Dec.{eqb}
use lib.ListN.{length, get_or, set, replicate, length-set}
use lib.Seq.{get_or-set_same, get_or-set_other}
use Rattle.finite.specs.Decide.{Tells, tells_iff, eq_or_ne}
use Rattle.finite.specs.Search.{Some}
use Rattle.finite.specs.Marks.{Marks, marks_le, or_is_max, marks_and, marks_same, marks_more, marks_tell}
use Rattle.finite.specs.BitTable.{zeros_at}
use Rattle.record.specs.Labels.{label_at}
use Rattle.record.specs.Record.{triple_in}
use Rattle.steps.specs.declared.Turn.{Turn}
use Rattle.steps.specs.Turn.{Says}
use Rattle.steps.specs.Stack.{either}
use Rattle.judging.specs.Walkable.{labels_in, Walkable}
use Rattle.sizes.specs.Direction.{Direction, across, upward}
use Rattle.sizes.proofs.LowestLaws.{before→earlier}
use Rattle.sizes.proofs.OneWay.{Walks, accepted_walks}
use Rattle.sizes.proofs.Turned.{Turned, turned_first, turn_fits, turned_next, left_is, bottom_is}
use Rattle.placing.specs.Room.{HasRoom}
use Rattle.placing.proofs.Rooms.{has_room}
use Rattle.groups.specs.Group.{Member, EachIn}
use Rattle.groups.specs.Pairs.{SomeBefore}
use Rattle.relating.proofs.Reached.{Reached, start_of, start_marks, size_of, end_is, first_start, furthest_is_start}

-- every number of a stack is a bit
abbrev pub Bits : List ℕ → Type 0
Bits stack = (i : ℕ) → get_or stack i 0 ≤ 1

bits_stored : (stack : List ℕ) (at bit : ℕ) → Bits stack → at < length stack → bit ≤ 1 → Bits (set stack at bit)
bits_stored stack at bit bits inside small i = elim (eq_or_ne i at) [
  | inl e ↦ omega (arith, get_or-set_same stack at bit 0 inside, ap (λ (j : ℕ). get_or (set stack at bit) j 0) e)
  | inr e ↦ omega (arith, bits i, get_or-set_other stack at i bit 0 e)
]

module _ (body first second : List ℕ) (n : ℕ) where
  abbrev pub label : ℕ → ℕ
  label = label_at (labels_in body n)

  abbrev start : Direction → ℕ → ℕ
  start = start_of label n first

  abbrev size : Direction → ℕ → ℕ
  size = size_of label n first

  -- the room after an index is of the second group, and a room of the first stands before it
  abbrev Meets : Direction → (j : ℕ) → Type 0
  Meets way j = Member second (suc j) × Reached label n first way (suc j)

  -- after k turns
  pub record Meeting (k : ℕ) (across-below across-above up-below up_above : List ℕ) (p q right top left below : ℕ) : Type 0 where
    pub turned : Turned (triple_in body) n label size start k across-below across-above up-below up_above p q right top
    pub bits_across : Bits across-above
    pub bits_up : Bits up-below
    pub long_across : length across-above ≡ 256
    pub long_up : length up-below ≡ 256
    pub right_bit : right ≤ 1
    pub top_bit : top ≤ 1
    pub met_left : Marks left (Some (Meets across) 0 (k + 1))
    pub met_below : Marks below (Some (Meets upward) 0 (k + 1))

  module _ (ok : Walkable body n) where
    pub meeting_first : {one : ℕ} → Marks one (Member first 1)
        → Meeting 0 (replicate 256 0) (replicate 256 0) (replicate 256 0) (replicate 256 0) 0 0 one one 0 0
    meeting_first {one} here = record {
      turned = turned_first (triple_in body) n label size start ok.some (ends across) (ends upward);
      bits_across = none;
      bits_up = none;
      long_across = refl;
      long_up = refl;
      right_bit = marks_le here;
      top_bit = marks_le here;
      met_left = inr (refl, not_met across);
      met_below = inr (refl, not_met upward);
    }
      where
        none : Bits (replicate 256 0)
        none i = omega (arith, zeros_at 256 i)

        ends : (way : Direction) → start way 1 + size way 1 ≡ one
        ends way = omega (arith, end_is label n first way 1 here, first_start label n first way)

        not_met : (way : Direction) → ¬ Some (Meets way) 0 (0 + 1)
        not_met way (j, a, b, (l, (i, c, d, (m, p)))) = omega (arith, before→earlier label way p)

    pub meeting_begun : {xb xa yb ya : List ℕ} {one : ℕ} → xb ≡ replicate 256 0 → xa ≡ replicate 256 0 → yb ≡ replicate 256 0 → ya ≡ replicate 256 0
        → Marks one (Member first 1) → Meeting 0 xb xa yb ya 0 0 one one 0 0
    meeting_begun {one = one} e_xb e_xa e_yb e_ya here =
        subst (λ (T : Type 0). T) (λ i. Meeting 0 (sym e_xb i) (sym e_xa i) (sym e_yb i) (sym e_ya i) 0 0 one one 0 0) (meeting_first here)

    module _ {k : ℕ} {xb xa yb ya : List ℕ} {p q right top some_left some_below : ℕ}
        (now : Meeting k xb xa yb ya p q right top some_left some_below) (next : suc k < n) (turn : Turn)
        (says : Says (triple_in body (suc (suc k))) turn) where
      walks : Walks (triple_in body) n label
      walks = accepted_walks (triple_in body) n ok.some ok.accepted

      abbrev left : ℕ
      left = get_or (set xb (p + 1) right) (p + turn.rises) 0

      abbrev bottom : ℕ
      bottom = get_or (set ya (q + 1) top) (q + turn.falls) 0

      pub meeting_fits : HasRoom p q turn
      meeting_fits = has_room (turn_fits size start walks ok.accepted ok.few now.turned next turn says)

      -- the lines at which the next room would start are marks of what stands before it
      left_start : left ≡ start across (suc (suc k))
      left_start = sym (left_is size start walks ok.accepted ok.few now.turned next turn says) ∙ furthest_is_start label n first across (suc (suc k))

      bottom_start : bottom ≡ start upward (suc (suc k))
      bottom_start = sym (bottom_is size start walks ok.accepted ok.few now.turned next turn says) ∙ furthest_is_start label n first upward (suc (suc k))

      -- one room more: whether it is of the first group, and of the second
      module _ {one other : ℕ} (of-first : Marks one (Member first (suc (suc k)))) (of-second : Marks other (Member second (suc (suc k)))) where
        met : (way : Direction) {found here : ℕ} → Marks found (Some (Meets way) 0 (k + 1)) → here ≡ start way (suc (suc k))
            → Marks (bit_or found (bit_and here other)) (Some (Meets way) 0 (k + 1 + 1))
        met way {found} {here} before e = marks_more (Meets way) (k + 1) found (bit_and here other) before
            (subst (λ (j : ℕ). Marks (bit_and here other) (Meets way j)) (sym (add-one k))
            (marks_same (marks_and (subst (λ (z : ℕ). Marks z (Reached label n first way (suc (suc k)))) (sym e) (start_marks label n first way (suc (suc k)))) of-second)
            (λ (r, m). (m, r)) (λ (m, r). (r, m))))

        -- the new line: of bits, the largest
        line : (way : Direction) {here beside : ℕ} → here ≡ start way (suc (suc k)) → beside ≤ 1
            → bit_or (bit_or here beside) one ≡ max (start way (suc (suc k)) + size way (suc (suc k))) beside
        line way {here} {beside} e small =
            let start-bit = marks_le (start_marks label n first way (suc (suc k))) in
            let both : bit_or here beside ≡ max here beside = or_is_max here beside (omega arith) small in
            omega (arith, both, or_is_max (bit_or here beside) one (omega arith) (marks_le of-first), end_is label n first way (suc (suc k)) of-first)

        line_bit : (way : Direction) {here beside : ℕ} → here ≡ start way (suc (suc k)) → beside ≤ 1 → bit_or (bit_or here beside) one ≤ 1
        line_bit way e small =
            omega (arith, line way e small, end_is label n first way (suc (suc k)) of-first, marks_le (start_marks label n first way (suc (suc k))), marks_le of-first)

        pub meeting_next : (at_x at_y : ℕ) → at_x ≡ either turn.above (q + turn.falls) 0 → at_y ≡ either turn.below (p + turn.rises) 0
            → Meeting (k + 1) (set xb (p + 1) right) (set xa (q + 1) right) (set yb (p + 1) top) (set ya (q + 1) top)
            (p + turn.rises - turn.below) (q + turn.falls - turn.above)
            (bit_or (bit_or left (get_or (set xa (q + 1) right) at_x 0)) one) (bit_or (bit_or bottom (get_or (set yb (p + 1) top) at_y 0)) one)
            (bit_or some_left (bit_and left other)) (bit_or some_below (bit_and bottom other))
        meeting_next at_x at_y is_x is_y = record {
          turned = turned_next size start walks ok.accepted ok.few now.turned next turn says at_x at_y _ _
              (omega (arith, left_start)) (omega (arith, bottom_start)) is_x is_y (line across left_start (bits_x at_x)) (line upward bottom_start (bits_y at_y));
          bits_across = bits_x;
          bits_up = bits_y;
          long_across = length-set xa (q + 1) right ∙ now.long_across;
          long_up = length-set yb (p + 1) top ∙ now.long_up;
          right_bit = line_bit across left_start (bits_x at_x);
          top_bit = line_bit upward bottom_start (bits_y at_y);
          met_left = met across now.met_left left_start;
          met_below = met upward now.met_below bottom_start;
        }
          where
            bits_x : Bits (set xa (q + 1) right)
            bits_x = bits_stored xa (q + 1) right now.bits_across (omega (arith, now.long_across, meeting_fits)) now.right_bit

            bits_y : Bits (set yb (p + 1) top)
            bits_y = bits_stored yb (p + 1) top now.bits_up (omega (arith, now.long_up, meeting_fits)) now.top_bit

        -- the same, of the stacks and the lines that a turn leaves
        pub meeting_turn : {xb1 xa1 yb1 ya1 : List ℕ} {p1 q1 l b beside under : ℕ}
            → xb1 ≡ set xb (p + 1) right → xa1 ≡ set xa (q + 1) right → yb1 ≡ set yb (p + 1) top → ya1 ≡ set ya (q + 1) top
            → p1 ≡ p + turn.rises - turn.below → q1 ≡ q + turn.falls - turn.above
            → l ≡ get_or xb1 (p + turn.rises) 0 → b ≡ get_or ya1 (q + turn.falls) 0
            → beside ≡ get_or xa1 (either turn.above (q + turn.falls) 0) 0 → under ≡ get_or yb1 (either turn.below (p + turn.rises) 0) 0
            → Meeting (k + 1) xb1 xa1 yb1 ya1 p1 q1 (bit_or (bit_or l beside) one) (bit_or (bit_or b under) one)
            (bit_or some_left (bit_and l other)) (bit_or some_below (bit_and b other))
        meeting_turn {xb1} {xa1} {yb1} {ya1} {p1} {q1} {l} {b} {beside} {under} e_xb e_xa e_yb e_ya e_p e_q e_l e_b e_beside e_under =
            subst (λ (T : Type 0). T)
            (λ i. Meeting (k + 1) (sym e_xb i) (sym e_xa i) (sym e_yb i) (sym e_ya i) (sym e_p i) (sym e_q i)
            (bit_or (bit_or (sym is_l i) (sym is_beside i)) one) (bit_or (bit_or (sym is_b i) (sym is_under i)) one)
            (bit_or some_left (bit_and (sym is_l i) other)) (bit_or some_below (bit_and (sym is_b i) other)))
            (meeting_next _ _ refl refl)
          where
            is_l : l ≡ left
            is_l = e_l ∙ (λ i. get_or (e_xb i) (p + turn.rises) 0)

            is_b : b ≡ bottom
            is_b = e_b ∙ (λ i. get_or (e_ya i) (q + turn.falls) 0)

            is_beside : beside ≡ get_or (set xa (q + 1) right) (either turn.above (q + turn.falls) 0) 0
            is_beside = e_beside ∙ (λ i. get_or (e_xa i) (either turn.above (q + turn.falls) 0) 0)

            is_under : under ≡ get_or (set yb (p + 1) top) (either turn.below (p + turn.rises) 0) 0
            is_under = e_under ∙ (λ i. get_or (e_yb i) (either turn.below (p + turn.rises) 0) 0)

    -- at the end all rooms of the second group have been looked at, or one has been found
    pub meeting_end : {last k found : ℕ} (way : Direction) → Marks found (Some (Meets way) 0 (k + 1)) → k < n → last ≤ n
        → (last ≤ k + 1) ⊎ (found ≡ 1) → EachIn second (λ j. j ≤ last) → Tells (eqb found 1) (SomeBefore label way first second)
    meeting_end {last} {k} {found} way marks more short ended all =
        tells_iff _ _ (eqb found 1) to (from ended marks) (marks_tell (Meets way) (k + 1) (k + 1) found refl marks)
      where
        to : Some (Meets way) 0 (k + 1) → SomeBefore label way first second
        to (j, a, b, (l, (i, c, d, (m, p)))) = (i, c, omega (arith, ok.few), (m, (suc j, omega arith, omega (arith, ok.few), (l, p))))

        from : (last ≤ k + 1) ⊎ (found ≡ 1) → Marks found (Some (Meets way) 0 (k + 1)) → SomeBefore label way first second → Some (Meets way) 0 (k + 1)
        from (inr one) (inl (e, s)) some = s
        from (inr one) (inr (e, none)) some = absurd (omega arith)
        from (inl end) m (i, a, b, (o, (zero, c, d, (l, p)))) = absurd (omega arith)
        from (inl end) m (i, a, b, (o, (suc j, c, d, (l, p)))) =
            (j, zero-le, omega (arith, all (suc j) c d l), (l, (i, a, omega (arith, before→earlier label way p, all (suc j) c d l), (o, p))))

-- ---- where the walk ends: at the last position, or at once where both relations have occurred
abbrev pub Ends : (last end left below : ℕ) → Type 0
Ends last end left below = (end ≡ last) ⊎ ((end ≡ 0) × (left ≡ 1) × (below ≡ 1))

pub both_bit : {left below : ℕ} → left ≤ 1 → below ≤ 1 → bit_and left below ≤ 1
both_bit {left} {below} small also = omega (arith, and_le_l left below)

pub ends_next : (last end left below : ℕ) {at : ℕ} → end ≡ last → left ≤ 1 → below ≤ 1 → at ≡ either (bit_and left below) 0 end
    → Ends last at left below
ends_next last end zero below is small also e = inl (omega arith)
ends_next last end (suc zero) zero is small also e = inl (omega arith)
ends_next last end (suc zero) (suc zero) is small also e = inr (omega arith, refl, refl)
ends_next last end (suc zero) (suc (suc below)) is small also e = absurd (omega arith)
ends_next last end (suc (suc left)) below is small also e = absurd (omega arith)

-- the same by a number that is both bits
pub ends_chosen : (last end left below both : ℕ) {at : ℕ} → both ≡ bit_and left below → end ≡ last → left ≤ 1 → below ≤ 1
    → at ≡ either both 0 end → Ends last at left below
ends_chosen last end left below both {at} both_is is small also e =
    ends_next last end left below is small also (subst (λ (b : ℕ). at ≡ either b 0 end) both_is e)
