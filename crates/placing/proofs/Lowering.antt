-- The walk that puts the lowest corners: so far each room starts where the furthest room before it ends.
use mathlib.Core.List.{List}
use mathlib.Core.Path.{◌≡◌, refl, sym, ap, subst, ◌∙◌}
use Prim.Native.Nat.{ℕ, zero, suc, ◌+◌, ◌-◌, ◌*◌, ◌≤◌, ◌<◌, max}
use native.Mathlib.Omega.{arith}
use native.Mathlib.Numerals.{add-one}
use lib.ListN.{length, get_or, set, replicate}
use Rattle.finite.specs.Fill.{filled, Filling, filling_none, filling_up, filling_down, filling_end}
use Rattle.record.specs.Record.{triple_in}
use Rattle.steps.specs.declared.Turn.{Turn}
use Rattle.steps.specs.Turn.{Says}
use Rattle.steps.specs.Stack.{either}
use Rattle.sizes.specs.Direction.{Direction, across, upward}
use Rattle.sizes.specs.Lowest.{start_at, needed_length}
use Rattle.sizes.proofs.LowestLaws.{starts_at_furthest_end, start_small, first_start}
use Rattle.sizes.proofs.Lines.{LineAt, line_of_all}
use Rattle.judging.specs.Walkable.{Walkable}
use Rattle.placing.specs.Along as along
use Rattle.placing.specs.Along.{LowestFor}
use Rattle.placing.specs.Room.{HasRoom}
use Rattle.placing.proofs.Rooms.{has_room}
use Rattle.sizes.proofs.OneWay.{Walks, accepted_walks}
use Rattle.sizes.proofs.Turned.{Turned, turned_first, turn_fits, turned_next, left_is, bottom_is}

module _ (body widths heights : List ℕ) where
  abbrev pub rooms : ℕ
  rooms = length widths

  abbrev label : ℕ → ℕ
  label = along.label body widths heights

  abbrev size_of : Direction → ℕ → ℕ
  size_of = along.size_of body widths heights

  -- where a room starts
  abbrev pub lowest_of : Direction → ℕ → ℕ
  lowest_of way = start_at label way (size_of way) rooms

  -- after k turns
  pub record Lowering (x₀ y₀ : List ℕ) (k : ℕ) (x y across-below across-above up-below up_above : List ℕ) (p q right top : ℕ) : Type 0 where
    pub turned : Turned (triple_in body) rooms label size_of lowest_of k across-below across-above up-below up_above p q right top
    pub xs : Filling (λ i. lowest_of across (suc i)) 1 (k + 1) x₀ x
    pub ys : Filling (λ i. lowest_of upward (suc i)) 1 (k + 1) y₀ y

  module _ (ok : Walkable body (length widths)) (x₀ y₀ : List ℕ) (room-x : length widths ≤ length x₀) (room-y : length widths ≤ length y₀) where
    start_0 : (way : Direction) → lowest_of way 1 ≡ 0
    start_0 way = first_start label way (size_of way) rooms ok.some

    pub lowering_first : {right top : ℕ} → right ≡ get_or widths 0 0 → top ≡ get_or heights 0 0
        → Lowering x₀ y₀ 0 x₀ y₀ (replicate 256 0) (replicate 256 0) (replicate 256 0) (replicate 256 0) 0 0 right top
    lowering_first e d = record {
      turned = turned_first (triple_in body) rooms label size_of lowest_of ok.some (omega (arith, start_0 across)) (omega (arith, start_0 upward));
      xs = filling_none (λ i. lowest_of across (suc i)) 1 x₀;
      ys = filling_none (λ i. lowest_of upward (suc i)) 1 y₀;
    }

    pub lowering_begun : {xb xa yb ya : List ℕ} {p q right top : ℕ} → xb ≡ replicate 256 0 → xa ≡ replicate 256 0 → yb ≡ replicate 256 0 → ya ≡ replicate 256 0
        → p ≡ 0 → q ≡ 0 → right ≡ get_or widths 0 0 → top ≡ get_or heights 0 0 → Lowering x₀ y₀ 0 x₀ y₀ xb xa yb ya p q right top
    lowering_begun {right = right} {top} e_xb e_xa e_yb e_ya e_p e_q e d =
        subst (λ (T : Type 0). T) (λ i. Lowering x₀ y₀ 0 x₀ y₀ (sym e_xb i) (sym e_xa i) (sym e_yb i) (sym e_ya i) (sym e_p i) (sym e_q i) right top)
        (lowering_first e d)

    module _ {k : ℕ} {x y xb xa yb ya : List ℕ} {p q right top : ℕ} (now : Lowering x₀ y₀ k x y xb xa yb ya p q right top) (next : k + 1 < length widths)
        (turn : Turn) (says : Says (triple_in body (suc (suc k))) turn) where
      walks : Walks (triple_in body) rooms label
      walks = accepted_walks (triple_in body) rooms ok.some ok.accepted

      more : suc k < rooms
      more = omega arith

      abbrev left : ℕ
      left = get_or (set xb (p + 1) right) (p + turn.rises) 0

      abbrev bottom : ℕ
      bottom = get_or (set ya (q + 1) top) (q + turn.falls) 0

      starts_left : lowest_of across (suc (suc k)) ≡ left
      starts_left = starts_at_furthest_end label across (size_of across) rooms (suc (suc k)) more ∙ left_is size_of lowest_of walks ok.accepted ok.few now.turned more turn says

      starts_bottom : lowest_of upward (suc (suc k)) ≡ bottom
      starts_bottom = starts_at_furthest_end label upward (size_of upward) rooms (suc (suc k)) more ∙ bottom_is size_of lowest_of walks ok.accepted ok.few now.turned more turn says

      pub lowering_fits : HasRoom p q turn
      lowering_fits = has_room (turn_fits size_of lowest_of walks ok.accepted ok.few now.turned more turn says)

      -- a start is far from the largest 32-bit number
      module _ (small-x : (i : ℕ) → get_or widths i 0 < 65536) (small-y : (i : ℕ) → get_or heights i 0 < 65536) where
        small : (way : Direction) (i : ℕ) → 1 ≤ i → i < suc rooms → size_of way i ≤ 65535
        small way zero a b = absurd (omega arith)
        small across (suc i) a b = omega (arith, small-x i)
        small upward (suc i) a b = omega (arith, small-y i)

        pub left_small : left ≤ 65535 * 255
        left_small = omega (arith, ok.few, starts_left, start_small label across (size_of across) rooms (small across) (suc (suc k)) (omega arith) more)

        pub bottom_small : bottom ≤ 65535 * 255
        bottom_small = omega (arith, ok.few, starts_bottom, start_small label upward (size_of upward) rooms (small upward) (suc (suc k)) (omega arith) more)

      -- one room more
      pub lowering_next : (at_x at_y right-next top-next : ℕ) → at_x ≡ either turn.above (q + turn.falls) 0 → at_y ≡ either turn.below (p + turn.rises) 0
          → right-next ≡ max (left + get_or widths (k + 1) 0) (get_or (set xa (q + 1) right) at_x 0)
          → top-next ≡ max (bottom + get_or heights (k + 1) 0) (get_or (set yb (p + 1) top) at_y 0)
          → Lowering x₀ y₀ (k + 1) (set x (k + 1) left) (set y (k + 1) bottom) (set xb (p + 1) right) (set xa (q + 1) right) (set yb (p + 1) top) (set ya (q + 1) top)
          (p + turn.rises - turn.below) (q + turn.falls - turn.above) right-next top-next
      lowering_next at_x at_y right-next top-next is_x is_y moved-x moved-y = record {
        turned = turned_next size_of lowest_of walks ok.accepted ok.few now.turned more turn says at_x at_y right-next top-next
            (omega (arith, starts_left)) (omega (arith, starts_bottom)) is_x is_y
            (moved-x ∙ (λ i. max (sym starts_left i + get_or widths (add-one k i) 0) (get_or (set xa (q + 1) right) at_x 0)))
            (moved-y ∙ (λ i. max (sym starts_bottom i + get_or heights (add-one k i) 0) (get_or (set yb (p + 1) top) at_y 0)));
        xs = filling_up left now.xs (omega arith) (omega arith) (sym starts_left ∙ ap (λ (i : ℕ). lowest_of across (suc i)) (sym (add-one k)));
        ys = filling_up bottom now.ys (omega arith) (omega arith) (sym starts_bottom ∙ ap (λ (i : ℕ). lowest_of upward (suc i)) (sym (add-one k)));
      }

      -- the same, of the stacks and the lines that a turn leaves
      pub lowering_turn : {xb1 xa1 yb1 ya1 : List ℕ} {p1 q1 l b beside under right-next top-next : ℕ}
          → xb1 ≡ set xb (p + 1) right → xa1 ≡ set xa (q + 1) right → yb1 ≡ set yb (p + 1) top → ya1 ≡ set ya (q + 1) top
          → p1 ≡ p + turn.rises - turn.below → q1 ≡ q + turn.falls - turn.above
          → l ≡ get_or xb1 (p + turn.rises) 0 → b ≡ get_or ya1 (q + turn.falls) 0
          → beside ≡ get_or xa1 (either turn.above (q + turn.falls) 0) 0 → under ≡ get_or yb1 (either turn.below (p + turn.rises) 0) 0
          → right-next ≡ max (l + get_or widths (k + 1) 0) beside → top-next ≡ max (b + get_or heights (k + 1) 0) under
          → Lowering x₀ y₀ (k + 1) (set x (k + 1) l) (set y (k + 1) b) xb1 xa1 yb1 ya1 p1 q1 right-next top-next
      lowering_turn {xb1} {xa1} {yb1} {ya1} {p1} {q1} {l} {b} {beside} {under} {right-next} {top-next} e_xb e_xa e_yb e_ya e_p e_q e_l e_b e_beside e_under moved-x moved-y =
          subst (λ (T : Type 0). T)
          (λ i. Lowering x₀ y₀ (k + 1) (set x (k + 1) (sym is_l i)) (set y (k + 1) (sym is_b i)) (sym e_xb i) (sym e_xa i) (sym e_yb i) (sym e_ya i)
          (sym e_p i) (sym e_q i) right-next top-next)
          (lowering_next _ _ right-next top-next refl refl
          (moved-x ∙ (λ i. max (is_l i + get_or widths (k + 1) 0) (is_beside i))) (moved-y ∙ (λ i. max (is_b i + get_or heights (k + 1) 0) (is_under i))))
        where
          is_l : l ≡ left
          is_l = e_l ∙ (λ i. get_or (e_xb i) (p + turn.rises) 0)

          is_b : b ≡ bottom
          is_b = e_b ∙ (λ i. get_or (e_ya i) (q + turn.falls) 0)

          is_beside : beside ≡ get_or (set xa (q + 1) right) (either turn.above (q + turn.falls) 0) 0
          is_beside = e_beside ∙ (λ i. get_or (e_xa i) (either turn.above (q + turn.falls) 0) 0)

          is_under : under ≡ get_or (set yb (p + 1) top) (either turn.below (p + turn.rises) 0) 0
          is_under = e_under ∙ (λ i. get_or (e_yb i) (either turn.below (p + turn.rises) 0) 0)

    -- all rooms, and the first one's corners put last
    pub lowering_end : {k : ℕ} {x y xb xa yb ya : List ℕ} {p q right top : ℕ} → Lowering x₀ y₀ k x y xb xa yb ya p q right top → length widths ≤ k + 1
        → LowestFor label across rooms widths x₀ right (set x 0 0) × LowestFor label upward rooms heights y₀ top (set y 0 0)
    lowering_end {k} {x} {y} {right = right} {top} now h = (
      record {
        needed_is = needed across now.turned.rights.line_is;
        starts_are = put across now.xs room-x;
      },
      record {
        needed_is = needed upward now.turned.tops.line_is;
        starts_are = put upward now.ys room-y;
      },
    )
      where
        all : k + 1 ≡ rooms
        all = omega (arith, now.turned.more)

        put : (way : Direction) {before after : List ℕ} → Filling (λ i. lowest_of way (suc i)) 1 (k + 1) before after → rooms ≤ length before
            → set after 0 0 ≡ filled (λ i. lowest_of way (suc i)) rooms before
        put way {before} {after} filling room = filling_end (λ i. lowest_of way (suc i)) rooms
            (subst (λ (m : ℕ). Filling (λ i. lowest_of way (suc i)) 0 m before (set after 0 0)) all
            (filling_down 0 filling (omega arith) (omega (arith, ok.some)) (sym (start_0 way)))) room

        walks : Walks (triple_in body) rooms label
        walks = accepted_walks (triple_in body) rooms ok.some ok.accepted

        needed : (way : Direction) {line : ℕ} → LineAt label way (λ i. lowest_of way i + size_of way i) (suc k) line → line ≡ needed_length label way (size_of way) rooms
        needed way {line} at = line_of_all label rooms walks.once walks.not_barred way (size_of way) (lowest_of way) ok.some
            (subst (λ (m : ℕ). LineAt label way (λ i. lowest_of way i + size_of way i) m line) (sym (add-one k) ∙ all) at)
