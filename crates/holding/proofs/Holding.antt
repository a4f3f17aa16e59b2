-- The walk that holds a placing against the relations: so far no room begins before the furthest room before it ends.
use mathlib.Core.List.{List}
use mathlib.Core.Logic.{inl, inr}
use mathlib.Core.Path.{◌≡◌, refl, sym, ap, subst, ◌∙◌}
use Prim.Native.Nat.{ℕ, suc, ◌+◌, ◌-◌, ◌≤◌, ◌<◌, max}
use native.Mathlib.Omega.{arith}
use native.Mathlib.Numerals.{add-one}
use lib.ListN.{length, get_or, set, replicate}
use Rattle.finite.specs.Decide.{eq_or_ne}
use Rattle.record.specs.Record.{triple_in}
use Rattle.record.proofs.Backward.{length_decode}
use Rattle.steps.specs.declared.Turn.{Turn}
use Rattle.steps.specs.Turn.{Says}
use Rattle.steps.specs.Stack.{either}
use Rattle.sizes.specs.Direction.{Direction, across, upward}
use Rattle.sizes.specs.Lowest.{furthest_before}
use Rattle.sizes.proofs.LowestLaws.{before→earlier, honours→furthest, furthest→honours, furthest_smallest}
use Rattle.sizes.specs.Placing.{Honours}
use Rattle.sizes.specs.Lists.{each_way, number_at, HonoursAll}
use Rattle.judging.specs.Walkable.{labels_in, Walkable}
use Rattle.sizes.proofs.OneWay.{Walks, accepted_walks}
use Rattle.sizes.proofs.Turned.{Turned, turned_first, turn_fits, turned_next, left_is, bottom_is}
use Rattle.placing.specs.Along.{label, size_of}
use Rattle.placing.specs.Room.{HasRoom}
use Rattle.placing.proofs.Rooms.{has_room}

module _ (body widths heights xs ys : List ℕ) where
  abbrev n : ℕ
  n = length widths

  abbrev pub corner_of : Direction → ℕ → ℕ
  corner_of way = number_at (each_way xs ys way)

  -- room j begins no earlier than the furthest room before it ends
  abbrev Late : Direction → (j : ℕ) → Type 0
  Late way j = furthest_before (label body widths heights) way (size_of body widths heights way) n (corner_of way) j ≤ corner_of way j

  -- all n rooms honour the relations in one direction
  abbrev pub Honoured : Direction → Type 0
  Honoured way = Honours (label body widths heights) way (size_of body widths heights way) n (corner_of way)

  -- there are as many labels as rooms
  size : length (labels_in body (length widths)) ≡ length widths
  size = length_decode (triple_in body) (length widths)

  pub honoured_all : ((way : Direction) → Honoured way) → HonoursAll (labels_in body (length widths)) (each_way widths heights) (each_way xs ys)
  honoured_all honours way = subst (λ (m : ℕ). Honours (label body widths heights) way (size_of body widths heights way) m (corner_of way)) (sym size) (honours way)

  pub all_honoured : HonoursAll (labels_in body (length widths)) (each_way widths heights) (each_way xs ys) → (way : Direction) → Honoured way
  all_honoured honours way = subst (λ (m : ℕ). Honours (label body widths heights) way (size_of body widths heights way) m (corner_of way)) size (honours way)

  -- after k turns
  pub record Holding (k : ℕ) (across-below across-above up-below up_above : List ℕ) (p q right top : ℕ) : Type 0 where
    pub turned : Turned (triple_in body) n (label body widths heights) (size_of body widths heights) corner_of k across-below across-above up-below up_above p q right top
    pub late : (way : Direction) (j : ℕ) → 1 ≤ j → j ≤ k + 1 → Late way j

  module _ (ok : Walkable body (length widths)) where
    pub holding_first : {right top : ℕ} → right ≡ get_or xs 0 0 + get_or widths 0 0 → top ≡ get_or ys 0 0 + get_or heights 0 0
        → Holding 0 (replicate 256 0) (replicate 256 0) (replicate 256 0) (replicate 256 0) 0 0 right top
    holding_first e d = record {
      turned = turned_first (triple_in body) n (label body widths heights) (size_of body widths heights) corner_of ok.some (sym e) (sym d);
      late = λ way j a b. let none = furthest_smallest (label body widths heights) way (size_of body widths heights way) n (corner_of way) j 0
          (λ i c l p. absurd (omega (arith, before→earlier (label body widths heights) way p))) in omega arith;
    }

    pub holding_begun : {xb xa yb ya : List ℕ} {right top : ℕ} → xb ≡ replicate 256 0 → xa ≡ replicate 256 0 → yb ≡ replicate 256 0 → ya ≡ replicate 256 0
        → right ≡ get_or xs 0 0 + get_or widths 0 0 → top ≡ get_or ys 0 0 + get_or heights 0 0 → Holding 0 xb xa yb ya 0 0 right top
    holding_begun {right = right} {top} e_xb e_xa e_yb e_ya e d =
        subst (λ (T : Type 0). T) (λ i. Holding 0 (sym e_xb i) (sym e_xa i) (sym e_yb i) (sym e_ya i) 0 0 right top) (holding_first e d)

    pub holding_end : {k : ℕ} {xb xa yb ya : List ℕ} {p q right top : ℕ} → Holding k xb xa yb ya p q right top → length widths ≤ k + 1 → (way : Direction) → Honoured way
    holding_end now h way =
        furthest→honours (label body widths heights) way (size_of body widths heights way) n (corner_of way) (λ j a b. now.late way j a (omega arith))

    module _ {k : ℕ} {xb xa yb ya : List ℕ} {p q right top : ℕ} (now : Holding k xb xa yb ya p q right top) (next : k + 1 < length widths)
        (turn : Turn) (says : Says (triple_in body (suc (suc k))) turn) where
      walks : Walks (triple_in body) n (label body widths heights)
      walks = accepted_walks (triple_in body) n ok.some ok.accepted

      more : suc k < n
      more = omega arith

      abbrev left : ℕ
      left = get_or (set xb (p + 1) right) (p + turn.rises) 0

      abbrev bottom : ℕ
      bottom = get_or (set ya (q + 1) top) (q + turn.falls) 0

      -- the lines at which the next room would start
      at_left : furthest_before (label body widths heights) across (size_of body widths heights across) n (corner_of across) (suc (suc k)) ≡ left
      at_left = left_is (size_of body widths heights) corner_of walks ok.accepted ok.few now.turned more turn says

      at_bottom : furthest_before (label body widths heights) upward (size_of body widths heights upward) n (corner_of upward) (suc (suc k)) ≡ bottom
      at_bottom = bottom_is (size_of body widths heights) corner_of walks ok.accepted ok.few now.turned more turn says

      here_x : get_or xs (k + 1) 0 ≡ corner_of across (suc (suc k))
      here_x = ap (λ (i : ℕ). get_or xs i 0) (add-one k)

      here_y : get_or ys (k + 1) 0 ≡ corner_of upward (suc (suc k))
      here_y = ap (λ (i : ℕ). get_or ys i 0) (add-one k)

      pub holding_fits : HasRoom p q turn
      holding_fits = has_room (turn_fits (size_of body widths heights) corner_of walks ok.accepted ok.few now.turned more turn says)

      -- it begins too early
      pub broken_across : {from : ℕ} → from ≡ get_or xs (k + 1) 0 → from < left → ¬ Honoured across
      broken_across e early honoured =
          omega (arith, here_x, at_left, honours→furthest (label body widths heights) across (size_of body widths heights across) n (corner_of across) honoured (suc (suc k)) (omega arith) more)

      pub broken_upward : {from : ℕ} → from ≡ get_or ys (k + 1) 0 → from < bottom → ¬ Honoured upward
      broken_upward e early honoured =
          omega (arith, here_y, at_bottom, honours→furthest (label body widths heights) upward (size_of body widths heights upward) n (corner_of upward) honoured (suc (suc k)) (omega arith) more)

      -- or it does not
      pub holding_next : (from up at_x at_y right-next top-next : ℕ) → from ≡ get_or xs (k + 1) 0 → up ≡ get_or ys (k + 1) 0 → left ≤ from → bottom ≤ up
          → at_x ≡ either turn.above (q + turn.falls) 0 → at_y ≡ either turn.below (p + turn.rises) 0
          → right-next ≡ max (get_or xs (k + 1) 0 + get_or widths (k + 1) 0) (get_or (set xa (q + 1) right) at_x 0)
          → top-next ≡ max (get_or ys (k + 1) 0 + get_or heights (k + 1) 0) (get_or (set yb (p + 1) top) at_y 0)
          → Holding (k + 1) (set xb (p + 1) right) (set xa (q + 1) right) (set yb (p + 1) top) (set ya (q + 1) top)
          (p + turn.rises - turn.below) (q + turn.falls - turn.above) right-next top-next
      holding_next from up at_x at_y right-next top-next from_is up_is late-x late-y is_x is_y moved-x moved-y = record {
        turned = turned_next (size_of body widths heights) corner_of walks ok.accepted ok.few now.turned more turn says at_x at_y right-next top-next
            (omega (arith, here_x)) (omega (arith, here_y)) is_x is_y
            (moved-x ∙ (λ i. max (get_or xs (add-one k i) 0 + get_or widths (add-one k i) 0) (get_or (set xa (q + 1) right) at_x 0)))
            (moved-y ∙ (λ i. max (get_or ys (add-one k i) 0 + get_or heights (add-one k i) 0) (get_or (set yb (p + 1) top) at_y 0)));
        late = λ way j a b. elim (eq_or_ne j (suc (suc k))) [ inl e ↦ subst (Late way) (sym e) (new way) | inr e ↦ now.late way j a (omega arith) ];
      }
        where
          new : (way : Direction) → Late way (suc (suc k))
          new across = omega (arith, here_x, at_left)
          new upward = omega (arith, here_y, at_bottom)

      -- the same, of the stacks and the lines that a turn leaves
      pub holding_turn : {xb1 xa1 yb1 ya1 : List ℕ} {p1 q1 l b beside under right-next top-next : ℕ} (from up : ℕ)
          → xb1 ≡ set xb (p + 1) right → xa1 ≡ set xa (q + 1) right → yb1 ≡ set yb (p + 1) top → ya1 ≡ set ya (q + 1) top
          → p1 ≡ p + turn.rises - turn.below → q1 ≡ q + turn.falls - turn.above
          → l ≡ get_or xb1 (p + turn.rises) 0 → b ≡ get_or ya1 (q + turn.falls) 0
          → beside ≡ get_or xa1 (either turn.above (q + turn.falls) 0) 0 → under ≡ get_or yb1 (either turn.below (p + turn.rises) 0) 0
          → from ≡ get_or xs (k + 1) 0 → up ≡ get_or ys (k + 1) 0 → l ≤ from → b ≤ up
          → right-next ≡ max (get_or xs (k + 1) 0 + get_or widths (k + 1) 0) beside → top-next ≡ max (get_or ys (k + 1) 0 + get_or heights (k + 1) 0) under
          → Holding (k + 1) xb1 xa1 yb1 ya1 p1 q1 right-next top-next
      holding_turn {right-next = right-next} {top-next} from up e_xb e_xa e_yb e_ya e_p e_q e_l e_b e_beside e_under from_is up_is late-x late-y moved-x moved-y =
          subst (λ (T : Type 0). T)
          (λ i. Holding (k + 1) (sym e_xb i) (sym e_xa i) (sym e_yb i) (sym e_ya i) (sym e_p i) (sym e_q i) right-next top-next)
          (holding_next from up _ _ right-next top-next from_is up_is
          (omega (arith, late-x, e_l ∙ (λ i. get_or (e_xb i) (p + turn.rises) 0)))
          (omega (arith, late-y, e_b ∙ (λ i. get_or (e_ya i) (q + turn.falls) 0)))
          refl refl
          (moved-x ∙ (λ i. max (get_or xs (k + 1) 0 + get_or widths (k + 1) 0) ((e_beside ∙ (λ j. get_or (e_xa j) (either turn.above (q + turn.falls) 0) 0)) i)))
          (moved-y ∙ (λ i. max (get_or ys (k + 1) 0 + get_or heights (k + 1) 0) ((e_under ∙ (λ j. get_or (e_yb j) (either turn.below (p + turn.rises) 0) 0)) i))))
