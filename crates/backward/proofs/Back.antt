-- The labels from the end. Between two turns the stacks hold one number of each run beside the current one: of a run below, its lowest label, and of a
-- run above, the label under it. A turn puts the label's own two runs on them as its bits say, and the run looked back at becomes the current one.
use mathlib.Core.Bool.{Bool, true, false}
use mathlib.Core.List.{List, [], ◌∷◌}
use mathlib.Core.Path.{◌≡◌, refl, sym, ap, subst, ◌∙◌}
use Prim.Native.Nat.{ℕ, zero, suc, ◌+◌, ◌-◌, ◌≤◌, ◌<◌}
use native.Mathlib.Omega.{arith}
use lib.ListN.{length, get_or, set, length-set, replicate, length-replicate}
use Rattle.bits.specs.Bit.{bit}
use Rattle.record.specs.Triple.{Triple, triple}
use Rattle.record.specs.Walk.{Accepted}
use Rattle.record.specs.Way.{Way, up, down, other}
use Rattle.record.specs.Sides.{Run}
use Rattle.record.specs.Runs.{Runs}
use Rattle.record.specs.Decode.{bits_of, turn_of, lower_size, beside, met, first_run, other_runs, take_out, runs_but, label_of}
use Rattle.record.proofs.Backward.{decode_at, decoded_each, back_run}
use Rattle.steps.specs.declared.Turn.{Turn}
use Rattle.steps.specs.Turn.{Says, rises_by, falls_by}
use Rattle.steps.specs.Passes.{Lowers}
use Rattle.record.specs.Positions.{pushed}
use Rattle.steps.specs.Stack.{stack_of, length_stack, stack_pushed, either, either_top}
use Rattle.steps.specs.Table.{once_risen}
use Rattle.steps.specs.Told.{bit_le, turn_for, says_turn}

-- ---- a stack and the runs it stands for
-- the number kept of a run
abbrev Kept : Way → ℕ → Run → Type 0
Kept up x r = x + 1 ≡ r.near
Kept down x r = x ≡ r.far

pub data Holds (way : Way) : List ℕ → List Run → Type 0 where
  none : Holds way [] []
  one : {x : ℕ} {r : Run} {xs : List ℕ} {rs : List Run} → Kept way x r → Holds way xs rs → Holds way (x ∷ xs) (r ∷ rs)

holds_length : {way : Way} {xs : List ℕ} {rs : List Run} → Holds way xs rs → length xs ≡ length rs
holds_length none = refl
holds_length (one k h) = ap suc (holds_length h)

-- the run that the label met, if its bit says so, is put on the stack
holds_met : {way : Way} (b : Bool) (s : List ℕ) (h x v e : ℕ) {rs : List Run} → h + 1 < length s → Kept way x (record { near = beside way v; far = e }) → Holds way (stack_of s h) rs
    → Holds way (stack_of (set s (h + 1) x) (h + bit b)) (met b way v e rs)
holds_met {way} b s h x v e {rs} room k held = subst (λ (xs : List ℕ). Holds way xs (met b way v e rs)) (sym (stack_pushed b s h x room)) (go b)
  where
    go : (b : Bool) → Holds way (pushed b x (stack_of s h)) (met b way v e rs)
    go true = one k held
    go false = held

-- the first run is that of the top, and below it are the others
holds_first : {way : Way} (s : List ℕ) (h : ℕ) {rs : List Run} → 1 ≤ h → Holds way (stack_of s h) rs → Kept way (get_or s h 0) (first_run rs) × Holds way (stack_of s (h - 1)) (other_runs rs)
unfolding stack_of
holds_first s zero some held = absurd (omega arith)
holds_first {way} s (suc h) some (one {rs = rs} k held) = let e : h ≡ suc h - 1 = omega arith in (k, subst (λ (i : ℕ). Holds way (stack_of s i) rs) e held)

-- ---- a label taken out
-- the runs that the label met, as take_out has them
abbrev runs_met : Triple → (lower : ℕ) → Runs → Way → List Run
runs_met u lower y way = met (bits_of u way) way (y.edge down + lower) (y.edge way) (y.stack way)

-- the height of the stack on either side
abbrev height_of : (p q : ℕ) → Way → ℕ
height_of p q up = q
height_of p q down = p

-- z is read off the two stacks: on the side looked back at, the top is the run that was current
record TakenOut (u : Triple) (below above : List ℕ) (p q : ℕ) (z : Runs) : Type 0 where
  enough_below : rises_by u ≤ p
  enough_above : falls_by u ≤ q
  lowest_is : either (falls_by u) (get_or above q 0) (get_or below p 0) + falls_by u ≡ z.edge down
  holds_below : Holds down (stack_of below (p - rises_by u)) (z.stack down)
  holds_above : Holds up (stack_of above (q - falls_by u)) (z.stack up)

taken_out : (u : Triple) (lower : ℕ) (y : Runs) (below above : List ℕ) (p q : ℕ) → Holds down (stack_of below p) (runs_met u lower y down) → Holds up (stack_of above q) (runs_met u lower y up)
    → 1 ≤ height_of p q (other (turn_of u)) → TakenOut u below above p q (take_out u lower y)
unfolding take_out
taken_out (triple first second false) lower y below above p q b a some =
    let e : q ≡ q - 0 = omega arith in
    let top = holds_first below p some b in
    record {
      enough_below = some;
      enough_above = omega arith;
      lowest_is = omega (arith, top.0);
      holds_below = top.1;
      holds_above = subst (λ (h : ℕ). Holds up (stack_of above h) (runs_met (triple first second false) lower y up)) e a;
    }
taken_out (triple first second true) lower y below above p q b a some =
    let e : p ≡ p - 0 = omega arith in
    let top = holds_first above q some a in
    record {
      enough_below = omega arith;
      enough_above = some;
      lowest_is = omega (arith, top.0);
      holds_below = subst (λ (h : ℕ). Holds down (stack_of below h) (runs_met (triple first second true) lower y down)) e b;
      holds_above = top.1;
    }

-- ---- what holds of accepted triples
-- their labels are at most n
label_few : (t : ℕ → Triple) (n i : ℕ) → Accepted t n → i < n → label_of t n (suc i) ≤ n
label_few t zero i accepted h = absurd (omega arith)
label_few t (suc m) i accepted h = omega (arith, decode_at t (suc m) i h, (decoded_each t m accepted).range (suc i) (omega arith) (omega arith))

-- looking back from the label of index i there is a run
back_some : (t : ℕ → Triple) (n i : ℕ) → Accepted t n → 0 < i → i < n
    → let u = t (suc (suc (i - 1))) in let back = other (turn_of u) in 1 ≤ bit (bits_of u back) + length ((runs_but t n (n - suc i)).stack back)
back_some t zero i accepted some h = absurd (omega arith)
back_some t (suc m) i accepted some h =
    let u = t (suc (suc (i - 1))) in
    let back = other (turn_of u) in
    let e : m - suc (i - 1) ≡ suc m - suc i = omega arith in
    subst (λ (d : ℕ). 1 ≤ bit (bits_of u back) + length ((runs_but t (suc m) d).stack back)) e (back_run t m accepted (i - 1) (omega arith))

-- ---- the loop
-- where index i comes next: the stacks and the lowest label are of the runs of the positions up to it
pub record Left (t : ℕ → Triple) (n i : ℕ) (below above : List ℕ) (p q lowest : ℕ) : Type 0 where
  pub within : i < n
  pub lowest_is : lowest ≡ (runs_but t n (n - suc i)).edge down
  pub holds_below : Holds down (stack_of below p) ((runs_but t n (n - suc i)).stack down)
  pub holds_above : Holds up (stack_of above q) ((runs_but t n (n - suc i)).stack up)
  pub few : p + q + suc i ≤ n
  pub below_long : length below ≡ 255
  pub above_long : length above ≡ 255

pub left_first : (t : ℕ → Triple) (n : ℕ) → 1 ≤ n → Left t n (n - 1) (replicate 255 0) (replicate 255 0) 0 0 1
unfolding runs_but stack_of
left_first t n some = record {
  within = omega arith;
  lowest_is = ap (λ (d : ℕ). (runs_but t n d).edge down) start;
  holds_below = subst (λ (d : ℕ). Holds down [] ((runs_but t n d).stack down)) start none;
  holds_above = subst (λ (d : ℕ). Holds up [] ((runs_but t n d).stack up)) start none;
  few = omega arith;
  below_long = length-replicate {A = ℕ} 255 0;
  above_long = length-replicate {A = ℕ} 255 0;
}
  where
    start : 0 ≡ n - suc (n - 1)
    start = omega arith

-- ---- one turn
-- a turn at index i, of which p and q are the stacks' heights with the label's own runs on them, and lowest is the current run's lowest label before it
pub record Turned (t : ℕ → Triple) (n i : ℕ) (below above : List ℕ) (p q lowest : ℕ) (turn : Turn) : Type 0 where
  pub enough_below : turn.rises ≤ p
  pub enough_above : turn.falls ≤ q
  pub lowest_small : lowest < 256
  pub after : Left t n (i - 1) below above (p - turn.rises) (q - turn.falls) lowest

module _ {t : ℕ → Triple} {n i : ℕ} {below above : List ℕ} {p q lowest : ℕ} (s : Left t n i below above p q lowest) (accepted : Accepted t n) (small : n ≤ 255)
    (lower : List ℕ) (lowers : Lowers t n lower) {noted : ℕ} (noted-is : noted ≡ get_or lower i 0) where
  abbrev label : ℕ
  label = lowest + noted

  pub label_is : label ≡ label_of t n (suc i)
  unfolding label_of
  label_is = omega (arith, s.lowest_is, noted-is, lowers i s.within)

  pub label_small : label < 256
  label_small = omega (arith, label_is, label_few t n i accepted s.within)

  module _ (more : 0 < i) where
    abbrev u : Triple
    u = t (suc (suc (i - 1)))

    abbrev y : Runs
    y = runs_but t n (n - suc i)

    abbrev size : ℕ
    size = lower_size t (suc (suc (i - 1)))

    size_is : noted ≡ size
    size_is = let e : suc i ≡ suc (suc (i - 1)) = omega arith in noted-is ∙ lowers i s.within ∙ ap (lower_size t) e

    runs_before : take_out u size y ≡ runs_but t n (n - suc (i - 1))
    unfolding runs_but
    runs_before =
        let e : suc (n - suc i) ≡ n - suc (i - 1) = omega (arith, s.within) in
        let k : suc (suc (i - 1)) ≡ n - (n - suc i) = omega (arith, s.within) in
        ap (λ (k : ℕ). take_out (t k) (lower_size t k) y) k ∙ ap (runs_but t n) e

    abbrev below_next : List ℕ
    below_next = set below (p + 1) lowest

    abbrev above_next : List ℕ
    above_next = set above (q + 1) label

    abbrev under : ℕ
    under = p + bit (bits_of u down)

    abbrev over : ℕ
    over = q + bit (bits_of u up)

    height : (way : Way) → height_of under over way ≡ bit (bits_of u way) + length (y.stack way)
    height up = omega (arith, length_stack above q, holds_length s.holds_above)
    height down = omega (arith, length_stack below p, holds_length s.holds_below)

    out : TakenOut u below_next above_next under over (runs_but t n (n - suc (i - 1)))
    out = subst (TakenOut u below_next above_next under over) runs_before
        (taken_out u size y below_next above_next under over
        (holds_met (bits_of u down) below p lowest (y.edge down + size) (y.edge down) (omega (arith, s.below_long, s.few)) s.lowest_is s.holds_below)
        (holds_met (bits_of u up) above q label (y.edge down + size) (y.edge up) (omega (arith, s.above_long, s.few)) (omega (arith, s.lowest_is, size_is)) s.holds_above)
        (omega (arith, height (other (turn_of u)), back_some t n i accepted more s.within)))

    -- the lowest label as the code chooses it
    abbrev lowest_before : Turn → ℕ
    lowest_before turn = either turn.falls (either turn.above label (get_or above q 0)) (either turn.below lowest (get_or below p 0)) + turn.falls

    lowest_before_lem : lowest_before (turn_for u) ≡ (runs_but t n (n - suc (i - 1))).edge down
    unfolding turn_for
    lowest_before_lem =
        (λ k. either (falls_by u) (either_top above q label (bit (bits_of u up)) (bit_le (bits_of u up)) (omega (arith, s.above_long, s.few)) k) (either_top below p lowest (bit (bits_of u down)) (bit_le (bits_of u down)) (omega (arith, s.below_long, s.few)) k) + falls_by u)
        ∙ out.lowest_is

    turned_out : Turned t n i below_next above_next under over (lowest_before (turn_for u)) (turn_for u)
    unfolding turn_for label_of
    turned_out = record {
      enough_below = out.enough_below;
      enough_above = out.enough_above;
      lowest_small = omega (arith, lowest_before_lem, label_few t n (i - 1) accepted (omega (arith, s.within)));
      after = record {
        within = omega (arith, s.within);
        lowest_is = lowest_before_lem;
        holds_below = out.holds_below;
        holds_above = out.holds_above;
        few = omega (arith, s.few, out.enough_below, out.enough_above, once_risen u, bit_le (bits_of u down), bit_le (bits_of u up));
        below_long = length-set below (p + 1) lowest ∙ s.below_long;
        above_long = length-set above (q + 1) label ∙ s.above_long;
      };
    }

    pub turned : {turn : Turn} {low high choice : ℕ} → Says u turn → low ≡ either turn.below lowest (get_or below p 0) → high ≡ either turn.above label (get_or above q 0)
        → choice ≡ either turn.falls high low → Turned t n i below_next above_next (p + turn.below) (q + turn.above) (choice + turn.falls) turn
    unfolding turn_for
    turned {turn} {low} {high} says l h c =
        subst (λ (x : ℕ). Turned t n i below_next above_next (p + turn.below) (q + turn.above) (x + turn.falls) turn) (sym (c ∙ (λ k. either turn.falls (h k) (l k))))
        (subst (λ (turn : Turn). Turned t n i below_next above_next (p + turn.below) (q + turn.above) (lowest_before turn) turn) (says_turn says) turned_out)
