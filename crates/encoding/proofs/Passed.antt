-- The pass over the labels: what holds after k triples, when a label is turned away, and how the next label is taken.
-- The runs of the labels seen are those of the record's theory, and the two stacks have one label of each.
use mathlib.Core.Bool.{Bool, true, false}
use mathlib.Core.List.{List}
use mathlib.Core.Logic.{◌≢◌, inl, inr}
use mathlib.Core.Path.{◌≡◌, refl, sym, ap, subst, subst₂, ◌∙◌}
use Prim.Native.Nat.{ℕ, zero, suc, ◌+◌, ◌-◌, ◌*◌, ◌≤◌, ◌<◌}
use native.Mathlib.Omega.{arith}
use native.Mathlib.Decide.{dec_lt}
use borrow.Author.Tests.{lt-ltb, le-ltb}
use lib.Dec.{ltb}
use Rattle.std.specs.Int.{from_bool}
use lib.ListN.{length, get_or, set, take as take_first, length-set, replicate, length-replicate}
use Rattle.bits.specs.Bit.{bit}
use Rattle.finite.specs.Decide.{le_or_lt, Tells, holds_tells}
use Rattle.finite.specs.Marks.{Marks, marks_holds, marks_fails}
use Rattle.record.specs.declared.Label.{Label}
use Rattle.record.specs.Labels.{label_at, LabelOutside, LabelTwice, EachOnce}
use Rattle.record.specs.Barred.{Baxter}
use Rattle.record.specs.Triple.{Triple, triple, dec_earlier, triple_at}
use Rattle.record.specs.TripleNumber.{triple_of, triple_of_bits}
use Rattle.record.specs.TripleSet.{TripleSet}
use Rattle.record.specs.Record.{record_of}
use Rattle.record.specs.Way.{Way, up, down, Past}
use Rattle.record.specs.Runs.{Runs, Inside, ahead, Before, Step, reach_chained, one_way, fresh_past, chained_free}
use Rattle.record.specs.Decode.{bits_of, turn_of}
use Rattle.record.proofs.NextTo.{Seen, NextTo, not_barred_next, next_not_barred}
use Rattle.record.proofs.Forward.{Takes, leave, take, joined_takes, triple_turn, runs_of, Stage, stage_first, step_stage, free_step}
use Rattle.record.proofs.Demand2.{each_once}
use Rattle.encoding.specs.Encoded.{Encoded, PastRuns}
use Rattle.encoding.specs.Picks.{Picks, none, Nearest, inside_within, not_past_current_before, not_past_before, past_not_before}
use Rattle.encoding.specs.Marked.{seen_of, marked_earlier, mark_bit}
use Rattle.marks.specs.Seen.{mark_of, with_label, seen_after}
use Rattle.marks.specs.M110.{seen_long as long_after, m110_others_stay}
use Rattle.encoding.proofs.Stack.{label_in, stack_of, nearest_of, label_kept, picks_ahead, picks_take}
use Rattle.encoding.proofs.Partly.{Partly, partly_none, partly_more, partly_all}

-- after k triples, that is, k + 1 labels
pub record Passed (labels : List ℕ) (k : ℕ) (seen : List ℕ) (below above : List Label) (p q : ℕ) (last : ℕ) (written : List ℕ) : Type 0 where
  pub within : k < length labels
  pub last_is : last ≡ label_at labels (suc k)
  pub stage : Stage (label_at labels) k (runs_of (label_at labels) k)
  pub fresh : (j : ℕ) → j ≤ k → ¬ Seen (label_at labels) j (label_at labels (suc j))
  pub next : (j : ℕ) → 1 ≤ j → j ≤ k → NextTo (label_at labels) j
  pub few : p + q ≤ k
  pub count_below : p ≡ length ((runs_of (label_at labels) k).stack down)
  pub count_above : q ≡ length ((runs_of (label_at labels) k).stack up)
  pub picks_below : Picks down (stack_of below p) ((runs_of (label_at labels) k).stack down)
  pub picks_above : Picks up (stack_of above q) ((runs_of (label_at labels) k).stack up)
  pub floor : label_in below 0 ≡ 0
  pub ceiling : label_in above 0 ≡ 255
  pub below_long : length below ≡ 255
  pub above_long : length above ≡ 255
  pub seen_is : seen ≡ seen_of labels (suc k)
  pub partly : Partly (triple_at (label_at labels)) (length labels) k written

-- the same count, told as another sum
pub passed_as : {labels : List ℕ} {k j : ℕ} {seen : List ℕ} {below above : List Label} {p q last : ℕ} {written : List ℕ}
    → Passed labels k seen below above p q last written → k ≡ j → Passed labels j seen below above p q last written
passed_as {labels} {k} {j} {seen} {below} {above} {p} {q} {last} {written} s e =
    subst (λ (i : ℕ). Passed labels i seen below above p q last written) e s

-- ---- a step's counts
toward : (turn way : Way) → ℕ
toward up up = 1
toward up down = 0
toward down up = 0
toward down down = 1

ahead_length : (turn way : Way) (z : Runs) → length (ahead turn z way) + toward turn way ≡ length (z.stack way) + 1
unfolding toward
ahead_length up up z = refl
ahead_length up down z = omega arith
ahead_length down up z = omega arith
ahead_length down down z = refl

takes_length : {A : Type 0} {b : Bool} {xs rest : List A} → Takes b xs rest → length rest + bit b ≡ length xs
takes_length leave = omega arith
takes_length take = omega arith

bit_le : (b : Bool) → bit b ≤ 1
bit_le true = omega arith
bit_le false = omega arith

-- the third bit
abbrev falls : Triple → Bool
falls (triple first second third) = third

toward_down : (t : Triple) → toward (turn_of t) down ≡ bit (falls t)
unfolding toward
toward_down (triple a b false) = refl
toward_down (triple a b true) = refl

toward_up : (t : Triple) → toward (turn_of t) up ≡ 1 - bit (falls t)
unfolding toward
toward_up (triple a b false) = refl
toward_up (triple a b true) = refl

-- a triple's number
numbered : (t : Triple) → triple_of (4 * bit (bits_of t up) + 2 * bit (bits_of t down) + bit (falls t)) ≡ t
numbered (triple first second third) = triple_of_bits first second third

-- ---- the labels to which a new one is compared, and the two tests
abbrev nearest : (lo hi : ℕ) → Way → ℕ
nearest lo hi up = hi
nearest lo hi down = lo

-- ---- one turn
module _ {labels : List ℕ} {k : ℕ} {seen : List ℕ} {below above : List Label} {p q last : ℕ} {written : List ℕ}
    (s : Passed labels k seen below above p q last written) (more : k + 1 < length labels) (few : length labels ≤ 255) (inside : ¬ LabelOutside labels) where
  abbrev f : ℕ → ℕ
  f = label_at labels

  abbrev v : ℕ
  v = f (suc (suc k))

  abbrev t : Triple
  t = triple_at f (suc (suc k))

  abbrev z : Runs
  z = runs_of f k

  pub label : (1 ≤ v) × (v ≤ 255)
  label =
      let lo : ¬ (v < 1) = λ h. inside (suc (suc k), omega arith, omega arith, inl h) in
      let hi : ¬ (length labels < v) = λ h. inside (suc (suc k), omega arith, omega arith, inr h) in
      omega arith

  -- what the marks say
  seen_long : length seen ≡ 32
  seen_long = ap length s.seen_is ∙ long_after (λ i. get_or labels i 0) (suc k)

  marked : (x : ℕ) → Marks (mark_of seen x) (Seen f (suc k) x)
  marked x = subst (λ (seen : List ℕ). Marks (mark_of seen x) (Seen f (suc k) x)) (sym s.seen_is) (marked_earlier labels (suc k) x)

  -- the bits of the triple, as marks, when the label is marked too
  pub first_bit_lem : mark_of (with_label seen v) (v + 1) ≡ bit (bits_of t up)
  unfolding triple_at
  first_bit_lem =
      m110_others_stay seen seen_long v (v + 1) (λ e. omega arith) ∙ mark_bit (marked (v + 1)) (dec_earlier f (v + 1) (suc (suc k)))

  pub second_bit : mark_of (with_label seen v) (v - 1) ≡ bit (bits_of t down)
  unfolding triple_at
  second_bit =
      m110_others_stay seen seen_long v (v - 1) (λ e. omega (arith, label))
      ∙ mark_bit (marked (v - 1)) (dec_earlier f (v - 1) (suc (suc k)))

  falls_tells : Tells (falls t) (v < last)
  unfolding triple_at
  falls_tells = subst (λ (x : ℕ). Tells (falls t) (v < x)) (sym s.last_is) (holds_tells (dec_lt v (f (suc k))))

  pub third_bit : from_bool (ltb v last) ≡ bit (falls t)
  third_bit = go (falls t) falls_tells
    where
      go : (b : Bool) → Tells b (v < last) → from_bool (ltb v last) ≡ bit b
      go true h = ap from_bool (lt-ltb v last h)
      go false h = let l : last ≤ v = omega arith in ap from_bool (le-ltb v last l)

  -- what the tops of the stacks are
  near : (way : Way) → Nearest way (nearest (label_in below p) (label_in above q) way) v (z.stack way)
  near up = nearest_of above q (λ l. omega (arith, s.ceiling, label)) s.picks_above
  near down = nearest_of below p (λ l. omega (arith, s.floor, label)) s.picks_below

  -- the label lies before the nearest run on each side if it does so on the side to which it turns
  before_each : Before (turn_of t) v (z.stack (turn_of t)) → (way : Way) → Before way v (z.stack way)
  before_each = go t falls_tells
    where
      behind : (way : Way) → ¬ Past way last v → Before way v (z.stack way)
      behind way n = not_past_current_before s.stage.faithful (subst (Inside z) (sym s.last_is) s.stage.inside) n

      go : (t : Triple) → Tells (falls t) (v < last) → Before (turn_of t) v (z.stack (turn_of t)) → (way : Way)
          → Before way v (z.stack way)
      go (triple a b true) h free down = free
      go (triple a b true) h free up = behind up (λ p. omega arith)
      go (triple a b false) h free up = free
      go (triple a b false) h free down = behind down (λ p. omega arith)

  -- a label that is turned away: seen before, or past the nearest run
  module _ (b : Baxter labels) where
    once : ¬ Seen f (suc k) v
    once (i, c, d, h) = omega (arith, b.each_once.once i (suc (suc k)) c (omega arith) (omega arith) (omega arith) h)

    fits : Before (turn_of t) v (z.stack (turn_of t))
    fits =
        chained_free s.stage.faithful s.stage.inside once
        (not_barred_next f (length labels) b.each_once b.not_barred (suc k) (omega arith) (omega arith) (turn_of t))

    passes_none : (way : Way) → ¬ Past way (nearest (label_in below p) (label_in above q) way) v
    passes_none way past = past_not_before (near way) past (before_each fits way)

  pub away_seen : mark_of seen v ≡ 1 → ¬ Baxter labels
  away_seen e b = once b (marks_holds (marked v) e)

  pub away_past : PastRuns v (label_in below p) (label_in above q) → ¬ Baxter labels
  away_past (inl l) b = passes_none b down (record { less = l })
  away_past (inr l) b = passes_none b up (record { less = l })

  -- ---- a label that is taken
  module _ (clear : ¬ PastRuns v (label_in below p) (label_in above q)) (new : mark_of seen v ≢ 1) where
    taken_fresh : ¬ Seen f (suc k) v
    taken_fresh = marks_fails (marked v) new

    not_past : (way : Way) → ¬ Past way (nearest (label_in below p) (label_in above q) way) v
    not_past up past = clear (inr past.less)
    not_past down past = clear (inl past.less)

    free : Before (turn_of t) v (z.stack (turn_of t))
    free = not_past_before s.stage.faithful taken_fresh (near (turn_of t)) (not_past (turn_of t))

    taken : Step (turn_of t) (bits_of t) v z (runs_of f (suc k))
    unfolding runs_of
    taken = free_step f k z s.stage label.0 taken_fresh free

    -- the runs on a side, after the step and before it
    height : (way : Way) → length ((runs_of f (suc k)).stack way) + bit (bits_of t way) + toward (turn_of t) way ≡ length (z.stack way) + 1
    height way = omega (arith, takes_length (joined_takes (taken.joins way)), ahead_length (turn_of t) way z)

    pub enough_below : bit (bits_of t down) ≤ p + (1 - bit (falls t))
    enough_below = omega (arith, height down, toward_down t, s.count_below, bit_le (falls t))

    pub enough_above : bit (bits_of t up) ≤ q + bit (falls t)
    enough_above = omega (arith, height up, toward_up t, s.count_above, bit_le (falls t))

    next_to : NextTo f (suc k)
    next_to way = one_way (turn_of t) way turns (reach_chained s.stage.faithful s.stage.inside (fresh_past s.stage.faithful s.stage.inside taken_fresh turns) free)
      where
        turns : Past (turn_of t) (f (suc k)) v
        turns = triple_turn f (suc k) (λ e. taken_fresh (suc k, omega arith, omega arith, e))

    picks_after : (way : Way) (stack : List Label) (h : ℕ) → h + 1 < length stack → h ≡ length (z.stack way) → Picks way (stack_of stack h) (z.stack way)
        → (new : ℕ) → new ≡ length ((runs_of f (suc k)).stack way) → Picks way (stack_of (set stack (h + 1) (record { 0 = last })) new) ((runs_of f (suc k)).stack way)
    picks_after way stack h room size picks new e =
        let x : Label = record { 0 = last } in
        let w = inside_within z last (subst (Inside z) (sym s.last_is) s.stage.inside) way in
        subst (λ (m : ℕ). Picks way (stack_of (set stack (h + 1) x) m) ((runs_of f (suc k)).stack way)) (sym e)
        (picks_take (set stack (h + 1) x) (joined_takes (taken.joins way)) (picks_ahead (turn_of t) way z stack h x room size picks w))

    pub taken_passed : (p-after q-after : ℕ) (after : List ℕ)
        → p-after + bit (bits_of t down) ≡ p + (1 - bit (falls t)) → q-after + bit (bits_of t up) ≡ q + bit (falls t)
        → TripleSet written after (k + 2) (triple_of (4 * bit (bits_of t up) + 2 * bit (bits_of t down) + bit (falls t)))
        → Passed labels (suc k) (with_label seen v) (set below (p + 1) (record { 0 = last })) (set above (q + 1) (record { 0 = last }))
        p-after q-after v after
    unfolding seen_after
    taken_passed p-after q-after after pe qe is_set = record {
      within = omega arith;
      last_is = refl;
      stage = step_stage f k s.stage taken;
      fresh = λ j h. elim (le_or_lt j k) [ inl l ↦ s.fresh j l | inr l ↦ let e : j ≡ suc k = omega arith in subst (λ (i : ℕ). ¬ Seen f i (f (suc i))) (sym e) taken_fresh ];
      next = λ j a h. elim (le_or_lt j k) [ inl l ↦ s.next j a l | inr l ↦ let e : j ≡ suc k = omega arith in subst (NextTo f) (sym e) next_to ];
      few = omega (arith, pe, qe, s.few, bit_le (falls t));
      count_below = below_size;
      count_above = above_size;
      picks_below = picks_after down below p (omega (arith, s.below_long, s.few)) s.count_below s.picks_below p-after below_size;
      picks_above = picks_after up above q (omega (arith, s.above_long, s.few)) s.count_above s.picks_above q-after above_size;
      floor = label_kept below (p + 1) 0 (record { 0 = last }) (omega arith) ∙ s.floor;
      ceiling = label_kept above (q + 1) 0 (record { 0 = last }) (omega arith) ∙ s.ceiling;
      below_long = length-set below (p + 1) (record { 0 = last }) ∙ s.below_long;
      above_long = length-set above (q + 1) (record { 0 = last }) ∙ s.above_long;
      seen_is = ap (λ (seen : List ℕ). with_label seen v) s.seen_is;
      partly = partly_more (triple_at f) (length labels) k written after s.partly
          (subst₂ (TripleSet written after) position (numbered t) is_set);
    }
      where
        position : k + 2 ≡ suc (suc k)
        position = omega arith

        below_size : p-after ≡ length ((runs_of f (suc k)).stack down)
        below_size = omega (arith, height down, toward_down t, s.count_below, bit_le (falls t))

        above_size : q-after ≡ length ((runs_of f (suc k)).stack up)
        above_size = omega (arith, height up, toward_up t, s.count_above, bit_le (falls t))

-- ---- the start and the end
pub passed_first : (labels before : List ℕ) → 1 ≤ length labels → length labels ≤ 255 → before ≡ replicate 97 0
    → Passed labels 0 (with_label (replicate 32 0) (label_at labels 1)) (replicate 255 (record { 0 = 0 })) (replicate 255 (record { 0 = 255 }))
    0 0 (label_at labels 1) (set before 0 (length labels))
unfolding runs_of stack_of seen_after
passed_first labels before some few e = record {
  within = some;
  last_is = refl;
  stage = stage_first (label_at labels) (runs_of (label_at labels) 0) (λ way. refl) (λ way. refl);
  fresh = λ j h (i, a, b, d). omega arith;
  next = λ j a h. absurd (omega arith);
  few = omega arith;
  count_below = refl;
  count_above = refl;
  picks_below = none;
  picks_above = none;
  floor = refl;
  ceiling = refl;
  below_long = length-replicate {A = Label} 255 (record { 0 = 0 });
  above_long = length-replicate {A = Label} 255 (record { 0 = 255 });
  seen_is = refl;
  partly = subst (λ (bytes : List ℕ). Partly (triple_at (label_at labels)) (length labels) 0 (set bytes 0 (length labels))) (sym e)
      (partly_none (triple_at (label_at labels)) (length labels) few);
}

pub passed_all : {labels : List ℕ} {k : ℕ} {seen : List ℕ} {below above : List Label} {p q last : ℕ} {written : List ℕ}
    → Passed labels k seen below above p q last written → length labels ≡ suc k
    → length labels ≤ 255 → ¬ LabelOutside labels → Encoded true labels written
passed_all {labels} {k} {written = written} s e few inside = (baxter, s.partly.long, front)
  where
    each : EachOnce (label_at labels) (length labels)
    each = each_once labels inside single
      where
        single : ¬ LabelTwice labels
        single (zero, a, b, h) = omega arith
        single (suc j, a, b, h) = s.fresh j (omega arith) h

    baxter : Baxter labels
    baxter = record { each_once = each; not_barred = next_not_barred (label_at labels) (length labels) each (λ j a b. s.next j a (omega arith)) }

    front : take_first (length (record_of labels)) written ≡ record_of labels
    front =
        let h : k ≡ length labels - 1 = omega arith in
        partly_all labels written few (subst (λ (j : ℕ). Partly (triple_at (label_at labels)) (length labels) j written) h s.partly)
