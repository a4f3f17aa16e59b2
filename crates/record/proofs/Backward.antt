-- From triples to labels: an accepted sequence of triples is that of the list it is decoded to, which is Baxter, and of no other
-- Baxter list. The runs taken apart from the end have the sizes counted from the front, so each step forward leads back to them.
use Rattle.std.specs.Prelude.{◌≡◌, ◌≢◌, Bool, true, false, get_or}
use Rattle.std.proofs.Math.Path.{refl, sym, ap, subst, subst₂}
use Rattle.std.proofs.Common.{◌∙◌, inl, inr}
use mathlib.Core.List.{List, [], ◌∷◌}
use Prim.Native.Nat.{ℕ, zero, suc, ◌+◌, ◌-◌, ◌≤◌, ◌<◌}
use native.Mathlib.Omega.{arith}
use Rattle.std.proofs.Math.ListN.{length}
use Rattle.bits.specs.Bit.{bit}
use Rattle.finite.specs.Decide.{le_or_lt, eq_or_ne}
use Rattle.finite.specs.Table.{length_table, get_d_table}
use Rattle.record.specs.Labels.{label_at, EachOnce}
use Rattle.record.specs.Barred.{Barred}
use Rattle.record.specs.Triple.{Triple, triple, triple_at}
use Rattle.record.specs.Walk.{Counts, missing, counts, step, and_then, walk, Accepted}
use Rattle.record.specs.Way.{Way, up, down, other, Past, both}
use Rattle.record.specs.Sides.{Run, rest_of, Front, Joined, apart, joined}
use Rattle.record.specs.Runs.{Runs, runs_same, inside_past, facing, ahead, Step, nothing_past, fronts, step_fresh, step_tells, reach_chained, one_way}
use Rattle.record.specs.Decode.{bits_of, turn_of, Sizes, sizes_ahead, joined_size, grow_sizes, sizes_after, lower_size, take_out, runs_but, label_of, decode}
use Rattle.record.proofs.NextTo.{Seen, NextTo, not_barred_next, next_not_barred}
use Rattle.record.proofs.Forward.{Takes, leave, take, rising_counts, falling_counts, triple_is, runs_of, Stage, stage_first, step_stage, seen_grown, steps, no_run_left, ends}
use Rattle.record.specs.Sizes.{Spaced, last, Has, Sized, step_sized, label_back, runs_back, take_out_step}

-- ---- the decoded list
pub length_decode : (t : ℕ → Triple) (n : ℕ) → length (decode t n) ≡ n
unfolding decode
length_decode t n = length_table (λ i. label_of t n (suc i)) n

pub decode_at : (t : ℕ → Triple) (n i : ℕ) → i < n → get_or (decode t n) i 0 ≡ label_of t n (suc i)
unfolding decode
decode_at t n i h = get_d_table (λ i. label_of t n (suc i)) n i 0 h

-- ---- sizes add up to the number of positions
total : List ℕ → ℕ
total [] = 0
total (s ∷ ss) = s + total ss

labels : Sizes → ℕ
labels q = q.current + total (q.others up) + total (q.others down)

joined_total : (bit : Bool) (ss : List ℕ) → joined_size bit ss + total (rest_of bit ss) ≡ total ss
unfolding joined_size rest_of total
joined_total false ss = omega arith
joined_total true [] = refl
joined_total true (s ∷ ss) = refl

grown_labels : (t : Triple) (q : Sizes) → labels (grow_sizes t q) ≡ suc (labels q)
unfolding grow_sizes labels
grown_labels t q = omega (arith, joined_total (bits_of t up) (sizes_ahead t q up), joined_total (bits_of t down) (sizes_ahead t q down), all (turn_of t))
  where
    all : (turn : Way) → total (facing turn (λ way. q.current) q.others up) + total (facing turn (λ way. q.current) q.others down) ≡ labels q
    all up = unfold total in omega arith
    all down = unfold total in omega arith

-- ---- no size is 0
abbrev Positive : List ℕ → Type 0
Positive [] = Unit
Positive (s ∷ ss) = (1 ≤ s) × Positive ss

rest_positive : (bit : Bool) (ss : List ℕ) → Positive ss → Positive (rest_of bit ss)
unfolding rest_of
rest_positive false ss p = p
rest_positive true [] p = p
rest_positive true (s ∷ ss) p = p.1

record Sound (q : Sizes) : Type 0 where
  some : 1 ≤ q.current
  positive : (way : Way) → Positive (q.others way)

grown_sound : (t : Triple) (q : Sizes) → Sound q → Sound (grow_sizes t q)
unfolding grow_sizes
grown_sound t q s = record { some = omega arith; positive = λ way. rest_positive (bits_of t way) (sizes_ahead t q way) (ahead (turn_of t) way) }
  where
    ahead : (turn way : Way) → Positive (facing turn (λ way. q.current) q.others way)
    ahead up up = s.positive up
    ahead up down = (s.some, s.positive down)
    ahead down up = (s.some, s.positive up)
    ahead down down = s.positive down

-- ---- where the walk goes on, there is the run that the triple needs
abbrev Goes : Counts → Type 0
Goes missing = ⊥
Goes (counts p q) = Unit

needed : (t : Triple) (below above : List ℕ) → Positive below → Positive above → Goes (step t (length below) (length above))
    → Has (bits_of t (turn_of t)) (elim (turn_of t) [ up ↦ above | down ↦ below ])
unfolding step
needed (triple false second false) below above p q g = tt
needed (triple true second false) below (s ∷ above) p q g = q.0
needed (triple true true false) below [] p q g = g
needed (triple true false false) below [] p q g = g
needed (triple first false true) below above p q g = tt
needed (triple first true true) (s ∷ below) above p q g = p.0
needed (triple true true true) [] above p q g = g
needed (triple false true true) [] above p q g = g

needed_in : (t : Triple) (q : Sizes) → Sound q → Goes (step t (length (q.others down)) (length (q.others up)))
    → Has (bits_of t (turn_of t)) (q.others (turn_of t))
needed_in (triple first second false) q s g = needed (triple first second false) (q.others down) (q.others up) (s.positive down) (s.positive up) g
needed_in (triple first second true) q s g = needed (triple first second true) (q.others down) (q.others up) (s.positive down) (s.positive up) g

-- the walk counts the sizes
abbrev size_counts : Sizes → Counts
size_counts q = counts (length (q.others down)) (length (q.others up))

step_sizes : (t : Triple) (q : Sizes) → Has (bits_of t (turn_of t)) (q.others (turn_of t))
    → and_then (size_counts q) (step t) ≡ size_counts (grow_sizes t q)
unfolding grow_sizes rest_of
step_sizes t q has = go t has
  where
    takes : (bit : Bool) (ss : List ℕ) → Has bit ss → Takes bit ss (rest_of bit ss)
    takes false ss h = leave
    takes true [] h = absurd h
    takes true (s ∷ ss) h = take

    takes_first : (bit : Bool) (s : ℕ) (ss : List ℕ) → Takes bit (s ∷ ss) (rest_of bit (s ∷ ss))
    takes_first false s ss = leave
    takes_first true s ss = take

    go : (t : Triple) → Has (bits_of t (turn_of t)) (q.others (turn_of t)) → and_then (size_counts q) (step t) ≡ size_counts (grow_sizes t q)
    go (triple first second false) h = rising_counts (takes first (q.others up) h) (takes_first second q.current (q.others down))
    go (triple first second true) h = falling_counts (takes_first first q.current (q.others up)) (takes second (q.others down) h)

module _ (t : ℕ → Triple) where
  labels_after : (k : ℕ) → labels (sizes_after t k) ≡ suc k
  unfolding sizes_after labels total
  labels_after zero = refl
  labels_after (suc k) = grown_labels (t (suc (suc k))) (sizes_after t k) ∙ ap suc (labels_after k)

  -- a run has no more labels than there are positions
  pub size_small : (k : ℕ) → (sizes_after t k).current ≤ suc k
  unfolding labels
  size_small k = omega (arith, labels_after k)

  sound : (k : ℕ) → Sound (sizes_after t k)
  unfolding sizes_after
  sound zero = record { some = omega arith; positive = λ way. tt }
  sound (suc k) = grown_sound (t (suc (suc k))) (sizes_after t k) (sound k)

  goes_before : (k : ℕ) → Goes (walk t (suc k)) → Goes (walk t k)
  unfolding walk
  goes_before k g = go (walk t k) g
    where
      go : (c : Counts) → Goes (and_then c (step (t (suc (suc k))))) → Goes c
      go missing g = g
      go (counts p q) g = tt

  goes_on : (k : ℕ) → walk t k ≡ size_counts (sizes_after t k) → Goes (walk t (suc k)) → let u = t (suc (suc k)) in Has (bits_of u (turn_of u)) ((sizes_after t k).others (turn_of u))
  unfolding walk
  goes_on k e g = needed_in (t (suc (suc k))) (sizes_after t k) (sound k) (subst (λ (c : Counts). Goes (and_then c (step (t (suc (suc k)))))) e g)

  walk_sizes : (k : ℕ) → Goes (walk t k) → walk t k ≡ size_counts (sizes_after t k)
  unfolding walk sizes_after
  walk_sizes zero g = refl
  walk_sizes (suc k) g =
      let u = t (suc (suc k)) in
      let e = walk_sizes k (goes_before k g) in
      ap (λ (c : Counts). and_then c (step u)) e ∙ step_sizes u (sizes_after t k) (goes_on k e g)

  -- ---- the runs from the end
  module _ (m : ℕ) (accepted : Accepted t (suc m)) where
    -- the walk goes on up to the last position
    goes : (d k : ℕ) → k + d ≡ m → Goes (walk t k)
    goes zero k e = subst Goes (sym accepted ∙ ap (walk t) (omega arith)) tt
    goes (suc d) k e = goes_before k (goes d (suc k) (omega arith))

    -- the runs of the first k + 1 positions
    pub runs_at : ℕ → Runs
    runs_at k = runs_but t (suc m) (m - k)

    abbrev f : ℕ → ℕ
    f = label_at (decode t (suc m))

    label_is : (k : ℕ) → k ≤ m → f (suc k) ≡ (runs_at k).edge down + lower_size t (suc k)
    unfolding runs_at label_of
    label_is k h =
        let e : suc m - suc k ≡ m - k = omega arith in
        decode_at t (suc m) k (omega arith) ∙ ap (λ (j : ℕ). (runs_but t (suc m) j).edge down + lower_size t (suc k)) e

    take_one : (k : ℕ) → suc k ≤ m → runs_at k ≡ take_out (t (suc (suc k))) (lower_size t (suc (suc k))) (runs_at (suc k))
    unfolding runs_at runs_but
    take_one k h =
        let e : m - k ≡ suc (m - suc k) = omega arith in
        let p : suc m - (m - suc k) ≡ suc (suc k) = omega arith in
        ap (runs_but t (suc m)) e ∙ ap (λ (i : ℕ). take_out (t i) (lower_size t i) (runs_but t (suc m) (m - suc k))) p

    record Before (k : ℕ) : Type 0 where
      step : let u = t (suc (suc k)) in Step (turn_of u) (bits_of u) (f (suc (suc k))) (runs_at k) (runs_at (suc k))
      sized : Sized (runs_at k) (sizes_after t k)

    one_back : (k : ℕ) → suc k ≤ m → Sized (runs_at (suc k)) (sizes_after t (suc k)) → Before k
    unfolding sizes_after lower_size
    one_back k h s =
        let u = t (suc (suc k)) in
        let q = sizes_after t k in
        let r = take_out_step u (runs_at (suc k)) q (sound k).some (goes_on k (walk_sizes k (goes (m - k) k (omega arith))) (goes (m - suc k) (suc k) (omega arith))) s in
        record {
          step = subst (λ (v : ℕ). Step (turn_of u) (bits_of u) v (runs_at k) (runs_at (suc k))) (sym (label_is (suc k) h)) (subst (λ (z : Runs). Step (turn_of u) (bits_of u) ((runs_at (suc k)).edge down + joined_size (bits_of u down) (sizes_ahead u q down)) z (runs_at (suc k))) (sym (take_one k h)) r.0);
          sized = subst (λ (z : Runs). Sized z q) (sym (take_one k h)) r.1;
        }

    -- at the end all labels are one run
    pub record Whole (z : Runs) : Type 0 where
      pub top : z.edge up ≡ suc m
      pub bottom : z.edge down ≡ 1
      pub alone : (way : Way) → z.stack way ≡ []

    pub whole : Whole (runs_at m)
    unfolding runs_at runs_but
    whole = let e : m - m ≡ 0 = omega arith in subst (λ (j : ℕ). Whole (runs_but t (suc m) j)) (sym e) (record { top = refl; bottom = refl; alone = λ way. refl })

    sized_last : Sized (runs_at m) (sizes_after t m)
    unfolding labels total
    sized_last = record {
      some = (sound m).some;
      current = omega (arith, whole.top, whole.bottom, size);
      sides = λ way. subst₂ (Spaced way ((runs_at m).edge way)) (sym (whole.alone way)) (sym (alone way)) last;
    }
      where
        q : Sizes
        q = sizes_after t m

        none : (ss : List ℕ) → length ss ≡ 0 → ss ≡ []
        none [] e = refl
        none (s ∷ ss) e = absurd (omega arith)

        ended : size_counts q ≡ counts 0 0
        ended = let e : suc m - 1 ≡ m = omega arith in sym (walk_sizes m (goes 0 m (omega arith))) ∙ ap (walk t) (sym e) ∙ accepted

        alone : (way : Way) → q.others way ≡ []
        alone up = none (q.others up) (cc ended)
        alone down = none (q.others down) (cc ended)

        size : q.current ≡ suc m
        size = omega (arith, labels_after m, ap total (alone up), ap total (alone down))

    all_sized : (d k : ℕ) → k + d ≡ m → Sized (runs_at k) (sizes_after t k)
    all_sized zero k e = let h : m ≡ k = omega arith in subst (λ (j : ℕ). Sized (runs_at j) (sizes_after t j)) h sized_last
    all_sized (suc d) k e = (one_back k (omega arith) (all_sized d (suc k) (omega arith))).sized

    pub step_at : (k : ℕ) → suc k ≤ m → let u = t (suc (suc k)) in Step (turn_of u) (bits_of u) (f (suc (suc k))) (runs_at k) (runs_at (suc k))
    step_at k h = (one_back k h (all_sized (m - suc k) (suc k) (omega arith))).step

    -- looking back, the label met a run: the one that was current
    pub back_run : (k : ℕ) → suc k ≤ m → let u = t (suc (suc k)) in let back = other (turn_of u) in 1 ≤ bit (bits_of u back) + length ((runs_but t (suc m) (m - suc k)).stack back)
    unfolding runs_at
    back_run k h = let u = t (suc (suc k)) in go (turn_of u) ((step_at k h).joins (other (turn_of u)))
      where
        first : {way : Way} {v end : ℕ} {b : Bool} {r : Run} {rs rest : List Run} → Joined way v b (r ∷ rs) end rest
            → 1 ≤ bit b + length rest
        first (apart a) = omega arith
        first (joined b) = omega arith

        go : (turn : Way) {v end : ℕ} {b : Bool} {rest : List Run}
            → Joined (other turn) v b (ahead turn (runs_at k) (other turn)) end rest → 1 ≤ bit b + length rest
        go up j = first j
        go down j = first j

    -- ---- and forward again, with the labels
    first_stage : Stage f 0 (runs_at 0)
    unfolding sizes_after lower_size
    first_stage = stage_first f (runs_at 0) edges (λ way. no_runs (s.sides way))
      where
        s : Sized (runs_at 0) (sizes_after t 0)
        s = all_sized m 0 (omega arith)

        edges : (way : Way) → (runs_at 0).edge way ≡ f 1
        edges up = omega (arith, s.current, label_is 0 (omega arith))
        edges down = omega (arith, label_is 0 (omega arith))

        no_runs : {way : Way} {x : ℕ} {rs : List Run} → Spaced way x rs [] → rs ≡ []
        no_runs last = refl

    pub stage_at : (k : ℕ) → k ≤ m → Stage f k (runs_at k)
    stage_at zero h = first_stage
    stage_at (suc k) h = step_stage f k (stage_at k (omega arith)) (step_at k h)

    -- what the label of position k + 2 meets
    pub front_at : (k : ℕ) → suc k ≤ m → (way : Way)
        → Front (Seen f (suc k)) way (f (suc (suc k))) (ahead (turn_of (t (suc (suc k)))) (runs_at k) way)
    front_at k h way = fronts (stage_at k (omega arith)).faithful (turn_of (t (suc (suc k)))) (f (suc (suc k))) (step_at k h).past (step_at k h).free way

    fresh : (k : ℕ) → suc k ≤ m → ¬ Seen f (suc k) (f (suc (suc k)))
    fresh k h = step_fresh (stage_at k (omega arith)).faithful (step_at k h)

    within : (i : ℕ) → 1 ≤ i → i ≤ suc m → (1 ≤ f i) × (f i ≤ suc m)
    within i a b =
        let all = (stage_at m (omega arith)).faithful in
        let seen : Seen f (suc m) (f i) = (i, a, omega arith, refl) in
        let lo : ¬ (f i < (runs_at m).edge down) = λ h. nothing_past all (whole.alone down) seen record { less = h } in
        let hi : ¬ ((runs_at m).edge up < f i) = λ h. nothing_past all (whole.alone up) seen record { less = h } in
        omega (arith, whole.top, whole.bottom)

    differ : (i j : ℕ) → 1 ≤ i → i < j → j ≤ suc m → f i ≢ f j
    differ i zero a b c e = omega arith
    differ i (suc zero) a b c e = omega arith
    differ i (suc (suc j)) a b c e = fresh j (omega arith) (i, a, b, e)

    pub decoded_each : EachOnce f (suc m)
    decoded_each = record { range = within; once = once }
      where
        once : (i j : ℕ) → 1 ≤ i → i ≤ suc m → 1 ≤ j → j ≤ suc m → f i ≡ f j → i ≡ j
        once i j a b c d e = elim (le_or_lt i j) [
          | inl h ↦ elim (eq_or_ne i j) [ inl q ↦ q | inr q ↦ absurd (differ i j a (omega arith) d e) ]
          | inr h ↦ absurd (differ j i c h b (sym e))
        ]

    -- the newest label is in the current run, so the next one lies on the side that the triple says
    turns : (k : ℕ) → (h : suc k ≤ m) → Past (turn_of (t (suc (suc k)))) (f (suc k)) (f (suc (suc k)))
    turns k h = inside_past (runs_at k) (turn_of (t (suc (suc k)))) (stage_at k (omega arith)).inside (step_at k h).past

    pub decoded_triple : (k : ℕ) → suc k ≤ m → triple_at f (suc (suc k)) ≡ t (suc (suc k))
    decoded_triple k h = triple_is f (suc k) (t (suc (suc k))) (within (suc (suc k)) (omega arith) (omega arith)).0 (step_tells (seen_grown f (suc k) (fresh k h)) (stage_at k (omega arith)).faithful (step_at k h)) (turns k h)

    decoded_next : (k : ℕ) → suc k ≤ m → NextTo f (suc k)
    decoded_next k h way = one_way (turn_of (t (suc (suc k)))) way (turns k h) (reach_chained (stage_at k (omega arith)).faithful (stage_at k (omega arith)).inside (step_at k h).past (step_at k h).free)

    pub decoded_not_barred : ¬ Barred f (suc m)
    decoded_not_barred = next_not_barred f (suc m) decoded_each next
      where
        next : (k : ℕ) → 1 ≤ k → suc k ≤ suc m → NextTo f k
        next zero a b = absurd (omega arith)
        next (suc k) a b = decoded_next k (omega arith)

-- ---- a Baxter list is the one that its triples are decoded to
module _ (f : ℕ → ℕ) (t : ℕ → Triple) (m : ℕ) (each : EachOnce f (suc m)) (free : ¬ Barred f (suc m)) (same : (k : ℕ) → suc k ≤ m → triple_at f (suc (suc k)) ≡ t (suc (suc k))) where
  next : (k : ℕ) → 1 ≤ k → suc k ≤ suc m → NextTo f k
  next = not_barred_next f (suc m) each free

  own_step : (k : ℕ) → suc k ≤ m → let u = t (suc (suc k)) in Step (turn_of u) (bits_of u) (f (suc (suc k))) (runs_of f k) (runs_of f (suc k))
  own_step k h = subst (λ (u : Triple). Step (turn_of u) (bits_of u) (f (suc (suc k))) (runs_of f k) (runs_of f (suc k))) (same k h) (steps f (suc m) each next k (omega arith))

  own_sized : (k : ℕ) → k ≤ m → Sized (runs_of f k) (sizes_after t k)
  unfolding sizes_after runs_of
  own_sized zero h = record { some = omega arith; current = refl; sides = λ way. last }
  own_sized (suc k) h = step_sized (t (suc (suc k))) (own_sized k (omega arith)) (own_step k h)

  own_runs : (d k : ℕ) → k + d ≡ m → runs_but t (suc m) d ≡ runs_of f k
  unfolding runs_but lower_size
  own_runs zero k e =
      let h : suc k ≡ suc m = omega arith in
      let r = ends f (suc m) each next k h in
      runs_same (both _ (sym r.1) (sym r.0)) (λ way. sym (no_run_left f (suc m) each next k h way))
  own_runs (suc d) k e =
      let i : suc m - d ≡ suc (suc k) = omega arith in
      ap (λ (j : ℕ). take_out (t j) (lower_size t j) (runs_but t (suc m) d)) i
      ∙ ap (take_out (t (suc (suc k))) (lower_size t (suc (suc k)))) (own_runs d (suc k) (omega arith))
      ∙ runs_back (t (suc (suc k))) (own_sized k (omega arith)) (own_step k (omega arith))

  pub own_label : (k : ℕ) → k ≤ m → label_of t (suc m) (suc k) ≡ f (suc k)
  unfolding label_of
  own_label k h = ap (λ (z : Runs). z.edge down + lower_size t (suc k)) (own_runs (suc m - suc k) k (omega arith)) ∙ go k h
    where
      go : (k : ℕ) → k ≤ m → (runs_of f k).edge down + lower_size t (suc k) ≡ f (suc k)
      go zero h = unfold runs_of lower_size in omega arith
      go (suc k) h = unfold lower_size in label_back (t (suc (suc k))) (own_sized k (omega arith)) (own_step k h)
