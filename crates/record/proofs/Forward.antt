-- From labels to triples: along a Baxter list the runs of the seen labels follow the table, and its triples are accepted.
-- Each step is that of Runs; when all labels are seen, one run is left.
use Rattle.std.specs.Prelude.{◌≡◌, ◌≢◌, ◌⊎◌, Bool, List, [], ◌∷◌, length}
use Rattle.std.proofs.Math.Path.{refl, ap}
use Rattle.std.proofs.Common.{sym, subst, ◌∙◌, inl, inr}
use Rattle.std.proofs.Math.Bool.{true, false}
use Prim.Native.Nat.{ℕ, zero, suc, ◌+◌, ◌-◌, ◌≤◌, ◌<◌}
use native.Mathlib.Omega.{arith}
use Rattle.std.proofs.Math.Decide.{dec_lt}
use Rattle.finite.specs.Decide.{Tells, holds, holds_tells, tells_same, tells_holds, eq_or_ne}
use Rattle.record.specs.Labels.{EachOnce}
use Rattle.record.specs.Triple.{Triple, triple, dec_earlier, triple_at}
use Rattle.record.specs.Walk.{Counts, counts, step, and_then, walk, Accepted}
use Rattle.record.specs.Way.{Way, up, down, other, Past, Beside, past_not_self, not_past_same, beside_past, beside_one, beside_tight, next_toward}
use Rattle.record.specs.Sides.{Run, Side, last, more, Joined, none, apart, joined, BesideSeen, Grown, near_seen, tells_joined}
use Rattle.record.specs.Runs.{Runs, Faithful, Inside, ahead, Before, Step, grow, edge_seen, nothing_past, fronts, step_fresh, step_faithful, step_inside, fresh_past, chained_free}
use Rattle.record.specs.Decode.{bits_of, turn_of}
use Rattle.record.proofs.NextTo.{Seen, NextTo, every}

-- ---- the counts follow the table
-- what is left of a list when its first element is taken, or not, as the bit says
pub data Takes {A : Type 0} : Bool → (xs rest : List A) → Type 0 where
  leave : {xs : List A} → Takes false xs xs
  take : {x : A} {xs : List A} → Takes true (x ∷ xs) xs

pub rising_counts : {A : Type 0} {first second : Bool} {x : A} {above Above-then below Below-then : List A}
    → Takes first above Above-then → Takes second (x ∷ below) Below-then
    → step (triple first second false) (length below) (length above) ≡ counts (length Below-then) (length Above-then)
unfolding step
rising_counts leave leave = refl
rising_counts leave take = refl
rising_counts take leave = refl
rising_counts take take = refl

pub falling_counts : {A : Type 0} {first second : Bool} {x : A} {above Above-then below Below-then : List A}
    → Takes first (x ∷ above) Above-then → Takes second below Below-then
    → step (triple first second true) (length below) (length above) ≡ counts (length Below-then) (length Above-then)
unfolding step
falling_counts leave leave = refl
falling_counts leave take = refl
falling_counts take leave = refl
falling_counts take take = refl

pub joined_takes : {way : Way} {v e : ℕ} {bit : Bool} {rs rest : List Run} → Joined way v bit rs e rest → Takes bit rs rest
joined_takes none = leave
joined_takes (apart a) = leave
joined_takes (joined b) = take

-- the runs below and above the current one, counted
abbrev pub counts_of : Runs → Counts
counts_of z = counts (length (z.stack down)) (length (z.stack up))

pub step_counts : (t : Triple) {v : ℕ} {z y : Runs} → Step (turn_of t) (bits_of t) v z y → and_then (counts_of z) (step t) ≡ counts_of y
step_counts (triple first second false) s = rising_counts (joined_takes (s.joins up)) (joined_takes (s.joins down))
step_counts (triple first second true) s = falling_counts (joined_takes (s.joins up)) (joined_takes (s.joins down))

-- ---- the bits of a label's triple
tells_beside : (S : ℕ → Type 0) {way : Way} {v w : ℕ} → Beside way v w → (b : Bool) → Tells b (S w) → Tells b (BesideSeen S way v)
tells_beside S {w = w} s true t = (w, s, t)
tells_beside S s false t = λ (y, b, seen). t (subst S (beside_one b s) seen)

module _ (f : ℕ → ℕ) (k : ℕ) where
  pub triple_bits : 1 ≤ f (suc k) → (way : Way) → Tells (bits_of (triple_at f (suc k)) way) (BesideSeen (Seen f k) way (f (suc k)))
  unfolding triple_at
  triple_bits label up = let v = f (suc k) in tells_beside (Seen f k) {w = v + 1} (omega arith) (holds (dec_earlier f (v + 1) (suc k))) (holds_tells (dec_earlier f (v + 1) (suc k)))
  triple_bits label down = let v = f (suc k) in tells_beside (Seen f k) {w = v - 1} (omega arith) (holds (dec_earlier f (v - 1) (suc k))) (holds_tells (dec_earlier f (v - 1) (suc k)))

  pub triple_turn : f k ≢ f (suc k) → Past (turn_of (triple_at f (suc k))) (f k) (f (suc k))
  unfolding triple_at
  triple_turn differ = go (holds (dec_lt (f (suc k)) (f k))) (holds_tells (dec_lt (f (suc k)) (f k)))
    where
      go : (b : Bool) → Tells b (f (suc k) < f k) → Past (turn_of (triple true true b)) (f k) (f (suc k))
      go true t = omega arith
      go false t = omega arith

-- the triple that has these bits and this turn
pub triple_is : (f : ℕ → ℕ) (k : ℕ) (t : Triple) → 1 ≤ f (suc k) → ((way : Way)
    → Tells (bits_of t way) (BesideSeen (Seen f k) way (f (suc k)))) → Past (turn_of t) (f k) (f (suc k)) → triple_at f (suc k) ≡ t
unfolding triple_at
triple_is f k (triple first second third) label bits turn = λ i. triple
    (tells_same (BesideSeen (Seen f k) up v) (holds (dec_earlier f (v + 1) (suc k))) first (triple_bits f k label up) (bits up) i)
    (tells_same (BesideSeen (Seen f k) down v) (holds (dec_earlier f (v - 1) (suc k))) second (triple_bits f k label down) (bits down) i)
    (tells_holds (dec_lt v (f k)) third (smaller third turn) i)
  where
    v : ℕ
    v = f (suc k)

    smaller : (b : Bool) → Past (turn_of (triple first second b)) (f k) v → Tells b (v < f k)
    smaller true p = omega arith
    smaller false p = omega arith

-- ---- the runs of the first labels
-- the labels of positions 1 to k + 1
unfoldable pub runs_of : (ℕ → ℕ) → (k : ℕ) → Runs
unfolding grow
runs_of f zero = record { edge = λ way. f 1; stack = λ way. [] }
runs_of f (suc k) = let t = triple_at f (suc (suc k)) in grow (turn_of t) (bits_of t) (f (suc (suc k))) (runs_of f k)

-- what holds of them
pub record Stage (f : ℕ → ℕ) (k : ℕ) (z : Runs) : Type 0 where
  pub faithful : Faithful (Seen f (suc k)) z
  pub inside : Inside z (f (suc k))

pub seen_grown : (f : ℕ → ℕ) (k : ℕ) → ¬ Seen f k (f (suc k)) → Grown (Seen f k) (Seen f (suc k)) (f (suc k))
seen_grown f k fresh = record { fresh = fresh; new = (suc k, omega arith, omega arith, refl); keep = λ x (i, a, b, e). (i, a, omega arith, e); only = only }
  where
    only : (x : ℕ) → x ≢ f (suc k) → Seen f (suc k) x → Seen f k x
    only x ne (i, a, b, e) = elim (eq_or_ne i (suc k)) [ inl q ↦ absurd (ne (sym e ∙ ap f q)) | inr q ↦ (i, a, omega arith, e) ]

-- the first label is a run by itself
pub stage_first : (f : ℕ → ℕ) (z : Runs) → ((way : Way) → z.edge way ≡ f 1) → ((way : Way) → z.stack way ≡ []) → Stage f 0 z
stage_first f z edges stacks = record {
  faithful = record {
    sides =
        λ way. subst (Side (Seen f 1) way (z.edge way)) (sym (stacks way)) (last (λ x p s. past_not_self (subst (Past way (z.edge way)) (only x s ∙ sym (edges way)) p)));
    ordered = λ way p. past_not_self (subst (Past way (z.edge way)) (edges (other way) ∙ sym (edges way)) p);
    current =
        λ way x a b. (
          1,
          omega arith,
          omega arith,
          sym (edges way)
              ∙ not_past_same (other way) (λ p. b (subst (λ (e : ℕ). Past (other way) e x) (edges way ∙ sym (edges (other way))) p)) a,
        );
  };
  inside = λ way p. past_not_self (subst (Past way (z.edge way)) (sym (edges way)) p);
}
  where
    only : (x : ℕ) → Seen f 1 x → x ≡ f 1
    only x (i, a, b, e) = sym e ∙ ap f (omega arith)

pub step_stage : (f : ℕ → ℕ) (k : ℕ) {turn : Way} {bits : Way → Bool} {z y : Runs} → Stage f k z
    → Step turn bits (f (suc (suc k))) z y → Stage f (suc k) y
step_stage f k s step =
    let g = seen_grown f (suc k) (step_fresh s.faithful step) in
    record { faithful = step_faithful g s.faithful step; inside = step_inside g s.faithful step }

-- a fresh label that lies before the next run makes a step, and its triple says which
pub free_step : (f : ℕ → ℕ) (k : ℕ) (z : Runs) → Stage f k z → 1 ≤ f (suc (suc k)) → ¬ Seen f (suc k) (f (suc (suc k)))
    → let t = triple_at f (suc (suc k)) in Before (turn_of t) (f (suc (suc k))) (z.stack (turn_of t))
    → Step (turn_of t) (bits_of t) (f (suc (suc k))) z (grow (turn_of t) (bits_of t) (f (suc (suc k))) z)
unfolding grow
free_step f k z s label fresh free =
    let t = triple_at f (suc (suc k)) in
    let v = f (suc (suc k)) in
    let past = fresh_past s.faithful s.inside fresh (triple_turn f (suc k) (λ e. fresh (suc k, omega arith, omega arith, e))) in
    record {
      past = past;
      free = free;
      joins = λ way. tells_joined v (bits_of t way) (ahead (turn_of t) z way) (fronts s.faithful (turn_of t) v past free way) (triple_bits f (suc k) label way);
    }

-- ---- a list of 1 to n, each once, whose labels are each put next to the current run
module _ (f : ℕ → ℕ) (n : ℕ) (each : EachOnce f n) (next : (k : ℕ) → 1 ≤ k → suc k ≤ n → NextTo f k) where
  grown_step : (k : ℕ) → suc (suc k) ≤ n → (z : Runs) → Stage f k z → let t = triple_at f (suc (suc k)) in Step (turn_of t) (bits_of t) (f (suc (suc k))) z (grow (turn_of t) (bits_of t) (f (suc (suc k))) z)
  grown_step k h z s = free_step f k z s (each.range (suc (suc k)) (omega arith) h).0 fresh (chained_free s.faithful s.inside fresh (next (suc k) (omega arith) h (turn_of (triple_at f (suc (suc k))))))
    where
      fresh : ¬ Seen f (suc k) (f (suc (suc k)))
      fresh (i, a, b, e) = omega (arith, each.once i (suc (suc k)) a (omega arith) (omega arith) h e)

  pub stages : (k : ℕ) → suc k ≤ n → Stage f k (runs_of f k)
  unfolding runs_of
  stages zero h = stage_first f (runs_of f 0) (λ way. refl) (λ way. refl)
  stages (suc k) h = step_stage f k (stages k (omega arith)) (grown_step k h (runs_of f k) (stages k (omega arith)))

  pub steps : (k : ℕ) → suc (suc k) ≤ n → let t = triple_at f (suc (suc k)) in Step (turn_of t) (bits_of t) (f (suc (suc k))) (runs_of f k) (runs_of f (suc k))
  unfolding runs_of
  steps k h = grown_step k h (runs_of f k) (stages k (omega arith))

  -- the walk counts the runs
  pub walk_counts : (k : ℕ) → suc k ≤ n → walk (triple_at f) k ≡ counts_of (runs_of f k)
  unfolding walk
  walk_counts zero h = unfold runs_of in refl
  walk_counts (suc k) h =
      ap (λ (c : Counts). and_then c (step (triple_at f (suc (suc k))))) (walk_counts k (omega arith))
      ∙ step_counts (triple_at f (suc (suc k))) (steps k h)

  -- ---- the end
  module _ (m : ℕ) (size : suc m ≡ n) where
    abbrev all : Faithful (Seen f (suc m)) (runs_of f m)
    all = (stages m (omega arith)).faithful

    seen : (x : ℕ) → 1 ≤ x → x ≤ n → Seen f (suc m) x
    seen x a b = let (i, c, d, e) = every f n each x a b in (i, c, omega arith, e)

    label : {x : ℕ} → Seen f (suc m) x → (1 ≤ x) × (x ≤ n)
    label (i, a, b, e) = omega (arith, each.range i a (omega arith))

    no_gap : (way : Way) {x y z : ℕ} → Seen f (suc m) x → Seen f (suc m) y → Past way x z → Past way z y → Seen f (suc m) z
    no_gap up s t p q = seen _ (omega (arith, label s, label t)) (omega (arith, label s, label t))
    no_gap down s t p q = seen _ (omega (arith, label s, label t)) (omega (arith, label s, label t))

    pub no_run_left : (way : Way) → (runs_of f m).stack way ≡ []
    no_run_left way = go (all.sides way)
      where
        go : {rs : List Run} → Side (Seen f (suc m)) way ((runs_of f m).edge way) rs → rs ≡ []
        go (last h) = refl
        go (more {r = r} k far-off s) = let (y, b) = next_toward k.past in absurd (gap y b (beside_tight b k.past))
          where
            gap : (y : ℕ) → Beside way ((runs_of f m).edge way) y → (y ≡ r.near) ⊎ Past way y r.near → ⊥
            gap y b (inl e) = far-off (subst (Beside way ((runs_of f m).edge way)) e b)
            gap y b (inr p) = k.clear y (beside_past b) p (no_gap way (edge_seen all way) (near_seen k) (beside_past b) p)

    pub ends : ((runs_of f m).edge down ≡ 1) × ((runs_of f m).edge up ≡ n)
    ends =
        let lo : ¬ (1 < (runs_of f m).edge down) = λ h. nothing_past all (no_run_left down) (seen 1 (omega arith) (omega arith)) record { less = h } in
        let hi : ¬ ((runs_of f m).edge up < n) = λ h. nothing_past all (no_run_left up) (seen n (omega arith) (omega arith)) record { less = h } in
        (omega (arith, label (edge_seen all down)), omega (arith, label (edge_seen all up)))

    pub accepted : Accepted (triple_at f) n
    accepted =
        let e : n - 1 ≡ m = omega arith in
        ap (walk (triple_at f)) e ∙ walk_counts m (omega arith) ∙ (λ i. counts (length (no_run_left down i)) (length (no_run_left up i)))
