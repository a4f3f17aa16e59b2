-- Runs and their sizes: a step forward and the label taken out again are one another's inverse.
-- Each side is looked at by itself: the label meets runs of given sizes there, and is joined to the first or not.
use Rattle.std.specs.Prelude.{◌≡◌, ◌⊎◌, Bool, ℕ, ◌+◌, ◌-◌, ◌≤◌}
use Rattle.std.proofs.Math.Path.{refl}
use Rattle.std.proofs.Common.{ap, subst, ◌∙◌, inl, inr}
use Rattle.std.proofs.Math.Bool.{true, false}
use mathlib.Core.List.{List, [], ◌∷◌}
use native.Mathlib.Omega.{arith}
use Rattle.record.specs.Triple.{Triple, triple}
use Rattle.record.specs.Way.{Way, up, down, other, Past, Beside, past_trans, past_not_self, past_not_back, past_turn, beside_tight, both}
use Rattle.record.specs.Sides.{Run, rest_of, Joined, none, apart, joined}
use Rattle.record.specs.Runs.{Runs, runs_same, facing, current_run, ahead, Before, no_run, first_run_lem, Step}
use Rattle.record.specs.Decode.{bits_of, turn_of, Sizes, sizes_ahead, joined_size, grow_sizes, beside, met, split, take_out}

-- going that way, e is s steps after x
abbrev pub Reaches : Way → (x e s : ℕ) → Type 0
Reaches up x e s = x + s ≡ e
Reaches down x e s = e + s ≡ x

-- the run r has s labels
pub record Spans (way : Way) (r : Run) (s : ℕ) : Type 0 where
  pub some : 1 ≤ s
  pub reaches : Reaches way r.near r.far (s - 1)

-- the runs after x have these sizes, and none touches the one before it
pub data Spaced (way : Way) : ℕ → List Run → List ℕ → Type 0 where
  last : {x : ℕ} → Spaced way x [] []
  more : {x s : ℕ} {r : Run} {rs : List Run} {ss : List ℕ} → Past way x r.near → ¬ Beside way x r.near → Spans way r s
      → Spaced way r.far rs ss → Spaced way x (r ∷ rs) (s ∷ ss)

-- the runs after v have these sizes; the first may touch v
pub data Meets (way : Way) (v : ℕ) : List Run → List ℕ → Type 0 where
  nothing : Meets way v [] []
  run : {s : ℕ} {r : Run} {rs : List Run} {ss : List ℕ} → Past way v r.near → Spans way r s → Spaced way r.far rs ss
      → Meets way v (r ∷ rs) (s ∷ ss)

-- ---- one side of a step
joined_reaches : (way : Way) {v s : ℕ} {r : Run} → Beside way v r.near → Spans way r s → Reaches way v r.far s
joined_reaches up b p = omega arith
joined_reaches down b p = omega arith

apart_reaches : (way : Way) (v : ℕ) → Reaches way v v 0
apart_reaches up v = omega arith
apart_reaches down v = omega arith

side_forward : {way : Way} {v e : ℕ} {bit : Bool} {rs rest : List Run} {ss : List ℕ} → Meets way v rs ss
    → Joined way v bit rs e rest → Reaches way v e (joined_size bit ss) × Spaced way e rest (rest_of bit ss)
unfolding joined_size rest_of
side_forward {way} {v} nothing none = (apart_reaches way v, last)
side_forward {way} {v} (run p q s) (apart a) = (apart_reaches way v, more p a q s)
side_forward {way} (run p q s) (joined b) = (joined_reaches way b q, s)

unjoined : {way : Way} {v : ℕ} {rs : List Run} {ss : List ℕ} → Spaced way v rs ss → Meets way v rs ss × Joined way v false rs v rs
unjoined last = (nothing, none)
unjoined (more p a q s) = (run p q s, apart a)

-- there is a run to be joined to, if the bit asks for one
abbrev pub Has : Bool → List ℕ → Type 0
Has true [] = ⊥
Has true (s ∷ ss) = 1 ≤ s
Has false ss = Unit

side_back : (way : Way) (v e : ℕ) (bit : Bool) (rest : List Run) (ss : List ℕ) → Has bit ss → Reaches way v e (joined_size bit ss)
    → Spaced way e rest (rest_of bit ss)
    → Meets way v (met bit way v e rest) ss × Joined way v bit (met bit way v e rest) e rest
unfolding joined_size rest_of
side_back way v e false rest ss h r s = subst (λ (x : ℕ). Spaced way x rest ss → Meets way v rest ss × Joined way v false rest x rest) (here way r) unjoined s
  where
    here : (way : Way) → Reaches way v e 0 → v ≡ e
    here up r = omega arith
    here down r = omega arith
side_back way v e true rest [] h r s = absurd h
side_back way v e true rest (k ∷ ss) h r s = (run (past way r) (spans way r) s, joined (beside_is way r))
  where
    past : (way : Way) → Reaches way v e k → Past way v (beside way v)
    past up r = omega arith
    past down r = omega arith

    spans : (way : Way) → Reaches way v e k → Spans way (record { near = beside way v; far = e }) k
    spans up r = record { some = h; reaches = omega arith }
    spans down r = record { some = h; reaches = omega arith }

    beside_is : (way : Way) → Reaches way v e k → Beside way v (beside way v)
    beside_is up r = omega arith
    beside_is down r = omega arith

-- ---- a whole step
-- the runs z have the sizes q
pub record Sized (z : Runs) (q : Sizes) : Type 0 where
  pub some : 1 ≤ q.current
  pub current : z.edge down + q.current ≡ z.edge up + 1
  pub sides : (way : Way) → Spaced way (z.edge way) (z.stack way) (q.others way)

to_meets : {turn : Way} {x v : ℕ} {rs : List Run} {ss : List ℕ} → Spaced turn x rs ss → Before turn v rs → Meets turn v rs ss
to_meets last no_run = nothing
to_meets (more p a q s) (first_run_lem b) = run b q s

from_meets : {turn : Way} {x v : ℕ} {rs : List Run} {ss : List ℕ} → Past turn x v → Meets turn v rs ss → Spaced turn x rs ss
from_meets p nothing = last
from_meets {turn} {x} {v} p (run {r = r} m q s) = more (past_trans p m) (λ b. between (beside_tight b p)) q s
  where
    between : (r.near ≡ v) ⊎ Past turn r.near v → ⊥
    between (inl e) = past_not_self (subst (Past turn v) e m)
    between (inr l) = past_not_back l m

before_first : {turn : Way} {v : ℕ} {rs : List Run} {ss : List ℕ} → Meets turn v rs ss → Before turn v rs
before_first nothing = no_run
before_first (run p q s) = first_run_lem p

-- forward: the sizes grow as the runs do
module _ (t : Triple) {v : ℕ} {z y : Runs} {q : Sizes} (k : Sized z q) (step : Step (turn_of t) (bits_of t) v z y) where
  current_spans : (way : Way) → Spans way (current_run z way) q.current
  current_spans up = record { some = k.some; reaches = omega (arith, k.current, k.some) }
  current_spans down = record { some = k.some; reaches = omega (arith, k.current, k.some) }

  meets : (way : Way) → Meets way v (ahead (turn_of t) z way) (sizes_ahead t q way)
  meets way = go (turn_of t) way step.past step.free
    where
      go : (turn way : Way) → Past turn (z.edge turn) v → Before turn v (z.stack turn)
          → Meets way v (ahead turn z way) (facing turn (λ way. q.current) q.others way)
      go up up p b = to_meets (k.sides up) b
      go up down p b = run (past_turn p) (current_spans down) (k.sides down)
      go down up p b = run (past_turn p) (current_spans up) (k.sides up)
      go down down p b = to_meets (k.sides down) b

  sides : (way : Way) → Reaches way v (y.edge way) (joined_size (bits_of t way) (sizes_ahead t q way)) × Spaced way (y.edge way) (y.stack way) (rest_of (bits_of t way) (sizes_ahead t q way))
  sides way = side_forward (meets way) (step.joins way)

  pub step_sized : Sized y (grow_sizes t q)
  unfolding grow_sizes
  step_sized = record { some = omega arith; current = omega (arith, (sides up).0, (sides down).0); sides = λ way. (sides way).1 }

  -- and the label is taken out again
  pub label_back : y.edge down + joined_size (bits_of t down) (sizes_ahead t q down) ≡ v
  label_back = (sides down).0

  pub runs_back : take_out t (joined_size (bits_of t down) (sizes_ahead t q down)) y ≡ z
  unfolding take_out
  runs_back = (λ i. split (turn_of t) (same (turn_of t) i) (same (other (turn_of t)) i)) ∙ joint (turn_of t)
    where
      met_is : (way : Way) {e : ℕ} {bit : Bool} {rs rest : List Run} → Joined way v bit rs e rest → met bit way v e rest ≡ rs
      met_is way none = refl
      met_is way (apart a) = refl
      met_is way (joined {r = r} {rs} b) = λ i. record { near = next way b i; far = r.far } ∷ rs
        where
          next : (way : Way) → Beside way v r.near → beside way v ≡ r.near
          next up b = omega arith
          next down b = omega arith

      same : (way : Way) → met (bits_of t way) way (y.edge down + joined_size (bits_of t down) (sizes_ahead t q down)) (y.edge way) (y.stack way) ≡ ahead (turn_of t) z way
      same way = ap (λ (x : ℕ). met (bits_of t way) way x (y.edge way) (y.stack way)) label_back ∙ met_is way (step.joins way)

      joint : (turn : Way) → split turn (ahead turn z turn) (ahead turn z (other turn)) ≡ z
      joint up = runs_same (both _ refl refl) (both _ refl refl)
      joint down = runs_same (both _ refl refl) (both _ refl refl)

-- back: the runs before have the sizes before, and the step from them leads here
module _ {bits : Way → Bool} {v : ℕ} {y : Runs} {q : Sizes} (some : 1 ≤ q.current) where
  put_back : (turn : Way) {onward back : List Run} → Meets turn v onward (q.others turn)
      → Joined turn v (bits turn) onward (y.edge turn) (y.stack turn)
      → Meets (other turn) v back (q.current ∷ q.others (other turn))
      → Joined (other turn) v (bits (other turn)) back (y.edge (other turn)) (y.stack (other turn))
      → Step turn bits v (split turn onward back) y × Sized (split turn onward back) q
  put_back up m j (run p c s) i = (
    record { past = past_turn p; free = before_first m; joins = both _ j i },
    record { some = some; current = omega (arith, c.reaches); sides = both _ (from_meets (past_turn p) m) s },
  )
  put_back down m j (run p c s) i = (
    record { past = past_turn p; free = before_first m; joins = both _ i j },
    record { some = some; current = omega (arith, c.reaches); sides = both _ s (from_meets (past_turn p) m) },
  )

module _ (t : Triple) (y : Runs) (q : Sizes) (some : 1 ≤ q.current) (has : Has (bits_of t (turn_of t)) (q.others (turn_of t))) (k : Sized y (grow_sizes t q)) where
  abbrev lower : ℕ
  lower = joined_size (bits_of t down) (sizes_ahead t q down)

  back_side : (way : Way) → let runs = met (bits_of t way) way (y.edge down + lower) (y.edge way) (y.stack way) in
      Meets way (y.edge down + lower) runs (sizes_ahead t q way) × Joined way (y.edge down + lower) (bits_of t way) runs (y.edge way) (y.stack way)
  unfolding grow_sizes
  back_side way = side_back way (y.edge down + lower) (y.edge way) (bits_of t way) (y.stack way) (sizes_ahead t q way) (has_each t has way) (reaches way) (k.sides way)
    where
      has_current : (bit : Bool) (ss : List ℕ) → Has bit (q.current ∷ ss)
      has_current true ss = some
      has_current false ss = tt

      has_each : (t : Triple) → Has (bits_of t (turn_of t)) (q.others (turn_of t)) → (way : Way) → Has (bits_of t way) (sizes_ahead t q way)
      has_each (triple first second false) h up = h
      has_each (triple first second false) h down = has_current second (q.others down)
      has_each (triple first second true) h up = has_current first (q.others up)
      has_each (triple first second true) h down = h

      reaches : (way : Way) → Reaches way (y.edge down + lower) (y.edge way) (joined_size (bits_of t way) (sizes_ahead t q way))
      reaches up = omega (arith, k.current)
      reaches down = refl

  pub take_out_step : Step (turn_of t) (bits_of t) (y.edge down + lower) (take_out t lower y) y × Sized (take_out t lower y) q
  unfolding take_out
  take_out_step = go t back_side
    where
      go : (u : Triple) → ((way : Way) → let runs = met (bits_of u way) way (y.edge down + lower) (y.edge way) (y.stack way) in
          Meets way (y.edge down + lower) runs (sizes_ahead u q way) × Joined way (y.edge down + lower) (bits_of u way) runs (y.edge way) (y.stack way))
          → Step (turn_of u) (bits_of u) (y.edge down + lower) (take_out u lower y) y × Sized (take_out u lower y) q
      go (triple first second false) side = put_back some up (side up).0 (side up).1 (side down).0 (side down).1
      go (triple first second true) side = put_back some down (side down).0 (side down).1 (side up).0 (side up).1
