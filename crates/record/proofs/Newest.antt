-- Forward along accepted triples: the newest position in the first run that a label meets, looking either way, is the last earlier
-- position whose label lies that way. On either side of the current run, a run further off is older.
use Rattle.std.specs.Prelude.{◌≡◌, refl, ◌≢◌, ◌⊎◌, Bool, List, [], ◌∷◌}
use Rattle.std.proofs.Common.{sym, ap, subst, ◌∙◌, inl, inr}
use Prim.Native.Nat.{ℕ, zero, suc, ◌≤◌, ◌<◌}
use native.Mathlib.Omega.{arith}
use Rattle.finite.specs.Decide.{eq_or_ne}
use Rattle.record.specs.Labels.{label_at}
use Rattle.record.specs.Triple.{Triple}
use Rattle.record.specs.Walk.{Accepted}
use Rattle.record.specs.Way.{Way, up, down, other, Past, past_trans, past_not_self, past_not_back, past_turn, Order, before, same, after, order}
use Rattle.record.specs.Sides.{Run, Side, last, more, Front, open_front, run_front, Joined, none, apart, joined, rest_of, near_seen, far_past}
use Rattle.record.specs.Runs.{Runs, inside_past, facing, ahead, Step, gap, step_fresh}
use Rattle.record.specs.Decode.{turn_of, decode}
use Rattle.record.proofs.NextTo.{Seen}
use Rattle.record.proofs.Forward.{Stage}
use Rattle.record.proofs.Backward.{runs_at, step_at, stage_at, front_at}
use Rattle.record.specs.Positions.{first_of, newest_ahead, newest_after, newest_met}

-- of the first m positions, p is the last whose label is past x; 0 if none is
pub record Newest (way : Way) (f : ℕ → ℕ) (m x p : ℕ) : Type 0 where
  pub within : p ≤ m
  pub past : 1 ≤ p → Past way x (f p)
  pub later : (q : ℕ) → p < q → q ≤ m → ¬ Past way x (f q)

-- each of the runs after x has the last position past what comes before it
data NewestSide (way : Way) (f : ℕ → ℕ) (m : ℕ) : ℕ → List Run → List ℕ → Type 0 where
  no_newest : {x : ℕ} → NewestSide way f m x [] []
  newest : {x p : ℕ} {r : Run} {rs : List Run} {ps : List ℕ} → 1 ≤ p → Newest way f m x p → NewestSide way f m r.far rs ps
      → NewestSide way f m x (r ∷ rs) (p ∷ ps)

module _ (f : ℕ → ℕ) (m : ℕ) {way : Way} where
  -- ---- one more label, that is not past x
  newest_kept : {x p : ℕ} → ¬ Past way x (f (suc m)) → Newest way f m x p → Newest way f (suc m) x p
  newest_kept {x} {p} h n = record { within = omega (arith, n.within); past = n.past; later = λ q a b. go q a b (eq_or_ne q (suc m)) }
    where
      go : (q : ℕ) → p < q → q ≤ suc m → (q ≡ suc m) ⊎ (q ≢ suc m) → ¬ Past way x (f q)
      go q a b (inl e) = subst (λ (i : ℕ). ¬ Past way x (f i)) (sym e) h
      go q a b (inr e) = n.later q a (omega arith)

  side_kept : {x : ℕ} {rs : List Run} {ps : List ℕ} {S : ℕ → Type 0} → ¬ Past way x (f (suc m)) → Side S way x rs
      → NewestSide way f m x rs ps → NewestSide way f (suc m) x rs ps
  side_kept h s no_newest = no_newest
  side_kept h (more k a s) (newest o n rest) = newest o (newest_kept h n) (side_kept (λ p. h (past_trans (far_past k) p)) s rest)

  -- the label of position m + 1 is joined to the runs that it meets
  joined_newest : {S : ℕ → Type 0} {bit : Bool} {rs rest : List Run} {ps : List ℕ} {e : ℕ} → Front S way (f (suc m)) rs
      → Joined way (f (suc m)) bit rs e rest
      → NewestSide way f m (f (suc m)) rs ps → NewestSide way f (suc m) e rest (rest_of bit ps)
  unfolding rest_of
  joined_newest (open_front h) none no_newest = no_newest
  joined_newest (run_front k s) (apart a) (newest o n rest) = newest o (newest_kept past_not_self n) (side_kept (past_not_back (far_past k)) s rest)
  joined_newest (run_front k s) (joined b) (newest o n rest) = side_kept (past_not_back (far_past k)) s rest

  -- the runs after v hold all seen labels past v, so the first one's number is that of the last position past v
  first_newest : {S : ℕ → Type 0} {v : ℕ} {rs : List Run} {ps : List ℕ} → ((q : ℕ) → 1 ≤ q → q ≤ m → S (f q)) → Front S way v rs
      → NewestSide way f m v rs ps → Newest way f m v (first_of ps)
  unfolding first_of
  first_newest seen (open_front h) no_newest = record { within = omega arith; past = λ o. absurd (omega arith); later = λ q a b p. h (f q) p (seen q (omega arith) b) }
  first_newest seen (run_front k s) (newest o n rest) = n

-- ---- what the label of position k + 2 meets
module _ (f : ℕ → ℕ) (k : ℕ) {turn : Way} {bits : Way → Bool} {z y : Runs} (stage : Stage f k z) (step : Step turn bits (f (suc (suc k))) z y) where
  abbrev v : ℕ
  v = f (suc (suc k))

  -- on the side of the turn, what is past the current run is past the label
  newest_onward : {rs : List Run} {ps : List ℕ} → NewestSide turn f (suc k) (z.edge turn) rs ps → NewestSide turn f (suc k) v rs ps
  newest_onward no_newest = no_newest
  newest_onward (newest {p = p} o n rest) = newest o record { within = n.within; past = λ o. go (order turn v (f p)); later = λ q a b l. n.later q a b (past_trans step.past l) } rest
    where
      seen : Seen f (suc k) (f p)
      seen = (p, o, omega (arith, n.within), refl)

      go : Order turn v (f p) → Past turn v (f p)
      go (before l) = l
      go (same e) = absurd (step_fresh stage.faithful step (subst (Seen f (suc k)) (sym e) seen))
      go (after l) = absurd (gap stage.faithful step.past step.free (f p) (n.past o) l seen)

  -- looking back, the label meets the current run, whose newest position is the last one
  newest_back : Newest (other turn) f (suc k) v (suc k)
  newest_back = record { within = omega arith; past = λ o. past_turn (inside_past z turn stage.inside step.past); later = λ q a b p. omega arith }

newest_ahead_lem : (f : ℕ → ℕ) (k : ℕ) (turn : Way) {bits : Way → Bool} {z y : Runs} {ns : Way → List ℕ} → Stage f k z
    → Step turn bits (f (suc (suc k))) z y
    → ((way : Way) → NewestSide way f (suc k) (z.edge way) (z.stack way) (ns way)) → (way : Way)
    → NewestSide way f (suc k) (f (suc (suc k))) (ahead turn z way) (facing turn (λ way. suc k) ns way)
newest_ahead_lem f k up stage step side up = newest_onward f k stage step (side up)
newest_ahead_lem f k up stage step side down = newest {p = suc k} (omega arith) (newest_back f k stage step) (side down)
newest_ahead_lem f k down stage step side up = newest {p = suc k} (omega arith) (newest_back f k stage step) (side up)
newest_ahead_lem f k down stage step side down = newest_onward f k stage step (side down)

-- ---- along accepted triples
-- beside the first label there is no run
first_alone : (f : ℕ → ℕ) {z : Runs} → Stage f 0 z → (way : Way) → NewestSide way f 1 (z.edge way) (z.stack way) []
first_alone f {z} stage way = go (stage.faithful.sides way)
  where
    go : {rs : List Run} → Side (Seen f 1) way (z.edge way) rs → NewestSide way f 1 (z.edge way) rs []
    go (last h) = no_newest
    go (more {r = r} n a s) = absurd (only (near_seen n))
      where
        only : Seen f 1 r.near → ⊥
        only (i, c, d, e) = let h : i ≡ 1 = omega arith in stage.inside way (subst (Past way (z.edge way)) (sym e ∙ ap f h) n.past)

module _ (t : ℕ → Triple) (m : ℕ) (accepted : Accepted t (suc m)) where
  abbrev f : ℕ → ℕ
  f = label_at (decode t (suc m))

  abbrev NewestAt : (k : ℕ) → Type 0
  NewestAt k = (way : Way) → NewestSide way f (suc k) ((runs_at t m accepted k).edge way) ((runs_at t m accepted k).stack way) (newest_after t k way)

  met_sides : (k : ℕ) → suc k ≤ m → NewestAt k → (way : Way) → let u = t (suc (suc k)) in NewestSide way f (suc k) (f (suc (suc k))) (ahead (turn_of u) (runs_at t m accepted k) way) (newest_ahead u k (newest_after t k) way)
  met_sides k h side way = newest_ahead_lem f k (turn_of (t (suc (suc k)))) (stage_at t m accepted k (omega arith)) (step_at t m accepted k h) side way

  newest_sides : (k : ℕ) → k ≤ m → NewestAt k
  unfolding newest_after
  newest_sides zero h way = first_alone f (stage_at t m accepted 0 h) way
  newest_sides (suc k) h way = joined_newest f (suc k) (front_at t m accepted k h way) ((step_at t m accepted k h).joins way) (met_sides k h (newest_sides k (omega arith)) way)

  -- what the walk holds is the last earlier position whose label lies that way
  pub met_newest : (k : ℕ) → k ≤ m → (way : Way) → Newest way f k (f (suc k)) (newest_met t (suc k) way)
  unfolding newest_met
  met_newest zero h way = record { within = omega arith; past = λ o. absurd (omega arith); later = λ q a b p. omega arith }
  met_newest (suc k) h way = first_newest f (suc k) (λ q a b. (q, a, omega arith, refl)) (front_at t m accepted k h way) (met_sides k h (newest_sides k (omega arith)) way)
