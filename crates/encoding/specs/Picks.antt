-- One label of each run on one side is kept: enough to tell whether a new label lies past the nearest run.
use Rattle.std.specs.Prelude.{List, [], ◌∷◌, ℕ}
use Rattle.std.proofs.Common.{sym, subst}
use Rattle.record.specs.Way.{Way, other, Past, past_trans, past_not_self, past_turn, Order, before, same, after, order}
use Rattle.record.specs.Sides.{Run, Side, last, more}
use Rattle.record.specs.Runs.{Runs, Faithful, Inside, inside_past, current_run, Before, no_run, first_run_lem}

-- y is one of the labels of the run r
pub record Within (way : Way) (y : ℕ) (r : Run) : Type 0 where
  pub not_before : ¬ Past way y r.near
  pub not_after : ¬ Past way r.far y

-- one label of each run, the nearest first
pub data Picks (way : Way) : List ℕ → List Run → Type 0 where
  none : Picks way [] []
  one : {y : ℕ} {ys : List ℕ} {r : Run} {rs : List Run} → Within way y r → Picks way ys rs → Picks way (y ∷ ys) (r ∷ rs)

-- y is a label of the nearest run, or there is none and v does not lie past y
pub data Nearest (way : Way) (y v : ℕ) : List Run → Type 0 where
  beyond : ¬ Past way y v → Nearest way y v []
  picked : {r : Run} {rs : List Run} → Within way y r → Nearest way y v (r ∷ rs)

-- the newest label is one of the current run's
pub inside_within : (z : Runs) (c : ℕ) → Inside z c → (way : Way) → Within way c (current_run z way)
inside_within z c inside way = record { not_before = λ p. inside (other way) (past_turn p); not_after = inside way }

-- a label that is not past a label of the current run lies before the nearest run on that side
pub not_past_current_before : {S : ℕ → Type 0} {z : Runs} {way : Way} {c v : ℕ} → Faithful S z → Inside z c → ¬ Past way c v
    → Before way v (z.stack way)
not_past_current_before {S} {z} {way} {c} {v} k inside not_past = go (k.sides way)
  where
    past : (near : ℕ) → Past way c near → Order way c v → Past way v near
    past near p (before q) = absurd (not_past q)
    past near p (same e) = subst (λ (x : ℕ). Past way x near) e p
    past near p (after q) = past_trans q p

    go : {rs : List Run} → Side S way (z.edge way) rs → Before way v rs
    go (last f) = no_run
    go (more {r = r} n a s) = first_run_lem (past r.near (inside_past z way inside n.past) (order way c v))

module _ {S : ℕ → Type 0} {z : Runs} (k : Faithful S z) {turn : Way} {v y : ℕ} where
  -- a fresh label that is not past y lies before the nearest run
  pub not_past_before : ¬ S v → Nearest turn y v (z.stack turn) → ¬ Past turn y v → Before turn v (z.stack turn)
  not_past_before fresh near not_past = go (k.sides turn) near
    where
      go : {rs : List Run} → Side S turn (z.edge turn) rs → Nearest turn y v rs → Before turn v rs
      go (last f) n = no_run
      go (more {r = r} {rs} n a s) (picked w) = place (order turn v r.near)
        where
          in_run : ¬ Past turn v r.near → Before turn v (r ∷ rs)
          in_run from = absurd (fresh (n.full v from (λ p. reach (order turn y v) p)))
            where
              reach : Order turn y v → Past turn r.far v → ⊥
              reach (before q) p = not_past q
              reach (same e) p = w.not_after (subst (Past turn r.far) (sym e) p)
              reach (after q) p = w.not_after (past_trans p q)

          place : Order turn v r.near → Before turn v (r ∷ rs)
          place (before p) = first_run_lem p
          place (same e) = in_run (λ p. past_not_self (subst (Past turn v) (sym e) p))
          place (after p) = in_run (λ q. past_not_self (past_trans p q))

-- and one that is past y does not
pub past_not_before : {turn : Way} {v y : ℕ} {rs : List Run} → Nearest turn y v rs → Past turn y v → ¬ Before turn v rs
past_not_before (beyond n) p b = n p
past_not_before (picked w) p (first_run_lem b) = w.not_before (past_trans p b)
