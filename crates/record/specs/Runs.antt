-- The runs of the labels seen so far: the current run, which holds the newest label, and the runs on both sides of it.
-- One step adds a label, v, on one side of the current run.
use Rattle.std.specs.Prelude.{◌≡◌, ◌⊎◌, Bool, List, [], ◌∷◌, ℕ}
use Rattle.std.proofs.Common.{sym, subst, inl, inr}
use Rattle.finite.specs.Decide.{Tells}
use Rattle.record.specs.Way.{Way, up, down, other, Past, Beside, past_trans, past_not_self, past_not_back, past_turn, past_turn_back, beside_past, beside_turn_back, beside_tight, next_toward, Order, before, same, after, order}
use Rattle.record.specs.Sides.{Run, Full, Side, last, more, Front, open_front, run_front, Joined, end_of, rest_of, BesideSeen, Grown, near_seen, joined_tells, Grew, joined_grew}

-- the current run's last label on each side, and the runs after it, nearest first
pub record Runs : Type 0 where
  pub edge : Way → ℕ
  pub stack : Way → List Run

pub runs_same : {z y : Runs} → ((way : Way) → z.edge way ≡ y.edge way) → ((way : Way) → z.stack way ≡ y.stack way) → z ≡ y
runs_same e s = λ i. record { edge = λ way. e way i; stack = λ way. s way i }

-- these are the runs of the labels seen
pub record Faithful (S : ℕ → Type 0) (z : Runs) : Type 0 where
  pub sides : (way : Way) → Side S way (z.edge way) (z.stack way)
  pub ordered : (way : Way) → ¬ Past way (z.edge way) (z.edge (other way))
  pub current : (way : Way) → Full S (other way) (z.edge way) (z.edge (other way))

-- c is in the current run
abbrev pub Inside : Runs → ℕ → Type 0
Inside z c = (way : Way) → ¬ Past way (z.edge way) c

-- what is past the current run is past each label in it
pub inside_past : (z : Runs) (way : Way) {c x : ℕ} → Inside z c → Past way (z.edge way) x → Past way c x
inside_past z way {c} {x} inside p = go (order way c (z.edge way))
  where
    go : Order way c (z.edge way) → Past way c x
    go (before l) = past_trans l p
    go (same e) = subst (λ (y : ℕ). Past way y x) (sym e) p
    go (after l) = absurd (inside way l)

-- what a label meets, looking either way, where it lies on the side `turn` of the current run: the runs on that side, and the other
-- way the current run first
abbrev pub facing : {A : Type 0} (turn : Way) (current : Way → A) (stack : Way → List A) → Way → List A
facing up current stack up = stack up
facing up current stack down = current down ∷ stack down
facing down current stack up = current up ∷ stack up
facing down current stack down = stack down

-- the current run, looking either way
abbrev pub current_run : Runs → Way → Run
current_run z way = record { near = z.edge (other way); far = z.edge way }

abbrev pub ahead : (turn : Way) → Runs → Way → List Run
ahead turn z = facing turn (current_run z) z.stack

-- v is before the first of the runs
pub data Before (way : Way) (v : ℕ) : List Run → Type 0 where
  no_run : Before way v []
  first_run_lem : {r : Run} {rs : List Run} → Past way v r.near → Before way v (r ∷ rs)

-- v lies next to the current run, on the side `turn`; it is joined to what is beside it as the bits say; y are the runs then
pub record Step (turn : Way) (bits : Way → Bool) (v : ℕ) (z y : Runs) : Type 0 where
  pub past : Past turn (z.edge turn) v
  pub free : Before turn v (z.stack turn)
  pub joins : (way : Way) → Joined way v (bits way) (ahead turn z way) (y.edge way) (y.stack way)

-- the runs after a step
unfoldable pub grow : (turn : Way) → (bits : Way → Bool) → ℕ → Runs → Runs
grow turn bits v z = record { edge = λ way. end_of (bits way) v (ahead turn z way); stack = λ way. rest_of (bits way) (ahead turn z way) }

module _ {S : ℕ → Type 0} {z : Runs} (k : Faithful S z) where
  pub edge_seen : (way : Way) → S (z.edge way)
  edge_seen way = k.current way (z.edge way) past_not_self (λ p. k.ordered way (past_turn_back way p))

  -- with no run left on a side, nothing is seen past the current run there
  pub nothing_past : {way : Way} {x : ℕ} → z.stack way ≡ [] → S x → ¬ Past way (z.edge way) x
  nothing_past {way} {x} e s p = go (subst (Side S way (z.edge way)) e (k.sides way))
    where
      go : Side S way (z.edge way) [] → ⊥
      go (last f) = f x p s

  module _ {turn : Way} {v : ℕ} (past : Past turn (z.edge turn) v) (free : Before turn v (z.stack turn)) where
    -- nothing is seen between the current run and v
    pub gap : (x : ℕ) → Past turn (z.edge turn) x → Past turn x v → ¬ S x
    gap x p q = go (k.sides turn) free
      where
        go : {rs : List Run} → Side S turn (z.edge turn) rs → Before turn v rs → ¬ S x
        go (last f) b = f x p
        go (more n a s) (first_run_lem b) = n.clear x p (past_trans q b)

    onward : Front S turn v (z.stack turn)
    onward = go (k.sides turn) free
      where
        go : {rs : List Run} → Side S turn (z.edge turn) rs → Before turn v rs → Front S turn v rs
        go (last f) b = open_front (λ x p. f x (past_trans past p))
        go (more n a s) (first_run_lem b) = run_front (record { past = b; clear = λ x p q. n.clear x (past_trans past p) q; ordered = n.ordered; full = n.full }) s

    back : Front S (other turn) v (record { near = z.edge turn; far = z.edge (other turn) } ∷ z.stack (other turn))
    back = run_front (record {
      past = past_turn past;
      clear = λ x p q. gap x (past_turn_back turn q) (past_turn_back turn p);
      ordered = λ p. k.ordered turn (past_turn_back turn p);
      full = k.current turn;
    }) (k.sides (other turn))

  pub fronts : (turn : Way) (v : ℕ) → Past turn (z.edge turn) v → Before turn v (z.stack turn) → (way : Way)
      → Front S way v (ahead turn z way)
  fronts up v p b up = onward p b
  fronts up v p b down = back p b
  fronts down v p b up = back p b
  fronts down v p b down = onward p b

-- the new label is not yet seen
pub step_fresh : {S : ℕ → Type 0} {turn : Way} {bits : Way → Bool} {v : ℕ} {z y : Runs} → Faithful S z → Step turn bits v z y → ¬ S v
step_fresh {S} {turn} {v = v} {z} k step = go (k.sides turn) step.free
  where
    go : {rs : List Run} → Side S turn (z.edge turn) rs → Before turn v rs → ¬ S v
    go (last f) b = f v step.past
    go (more n a s) (first_run_lem b) = n.clear v step.past b

-- ---- a step keeps the runs faithful
module _ {S T : ℕ → Type 0} {turn : Way} {bits : Way → Bool} {v : ℕ} {z y : Runs} (g : Grown S T v) (k : Faithful S z) (step : Step turn bits v z y) where
  grew : (way : Way) → Grew T way v (y.edge way) (y.stack way)
  grew way = joined_grew g (fronts k turn v step.past step.free way) (step.joins way)

  pub step_faithful : Faithful T y
  step_faithful = record { sides = λ way. (grew way).side; ordered = ordered; current = current }
    where
      ordered : (way : Way) → ¬ Past way (y.edge way) (y.edge (other way))
      ordered way p = go (order way (y.edge way) v)
        where
          go : Order way (y.edge way) v → ⊥
          go (before q) = (grew way).ordered q
          go (same e) = (grew (other way)).ordered (past_turn (subst (λ (x : ℕ). Past way x (y.edge (other way))) e p))
          go (after q) = (grew (other way)).ordered (past_turn (past_trans q p))

      current : (way : Way) → Full T (other way) (y.edge way) (y.edge (other way))
      current way x a b = go (order way x v)
        where
          up_to : ¬ Past way x v → T x
          up_to n = (grew way).full x n (λ p. a (past_turn p))

          go : Order way x v → T x
          go (before p) = (grew (other way)).full x (λ q. past_not_back p (past_turn_back way q)) b
          go (same e) = up_to (λ p. past_not_self (subst (Past way x) (sym e) p))
          go (after p) = up_to (past_not_back p)

  pub step_inside : Inside y v
  step_inside way = (grew way).ordered

  -- the bits are those of the label
  pub step_tells : (way : Way) → Tells (bits way) (BesideSeen S way v)
  step_tells way = joined_tells (fronts k turn v step.past step.free way) (step.joins way)

-- each seen label between c and v has the label before it seen: so no run begins between them
abbrev pub Chained : (ℕ → Type 0) → Way → ℕ → ℕ → Type 0
Chained S turn c v = (x : ℕ) → S x → Past turn c x → Past turn x v → BesideSeen S (other turn) x

-- going the other way there is nothing between c and v
pub one_way : {S : ℕ → Type 0} {c v : ℕ} (turn way : Way) → Past turn c v → Chained S turn c v → Chained S way c v
one_way up up p h = h
one_way up down p h = λ x s q r. absurd (past_not_back (past_turn p) (past_trans q r))
one_way down up p h = λ x s q r. absurd (past_not_back (past_turn p) (past_trans q r))
one_way down down p h = h

module _ {S : ℕ → Type 0} {z : Runs} (k : Faithful S z) {turn : Way} {c v : ℕ} (inside : Inside z c) where
  -- a label next to the current run is chained to c
  pub reach_chained : Past turn (z.edge turn) v → Before turn v (z.stack turn) → Chained S turn c v
  reach_chained p b x s q r = go (order turn (z.edge turn) x)
    where
      in_run : ¬ Past turn (z.edge turn) x → BesideSeen S (other turn) x
      in_run n =
          let (w, e) = next_toward (past_turn q) in
          (w, e, k.current turn w (λ l. n (past_trans (past_turn_back turn l) (past_turn_back turn (beside_past e)))) (λ l. within w l (beside_tight e (past_turn q))))
        where
          within : (w : ℕ) → Past (other turn) (z.edge (other turn)) w → (w ≡ c) ⊎ Past (other turn) w c → ⊥
          within w l (inl e) = inside (other turn) (subst (Past (other turn) (z.edge (other turn))) e l)
          within w l (inr m) = inside (other turn) (past_trans l m)

      go : Order turn (z.edge turn) x → BesideSeen S (other turn) x
      go (before l) = absurd (gap k p b x l r s)
      go (same e) = in_run (λ l. past_not_self (subst (Past turn (z.edge turn)) (sym e) l))
      go (after l) = in_run (past_not_back l)

  -- a fresh label on one side of c lies past the current run
  pub fresh_past : ¬ S v → Past turn c v → Past turn (z.edge turn) v
  fresh_past fresh p = go (order turn (z.edge turn) v)
    where
      go : Order turn (z.edge turn) v → Past turn (z.edge turn) v
      go (before l) = l
      go (same e) = absurd (fresh (subst S e (edge_seen k turn)))
      go (after l) = absurd (fresh (k.current turn v (λ m. past_not_back l (past_turn_back turn m)) (λ m. inside (other turn) (past_trans m (past_turn p)))))

  -- and if it is chained to c, it lies before the next run
  pub chained_free : ¬ S v → Chained S turn c v → Before turn v (z.stack turn)
  chained_free fresh ch = free (k.sides turn)
    where
      free : {rs : List Run} → Side S turn (z.edge turn) rs → Before turn v rs
      free (last f) = no_run
      free (more {r = r} {rs} n apart s) = go (order turn v r.near)
        where
          c_before : Past turn c r.near
          c_before = go (order turn c (z.edge turn))
            where
              go : Order turn c (z.edge turn) → Past turn c r.near
              go (before l) = past_trans l n.past
              go (same e) = subst (λ (x : ℕ). Past turn x r.near) (sym e) n.past
              go (after l) = absurd (inside turn l)

          -- the label before the run r is not seen
          blocked : BesideSeen S (other turn) r.near → ⊥
          blocked (w, e, s) = go (beside_tight e (past_turn n.past))
            where
              go : (w ≡ z.edge turn) ⊎ Past (other turn) w (z.edge turn) → ⊥
              go (inl q) = apart (subst (λ (x : ℕ). Beside turn x r.near) q (beside_turn_back turn e))
              go (inr q) = n.clear w (past_turn_back turn q) (past_turn_back turn (beside_past e)) s

          go : Order turn v r.near → Before turn v (r ∷ rs)
          go (before l) = first_run_lem l
          go (same e) = absurd (fresh (subst S (sym e) (near_seen n)))
          go (after l) = absurd (blocked (ch r.near (near_seen n) c_before l))
