-- The lines along which rooms end, as the walk along the positions keeps them: the line of room k lies at the furthest end of the rooms
-- behind it. A room starts no earlier than the line of the last room before it, and the line of the last room of all is the needed length.
use Rattle.std.specs.Prelude.{◌≡◌, ◌⊎◌, ℕ, zero, suc, ◌+◌, ◌≤◌, ◌<◌, max}
use Rattle.std.proofs.Common.{ap, inl, inr, arith}
use Rattle.finite.specs.Extremes.{greatest, greatest_ge, greatest_smallest}
use Rattle.record.specs.Labels.{EachOnce}
use Rattle.record.specs.Barred.{Barred}
use Rattle.record.specs.Way.{Way, up, down, Past, Order, before, same, after, order}
use Rattle.record.proofs.NextTo.{every}
use Rattle.sizes.specs.Direction.{Direction, across, upward, Before}
use Rattle.sizes.specs.Lowest.{furthest_before}
use Rattle.sizes.proofs.LowestLaws.{furthest_ge, furthest_smallest}
use Rattle.sizes.specs.Behind.{Behind, LastBefore, EndsWith, before→behind, behind→before, behind→cases, behind_itself, behind_end}

-- v is the furthest end of some rooms, 0 where there are none: each ends there or earlier, and no number below v bounds all ends
pub record Furthest (Has : ℕ → Type 0) (end : ℕ → ℕ) (v : ℕ) : Type 0 where
  pub reached : (i : ℕ) → Has i → end i ≤ v
  pub no_further : (bound : ℕ) → ((i : ℕ) → Has i → end i ≤ bound) → v ≤ bound

-- across, the labels of rooms go up; upward they go down
abbrev pub way_of : Direction → Way
way_of across = up
way_of upward = down

before→past : (f : ℕ → ℕ) (way : Direction) {i j : ℕ} → Before f way i j → (i < j) × Past (way_of way) (f i) (f j)
before→past f across (l, p) = (l, record { less = p })
before→past f upward (l, p) = (l, record { less = p })

past→before : (f : ℕ → ℕ) (way : Direction) {i j : ℕ} → i < j → Past (way_of way) (f i) (f j) → Before f way i j
past→before f across l p = (l, p.less)
past→before f upward l p = (l, p.less)

-- the line of room k lies at v
abbrev pub LineAt : (f : ℕ → ℕ) → Direction → (end : ℕ → ℕ) → (k v : ℕ) → Type 0
LineAt f way end k v = Furthest (Behind f (way_of way) k) end v

-- the outline's line, at which rooms start that have none before them
pub line_of_outline : (f : ℕ → ℕ) (way : Direction) (end : ℕ → ℕ) → LineAt f way end 0 0
line_of_outline f way end = record { reached = λ i b. absurd (omega (arith, b.from, b.to)); no_further = λ bound h. omega arith }

-- the line of the first room: only that is behind it
pub line_of_first : (f : ℕ → ℕ) (way : Direction) (end : ℕ → ℕ) → LineAt f way end 1 (end 1)
line_of_first f way end = record {
  reached = λ i b. let first : i ≡ 1 = omega (arith, b.from, b.to) in omega (arith, ap end first);
  no_further = λ bound h. h 1 record { from = omega arith; to = omega arith; seen = λ v p q. absurd (q p) };
}

module _ (f : ℕ → ℕ) (n : ℕ) (once : EachOnce f n) (not_barred : ¬ Barred f n) (way : Direction) (size x : ℕ → ℕ) where
  abbrev end : ℕ → ℕ
  end i = x i + size i

  module _ (j : ℕ) (from : 1 ≤ j) (to : j ≤ n) {k v : ℕ} (last : LastBefore f n (way_of way) j k) (line : LineAt f way end k v) where
    -- where the furthest room before room j ends
    pub furthest_at_line : furthest_before f way size n x j ≡ v
    furthest_at_line = omega (
      arith,
      furthest_smallest f way size n x j v (λ i a b p. let (l, q) = before→past f way p in
          line.reached i (before→behind f n once not_barred (way_of way) j from to last i a l q)),
      line.no_further (furthest_before f way size n x j) (λ i b. let (l, q) = behind→before f n once not_barred (way_of way) j from to last i b in
          furthest_ge f way size n x j i b.from (omega (arith, b.to, last.past)) (past→before f way l q)),
    )

    -- the line of room j, where it starts no earlier
    pub line_next : {e u : ℕ} → v ≤ x j → EndsWith f n (way_of way) j e → LineAt f way end e u → LineAt f way end j (max (x j + size j) u)
    line_next {e} {u} late ends other = record {
      reached = λ i b. go i b (behind→cases f n once not_barred (way_of way) j from to ends i b);
      no_further = λ bound h. omega (
        arith,
        h j (behind_itself f n once not_barred (way_of way) j from to ends),
        other.no_further bound (λ i b. h i (behind_end f n once not_barred (way_of way) j from to ends i b)),
      );
    }
      where
        go : (i : ℕ) → Behind f (way_of way) j i → (i ≡ j) ⊎ (((i < j) × Past (way_of way) (f i) (f j)) ⊎ Behind f (way_of way) e i)
            → x i + size i ≤ max (x j + size j) u
        go i b (inl q) = rw q (omega arith)
        go i b (inr (inl (l, p))) = omega (arith, line.reached i (before→behind f n once not_barred (way_of way) j from to last i b.from l p))
        go i b (inr (inr c)) = omega (arith, other.reached i c)

  -- behind the last room are all
  pub line_of_all : {v : ℕ} → 1 ≤ n → LineAt f way end n v → v ≡ greatest (λ i. x (suc i) + size (suc i)) n
  line_of_all {v} some line = omega (
    arith,
    line.no_further (greatest (λ i. end (suc i)) n) (λ i b. ends i b.from b.to),
    greatest_smallest (λ i. end (suc i)) n v (λ i h. line.reached (suc i) (all (suc i) (omega arith) h)),
  )
    where
      ends : (i : ℕ) → 1 ≤ i → i ≤ n → x i + size i ≤ greatest (λ i. end (suc i)) n
      ends zero a b = absurd (omega arith)
      ends (suc i) a b = greatest_ge (λ i. end (suc i)) n i b

      -- each label between two of them is one of 1 to n
      label : (w : Way) {i v : ℕ} → 1 ≤ i → i ≤ n → Past w (f n) v → Order w (f i) v → ¬ Past w (f i) v → (1 ≤ v) × (v ≤ n)
      label w a b p (before q) h = absurd (h q)
      label up a b p (same q) h = omega (arith, once.range _ a b, once.range n some (omega arith))
      label down a b p (same q) h = omega (arith, once.range _ a b, once.range n some (omega arith))
      label up a b p (after q) h = omega (arith, once.range _ a b, once.range n some (omega arith))
      label down a b p (after q) h = omega (arith, once.range _ a b, once.range n some (omega arith))

      all : (i : ℕ) → 1 ≤ i → i ≤ n → Behind f (way_of way) n i
      all i a b = record { from = a; to = b; seen = λ v p q. let (l, h) = label (way_of way) a b p (order (way_of way) (f i) v) q in every f n once v l h }
