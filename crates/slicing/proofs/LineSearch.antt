-- Looking for a line from both ends of a block at once. From the left, `end` is past the place of each room that was looked at; from
-- the right, `start` is at or before it; and a line can stand from `end` to `start` only.
use Rattle.std.proofs.Common.{inl, inr, subst, arith}
use Rattle.std.specs.Prelude.{◌≡◌, ℕ, suc, ◌+◌, ◌-◌, ◌≤◌, ◌<◌, min, max}
use Rattle.finite.specs.Decide.{eq_or_ne}
use Rattle.finite.specs.Search.{Each}
use Rattle.slicing.specs.Cuts.{Parts}
use Rattle.slicing.specs.Blocks.{Whole}
use Rattle.slicing.specs.Interval.{Interval, place_of}
use Rattle.slicing.proofs.Interval.{parts→first_places, first_places→parts, parts→last_places, last_places→parts}
use Rattle.slicing.specs.declared.Cut.{Cut}

-- the rooms from s to i - 1 and those from j to e - 1 were looked at
pub record Searching (f : ℕ → ℕ) (cut : Cut) (s e lowest i end j start : ℕ) : Type 0 where
  pub from : s ≤ i
  pub some : s < end
  pub upto : i ≤ end
  pub downto : start ≤ j
  pub more : start < e
  pub until : j ≤ e
  pub first : Each (λ k. place_of cut s e lowest (f k) < end) s i
  pub last : Each (λ k. start ≤ place_of cut s e lowest (f k)) j e
  pub lines : (m : ℕ) → s < m → m < e → Parts f cut s m e → (end ≤ m) × (m ≤ start)

module _ {f : ℕ → ℕ} {cut : Cut} {s e lowest : ℕ} where
  pub search_begins : suc s < e → Searching f cut s e lowest s (s + 1) e (e - 1)
  search_begins several = record {
    from = omega arith;
    some = omega arith;
    upto = omega arith;
    downto = omega arith;
    more = omega arith;
    until = omega arith;
    first = λ k a b. absurd (omega arith);
    last = λ k a b. absurd (omega arith);
    lines = λ m a b line. (omega arith, omega arith);
  }

  module _ (interval : Interval f s e lowest) {i end j start : ℕ} (c : Searching f cut s e lowest i end j start) where
    -- a room more from the left, and one more from the right
    pub search_goes_on : {next prior : ℕ} → end ≤ start → i < end → start < j → next ≡ max end (place_of cut s e lowest (f i) + 1)
        → prior ≡ min start (place_of cut s e lowest (f (j - 1))) → Searching f cut s e lowest (i + 1) next (j - 1) prior
    search_goes_on {next} {prior} room left right q r = record {
      from = omega (arith, c.from);
      some = omega (arith, c.some);
      upto = omega arith;
      downto = omega arith;
      more = omega (arith, c.more);
      until = omega (arith, c.until);
      first = λ k a b. elim (eq_or_ne i k) [
        | inl same ↦ subst (λ (x : ℕ). place_of cut s e lowest (f x) < next) same (omega arith)
        | inr ne ↦ omega (arith, c.first k a (omega arith))
      ];
      last = λ k a b. elim (eq_or_ne (j - 1) k) [
        | inl same ↦ subst (λ (x : ℕ). prior ≤ place_of cut s e lowest (f x)) same (omega arith)
        | inr ne ↦ omega (arith, c.last k (omega arith) b)
      ];
      lines = λ m a b line.
          let known = c.lines m a b line in
          let lower = parts→first_places interval cut m a (omega arith) line i c.from (omega arith) in
          let higher = parts→last_places interval cut m a (omega arith) line (j - 1) (omega arith) (omega (arith, c.until)) in
          (omega arith, omega arith);
    }

    -- the places of the rooms from the left are filled: a line stands after them
    pub line_from_left : end ≤ start → i ≡ end → Parts f cut s end e
    line_from_left room q =
        first_places→parts interval cut end c.some (omega (arith, c.more)) (λ k a b. c.first k a (omega arith))

    pub line_from_right : end ≤ start → j ≡ start → Parts f cut s start e
    line_from_right room q =
        last_places→parts interval cut start (omega (arith, c.some)) (omega (arith, c.more)) (λ k a b. c.last k (omega arith) b)

    -- no place is left for a line
    pub no_line : start < end → Whole f cut s e
    no_line closed m a b line = omega (arith, c.lines m a b line)
