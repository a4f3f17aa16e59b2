-- The walk in one direction: after k turns the lines of all runs are known, and a turn tells where the next room may start, and its line.
use Rattle.std.specs.Prelude.{Bool, true, false, List, ◌≡◌, refl, ℕ, zero, suc, ◌+◌, ◌-◌, ◌*◌, ◌≤◌, ◌<◌, max, get_or, set}
use Rattle.std.proofs.Common.{inl, inr, sym, subst, ◌∙◌, arith, add-one}
use Rattle.std.proofs.Math.Path.{ap}
use Rattle.finite.specs.Decide.{Tells}
use Rattle.bits.specs.Bit.{bit}
use Rattle.record.specs.Labels.{label_at, EachOnce}
use Rattle.record.specs.Barred.{Barred}
use Rattle.record.specs.Triple.{Triple}
use Rattle.record.specs.Walk.{Counts, missing, counts, step, and_then, walk, Accepted}
use Rattle.record.specs.Way.{Way, up, down, other, both}
use Rattle.record.specs.Decode.{bits_of, decode}
use Rattle.record.specs.Positions.{newest_met}
use Rattle.record.proofs.Forward.{triple_bits}
use Rattle.record.proofs.Demand2.{OnlyList, demand2_one_list}
use Rattle.steps.specs.Turn.{rises_by, falls_by, meets_by}
use Rattle.steps.specs.Table.{Meets, step_meets, missing_on}
use Rattle.drawing.specs.Walked.{newest_nearest}
use Rattle.sizes.specs.Direction.{Direction}
use Rattle.sizes.specs.Lowest.{furthest_before}
use Rattle.sizes.specs.Behind.{Joined, LastBefore, LastAfter, EndsWith}
use Rattle.sizes.proofs.Lines.{way_of, LineAt, line_of_outline, furthest_at_line, line_next}
use Rattle.sizes.specs.Stacked.{Stacked, top_is, chosen_top, stacked_next}

-- ---- what the triples of a plan say of its rooms; f is the label at a position
pub record Walks (t : ℕ → Triple) (n : ℕ) (f : ℕ → ℕ) : Type 0 where
  pub once : EachOnce f n
  pub not_barred : ¬ Barred f n
  pub before : (way : Way) (j : ℕ) → 1 ≤ j → j ≤ n → LastBefore f n way j (newest_met t j (other way))
  pub after : (way : Way) (j : ℕ) → 1 ≤ j → j ≤ n → LastAfter f n way j (newest_met t j way)
  pub joined : (way : Way) (k : ℕ) → suc k < n → Tells (bits_of (t (suc (suc k))) way) (Joined f way (suc (suc k)))

pub accepted_walks : (t : ℕ → Triple) (n : ℕ) → 1 ≤ n → Accepted t n → Walks t n (label_at (decode t n))
accepted_walks t zero some accepted = absurd (omega arith)
accepted_walks t (suc m) some accepted = record {
  once = once;
  not_barred = subst (λ (n : ℕ). ¬ Barred f n) one.size one.baxter.not_barred;
  before = λ way j a b. before way j a b;
  after = newest_nearest t m accepted;
  joined = λ way k h. subst (λ (u : Triple). Tells (bits_of u way) (Joined f way (suc (suc k)))) (one.has (suc (suc k)) (omega arith) (omega (arith, one.size)))
      (triple_bits f (suc k) (once.range (suc (suc k)) (omega arith) h).0 way);
}
  where
    f : ℕ → ℕ
    f = label_at (decode t (suc m))

    one : OnlyList t (suc m) (decode t (suc m))
    one = demand2_one_list t (suc m) some accepted

    once : EachOnce f (suc m)
    once = subst (EachOnce f) one.size one.baxter.each_once

    before : (way : Way) (j : ℕ) → 1 ≤ j → j ≤ suc m → LastBefore f (suc m) way j (newest_met t j (other way))
    before up j a b = newest_nearest t m accepted down j a b
    before down j a b = newest_nearest t m accepted up j a b

-- ---- the counts of runs
abbrev IsCounts : Counts → Type 0
IsCounts missing = ⊥
IsCounts (counts p q) = Unit

module _ (t : ℕ → Triple) (n k p q : ℕ) (accepted : Accepted t n) (more : suc k < n) (walked : walk t k ≡ counts p q) where
  abbrev u : Triple
  u = t (suc (suc k))

  walk_next : walk t (suc k) ≡ step u p q
  unfolding walk
  walk_next = ap (λ (c : Counts). and_then c (step u)) walked

  -- no run is missing, since none is at the end
  goes : IsCounts (step u p q)
  goes = go (step u p q) walk_next
    where
      go : (c : Counts) → walk t (suc k) ≡ c → IsCounts c
      go (counts a b) e = tt
      go missing e =
          let rest : suc k + (n - 1 - suc k) ≡ n - 1 = omega arith in
          subst IsCounts (sym accepted ∙ ap (walk t) (sym rest) ∙ missing_on t (suc k) (n - 1 - suc k) e) tt

  met : Meets u p q (step u p q)
  met = step_meets u p q

  pub enough : (bit (bits_of u down) ≤ p + rises_by u) × (bit (bits_of u up) ≤ q + falls_by u)
  enough = go (step u p q) goes met
    where
      go : (c : Counts) → IsCounts c → Meets u p q c → (bit (bits_of u down) ≤ p + rises_by u) × (bit (bits_of u up) ≤ q + falls_by u)
      go missing h m = absurd h
      go (counts a b) h m = omega arith

  pub counts_next : (p-next q-next : ℕ) → p-next + bit (bits_of u down) ≡ p + rises_by u → q-next + bit (bits_of u up) ≡ q + falls_by u
      → walk t (k + 1) ≡ counts p-next q-next
  counts_next p-next q-next e f = ap (walk t) (add-one k) ∙ walk_next ∙ go (step u p q) goes met
    where
      go : (c : Counts) → IsCounts c → Meets u p q c → c ≡ counts p-next q-next
      go missing h m = absurd h
      go (counts a b) h m = let x : a ≡ p-next = omega arith in let y : b ≡ q-next = omega arith in (λ i. counts (x i) (y i))

-- ---- one direction
-- below or above the current run
abbrev pub sides : {A : Type 0} → A → A → Way → A
sides below above down = below
sides below above up = above

pub record OneWay (t : ℕ → Triple) (f : ℕ → ℕ) (way : Direction) (end : ℕ → ℕ) (k : ℕ) (below above : List ℕ) (p q line : ℕ) : Type 0 where
  pub stacked : (side : Way) → Stacked t k side (LineAt f way end) (sides below above side) (sides p q side)
  pub line_is : LineAt f way end (suc k) line

module _ {t : ℕ → Triple} {n : ℕ} {f : ℕ → ℕ} (w : Walks t n f) (way : Direction) (size x : ℕ → ℕ) {k : ℕ} (more : suc k < n) {below above : List ℕ} {p q line : ℕ}
    (o : OneWay t f way (λ i. x i + size i) k below above p q line) (low : p + q < 255) where
  abbrev end : ℕ → ℕ
  end i = x i + size i

  abbrev new : Triple
  new = t (suc (suc k))

  abbrev stack : Way → List ℕ
  stack side = set (sides below above side) (sides p q side + 1) line

  abbrev height : Way → ℕ
  height side = sides p q side + meets_by new side

  room : (side : Way) → sides p q side + 1 < 256
  room down = omega arith
  room up = omega arith

  top : (side : Way) → LineAt f way end (newest_met t (suc (suc k)) side) (get_or (stack side) (height side) 0)
  top side = top_is (o.stacked side) (room side) o.line_is (line_of_outline f way end)

  -- where the furthest room before the new one ends
  pub start_is : furthest_before f way size n x (suc (suc k)) ≡ get_or (stack (other (way_of way))) (height (other (way_of way))) 0
  start_is = furthest_at_line f n w.once w.not_barred way size x (suc (suc k)) (omega arith) more (w.before (way_of way) (suc (suc k)) (omega arith) more) (top (other (way_of way)))

  ends_with : (b : Bool) → Tells b (Joined f (way_of way) (suc (suc k))) → {v : ℕ} → v ≡ bit b * get_or (stack (way_of way)) (height (way_of way)) 0
      → (e : ℕ) × EndsWith f n (way_of way) (suc (suc k)) e × LineAt f way end e v
  ends_with true joined {v} is = (
    newest_met t (suc (suc k)) (way_of way),
    inl (joined, w.after (way_of way) (suc (suc k)) (omega arith) more),
    subst (LineAt f way end (newest_met t (suc (suc k)) (way_of way))) (omega arith) (top (way_of way)),
  )
  ends_with false apart {v} is = (0, inr (apart, refl), subst (LineAt f way end 0) (omega arith) (line_of_outline f way end))

  -- one room more, which starts no earlier
  pub one_way_next : (p-next q-next : ℕ) → p-next + bit (bits_of new down) ≡ p + rises_by new → q-next + bit (bits_of new up) ≡ q + falls_by new
      → get_or (stack (other (way_of way))) (height (other (way_of way))) 0 ≤ x (suc (suc k))
      → (at v : ℕ) → at ≡ bit (bits_of new (way_of way)) * height (way_of way) → v ≡ max (x (suc (suc k)) + size (suc (suc k))) (get_or (stack (way_of way)) at 0)
      → OneWay t f way (λ i. x i + size i) (k + 1) (set below (p + 1) line) (set above (q + 1) line) p-next q-next v
  one_way_next p-next q-next ep eq late at v at-is v-is = record {
    stacked = both _ (stacked_next (o.stacked up) (room up) o.line_is q-next eq) (stacked_next (o.stacked down) (room down) o.line_is p-next ep);
    line_is = subst (λ (j : ℕ). LineAt f way end (suc j) v) (sym (add-one k)) next_line;
  }
    where
      chosen : get_or (stack (way_of way)) at 0 ≡ bit (bits_of new (way_of way)) * get_or (stack (way_of way)) (height (way_of way)) 0
      chosen = chosen_top (o.stacked (way_of way)) (room (way_of way)) o.line_is (bits_of new (way_of way)) at-is

      next_line : LineAt f way end (suc (suc k)) v
      next_line =
          let (e, ends, line-e) = ends_with (bits_of new (way_of way)) (w.joined (way_of way) k more) chosen in
          subst (LineAt f way end (suc (suc k))) (sym v-is)
          (line_next f n w.once w.not_barred way size x (suc (suc k)) (omega arith) more (w.before (way_of way) (suc (suc k)) (omega arith) more)
          (top (other (way_of way))) late ends line-e)
