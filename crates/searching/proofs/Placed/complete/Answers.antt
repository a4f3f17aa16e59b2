-- `searching::Placed::complete` meets its contract: the labels after position i turn to the other side of its label, and come back.
use mathlib.Core.Bool.{Bool, not}
use mathlib.Core.Path.{◌≡◌, sym, ap₂, subst}
use Prim.Native.Nat.{ℕ, ◌+◌, ◌≤◌, max}
use native.Mathlib.Omega.{arith}
use lib.Dec.{ltb}
use lib.ListN.{length}
use Rattle.finite.specs.First.{FirstOrEnd}
use Rattle.finite.specs.Search.{Each}
use Rattle.record.specs.Labels.{label_at}
use Rattle.record.proofs.Demand2.{permutation_once}
use Rattle.patterns.specs.Sides.{NextTo, Beyond}
use Rattle.patterns.specs.Completion.{Place, Started}
use Rattle.patterns.proofs.FromPosition.{first_near, first_far, none_from}
use Rattle.searching.specs.Places.{PlaceNextTo}
use Rattle.searching.proofs.Placed.complete.Goals as goal
use Rattle.searching.proofs.Placed.complete.Goals.{After-max}

abbrev f : After-max → ℕ → ℕ
f c = label_at c.args.self.now.labels.now

abbrev n : After-max → ℕ
n c = length c.args.self.now.labels.now

abbrev above : After-max → Bool
above c = ltb c.label_at-label.result c.label_at.result

own : (c : After-max) → c.label_at-label.result ≡ f c c.args.i
own c = c.label_at-label.ensures.0

next-side : (c : After-max) → Beyond (f c) (above c) (f c c.args.i) (c.args.i + 1)
next-side c = sym (ap₂ ltb (own c) c.label_at.ensures.0)

-- the place of the label next to i's, on one side
started : (c : After-max) (side : Bool) {place : ℕ} → PlaceNextTo c.args.self.now.places.now c.label_at-label.result side place
    → Started (f c) (n c) side c.args.i place
started c side p = record {
  each = (permutation_once c.args.self.now.labels.now c.args.self.now.permutation).0;
  start = c.requires.0;
  last = p.next;
  next = subst (λ (x : ℕ). NextTo side x p.next) (own c) p.next_to;
  place = subst (Place (f c) (n c) p.next) (sym p.listed) (c.args.self.now.placed.each p.next p.small);
}

near : (c : After-max) → Started (f c) (n c) (above c) c.args.i c.place_next_to-near.result
near c = started c (above c) c.place_next_to-near.ensures

far : (c : After-max) → Started (f c) (n c) (not (above c)) c.args.i c.place_next_to-far.result
far c = started c (not (above c)) c.place_next_to-far.ensures

within : (c : After-max) → (c.place_next_to-near.result ≤ c.max.result) × (c.place_next_to-far.result ≤ c.max.result)
within c = omega (arith, c.max.ensures)

-- a search, by i's label as it stands in the list
by-own : (c : After-max) {side : Bool} {a e at : ℕ} → FirstOrEnd (Beyond (f c) side c.label_at-label.result) a e at
    → FirstOrEnd (Beyond (f c) side (f c c.args.i)) a e at
by-own c {side} {a} {e} {at} = subst (λ (x : ℕ). FirstOrEnd (Beyond (f c) side x) a e at) (own c)

-- a search that finds none ends behind the range
behind : {P : ℕ → Type 0} {a e : ℕ} → Each (λ p. ¬ P p) a e → FirstOrEnd P a e (max a e)
behind none = record { from = omega arith; has = λ h. absurd (omega arith); before = λ p from to. none p from (omega arith) }

pub returns-in_err-turn : goal.returns-in_err-turn
returns-in_err-turn c =
    let v = (goal.at.returns-in_err-turn c).After-max in
    let turns = by-own v (behind c.in_err-turn.ensures) in
    let turn = max (c.args.i + 2) c.max.result in
    let back : FirstOrEnd (Beyond (f v) (above v) (f v v.args.i)) (turn + 1) v.place_next_to-far.result (turn + 1) = record {
      from = omega arith;
      has = λ h. absurd (omega (arith, within v));
      before = λ p from to. absurd (omega arith);
    } in
    rw c.from_residual.ensures
    (none_from (near v) (far v) (next-side v) (within v).0 (within v).1 turns (omega (arith, within v)) back (omega (arith, within v)))

pub returns-then-turn-near : goal.returns-then-turn-near
returns-then-turn-near c =
    let v = (goal.at.returns-then-turn-near c).After-max in
    let turns = by-own v c.in_ok-turn.ensures.0 in
    rw c.pattern_at.ensures (first_near (near v) (far v) (next-side v) (within v).0 (within v).1 turns c.if-turn-near.true)

pub returns-in_err-back : goal.returns-in_err-back
returns-in_err-back c =
    let v = (goal.at.returns-in_err-back c).After-max in
    let turns = by-own v c.in_ok-turn.ensures.0 in
    let back = by-own v (behind c.in_err-back.ensures) in
    rw c.from_residual-in_err-back.ensures
    (none_from (near v) (far v) (next-side v) (within v).0 (within v).1 turns c.if-turn-near.false back (omega arith))

pub returns : goal.returns
returns c =
    let v = (goal.at.returns c).After-max in
    let turns = by-own v c.in_ok-turn.ensures.0 in
    let back = by-own v c.in_ok-back.ensures.0 in
    rw c.pattern_at-2.ensures
    (first_far (near v) (far v) (next-side v) (within v).0 (within v).1 turns c.if-turn-near.false back c.in_ok-back.ensures.1)
