-- What one move makes of the numbers is what it makes of the state that they stand for, and it is refused for the same cause.
use mathlib.Core.List.{List, [], ◌∷◌}
use mathlib.Core.Logic.{◌≢◌, inl, inr}
use mathlib.Core.Path.{◌≡◌, sym, ap, subst, ◌∙◌}
use Prim.Native.Nat.{ℕ, zero, suc, ◌+◌, ◌-◌, ◌*◌, ◌%◌, ◌≤◌, ◌<◌}
use native.Mathlib.Omega.{arith}
use lib.ListN.{get_or}
use Rattle.record.specs.Triple.{Triple}
use Rattle.record.specs.Walk.{Counts, counts, step, and_then}
use Rattle.record.specs.Read.{Missing, Several}
use Rattle.record.specs.declared.Refusal.TheVariants.{Count, MissingRun, SeveralRuns, OnlyRoom}
use Rattle.traces.specs.Move.{add}
use Rattle.traces.specs.State.{rooms_of, counts_of, runs_in, runs_of}
use Rattle.traces.specs.Newest.{counts_add}
use Rattle.traces.specs.Cause.{Refuses, past_255, missing_run, only_room, several_runs, Makes, added, taken, claimed}
use Rattle.traces.specs.Still.{Built, grown}
use Rattle.traces.proofs.Still.{built_few, Counted, counted}
use Rattle.replaying.specs.Packed.{packed, row_of, CountsRuns}
use Rattle.replaying.specs.declared.Plan.{Plan}
use Rattle.replaying.specs.Turn.{Fits, packed_of, Stands, Kept, back_move, GoesBack}
use Rattle.replaying.proofs.Lands.{Lacks, Lands, lands, lands_missing, lands_there}

-- ---- the numbers of a state
module _ {present : List Triple} (b : Built present) where
  packed_is : (c : Counted present) → packed_of present ≡ 257 + c.below + 256 * c.above
  packed_is c = ap packed c.are

  pub packed_small : (257 ≤ packed_of present) × (packed_of present ≤ 65535)
  packed_small =
      let c = counted b in
      let few = built_few b in
      (omega (arith, packed_is c), omega (arith, packed_is c, c.few, few))

module _ {present : List Triple} {plan : Plan} (s : Stands present plan) where
  abbrev rooms : ℕ
  rooms = plan.rooms

  abbrev number : ℕ
  number = plan.counts

  pub stands_few : (1 ≤ rooms) × (rooms ≤ 255)
  stands_few = (omega (arith, s.rooms_are), omega (arith, s.rooms_are, built_few s.built))

  pub stands_small : (257 ≤ number) × (number ≤ 65535)
  stands_small = let small = packed_small s.built in (omega (arith, s.counts_are, small.0), omega (arith, s.counts_are, small.1))

  pub stands_fit : Fits plan
  stands_fit = (stands_few.0, stands_few.1, stands_small.0, stands_small.1)

  -- the runs
  pub stands_runs : {runs : ℕ} → CountsRuns number runs → runs ≡ runs_of present
  stands_runs told =
      let c = counted s.built in
      let few : c.below + c.above < 255 = omega (arith, c.few, built_few s.built) in
      told c.below c.above (s.counts_are ∙ packed_is s.built c) few ∙ sym (ap runs_in c.are)

  -- ---- a room is added
  pub added_past : (t : Triple) → rooms ≡ 255 → Refuses (add t) present Count
  added_past t e = past_255 {t = t} {present = present} (omega (arith, s.rooms_are))

  module _ (t : Triple) (room : rooms ≢ 255) (row : ℕ) (row_is : row ≡ row_of t) where
    few_after : ¬ (255 < rooms_of (t ∷ present))
    few_after = omega (arith, s.rooms_are, stands_few.1)

    landed : Lands (number + row - 256) (counts_of (t ∷ present))
    landed =
        let c = counted s.built in
        let few : c.below + c.above < 254 = omega (arith, c.few, few_after) in
        let next : counts_of (t ∷ present) ≡ step t c.below c.above =
        counts_add t present ∙ ap (λ (k : Counts). and_then k (step t)) c.are in
        let same : 257 + c.below + 256 * c.above + row_of t - 256 ≡ number + row - 256 =
        omega (arith, s.counts_are, packed_is s.built c, row_is) in
        subst (λ (n : ℕ). Lands n (counts_of (t ∷ present))) same
        (subst (Lands (257 + c.below + 256 * c.above + row_of t - 256)) (sym next) (lands t c.below c.above few))

    pub added_missing : Lacks (number + row - 256) → Refuses (add t) present MissingRun
    added_missing h =
        missing_run {t = t} {present = present} few_after (lands_missing (number + row - 256) (counts_of (t ∷ present)) landed h)

    module _ (some : (number + row - 256) % 256 ≢ 0) (much : 256 ≤ number + row - 256) where
      there : (¬ Missing (counts_of (t ∷ present))) × (number + row - 256 ≡ packed_of (t ∷ present))
      there = lands_there (number + row - 256) (counts_of (t ∷ present)) landed none
        where
          none : ¬ Lacks (number + row - 256)
          none (inl h) = some h
          none (inr h) = omega arith

      pub added_makes : Makes (add t) present (t ∷ present)
      added_makes = added {t = t} {present = present} few_after there.0

      pub added_stands : Stands (t ∷ present) (record { rooms = rooms + 1; counts = number + row - 256 })
      added_stands = record {
        built = grown {t = t} {present = present} few_after there.0 s.built;
        rooms_are = omega (arith, s.rooms_are);
        counts_are = there.1;
      }

-- ---- a move goes back, by its kind
module _ (present : List Triple) (b : Built present) (kept : List ℕ) (k : Kept packed_of present kept)
    {rooms : ℕ} (is : rooms ≡ rooms_of present)
    {kind left : ℕ} (left_is : left ≡ rooms + kind - 3) where
  -- to no room at all
  pub back_only : 2 ≤ kind → left ≡ 0 → Refuses (back_move kind) present OnlyRoom
  back_only some none = go kind present (omega arith) some
    where
      go : (kind : ℕ) (present : List Triple) → rooms_of present + kind ≤ 3 → 2 ≤ kind → Refuses (back_move kind) present OnlyRoom
      go zero present few some = absurd (omega arith)
      go (suc zero) present few some = absurd (omega arith)
      go (suc (suc zero)) [] few some = only_room
      go (suc (suc zero)) (t ∷ present) few some = absurd (omega arith)
      go (suc (suc (suc kind))) present few some = absurd (omega arith)

  module _ (v : ℕ) (read : v ≡ get_or kept left 0) where
    -- kind 3
    module _ (three : kind ≡ 3) where
      place : left ≡ rooms_of present
      place = omega arith

      read_is : v ≡ packed_of present
      read_is = read ∙ ap (λ (i : ℕ). get_or kept i 0) place ∙ k.0

      pub back_several : v ≢ 257 → Refuses (back_move kind) present SeveralRuns
      back_several h =
          let c = counted b in
          let several : Several (counts c.below c.above) = omega (arith, read_is, packed_is b c, h) in
          subst (λ (j : ℕ). Refuses (back_move j) present SeveralRuns) (sym three) (several_runs (subst Several (sym c.are) several))

      pub back_claim : v ≡ 257 → GoesBack kind present kept (record { rooms = left; counts = v })
      back_claim h = record {
        state = present;
        makes =
            subst (λ (j : ℕ). Makes (back_move j) present present) (sym three)
            (claimed (subst (λ (c : Counts). ¬ Several c) (sym (counted b).are) one));
        stands = record { built = b; rooms_are = place; counts_are = read_is };
        kept_are = k;
      }
        where
          one : ¬ (1 ≤ (counted b).below + (counted b).above)
          one m = omega (arith, read_is, packed_is b (counted b))

    -- kind 2
    pub back_take : kind ≡ 2 → left ≢ 0 → GoesBack kind present kept (record { rooms = left; counts = v })
    back_take two some = go present b k (omega arith)
      where
        go : (present : List Triple) → Built present → Kept packed_of present kept → left + 1 ≡ rooms_of present
            → GoesBack kind present kept (record { rooms = left; counts = v })
        go [] b k e = absurd (some (omega arith))
        go (t ∷ present) (grown few some_runs b) k e =
            let place : left ≡ rooms_of present = omega arith in
            record {
              state = present;
              makes = subst (λ (j : ℕ). Makes (back_move j) (t ∷ present) present) (sym two) taken;
              stands = record { built = b; rooms_are = place; counts_are = read ∙ ap (λ (i : ℕ). get_or kept i 0) place ∙ k.1.0 };
              kept_are = k.1;
            }
