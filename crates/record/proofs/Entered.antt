-- Backward along accepted triples: of the current run on either side, and so of its newest label, the walk holds the first later
-- position whose label lies beyond, less 1. A later label that does not lie beyond the run would lie in it, where all labels are
-- seen already.
use Rattle.std.specs.Prelude.{◌≡◌, ◌≢◌, ◌⊎◌, Bool, true, false}
use Rattle.std.proofs.Common.{sym, inl, inr}
use Rattle.std.proofs.Math.Path.{subst, subst₂}
use mathlib.Core.List.{List, [], ◌∷◌}
use Prim.Native.Nat.{ℕ, zero, suc, ◌+◌, ◌-◌, ◌≤◌, ◌<◌}
use native.Mathlib.Omega.{arith}
use Rattle.finite.specs.Decide.{eq_or_ne}
use Rattle.record.specs.Labels.{label_at}
use Rattle.record.specs.Triple.{Triple, triple}
use Rattle.record.specs.Walk.{Accepted}
use Rattle.record.specs.Way.{Way, up, down, Past, past_trans, past_not_back, both}
use Rattle.record.specs.Sides.{Run, Side, more, Front, open_front, run_front, Joined, none, apart, joined, far_past}
use Rattle.record.specs.Runs.{Runs, inside_past, ahead, fresh_past}
use Rattle.record.specs.Decode.{turn_of, decode}
use Rattle.record.proofs.NextTo.{Seen}
use Rattle.record.proofs.Forward.{Stage}
use Rattle.record.proofs.Backward.{runs_at, whole, step_at, stage_at, front_at, decoded_each}
use Rattle.record.specs.Positions.{first_of, Entered, pushed, entered_met, others_of, entered_before, entered_but}

-- of the positions after m up to n, the first whose label is past x is p + 1; p is n if there is none
pub record Entry (way : Way) (f : ℕ → ℕ) (n m x p : ℕ) : Type 0 where
  pub from : m ≤ p
  pub within : p ≤ n
  pub past : p < n → Past way x (f (suc p))
  pub earlier : (q : ℕ) → m < q → q ≤ p → ¬ Past way x (f q)

-- each run has the first position beyond its far end
data Entries (way : Way) (f : ℕ → ℕ) (n m : ℕ) : List Run → List ℕ → Type 0 where
  no_entry : Entries way f n m [] []
  entry : {p : ℕ} {r : Run} {rs : List Run} {ps : List ℕ} → Entry way f n m r.far p → Entries way f n m rs ps
      → Entries way f n m (r ∷ rs) (p ∷ ps)

module _ (f : ℕ → ℕ) (n m : ℕ) {way : Way} where
  first_entry : {r : Run} {rs : List Run} {ps : List ℕ} → Entries way f n m (r ∷ rs) ps → Entry way f n m r.far (first_of ps)
  unfolding first_of
  first_entry (entry e es) = e

  other_entries : {r : Run} {rs : List Run} {ps : List ℕ} → Entries way f n m (r ∷ rs) ps → Entries way f n m rs (others_of ps)
  other_entries (entry e es) = es

  -- ---- one label less, that is not past x
  entry_kept : {x p : ℕ} → ¬ Past way x (f (suc m)) → Entry way f n (suc m) x p → Entry way f n m x p
  entry_kept {x} {p} h e = record { from = omega (arith, e.from); within = e.within; past = e.past; earlier = λ q a b. go q a b (eq_or_ne q (suc m)) }
    where
      go : (q : ℕ) → m < q → q ≤ p → (q ≡ suc m) ⊎ (q ≢ suc m) → ¬ Past way x (f q)
      go q a b (inl s) = subst (λ (i : ℕ). ¬ Past way x (f i)) (sym s) h
      go q a b (inr s) = e.earlier q (omega arith) b

  entries_kept : {x : ℕ} {rs : List Run} {ps : List ℕ} {S : ℕ → Type 0} → ¬ Past way x (f (suc m)) → Side S way x rs
      → Entries way f n (suc m) rs ps → Entries way f n m rs ps
  entries_kept h s no_entry = no_entry
  entries_kept h (more {r = r} k a s) (entry e es) = entry (entry_kept beyond e) (entries_kept beyond s es)
    where
      beyond : ¬ Past way r.far (f (suc m))
      beyond p = h (past_trans (far_past k) p)

  -- the runs that the label of position m + 1 met
  met_entries : {S : ℕ → Type 0} {bit : Bool} {rs rest : List Run} {x p : ℕ} {ps : List ℕ} → Front S way (f (suc m)) rs
      → Joined way (f (suc m)) bit rs x rest
      → Entry way f n (suc m) x p → Entries way f n (suc m) rest ps → Entries way f n m rs (pushed bit p ps)
  met_entries (open_front h) none e no_entry = no_entry
  met_entries (run_front k s) (apart a) e (entry d es) = entry (entry_kept (past_not_back (far_past k)) d) (entries_kept (past_not_back (far_past k)) s es)
  met_entries (run_front k s) (joined b) e es = entry (entry_kept (past_not_back (far_past k)) e) (entries_kept (past_not_back (far_past k)) s es)

-- ---- the runs of the first m positions
record AllEntered (f : ℕ → ℕ) (n m : ℕ) (z : Runs) (y : Entered) : Type 0 where
  current : (way : Way) → Entry way f n m (z.edge way) (y.current way)
  others : (way : Way) → Entries way f n m (z.stack way) (y.others way)

entered_before_lem : (f : ℕ → ℕ) (n m : ℕ) (u : Triple) (y : Entered) {p : ℕ} {z : Runs} → ((way : Way)
    → Entries way f n m (ahead (turn_of u) z way) (entered_met u y way))
    → Entry (turn_of u) f n m (z.edge (turn_of u)) p → AllEntered f n m z (entered_before u p y)
unfolding entered_before
entered_before_lem f n m (triple first second false) y met onward = record {
  current = both _ onward (first_entry f n m (met down));
  others = both _ (met up) (other_entries f n m (met down));
}
entered_before_lem f n m (triple first second true) y met onward = record {
  current = both _ (first_entry f n m (met up)) onward;
  others = both _ (other_entries f n m (met up)) (met down);
}

-- what is first beyond the current run is first beyond its newest label
label_entry : (f : ℕ → ℕ) (n k : ℕ) {way : Way} {z : Runs} {p : ℕ} → Stage f k z → ((q : ℕ) → suc k < q → q ≤ n
    → ¬ Seen f (suc k) (f q)) → Entry way f n (suc k) (z.edge way) p → Entry way f n (suc k) (f (suc k)) p
label_entry f n k {way} {z} stage fresh e = record {
  from = e.from;
  within = e.within;
  past = λ h. inside_past z way stage.inside (e.past h);
  earlier = λ q a b l. e.earlier q a b (fresh_past stage.faithful stage.inside (fresh q a (omega (arith, e.within))) l);
}

-- ---- along accepted triples
module _ (t : ℕ → Triple) (m : ℕ) (accepted : Accepted t (suc m)) where
  abbrev f : ℕ → ℕ
  f = label_at (decode t (suc m))

  abbrev EnteredAt : (k : ℕ) → Entered → Type 0
  EnteredAt k y = AllEntered f (suc m) (suc k) (runs_at t m accepted k) y

  entered_one : (k : ℕ) → suc k ≤ m → (y : Entered) → EnteredAt (suc k) y → EnteredAt k (entered_before (t (suc (suc k))) (suc k) y)
  entered_one k h y a = entered_before_lem f (suc m) (suc k) (t (suc (suc k))) y
      (λ way. met_entries f (suc m) (suc k) (front_at t m accepted k h way) ((step_at t m accepted k h).joins way) (a.current way) (a.others way))
      record { from = omega arith; within = omega arith; past = λ l. (step_at t m accepted k h).past; earlier = λ q b c p. omega arith }

  entered_last : EnteredAt m (entered_but t (suc m) 0)
  unfolding entered_but
  entered_last = record {
    current = λ way. record { from = omega arith; within = omega arith; past = λ l. absurd (omega arith); earlier = λ q a b p. omega arith };
    others = λ way. subst (λ (rs : List Run). Entries way f (suc m) (suc m) rs []) (sym ((whole t m accepted).alone way)) no_entry;
  }

  entered_at : (d k : ℕ) → k + d ≡ m → EnteredAt k (entered_but t (suc m) d)
  unfolding entered_but
  entered_at zero k e = let h : m ≡ k = omega arith in subst (λ (j : ℕ). EnteredAt j (entered_but t (suc m) 0)) h entered_last
  entered_at (suc d) k e =
      let i : suc (suc k) ≡ suc m - d = omega arith in
      let p : suc k ≡ suc m - d - 1 = omega arith in
      subst₂ (λ (i p : ℕ). EnteredAt k (entered_before (t i) p (entered_but t (suc m) d))) i p (entered_one k (omega arith) (entered_but t (suc m) d) (entered_at d (suc k) (omega arith)))

  -- what the walk holds is the first later position whose label lies that way, less 1
  pub label_entered : (k : ℕ) → k ≤ m → (way : Way)
      → Entry way f (suc m) (suc k) (f (suc k)) ((entered_but t (suc m) (suc m - suc k)).current way)
  label_entered k h way = label_entry f (suc m) k (stage_at t m accepted k h) fresh ((entered_at (suc m - suc k) k (omega arith)).current way)
    where
      fresh : (q : ℕ) → suc k < q → q ≤ suc m → ¬ Seen f (suc k) (f q)
      fresh q a b (i, c, d, e) = omega (arith, (decoded_each t m accepted).once i q c (omega arith) (omega arith) b e)
