-- The runs of seen labels on one side of a label, nearest first, and how one more label is joined to them.
-- S says which labels are seen, T the same after one more.
use Rattle.std.specs.Prelude.{◌≡◌, ◌≢◌, ◌⊎◌, Bool, ℕ}
use Rattle.std.proofs.Common.{subst, inl, inr}
use Rattle.std.proofs.Math.Bool.{true, false}
use mathlib.Core.List.{List, [], ◌∷◌}
use Rattle.finite.specs.Decide.{Tells}
use Rattle.record.specs.Way.{Way, Past, Beside, past_trans, past_not_self, past_not_back, not_past_same, beside_past, beside_tight, Order, before, same, after, order}

-- a run on one side of a label: all labels from the nearest to the furthest
pub record Run : Type 0 where
  pub near : ℕ
  pub far : ℕ

-- ---- seen and not seen, going one way
-- nothing is seen between x and y
abbrev pub Clear : (ℕ → Type 0) → Way → ℕ → ℕ → Type 0
Clear S way x y = (z : ℕ) → Past way x z → Past way z y → ¬ S z

-- all labels from x to y are seen
abbrev pub Full : (ℕ → Type 0) → Way → ℕ → ℕ → Type 0
Full S way x y = (z : ℕ) → ¬ Past way z x → ¬ Past way y z → S z

-- the run r comes next after x
pub record Next (S : ℕ → Type 0) (way : Way) (x : ℕ) (r : Run) : Type 0 where
  pub past : Past way x r.near
  pub clear : Clear S way x r.near
  pub ordered : ¬ Past way r.far r.near
  pub full : Full S way r.near r.far

-- the runs after x, of which none touches the one before it
pub data Side (S : ℕ → Type 0) (way : Way) : ℕ → List Run → Type 0 where
  last : {x : ℕ} → ((z : ℕ) → Past way x z → ¬ S z) → Side S way x []
  more : {x : ℕ} {r : Run} {rs : List Run} → Next S way x r → ¬ Beside way x r.near → Side S way r.far rs → Side S way x (r ∷ rs)

-- the runs after v, of which the first may touch v
pub data Front (S : ℕ → Type 0) (way : Way) (v : ℕ) : List Run → Type 0 where
  open_front : ((z : ℕ) → Past way v z → ¬ S z) → Front S way v []
  run_front : {r : Run} {rs : List Run} → Next S way v r → Side S way r.far rs → Front S way v (r ∷ rs)

-- ---- v is joined to the first of the runs rs after it, or not; then end is the last label of v's own run on this side, and rest are the runs after it
pub data Joined (way : Way) (v : ℕ) : Bool → (rs : List Run) (end : ℕ) (rest : List Run) → Type 0 where
  none : Joined way v false [] v []
  apart : {r : Run} {rs : List Run} → ¬ Beside way v r.near → Joined way v false (r ∷ rs) v (r ∷ rs)
  joined : {r : Run} {rs : List Run} → Beside way v r.near → Joined way v true (r ∷ rs) r.far rs

unfoldable pub end_of : Bool → ℕ → List Run → ℕ
end_of false v rs = v
end_of true v [] = v
end_of true v (r ∷ rs) = r.far

unfoldable pub rest_of : {A : Type 0} → Bool → List A → List A
rest_of false rs = rs
rest_of true [] = []
rest_of true (r ∷ rs) = rs

-- the next label after v is seen
abbrev pub BesideSeen : (ℕ → Type 0) → Way → ℕ → Type 0
BesideSeen S way v = (y : ℕ) × Beside way v y × S y

-- T is S and v besides
pub record Grown (S T : ℕ → Type 0) (v : ℕ) : Type 0 where
  pub fresh : ¬ S v
  pub new : T v
  pub keep : (x : ℕ) → S x → T x
  pub only : (x : ℕ) → x ≢ v → T x → S x

module _ {S : ℕ → Type 0} {way : Way} where
  pub near_seen : {x : ℕ} {r : Run} → Next S way x r → S r.near
  near_seen {r = r} n = n.full r.near past_not_self n.ordered

  pub far_past : {x : ℕ} {r : Run} → Next S way x r → Past way x r.far
  far_past {x} {r} n = go (order way r.near r.far)
    where
      go : Order way r.near r.far → Past way x r.far
      go (before p) = past_trans n.past p
      go (same e) = subst (Past way x) e n.past
      go (after p) = absurd (n.ordered p)

  -- the bit read off the runs
  pub joined_tells : {v : ℕ} {bit : Bool} {rs rest : List Run} {end : ℕ} → Front S way v rs → Joined way v bit rs end rest
      → Tells bit (BesideSeen S way v)
  joined_tells (open_front f) none = λ t. f t.0 (beside_past t.1) t.2
  joined_tells {v = v} (run_front {r = r} n s) (apart a) = λ t. go t (beside_tight t.1 n.past)
    where
      go : (t : BesideSeen S way v) → (t.0 ≡ r.near) ⊎ Past way t.0 r.near → ⊥
      go t (inl e) = a (subst (Beside way v) e t.1)
      go t (inr p) = n.clear t.0 (beside_past t.1) p t.2
  joined_tells (run_front {r = r} n s) (joined b) = (r.near, b, near_seen n)

  -- and the runs joined as the bit says
  pub tells_joined : (v : ℕ) (bit : Bool) (rs : List Run) → Front S way v rs → Tells bit (BesideSeen S way v)
      → Joined way v bit rs (end_of bit v rs) (rest_of bit rs)
  unfolding end_of rest_of
  tells_joined v false [] f t = none
  tells_joined v false (r ∷ rs) (run_front n s) t = apart (λ b. t (r.near, b, near_seen n))
  tells_joined v true [] (open_front f) t = absurd (f t.0 (beside_past t.1) t.2)
  tells_joined v true (r ∷ rs) (run_front n s) t = go (beside_tight t.1 n.past)
    where
      go : (t.0 ≡ r.near) ⊎ Past way t.0 r.near → Joined way v true (r ∷ rs) r.far rs
      go (inl e) = joined (subst (Beside way v) e t.1)
      go (inr p) = absurd (n.clear t.0 (beside_past t.1) p t.2)

-- ---- one more label
-- what lies past v on one side, once v is seen
pub record Grew (T : ℕ → Type 0) (way : Way) (v end : ℕ) (rest : List Run) : Type 0 where
  pub side : Side T way end rest
  pub full : Full T way v end
  pub ordered : ¬ Past way end v

module _ {S T : ℕ → Type 0} {v : ℕ} (g : Grown S T v) {way : Way} where
  not_new : {x z : ℕ} → ¬ Past way x v → Past way x z → z ≢ v
  not_new {x} n p e = n (subst (Past way x) e p)

  next_kept : {x : ℕ} {r : Run} → ¬ Past way x v → Next S way x r → Next T way x r
  next_kept n k = record {
    past = k.past;
    clear = λ z p q t. k.clear z p q (g.only z (not_new n p) t);
    ordered = k.ordered;
    full = λ z p q. g.keep z (k.full z p q);
  }

  -- the runs beyond x, where v is not
  side_kept : {x : ℕ} {rs : List Run} → ¬ Past way x v → Side S way x rs → Side T way x rs
  side_kept n (last f) = last (λ z p t. f z p (g.only z (not_new n p) t))
  side_kept n (more k a s) = more (next_kept n k) a (side_kept (λ p. n (past_trans (far_past k) p)) s)

  alone : Full T way v v
  alone z a b = subst T (not_past_same way b a) g.new

  pub joined_grew : {bit : Bool} {rs rest : List Run} {end : ℕ} → Front S way v rs → Joined way v bit rs end rest → Grew T way v end rest
  joined_grew (open_front f) none = record { side = side_kept past_not_self (last f); full = alone; ordered = past_not_self }
  joined_grew (run_front k s) (apart a) = record {
    side = more (next_kept past_not_self k) a (side_kept (past_not_back (far_past k)) s);
    full = alone;
    ordered = past_not_self;
  }
  joined_grew (run_front {r = r} k s) (joined b) = record { side = side_kept back s; full = λ z p q. go z p q (order way v z); ordered = back }
    where
      back : ¬ Past way r.far v
      back = past_not_back (far_past k)

      go : (z : ℕ) → ¬ Past way z v → ¬ Past way r.far z → Order way v z → T z
      go z p q (after a) = absurd (p a)
      go z p q (same e) = subst T e g.new
      go z p q (before a) = g.keep z (k.full z (λ l. between (beside_tight b a) l) q)
        where
          between : (r.near ≡ z) ⊎ Past way r.near z → Past way z r.near → ⊥
          between (inl e) l = past_not_self (subst (Past way z) e l)
          between (inr m) l = past_not_back l m
