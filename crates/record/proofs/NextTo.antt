-- A list of labels is Baxter exactly if each label is put next to the run of the label before it. Both conditions of a barred
-- pattern are one crossing, seen going up or going down; between the two middle positions of a crossing some neighbours cross too.
use Rattle.std.specs.Prelude.{◌≡◌, refl, ◌≢◌, ◌⊎◌, ℕ, zero, suc, ◌+◌, ◌-◌, ◌≤◌, ◌<◌}
use Rattle.std.proofs.Common.{sym, ap, subst, ◌∙◌, inl, inr, add-zero, arith}
use Rattle.finite.specs.Decide.{le_or_lt}
use Rattle.finite.specs.Search.{Some}
use Rattle.finite.specs.Count.{onto}
use Rattle.record.specs.Labels.{EachOnce}
use Rattle.record.specs.Barred.{BarredFirst, BarredSecond, Barred}
use Rattle.record.specs.Triple.{Earlier}
use Rattle.record.specs.Way.{Way, up, down, other, Past, Beside, past_trans, past_not_self, past_not_back, past_turn, past_turn_back, beside_past, beside_one, beside_tight, next_toward, Order, before, same, after, order}
use Rattle.record.specs.Sides.{BesideSeen}
use Rattle.record.specs.Runs.{Chained}

-- the label x stands at one of the first k positions
abbrev pub Seen : (ℕ → ℕ) → (k x : ℕ) → Type 0
Seen f k x = Earlier f x (suc k)

-- the label after position k is put next to the run of position k's
abbrev pub NextTo : (ℕ → ℕ) → (k : ℕ) → Type 0
NextTo f k = (turn : Way) → Chained (Seen f k) turn (f k) (f (suc k))

-- positions i < j < k < l whose labels cross: the labels of j and k lie on both sides of i's, and l's is the one before i's
record Crossing (f : ℕ → ℕ) (n : ℕ) (turn : Way) (i j k l : ℕ) : Type 0 where
  start : 1 ≤ i
  i<j : i < j
  j<k : j < k
  k<l : k < l
  end : l ≤ n
  short : Past turn (f j) (f i)
  over : Past turn (f i) (f k)
  next : Beside (other turn) (f i) (f l)

-- how far x is from z
abbrev distance : ℕ → ℕ → ℕ
distance x z = (x - z) + (z - x)

nearer : (way : Way) {x y z : ℕ} → Beside way x y → Past way x z → distance y z < distance x z
nearer up b p = omega arith
nearer down b p = omega arith

module _ (f : ℕ → ℕ) (n : ℕ) (each : EachOnce f n) where
  differ : (i j : ℕ) → 1 ≤ i → i < j → j ≤ n → f i ≢ f j
  differ i j a l b e = omega (arith, each.once i j a (omega arith) (omega arith) b e)

  crossing_barred : (turn : Way) {i j k l : ℕ} → Crossing f n turn i j k l → Barred f n
  crossing_barred turn {i} {j} {k} {l} x =
      (l, omega arith, omega arith, (k, omega arith, x.k<l, (j, omega arith, x.j<k, (i, x.start, x.i<j, stand turn x))))
    where
      stand : (turn : Way) → Crossing f n turn i j k l → BarredFirst (f i) (f j) (f k) (f l) ⊎ BarredSecond (f i) (f j) (f k) (f l)
      stand up x = inr (omega arith)
      stand down x = inl (omega (arith, differ j l (omega arith) (omega arith) x.end))

  barred_crossing : Barred f n → (turn : Way) × (i : ℕ) × (j : ℕ) × (k : ℕ) × (l : ℕ) × Crossing f n turn i j k l
  barred_crossing (l, hl, bl, (k, hk, bk, (j, hj, bj, (i, hi, bi, stand)))) = go stand
    where
      go : BarredFirst (f i) (f j) (f k) (f l) ⊎ BarredSecond (f i) (f j) (f k) (f l)
          → (turn : Way) × (i : ℕ) × (j : ℕ) × (k : ℕ) × (l : ℕ) × Crossing f n turn i j k l
      go (inl s) =
          let d = differ i k hi (omega arith) (omega arith) in
          (down, i, j, k, l, record { start = hi; i<j = bi; j<k = bj; k<l = bk; end = omega arith; short = omega arith; over = omega arith; next = omega arith })
      go (inr s) =
          let d = differ j l (omega arith) (omega arith) (omega arith) in
          (up, i, j, k, l, record { start = hi; i<j = bi; j<k = bj; k<l = bk; end = omega arith; short = omega arith; over = omega arith; next = omega arith })

  -- every label of 1 to n stands somewhere
  pub every : (x : ℕ) → 1 ≤ x → x ≤ n → Some (λ i. f i ≡ x) 1 (suc n)
  every x a b = onto 1 (suc n) f (λ i h l. omega (arith, each.range i h (omega arith))) (λ i j hi li hj lj e. each.once i j hi (omega arith) hj (omega arith) e) x a (omega arith)

  -- ---- no barred pattern: each label is next to the current run
  pub not_barred_next : ¬ Barred f n → (k : ℕ) → 1 ≤ k → suc k ≤ n → NextTo f k
  not_barred_next free k a b turn x (i, hi, bi, e) p q = go (next_toward (past_turn p))
    where
      -- the label before x is one of 1 to n
      label : {y : ℕ} (turn : Way) → Past turn (f k) x → Beside (other turn) x y → (1 ≤ y) × (y ≤ n)
      label up p s = omega (arith, each.range k a (omega arith), each.range i hi (omega arith))
      label down p s = omega (arith, each.range k a (omega arith), each.range i hi (omega arith))

      not_k : i ≢ k
      not_k d = past_not_self (subst (Past turn (f k)) (sym e ∙ ap f d) p)

      go : (y : ℕ) × Beside (other turn) x y → BesideSeen (Seen f k) (other turn) x
      go (y, s) = found (every y (label turn p s).0 (label turn p s).1)
        where
          found : Some (λ l. f l ≡ y) 1 (suc n) → BesideSeen (Seen f k) (other turn) x
          found (l, hl, bl, d) = place (le_or_lt l k)
            where
              not_next : l ≢ suc k
              not_next c = past_not_back q (past_turn_back turn (subst (Past (other turn) x) (sym d ∙ ap f c) (beside_past s)))

              place : (l ≤ k) ⊎ (k < l) → BesideSeen (Seen f k) (other turn) x
              place (inl h) = (y, s, (l, hl, omega arith, d))
              place (inr h) = absurd (free (crossing_barred turn record {
                start = hi;
                i<j = omega (arith, not_k);
                j<k = omega arith;
                k<l = omega (arith, not_next);
                end = omega arith;
                short = subst (Past turn (f k)) (sym e) p;
                over = subst (λ (w : ℕ). Past turn w (f (suc k))) (sym e) q;
                next = subst (λ (w : ℕ). Beside (other turn) w (f l)) (sym e) (subst (Beside (other turn) x) (sym d) s);
              }))

  -- so where a label seen lies between those of position k and of the next one, all labels from position k's up to it are seen
  pub between_seen : ¬ Barred f n → (k : ℕ) → 1 ≤ k → suc k ≤ n → (way : Way) {x : ℕ} → Seen f k x → Past way x (f (suc k)) → (v : ℕ)
      → Past way (f k) v → ¬ Past way x v → Seen f k v
  between_seen free k a b way {x} seen short v p q = go (distance x v) x (omega arith) seen short q
    where
      go : (fuel x : ℕ) → distance x v ≤ fuel → Seen f k x → Past way x (f (suc k)) → ¬ Past way x v → Seen f k v
      go zero x h seen short q = subst (Seen f k) (omega arith) seen
      go (suc fuel) x h seen short q = back (order way x v) (go fuel)
        where
          back : Order way x v → ((y : ℕ) → distance y v ≤ fuel → Seen f k y → Past way y (f (suc k)) → ¬ Past way y v → Seen f k v) → Seen f k v
          back (before r) rest = absurd (q r)
          back (same e) rest = subst (Seen f k) e seen
          back (after r) rest =
              let (y, s, other-seen) = not_barred_next free k a b way x seen (past_trans p r) short in
              rest y (omega (arith, nearer (other way) s (past_turn r))) other-seen (past_trans (past_turn_back way (beside_past s)) short)
              (λ t. elim (beside_tight s (past_turn r)) [
                | inl e ↦ past_not_self (subst (Past way y) (sym e) t)
                | inr u ↦ past_not_back t (past_turn_back way u)
              ])

  -- ---- and the other way round
  -- labels that lie before a at position j and past it at k, and are never a, cross it somewhere between
  cross : (turn : Way) (a d j k : ℕ) → j + d ≡ k → ((x : ℕ) → j ≤ x → x ≤ k → f x ≢ a) → Past turn (f j) a → Past turn a (f k)
      → (x : ℕ) × (j ≤ x) × (x < k) × Past turn (f x) a × Past turn a (f (suc x))
  cross turn a zero j k e never p q = absurd (past_not_back p (subst (λ (x : ℕ). Past turn a (f x)) (sym e ∙ add-zero j) q))
  cross turn a (suc d) j k e never p q = go (order turn (f (suc j)) a) (cross turn a d (suc j) k (omega arith) (λ x l u. never x (omega arith) u))
    where
      go : Order turn (f (suc j)) a → (Past turn (f (suc j)) a → Past turn a (f k)
          → (x : ℕ) × (suc j ≤ x) × (x < k) × Past turn (f x) a × Past turn a (f (suc x)))
          → (x : ℕ) × (j ≤ x) × (x < k) × Past turn (f x) a × Past turn a (f (suc x))
      go (before h) later = let (x, l, u, r, s) = later h q in (x, omega arith, u, r, s)
      go (same h) later = absurd (never (suc j) (omega arith) (omega arith) h)
      go (after h) later = (j, omega arith, omega arith, p, h)

  pub next_not_barred : ((k : ℕ) → 1 ≤ k → suc k ≤ n → NextTo f k) → ¬ Barred f n
  next_not_barred next barred = go (barred_crossing barred)
    where
      go : (turn : Way) × (i : ℕ) × (j : ℕ) × (k : ℕ) × (l : ℕ) × Crossing f n turn i j k l → ⊥
      go (turn, i, j, k, l, x) = middle (cross turn (f i) (k - j) j k (omega arith) (λ y a b e. differ i y x.start (omega arith) (omega arith) (sym e)) x.short x.over)
        where
          middle : (y : ℕ) × (j ≤ y) × (y < k) × Past turn (f y) (f i) × Past turn (f i) (f (suc y)) → ⊥
          middle (y, a, b, r, s) = late (next y (omega arith) (omega arith) turn (f i) (i, x.start, omega arith, refl) r s)
            where
              late : BesideSeen (Seen f y) (other turn) (f i) → ⊥
              late (w, c, (m, hm, bm, e)) =
                  omega (arith, each.once m l hm (omega arith) (omega arith) x.end (e ∙ beside_one c x.next))
