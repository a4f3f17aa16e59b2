-- How the starts are found in one walk along the positions of a Baxter list. Of the first k rooms, those behind room k are the ones whose
-- labels, going one way, lie before its own or in its run: all labels from its own up to theirs are seen. The rooms that stand before a
-- room are those behind the last earlier room that stands before it; and behind a room are itself, the rooms before it and, where the
-- label next to its own is seen, those behind the last earlier room whose label lies past its own. So the furthest end of the rooms
-- behind each room tells where the next ones start, and no labels are needed, but the nearest positions and a bit of the triple.
use Rattle.std.specs.Prelude.{◌≡◌, refl, ◌⊎◌, ℕ, suc, ◌≤◌, ◌<◌}
use Rattle.std.proofs.Common.{sym, subst, inl, inr, arith}
use Rattle.finite.specs.Decide.{le_or_lt, eq_or_ne}
use Rattle.record.specs.Labels.{EachOnce}
use Rattle.record.specs.Barred.{Barred}
use Rattle.record.specs.Triple.{Earlier}
use Rattle.record.specs.Way.{Way, other, Less, Past, Beside, past_trans, past_not_self, past_not_back, past_turn, beside_past, beside_tight, next_toward, Order, before, same, after, order}
use Rattle.record.proofs.NextTo.{Seen, between_seen}
use Rattle.drawing.specs.Nearest.{Nearest}

-- room i is one of the first k, and each label past that of room k, as far as its own, is seen there
pub record Behind (f : ℕ → ℕ) (way : Way) (k i : ℕ) : Type 0 where
  pub from : 1 ≤ i
  pub to : i ≤ k
  pub seen : (v : ℕ) → Past way (f k) v → ¬ Past way (f i) v → Seen f k v

-- the label next to that of room j stands at an earlier position
abbrev pub Joined : (f : ℕ → ℕ) → Way → (j : ℕ) → Type 0
Joined f way j = (v : ℕ) × Beside way (f j) v × Earlier f v j

-- the last earlier room whose label comes before that of room j, going that way, and the one whose label comes after it; 0 if none
abbrev pub LastBefore : (f : ℕ → ℕ) (n : ℕ) → Way → (j k : ℕ) → Type 0
LastBefore f n way j k = Nearest Way.down (λ i. Less way (f i) (f j)) n j k

abbrev pub LastAfter : (f : ℕ → ℕ) (n : ℕ) → Way → (j k : ℕ) → Type 0
LastAfter f n way j k = Nearest Way.down (λ i. Less way (f j) (f i)) n j k

-- the room with which room j ends on one line: the last earlier one whose label comes after its own, if the next label is seen
abbrev pub EndsWith : (f : ℕ → ℕ) (n : ℕ) → Way → (j e : ℕ) → Type 0
EndsWith f n way j e = (Joined f way j × LastAfter f n way j e) ⊎ ((¬ Joined f way j) × (e ≡ 0))

module _ (f : ℕ → ℕ) (n : ℕ) (once : EachOnce f n) (not_barred : ¬ Barred f n) (way : Way) (j : ℕ) (from : 1 ≤ j) (to : j ≤ n) where
  -- two labels at or before j are the same only at one position
  only : {i : ℕ} → 1 ≤ i → i ≤ j → f i ≡ f j → i ≡ j
  only a b e = once.once _ j a (omega arith) from to e

  -- an earlier room whose label does not come before that of room j has one that comes after it
  not_before : {i : ℕ} → 1 ≤ i → i < j → ¬ Past way (f i) (f j) → Past way (f j) (f i)
  not_before {i} a l h = go (order way (f i) (f j))
    where
      go : Order way (f i) (f j) → Past way (f j) (f i)
      go (before p) = absurd (h p)
      go (same e) = absurd (omega (arith, only a (omega arith) e))
      go (after p) = p

  not_after : {i : ℕ} → 1 ≤ i → i < j → ¬ Past way (f j) (f i) → Past way (f i) (f j)
  not_after {i} a l h = go (order way (f i) (f j))
    where
      go : Order way (f i) (f j) → Past way (f i) (f j)
      go (before p) = p
      go (same e) = absurd (omega (arith, only a (omega arith) e))
      go (after p) = absurd (h p)

  -- ---- the rooms before room j are those behind the last of them
  module _ {k : ℕ} (last : LastBefore f n way j k) where
    no_later_before : {i : ℕ} → i < j → Past way (f i) (f j) → i ≤ k
    no_later_before {i} l p = elim (le_or_lt i k) [ inl h ↦ h | inr h ↦ absurd (last.clear i l h p.less) ]

    -- the label after room k's lies past those of all rooms before room j
    beyond : {i : ℕ} → Past way (f i) (f j) → 1 ≤ k → Past way (f i) (f (suc k))
    beyond {i} p some = elim (eq_or_ne (suc k) j) [
      | inl e ↦ subst (λ (m : ℕ). Past way (f i) (f m)) (sym e) p
      | inr e ↦ past_trans p (not_before (omega arith) (omega (arith, last.past)) (λ q. last.clear (suc k) (omega (arith, last.past)) (omega arith) q.less))
    ]

    pub before→behind : (i : ℕ) → 1 ≤ i → i < j → Past way (f i) (f j) → Behind f way k i
    before→behind i a l p = let h = no_later_before l p in record {
      from = a;
      to = h;
      seen = between_seen f n once not_barred k (omega arith) (omega (arith, last.past)) way (i, a, omega arith, refl) (beyond p (omega arith));
    }

    pub behind→before : (i : ℕ) → Behind f way k i → (i < j) × Past way (f i) (f j)
    behind→before i b = (omega (arith, b.to, last.past), go (order way (f i) (f j)))
      where
        go : Order way (f i) (f j) → Past way (f i) (f j)
        go (before p) = p
        go (same e) = absurd (omega (arith, b.to, last.past, only b.from (omega (arith, b.to, last.past)) e))
        go (after p) =
            let of-k = last.has (omega (arith, b.from, b.to)) (omega (arith, last.past)) in
            let (m, c, d, e) = b.seen (f j) record { less = of-k } (past_not_back p) in
            absurd (omega (arith, last.past, only c (omega (arith, last.past)) e))

  -- ---- what is behind room j
  module _ {e : ℕ} (ends : EndsWith f n way j e) where
    no_later_after : {i : ℕ} → LastAfter f n way j e → i < j → Past way (f j) (f i) → i ≤ e
    no_later_after {i} last l p = elim (le_or_lt i e) [ inl h ↦ h | inr h ↦ absurd (last.clear i l h p.less) ]

    pub behind→cases : (i : ℕ) → Behind f way j i → (i ≡ j) ⊎ (((i < j) × Past way (f i) (f j)) ⊎ Behind f way e i)
    behind→cases i b = go (order way (f i) (f j)) ends
      where
        differ : {m : ℕ} → 1 ≤ m → m ≤ j → Past way (f j) (f m) → m < j
        differ {m} a l p = elim (eq_or_ne m j) [ inl q ↦ absurd (past_not_self (subst (λ (z : ℕ). Past way (f j) (f z)) q p)) | inr q ↦ omega arith ]

        next_seen : Past way (f j) (f i) → Joined f way j
        next_seen p =
            let (v, next) = next_toward p in
            let (m, c, d, s) = b.seen v (beside_past next) (λ q. elim (beside_tight next p) [
              | inl t ↦ past_not_self (subst (Past way (f i)) t q)
              | inr t ↦ past_not_back t q
            ]) in
            (v, next, (m, c, differ c (omega arith) (subst (Past way (f j)) (sym s) (beside_past next)), s))

        go : Order way (f i) (f j) → EndsWith f n way j e → (i ≡ j) ⊎ (((i < j) × Past way (f i) (f j)) ⊎ Behind f way e i)
        go (same q) x = inl (only b.from b.to q)
        go (before p) x = inr (inl (elim (eq_or_ne i j) [ inl q ↦ absurd (past_not_self (subst (λ (z : ℕ). Past way (f z) (f j)) q p)) | inr q ↦ omega (arith, b.to) ], p))
        go (after p) (inr (apart, zero-end)) = absurd (apart (next_seen p))
        go (after p) (inl (joined, last)) =
            let l = no_later_after last (differ b.from b.to p) p in
            let of_e : Past way (f j) (f e) = record { less = last.has (omega (arith, b.from)) (omega (arith, last.past)) } in
            inr (inr record {
              from = b.from;
              to = l;
              seen = λ v q r. let (m, c, d, s) = b.seen v (past_trans of_e q) r in
                  let past-j = subst (Past way (f j)) (sym s) (past_trans of_e q) in
                  (m, c, omega (arith, no_later_after last (differ c (omega arith) past-j) past-j), s);
            })

    pub behind_itself : Behind f way j j
    behind_itself = record { from = from; to = omega arith; seen = λ v p q. absurd (q p) }

    pub behind_end : (i : ℕ) → Behind f way e i → Behind f way j i
    behind_end i b = go ends
      where
        go : EndsWith f n way j e → Behind f way j i
        go (inr (apart, zero-end)) = absurd (omega (arith, b.from, b.to))
        go (inl ((v, next, (m, c, d, s)), last)) = record { from = b.from; to = omega (arith, b.to, last.past); seen = λ w p q. seen w p q (order way (f e) w) }
          where
            past_m : Past way (f j) (f m)
            past_m = subst (Past way (f j)) (sym s) (beside_past next)

            later : {w : ℕ} → Seen f e w → Seen f j w
            later (k, a, l, q) = (k, a, omega (arith, last.past), q)

            -- the label after room e's comes before the one next to that of room j
            short : Past (other way) v (f (suc e))
            short = past_turn {way = way} (elim (eq_or_ne (suc e) j) [
              | inl q ↦ subst (λ (z : ℕ). Past way (f z) v) (sym q) (beside_past next)
              | inr q ↦ past_trans (not_after (omega arith) (omega (arith, last.past)) (λ r. last.clear (suc e) (omega (arith, last.past)) (omega arith) r.less)) (beside_past next)
            ])

            seen : (w : ℕ) → Past way (f j) w → ¬ Past way (f i) w → Order way (f e) w → Seen f j w
            seen w p q (before r) = later (b.seen w r q)
            seen w p q (same r) = (e, omega (arith, b.from, b.to), omega (arith, last.past), r)
            seen w p q (after r) =
                later (between_seen f n once not_barred e (omega (arith, b.from, b.to)) (omega (arith, last.past)) (other way)
                (m, c, omega (arith, no_later_after last d past_m), s) short w (past_turn r)
                (λ t. elim (beside_tight next p) [ inl u ↦ past_not_self (subst (Past (other way) v) (sym u) t) | inr u ↦ past_not_back (past_turn u) t ]))
