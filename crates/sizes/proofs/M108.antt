-- M-108: the lowest corners, placings and the slack, sentence by sentence. All is said of both directions at once.
use Rattle.std.specs.Prelude.{List, ◌≢◌, ◌↔◌, ◌≡◌, ℤ, length, Ok}
use Rattle.std.proofs.Common.{inl, inr, sym, subst, ◌∙◌, arith}
use Prim.Native.Nat.{ℕ, zero, suc, ◌+◌, ◌-◌, ◌^◌, ◌≤◌, ◌<◌}
use Rattle.finite.specs.Decide.{le_or_lt}
use Rattle.finite.specs.Search.{Each}
use Rattle.finite.specs.Extremes.{greatest_ge, greatest_smallest}
use Rattle.record.specs.Labels.{label_at, EachOnce}
use Rattle.record.specs.Read.{kind_of, body_of, labels_of}
use Rattle.record.specs.Record.{triple_in}
use Rattle.record.proofs.Demand2.{OnlyList}
use Rattle.record.proofs.Demand2Read.{readable_only_list}
use Rattle.drawing.specs.Side.{side_of}
use Rattle.drawing.specs.declared.Room.{Room}
use Rattle.drawing.specs.declared.Side.TheVariants.{Right, Above}
use Rattle.rooms.specs.Causes.{AcceptedRooms}
use Rattle.rooms.specs.LabelList.{record_of_rooms}
use Rattle.rooms.proofs.Demand3.{label_list_back}
use Rattle.sizes.specs.Direction.{Direction, across, upward, Before}
use Rattle.sizes.specs.Lowest.{furthest_before, start_at, needed_length}
use Rattle.sizes.specs.Lists.{EachWay, number_at, lowest_corners, slack_of, HonoursAll}
use Rattle.sizes.specs.Sized.{Sized}
use Rattle.sizes.specs.Answer.{slack_each_way, slack_answer, placing_answer}
use Rattle.sizes.specs.Placed.{start_of, end_of, PlacedCovers, FitsOutline, NotNegative, RoomsHonour, OwnCorners}
use Rattle.sizes.specs.Demand1.{OtherLists, SlackSays, slack_is, PlacingSays, accepted, demand1_slack_cause, demand1_placing_cause, demand1_placing_answer}
use Rattle.sizes.proofs.LowestLaws.{before→earlier, furthest_same, starts_at_furthest_end, only_starts, lowest_honour, none_lower, start_small}
use Rattle.sizes.specs.CornersFacts.{corner_is, corners_are, needed_is}
use Rattle.sizes.specs.SideFacts.{left_iff_other_right, below_iff_other_above}
use Rattle.sizes.specs.SlackFacts.{not_negative→at_least, at_least→not_negative}
use Rattle.sizes.proofs.OfRooms.{honours_iff_rooms_honour, own_corners_honour}

-- the lowest corners each way
abbrev pub lowest : (labels : List ℕ) (sizes : EachWay (List ℕ)) → EachWay (List ℕ)
lowest labels sizes way = lowest_corners labels way (sizes way)

module _ (labels : List ℕ) (sizes : EachWay (List ℕ)) where
  abbrev f : ℕ → ℕ
  f = label_at labels

  abbrev n : ℕ
  n = length labels

  abbrev size : Direction → ℕ → ℕ
  size way = number_at (sizes way)

  is : (way : Direction) → Each (λ j. start_of (lowest labels sizes) way j ≡ start_at f way (size way) n j) 1 (suc n)
  is way = corner_is labels way (sizes way)

  -- "A room starts where the furthest room left of it ends, or at 0, and likewise upward."
  pub m108_starts_at_furthest_end : (way : Direction)
      → Each (λ j. start_of (lowest labels sizes) way j ≡ furthest_before (label_at labels) way (number_at (sizes way)) (length labels) (start_of (lowest labels sizes) way) j) 1 (suc (length labels))
  m108_starts_at_furthest_end way j a b =
      is way j a b ∙ starts_at_furthest_end f way (size way) n j (omega arith)
      ∙ furthest_same f way (size way) n (start_at f way (size way) n) (start_of (lowest labels sizes) way) j (λ i c d l. sym (is way i c (omega arith)))

  -- and this sentence fixes each corner
  pub m108_only_starts : (way : Direction) (xs : List ℕ) → length xs ≡ length labels
      → Each (λ j. number_at xs j ≡ furthest_before (label_at labels) way (number_at (sizes way)) (length labels) (number_at xs) j) 1 (suc (length labels))
      → xs ≡ lowest_corners labels way (sizes way)
  m108_only_starts way xs long law = corners_are labels way (sizes way) xs long (only_starts f way (size way) n (number_at xs) law)

  -- the lowest corners honour all left and below relations
  pub m108_lowest_honour : HonoursAll labels sizes (lowest labels sizes)
  m108_lowest_honour way i a b j c d p = omega (arith, is way i a b, is way j c d, lowest_honour f way (size way) n i a b j c d p)

  -- "No placing from 0 up that honours all left and below relations puts any corner lower."
  pub m108_none_lower : (corners : EachWay (List ℕ)) → HonoursAll labels sizes corners → (way : Direction)
      → Each (λ j. start_of (lowest labels sizes) way j ≤ start_of corners way j) 1 (suc (length labels))
  m108_none_lower corners honours way j a b =
      omega (arith, is way j a b, none_lower f way (size way) n (start_of corners way) (honours way) j a (omega arith))

  -- so they are the only placing that honours the relations and than which none that does puts a corner lower
  pub m108_only_lowest : (corners : EachWay (List ℕ)) → ((way : Direction) → length (corners way) ≡ length labels) → HonoursAll labels sizes corners
      → ((others : EachWay (List ℕ)) → HonoursAll labels sizes others → (way : Direction) → Each (λ j. start_of corners way j ≤ start_of others way j) 1 (suc (length labels)))
      → (way : Direction) → corners way ≡ lowest_corners labels way (sizes way)
  m108_only_lowest corners long honours low way = corners_are labels way (sizes way) (corners way) (long way) (λ j a b. omega (
    arith,
    is way j a b,
    low (lowest labels sizes) m108_lowest_honour way j a b,
    none_lower f way (size way) n (start_of corners way) (honours way) j a (omega arith),
  ))

  -- rooms that honour the relations share no unit square
  pub m108_honouring_share_no_square : EachOnce (label_at labels) (length labels) → (corners : EachWay (List ℕ)) → HonoursAll labels sizes corners
      → (i j x y : ℕ) → 1 ≤ i → i ≤ length labels → 1 ≤ j → j ≤ length labels
      → PlacedCovers sizes corners i x y → PlacedCovers sizes corners j x y → i ≡ j
  m108_honouring_share_no_square once corners honours i j x y ai bi aj bj p q = elim (le_or_lt i j) [
    | inl h ↦ elim (le_or_lt j i) [ inl l ↦ omega arith | inr l ↦ absurd (apart i j ai bi aj bj l p q) ]
    | inr h ↦ absurd (apart j i aj bj ai bi h q p)
  ]
    where
      apart : (i j : ℕ) → 1 ≤ i → i ≤ n → 1 ≤ j → j ≤ n → i < j → PlacedCovers sizes corners i x y → PlacedCovers sizes corners j x y → ⊥
      apart i j ai bi aj bj l p q = elim (le_or_lt (f j) (f i)) [
        | inl h ↦ elim (le_or_lt (f i) (f j)) [
          | inl e ↦ omega (arith, once.once i j ai bi aj bj (omega arith))
          | inr e ↦ omega (arith, honours upward i ai (omega arith) j aj (omega arith) (l, e))
        ]
        | inr h ↦ omega (arith, honours across i ai (omega arith) j aj (omega arith) (l, h))
      ]

  -- so those at the lowest corners share none
  pub m108_lowest_share_no_square : EachOnce (label_at labels) (length labels) → (i j x y : ℕ) → 1 ≤ i → i ≤ length labels → 1 ≤ j → j ≤ length labels
      → PlacedCovers sizes (lowest labels sizes) i x y → PlacedCovers sizes (lowest labels sizes) j x y → i ≡ j
  m108_lowest_share_no_square once = m108_honouring_share_no_square once (lowest labels sizes) m108_lowest_honour

  -- the slack is 0 or more both ways exactly if some placing that honours the relations fits the outline
  pub m108_slack_iff_fits : (outline : EachWay ℕ) → ((way : Direction) → NotNegative (slack_of labels way (sizes way) (outline way)))
      ↔ ((corners : EachWay (List ℕ)) × HonoursAll labels sizes corners × FitsOutline (length labels) sizes corners outline)
  unfolding slack_of
  m108_slack_iff_fits outline = (to, from)
    where
      needed : Direction → ℕ
      needed way = needed_length f way (size way) n

      ends : (way : Direction) → Each (λ i. end_of sizes (lowest labels sizes) way i ≤ needed way) 1 (suc n)
      ends way zero a b = absurd (omega arith)
      ends way (suc i) a b = omega (arith, needed_is labels way (sizes way), greatest_ge (λ i. end_of sizes (lowest labels sizes) way (suc i)) n i (omega arith))

      to : ((way : Direction) → NotNegative (slack_of labels way (sizes way) (outline way)))
          → (corners : EachWay (List ℕ)) × HonoursAll labels sizes corners × FitsOutline (length labels) sizes corners outline
      to good = (lowest labels sizes, m108_lowest_honour, λ way i a b. omega (arith, ends way i a b, not_negative→at_least (outline way) (needed way) (good way)))

      from : ((corners : EachWay (List ℕ)) × HonoursAll labels sizes corners × FitsOutline (length labels) sizes corners outline)
          → (way : Direction) → NotNegative (slack_of labels way (sizes way) (outline way))
      from (corners, honours, fits) way = at_least→not_negative (outline way) (needed way)
          (greatest_smallest (λ i. start_at f way (size way) n (suc i) + size way (suc i)) n (outline way) (λ i h. omega (
            arith,
            none_lower f way (size way) n (start_of corners way) (honours way) (suc i) (omega arith) h,
            fits way (suc i) (omega arith) (omega arith),
          )))

  -- the numbers fit: where sizes have 16 bits, all ends of up to 255 rooms at the lowest corners lie below 2^24, and so does the needed length
  module _ (few : length labels ≤ 255) (sixteen_bits : (way : Direction) → Each (λ i. number_at (sizes way) i < 2 ^ 16) 1 (suc (length labels))) where
    pub m108_ends_fit : (way : Direction) → Each (λ i. end_of sizes (lowest labels sizes) way i < 2 ^ 24) 1 (suc (length labels))
    m108_ends_fit way i a b =
        let small : Each (λ i. size way i ≤ 65535) 1 (suc n) = λ i a b. omega (arith, sixteen_bits way i a b) in
        omega (arith, is way i a b, small i a b, start_small f way (size way) n small i a (omega arith))

    pub m108_needed_fits : (way : Direction) → needed_length (label_at labels) way (number_at (sizes way)) (length labels) < 2 ^ 24
    m108_needed_fits way = omega (
      arith,
      needed_is labels way (sizes way),
      greatest_smallest (λ i. end_of sizes (lowest labels sizes) way (suc i)) n (2 ^ 24 - 1) (λ i h. omega (arith, m108_ends_fit way (suc i) (omega arith) (omega arith))),
    )

-- ---- what the calls answer
module _ (bytes : List ℕ) (sizes : EachWay (List ℕ)) where
  -- what Slack tells: both numbers are 0 or more exactly if some placing that honours the relations fits the outline
  pub m108_slack_tells : (outline : EachWay ℕ) (x y : ℤ) → slack_answer bytes sizes outline ≡ slack_each_way x y → (NotNegative x × NotNegative y)
      ↔ ((corners : EachWay (List ℕ)) × HonoursAll (labels_of bytes) sizes corners × FitsOutline (length (labels_of bytes)) sizes corners outline)
  m108_slack_tells outline x y e = told (subst (SlackSays bytes sizes outline) e (demand1_slack_cause bytes sizes outline))
    where
      told : SlackSays bytes sizes outline (slack_each_way x y) → (NotNegative x × NotNegative y)
          ↔ ((corners : EachWay (List ℕ)) × HonoursAll (labels_of bytes) sizes corners × FitsOutline (length (labels_of bytes)) sizes corners outline)
      told (slack_is all p q) = let (to, from) = m108_slack_iff_fits (labels_of bytes) sizes outline in (
        λ (a, b). to (λ way. elim way as (λ w. NotNegative (slack_of (labels_of bytes) w (sizes w) (outline w))) [ across ↦ subst NotNegative p a | upward ↦ subst NotNegative q b ]),
        λ fits. (subst NotNegative (sym p) (from fits across), subst NotNegative (sym q) (from fits upward)),
      )

  module _ (corners : EachWay (List ℕ)) where
    -- each room i "ends, as a whole-number sum, no later than every room right of it or above it begins in that direction"
    abbrev pub EndsInTime : Type 0
    EndsInTime = (i j : ℕ) → 1 ≤ i → i ≤ kind_of bytes → 1 ≤ j → j ≤ kind_of bytes → i ≢ j
        → (side_of (label_at (labels_of bytes)) j i ≡ Right → end_of sizes corners across i ≤ start_of corners across j)
        × (side_of (label_at (labels_of bytes)) j i ≡ Above → end_of sizes corners upward i ≤ start_of corners upward j)

    -- a placing is accepted exactly if so, where neither the record nor a list is refused
    pub m108_accepted_iff_ends_in_time : (placing_answer bytes sizes corners ≡ Ok tt) ↔ (Sized bytes (OtherLists bytes sizes corners) sizes × EndsInTime)
    m108_accepted_iff_ends_in_time = (λ e. to (subst (PlacingSays bytes sizes corners) e (demand1_placing_cause bytes sizes corners)), from)
      where
        g : ℕ → ℕ
        g = label_at (labels_of bytes)

        to : PlacingSays bytes sizes corners (Ok tt) → Sized bytes (OtherLists bytes sizes corners) sizes × EndsInTime
        to (accepted all honours) = (
          all,
          λ i j ai bi aj bj differ. let list = readable_only_list bytes all.readable in
              let other : g i ≢ g j = λ e. differ (list.baxter.each_once.once i j ai (omega (arith, list.size)) aj (omega (arith, list.size)) e) in (
                λ right. honours across i ai (omega (arith, list.size)) j aj (omega (arith, list.size)) ((left_iff_other_right g i j differ other).1 right),
                λ above. honours upward i ai (omega (arith, list.size)) j aj (omega (arith, list.size)) ((below_iff_other_above g i j differ other).1 above),
              ),
        )

        from : Sized bytes (OtherLists bytes sizes corners) sizes × EndsInTime → placing_answer bytes sizes corners ≡ Ok tt
        from (all, late) = sym (demand1_placing_answer bytes sizes corners (accepted all honours))
          where
            list : OnlyList (triple_in (body_of bytes)) (kind_of bytes) (labels_of bytes)
            list = readable_only_list bytes all.readable

            honours : HonoursAll (labels_of bytes) sizes corners
            honours way i ai bi j aj bj p =
                let differ : i ≢ j = λ e. omega (arith, before→earlier g way p) in
                let other : g i ≢ g j = λ e. differ (list.baxter.each_once.once i j ai (omega (arith, list.size)) aj (omega (arith, list.size)) e) in
                go way p (late i j ai (omega (arith, list.size)) aj (omega (arith, list.size)) differ) other differ
              where
                go : (way : Direction) → Before g way i j
                    → (side_of g j i ≡ Right → end_of sizes corners across i ≤ start_of corners across j)
                    × (side_of g j i ≡ Above → end_of sizes corners upward i ≤ start_of corners upward j)
                    → g i ≢ g j → i ≢ j → end_of sizes corners way i ≤ start_of corners way j
                go across p (a, u) other differ = a ((left_iff_other_right g i j differ other).0 p)
                go upward p (a, u) other differ = u ((below_iff_other_above g i j differ other).0 p)

-- ---- of every floorplan
module _ (rooms : List Room) (accepted-rooms : AcceptedRooms rooms) (sizes corners : EachWay (List ℕ)) where
  -- a placing honours the relations of a floorplan's record exactly if it honours those of its rooms: each room that is left of another
  -- one, or below it, ends no later than that begins
  pub m108_honours_relations_of_rooms : HonoursAll (labels_of (record_of_rooms rooms)) sizes corners ↔ RoomsHonour rooms sizes corners
  m108_honours_relations_of_rooms =
      subst (λ (labels : List ℕ). HonoursAll labels sizes corners ↔ RoomsHonour rooms sizes corners) (label_list_back rooms accepted-rooms)
      (honours_iff_rooms_honour rooms accepted-rooms sizes corners)

  -- and a floorplan's own corners and sizes are such a placing
  pub m108_own_corners_honour : OwnCorners rooms sizes corners → HonoursAll (labels_of (record_of_rooms rooms)) sizes corners
  m108_own_corners_honour own = m108_honours_relations_of_rooms.1 (own_corners_honour rooms accepted-rooms sizes corners own)
