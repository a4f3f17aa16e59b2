-- M-112: the numbers of plans are those of documents 000 and 003; they count accepted records, by demand 2 Baxter permutations, and by
-- demand 3 floorplans up to equivalence.
use Rattle.std.specs.Prelude.{List, ◌≡◌, ℕ, suc, ◌+◌, ◌≤◌, ◌<◌, get_or}
use Rattle.std.proofs.Common.{inl, inr, sym, subst, ◌∙◌, arith}
use Rattle.finite.specs.Decide.{le_or_lt}
use Rattle.finite.specs.HowMany.{HowMany, HowManyClasses, one_number}
use Rattle.finite.specs.Numbered.{as_well}
use Rattle.rooms.specs.Equivalent.{Equivalent}
use Rattle.record.specs.Rises.{rises_of}
use Rattle.counting.specs.Counted.{AcceptedRecord, AcceptedWithRises}
use Rattle.counting.proofs.Figures.{count_how_many, total_how_many}
use Rattle.counting.proofs.Mirror.{count_mirrored}
use Rattle.baxter.specs.Formula.{CountByFormula, BaxterNumber, totals}
use Rattle.baxter.specs.Lists.{BaxterList, BaxterWithRises, PlanOfRooms, PlanWithRises}
use Rattle.baxter.proofs.Computed.{count_by_formula, total_baxter, total_in_table}
use Rattle.baxter.specs.Paired.{rises_of_record, lists_paired, classes_paired}

-- ---- by the formulas
-- "The totals must equal the Baxter numbers by the formula in source document 000"
pub m112_total_is_baxter_number : (n : ℕ) → 1 ≤ n → n ≤ 17 → (b : ℕ) → HowMany (AcceptedRecord n) b → BaxterNumber n b
m112_total_is_baxter_number n some few b many =
    subst (BaxterNumber n) (one_number (total_how_many n (omega arith)) many) (total_baxter n some few)

-- "the counts by rises are those of 000's formula by parameter": of Corollary 4.2, and 0 where there are as many rises as rooms
pub m112_count_by_formula : (n : ℕ) → 1 ≤ n → n ≤ 17 → (r c : ℕ) → HowMany (AcceptedWithRises n r) c → CountByFormula n r c
m112_count_by_formula n some few r c many =
    subst (CountByFormula n r) (one_number (count_how_many n r (omega arith)) many) (count_by_formula n r some few)

-- the totals for 1 to 17 rooms, written out
pub m112_table_of_totals : (i : ℕ) → i < 17 → HowMany (AcceptedRecord (suc i)) (get_or totals i 0)
m112_table_of_totals i h = subst (HowMany (AcceptedRecord (suc i))) (total_in_table i h) (total_how_many (suc i) (omega arith))

-- ---- the mirror
-- no record is of more than 255 rooms
few_rooms : (n : ℕ) {A : Type 0} → 255 < n → (bytes : List ℕ) → AcceptedRecord n bytes → A
few_rooms n h bytes a = absurd (omega (arith, a.all_bytes 0, a.rooms))

-- as many records have r rises as have r falls
pub m112_count_mirrored : (n r s : ℕ) → r + s + 1 ≡ n → (c : ℕ) → HowMany (AcceptedWithRises n r) c → HowMany (AcceptedWithRises n s) c
m112_count_mirrored n r s e c many = elim (le_or_lt n 255) [
  | inl h ↦
      let same = one_number many (count_how_many n r h) ∙ count_mirrored n r s e in
      subst (HowMany (AcceptedWithRises n s)) (sym same) (count_how_many n s h)
  | inr h ↦ as_well (λ bytes a. few_rooms n h bytes a.0) (λ bytes a. few_rooms n h bytes a.0) many
]

-- ---- what else is counted
-- all accepted records, as those with a property that all have
with_unit : (n c : ℕ) → HowMany (AcceptedRecord n) c → HowMany (λ bytes. AcceptedRecord n bytes × Unit {0}) c
with_unit n c many = as_well (λ bytes a. (a, tt)) (λ bytes h. h.0) many

-- by demand 2: as many Baxter permutations of n labels have r rises as accepted records of n rooms do
pub m112_baxter_lists_by_rises : (n r c : ℕ) → 1 ≤ n → n ≤ 255 → HowMany (AcceptedWithRises n r) c → HowMany (BaxterWithRises n r) c
m112_baxter_lists_by_rises n r c some few many =
    as_well (λ labels (b, e). (b, rises_of_record labels b.0 ∙ e)) (λ labels (b, e). (b, sym (rises_of_record labels b.0) ∙ e))
    (lists_paired n c (λ bytes. rises_of bytes ≡ r) many some few)

-- and there are as many Baxter permutations of n labels as accepted records of n rooms
pub m112_baxter_lists : (n c : ℕ) → 1 ≤ n → n ≤ 255 → HowMany (AcceptedRecord n) c → HowMany (BaxterList n) c
m112_baxter_lists n c some few many =
    as_well (λ labels h. h.0) (λ labels b. (b, tt)) (lists_paired n c (λ bytes. Unit) (with_unit n c many) some few)

-- by demand 3: as many floorplans of n rooms, where equivalent ones count once, have a record with r rises as there are such records
pub m112_floorplans_by_rises : (n r c : ℕ) → HowMany (AcceptedWithRises n r) c → HowManyClasses (PlanWithRises n r) Equivalent c
m112_floorplans_by_rises n r c many = classes_paired n c (λ bytes. rises_of bytes ≡ r) many

-- and there are as many floorplans of n rooms, where equivalent ones count once, as accepted records of n rooms
pub m112_floorplans : (n c : ℕ) → HowMany (AcceptedRecord n) c → HowManyClasses (PlanOfRooms n) Equivalent c
m112_floorplans n c many =
    let classes = classes_paired n c (λ bytes. Unit) (with_unit n c many) in record {
      thing = classes.thing;
      has = λ i h. (classes.has i h).0;
      each = λ rooms plan. classes.each rooms (plan, tt);
      once = classes.once;
    }
