-- "Each figure is proved to be the number of accepted records, by one argument over n": an accepted record of n rooms is a sequence of
-- n − 1 triples that leads from no runs to no runs, and the recursion counts those.
use Rattle.std.specs.Prelude.{List, [], ◌≢◌, ◌≡◌, ℕ, zero, suc, ◌-◌, ◌≤◌, ◌<◌}
use Rattle.std.proofs.Common.{inr, ◌∙◌, arith}
use Rattle.std.proofs.Math.Path.{sym, ap}
use Rattle.finite.specs.HowMany.{HowMany}
use Rattle.finite.specs.Numbered.{none_has, as_many, as_well, by_number}
use Rattle.finite.specs.Sum.{sum}
use Rattle.finite.specs.Table.{length_table, get_d_table, table_same}
use Rattle.record.specs.Triple.{Triple}
use Rattle.record.specs.Walk.{walk, counts}
use Rattle.record.specs.Record.{triple_in, record_of}
use Rattle.record.specs.Read.{kind_of, body_of, labels_of}
use Rattle.record.specs.Rises.{rises, rises_of, rises_and_falls}
use Rattle.record.specs.Decode.{decode}
use Rattle.record.proofs.Demand2.{OnlyList, HasTriples, demand2_one_list, record_triple}
use Rattle.record.proofs.Demand2Read.{readable_accepted, demand2_read_only_list}
use Rattle.counting.specs.Counted.{AcceptedRecord, AcceptedWithRises}
use Rattle.counting.specs.Accepted.{record_accepted}
use Rattle.counting.specs.Ways.{plan_count, plan_total}
use Rattle.counting.proofs.Sequences.{onward, rises_in, Leads, ways_how_many}
use Rattle.counting.proofs.Positions.{listed, placed, listed_placed, walk_onward, rises_listed}

-- the record of k + 1 rooms that has these triples
record_with : (k : ℕ) → List Triple → List ℕ
record_with k ts = record_of (decode (placed ts) (suc k))

-- the triples of a record of k + 1 rooms
abbrev triples_of : (k : ℕ) → List ℕ → List Triple
triples_of k bytes = listed (triple_in (body_of bytes)) k

rises_triples : (k : ℕ) (bytes : List ℕ) → kind_of bytes ≡ suc k → rises_of bytes ≡ rises_in (triples_of k bytes)
rises_triples k bytes e = ap (rises (triple_in (body_of bytes))) e ∙ rises_listed (triple_in (body_of bytes)) k

module _ (k r : ℕ) (few : suc k ≤ 255) where
  -- ---- from triples to a record
  module _ (ts : List Triple) (l : Leads k 0 0 r ts) where
    same_triples : listed (placed ts) k ≡ ts
    same_triples = listed_placed ts k l.size

    one : OnlyList (placed ts) (suc k) (decode (placed ts) (suc k))
    one = demand2_one_list (placed ts) (suc k) (omega arith)
        (ap (walk (placed ts)) (omega arith) ∙ walk_onward (placed ts) k ∙ ap (λ (us : List Triple). onward us (counts 0 0)) same_triples ∙ l.ends)

    rooms : kind_of (record_with k ts) ≡ suc k
    unfolding record_with record_of
    rooms = one.size

    has_triples : triples_of k (record_with k ts) ≡ ts
    unfolding record_with
    has_triples =
        table_same (λ i. triple_in (body_of (record_with k ts)) (suc (suc i))) (λ i. placed ts (suc (suc i))) k
        (λ i h. sym (record_triple (decode (placed ts) (suc k)) (suc (suc i)) (omega arith) (omega (arith, one.size))) ∙ one.has (suc (suc i)) (omega arith) (omega (arith, one.size))) ∙ same_triples

    accepted : AcceptedWithRises (suc k) r (record_with k ts)
    unfolding record_with
    accepted = (
      record_accepted (suc k) (omega arith) few (decode (placed ts) (suc k)) one.baxter one.size,
      rises_triples k (record_with k ts) rooms ∙ ap rises_in has_triples ∙ l.rises,
    )

  injective : (ts us : List Triple) → Leads k 0 0 r ts → Leads k 0 0 r us → record_with k ts ≡ record_with k us → ts ≡ us
  injective ts us l m e = sym (has_triples ts l) ∙ ap (triples_of k) e ∙ has_triples us m

  -- ---- from a record to its triples
  module _ (bytes : List ℕ) (a : AcceptedWithRises (suc k) r bytes) where
    walked : walk (triple_in (body_of bytes)) (suc k - 1) ≡ counts 0 0
    walked = ap (λ (n : ℕ). walk (triple_in (body_of bytes)) (n - 1)) (sym a.0.rooms) ∙ readable_accepted bytes a.0.read

    leads : Leads k 0 0 r (triples_of k bytes)
    leads = record {
      size = length_table (λ i. triple_in (body_of bytes) (suc (suc i))) k;
      ends = sym (walk_onward (triple_in (body_of bytes)) k) ∙ ap (walk (triple_in (body_of bytes))) (omega arith) ∙ walked;
      rises = sym (rises_triples k bytes a.0.rooms) ∙ a.1;
    }

    same_labels : decode (placed (triples_of k bytes)) (suc k) ≡ labels_of bytes
    unfolding labels_of
    same_labels =
        (demand2_one_list (triple_in (body_of bytes)) (suc k) (omega arith) walked).only (decode (placed (triples_of k bytes)) (suc k)) mine.size mine.baxter has
        ∙ ap (decode (triple_in (body_of bytes))) (sym a.0.rooms)
      where
        mine : OnlyList (placed (triples_of k bytes)) (suc k) (decode (placed (triples_of k bytes)) (suc k))
        mine = one (triples_of k bytes) leads

        has : HasTriples (decode (placed (triples_of k bytes)) (suc k)) (triple_in (body_of bytes))
        has zero l h = absurd (omega arith)
        has (suc zero) l h = absurd (omega arith)
        has (suc (suc i)) l h = mine.has (suc (suc i)) l h ∙ get_d_table (λ i. triple_in (body_of bytes) (suc (suc i))) k i _ (omega (arith, mine.size))

    back : record_with k (triples_of k bytes) ≡ bytes
    unfolding record_with
    back = ap record_of same_labels ∙ (demand2_read_only_list bytes a.0.all_bytes a.0.read).back

-- ---- the figures
-- of no rooms there is no record
no_record : (bytes : List ℕ) → ¬ AcceptedRecord 0 bytes
no_record bytes a = a.read.kind (inr a.rooms)

pub count_how_many : (n r : ℕ) → n ≤ 255 → HowMany (AcceptedWithRises n r) (plan_count n r)
unfolding plan_count
count_how_many zero r few = none_has [] (λ bytes a. no_record bytes a.0)
count_how_many (suc k) r few = as_many (record_with k) (accepted k r few) (injective k r few) (λ bytes a. (triples_of k bytes, leads k r few bytes a, back k r few bytes a)) (ways_how_many k 0 0 r)

-- a record of n rooms has fewer than n rises
few_rises : (n : ℕ) (bytes : List ℕ) → AcceptedRecord n bytes → rises_of bytes < n
few_rises n bytes a =
    let some : kind_of bytes ≢ 0 = λ e. a.read.kind (inr e) in
    omega (arith, a.rooms, rises_and_falls (triple_in (body_of bytes)) (kind_of bytes) (omega arith))

pub total_sum : (n : ℕ) (count : ℕ → ℕ) → ((r : ℕ) → r < n → HowMany (AcceptedWithRises n r) (count r)) → HowMany (AcceptedRecord n) (sum count 0 n)
total_sum n count many = as_well (λ bytes h. h.0) (λ bytes a. (a, few_rises n bytes a)) (by_number (AcceptedRecord n) [] rises_of count n many)

pub total_how_many : (n : ℕ) → n ≤ 255 → HowMany (AcceptedRecord n) (plan_total n)
unfolding plan_total
total_how_many n few = total_sum n (plan_count n) (λ r h. count_how_many n r few)
