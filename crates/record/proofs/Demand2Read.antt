-- Demand 2 for records: "a record gives the only Baxter permutation that has it".
use Rattle.std.specs.Prelude.{◌≡◌, refl, Bool, true, false, ◌≢◌, ℕ, zero, suc, ◌+◌, ◌-◌, ◌*◌, ◌≤◌, ◌<◌, length}
use Rattle.std.proofs.Math.Path.{sym, ap, subst}
use Rattle.std.proofs.Common.{◌∙◌, le-ltb, length-drop, get_or-drop}
use Rattle.std.proofs.Math.Logic.{inl, inr}
use mathlib.Core.List.{List, [], ◌∷◌}
use native.Mathlib.Omega.{arith}
use Rattle.finite.specs.Search.{Some}
use Rattle.bits.specs.Bit.{bit_at, Bytes, pack}
use Rattle.bits.proofs.Pack.{bit_at_pack}
use Rattle.record.specs.Labels.{label_at}
use Rattle.record.specs.Barred.{Baxter}
use Rattle.record.specs.Triple.{Triple, triple_at}
use Rattle.record.specs.Walk.{Counts, missing, counts, step, and_then, walk, Accepted}
use Rattle.record.specs.Record.{body_length, body_bit, triple_in, record_of}
use Rattle.record.specs.Read.{kind_of, body_of, end_of, Missing, Several, labels_of}
use Rattle.record.specs.Body.{body_of_triples}
use Rattle.record.specs.Checked.{Readable}
use Rattle.record.proofs.Demand2.{OnlyList, demand2_record_accepted, demand2_one_list, record_triple, record_length}

-- the walk of a record that is read ends with one run
pub readable_accepted : (bytes : List ℕ) → Readable bytes → Accepted (triple_in (body_of bytes)) (kind_of bytes)
readable_accepted bytes r = go (end_of bytes) r.runs r.one_run
  where
    go : (end : Counts) → ¬ Missing end → ¬ Several end → end ≡ counts 0 0
    go missing a b = absurd (a tt)
    go (counts p q) a b =
        let e : p ≡ 0 = omega arith in
        let d : q ≡ 0 = omega arith in
        (λ i. counts (e i) (d i))

-- the labels of a record that is read: the only Baxter list that has its triples, and so the only one that has the record
pub readable_only_list : (bytes : List ℕ) → Readable bytes → OnlyList (triple_in (body_of bytes)) (kind_of bytes) (labels_of bytes)
unfolding labels_of
readable_only_list bytes r =
    let some : kind_of bytes ≢ 0 = λ e. r.kind (inr e) in
    demand2_one_list (triple_in (body_of bytes)) (kind_of bytes) (omega arith) (readable_accepted bytes r)

pub record_of→labels_of : (bytes : List ℕ) → Readable bytes → (labels : List ℕ) → Baxter labels → record_of labels ≡ bytes
    → labels ≡ labels_of bytes
unfolding record_of
record_of→labels_of bytes r labels b e =
    (readable_only_list bytes r).only labels (ap kind_of e) b (λ i l h. record_triple labels i l h ∙ ap (λ (bs : List ℕ). triple_in (body_of bs) i) e)

-- what a record that is read gives: a Baxter list of as many labels as its kind says, whose record it is, and no other list's
pub record Reads (bytes labels : List ℕ) : Type 0 where
  pub size : length labels ≡ kind_of bytes
  pub baxter : Baxter labels
  pub back : record_of labels ≡ bytes
  pub only : (other : List ℕ) → Baxter other → record_of other ≡ bytes → other ≡ labels

module _ (bytes : List ℕ) (all : Bytes bytes) (r : Readable bytes) where
  abbrev n : ℕ
  n = kind_of bytes

  some : 1 ≤ n
  some = let z : kind_of bytes ≢ 0 = λ e. r.kind (inr e) in omega arith

  one : OnlyList (triple_in (body_of bytes)) n (labels_of bytes)
  one = readable_only_list bytes r

  long : length (body_of bytes) ≡ body_length n
  long =
      let a : ¬ (length (body_of bytes) < body_length (kind_of bytes)) = r.long in
      let b : ¬ (body_length (kind_of bytes) < length (body_of bytes)) = r.short in
      omega arith

  body_bytes : Bytes (body_of bytes)
  body_bytes i = subst (λ (x : ℕ). x < 256) (sym (get_or-drop 1 bytes i 0)) (all (1 + i))

  no_spare : (i : ℕ) → 3 * n - 3 ≤ i → i < 8 * body_length n → bit_at (body_of bytes) i ≡ false
  no_spare i a b = go (bit_at (body_of bytes) i) refl
    where
      go : (x : Bool) → bit_at (body_of bytes) i ≡ x → x ≡ false
      go true e = absurd (r.spare (i, a, omega (arith, long), e))
      go false e = refl

  body_back : pack (body_bit (triple_at (label_at (labels_of bytes))) n) (body_length n) ≡ body_of bytes
  body_back =
      sym (subst (λ (m : ℕ). body_of bytes ≡ pack (body_bit triples n) m) long
      (body_of_triples triples n (body_of bytes) body_bytes (λ i a b. sym (one.has i a (omega (arith, one.size))))
      (λ b a h. no_spare b a (omega (arith, long)))))
    where
      triples : ℕ → Triple
      triples = triple_at (label_at (labels_of bytes))

  split : bytes ≡ kind_of bytes ∷ body_of bytes
  split = go bytes some
    where
      go : (bs : List ℕ) → 1 ≤ kind_of bs → bs ≡ kind_of bs ∷ body_of bs
      go [] h = absurd (omega arith)
      go (b ∷ bs) h = refl

  -- "a record gives the only Baxter permutation that has it"
  pub demand2_read_only_list : Reads bytes (labels_of bytes)
  unfolding record_of
  demand2_read_only_list = record { size = one.size; baxter = one.baxter; back = back; only = record_of→labels_of bytes r }
    where
      back : record_of (labels_of bytes) ≡ bytes
      back =
          (λ i. one.size i ∷ pack (body_bit (triple_at (label_at (labels_of bytes))) (one.size i)) (body_length (one.size i)))
          ∙ ap (λ (body : List ℕ). n ∷ body) body_back ∙ sym split

-- ---- the record of a Baxter list of at least one label is read
-- the walk of the same triples
pub walk_same : (s t : ℕ → Triple) (k : ℕ) → ((i : ℕ) → 2 ≤ i → i ≤ suc k → s i ≡ t i) → walk s k ≡ walk t k
unfolding walk
walk_same s t zero h = refl
walk_same s t (suc k) h = λ i. and_then (walk_same s t k (λ j a b. h j a (omega arith)) i) (step (h (suc (suc k)) (omega arith) (omega arith) i))

module _ (labels : List ℕ) (some : 1 ≤ length labels) (b : Baxter labels) where
  size_back : length (body_of (record_of labels)) ≡ body_length (length labels)
  size_back = omega (arith, record_length labels, length-drop 1 (record_of labels))

  pub demand2_written_read : Readable (record_of labels)
  unfolding record_of body_bit
  demand2_written_read = record {
    kind = λ h. elim h [ inl z ↦ omega arith | inr z ↦ omega arith ];
    long = λ h. omega (arith, size_back);
    short = λ h. omega (arith, size_back);
    spare = spare;
    runs = λ h. subst Missing walked h;
    one_run = λ h. omega (arith, subst Several walked h);
  }
    where
      walked : end_of (record_of labels) ≡ counts 0 0
      walked =
          walk_same (triple_in (body_of (record_of labels))) (triple_at (label_at labels)) (length labels - 1) (λ i l h. sym (record_triple labels i l (omega arith))) ∙ demand2_record_accepted labels some b

      spare : ¬ Some (λ i. bit_at (body_of (record_of labels)) i ≡ true) (3 * length labels - 3) (8 * length (body_of (record_of labels)))
      spare (i, a, c, e) =
          clash (bit_at_pack (body_bit (triple_at (label_at labels)) (length labels)) (body_length (length labels)) i (omega (arith, size_back)) ∙ past) e
        where
          past : body_bit (triple_at (label_at labels)) (length labels) i ≡ false
          past = rw (le-ltb i (3 * length labels - 3) a)

          clash : {x : Bool} → x ≡ false → x ≡ true → ⊥
          clash p q = let z : ◌≡◌ {A = ℕ} 0 1 = cc in omega arith
