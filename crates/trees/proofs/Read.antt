-- The plan of a record that is read: its labels are those of a plan, and what is written of them is the record's tree.
use mathlib.Core.List.{List}
use mathlib.Core.Path.{◌≡◌, sym, ap, subst, ◌∙◌}
use Rattle.std.specs.Prelude.{Option, Ok, Err}
use Prim.Native.Nat.{ℕ, suc, ◌≤◌, ◌<◌}
use native.Mathlib.Omega.{arith}
use lib.ListN.{length, take, drop}
use lib.Seq.{take_at}
use Rattle.finite.specs.Fill.{Filling}
use Rattle.record.specs.Labels.{label_at, EachOnce}
use Rattle.record.specs.Decode.{label_of}
use Rattle.record.specs.Read.{kind_of, labels_of}
use Rattle.record.specs.Checked.{Readable}
use Rattle.record.proofs.Demand2.{OnlyList}
use Rattle.record.proofs.Demand2Read.{readable_only_list}
use Rattle.record.specs.declared.Refusal.TheVariants as refusal
use Rattle.reading.specs.Answer.{triples_of}
use Rattle.answers.specs.Drawn.{labels_front}
use Rattle.slicing.specs.Answer.{NotSlicing, tree_answer}
use Rattle.slicing.specs.Demand1.{not_slicing, short, wrote, demand1_tree_answer}
use Rattle.trees.specs.Written.{Plan, TreeWritten, Writes}
use Rattle.trees.specs.declared.TreesPut.{TreesPut}

module _ {bytes : List ℕ} {n : ℕ} (kind : n ≡ kind_of bytes) (readable : Readable bytes) where
  one : OnlyList (triples_of bytes) (kind_of bytes) (labels_of bytes)
  one = readable_only_list bytes readable

  -- the labels that were read, of which there are n
  module _ (some : 1 ≤ n) (few : n ≤ 255) {before now : List ℕ} (long : n ≤ length before)
      (filled : Filling (λ i. label_of (triples_of bytes) n (suc i)) 0 n before now) where
    labels_are : take n now ≡ labels_of bytes
    labels_are =
        ap (take n) (labels_front kind readable before long filled) ∙ take_at (labels_of bytes) (drop n before) n (one.size ∙ sym kind)

    pub as_many : length (take n now) ≡ n
    as_many = ap length labels_are ∙ one.size ∙ sym kind

    pub plan_read : Plan (take n now)
    plan_read = record {
      once = subst (λ (l : List ℕ). EachOnce (label_at l) (length l)) (sym labels_are) one.baxter.each_once;
      some = omega (arith, as_many);
      few = omega (arith, as_many);
    }

    -- what is written of them
    pub writes_plan : (r : Option TreesPut) (after : List ℕ) → Writes r (label_at (take n now)) (length (take n now)) after
        → Writes r (label_at (labels_of bytes)) (kind_of bytes) after
    writes_plan r after h =
        subst (λ (m : ℕ). Writes r (label_at (labels_of bytes)) m after) one.size
        (subst (λ (l : List ℕ). Writes r (label_at l) (length l) after) labels_are h)

  -- ---- the answers
  module _ (capacity : ℕ) where
    pub not_slicing_answer : NotSlicing bytes → Err refusal.NotSlicing ≡ tree_answer bytes capacity
    not_slicing_answer h = demand1_tree_answer bytes capacity (not_slicing readable h)

    module _ {size : ℕ} {after : List ℕ} (w : TreeWritten (label_at (labels_of bytes)) (kind_of bytes) size after) where
      pub short_answer : capacity < size → Err refusal.ShortOutput ≡ tree_answer bytes capacity
      short_answer h = demand1_tree_answer bytes capacity (short readable w.slicing (omega (arith, w.size)))

      pub wrote_answer : size ≤ capacity → Ok size ≡ tree_answer bytes capacity
      wrote_answer h = ap Ok w.size ∙ demand1_tree_answer bytes capacity (wrote readable w.slicing (λ l. omega (arith, w.size)))
