-- What the call answers for a record, and what the tree slice then holds. "Answers: 19 for a plan that is not slicing, after 13 and
-- before 15."
use Rattle.std.specs.Prelude.{List, ◌++◌, ◌≡◌, ℕ, ◌≤◌, length, drop, Result, Ok, Err}
use Rattle.std.proofs.Math.Logic.{ite}
use Rattle.std.proofs.Math.Decide.{dec_lt}
use Rattle.record.specs.Labels.{label_at}
use Rattle.record.specs.Read.{kind_of, labels_of}
use Rattle.record.specs.Checked.{checked}
use Rattle.record.specs.declared.Refusal.{Refusal}
use Rattle.record.specs.declared.Refusal.TheVariants as refusal
use Rattle.slicing.specs.Slicing.{Shaped, dec_shaped}
use Rattle.slicing.specs.Tree.{bytes_of}
use Rattle.slicing.specs.Cutting.{cutting_tree}

-- "a plan that is not slicing": that of a record
abbrev pub NotSlicing : List ℕ → Type 0
NotSlicing bytes = Shaped (label_at (labels_of bytes)) (kind_of bytes)

abbrev pub dec_not_slicing : (bytes : List ℕ) → Dec (NotSlicing bytes)
dec_not_slicing bytes = dec_shaped (label_at (labels_of bytes)) (kind_of bytes)

-- the tree of a record, "from the root down"
abbrev pub tree_of : List ℕ → List ℕ
tree_of bytes = bytes_of (cutting_tree (label_at (labels_of bytes)) (kind_of bytes))

-- the answer for a record and a tree slice of so many bytes: "return the tree's length in bytes"
abbrev pub tree_answer : List ℕ → (capacity : ℕ) → Result ℕ Refusal
tree_answer bytes capacity =
    checked Err bytes
    (ite (dec_not_slicing bytes) (Err refusal.NotSlicing)
    (ite (dec_lt capacity (length (tree_of bytes))) (Err refusal.ShortOutput)
    (Ok (length (tree_of bytes)))))

-- the tree slice after an answer, where it held `before`: the tree from the front and the rest untouched, or all as it was
abbrev pub tree_after : Result ℕ Refusal → (bytes before : List ℕ) → List ℕ
tree_after (Ok size) bytes before = tree_of bytes ++ drop size before
tree_after (Err refusal) bytes before = before

-- what the call answers for a record and a tree slice that held `before`, and what the slice holds then
pub record TreeIn (bytes before : List ℕ) (answer : Result ℕ Refusal) (after : List ℕ) : Type 0 where
  pub answered : answer ≡ tree_answer bytes (length before)
  pub left : after ≡ tree_after answer bytes before

-- a tree has at most 763 bytes: one for each of 255 leaves, and two for each of 254 nodes
abbrev pub Few : Result ℕ Refusal → Type 0
Few (Ok size) = size ≤ 763
Few (Err refusal) = Unit
