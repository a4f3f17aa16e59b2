-- M-103's promises, each stated of a plan's labels, f at positions 1 to n; then of room lists and the drawing; then of records and of
-- what calls leave.
use Rattle.std.specs.Prelude.{List, [], ◌++◌, ◌≢◌, ◌↔◌, ◌≡◌, refl, ℕ, suc, ◌+◌, ◌*◌, ◌≤◌, length, take, drop, Result, Ok, Err}
use Rattle.std.proofs.Common.{inr, sym, ap, subst, subst₂, ◌∙◌, arith, ext_get_or}
use Rattle.std.proofs.Math.Seq.{take-append_seam}
use Rattle.finite.specs.Table.{table, table_same}
use Rattle.bits.specs.Bit.{Bytes}
use Rattle.record.specs.Labels.{label_at, EachOnce}
use Rattle.record.specs.Barred.{Baxter}
use Rattle.record.specs.Read.{kind_of, labels_of}
use Rattle.record.specs.Record.{record_of}
use Rattle.record.specs.Checked.{Readable}
use Rattle.record.specs.declared.Refusal.{Refusal}
use Rattle.record.proofs.Demand2Read.{Reads, demand2_read_only_list}
use Rattle.drawing.specs.declared.Room.{Room}
use Rattle.rooms.specs.Causes.{AcceptedRooms}
use Rattle.rooms.specs.LabelList.{label_list, record_of_rooms}
use Rattle.rooms.proofs.Demand3.{BaxterOf, rooms_give_baxter, label_list_back, kind_of_rooms}
use Rattle.slicing.specs.Slicing.{Slicing}
use Rattle.slicing.specs.Tree.{Tree, TreeBy, CuttingTree, bytes_of}
use Rattle.slicing.specs.Cutting.{cutting_tree}
use Rattle.slicing.specs.OfRooms.{RoomsStand, DrawnStand, LineBetween}
use Rattle.slicing.specs.Answer.{NotSlicing, tree_of, TreeIn}
use Rattle.slicing.specs.Demand1.{TreeSays, refused_record, not_slicing, short, wrote, demand1_tree_cause}
use Rattle.slicing.proofs.OnlyTree.{only_tree}
use Rattle.slicing.proofs.TreeSlicing.{tree_slicing}
use Rattle.slicing.proofs.HasTree.{cutting_tree_lem}
use Rattle.slicing.proofs.Size.{leaves, nodes, positions, Levels, leaves_are_rooms, positions_in_order, bytes_are, bytes_of_tree, levels_alternate}
use Rattle.slicing.proofs.SameTree.{same_tree→same_labels, bytes_tell}
use Rattle.slicing.specs.TreeMap.{tree_map, tree_iff}
use Rattle.slicing.proofs.TreeOfRooms.{rooms_stand_iff_in_order, drawn_stand_iff_in_order, line_between_rooms}

-- ---- a plan
module _ (f : ℕ → ℕ) (n : ℕ) where
  -- a plan has one cutting tree at most
  pub m103_one_tree : (one other : Tree) → CuttingTree f n one → CuttingTree f n other → one ≡ other
  m103_one_tree one other is is-other = only_tree f one other 1 (suc n) is is-other

  module _ (some : 1 ≤ n) (once : EachOnce f n) where
    -- "A plan is slicing exactly if no four of its labels, in order of position, are shaped like 2413 or 3142": just then it has one
    pub m103_slicing_iff_tree : Slicing f n ↔ ((tree : Tree) × CuttingTree f n tree)
    m103_slicing_iff_tree =
        (λ slicing. (cutting_tree f n, cutting_tree_lem f n some once slicing), λ t. tree_slicing f t.0 1 (suc n) t.1)

    -- which is what cutting it gives
    pub m103_tree_by_cutting : (tree : Tree) → CuttingTree f n tree → tree ≡ cutting_tree f n
    m103_tree_by_cutting tree is =
        m103_one_tree tree (cutting_tree f n) is (cutting_tree_lem f n some once (m103_slicing_iff_tree.1 (tree, is)))

  module _ (tree : Tree) (is : CuttingTree f n tree) where
    -- "levels alternate", and "the number of children, 2 to 255", is at most that of the rooms
    pub m103_levels_alternate : Levels n tree
    m103_levels_alternate = levels_alternate f n tree 1 (suc n) (omega arith) is

    leaves_are : leaves tree ≡ n
    leaves_are = omega (arith, leaves_are_rooms f tree 1 (suc n) is)

    -- the leaves are the rooms at positions 1 to n, in this order
    pub m103_leaves_in_order : positions f tree 1 (suc n) is ≡ table suc n
    m103_leaves_in_order =
        positions_in_order f tree 1 (suc n) is ∙ ap (table (λ i. 1 + i)) leaves_are ∙ table_same (λ i. 1 + i) suc n (λ i h. omega arith)

    -- a byte for each room and two for each node, and so 3n − 2 at most
    pub m103_tree_length : length (bytes_of tree) ≡ n + 2 * nodes tree
    m103_tree_length = omega (arith, bytes_are tree, leaves_are)

    pub m103_tree_at_most : length (bytes_of tree) + 2 ≤ 3 * n
    m103_tree_at_most = omega (arith, bytes_of_tree f tree 1 (suc n) is)

    -- "by vertical lines", "by horizontal lines": in the grid drawing a line crosses no room of the part that it cuts
    pub m103_lines_of_drawing : TreeBy (LineBetween f n) tree 1 (suc n)
    m103_lines_of_drawing = tree_map 1 (suc n) (line_between_rooms f n) tree 1 (suc n) (omega arith) (omega arith) is

-- ---- the floorplan: "children stand left to right or bottom to top"
-- in every accepted room list the tree of its labels is the one of its rooms: those of a child stand left of those of the next, or below
pub m103_tree_of_rooms : (rooms : List Room) → AcceptedRooms rooms → (tree : Tree)
    → TreeBy (RoomsStand rooms) tree 1 (suc (length rooms)) ↔ CuttingTree (label_at (label_list rooms)) (length rooms) tree
m103_tree_of_rooms rooms accepted tree =
    tree_iff (length rooms) (λ cut m i j a b c d. rooms_stand_iff_in_order rooms accepted cut m i j a (omega arith) d) tree

-- and so in the grid drawing
pub m103_tree_of_drawing : (labels : List ℕ) → Baxter labels → 1 ≤ length labels → length labels ≤ 255 → (tree : Tree)
    → TreeBy (DrawnStand labels) tree 1 (suc (length labels)) ↔ CuttingTree (label_at labels) (length labels) tree
m103_tree_of_drawing labels baxter some few tree =
    tree_iff (length labels) (λ cut m i j a b c d. drawn_stand_iff_in_order labels baxter some few cut m i j a (omega arith) d) tree

-- ---- a record: one that is read, and slicing
pub record SlicingRecord (bytes : List ℕ) : Type 0 where
  pub bytes_are : Bytes bytes
  pub readable : Readable bytes
  pub slicing : ¬ NotSlicing bytes

module _ {bytes : List ℕ} (r : SlicingRecord bytes) where
  reads : Reads bytes (labels_of bytes)
  reads = demand2_read_only_list bytes r.bytes_are r.readable

  once : EachOnce (label_at (labels_of bytes)) (kind_of bytes)
  once = subst (EachOnce (label_at (labels_of bytes))) reads.size reads.baxter.each_once

  some : 1 ≤ kind_of bytes
  some = let kind : kind_of bytes ≢ 0 = λ e. r.readable.kind (inr e) in omega arith

  -- its tree is the cutting tree of its labels
  pub m103_tree_of_record : CuttingTree (label_at (labels_of bytes)) (kind_of bytes) (cutting_tree (label_at (labels_of bytes)) (kind_of bytes))
  m103_tree_of_record = cutting_tree_lem (label_at (labels_of bytes)) (kind_of bytes) some once r.slicing

-- of the record of an accepted room list it is the tree of these rooms
pub m103_tree_of_rooms_by_record : (rooms : List Room) → AcceptedRooms rooms → ¬ NotSlicing (record_of_rooms rooms)
    → TreeBy (RoomsStand rooms) (cutting_tree (label_at (labels_of (record_of_rooms rooms))) (kind_of (record_of_rooms rooms))) 1
    (suc (length rooms))
m103_tree_of_rooms_by_record rooms accepted slicing =
    (m103_tree_of_rooms rooms accepted (cutting_tree (label_at (labels_of bytes)) (kind_of bytes))).1
    (subst₂ (λ (labels : List ℕ) (n : ℕ). CuttingTree (label_at labels) n (cutting_tree (label_at (labels_of bytes)) (kind_of bytes)))
    (sym labels) size (cutting_tree_lem (label_at (labels_of bytes)) (kind_of bytes) (omega (arith, b.some, size)) once slicing))
  where
    bytes : List ℕ
    bytes = record_of_rooms rooms

    b : BaxterOf rooms
    b = rooms_give_baxter rooms accepted

    labels : label_list rooms ≡ labels_of bytes
    labels = label_list_back rooms accepted

    size : kind_of bytes ≡ length rooms
    size = kind_of_rooms rooms accepted

    once : EachOnce (label_at (labels_of bytes)) (kind_of bytes)
    once = subst₂ (λ (list : List ℕ) (n : ℕ). EachOnce (label_at list) n) labels (b.size ∙ sym size) b.baxter.each_once

-- ---- two slicing records
module _ {bytes other : List ℕ} (r : SlicingRecord bytes) (t : SlicingRecord other) where
  abbrev f : ℕ → ℕ
  f = label_at (labels_of bytes)

  abbrev g : ℕ → ℕ
  g = label_at (labels_of other)

  module _ (same : tree_of bytes ≡ tree_of other) where
    same_tree : cutting_tree f (kind_of bytes) ≡ cutting_tree g (kind_of other)
    same_tree = (bytes_tell (cutting_tree f (kind_of bytes)) (cutting_tree g (kind_of other)) [] [] (ap (λ (l : List ℕ). l ++ []) same)).0

    same_size : kind_of bytes ≡ kind_of other
    same_size =
        omega (
          arith,
          leaves_are f (kind_of bytes) (cutting_tree f (kind_of bytes)) (m103_tree_of_record r),
          leaves_are g (kind_of other) (cutting_tree g (kind_of other)) (m103_tree_of_record t),
          ap leaves same_tree,
        )

    same_labels : labels_of bytes ≡ labels_of other
    same_labels = ext_get_or 0 (labels_of bytes) (labels_of other) ((reads r).size ∙ same_size ∙ sym (reads t).size) (λ i h.
        same_tree→same_labels f g (kind_of bytes) (once r) (subst (EachOnce g) (sym same_size) (once t)) (cutting_tree f (kind_of bytes))
        (m103_tree_of_record r) (subst₂ (CuttingTree g) (sym same_size) (sym same_tree) (m103_tree_of_record t)) (suc i) (omega arith)
        (omega (arith, (reads r).size)))

  -- different slicing records have different trees, and the tree gives the plan back
  pub m103_same_tree_iff_same_record : (tree_of bytes ≡ tree_of other) ↔ (bytes ≡ other)
  m103_same_tree_iff_same_record =
      (λ same. sym (reads r).back ∙ ap record_of (same_labels same) ∙ (reads t).back, λ e. ap tree_of e)

-- ---- what a call leaves
-- a call that wrote a tree was given a slicing record
abbrev Accepts : (bytes : List ℕ) → Result ℕ Refusal → Type 0
Accepts bytes (Ok n) = Readable bytes × (¬ NotSlicing bytes) × (n ≡ length (tree_of bytes))
Accepts bytes (Err refusal) = Unit

says_accepts : {bytes : List ℕ} {capacity : ℕ} {answer : Result ℕ Refusal} → TreeSays bytes capacity answer → Accepts bytes answer
says_accepts (refused_record cause) = tt
says_accepts (not_slicing all shapes) = tt
says_accepts (short all slicing few) = tt
says_accepts (wrote all slicing fits) = (all, slicing, refl)

module _ {bytes before after : List ℕ} {n : ℕ} (did : TreeIn bytes before (Ok n) after) where
  accepts : Readable bytes × (¬ NotSlicing bytes) × (n ≡ length (tree_of bytes))
  accepts = subst (Accepts bytes) (sym did.answered) (says_accepts (demand1_tree_cause bytes (length before)))

  bytes_are_tree : take n after ≡ tree_of bytes
  bytes_are_tree =
      ap (take n) did.left ∙ ap (λ (m : ℕ). take m (tree_of bytes ++ drop n before)) accepts.2 ∙ take-append_seam (tree_of bytes) _

-- two calls left the same tree exactly if they were given the same record
pub m103_same_bytes_iff_same_record : {bytes other before before' after after' : List ℕ} {n m : ℕ} → Bytes bytes → Bytes other
    → TreeIn bytes before (Ok n) after → TreeIn other before' (Ok m) after' → (take n after ≡ take m after') ↔ (bytes ≡ other)
m103_same_bytes_iff_same_record all all' did did' =
    let (readable, slicing, size) = accepts did in
    let (readable', slicing', size') = accepts did' in
    let iff = m103_same_tree_iff_same_record (record { bytes_are = all; readable = readable; slicing = slicing })
    (record { bytes_are = all'; readable = readable'; slicing = slicing' }) in
    (λ same. iff.0 (sym (bytes_are_tree did) ∙ same ∙ bytes_are_tree did'), λ e. bytes_are_tree did ∙ iff.1 e ∙ sym (bytes_are_tree did'))
