-- What the writer puts of some rooms follows from what it puts of those before a line and of those after it.
use mathlib.Core.Bool.{Bool}
use mathlib.Core.List.{List, [], ◌∷◌, ◌++◌, append-nil, append_assoc}
use mathlib.Core.Logic.{◌≢◌, inl, inr, ite, if_pos, if_neg}
use mathlib.Core.Path.{◌≡◌, refl, sym, ap, subst, subst₂, ◌∙◌}
use Prim.Native.Nat.{ℕ, suc, ◌+◌, ◌-◌, ◌*◌, ◌≤◌, ◌<◌}
use native.Mathlib.Omega.{arith}
use lib.ListN.{length, get_or, take, drop, set, length-set, length-drop, length-append}
use lib.Seq.{length-take-le, append_snoc, set_at, take-set-lt, take-add}
use Rattle.finite.specs.Decide.{Tells, le_or_lt, eq_or_ne}
use Rattle.finite.specs.Put.{Put, put_none, put_one, put_more, put_as}
use Rattle.record.specs.Labels.{label_at, label_at_lem}
use Rattle.slicing.specs.Cuts.{opposite, Before, Parts, dec_before}
use Rattle.slicing.specs.Tree.{leaf, node, Trees, none, ◌then◌, count, Blocks, bytes_of, bytes_of_all, kind_of_cut}
use Rattle.slicing.proofs.Order.{before_itself, before_back, before_turned}
use Rattle.slicing.specs.Blocks.{Whole}
use Rattle.slicing.proofs.Blocks.{blocks_count}
use Rattle.slicing.proofs.Size.{bytes_of_blocks}
use Rattle.slicing.proofs.Lines.{append, count_append, bytes_append, blocks_joined, blocks_from, blocks_upto, leaf_block, node_block, line_between_lem, several_blocks, one_block_lem}
use Rattle.slicing.specs.Interval.{lowest_of_first, lowest_of_rest}
use Rattle.slicing.proofs.Interval.{interval_of_first, interval_of_rest}
use Rattle.slicing.specs.declared.Cut.{Cut}
use Rattle.slicing.specs.declared.Cut.TheVariants.{Vertical, Horizontal}
use Rattle.trees.specs.Block.{BlockOf, FirstBefore, one_block, FindsLine, TreesStand, NoTrees, EndsPart}
use Rattle.std.specs.Prelude.{Option, Some, None}

-- ---- the rooms before a line, and those after it
first_bytes : (cut : Cut) (s m e lowest : ℕ) → s < m → m ≤ e → lowest + e ≤ s + 256 → lowest_of_first cut m e lowest + m ≤ s + 256
first_bytes Vertical s m e lowest some within h = omega arith
first_bytes Horizontal s m e lowest some within h = omega arith

rest_bytes : (cut : Cut) (s m e lowest : ℕ) → s < m → m ≤ e → lowest + e ≤ s + 256 → lowest_of_rest cut s m lowest + e ≤ m + 256
rest_bytes Vertical s m e lowest some within h = omega arith
rest_bytes Horizontal s m e lowest some within h = omega arith

module _ {labels : List ℕ} {from to lowest : ℕ} (b : BlockOf labels from to lowest) (cut : Cut) (m : ℕ) (some : from < m) (within : m ≤ to)
    (line : Parts (label_at labels) cut from m to) where
  pub block_before : BlockOf labels from m (lowest_of_first cut m to lowest)
  block_before = record {
    interval = interval_of_first b.interval cut m some (omega arith) line;
    position = b.position;
    within = omega (arith, b.within);
    few = b.few;
    bytes = first_bytes cut from m to lowest some (omega arith) b.bytes;
  }

  pub block_after : m < to → BlockOf labels m to (lowest_of_rest cut from m lowest)
  block_after more = record {
    interval = interval_of_rest b.interval cut m some (omega arith) more line;
    position = omega (arith, b.position);
    within = b.within;
    few = b.few;
    bytes = rest_bytes cut from m to lowest some (omega arith) b.bytes;
  }

-- where the first room of a block does not stand before the last in the order of the one cut, it does in that of the other
pub other_way_lem : {labels : List ℕ} {from to lowest : ℕ} (b : BlockOf labels from to lowest) (cut : Cut) → from + 1 ≢ to
    → ¬ FirstBefore labels cut from to → FirstBefore labels (opposite cut) from to
other_way_lem {labels} {from} {to} b cut more last =
    let some = b.interval.some in
    before_turned cut (label_at labels from) (label_at labels (to - 1)) (before_back cut (label_at labels (to - 1)) (label_at labels from)
    (λ q. b.interval.distinct from (to - 1) (omega arith) (omega arith) (omega arith) (sym q)) last)

-- and a room does not stand before itself
pub two_rooms : {labels : List ℕ} {from to lowest : ℕ} (b : BlockOf labels from to lowest) (cut : Cut) → FirstBefore labels cut from to
    → suc from < to
two_rooms {labels} {from} {to} b cut first = elim (eq_or_ne (from + 1) to) [
  | inl q ↦
      let same : to - 1 ≡ from = omega arith in
      absurd (before_itself cut (label_at labels from) (subst (λ (x : ℕ). Before cut (label_at labels from) (label_at labels x)) same first))
  | inr ne ↦ omega (arith, b.interval.some)
]

-- what the first and the last label that are read tell
pub first_told : (labels : List ℕ) (cut : Cut) (from to : ℕ) (t : Bool) → 1 ≤ from → from < to
    → Tells t (Before cut (get_or labels (from - 1) 0) (get_or labels (to - 2) 0)) → Tells t (FirstBefore labels cut from to)
first_told labels cut from to t position some told =
    subst₂ (λ (x y : ℕ). Tells t (Before cut x y)) (label_at_lem labels from position) last told
  where
    last : get_or labels (to - 2) 0 ≡ label_at labels (to - 1)
    last = let same : to - 2 ≡ to - 1 - 1 = omega arith in ap (λ (i : ℕ). get_or labels i 0) same ∙ label_at_lem labels (to - 1) (omega arith)

-- ---- one block, or several
pub several→0 : (labels : List ℕ) (cut : Cut) (from to : ℕ) → FirstBefore labels cut from to → one_block labels cut from to ≡ 0
unfolding one_block
several→0 labels cut from to h = if_pos (dec_before cut (label_at labels from) (label_at labels (to - 1))) h _ _

pub one→1 : (labels : List ℕ) (cut : Cut) (from to : ℕ) → ¬ FirstBefore labels cut from to → one_block labels cut from to ≡ 1
unfolding one_block
one→1 labels cut from to h = if_neg (dec_before cut (label_at labels from) (label_at labels (to - 1))) h _ _

pub one_at_most : (labels : List ℕ) (cut : Cut) (from to : ℕ) → one_block labels cut from to ≤ 1
unfolding one_block
one_at_most labels cut from to = go (dec_before cut (label_at labels from) (label_at labels (to - 1)))
  where
    go : {A : Type 0} (d : Dec A) → ite d 0 1 ≤ 1
    go (yes p) = omega arith
    go (no p) = omega arith

-- ---- the bytes of a node, of which the first two are stored last
two_of : (l : List ℕ) → 2 ≤ length l → take 2 l ≡ get_or l 0 0 ∷ get_or l 1 0 ∷ []
two_of [] h = absurd (omega arith)
two_of (x ∷ []) h = absurd (omega arith)
two_of (x ∷ y ∷ l) h = refl

set_two : (front : List ℕ) (x y : ℕ) (part : List ℕ) (at kind number : ℕ) → length front ≡ at
    → set (set (front ++ x ∷ y ∷ part) at kind) (at + 1) number ≡ front ++ kind ∷ number ∷ part
set_two front x y part at kind number size =
    ap (λ (l : List ℕ). set l (at + 1) number) (set_at front x (y ∷ part) kind at size ∙ sym (append_snoc front kind (y ∷ part)))
    ∙ set_at (front ++ kind ∷ []) y part number (at + 1) (omega (arith, length-append front (kind ∷ [])))
    ∙ append_snoc front kind (number ∷ part)

put_node : {before after part : List ℕ} {at end : ℕ} (kind number : ℕ) → at + 2 ≤ length before → Put before (at + 2) part after end
    → Put before at (kind ∷ number ∷ part) (set (set after at kind) (at + 1) number) end
put_node {before} {after} {part} {at} {end} kind number room p = record {
  next = omega (arith, p.next);
  front =
      take-set-lt end (set after at kind) (at + 1) number (omega (arith, p.next))
      ∙ ap (λ (l : List ℕ). set l (at + 1) number) (take-set-lt end after at kind (omega (arith, p.next)))
      ∙ ap (λ (l : List ℕ). set (set l at kind) (at + 1) number) (p.front
      ∙ ap (λ (l : List ℕ). l ++ part) (take-add at 2 before ∙ ap (λ (l : List ℕ). take at before ++ l)
      (two_of (drop at before) (omega (arith, length-drop at before))))
      ∙ append_assoc (take at before) (get_or (drop at before) 0 0 ∷ get_or (drop at before) 1 0 ∷ []) part)
      ∙ set_two (take at before) (get_or (drop at before) 0 0) (get_or (drop at before) 1 0) part at kind number
      (length-take-le at before (omega arith));
  size = length-set (set after at kind) (at + 1) number ∙ length-set after at kind ∙ p.size;
}

-- ---- what is put
-- nothing, of no rooms
pub none_stand : {f : ℕ → ℕ} {cut : Cut} (s : ℕ) (before : List ℕ) (at : ℕ) → TreesStand f cut s s before at before at 0
unfolding bytes_of
none_stand s before at = record { children = none; blocks = refl; counted = refl; put = put_none before at }

pub leaf_stands : {f : ℕ → ℕ} {cut : Cut} {s e : ℕ} {before : List ℕ} {at : ℕ} → s + 1 ≡ e → at < length before
    → TreesStand f cut s e before at (set before at 1) (at + 1) 1
unfolding bytes_of
leaf_stands {f} {cut} {before = before} {at} one room = record {
  children = leaf then none;
  blocks = leaf_block f cut (omega arith);
  counted = refl;
  put = put_one before at 1 room;
}

pub node_stands : {f : ℕ → ℕ} {cut lines : Cut} {s e : ℕ} {before after : List ℕ} {at end number kind : ℕ} → at + 2 ≤ length before
    → suc s < e → Before lines (f s) (f (e - 1)) → lines ≡ opposite cut → kind ≡ kind_of_cut lines
    → TreesStand f lines s e before (at + 2) after end number
    → TreesStand f cut s e before at (set (set after at kind) (at + 1) number) end 1
unfolding bytes_of
node_stands {f} {cut} {lines} {s} {e} {number = number} {kind} room more first turned is h = record {
  children = node lines h.children then none;
  blocks = node_block f cut lines h.children s e turned (omega arith)
      (several_blocks f lines h.children s e more first h.blocks) h.blocks;
  counted = refl;
  put = put_as (λ i. is i ∷ h.counted i ∷ whole i) (put_node kind number room h.put);
}
  where
    whole : bytes_of_all h.children ≡ bytes_of_all h.children ++ []
    whole = sym (append-nil (bytes_of_all h.children))

-- ---- part after part
module _ (f : ℕ → ℕ) (cut : Cut) (from s m to : ℕ) (begun : from ≤ s) (some : s < m) (within : m ≤ to) (behind : Parts f cut from s to)
    (line : Parts f cut s m to) where
  -- the line after the new part stands after all parts so far
  pub parts_on : Parts f cut from m to
  parts_on i a b j c d = elim (le_or_lt s i) [ inl h ↦ line i h b j c d | inr h ↦ behind i a h j (omega arith) d ]

  -- one part more
  pub stand_more : {before middle after : List ℕ} {at next end number more total : ℕ} → TreesStand f cut from s before at middle next number
      → TreesStand f cut s m middle next after end more → total ≡ number + more → TreesStand f cut from m before at after end total
  stand_more first part sum = record {
    children = append first.children part.children;
    blocks = blocks_joined f cut first.children part.children from s m (omega arith) first.blocks part.blocks
        (λ i a b j c d. behind i a b j c (omega arith));
    counted = omega (arith, first.counted, part.counted, count_append first.children part.children);
    put = put_as (sym (bytes_append first.children part.children)) (put_more first.put part.put);
  }

  -- a part that has no tree: all have none
  pub part_missing : NoTrees f cut s m → NoTrees f cut from to
  part_missing missing = record {
    none_such = λ children blocks. let (rest, is) = blocks_from f cut children from s to begun (omega arith) behind blocks in
        let (part, of) = blocks_upto f cut rest s m to some within line is in missing.none_such part of;
  }

pub rest_missing : (f : ℕ → ℕ) (cut : Cut) (from s to : ℕ) → from ≤ s → s < to → Parts f cut from s to → NoTrees f cut s to
    → NoTrees f cut from to
rest_missing f cut from s to begun more behind missing = record {
  none_such = λ children blocks.
      let (rest, is) = blocks_from f cut children from s to begun more behind blocks in missing.none_such rest is;
}

-- no line, and no tree of rooms that are cut the other way
no_line_missing : {f : ℕ → ℕ} {cut : Cut} {s e : ℕ} → suc s < e → Before cut (f s) (f (e - 1)) → Whole f cut s e → NoTrees f cut s e
no_line_missing {f} {cut} {s} {e} more first whole = record {
  none_such = λ children blocks.
      let (m, a, b, line) = line_between_lem f cut children s e (several_blocks f cut children s e more first blocks) blocks in
      whole m a b line;
}

pub inner_missing : {f : ℕ → ℕ} {cut lines : Cut} {s e : ℕ} → suc s < e → ¬ Before cut (f s) (f (e - 1)) → lines ≡ opposite cut
    → NoTrees f lines s e → NoTrees f cut s e
inner_missing {f} {cut} {lines} {s} {e} more last turned missing = record {
  none_such = λ children blocks.
      let (inner, is) = one_block_lem f cut children s e more last blocks in
      missing.none_such inner (subst (λ (c : Cut). Blocks f c inner s e) (sym turned) is);
}

-- ---- as many as there are blocks, and no more bytes than there is room for
module _ {f : ℕ → ℕ} {cut : Cut} {s e : ℕ} {before after : List ℕ} {at end number : ℕ}
    (h : TreesStand f cut s e before at after end number) where
  pub number_small : number + s ≤ e
  number_small = omega (arith, h.counted, blocks_count f cut h.children s e h.blocks)

  pub trees_small : end + 2 * number + 3 * s ≤ at + 3 * e
  trees_small = omega (arith, h.counted, h.put.next, bytes_of_blocks f cut h.children s e h.blocks)

  pub some_tree : s < e → 1 ≤ number
  some_tree some = omega (arith, h.counted, go h.children h.blocks)
    where
      go : (children : Trees) → Blocks f cut children s e → 1 ≤ count children
      go none q = absurd (omega arith)
      go (child then rest) blocks = omega arith

-- ---- where a part ends
pub ends_part : {labels : List ℕ} {from to lowest : ℕ} (cut : Cut) (r : Option ℕ) → BlockOf labels from to lowest
    → FirstBefore labels cut from to → FindsLine r (label_at labels) cut from to → EndsPart r labels cut from to
ends_part cut (Some m) b first (some, more, line) =
    record { some = some; within = omega arith; parts = line; whole = λ q. absurd (omega arith) }
ends_part cut None b first whole = no_line_missing (two_rooms b cut first) first whole
