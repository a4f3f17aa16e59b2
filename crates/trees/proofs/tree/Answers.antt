-- `trees::tree` meets its contract: the record is read or refused, its tree is put into an array that every tree has room in, and copied
-- where the slice has room.
use Rattle.std.proofs.Common.{◌++◌, refl, ap, ◌∙◌, ℕ, List, length, drop, Some, None, Err, arith, rules}
use Rattle.reading.specs.SameRefusal.{same_refusal}
use Rattle.slicing.specs.Answer.{TreeIn}
use Rattle.trees.proofs.Read.{plan_read, writes_plan, not_slicing_answer, short_answer, wrote_answer}
use Rattle.trees.proofs.tree.Goals as goal

pub returns-in_err-n-clause-tree_in : goal.returns-in_err-n-clause-tree_in
returns-in_err-n-clause-tree_in c =
    let refused : TreeIn c.args.«record».now c.args.tree.now (Err c.in_err-n.field-0.0) c.args.tree.now =
    record { answered = same_refusal Err c.args.«record».now _ c.in_err-n.field-0.0 c.in_err-n.ensures.answer; left = refl } in search rules

pub write_tree-requires : goal.write_tree-requires
write_tree-requires c =
    let g = c.in_ok-n.ensures.leaves in
    (plan_read g.kind g.readable g.some g.few g.few (g.long g.few g.some).labels_are, omega arith)

pub returns-in_default-clause-tree_in : goal.returns-in_default-clause-tree_in
returns-in_default-clause-tree_in c =
    let g = c.in_ok-n.ensures.leaves in
    let shaped = writes_plan g.kind g.readable g.some g.few g.few (g.long g.few g.some).labels_are None c.write_tree.new.tree c.in_default.ensures in
    record { answered = not_slicing_answer g.kind g.readable (length c.args.tree.now) shaped; left = refl }

pub returns-then-tree-size-clause-tree_in : goal.returns-then-tree-size-clause-tree_in
returns-then-tree-size-clause-tree_in c =
    let g = c.in_ok-n.ensures.leaves in
    let w = writes_plan g.kind g.readable g.some g.few g.few (g.long g.few g.some).labels_are (Some c.in-Some.written) c.write_tree.new.tree c.in-Some.ensures in
    record { answered = short_answer g.kind g.readable (length c.args.tree.now) w c.if-tree-size.true; left = refl }

pub returns-clause-tree_in : goal.returns-clause-tree_in
returns-clause-tree_in c =
    let g = c.in_ok-n.ensures.leaves in
    let w = writes_plan g.kind g.readable g.some g.few g.few (g.long g.few g.some).labels_are (Some c.in-Some.written) c.write_tree.new.tree c.in-Some.ensures in
    record {
      answered = wrote_answer g.kind g.readable (length c.args.tree.now) w c.if-tree-size.false;
      left = ap (λ (l : List ℕ). l ++ drop c.in-Some.written.end c.args.tree.now) (c.copy_from_slice.ensures.after ∙ w.front);
    }
