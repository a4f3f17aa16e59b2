-- `trees::write_tree` meets its contract: all rooms are one block of a cut, and its tree is put.
use Rattle.std.proofs.Common.{◌+◌, length, arith}
use Rattle.trees.proofs.Putting.{one_at_most}
use Rattle.trees.proofs.Whole.{all_block, one_block_of, writes}
use Rattle.trees.proofs.write_tree.Goals as goal

pub put_blocks-requires : goal.put_blocks-requires
put_blocks-requires c =
    let l = c.args.labels.now in
    (all_block l c.requires.0, omega (arith, c.requires.0.few, c.requires.1, one_at_most l c.whole_cut-cut.result 1 (length l + 1)))

pub returns : goal.returns
returns c =
    let l = c.args.labels.now in
    let cut = c.whole_cut-cut in
    writes l c.requires.0 c.put_blocks.result cut.result _ _ (one_block_of l c.requires.0 cut.result cut.ensures) c.put_blocks.ensures
