-- `read_front`: what a turn reads follows what came before.
use Rattle.std.proofs.Common.{◌≡◌, ℕ, ◌+◌, ◌≤◌, List, ◌++◌, length, take, drop, sym, ap, subst, ◌∙◌}
use Rattle.std.proofs.Common.{rules, le_refl, drop_at, length-take-le}
use Rattle.std.proofs.lemmas.Slice.{take-put_mid_below}
use Rattle.std.specs.Io.KnownBytes.{Consumes}
use Rattle.std.proofs.KnownBytes.{Consumes-trans}
use borrow.Rule.Slice.PartMut.{put_mid, post_of}
use lib.Seq.{take-add, take-append-le}
use Rattle.input.proofs.read_front.Goals as goal

front_grown : (at room more : ℕ) (store part : List ℕ) → at ≤ length store → more ≤ length part
    → take at store ++ take more part ≡ take (at + more) (put_mid at room store part)
front_grown at room more store part within fits =
    let now = put_mid at room store part in
    let after = post_of at room store in
    let front : take at now ≡ take at store = take-put_mid_below _ _ _ _ _ (le_refl _) within in
    let back : take more (drop at now) ≡ take more part =
    ap (take more) (drop_at (take at store) (part ++ after) at (length-take-le at store within)) ∙ take-append-le more part after fits in
    sym (take-add at more now ∙ (λ t. front t ++ back t))

pub loop-size-preserved : goal.loop-size-preserved
loop-size-preserved g c =
    let came = c.loop-size.invariant in record {
      fits = search rules;
      first =
          subst (Consumes _ _) (front_grown _ _ _ c.loop-size.bytes c.read.new.buf came.fits c.in_ok-more.ensures.bound.0)
          (Consumes-trans _ _ _ _ _ came.first c.in_ok-more.ensures.bytes.0);
    }
