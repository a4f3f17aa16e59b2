-- `judging::count_walk` meets its contract: what the walk over whole words tells of the triples that there are.
use mathlib.Core.Path.{◌≡◌, sym, ap, ◌∙◌}
use Prim.Native.Nat.{ℕ, suc, ◌+◌, ◌-◌, ◌*◌, ◌/◌, ◌%◌, ◌≤◌, ◌<◌}
use native.Mathlib.Omega.{arith}
use Rattle.record.specs.Triple.{Triple}
use Rattle.record.specs.Walk.{counts, walk}
use Rattle.record.specs.Record.{triple_in}
use Rattle.record.specs.Rises.{falls}
use Rattle.judging.specs.Packed.{Packs}
use Rattle.judging.proofs.Packing.{low_is, high_is, top_is}
use Rattle.judging.proofs.Past.{ZeroPast, zero_past, missing_before, counts_before, falls_past}
use Rattle.judging.proofs.count_walk.Goals as goal
use Rattle.judging.proofs.count_walk.Goals.{In_ok-tally}

-- how many triples of 000 there are after those of n rooms, in whole words of eight
abbrev past : ℕ → ℕ
past n = 8 * ((n + 6) / 8) + 1 - n

whole : (n : ℕ) → 1 ≤ n → 8 * ((n + 6) / 8) ≡ n - 1 + past n
whole n some = omega arith

module _ {t : ℕ → Triple} {n tally : ℕ} (some : 1 ≤ n) (few : n ≤ 255) (zero-on : ZeroPast t (n - 1)) (packs : Packs t (8 * ((n + 6) / 8)) tally) where
  here : walk t (n - 1 + past n) ≡ counts packs.below packs.above
  here = ap (walk t) (sym (whole n some)) ∙ packs.walked

  before : (past n ≤ packs.below) × (walk t (n - 1) ≡ counts (packs.below - past n) packs.above)
  before = counts_before t (n - 1) zero-on (past n) packs.below packs.above here

  small : 8 * ((n + 6) / 8) ≤ 256
  small = omega arith

  few-runs : packs.below + packs.above < 32768
  few-runs = omega (arith, packs.few, small)

  low : tally % 65536 + packs.below ≡ 32767
  low = low_is packs.below packs.above _ tally packs.packed few-runs

  high : tally / 65536 % 65536 + packs.above ≡ 32767
  high = high_is packs.below packs.above _ tally packs.packed few-runs

  top : tally / 4294967296 ≡ 8 * ((n + 6) / 8) + falls t n
  top =
      let all : suc (8 * ((n + 6) / 8)) ≡ suc (n - 1 + past n) = omega (arith, whole n some) in
      let last : suc (n - 1) ≡ n = omega arith in
      top_is packs.below packs.above _ tally packs.packed few-runs
      ∙ ap (λ (m : ℕ). 8 * ((n + 6) / 8) + m) (ap (falls t) all ∙ falls_past t (n - 1) zero-on (past n) ∙ ap (falls t) last)

  low-enough : tally % 65536 + past n ≤ 32767
  low-enough = omega (arith, low, before.0)

  high-enough : tally / 65536 % 65536 ≤ 32767
  high-enough = omega (arith, high)

  counted : counts (32767 - tally % 65536 - past n) (32767 - tally / 65536 % 65536) ≡ walk t (n - 1)
  counted =
      let below : 32767 - tally % 65536 - past n ≡ packs.below - past n = omega (arith, low) in
      let above : 32767 - tally / 65536 % 65536 ≡ packs.above = omega (arith, high) in
      (λ i. counts (below i) (above i)) ∙ sym before.1

  fallen : tally / 4294967296 - 8 * ((n + 6) / 8) ≡ falls t n
  fallen = omega (arith, top)

zero-on : (c : In_ok-tally) → ZeroPast (triple_in c.args.body.now) (c.args.n - 1)
zero-on c = zero_past c.args.body.now c.args.n c.requires.0 c.requires.3

pub returns-in_err-tally : goal.returns-in_err-tally
returns-in_err-tally c =
    let n = c.args.n in
    let t = triple_in c.args.body.now in
    let whole = ap (walk t) (sym (whole n c.requires.0)) ∙ c.in_err-tally.ensures in
    rw c.from_residual.ensures (missing_before t (n - 1) (zero_past c.args.body.now n c.requires.0 c.requires.3) (past n) whole)

pub overflow_sub-result-2 : goal.overflow_sub-result-2
overflow_sub-result-2 c = omega (arith, low-enough c.requires.0 c.requires.1 (zero-on c) c.in_ok-tally.ensures)

pub returns : goal.returns
returns c =
    let zeros = zero-on c in
    let packs = c.in_ok-tally.ensures in
    (sym (counted c.requires.0 c.requires.1 zeros packs), fallen c.requires.0 c.requires.1 zeros packs)
