-- What the question is given of a record: the rooms' lefts and bottoms, and from an earliest index on the labels, rights and tops. The two
-- rooms and the side on which one stands of the other are the record's.
use mathlib.Core.List.{List}
use mathlib.Core.Logic.{ite}
use mathlib.Core.Path.{◌≡◌, ap, ◌∙◌}
use Prim.Native.Nat.{ℕ, zero, suc, ◌-◌, ◌≤◌}
use native.Mathlib.Decide.{dec_lt}
use native.Mathlib.Omega.{arith}
use Rattle.record.specs.Labels.{label_at}
use Rattle.record.specs.Way.{up, down}
use Rattle.record.specs.Read.{kind_of, labels_of}
use Rattle.record.specs.Checked.{Readable}
use Rattle.steps.specs.Passes.{Starts}
use Rattle.backward.specs.Written.{Written}
use Rattle.reading.specs.Answer.{triples_of}
use Rattle.drawing.specs.Corners.{room_in}
use Rattle.drawing.specs.Drawing.{room_at}
use Rattle.drawing.specs.Side.{side_of}
use Rattle.drawing.specs.declared.Side.TheVariants.{Left, Right, Above, Below}
use Rattle.answers.specs.Drawn as drawn

-- the side needs the labels of the two positions only
side_same : (f g : ℕ → ℕ) (i j : ℕ) → f i ≡ g i → f j ≡ g j → side_of f i j ≡ side_of g i j
unfolding side_of
side_same f g i j e d = λ k. ite (dec_lt i j) (ite (dec_lt (e k) (d k)) Left Below) (ite (dec_lt (d k) (e k)) Right Above)

module _ {bytes : List ℕ} {n earliest : ℕ} (kind : n ≡ kind_of bytes) (readable : Readable bytes) {labels₀ right₀ top₀ labels right top : List ℕ}
    (w : Written (triples_of bytes) n earliest labels₀ right₀ top₀ labels right top) where
  abbrev f : ℕ → ℕ
  f = label_at (labels_of bytes)

  label_is : (position : ℕ) → 1 ≤ position → earliest ≤ position - 1 → position ≤ n → label_at labels position ≡ f position
  label_is zero some past most = absurd (omega arith)
  label_is (suc k) some past most = w.labels_are.done k (omega arith) most ∙ drawn.label_at_lem kind readable k most

  -- two positions that the walk back has passed
  pub side_is : (first second : ℕ) → 1 ≤ first → earliest ≤ first - 1 → first ≤ n → 1 ≤ second → earliest ≤ second - 1 → second ≤ n
      → side_of (label_at labels) first second ≡ side_of f first second
  side_is first second some past most some' past' most' = side_same (label_at labels) f first second (label_is first some past most) (label_is second some' past' most')

  pub room_is : {left bottom : List ℕ} → Starts down (triples_of bytes) n left → Starts up (triples_of bytes) n bottom → (position : ℕ) → 1 ≤ position → earliest ≤ position - 1
      → position ≤ n → room_in (record { left = left; bottom = bottom; right = right; top = top }) position ≡ room_at f (kind_of bytes) position
  room_is lefts bottoms zero some past most = absurd (omega arith)
  room_is lefts bottoms (suc k) some past most =
      drawn.room_is kind readable w lefts bottoms k (omega arith) most ∙ ap (λ (m : ℕ). room_at f m (suc k)) kind
