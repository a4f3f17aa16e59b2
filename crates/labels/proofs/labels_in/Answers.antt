-- `labels::labels_in` meets its contract. Each answer comes with its cause, and without the causes that the order names before it.
use mathlib.Core.Bool.{true}
use mathlib.Core.List.{List, ◌++◌}
use mathlib.Core.Logic.{inl, inr}
use mathlib.Core.Path.{◌≡◌, refl, sym, ap, ◌∙◌}
use Prim.Native.Nat.{ℕ, ◌+◌}
use native.Mathlib.Omega.{arith}
use lib.ListN.{length, take, drop}
use Rattle.std.specs.Prelude.{Ok}
use Rattle.finite.specs.Decide.{stable}
use Rattle.record.specs.Labels.{label_at, LabelOutside, LabelTwice}
use Rattle.record.specs.Barred.{Baxter}
use Rattle.record.specs.Record.{body_length, record_of}
use Rattle.record.specs.Causes.{BadCount, dec_barred}
use Rattle.record.specs.Judged.{Permutation, Sound, barred}
use Rattle.record.specs.Demand1.{refused, short, wrote, demand1_labels_answer}
use Rattle.record.proofs.Demand2.{each_once, once_single, record_length}
use Rattle.encoding.specs.Encoded.{Encoded}
use Rattle.labels.proofs.labels_in.Goals as goal
use Rattle.labels.proofs.labels_in.Goals.{Else-not-encode, Else-outside, Then-not-encode}

counted : (c : Else-outside) → ¬ BadCount (length c.args.labels.now)
counted c (inl z) = c.if-n-eq0.false z
counted c (inr h) = omega (arith, c.if-n-gt255.false)

inside : (c : Else-outside) → ¬ LabelOutside c.args.labels.now
inside c = rw c.if-outside.false at c.outside.ensures

permutation : (c : Else-outside) → ¬ LabelTwice c.args.labels.now → Permutation c.args.labels.now
permutation c single = record { count = counted c; inside = inside c; single = single }

encoded : (c : Else-not-encode) → Encoded true c.args.labels.now c.encode.new.«record»
encoded c = rw c.if-not-encode.false at c.encode.ensures

sound : (c : Else-not-encode) → (¬ LabelTwice c.args.labels.now → Permutation c.args.labels.now) → Sound c.args.labels.now
sound c permuted =
    let baxter = (encoded c).0 in
    record { permutation = permuted (once_single c.args.labels.now baxter.each_once); free = baxter.not_barred }

not-baxter : (c : Then-not-encode) → ¬ Baxter c.args.labels.now
not-baxter c = rw c.if-not-encode.true at c.encode.ensures

-- the front of what was written is the record
front : (c : Else-not-encode) → take (1 + body_length (length c.args.labels.now)) c.encode.new.«record» ≡ record_of c.args.labels.now
front c = rw (record_length c.args.labels.now) at (encoded c).2

pub returns-then-not-encode : goal.returns-then-not-encode
returns-then-not-encode c =
    let labels = c.args.labels.now in
    let at = goal.at.returns-then-not-encode c in
    let single = rw c.if-twice.false at c.twice.ensures in
    let once = each_once labels (inside at.Else-outside) single in
    let bad =
    stable (dec_barred (label_at labels) (length labels))
    (λ free. not-baxter at.Then-not-encode (record { each_once = once; not_barred = free })) in
    record { answered = demand1_labels_answer _ _ (refused (barred (permutation at.Else-outside single) bad)); left = refl }

pub returns-then-record-size : goal.returns-then-record-size
returns-then-record-size c =
    let at = goal.at.returns-then-record-size c in
    let all = sound at.Else-not-encode (permutation at.Else-outside) in
    let size = record_length c.args.labels.now in
    record { answered = demand1_labels_answer _ _ (short all (omega (arith, c.if-record-size.true))); left = refl }

pub returns : goal.returns
returns c =
    let before = c.args.«record».now in
    let at = goal.at.returns c in
    let all = sound at.Else-not-encode (permutation at.Else-outside) in
    let size = record_length c.args.labels.now in
    record {
      answered =
          ap Ok (sym size)
          ∙ demand1_labels_answer c.args.labels.now (length before) (wrote all (λ h. omega (arith, c.if-record-size.false)));
      left =
          ap (λ (l : List ℕ). l ++ drop (1 + body_length (length c.args.labels.now)) before)
          (c.copy_from_slice.ensures.after ∙ front at.Else-not-encode);
    }
