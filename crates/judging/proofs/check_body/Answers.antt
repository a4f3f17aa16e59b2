-- `judging::check_body` meets its contract: the checks before the walk pass or refuse in the sheet's order.
use mathlib.Core.Bool.{true}
use mathlib.Core.List.{List}
use mathlib.Core.Logic.{inl, inr}
use mathlib.Core.Path.{◌≡◌, sym, ap, subst₂, ◌∙◌}
use Prim.Native.Nat.{ℕ, ◌-◌, ◌*◌, ◌<◌}
use native.Mathlib.Omega.{arith}
use Rattle.std.proofs.lemmas.Bool.Decides.{nat_tests}
use lib.ListN.{length}
use Rattle.finite.specs.Search.{Some}
use Rattle.bits.specs.Bit.{bit_at}
use Rattle.record.specs.Record.{body_length}
use Rattle.record.specs.Read.{kind_of, NoKind, ShortBody, BytesAfter, SpareBit}
use Rattle.record.specs.Checked.{no_kind, short_body, bytes_after, spare_bit}
use Rattle.judging.specs.Passed.{body_is}
use Rattle.judging.proofs.check_body.Goals as goal
use Rattle.judging.proofs.check_body.Goals.{Else-body-size, Else-n-eq0, Else-size-body}

kind-is : (e : Else-n-eq0) → e.from-n.result ≡ kind_of e.args.«record».now
kind-is e = e.from-n.ensures

-- the record passes 9, 10 and 11
has_kind : (e : Else-n-eq0) → ¬ NoKind e.args.«record».now
has_kind e h = elim h [ inl z ↦ absurd (grind (arith, nat_tests)) | inr z ↦ e.if-n-eq0.false (kind-is e ∙ z) ]

not_short : (e : Else-body-size) → ¬ ShortBody e.args.«record».now
not_short e h = omega (arith, e.if-body-size.false, ap length (body_is e.args.«record».now), e.from-n.ensures)

not-long : (e : Else-size-body) → ¬ BytesAfter e.args.«record».now
not-long e h = omega (arith, e.if-size-body.false, ap length (body_is e.args.«record».now), e.from-n.ensures)

pub returns-then-is_empty : goal.returns-then-is_empty
returns-then-is_empty c = no_kind (inl (grind (arith, nat_tests)))

pub returns-then-n-eq0 : goal.returns-then-n-eq0
returns-then-n-eq0 c = no_kind (inr (sym c.from-n.ensures ∙ c.if-n-eq0.true))

pub returns-then-body-size : goal.returns-then-body-size
returns-then-body-size c =
    let at = goal.at.returns-then-body-size c in
    short_body (has_kind at.Else-n-eq0) (subst₂ (λ (l n : ℕ). l < body_length n) (ap length (body_is c.args.«record».now)) (kind-is at.Else-n-eq0) c.if-body-size.true)

pub returns-then-size-body : goal.returns-then-size-body
returns-then-size-body c =
    let at = goal.at.returns-then-size-body c in
    bytes_after (has_kind at.Else-n-eq0) (not_short at.Else-body-size)
    (subst₂ (λ (l n : ℕ). body_length n < l) (ap length (body_is c.args.«record».now)) (kind-is at.Else-n-eq0) c.if-size-body.true)

pub returns-then-spare_bit : goal.returns-then-spare_bit
returns-then-spare_bit c =
    let at = goal.at.returns-then-spare_bit c in
    let s : SpareBit c.args.«record».now =
    subst₂ (λ (body : List ℕ) (n : ℕ). Some (λ i. bit_at body i ≡ true) (3 * n - 3) (8 * length body)) (body_is c.args.«record».now) (kind-is at.Else-n-eq0) c.if-spare_bit.ensures in
    spare_bit (has_kind at.Else-n-eq0) (not_short at.Else-body-size) (not-long at.Else-size-body) s
