-- `replaying::Plan::back` meets its contract: the only room, a claim that does not hold, one that does, or a room taken away.
use mathlib.Core.Path.{◌≡◌}
use Prim.Native.Nat.{◌+◌, ◌-◌}
use native.Mathlib.Omega.{arith}
use Rattle.replaying.proofs.Turning.{back_only, back_several, back_claim, back_take}
use Rattle.replaying.proofs.Plan.back.Goals as goal

pub returns-then-rooms-eq0 : goal.returns-then-rooms-eq0
returns-then-rooms-eq0 c = λ present b is k.
    back_only present b _ k is {kind = c.args.kind} {left = 0} (omega arith) c.requires.0 (omega arith)

pub returns-then-counts-ne-ONE_RUN : goal.returns-then-counts-ne-ONE_RUN
returns-then-counts-ne-ONE_RUN c = λ present b is k.
    back_several present b _ k is {kind = c.args.kind} {left = c.args.self.rooms + c.from.result - 3} (omega arith) c.from-counts.result (omega arith)
    c.if-kind-eq3.true c.if-counts-ne-ONE_RUN.true

pub returns-else-counts-ne-ONE_RUN : goal.returns-else-counts-ne-ONE_RUN
returns-else-counts-ne-ONE_RUN c = λ present b is k.
    back_claim present b _ k is (omega arith) c.from-counts.result (omega arith)
    c.if-kind-eq3.true c.if-counts-ne-ONE_RUN.false

pub returns-else-kind-eq3 : goal.returns-else-kind-eq3
returns-else-kind-eq3 c = λ present b is k.
    let two : c.args.kind ≡ 2 = omega (arith, c.requires.0, c.requires.1, c.if-kind-eq3.false) in
    back_take present b _ k is (omega arith) c.from-counts.result (omega arith) two c.if-rooms-eq0.false
