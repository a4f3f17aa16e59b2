-- M-106: two lists that differ in names alone are equivalent. The rest is M106.
use Rattle.std.specs.Prelude.{refl, ℕ, ◌<◌}
use Rattle.std.proofs.Math.Path.{sym}
use Rattle.std.proofs.Common.{subst}
use mathlib.Core.List.{List}
use Rattle.drawing.specs.declared.Room.{Room}
use Rattle.rooms.specs.Segment.{Holds}
use Rattle.rooms.specs.Equivalent.{Pairing, Equivalent}
use Rattle.rooms.specs.SameButNames.{SameButNames, same_but_names_sym, same_edge, same_segment}

-- they are equivalent: each room pairs off with the one at its place, and each segment with itself
unfoldable pub m106_names_alone_equivalent : (rooms others : List Room) → SameButNames rooms others → Equivalent rooms others
m106_names_alone_equivalent rooms others same = record {
  pair_rooms = each_itself (λ i. subst (λ (n : ℕ). i < n) same.count) (λ i. subst (λ (n : ℕ). i < n) (sym same.count));
  pair_segments = each_itself (same_segment same) (same_segment (same_but_names_sym same));
  holds = λ s segment i h side. (
    subst (Holds s) (same_edge same side i),
    subst (Holds s) (sym (same_edge same side i)),
  );
}
  where
    each_itself : {A : Type 0} {P Q : A → Type 0} → ((x : A) → P x → Q x) → ((x : A) → Q x → P x) → Pairing P Q
    each_itself there back = record {
      to = λ x. x;
      from = λ x. x;
      to_has = there;
      from_has = back;
      from_to = λ x h. refl;
      to_from = λ x h. refl;
    }
