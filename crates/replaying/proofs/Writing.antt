-- The second pass, over a trace that is accepted: what has been written and the entries of what is left are all entries.
use mathlib.Core.List.{List, [], ◌∷◌, ◌++◌, map, append-nil}
use mathlib.Core.Logic.{◌≢◌}
use mathlib.Core.Path.{◌≡◌, refl, sym, ap, subst, ◌∙◌}
use Prim.Native.Nat.{ℕ, zero, suc, ◌+◌, ◌-◌, ◌≤◌, ◌<◌}
use native.Mathlib.Decide.{dec_lt, ℕ_discrete}
use native.Mathlib.Omega.{arith}
use lib.ListN.{length, get_or, drop, set, length-append, length-set, drop_of_length-le}
use lib.Seq.{drop-cons, set_at, append_snoc}
use Rattle.record.specs.Triple.{Triple}
use Rattle.record.specs.TripleNumber.{triple_of}
use Rattle.record.specs.Walk.{walk}
use Rattle.traces.specs.Move.{Move, add, take_away, claim, unknown, moves_of}
use Rattle.traces.specs.State.{rooms_of, counts_of, entry_of}
use Rattle.traces.specs.Replay.{states_from}
use Rattle.traces.specs.Cause.{Makes, added, taken, claimed}
use Rattle.traces.specs.Row.{Leads, more, NoneRefused}
use Rattle.traces.proofs.Row.{states_next}
use Rattle.traces.specs.Still.{Built, start}
use Rattle.traces.proofs.Still.{built_on, built_few}
use Rattle.traces.specs.Answer.{entries_of}
use Rattle.replaying.specs.Packed.{gain_of}
use Rattle.replaying.specs.Turn.{Below, Kept, back_move}
use Rattle.replaying.specs.Passes.{filled_by}
use Rattle.replaying.proofs.Keeping.{kept_stored}
use Rattle.replaying.proofs.Reading.{one_alone, one_small, one_large, back_begins, other}
use Rattle.replaying.proofs.Entries.{entry_small, entry_added}

-- the state in which the pass stands before the move at a place
pub record Standing (xs kept : List ℕ) (at rooms entry : ℕ) : Type 0 where
  pub present : List Triple
  pub end : List Triple
  pub built : Built present
  pub leads : Leads present (moves_of (drop at xs)) end
  pub rooms_are : rooms ≡ rooms_of present
  pub entry_is : entry ≡ entry_of present
  pub kept_are : Kept entry_of present kept
  pub size : length kept ≡ 256
  pub within : at ≤ length xs

-- the move at a place is made, and the pass stands before the next one
pub record Moved {xs kept : List ℕ} {at rooms entry : ℕ} (s : Standing xs kept at rooms entry)
    (kept_next : List ℕ) (place rooms-next entry_next : ℕ) : Type 0 where
  pub move : Move
  pub ahead : at < place
  pub begins : moves_of (drop at xs) ≡ move ∷ moves_of (drop place xs)
  pub next : Standing xs kept_next place rooms-next entry_next
  pub makes : Makes move s.present next.present

pub moved_as : {xs kept : List ℕ} {at rooms entry : ℕ} (s : Standing xs kept at rooms entry) {k l : List ℕ} {p q r n e f : ℕ}
    → Moved s k p r e → l ≡ k → q ≡ p → n ≡ r → f ≡ e → Moved s l q n f
moved_as s {k} {l} {p} {q} {r} {n} {e} {f} m a b c d =
    subst (λ (j : List ℕ). Moved s j q n f) (sym a)
    (subst (λ (i : ℕ). Moved s k i n f) (sym b)
    (subst (λ (i : ℕ). Moved s k p i f) (sym c) (subst (λ (i : ℕ). Moved s k p r i) (sym d) m)))

-- ---- each kind of move
-- the first move of an accepted row
pub record Led (move : Move) (moves : List Move) (present end : List Triple) : Type 0 where
  pub state : List Triple
  pub makes : Makes move present state
  pub leads : Leads state moves end

led : {move : Move} {moves : List Move} {present end : List Triple} → Leads present (move ∷ moves) end → Led move moves present end
led (more {state = state} m l) = record { state = state; makes = m; leads = l }

-- it is not unknown
abbrev Known : Move → Type 0
Known (add t) = Unit
Known take_away = Unit
Known claim = Unit
Known unknown = ⊥

makes_known : {move : Move} {present state : List Triple} → Makes move present state → Known move
makes_known (added d e) = tt
makes_known taken = tt
makes_known (claimed d) = tt

-- what it makes of rooms, entries and what is kept
added_entry : {t : Triple} {present state : List Triple} → Makes (add t) present state → Built present
    → (rooms_of state ≡ rooms_of present + 1) × (entry_of state ≡ entry_of present + gain_of t)
added_entry {t} (added few there) b = (omega arith, entry_added t b there)

added_below : {t : Triple} {present state : List Triple} (kept : List ℕ) → Makes (add t) present state → Kept entry_of present kept
    → Below entry_of state kept
added_below kept (added few there) k = k

back_kept : (kind : ℕ) → 2 ≤ kind → kind ≤ 3 → {present state : List Triple} (kept : List ℕ) → Makes (back_move kind) present state
    → Kept entry_of present kept → (rooms_of present + kind - 3 ≡ rooms_of state) × Kept entry_of state kept
back_kept zero a b kept m k = absurd (omega arith)
back_kept (suc zero) a b kept m k = absurd (omega arith)
back_kept (suc (suc zero)) a b kept taken k = (omega arith, k.1)
back_kept (suc (suc (suc zero))) a b kept (claimed d) k = (omega arith, k)
back_kept (suc (suc (suc (suc kind)))) a b kept m k = absurd (omega arith)

module _ {xs kept : List ℕ} {at rooms entry : ℕ} (s : Standing xs kept at rooms entry) (h : at < length xs) where
  leads_to : {move : Move} {moves : List Move} → moves_of (drop at xs) ≡ move ∷ moves → Led move moves s.present s.end
  leads_to e = led (subst (λ (ms : List Move). Leads s.present ms s.end) e s.leads)

  none_unknown : ¬ (moves_of (drop at xs) ≡ unknown ∷ [])
  none_unknown e = makes_known (leads_to e).makes

  -- kind 1: it has its body
  module _ (one : get_or xs at 0 ≡ 1) where
    pub one_body : at + 1 < length xs
    one_body = go (dec_lt (at + 1) (length xs))
      where
        go : Dec (at + 1 < length xs) → at + 1 < length xs
        go (yes l) = l
        go (no l) = absurd (none_unknown (one_alone xs at h one (omega arith)))

    pub body_small : get_or xs (at + 1) 0 < 8
    body_small = go (dec_lt (get_or xs (at + 1) 0) 8)
      where
        go : Dec (get_or xs (at + 1) 0 < 8) → get_or xs (at + 1) 0 < 8
        go (yes l) = l
        go (no l) = absurd (none_unknown (one_large xs at h one one_body l))

    pub adds : Led (add (triple_of (get_or xs (at + 1) 0))) (moves_of (drop (at + 2) xs)) s.present s.end
    adds = leads_to (one_small xs at h one one_body body_small)

    -- the entry with a room more, and the number of rooms
    pub record Gained (entry_next : ℕ) : Type 0 where
      pub is : entry_next ≡ entry_of adds.state
      pub small : entry_next ≤ 65535
      pub place : rooms + 1 ≡ rooms_of adds.state
      pub room : rooms + 1 ≤ 255

    pub gained : (gain : ℕ) → gain ≡ gain_of (triple_of (get_or xs (at + 1) 0)) → Gained (entry + gain)
    gained gain e = record { is = is; small = omega (arith, is, entry_small b); place = place; room = omega (arith, place, built_few b) }
      where
        b : Built adds.state
        b = built_on adds.makes s.built

        is : entry + gain ≡ entry_of adds.state
        is = omega (arith, s.entry_is, e, (added_entry adds.makes s.built).1)

        place : rooms + 1 ≡ rooms_of adds.state
        place = omega (arith, s.rooms_are, (added_entry adds.makes s.built).0)

    pub moved_add : {entry_next : ℕ} → Gained entry_next → Moved s (set kept (rooms + 1) entry_next) (at + 2) (rooms + 1) entry_next
    moved_add {entry_next} g = record {
      move = add (triple_of (get_or xs (at + 1) 0));
      ahead = omega arith;
      begins = one_small xs at h one one_body body_small;
      next = record {
        present = adds.state;
        end = s.end;
        built = built_on adds.makes s.built;
        leads = adds.leads;
        rooms_are = g.place;
        entry_is = g.is;
        kept_are =
            kept_stored entry_of adds.state kept (rooms + 1) entry_next g.place g.is (omega (arith, g.room, s.size))
            (added_below kept adds.makes s.kept_are);
        size = length-set kept (rooms + 1) entry_next ∙ s.size;
        within = omega (arith, one_body);
      };
      makes = adds.makes;
    }

  -- kinds 2 and 3: no other is left
  module _ (none : get_or xs at 0 ≢ 1) {kind left : ℕ} (told : kind ≡ get_or xs at 0) (left_is : left ≡ rooms + kind - 3) where
    pub two_or_three : (2 ≤ kind) × (kind ≤ 3)
    two_or_three = go (ℕ_discrete (get_or xs at 0) 2) (ℕ_discrete (get_or xs at 0) 3)
      where
        go : Dec (get_or xs at 0 ≡ 2) → Dec (get_or xs at 0 ≡ 3) → (2 ≤ kind) × (kind ≤ 3)
        go (yes e) d = (omega arith, omega arith)
        go (no c) (yes e) = (omega arith, omega arith)
        go (no c) (no d) = absurd (none_unknown (other xs at h none c d))

    begins : moves_of (drop at xs) ≡ back_move kind ∷ moves_of (drop (at + 1) xs)
    begins = back_begins xs at h kind (sym told) two_or_three.0 two_or_three.1

    goes : Led (back_move kind) (moves_of (drop (at + 1) xs)) s.present s.end
    goes = leads_to begins

    back : (rooms_of s.present + kind - 3 ≡ rooms_of goes.state) × Kept entry_of goes.state kept
    back = back_kept kind two_or_three.0 two_or_three.1 kept goes.makes s.kept_are

    place : left ≡ rooms_of goes.state
    place = omega (arith, s.rooms_are, back.0)

    pub left_small : (1 ≤ left) × (left ≤ 255)
    left_small = (omega (arith, place), omega (arith, place, built_few (built_on goes.makes s.built)))

    pub moved_back : (v : ℕ) → v ≡ get_or kept left 0 → Moved s kept (at + 1) left v
    moved_back v read = record {
      move = back_move kind;
      ahead = omega arith;
      begins = begins;
      next = record {
        present = goes.state;
        end = s.end;
        built = built_on goes.makes s.built;
        leads = goes.leads;
        rooms_are = place;
        entry_is = read ∙ ap (λ (i : ℕ). get_or kept i 0) place ∙ back.1.0;
        kept_are = back.1;
        size = s.size;
        within = omega arith;
      };
      makes = goes.makes;
    }

-- ---- what is written
pub record Written (xs before now kept : List ℕ) (at moves rooms entry : ℕ) : Type 0 where
  pub standing : Standing xs kept at rooms entry
  pub done : List ℕ
  pub size : length done ≡ moves
  pub now_is : now ≡ done ++ drop moves before
  pub now_long : length now ≡ length before
  pub all : done ++ map entry_of (states_from standing.present (moves_of (drop at xs))) ≡ entries_of xs
  pub count : length (moves_of xs) ≡ moves + length (moves_of (drop at xs))

pub written_first : (xs before kept : List ℕ) → NoneRefused (moves_of xs) → length kept ≡ 256 → get_or kept 1 0 ≡ 257
    → Written xs before before kept 0 0 1 257
unfolding counts_of walk
written_first xs before kept (end, leads) size first = record {
  standing = record {
    present = [];
    end = end;
    built = start;
    leads = leads;
    rooms_are = refl;
    entry_is = refl;
    kept_are = (first, tt);
    size = size;
    within = omega arith;
  };
  done = [];
  size = refl;
  now_is = refl;
  now_long = refl;
  all = refl;
  count = omega arith;
}

module _ {xs before now kept : List ℕ} {at moves rooms entry : ℕ} (w : Written xs before now kept at moves rooms entry) where
  module _ {kept_next : List ℕ} {place rooms-next entry_next : ℕ} (m : Moved w.standing kept_next place rooms-next entry_next)
      (room : length (moves_of xs) ≤ length before) where
    pub written_room : moves < length before
    written_room = omega (arith, w.count, ap length m.begins)

    pub written_next : Written xs before (set now moves entry_next) kept_next place (moves + 1) rooms-next entry_next
    written_next = record {
      standing = m.next;
      done = w.done ++ (entry_next ∷ []);
      size = length-append w.done (entry_next ∷ []) ∙ ap (λ (k : ℕ). k + 1) w.size;
      now_is = stored;
      now_long = length-set now moves entry_next ∙ w.now_long;
      all = listed;
      count = omega (arith, w.count, ap length m.begins);
    }
      where
        rest : List Move
        rest = moves_of (drop place xs)

        stored : set now moves entry_next ≡ w.done ++ (entry_next ∷ []) ++ drop (moves + 1) before
        stored =
            let one : suc moves ≡ moves + 1 = omega arith in
            ap (λ (l : List ℕ). set l moves entry_next)
            (w.now_is ∙ ap (λ (l : List ℕ). w.done ++ l) (drop-cons before moves 0 written_room))
            ∙ set_at w.done (get_or before moves 0) (drop (suc moves) before) entry_next moves w.size
            ∙ sym (append_snoc w.done entry_next (drop (suc moves) before))
            ∙ ap (λ (k : ℕ). w.done ++ (entry_next ∷ []) ++ drop k before) one

        state : List Triple
        state = m.next.present

        states : states_from w.standing.present (moves_of (drop at xs)) ≡ state ∷ states_from state rest
        states = ap (states_from w.standing.present) m.begins ∙ states_next m.move rest w.standing.present m.makes

        listed : w.done ++ (entry_next ∷ []) ++ map entry_of (states_from state rest) ≡ entries_of xs
        listed =
            append_snoc w.done entry_next (map entry_of (states_from state rest))
            ∙ ap (λ (e : ℕ). w.done ++ e ∷ map entry_of (states_from state rest)) m.next.entry_is
            ∙ ap (λ (l : List (List Triple)). w.done ++ map entry_of l) (sym states) ∙ w.all

  -- no move is left
  pub written_end : length xs ≤ at → now ≡ filled_by xs before
  written_end l =
      let gone : moves_of (drop at xs) ≡ [] = ap moves_of (drop_of_length-le xs l) ∙ (unfold moves_of in refl) in
      let nothing : map entry_of (states_from w.standing.present (moves_of (drop at xs))) ≡ [] =
      ap (λ (ms : List Move). map entry_of (states_from w.standing.present ms)) gone ∙ (unfold states_from in refl) in
      let all : w.done ≡ entries_of xs = sym (append-nil w.done) ∙ ap (λ (l : List ℕ). w.done ++ l) (sym nothing) ∙ w.all in
      let count : moves ≡ length (moves_of xs) = omega (arith, w.count, ap length gone) in
      w.now_is ∙ (λ i. all i ++ drop (count i) before)
