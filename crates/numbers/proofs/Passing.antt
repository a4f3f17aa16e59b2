-- A line of which the first i bytes are read: the loop's invariant, what a turn leaves, and what it says at the end.
use mathlib.Core.List.{List, [], ◌∷◌}
use mathlib.Core.Logic.{◌≢◌, ◌⊎◌, inl, inr}
use mathlib.Core.Path.{◌≡◌, refl, sym, ap, subst, ◌∙◌}
use Prim.Native.Nat.{ℕ, ◌+◌, ◌-◌, ◌≤◌, ◌<◌}
use Rattle.std.proofs.lemmas.List.{length-drop}
use native.Mathlib.Numerals.{add-one}
use native.Mathlib.Omega.{arith}
use lib.ListN.{length, get_or, set, take, drop, length-set, get_or-eq_default, drop_of_length-le}
use lib.Seq.{drop-cons, get_or-take, take-length, length-take-le}
use Rattle.record.specs.declared.Refusal.{Refusal}
use Rattle.record.specs.declared.Refusal.TheVariants.{TextForm}
use Rattle.labeltext.specs.Symbol.{symbol_of, symbol_is}
use Rattle.labeltext.specs.Reader.{State, start, one, two, three, spaced, listed, broken, next, run, Done, numbers_of, broken_run}
use Rattle.numbers.specs.Places.{place_of, place_after, begins_at, Standing, Reached}
use Rattle.numbers.specs.Number.{number_at, as_byte}
use Rattle.numbers.specs.Store.{Starts, Labelled, ListedAs, Refuses}
use Rattle.numbers.specs.Store as refuses
use Rattle.numbers.proofs.Turns.{Fine, row_next, place_small, Turn, begins, grows, passes, breaks, turn}
use Rattle.numbers.proofs.Begun.{Begun, none_begun, all_ended, Course, going, lost, turned}

-- ---- places
pub standing_small : {place : ℕ} → Standing place → place ≤ 48
standing_small p = omega (arith, p.is, place_small p.state)

-- a reader comes on by one byte
place_next : (b : ℕ) (s : State) {place after : ℕ} → after ≡ place_after place (symbol_of b) → place ≡ place_of s
    → after ≡ place_of (next s (symbol_of b))
place_next b s e is = e ∙ ap (λ (q : ℕ). place_after q (symbol_of b)) is ∙ row_next s (symbol_of b)

pub standing_next : (b : ℕ) {place after : ℕ} → after ≡ place_after place (symbol_of b) → Standing place → Standing after
standing_next b e p = record {
  state = next p.state (symbol_of b);
  is = place_next b p.state e p.is;
}

-- what is reached from the next byte on is reached from this one on
pub reached_next : (line : List ℕ) (i place after end : ℕ) → i < length line → after ≡ place_after place (symbol_of (get_or line i 0))
    → Reached after (drop (i + 1) line) end → Reached place (drop i line) end
unfolding run
reached_next line i place after end h e r s is =
    let y = symbol_of (get_or line i 0) in
    r (next s y) (place_next (get_or line i 0) s e is)
    ∙ ap (λ (l : List ℕ). place_of (run (next s y) l)) (ap (λ (j : ℕ). drop j line) (add-one i))
    ∙ ap (λ (l : List ℕ). place_of (run s l)) (sym (drop-cons line i 0 h))

pub reached_end : (line : List ℕ) (i place : ℕ) → length line ≤ i → Reached place (drop i line) place
unfolding run
reached_end line i place h s is = is ∙ ap (λ (l : List ℕ). place_of (run s l)) (sym (drop_of_length-le line h))

-- the rest of a line, as the code lends it
pub rest_of : (line : List ℕ) (i : ℕ) → take (length line - i) (drop i line) ≡ drop i line
rest_of line i = ap (λ (n : ℕ). take n (drop i line)) (sym (length-drop i line)) ∙ take-length (drop i line)

-- where a line may end
not_broken : (s : State) → place_of s ≡ 0 → ¬ Done s
not_broken start e d = omega arith
not_broken (one front a) e d = omega arith
not_broken (two front a b) e d = omega arith
not_broken (three front a b c) e d = omega arith
not_broken (spaced front) e d = omega arith
not_broken (listed front) e d = omega arith
not_broken broken e d = d

not_listed : (s : State) → place_of s ≡ 48 → ¬ Done s
not_listed start e d = omega arith
not_listed (one front a) e d = omega arith
not_listed (two front a b) e d = omega arith
not_listed (three front a b c) e d = omega arith
not_listed (spaced front) e d = omega arith
not_listed (listed front) e d = d
not_listed broken e d = d

done : (s : State) → place_of s ≢ 0 → place_of s ≢ 48 → Done s
done start h k = tt
done (one front a) h k = tt
done (two front a b) h k = tt
done (three front a b c) h k = tt
done (spaced front) h k = tt
done (listed front) h k = k refl
done broken h k = h refl

-- ---- numbers do not get fewer
not_fewer : {s : State} {b : ℕ} {t : State} → Turn s b t → (Fine t × (length (numbers_of s) ≤ length (numbers_of t))) ⊎ (t ≡ broken)
not_fewer (begins q) = inl (q.fine, omega (arith, q.one_more))
not_fewer (grows q) = inl (q.fine, omega (arith, q.same))
not_fewer (passes q) = inl (q.fine, omega (arith, ap length q.numbers))
not_fewer (breaks e) = inr e

numbers_grow : (bytes : List ℕ) (s : State) → Fine s → Done (run s bytes) → length (numbers_of s) ≤ length (numbers_of (run s bytes))
unfolding run
numbers_grow [] s f d = omega arith
numbers_grow (b ∷ bytes) s f d = elim (not_fewer (turn b s (symbol_of b) (symbol_is b) f)) [
  | inl g ↦ omega (arith, g.1, numbers_grow bytes (next s (symbol_of b)) g.0 d)
  | inr e ↦ absurd (broken_run bytes (subst (λ (u : State). Done (run u bytes)) e d))
]

-- ---- the loop's invariant
pub record Passing (line : List ℕ) (i place count : ℕ) (starts : List ℕ) : Type 0 where
  pub state : State
  pub reaches : run start line ≡ run state (drop i line)
  pub place_is : place ≡ place_of state
  pub long : length starts ≡ 256
  pub few : count ≤ 256
  pub within : i ≤ length line
  pub course : Course line state i count starts

pub passing_none : (line starts : List ℕ) → length starts ≡ 256 → Passing line 0 32 0 starts
passing_none line starts long = record {
  state = start;
  reaches = refl;
  place_is = refl;
  long = long;
  few = omega arith;
  within = omega arith;
  course = going (none_begun line starts);
}

module _ {line : List ℕ} {i place count : ℕ} {starts : List ℕ} (p : Passing line i place count starts) where
  pub passing_standing : Standing place
  passing_standing = record { state = p.state; is = p.place_is }

  -- ---- a turn
  pub passing_turn : i < length line → count < 256 → {after m : ℕ} → after ≡ place_after place (symbol_of (get_or line i 0)) → m ≡ begins_at after
      → m ≤ 1 → Passing line (i + 1) after (count + m) (set starts count i)
  unfolding run
  passing_turn inside room {after} {m} leads m-is small =
      record {
        state = t;
        reaches = rw (add-one i) (p.reaches ∙ ap (run p.state) (drop-cons line i 0 inside));
        place_is = after_is;
        long = length-set starts count i ∙ p.long;
        few = omega (arith, p.few);
        within = omega arith;
        course = rw (m-is, after_is) (go p.course);
      }
    where
      t : State
      t = next p.state (symbol_of (get_or line i 0))

      after_is : after ≡ place_of (next p.state (symbol_of (get_or line i 0)))
      after_is = place_next (get_or line i 0) p.state leads p.place_is

      go : Course line p.state i count starts
          → Course line (next p.state (symbol_of (get_or line i 0))) (i + 1) (count + begins_at (place_of (next p.state (symbol_of (get_or line i 0))))) (set starts count i)
      go (going q) =
          let y = symbol_of (get_or line i 0) in
          turned q (omega (arith, p.long, p.few)) (next p.state y) (turn (get_or line i 0) p.state y (symbol_is (get_or line i 0)) q.fine)
      go (lost e) = lost (ap (λ (s : State). next s (symbol_of (get_or line i 0))) e)

  -- ---- after it
  module _ {end : ℕ} (reached : Reached place (drop i line) end) where
    end_is : end ≡ place_of (run start line)
    end_is = reached p.state p.place_is ∙ ap place_of (sym p.reaches)

    passing_broken : end ≡ 0 → ¬ Done (run start line)
    passing_broken e = not_broken (run start line) (sym end_is ∙ e)

    passing_comma : end ≡ 48 → ¬ Done (run start line)
    passing_comma e = not_listed (run start line) (sym end_is ∙ e)

    pub passing_refused : {refusal : Refusal} → (refusal ≡ TextForm) × ((end ≡ 0) ⊎ (end ≡ 48)) → Refuses line refusal
    passing_refused (is, inl e) = subst (Refuses line) (sym is) (refuses.broken (passing_broken e))
    passing_refused (is, inr e) = subst (Refuses line) (sym is) (refuses.broken (passing_comma e))

    module _ (fine : end ≢ 0) (full : end ≢ 48) where
      passing_done : Done (run start line)
      passing_done = done (run start line) (λ z. fine (end_is ∙ z)) (λ z. full (end_is ∙ z))

      pub passing_many : 255 < count → Done (run start line) × (255 < length (numbers_of (run start line)))
      passing_many many = (passing_done, go p.course)
        where
          go : Course line p.state i count starts → 255 < length (numbers_of (run start line))
          go (going q) =
              let d : Done (run p.state (drop i line)) = subst Done p.reaches passing_done in
              omega (arith, q.count_is, numbers_grow (drop i line) p.state q.fine d, ap (λ (s : State). length (numbers_of s)) p.reaches)
          go (lost e) = absurd (broken_run (drop i line) (subst Done (p.reaches ∙ ap (λ (s : State). run s (drop i line)) e) passing_done))

      -- all of the line is read
      module _ (all : length line ≤ i) (few : count ≤ 255) where
        read_state : run start line ≡ p.state
        unfolding run
        read_state = p.reaches ∙ ap (run p.state) (drop_of_length-le line all)

        begun : Begun line (run start line) i count starts
        begun = go p.course
          where
            go : Course line p.state i count starts → Begun line (run start line) i count starts
            go (going q) = subst (λ (s : State). Begun line s i count starts) (sym read_state) q
            go (lost e) = absurd (subst Done (read_state ∙ e) passing_done)

        -- the starts in use
        size : length (take count starts) ≡ count
        size = length-take-le count starts (omega (arith, p.long))

        taken : (k : ℕ) → k < length (take count starts) → get_or (take count starts) k 0 ≡ get_or starts k 0
        taken k h = get_or-take count starts k 0 (omega (arith, size))

        pub passing_listed : {list : List ℕ} → Labelled line (take count starts) list → ListedAs count line list
        passing_listed l = record {
          done = passing_done;
          count_is = begun.count_is;
          few = few;
          stores = record {
            long = l.long;
            kept = λ k h.
                let behind : get_or line i 0 ≡ 0 = get_or-eq_default line 0 all in
                let inside : k < length (take count starts) = omega (arith, size, begun.count_is) in
                l.labels k inside ∙ ap (λ (at : ℕ). as_byte (number_at line at)) (taken k inside)
                ∙ ap as_byte (all_ended begun (omega arith) k h);
          };
        }
