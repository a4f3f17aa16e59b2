-- Where the numbers of a line begin: what is noted of the first i bytes, and what the next byte leaves of it.
use mathlib.Core.List.{List, [], ◌∷◌}
use mathlib.Core.Logic.{inl, inr, if_pos, if_neg}
use mathlib.Core.Path.{◌≡◌, refl, sym, ap, subst, ◌∙◌}
use Prim.Native.Nat.{ℕ, ◌+◌, ◌*◌, ◌-◌, ◌≤◌, ◌<◌}
use native.Mathlib.Decide.{dec_lt}
use native.Mathlib.Omega.{arith}
use lib.ListN.{length, get_or, set, length-append, get_or-append}
use lib.Seq.{get_or_at, get_or-set_same, get_or-set_other}
use Rattle.finite.specs.Decide.{eq_or_ne}
use Rattle.labeltext.specs.Reader.{State, start, one, two, three, spaced, listed, broken, numbers_of}
use Rattle.numbers.specs.Places.{place_of, begins_at}
use Rattle.numbers.specs.Number.{number_in, number_at}
use Rattle.numbers.proofs.Turns.{front_of, word_of, Fine, First, More, Past, Turn, begins, grows, passes, breaks}

-- the digits of a word stand in the line from `at` on, and end before i
pub record Here (line word : List ℕ) (i at : ℕ) : Type 0 where
  pub end : 1 ≤ length word → at + length word ≡ i
  pub bytes : (j : ℕ) → j < length word → get_or line (at + j) 0 ≡ 48 + get_or word j 0

pub record Begun (line : List ℕ) (s : State) (i count : ℕ) (starts : List ℕ) : Type 0 where
  pub fine : Fine s
  pub count_is : count ≡ length (numbers_of s)
  pub ended : (k : ℕ) → k < length (front_of s) → number_at line (get_or starts k 0) ≡ get_or (front_of s) k 0
  pub here : Here line (word_of s) i (get_or starts (length (front_of s)) 0)
  pub inside : (k : ℕ) → k < count → get_or starts k 0 < i

pub none_begun : (line starts : List ℕ) → Begun line start 0 0 starts
none_begun line starts = record {
  fine = tt;
  count_is = refl;
  ended = λ k h. absurd (omega arith);
  here = record { end = λ h. absurd (omega arith); bytes = λ j h. absurd (omega arith) };
  inside = λ k h. absurd (omega arith);
}

-- ---- a number that has ended
-- one, two or three digits, and no digit behind them unless they are three
one_digit : (a b c x : ℕ) → x < 10 → a ≡ 48 + x → b ≤ 47 → number_in a b c ≡ x
unfolding number_in
one_digit a b c x small e low = if_neg (dec_lt 47 b) (λ h. omega arith) _ _ ∙ omega arith

two_digits : (a b c x y : ℕ) → x < 10 → y < 10 → a ≡ 48 + x → b ≡ 48 + y → c ≤ 47 → number_in a b c ≡ 10 * x + y
unfolding number_in
two_digits a b c x y hx hy e d low = if_pos (dec_lt 47 b) (omega arith) _ _ ∙ if_neg (dec_lt 47 c) (λ h. omega arith) _ _ ∙ omega arith

three_digits : (a b c x y z : ℕ) → x < 10 → y < 10 → z < 10 → a ≡ 48 + x → b ≡ 48 + y → c ≡ 48 + z → number_in a b c ≡ 100 * x + 10 * y + z
unfolding number_in
three_digits a b c x y z hx hy hz e d f = if_pos (dec_lt 47 b) (omega arith) _ _ ∙ if_pos (dec_lt 47 c) (omega arith) _ _ ∙ omega arith

module _ (line : List ℕ) (i at : ℕ) (low : get_or line i 0 ≤ 47) where
  -- the byte behind the word
  behind : (j : ℕ) → at + j ≡ i → get_or line (at + j) 0 ≤ 47
  behind j e = subst (λ (m : ℕ). get_or line m 0 ≤ 47) (sym e) low

  first : (word : List ℕ) → Here line word i at → 0 < length word → get_or line at 0 ≡ 48 + get_or word 0 0
  first word h some = let same : at ≡ at + 0 = omega arith in ap (λ (m : ℕ). get_or line m 0) same ∙ h.bytes 0 some

  -- the word's number is the last one
  complete : (s : State) → Fine s → Here line (word_of s) i at → (k : ℕ) → k ≡ length (front_of s) → k < length (numbers_of s)
      → number_at line at ≡ get_or (numbers_of s) k 0
  complete start f h k e l = absurd (omega arith)
  complete (one front a) f h k e l =
      one_digit _ _ _ a f (first (a ∷ []) h (omega arith)) (behind 1 (h.end (omega arith))) ∙ sym (get_or_at front a [] 0 k (sym e))
  complete (two front a b) (f, g) h k e l =
      two_digits _ _ _ a b f g (first (a ∷ b ∷ []) h (omega arith)) (h.bytes 1 (omega arith)) (behind 2 (h.end (omega arith)))
      ∙ sym (get_or_at front (10 * a + b) [] 0 k (sym e))
  complete (three front a b c) (f, g, m) h k e l =
      three_digits _ _ _ a b c f g m (first (a ∷ b ∷ c ∷ []) h (omega arith)) (h.bytes 1 (omega arith)) (h.bytes 2 (omega arith))
      ∙ sym (get_or_at front (100 * a + 10 * b + c) [] 0 k (sym e))
  complete (spaced front) f h k e l = absurd (omega arith)
  complete (listed front) f h k e l = absurd (omega arith)
  complete broken f h k e l = absurd f

-- the numbers begin with those that have ended
front_number : (s : State) (k : ℕ) → k < length (front_of s) → get_or (numbers_of s) k 0 ≡ get_or (front_of s) k 0
front_number start k h = refl
front_number (one front a) k h = get_or-append front (a ∷ []) 0 k h
front_number (two front a b) k h = get_or-append front ((10 * a + b) ∷ []) 0 k h
front_number (three front a b c) k h = get_or-append front ((100 * a + 10 * b + c) ∷ []) 0 k h
front_number (spaced front) k h = refl
front_number (listed front) k h = refl
front_number broken k h = refl

-- and there is one more at most
front_size : (s : State) → (length (front_of s) ≤ length (numbers_of s)) × (length (numbers_of s) ≤ length (front_of s) + 1)
front_size start = (omega arith, omega arith)
front_size (one front a) = let e = length-append front (a ∷ []) in (omega arith, omega arith)
front_size (two front a b) = let e = length-append front ((10 * a + b) ∷ []) in (omega arith, omega arith)
front_size (three front a b c) = let e = length-append front ((100 * a + 10 * b + c) ∷ []) in (omega arith, omega arith)
front_size (spaced front) = (omega arith, omega arith)
front_size (listed front) = (omega arith, omega arith)
front_size broken = (omega arith, omega arith)

module _ {line : List ℕ} {s : State} {i count : ℕ} {starts : List ℕ} (p : Begun line s i count starts) where
  -- where no digit follows, each number is the one at its start
  pub all_ended : get_or line i 0 ≤ 47 → (k : ℕ) → k < length (numbers_of s) → number_at line (get_or starts k 0) ≡ get_or (numbers_of s) k 0
  all_ended low k h = elim (eq_or_ne k (length (front_of s))) [
    | inl e ↦ subst (λ (j : ℕ). number_at line (get_or starts j 0) ≡ get_or (numbers_of s) k 0) (sym e) (complete line i _ low s p.fine p.here k e h)
    | inr ne ↦ let l : k < length (front_of s) = omega (arith, (front_size s).1) in p.ended k l ∙ sym (front_number s k l)
  ]

-- ---- one byte
-- what is noted after it, unless the form is broken
pub data Course (line : List ℕ) (s : State) (i count : ℕ) (starts : List ℕ) : Type 0 where
  going : Begun line s i count starts → Course line s i count starts
  lost : s ≡ broken → Course line s i count starts

module _ {line : List ℕ} {s : State} {i count : ℕ} {starts : List ℕ} (p : Begun line s i count starts) (room : count < length starts) where
  abbrev noted : List ℕ
  noted = set starts count i

  old : (k : ℕ) → k < count → get_or noted k 0 ≡ get_or starts k 0
  old k h = get_or-set_other starts count k i 0 (λ e. omega arith)

  new : (k : ℕ) → k ≡ count → get_or noted k 0 ≡ i
  new k e = ap (λ (j : ℕ). get_or noted j 0) e ∙ get_or-set_same starts count i 0 room

  abbrev b : ℕ
  b = get_or line i 0

  past : (t : State) → Past s b t → Begun line t (i + 1) (count + begins_at (place_of t)) noted
  past t q = record {
    fine = q.fine;
    count_is = omega (arith, q.none, p.count_is, ap length q.numbers);
    ended = λ k h.
        let l : k < length (numbers_of s) = omega (arith, ap length q.front) in
        ap (number_at line) (old k (omega (arith, p.count_is))) ∙ all_ended p q.low k l ∙ ap (λ (x : List ℕ). get_or x k 0) (sym q.front);
    here = record {
      end = λ h. absurd (omega (arith, ap length q.word));
      bytes = λ j h. absurd (omega (arith, ap length q.word));
    };
    inside = λ k h. let l : k < count = omega (arith, q.none) in omega (arith, old k l, p.inside k l);
  }

  -- the numbers that have ended stay
  stays : (t : State) → front_of t ≡ front_of s → (k : ℕ) → k < length (front_of t) → number_at line (get_or noted k 0) ≡ get_or (front_of t) k 0
  stays t e k h =
      let l : k < length (front_of s) = omega (arith, ap length e) in
      ap (number_at line) (old k (omega (arith, p.count_is, (front_size s).0))) ∙ p.ended k l ∙ ap (λ (x : List ℕ). get_or x k 0) (sym e)

  first_digit : (t : State) → First s b t → Begun line t (i + 1) (count + begins_at (place_of t)) noted
  first_digit t q =
      let at : get_or noted (length (front_of t)) 0 ≡ i = new (length (front_of t)) (omega (arith, ap length q.front, q.all, p.count_is)) in
      record {
        fine = q.fine;
        count_is = omega (arith, q.begins, q.one_more, p.count_is);
        ended = stays t q.front;
        here = record {
          end = λ h. omega (arith, at, ap length q.word);
          bytes = λ j h.
              let zero : j ≡ 0 = omega (arith, ap length q.word) in
              let place : get_or noted (length (front_of t)) 0 + j ≡ i = omega arith in
              let value : get_or (word_of t) j 0 ≡ b - 48 = λ m. get_or (q.word m) (zero m) 0 in
              ap (λ (m : ℕ). get_or line m 0) place ∙ q.digit ∙ ap (λ (v : ℕ). 48 + v) (sym value);
        };
        inside = λ k h. elim (eq_or_ne k count) [
          | inl e ↦ omega (arith, new k e)
          | inr ne ↦ let l : k < count = omega (arith, q.begins) in omega (arith, old k l, p.inside k l)
        ];
      }

  next_digit : (t : State) → More s b t → Begun line t (i + 1) (count + begins_at (place_of t)) noted
  next_digit t q =
      let word = word_of s in
      let size : length (word_of t) ≡ length word + 1 = ap length q.word ∙ length-append word ((b - 48) ∷ []) in
      let at : get_or noted (length (front_of t)) 0 ≡ get_or starts (length (front_of s)) 0 =
      old (length (front_of t)) (omega (arith, ap length q.front, q.all, p.count_is)) ∙ ap (λ (m : List ℕ). get_or starts (length m) 0) q.front in
      let end = p.here.end q.some in
      record {
        fine = q.fine;
        count_is = omega (arith, q.none, q.same, p.count_is);
        ended = stays t q.front;
        here = record {
          end = λ h. omega arith;
          bytes = λ j h. elim (eq_or_ne j (length word)) [
            | inl e ↦
                let place : get_or noted (length (front_of t)) 0 + j ≡ i = omega arith in
                let value : get_or (word_of t) j 0 ≡ b - 48 =
                ap (λ (x : List ℕ). get_or x j 0) q.word ∙ get_or_at word (b - 48) [] 0 j (sym e) in
                ap (λ (m : ℕ). get_or line m 0) place ∙ q.digit ∙ ap (λ (v : ℕ). 48 + v) (sym value)
            | inr ne ↦
                let l : j < length word = omega arith in
                let value : get_or (word_of t) j 0 ≡ get_or word j 0 =
                ap (λ (x : List ℕ). get_or x j 0) q.word ∙ get_or-append word ((b - 48) ∷ []) 0 j l in
                ap (λ (m : ℕ). get_or line (m + j) 0) at ∙ p.here.bytes j l ∙ ap (λ (v : ℕ). 48 + v) (sym value)
          ];
        };
        inside = λ k h. let l : k < count = omega (arith, q.none) in omega (arith, old k l, p.inside k l);
      }

  pub turned : (t : State) → Turn s b t → Course line t (i + 1) (count + begins_at (place_of t)) noted
  turned t (begins q) = going (first_digit t q)
  turned t (grows q) = going (next_digit t q)
  turned t (passes q) = going (past t q)
  turned t (breaks e) = lost e
