-- The move that begins at a place of a trace, by the byte there and the next one.
use mathlib.Core.List.{List, [], ◌∷◌}
use mathlib.Core.Logic.{inl, inr, ◌≢◌, if_pos}
use mathlib.Core.Path.{◌≡◌, refl, ap, ◌∙◌}
use Prim.Native.Nat.{ℕ, zero, suc, ◌+◌, ◌≤◌, ◌<◌}
use native.Mathlib.Decide.{dec_lt}
use native.Mathlib.Omega.{arith}
use Rattle.std.specs.Prelude.{Some, None, slice_get}
use Rattle.std.proofs.lemmas.Option.{slice_get_cases, get_or_from_slice_get}
use lib.ListN.{length, get_or, drop, drop_of_length-le}
use lib.Seq.{drop-cons}
use Rattle.record.specs.TripleNumber.{triple_of}
use Rattle.traces.specs.Bytes.{unknown_kind, missing_body, above_7, bad→unknown}
use Rattle.replaying.specs.Turn.{back_move}
use Rattle.traces.specs.Move.{add, take_away, claim, unknown, moves_of}

module _ (xs : List ℕ) (at : ℕ) (h : at < length xs) where
  begins_with : (kind : ℕ) → get_or xs at 0 ≡ kind → drop at xs ≡ kind ∷ drop (at + 1) xs
  begins_with kind e =
      let s : suc at ≡ at + 1 = omega arith in
      drop-cons xs at 0 h ∙ (λ i. e i ∷ drop (s i) xs)

  -- kind 1
  pub one_alone : get_or xs at 0 ≡ 1 → length xs ≤ at + 1 → moves_of (drop at xs) ≡ unknown ∷ []
  one_alone e l =
      ap moves_of (begins_with 1 e ∙ ap (λ (ys : List ℕ). 1 ∷ ys) (drop_of_length-le xs {i = at + 1} l)) ∙ bad→unknown missing_body

  module _ (e : get_or xs at 0 ≡ 1) (l : at + 1 < length xs) where
    one_and_body : drop at xs ≡ 1 ∷ (get_or xs (at + 1) 0 ∷ drop (at + 2) xs)
    one_and_body =
        let s : suc (at + 1) ≡ at + 2 = omega arith in
        begins_with 1 e ∙ ap (λ (ys : List ℕ). 1 ∷ ys) (drop-cons xs (at + 1) 0 l ∙ ap (λ (k : ℕ). get_or xs (at + 1) 0 ∷ drop k xs) s)

    pub one_small : get_or xs (at + 1) 0 < 8 → moves_of (drop at xs) ≡ add (triple_of (get_or xs (at + 1) 0)) ∷ moves_of (drop (at + 2) xs)
    one_small small = ap moves_of one_and_body ∙ (unfold moves_of in if_pos (dec_lt (get_or xs (at + 1) 0) 8) small _ _)

    pub one_large : ¬ (get_or xs (at + 1) 0 < 8) → moves_of (drop at xs) ≡ unknown ∷ []
    one_large large = ap moves_of one_and_body ∙ bad→unknown (above_7 large)

  -- by its body, if it has one
  module _ (e : get_or xs at 0 ≡ 1) where
    pub one_missing : slice_get xs (at + 1) ≡ None → moves_of (drop at xs) ≡ unknown ∷ []
    one_missing none = elim (slice_get_cases xs (at + 1)).1 [
      | inl (x, l, is, read) ↦ cc
      | inr (l, is) ↦ one_alone e l
    ]

    body_there : {body : ℕ} → slice_get xs (at + 1) ≡ Some body → (at + 1 < length xs) × (get_or xs (at + 1) 0 ≡ body)
    body_there {body} some = elim (slice_get_cases xs (at + 1)).1 [
      | inl (x, l, is, read) ↦ (l, get_or_from_slice_get xs (at + 1) body 0 some)
      | inr (l, is) ↦ cc
    ]

    pub one_bad : {body : ℕ} → slice_get xs (at + 1) ≡ Some body → 7 < body → moves_of (drop at xs) ≡ unknown ∷ []
    one_bad some large = let (l, is) = body_there some in one_large e l (omega arith)

    pub one_good : {body : ℕ} → slice_get xs (at + 1) ≡ Some body → body ≤ 7
        → (at + 2 ≤ length xs) × (moves_of (drop at xs) ≡ add (triple_of body) ∷ moves_of (drop (at + 2) xs))
    one_good some small =
        let (l, is) = body_there some in
        (omega arith, one_small e l (omega arith) ∙ ap (λ (b : ℕ). add (triple_of b) ∷ moves_of (drop (at + 2) xs)) is)

  -- kinds 2 and 3, and all others
  pub two : get_or xs at 0 ≡ 2 → moves_of (drop at xs) ≡ take_away ∷ moves_of (drop (at + 1) xs)
  two e = ap moves_of (begins_with 2 e) ∙ (unfold moves_of in refl)

  pub three : get_or xs at 0 ≡ 3 → moves_of (drop at xs) ≡ claim ∷ moves_of (drop (at + 1) xs)
  three e = ap moves_of (begins_with 3 e) ∙ (unfold moves_of in refl)

  pub back_begins : (kind : ℕ) → get_or xs at 0 ≡ kind → 2 ≤ kind → kind ≤ 3
      → moves_of (drop at xs) ≡ back_move kind ∷ moves_of (drop (at + 1) xs)
  back_begins zero e a b = absurd (omega arith)
  back_begins (suc zero) e a b = absurd (omega arith)
  back_begins (suc (suc zero)) e a b = two e
  back_begins (suc (suc (suc zero))) e a b = three e
  back_begins (suc (suc (suc (suc kind)))) e a b = absurd (omega arith)

  pub other : get_or xs at 0 ≢ 1 → get_or xs at 0 ≢ 2 → get_or xs at 0 ≢ 3 → moves_of (drop at xs) ≡ unknown ∷ []
  other a b c = ap moves_of (begins_with (get_or xs at 0) refl) ∙ bad→unknown (unknown_kind a b c)
