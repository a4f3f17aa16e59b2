-- A tidy text as it is put: each label with a space after it, and then the newline in the place of the last space.
use mathlib.Core.List.{List, [], ◌∷◌, ◌++◌}
use mathlib.Core.Path.{◌≡◌, refl, sym, ap, ◌∙◌}
use Prim.Native.Nat.{ℕ, suc, ◌+◌, ◌-◌, ◌≤◌, ◌<◌}
use native.Mathlib.Numerals.{add-one}
use native.Mathlib.Omega.{arith}
use lib.ListN.{length, get_or, set, take, drop, length-append, take-append-drop}
use lib.Seq.{take-length, append_snoc, set_at, sets, sets-eq, length-sets}
use Rattle.digits.specs.Decimal.{space, newline, field}
use Rattle.labeltext.specs.Tidy.{tidy_line, tidy_text}
use Rattle.labeltext.specs.TidySize.{fields, fields_append, fields_next, line_fields, fields_size}

pub tidy_some : (labels : List ℕ) → 1 ≤ length (tidy_text labels)
tidy_some labels = omega (arith, length-append (tidy_line labels) (newline ∷ []))

-- where there is room for all, there is room for the next one
pub fields_fit : (labels : List ℕ) (k : ℕ) → k < length labels
    → length (fields (take k labels)) + length (field (get_or labels k 0) space) ≤ length (fields labels)
fields_fit labels k h =
    let all = sym (fields_append (take (suc k) labels) (drop (suc k) labels)) ∙ ap fields (take-append-drop (suc k) labels) in
    omega (
      arith,
      ap length all,
      length-append (fields (take (suc k) labels)) (fields (drop (suc k) labels)),
      ap length (fields_next labels k h),
      length-append (fields (take k labels)) (field (get_or labels k 0) space),
    )

-- ---- what is put
sets_append : (part rest store : List ℕ) (at : ℕ) → sets store at (part ++ rest) ≡ sets (sets store at part) (at + length part) rest
sets_append [] rest store at = ap (λ (n : ℕ). sets store n rest) (omega arith)
sets_append (b ∷ part) rest store at =
    sets_append part rest (set store at b) (suc at)
    ∙ ap (λ (n : ℕ). sets (sets (set store at b) (suc at) part) n rest) (omega arith)

-- a store that held `before`, with the first k labels put
pub record Putting (labels : List ℕ) (k : ℕ) (before now : List ℕ) (at : ℕ) : Type 0 where
  pub is : now ≡ sets before 0 (fields (take k labels))
  pub next : at ≡ length (fields (take k labels))
  pub within : k ≤ length labels

pub none_put : (labels before : List ℕ) → Putting labels 0 before before 0
none_put labels before = record { is = refl; next = refl; within = omega arith }

module _ {labels before now : List ℕ} {k at : ℕ} (p : Putting labels k before now at) where
  pub put_size : length now ≡ length before
  put_size = ap length p.is ∙ length-sets before 0 (fields (take k labels))

  pub label_put : {after : List ℕ} {end : ℕ} → k < length labels → after ≡ sets now at (field (get_or labels k 0) space)
      → end ≡ at + length (field (get_or labels k 0) space) → Putting labels (k + 1) before after end
  label_put {after} {end} h is next =
      let more = fields_next labels k h in
      rw (add-one k) (record {
        is =
            is ∙ (λ i. sets (p.is i) (p.next i) (field (get_or labels k 0) space))
            ∙ sym (ap (sets before 0) more ∙ sets_append (fields (take k labels)) (field (get_or labels k 0) space) before 0
            ∙ ap (λ (n : ℕ). sets (sets before 0 (fields (take k labels))) n (field (get_or labels k 0) space)) (omega arith));
        next = omega (arith, p.next, ap length more, length-append (fields (take k labels)) (field (get_or labels k 0) space));
        within = omega arith;
      })

  module _ (some : 1 ≤ length labels) (last : length labels ≤ k) where
    all_labels : take k labels ≡ labels
    all_labels = let is : k ≡ length labels = omega (arith, p.within) in ap (λ (n : ℕ). take n labels) is ∙ take-length labels

    pub all_size : at ≡ length (tidy_text labels)
    all_size = p.next ∙ ap (λ (l : List ℕ). length (fields l)) all_labels ∙ fields_size labels some

    -- the newline in the place of the last space
    pub all_put : length (tidy_text labels) ≤ length before
        → set now (at - 1) newline ≡ tidy_text labels ++ drop (length (tidy_text labels)) before
    all_put room =
        let size : 0 + length (fields labels) ≡ length (tidy_text labels) = omega (arith, fields_size labels some) in
        let rest = drop (length (tidy_text labels)) before in
        let long : length (tidy_line labels) ≡ at - 1 = omega (arith, all_size, length-append (tidy_line labels) (newline ∷ [])) in
        let whole : now ≡ tidy_line labels ++ (space ∷ rest) =
        p.is ∙ ap (λ (l : List ℕ). sets before 0 (fields l)) all_labels
        ∙ sets-eq (fields labels) before 0 (omega arith)
        ∙ (λ i. sym (line_fields labels some) i ++ drop (size i) before)
        ∙ append_snoc (tidy_line labels) space rest in
        ap (λ (l : List ℕ). set l (at - 1) newline) whole ∙ set_at (tidy_line labels) space rest newline (at - 1) long
        ∙ sym (append_snoc (tidy_line labels) newline rest)
