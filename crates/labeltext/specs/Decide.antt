-- Whether a text keeps the form, decided by reading its line; a text lists one list at most.
use Rattle.std.specs.Prelude.{List, ◌≡◌, ℕ, ◌≤◌, length}
use Rattle.std.proofs.Common.{sym, ◌∙◌}
use Rattle.std.proofs.Math.Decide.{dec_le}
use Rattle.labeltext.specs.Form.{Lists, KeepsForm}
use Rattle.labeltext.specs.Reader.{start, run, Done, numbers_of, dec_done}
use Rattle.labeltext.specs.LineRead.{line_read}
use Rattle.labeltext.specs.ReadLine.{read_line}
use Rattle.labeltext.specs.LineOf.{line_length, line_of, lists_line, line_lists}

-- a text lists one list at most, so "the labels" that it lists are a function of it
pub lists_one : {text numbers others : List ℕ} → Lists text numbers → Lists text others → numbers ≡ others
lists_one l m = sym (line_read (lists_line l)).numbers_are ∙ (line_read (lists_line m)).numbers_are

-- a text whose line is read to its end
pub read_lists : (text : List ℕ) → Done (run start (line_of text)) → Lists text (numbers_of (run start (line_of text)))
read_lists text done = line_lists text (numbers_of (run start (line_of text))) (read_line (line_of text) done)

pub lists_done : {text numbers : List ℕ} → Lists text numbers → Done (run start (line_of text))
lists_done l = (line_read (lists_line l)).done

unfoldable pub dec_keeps_form : (text : List ℕ) → Dec (KeepsForm text)
unfolding run dec_done dec_le line_length
dec_keeps_form text = go (dec_le (length text) 4096) (dec_done (run start (line_of text)))
  where
    go : Dec (length text ≤ 4096) → Dec (Done (run start (line_of text))) → Dec (KeepsForm text)
    go (yes short) (yes done) =
        yes (record { short = short; numbers = numbers_of (run start (line_of text)); lists = read_lists text done })
    go (yes short) (no left) = no (λ k. left (lists_done k.lists))
    go (no long) done = no (λ k. long k.short)
