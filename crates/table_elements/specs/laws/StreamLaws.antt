-- What is written of the text that was read is what is written of the whole input.
use Rattle.std.specs.Prelude.{ℕ, ◌≤◌, min, ◌≡◌, List, length, take}
use Rattle.std.proofs.Common.{ap, ◌∙◌, arith}
use Rattle.decimal_text.specs.Texts.{letters, Put}
use Rattle.program_io.specs.Inputs.{Read}
use Rattle.program_io.proofs.laws.InputLaws.{read_same}
use Rattle.program_io.specs.laws.OutputLaws.{put-cut}
use Rattle.table_elements.specs.Printed.{told, printed}
use Rattle.table_elements.specs.PrintedLaws.{long-text}

-- a text that fills the array is too long, and so is the whole input; any other was read whole
module _ (array : List ℕ) (n : ℕ) (c : n ≤ length array) (l : length array ≡ 65537) (input : List ℕ)
    (q : Read input array n) where
  same-streams : printed (take n array) ≡ printed input
  same-streams =
      read_same input array n q printed (told (letters "the text has more than 65,536 bytes\n"))
      (λ s k. long-text s (omega arith)) c

  module _ (old new : List ℕ) (end r : ℕ) (e : r ≡ min end (length new)) where
    pub output-out : length old ≡ 160000 → Put old 0 (printed (take n array)).output new end
        → take r new ≡ take 160000 (printed input).output
    output-out k p =
        (put-cut (printed (take n array)).output old new end p (omega arith) r e).0
        ∙ ap (λ j. take j (printed (take n array)).output) k ∙ ap (λ s. take 160000 s.output) same-streams

    pub error-out : length old ≡ 128 → Put old 0 (printed (take n array)).error new end
        → take r new ≡ take 128 (printed input).error
    error-out k p =
        (put-cut (printed (take n array)).error old new end p (omega arith) r e).0
        ∙ ap (λ j. take j (printed (take n array)).error) k ∙ ap (λ s. take 128 s.error) same-streams
