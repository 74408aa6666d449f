-- The lines stand at the start of the line's array, of 128 bytes.
use Rattle.std.specs.Prelude.{ℕ, ◌≤◌, ◌<◌, min, ◌≡◌, List, ◌++◌, length, take}
use Rattle.std.proofs.Common.{ap, ◌∙◌, arith, length-append}
use Rattle.decimal_text.specs.Decimals.{decimal}
use Rattle.decimal_text.specs.laws.DecimalLaws.{decimal_64}
use Rattle.decimal_text.specs.Texts.{letters, Put, Counts}
use Rattle.program_io.specs.laws.OutputLaws.{put_whole, put-cut}
use Rattle.streams.specs.Streams.{told_for}
use Rattle.stream.specs.Unwritten.{unwritten_line}

-- what is reported of request k
pub told_cut : (count k at : ℕ) (s sines room old new : List ℕ) (end r : ℕ) → count ≡ k → length old ≡ 128
    → Put old 0 (told_for count at s sines room) new end → r ≡ min end (length new)
    → (take r new ≡ take 128 (told_for k at s sines room)) × Counts r new
told_cut count k at s sines room old new end r e l p m =
    let w = put-cut (told_for count at s sines room) old new end p (omega arith) r m in
    (w.0 ∙ ap (λ j. take j (told_for count at s sines room)) l ∙ ap (λ j. take 128 (told_for j at s sines room)) e, w.1)

-- two numbers of 64 bits and the words: 106 bytes at most
unwritten_length : (count at : ℕ) → count < 18446744073709551616 → at < 18446744073709551616 → length (unwritten_line count at) ≤ 106
unfolding unwritten_line
unwritten_length count at h g =
    omega (
      arith,
      decimal_64 count h,
      decimal_64 at g,
      length-append (decimal count ++ letters " (byte " ++ decimal at) (letters "): standard output could not be written\n"),
      length-append (decimal count ++ letters " (byte ") (decimal at),
      length-append (decimal count) (letters " (byte "),
    )

pub unwritten_whole : (count at : ℕ) (old new : List ℕ) (r : ℕ) → count < 18446744073709551616 → at < 18446744073709551616 → length old ≡ 128
    → Put old 0 (unwritten_line count at) new r → (take r new ≡ unwritten_line count at) × Counts r new
unwritten_whole count at old new r h g l p =
    put_whole (unwritten_line count at) old new r p (omega (arith, unwritten_length count at h g)) (omega arith)
