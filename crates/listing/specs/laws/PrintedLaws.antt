-- A sheet that was read whole has its listing; an input that fills the array is too long.
use Rattle.std.specs.Prelude.{ℕ, ◌≤◌, ◌<◌, min, ◌≡◌, refl, Bool, true, false, List, [], leb, pos, length, take}
use Rattle.std.proofs.Common.{ap, ◌∙◌, arith, le-ltb, lt-ltb, leb-true, leb-false, length-take, length-take-le}
use Rattle.decimal_text.specs.Texts.{letters, Put, Counts}
use Rattle.program_io.specs.Inputs.{Read}
use Rattle.program_io.proofs.laws.InputLaws.{read_whole, read-full}
use Rattle.program_io.specs.Outputs.{Sent, to_output, to_error}
use Rattle.program_io.specs.laws.OutputLaws.{put_whole, put-cut}
use Rattle.listings.specs.Listings.{told, printed}
use Rattle.listing.specs.Printed.{output, error}

long_written : (input : List ℕ) → 327680 ≤ length input → ([] ≡ output input) × (letters "sheet of 327680 bytes or more\n" ≡ error input)
unfolding output error
long_written input h = rw (le-ltb (length input) 327680 h) (refl, refl)

short_written : (input : List ℕ) → length input < 327680 → (printed (told input) ≡ output input) × ([] ≡ error input)
unfolding output error
short_written input h = rw (lt-ltb (length input) 327680 h) (refl, refl)

module _ (array old new : List ℕ) (n : ℕ) (l : length array ≡ 327680) (k : length old ≡ 2000000) where
  -- the array is full, so the input has as many bytes at least
  pub long-out : (end : ℕ) → 327680 ≤ n → n ≤ length array → Put old 0 (letters "sheet of 327680 bytes or more\n") new end
      → ((input : List ℕ) → Read input array n → Sent (pos 2) (take end new) (take 2000000 (output input)) (error input)) × Counts end new
  long-out end h c p =
      let w = put_whole (letters "sheet of 327680 bytes or more\n") old new end p (omega arith) (omega arith) in (
        (λ input q.
            let m : length (take n array) ≡ min (length array) (length input) = ap length q ∙ length-take (length array) input in
            let o = long_written input (omega (arith, m, length-take-le n array c)) in
            to_error refl (ap (take 2000000) o.0) (w.0 ∙ o.1)),
        w.1,
      )

  pub listing-out : (end r : ℕ) → n < 327680 → n ≤ length array → Put old 0 (printed (told (take n array))) new end → r ≡ min end (length new)
      → (input : List ℕ) → Read input array n → Sent (pos 1) (take r new) (take 2000000 (output input)) (error input)
  listing-out end r h c p e input q = by (leb (length array) (length input)) refl
    where
      by : (b : Bool) → leb (length array) (length input) ≡ b → Sent (pos 1) (take r new) (take 2000000 (output input)) (error input)
      by true b =
          let f = read-full input array n q c (leb-true (length array) (length input) b) in
          absurd (omega arith)
      by false b =
          let s = leb-false (length array) (length input) b in
          let t : take n array ≡ input = read_whole input array n q (omega arith) in
          let o = short_written input (omega arith) in
          let x = (put-cut (printed (told (take n array))) old new end p (omega arith) r e).0 in
          to_output refl (x ∙ ap (λ j. take j (printed (told (take n array)))) k ∙ ap (take 2000000) (ap (λ s. printed (told s)) t ∙ o.0)) o.1
