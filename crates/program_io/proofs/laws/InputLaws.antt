-- An input that is shorter than the array was read whole; of one that is not, as many bytes were read as the array has.
use Rattle.std.specs.Prelude.{ℕ, ◌≤◌, ◌≡◌, refl, Bool, true, false, List, leb, length, take}
use Rattle.std.proofs.Common.{sym, ap, ◌∙◌, arith, leb-true, leb-false, length-take-le, take_all}
use Rattle.program_io.specs.Inputs.{Read}

module _ (input array : List ℕ) (n : ℕ) (r : Read input array n) where
  pub read_whole : length input ≤ length array → take n array ≡ input
  read_whole h = r ∙ take_all (length array) input h

  pub read-full : n ≤ length array → length array ≤ length input → n ≡ length array
  read-full c h = sym (length-take-le n array c) ∙ ap length r ∙ length-take-le (length array) input h

  -- what is the same of all bytes that fill the array or would run over is the same of what was read and of the input
  pub read_same : {A : Type 0} (f : List ℕ → A) (x : A) → ((s : List ℕ) → length array ≤ length s → f s ≡ x) → n ≤ length array
      → f (take n array) ≡ f input
  read_same {A} f x e c = by (leb (length array) (length input)) refl
    where
      by : (b : Bool) → leb (length array) (length input) ≡ b → f (take n array) ≡ f input
      by true b =
          let h = leb-true (length array) (length input) b in
          let k : length (take n array) ≡ length array = length-take-le n array c ∙ read-full c h in
          e (take n array) (omega arith) ∙ sym (e input h)
      by false b =
          let h = leb-false (length array) (length input) b in
          ap f (read_whole (omega arith))
