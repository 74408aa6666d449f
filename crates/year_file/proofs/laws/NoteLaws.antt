-- Laws of the notes: how many bytes they have, and that the stretches are read back from them.
use Rattle.std.specs.Prelude.{ℕ, zero, suc, ◌+◌, ◌-◌, ◌*◌, ◌/◌, ◌%◌, ◌<◌, ◌≡◌, refl, List, [], ◌∷◌, ◌++◌, length, drop}
use Rattle.std.proofs.Common.{sym, ap, ◌∙◌, append_assoc, append-nil, arith, length-append, drop_at}
use Rattle.sheet_format.specs.declared.kinds.Width.TheVariants.{Four}
use Rattle.big_endian.specs.Numbers.{four, four_at, eight, eight_at}
use Rattle.sheet_format.specs.laws.NumberLaws.{number_back}
use Rattle.year_file.specs.Walk.{Stretch, steps, ended, stretches, note_of, notes_of, notes}
use Rattle.year_file.specs.Claims.{Apart, read_notes}
use Rattle.year_file.specs.laws.StepLaws.{walked}
use Rattle.year_file.proofs.laws.StretchLaws.{few}

-- ---- how many bytes

pub length-notes : (ts : List Stretch) → length (notes_of ts) ≡ 16 * length ts
unfolding notes_of
length-notes [] = refl
length-notes (t ∷ ts) = omega (arith, length-append (note_of t) (notes_of ts), length-notes ts)

-- what is noted of a file that 64 bits count is counted by 64 bits too
pub notes_fit : (file : List ℕ) → length file < 18446744073709551616 → length (notes file) < 18446744073709551615
notes_fit file h = omega (arith, length-notes (stretches file), few file (steps file) (walked file) 0 0)

-- what is noted of the stretch that ends before a place
pub ended-none : (at n : ℕ) → n ≡ 0 → notes_of (ended at n) ≡ []
unfolding notes_of
ended-none at n e = rw e

pub ended_note : (at n : ℕ) → (n ≡ 0 → ⊥) → notes_of (ended at n) ≡ eight (at - n) ++ eight n
unfolding notes_of
ended_note at zero h = absurd (h refl)
ended_note at (suc n) h = append-nil (eight (at - suc n) ++ eight (suc n))

-- ---- eight bytes read back

-- the lower four bytes are those of the remainder
four_low : (v : ℕ) → four v ≡ four (v % 4294967296)
four_low v =
    let d : v / 65536 / 256 % 256 ≡ v % 4294967296 / 65536 / 256 % 256 = omega arith in
    let c : v / 65536 % 256 ≡ v % 4294967296 / 65536 % 256 = omega arith in
    let b : v / 256 % 256 ≡ v % 4294967296 / 256 % 256 = omega arith in
    let a : v % 256 ≡ v % 4294967296 % 256 = omega arith in
    rw (d, c, b, a)

eight_back : (v : ℕ) → v < 18446744073709551616 → (p rest : List ℕ) (at : ℕ) → at ≡ length p → eight_at (p ++ (eight v ++ rest)) at ≡ v
eight_back v h p rest at e =
    let high = v / 4294967296 in
    let low = v % 4294967296 in
    let f : p ++ (eight v ++ rest) ≡ p ++ (four high ++ (four v ++ rest)) = ap (λ x. p ++ x) (append_assoc (four high) (four v) rest) in
    let g : p ++ (eight v ++ rest) ≡ (p ++ four high) ++ (four low ++ rest) =
    f ∙ ap (λ x. p ++ (four high ++ (x ++ rest))) (four_low v) ∙ sym (append_assoc p (four high) (four low ++ rest)) in
    let x = number_back Four high (omega arith) p (four v ++ rest) at e in
    let y = number_back Four low (omega arith) (p ++ four high) rest (at + 4) (omega (arith, e, length-append p (four high))) in
    let i : four_at (p ++ (eight v ++ rest)) at ≡ high = ap (λ l. four_at l at) f ∙ x in
    let j : four_at (p ++ (eight v ++ rest)) (at + 4) ≡ low = ap (λ l. four_at l (at + 4)) g ∙ y in
    ap (λ k. k * 4294967296 + four_at (p ++ (eight v ++ rest)) (at + 4)) i ∙ ap (λ k. high * 4294967296 + k) j ∙ omega arith

pub first_back : (v w : ℕ) → v < 18446744073709551616 → eight_at (eight v ++ eight w) 0 ≡ v
first_back v w h = eight_back v h [] (eight w) 0 refl

pub second_back : (v w : ℕ) → w < 18446744073709551616 → eight_at (eight v ++ eight w) 8 ≡ w
second_back v w h = ap (λ l. eight_at (eight v ++ l) 8) (sym (append-nil (eight w))) ∙ eight_back w h (eight v) [] 8 refl

-- ---- stretches read back

pub notes-read : (ts : List Stretch) (low end : ℕ) → Apart low ts end → end < 18446744073709551616 → read_notes (length ts) (notes_of ts) ≡ ts
unfolding notes_of Apart read_notes
notes-read [] low end a h = refl
notes-read (t ∷ ts) low end a h =
    let rest = notes_of ts in
    let s = note_of t ++ rest in
    let split : s ≡ eight t.from ++ (eight t.long ++ rest) = append_assoc (eight t.from) (eight t.long) rest in
    let f : eight_at s 0 ≡ t.from = ap (λ l. eight_at l 0) split ∙ eight_back t.from (omega (arith, a.2)) [] (eight t.long ++ rest) 0 refl in
    let g : eight_at s 8 ≡ t.long = ap (λ l. eight_at l 8) split ∙ eight_back t.long (omega (arith, a.2)) (eight t.from) rest 8 refl in
    ap (λ x. record { from = x; long = eight_at s 8 } ∷ read_notes (length ts) (drop 16 s)) f
    ∙ ap (λ x. record { from = t.from; long = x } ∷ read_notes (length ts) (drop 16 s)) g
    ∙ ap (λ l. t ∷ l) (ap (read_notes (length ts)) (drop_at (note_of t) rest 16 refl) ∙ notes-read ts (t.from + t.long + 1) end a.3 h)
