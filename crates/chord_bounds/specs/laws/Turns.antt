-- A turn and a quarter turn more.
--   reduced-turn     a whole turn more changes nothing
--   cosine_as_sine   the cosine is the sine of a quarter turn more
use Rattle.std.specs.Prelude.{◌≡◌, ℕ, ◌+◌, ◌-◌, ◌%◌, ◌≤◌, ◌<◌, ℤ, pos, negsuc, neg_ℤ, ◌+ℤ◌}
use Rattle.std.proofs.Common.{sym, ◌∙◌, ap, ⊎_elim, arith}
use Rattle.std.proofs.Math.IntN.{neg_ℤ-neg_ℤ}
use Rattle.rounding.specs.Parts.{same, sum}
use Rattle.sine.specs.Sine.{reduced, sineIn, sine, cosine}
use Rattle.sine.specs.laws.SineLaws.{either, reduced_below, sine-quarter, cosine-quarter, cosine-reduced}

-- -1 - n and a turn is 359,999,999 - n, or is below 0 too
pub reduced-turn : (z : ℤ) → reduced (z +ℤ pos 360_000_000) ≡ reduced z
unfolding reduced
reduced-turn (pos n) = omega arith
reduced-turn (negsuc n) = ⊎_elim below above (either n 359_999_999)
  where
    below : 359_999_999 < n → reduced (negsuc n +ℤ pos 360_000_000) ≡ 359_999_999 - n % 360_000_000
    below l =
        rw (same (negsuc n +ℤ pos 360_000_000) (negsuc (n - 360_000_000)) (omega (arith, (sum (negsuc n) (pos 360_000_000)).is)))
        (omega arith)

    above : n ≤ 359_999_999 → reduced (negsuc n +ℤ pos 360_000_000) ≡ 359_999_999 - n % 360_000_000
    above l =
        rw (same (negsuc n +ℤ pos 360_000_000) (pos (359_999_999 - n)) (omega (arith, (sum (negsuc n) (pos 360_000_000)).is)))
        (omega arith)

-- a quarter turn more, of the angle and of the reduced angle
reduced-quarter : (z : ℤ) → reduced (z +ℤ pos 90_000_000) ≡ (reduced z + 90_000_000) % 360_000_000
unfolding reduced
reduced-quarter (pos n) = omega arith
reduced-quarter (negsuc n) = ⊎_elim below above (either n 89_999_999)
  where
    below : 89_999_999 < n → reduced (negsuc n +ℤ pos 90_000_000) ≡ (359_999_999 - n % 360_000_000 + 90_000_000) % 360_000_000
    below l =
        rw (same (negsuc n +ℤ pos 90_000_000) (negsuc (n - 90_000_000)) (omega (arith, (sum (negsuc n) (pos 90_000_000)).is)))
        (omega arith)

    above : n ≤ 89_999_999 → reduced (negsuc n +ℤ pos 90_000_000) ≡ (359_999_999 - n % 360_000_000 + 90_000_000) % 360_000_000
    above l =
        rw (same (negsuc n +ℤ pos 90_000_000) (pos (89_999_999 - n)) (omega (arith, (sum (negsuc n) (pos 90_000_000)).is)))
        (omega arith)

-- of an angle below a turn
cosine_below : (r : ℕ) → r < 360_000_000 → cosine (pos r) ≡ sine (pos ((r + 90_000_000) % 360_000_000))
cosine_below r h =
    ⊎_elim
    (λ (l : r < 270_000_000).
    let e : (r + 90_000_000) % 360_000_000 ≡ r + 90_000_000 = omega arith in
    let b : r + 90_000_000 - 90_000_000 ≡ r = omega arith in
    sym (ap (λ (n : ℕ). sine (pos n)) e ∙ sine-quarter (r + 90_000_000) (omega arith) (omega arith) ∙ ap (λ (n : ℕ). cosine (pos n)) b))
    (λ (g : 270_000_000 ≤ r).
    let e : r - 90_000_000 - 90_000_000 - 90_000_000 ≡ (r + 90_000_000) % 360_000_000 = omega arith in
    cosine-quarter r (omega arith) (omega arith)
    ∙ ap neg_ℤ (sine-quarter (r - 90_000_000) (omega arith) (omega arith) ∙ cosine-quarter (r - 90_000_000 - 90_000_000) (omega arith) (omega arith))
    ∙ neg_ℤ-neg_ℤ (sine (pos (r - 90_000_000 - 90_000_000 - 90_000_000)))
    ∙ ap (λ (n : ℕ). sine (pos n)) e)
    (either 270_000_000 r)

pub cosine_as_sine : (z : ℤ) → cosine z ≡ sine (z +ℤ pos 90_000_000)
unfolding sine reduced
cosine_as_sine z =
    let e : (reduced z + 90_000_000) % 360_000_000 % 360_000_000 ≡ (reduced z + 90_000_000) % 360_000_000 = omega arith in
    sym (cosine-reduced z) ∙ cosine_below (reduced z) (reduced_below z) ∙ ap (sineIn 3) (e ∙ sym (reduced-quarter z))
