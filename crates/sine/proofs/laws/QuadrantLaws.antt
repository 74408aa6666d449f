-- `four_quadrants`: the table of the four quadrants holds. A quarter turn is taken off the angle once, twice or three
-- times.
use Rattle.std.specs.Prelude.{◌≡◌, ℕ, ◌+◌, ◌-◌, ◌≤◌, ◌<◌, pos, neg_ℤ}
use Rattle.std.proofs.Common.{sym, ◌∙◌, ap, ⊎_elim, arith}
use Rattle.std.proofs.Math.IntN.{neg_ℤ-neg_ℤ}
use Rattle.sine.specs.Sine.{sine, cosine}
use Rattle.sine.specs.laws.SineLaws.{either, reduced_below, sine-quarter, cosine-quarter, sine-reduced, cosine-reduced}
use Rattle.sine.specs.Quadrants.{Quadrant, first, second, third, fourth, row, In, ByRow, FourQuadrants}

-- ---- the ends: a quadrant begins and stops within itself

begins : (q : Quadrant) → In q (row q).less
begins q = record { from = omega arith; to = omega arith }

stops : (q : Quadrant) → In q ((row q).less + 90_000_000)
stops q = record { from = omega arith; to = omega arith }

in_one : (a : ℕ) → a ≤ 360_000_000 → (q : Quadrant) × In q a
in_one a h =
    ⊎_elim
    (λ (l : 180_000_000 < a).
    ⊎_elim (λ (l : 270_000_000 < a). (fourth, record { from = omega arith; to = omega arith }))
    (λ (m : a ≤ 270_000_000). (third, record { from = omega arith; to = omega arith })) (either a 270_000_000))
    (λ (m : a ≤ 180_000_000).
    ⊎_elim (λ (l : 90_000_000 < a). (second, record { from = omega arith; to = omega arith }))
    (λ (m : a ≤ 90_000_000). (first, record { from = omega arith; to = omega arith })) (either a 90_000_000))
    (either a 180_000_000)

-- ---- the rows: two quarter turns taken off, and three

module _ (a : ℕ) (within : a ≤ 360_000_000) where
  module _ (from : 180_000_000 ≤ a) where
    sine-half : sine (pos a) ≡ neg_ℤ (sine (pos (a - 180_000_000)))
    sine-half =
        sine-quarter a (omega arith) within
        ∙ cosine-quarter (a - 90_000_000) (omega arith) (omega arith)
        ∙ ap (λ (n : ℕ). neg_ℤ (sine (pos n))) (omega arith)

    cosine-half : cosine (pos a) ≡ neg_ℤ (cosine (pos (a - 180_000_000)))
    cosine-half =
        cosine-quarter a (omega arith) within
        ∙ ap neg_ℤ (sine-quarter (a - 90_000_000) (omega arith) (omega arith))
        ∙ ap (λ (n : ℕ). neg_ℤ (cosine (pos n))) (omega arith)

  module _ (from : 270_000_000 ≤ a) where
    sine-three : sine (pos a) ≡ neg_ℤ (cosine (pos (a - 270_000_000)))
    sine-three =
        sine-half (omega arith)
        ∙ ap neg_ℤ (sine-quarter (a - 180_000_000) (omega arith) (omega arith))
        ∙ ap (λ (n : ℕ). neg_ℤ (cosine (pos n))) (omega arith)

    cosine-three : cosine (pos a) ≡ sine (pos (a - 270_000_000))
    cosine-three =
        cosine-half (omega arith)
        ∙ ap neg_ℤ (cosine-quarter (a - 180_000_000) (omega arith) (omega arith))
        ∙ neg_ℤ-neg_ℤ (sine (pos (a - 180_000_000 - 90_000_000)))
        ∙ ap (λ (n : ℕ). sine (pos n)) (omega arith)

by_row : (q : Quadrant) (a : ℕ) → In q a → ByRow q a
by_row first a i = record { sine-is = ap (λ (n : ℕ). sine (pos n)) (omega arith); cosine-is = ap (λ (n : ℕ). cosine (pos n)) (omega arith) }
by_row second a i = record { sine-is = sine-quarter a (omega arith) (omega arith); cosine-is = cosine-quarter a (omega arith) (omega arith) }
by_row third a i = record { sine-is = sine-half a (omega arith) (omega arith); cosine-is = cosine-half a (omega arith) (omega arith) }
by_row fourth a i = record { sine-is = sine-three a (omega arith) (omega arith); cosine-is = cosine-three a (omega arith) (omega arith) }

pub four_quadrants : FourQuadrants
four_quadrants =
    record {
      holds = by_row;
      every = in_one;
      end_90 = (stops first, begins second);
      end_180 = (stops second, begins third);
      end_270 = (stops third, begins fourth);
      end_360 = (stops fourth, begins first);
      any = λ z. (reduced_below z, sym (sine-reduced z), sym (cosine-reduced z));
    }
