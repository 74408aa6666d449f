-- Demand 3 of Bessel's formulas with nothing rounded. The sentence is ours; no document has it:
--   "A second said to be inside or outside by a sheet with a guard of 32 or more is truly so, for the elements and the station as they are given;
--   and an enter or a leave lies truly between its two seconds."
-- "Truly" is by these formulas, with circular limbs, on the spheroid with document 01's E = 99,330,658.
-- Krasovsky's flattening 1:298.3 itself gives 99,330,657.838, which moves a place by up to 0.094 of a unit; for that E
-- nothing is proved here.
-- It is demand 3 (local_circumstances, Demand3) with the true answers in place of the exact ones. Definitions only.
use Rattle.std.specs.Prelude.{ℕ, ℤ, pos, ◌+ℤ◌}
use Rattle.elements.specs.Stars.{axis_of}
use Rattle.shadow_geometry.specs.Shadow.{cone}
use Rattle.requests.specs.declared.Occultation.{Occultation}
use Rattle.local_circumstances.specs.Demand3.{ExactAnswers}
use Rattle.sky_accuracy.specs.TruePlace.{TrueC}
use Rattle.sky_accuracy.specs.TrueShadow.{Sky, TrulyInside, TrulyWithinUnits}

-- the sky over the station at τ n-ths of an hour: elements, station and time as they are given, and C on the spheroid
-- there
abbrev pub sky_at : (o : Occultation) → TrueC o.station.latitude → (n : ℕ) → ℤ → Sky
sky_at o c n τ = record { axis = axis_of o.body; station = o.station; C = c; n = n; τ = τ }

-- seconds
abbrev pub seconds : ℕ
seconds = 3600

-- the true answer of a phase at second τ: whether the true distance is less than the true L. Demand 3 asks that an
-- unsure second lie within the guard plus 13 units of the edge; here 19 more
abbrev pub true_answers : (o : Occultation) → TrueC o.station.latitude → ExactAnswers
true_answers o c =
    record {
      Inside = λ φ τ. TrulyInside φ (sky_at o c seconds τ) (cone o.body φ);
      WithinUnits = λ n φ τ. TrulyWithinUnits (pos n +ℤ pos 19) φ (sky_at o c seconds τ) (cone o.body φ);
    }
