-- Each second of a sheet with a guard of 32 or more is said rightly of the true answers.
use Rattle.std.proofs.Math.Path.{◌≡◌, subst}
use Rattle.std.proofs.Common.{ap, ◌∙◌, arith, lit≤}
use Rattle.std.specs.Prelude.{◌+◌, ℤ, pos, nat_abs, ◌+ℤ◌, ◌≤ℤ◌}
use Rattle.std.specs.Int.Signed.{le_z_yes}
use Rattle.rounding.specs.laws.Order.{≤ℤ_trans, nonneg_nat_abs}
use Rattle.station.specs.Place.{place_of}
use Rattle.shadow_geometry.specs.Shadow.{cone}
use Rattle.requests.specs.declared.Occultation.{Occultation}
use Rattle.requests.specs.WindowLaws.{in-window-size}
use Rattle.requests.specs.RequestLaws.{InLimits}
use Rattle.seconds.specs.Seconds.{state_at}
use Rattle.contact_times.specs.laws.SecondStates.{second-same}
use Rattle.local_circumstances.specs.Demand3.{EachSecond}
use Rattle.local_circumstances.specs.Course.{course_of}
use Rattle.sky_accuracy.specs.TruePlace.{TrueC}
use Rattle.sky_accuracy.specs.TrueShadow.{TrulyWithinUnits}
use Rattle.sky_accuracy.specs.Truth.{sky_at, seconds, true_answers}
use Rattle.sky_accuracy.proofs.laws.SaidTruly.{inside-by, outside-by, near_by}

-- the guard and 13 units, and 19 more
same_units : (g : ℤ) → pos 0 ≤ℤ g → g +ℤ pos 32 ≡ pos (nat_abs g + 13) +ℤ pos 19
same_units g h =
    let e : nat_abs g + 32 ≡ nat_abs g + 13 + 19 = omega arith in
    ap (λ (z : ℤ). z +ℤ pos 32) (nonneg_nat_abs g h) ∙ ap pos e

module _ (o : Occultation) (guard : pos 32 ≤ℤ o.guard) (c : TrueC o.station.latitude) where
  module _ (i : InLimits o) where
    pub truly-said : EachSecond (course_of o) (true_answers o c)
    unfolding state_at
    truly-said φ l τ w =
        let h = in-window-size o.window i.window τ w in
        let is = second-same o.guard o.body (place_of o.station) φ τ in
        record {
          inside_is = λ s. inside-by o c i o.guard guard φ seconds (lit≤ tt) τ h (is ∙ s);
          outside-is = λ s. outside-by o c i o.guard guard φ seconds (lit≤ tt) τ h (is ∙ s);
          unsure-is = λ s.
              subst (λ (u : ℤ). TrulyWithinUnits u φ (sky_at o c seconds τ) (cone o.body φ)) (same_units o.guard (≤ℤ_trans (le_z_yes tt) guard))
              (near_by o c i o.guard guard φ seconds (lit≤ tt) τ h (is ∙ s));
        }
