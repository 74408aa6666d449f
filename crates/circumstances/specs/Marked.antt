-- The rows that document 01 marks for proof of the rules themselves, under one theorem: each holds by computation of
-- the definitions.
use Rattle.std.specs.Prelude.{◌≡◌, refl, [], ◌∷◌, false, ℤ, pos, negsuc}
use Rattle.rounding.specs.Near.{near}
use Rattle.rounding.specs.Root.{root}
use Rattle.rounding.specs.laws.Examples.{near-half, near-half_below, near_past_half_below}
use Rattle.sine_table.specs.Table.{factorial, numerator, denominator, common, term, series, S}
use Rattle.sine.specs.FirstQuadrant.{arc, sag, between, capped, first_quadrant}
use Rattle.sine.specs.Sine.{reduced, sineIn, sine, cosine}
use Rattle.sine.specs.laws.Examples.{sine_of_30, sine_of_least, sine-capped, cosine_of_180}
use Rattle.elements.specs.Polynomial.{step, quadratic_at, cubic_at}
use Rattle.station.specs.declared.Station.{Station}
use Rattle.station.specs.Place.{under, W, C, Z, h, R, P, turn_in, ephemeris_longitude, place_of}
use Rattle.station.specs.laws.Examples.{pole_R, pole_P, equator_R, equator_P}
use Rattle.shadow_geometry.specs.Shadow.{H, q, ξ, η, ζ, u, v, L, state}
use Rattle.shadow_geometry.specs.Direction.{direction}
use Rattle.shadow_geometry.specs.laws.Examples.{worked}
use Rattle.shadow.specs.Second as Shadow
use Rattle.shadow.specs.laws.Examples.{direction_of_1_1, direction_of_0_minus_5}
use Rattle.contacts.specs.Entries.{some_between}
use Rattle.sheet_types.specs.declared.phases.Phase.TheVariants.{Penumbra}
use Rattle.requests.specs.declared.Request.{Request}
use Rattle.requests.specs.Requests.{of_eclipse}
use Rattle.requests.specs.Windows.{second_count, each_second}
use Rattle.seconds.specs.Seconds.{state_at}
use Rattle.sheet_format.specs.Entries.{opened}
use Rattle.sheet_format.specs.StoredSeconds.{stored}
use Rattle.local_circumstances.specs.Courses.{states_of, phaseEntries}
use Rattle.local_circumstances.specs.Course.{course_of}

-- "station 7, latitude 90,000,000, longitude 0, height 0"; document 02, wish 1: "a ΔT of 0 keeps its cases"
abbrev pole : Station
pole = record { number = pos 7; latitude = pos 90000000; longitude = pos 0; height = pos 0; deltat = pos 0 }

-- document 02, wish 9: "the cases in document 01 use guard 16"; wish 4: "(the program never does)" ask for a share
abbrev pub hand_worked : (first last : ℤ) → Request
hand_worked first last = record { elements = worked; station = pole; window = record { first = first; last = last }; guard = pos 16; share = false }

-- "window 5400..5400 gives open 5400 5400": the penumbra has that one entry, stored plus 10,800
open_5400 : phaseEntries (course_of (of_eclipse (hand_worked (pos 5400) (pos 5400)))) Penumbra ≡ opened Penumbra 16200 16200 ∷ []
unfolding near root factorial numerator denominator common term series S arc sag between capped first_quadrant reduced sineIn sine cosine under W C Z h R P turn_in ephemeris_longitude place_of
    step quadratic_at cubic_at H q ξ η ζ u v L state Shadow.state_at state_at second_count each_second states_of stored phaseEntries some_between
open_5400 = refl

pub record Marked : Type 0 where
  -- "near(50,000,000/10^8)=1, .. near(-50,000,001/10^8)=-1"; between them document 02, wish 3: "-50,000,000 over 10^8
  -- gives -1"
  pub near_1 : near (pos 50000000) (pos 100000000) ≡ pos 1
  pub near_2 : near (negsuc 49999999) (pos 100000000) ≡ negsuc 0
  pub near_3 : near (negsuc 50000000) (pos 100000000) ≡ negsuc 0
  -- "sine of 30°; sine of 0.000001° is 2; sine of 89.999999° is 10^8 (the cap acts); cosine of 180° is -10^8"
  pub sine_1 : sine (pos 30_000_000) ≡ pos 50_000_000
  pub sine_2 : sine (pos 1) ≡ pos 2
  pub sine_3 : sine (pos 89_999_999) ≡ pos 100_000_000
  pub cosine_1 : cosine (pos 180_000_000) ≡ negsuc 99_999_999
  -- "directions of (1,1) and (0,-5)"
  pub direction_1 : direction S (pos 1) (pos 1) ≡ 450
  pub direction_2 : direction S (pos 0) (negsuc 4) ≡ 1800
  -- "the place at latitude 90°, height 0, is R 0, P 99,664,768, and at the equator R 10^8, P 0"
  pub place_1 : R (pos 90000000) (pos 0) ≡ pos 0
  pub place_2 : P (pos 90000000) (pos 0) ≡ pos 99664768
  pub place_3 : R (pos 0) (pos 0) ≡ pos 100000000
  pub place_4 : P (pos 0) (pos 0) ≡ pos 0
  -- "with the elements above, window 5400..5400 gives open 5400 5400"
  pub open_1 : phaseEntries (course_of (of_eclipse (hand_worked (pos 5400) (pos 5400)))) Penumbra ≡ opened Penumbra 16200 16200 ∷ []

pub marked : Marked
marked =
    record {
      near_1 = near-half;
      near_2 = near-half_below;
      near_3 = near_past_half_below;
      sine_1 = sine_of_30;
      sine_2 = sine_of_least;
      sine_3 = sine-capped;
      cosine_1 = cosine_of_180;
      direction_1 = direction_of_1_1;
      direction_2 = direction_of_0_minus_5;
      place_1 = pole_R;
      place_2 = pole_P;
      place_3 = equator_R;
      place_4 = equator_P;
      open_1 = open_5400;
    }
