-- At the end all is known: the states as runs, and the closest second (`found_of`).
use Rattle.std.specs.Prelude.{◌≡◌, refl, List, ℕ, zero, suc, ◌+◌, ◌-◌, ◌≤◌, ◌<◌, pos, nat_abs, ◌-ℤ◌, ◌*ℤ◌, length, get_or}
use Rattle.std.proofs.Common.{ap, ◌∙◌, arith}
use Rattle.sheet_types.specs.declared.phases.Phase.{Phase}
use Rattle.sheet_types.specs.declared.phases.Phase.TheVariants.{Penumbra}
use Rattle.sheet_types.specs.States.{code}
use Rattle.elements.specs.declared.Body.{Body}
use Rattle.elements.specs.declared.Body.TheVariants as B
use Rattle.shadow_geometry.specs.Shadow.{phases_of, M}
use Rattle.shadow.specs.Second.{phase_in}
use Rattle.requests.specs.declared.Occultation.{Occultation}
use Rattle.requests.specs.Windows.{nth_second, second_count, list_of, each_second}
use Rattle.run_length.specs.Runs.{Written}
use Rattle.seconds.specs.Seconds.{moment_at, state_at, states_of, closestOf}
use Rattle.seconds.specs.Closest.{closest_to}
use Rattle.exclusion_test.specs.Samples.{byte_at, square_at}
use Rattle.requests.specs.WindowLaws.{seconds_some}
use Rattle.adaptive_sampling.specs.declared.partial.Tally.{Tally}
use Rattle.adaptive_sampling.specs.Nearest.{nearest-closest}
use Rattle.adaptive_sampling.specs.Kept.{Kept}
use Rattle.adaptive_sampling.specs.Found.{Found}

-- the k-th phase, whatever stands for one that a shadow has not
phase_same : (b : Body) (k : ℕ) → k < length (phases_of b) → phase_in b k ≡ get_or (phases_of b) k Penumbra
phase_same (B.Sun e) zero h = refl
phase_same (B.Sun e) (suc zero) h = refl
phase_same (B.Sun e) (suc (suc k)) h = absurd (omega arith)
phase_same (B.Star s) zero h = refl
phase_same (B.Star s) (suc k) h = absurd (omega arith)

pub phase_two : (b : Body) (k : ℕ) → k < length (phases_of b) → k < 2
phase_two (B.Sun e) k h = omega arith
phase_two (B.Star s) k h = omega arith

all_of : (o : Occultation) (k : ℕ) → k < length (phases_of o.body) → list_of (byte_at o k) (second_count o.window) ≡ states_of o (get_or (phases_of o.body) k Penumbra)
unfolding byte_at each_second
all_of o k h = ap (λ (φ : Phase). list_of (λ n. code (state_at o φ (nth_second o.window n))) (second_count o.window)) (phase_same o.body k h)

closest-of : (o : Occultation) (n : ℕ) → n + 1 ≡ second_count o.window → closest_to (square_at o) n ≡ closestOf o
unfolding square_at closestOf second_count
closest-of o n e =
    let z : n ≡ nat_abs (o.window.last -ℤ o.window.first) = omega arith in
    ap (closest_to (λ k. M (moment_at o (nth_second o.window k)))) z

pub found_of : (o : Occultation) {runs : List ℕ} {t : Tally} → Kept o (second_count o.window - 1) runs t → second_count o.window ≤ length runs
    → {new : List ℕ} {r : ℕ} → Written runs t.filled.count t.filled.pair t.filled.seconds new r → Found o new (record { count = r; best = t.best })
found_of o {runs} {t} g room {new} {r} w =
    let n = second_count o.window - 1 in
    let e : n + 1 ≡ second_count o.window = omega (arith, seconds_some o.window) in
    let near = t.near in
    record {
      count = omega (arith, w.short, w.same, g.few);
      states = record {
        whole = w.whole;
        phase = λ k h. w.states k ∙ g.states k (phase_two o.body k h) ∙ ap (list_of (byte_at o k)) e ∙ all_of o k h;
      };
      closest = nearest-closest (square_at o) (pos near *ℤ pos near) g.nearest g.reached.second (omega (arith, g.reached.small)) g.reached.reached ∙ closest-of o n e;
    }
