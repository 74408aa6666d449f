-- Document 02, wish 9: "Larger guards may only withhold: whatever second is sure under a guard is sure, with the same
-- answer, under every smaller one."
use Rattle.std.specs.Prelude.{◌≡◌, ℤ, pos, ◌≤ℤ◌}
use Rattle.sheet_types.specs.declared.phases.Phase.{Phase}
use Rattle.sheet_types.specs.States.{State, unsure}
use Rattle.station.specs.Place.{place_of}
use Rattle.shadow.specs.laws.SecondLaws.{sure-under-less}
use Rattle.requests.specs.declared.Occultation.{Occultation}
use Rattle.requests.specs.Windows.{InWindow}
use Rattle.requests.specs.WindowLaws.{in-window-size}
use Rattle.requests.specs.RequestLaws.{InLimits}
use Rattle.seconds.specs.Seconds.{state_at}
use Rattle.seconds.proofs.laws.SecondLaws.{placed}

-- the same under another guard
abbrev pub with_guard : ℤ → Occultation → Occultation
with_guard guard o = record { body = o.body; station = o.station; window = o.window; guard = guard; share = o.share }

-- of every occultation within the limits, each phase, every second of its window, every smaller guard from 0 on
pub only_withhold : (o : Occultation) → InLimits o → (smaller : ℤ) → pos 0 ≤ℤ smaller → smaller ≤ℤ o.guard
    → (φ : Phase) (τ : ℤ) → InWindow o.window τ
    → (answer : State) → (answer ≡ unsure → ⊥) → state_at o φ τ ≡ answer → state_at (with_guard smaller o) φ τ ≡ answer
unfolding state_at
only_withhold o i smaller low less φ τ w answer sure is =
    sure-under-less o.body i.body (place_of o.station) (placed o i) τ (in-window-size o.window i.window τ w)
    smaller o.guard low less φ answer sure is
