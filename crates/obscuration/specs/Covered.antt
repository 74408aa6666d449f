-- How much of the Sun is gone at a second of an eclipse, document 02, wish 4, and what is proved of it.
use Rattle.std.specs.Prelude.{◌≡◌, ℕ, ◌≤◌, ℤ, pos, ◌<ℤ◌}
use Rattle.sheet_types.specs.States.{inside, outside}
use Rattle.sheet_types.specs.declared.phases.Phase.TheVariants.{Penumbra, Central}
use Rattle.obscuration.specs.Share.{share}
use Rattle.elements.specs.declared.Elements.{Elements}
use Rattle.station.specs.declared.Place.{Place}
use Rattle.station.specs.Place.{place_of}
use Rattle.shadow_geometry.specs.Shadow.{moment, L, M}
use Rattle.requests.specs.declared.Request.{Request}
use Rattle.requests.specs.Requests.{of_eclipse}
use Rattle.requests.specs.Windows.{InWindow}
use Rattle.requests.specs.RequestLaws.{InLimits}
use Rattle.seconds.specs.Seconds.{moment_at, state_at}

-- "the covered share of the disc" at second τ: of L1, of L2 with its sign, and of M there
unfoldable pub share_at : Elements → Place → (τ : ℤ) → ℕ
share_at e p τ = share (L (moment e p τ) e.penumbra) (L (moment e p τ) e.central) (M (moment e p τ))

-- of a request
abbrev pub share_of : Request → ℤ → ℕ
share_of q τ = share_at q.elements (place_of q.station) τ

-- what is said of a share s at second τ, under the request's guard
pub record ShareMeans (q : Request) (τ : ℤ) (s : ℕ) : Type 0 where
  -- "It lies from 0 to 1,000,000"
  pub limit : s ≤ 1000000
  -- "and is 1,000,000 wherever the total phase is sure.": "L2 below zero is total", and central is inside
  pub total : L (moment_at (of_eclipse q) τ) q.elements.central <ℤ pos 0 → state_at (of_eclipse q) Central τ ≡ inside → s ≡ 1000000
  -- and it is 0 wherever the penumbra is surely left
  pub none : state_at (of_eclipse q) Penumbra τ ≡ outside → s ≡ 0

-- of every second of every request within the limits: CoveredLaws, `all_means`
abbrev pub AllMeans : Type 0
AllMeans = (q : Request) → InLimits (of_eclipse q) → (τ : ℤ) → InWindow q.window τ → ShareMeans q τ (share_of q τ)
