-- Laws of the order of a sheet.
use Rattle.std.specs.Prelude.{◌≡◌, refl, ℕ, true, not, ◌&&◌, eqb}
use Rattle.sheet_types.specs.declared.phases.Phase.{Phase}
use Rattle.sheet_types.specs.declared.phases.Phase.TheVariants.{Penumbra, Central, Star}
use Rattle.sheet_format.specs.declared.kinds.Stage.TheVariants as S
use Rattle.sheet_format.specs.declared.kinds.Crossing.{Crossing}
use Rattle.sheet_format.specs.declared.kinds.Crossing.TheVariants as C
use Rattle.sheet_rules.specs.Order.{phase_follows, may_come, closest_after, repeats}

-- entries of a phase may follow its own
pub own_phase : (φ : Phase) → phase_follows φ φ ≡ true
own_phase Penumbra = refl
own_phase Central = refl
own_phase Star = refl

-- after closest the end may come, whatever the phase before it
pub end_may_come : (φ : Phase) → may_come (closest_after (S.Phase φ)) S.End ≡ true
end_may_come Penumbra = refl
end_may_come Central = refl
end_may_come Star = refl

-- a crossing as a number: two that repeat have the same, and it is not that of none
abbrev pub crossing_number : Crossing → ℕ
crossing_number C.Neither = 0
crossing_number C.Enter = 1
crossing_number C.Leave = 2

pub repeats-number : (last c : Crossing) → (eqb (crossing_number c) (crossing_number last) && not (eqb (crossing_number c) 0)) ≡ repeats last c
repeats-number C.Neither C.Neither = refl
repeats-number C.Neither C.Enter = refl
repeats-number C.Neither C.Leave = refl
repeats-number C.Enter C.Neither = refl
repeats-number C.Enter C.Enter = refl
repeats-number C.Enter C.Leave = refl
repeats-number C.Leave C.Neither = refl
repeats-number C.Leave C.Enter = refl
repeats-number C.Leave C.Leave = refl
