-- The rules as the code asks them: an entry by the stage of its kind, so that the four kinds of a phase go one way;
-- and that these are the rules. Callers use `Rules`. Those of the fields: Fields.
use Rattle.std.specs.Prelude.{◌≡◌, refl, Bool, true, false}
use Rattle.std.proofs.Common.{ap, ◌∙◌}
use Rattle.sheet_types.specs.declared.phases.Phase.{Phase}
use Rattle.sheet_types.specs.laws.PhaseLaws.{same-is}
use Rattle.sheet_format.specs.declared.kinds.Kind.{Kind}
use Rattle.sheet_format.specs.declared.kinds.Kind.TheVariants as K
use Rattle.sheet_format.specs.declared.kinds.Stage.{Stage}
use Rattle.sheet_format.specs.declared.kinds.Stage.TheVariants as S
use Rattle.sheet_format.specs.declared.kinds.Crossing.{Crossing}
use Rattle.sheet_format.specs.declared.kinds.Crossing.TheVariants as C
use Rattle.sheet_format.specs.declared.kinds.Progress.{Progress}
use Rattle.sheet_format.specs.declared.kinds.Entry.{Entry}
use Rattle.sheet_format.specs.Kinds.{table}
use Rattle.sheet_format.specs.FieldRules.{is_within}
use Rattle.sheet_rules.specs.Order.{may_come, closest_after}
use Rattle.sheet_rules.specs.laws.OrderLaws.{own_phase}
use Rattle.sheet_rules.specs.Rules.{reached, passed, crossing_kept, after_kind, phase_in_order, kind_in_order}

-- ---- what a kind of a phase asks

abbrev pub crossing_of : Kind → Crossing
crossing_of K.Head = C.Neither
crossing_of (K.Enter φ) = C.Enter
crossing_of (K.Leave φ) = C.Leave
crossing_of (K.Graze φ) = C.Neither
crossing_of (K.Open φ) = C.Neither
crossing_of K.Closest = C.Neither
crossing_of K.Share = C.Neither
crossing_of K.End = C.Neither

-- a crossing stands after it came; else the one that stood
abbrev pub crossing_after : Crossing → Crossing → Crossing
crossing_after C.Neither kept = kept
crossing_after C.Enter kept = C.Enter
crossing_after C.Leave kept = C.Leave

-- ---- an entry by the stage of its kind

abbrev pub order_at : Progress → Entry → Kind → Stage → Bool
order_at p e k S.Start = false
order_at p e k S.Head = may_come p.stage S.Head
order_at p e k (S.Phase φ) = phase_in_order p φ (crossing_of k) e.a
order_at p e k S.Closest = may_come p.stage S.Closest
order_at p e k S.StarClosest = false
order_at p e k S.Share = may_come p.stage S.Share
order_at p e k S.End = may_come p.stage S.End

abbrev pub after_at : Progress → Entry → Kind → Stage → Progress
after_at p e k S.Start = reached S.Start e.b e.c
after_at p e k S.Head = reached S.Head e.b e.c
after_at p e k (S.Phase φ) = passed p φ e.b (crossing_after (crossing_of k) (crossing_kept p φ))
after_at p e k S.Closest = reached (closest_after p.stage) p.first p.last
after_at p e k S.StarClosest = reached S.StarClosest p.first p.last
after_at p e k S.Share = reached S.Share p.first p.last
after_at p e k S.End = reached S.End p.first p.last

-- ---- at the stage of the kind's row these are the rules

module _ (p : Progress) (e : Entry) where
  order-at : (k : Kind) → order_at p e k (table k).stage ≡ kind_in_order p e k
  order-at K.Head = refl
  order-at (K.Enter φ) = refl
  order-at (K.Leave φ) = refl
  order-at (K.Graze φ) = refl
  order-at (K.Open φ) = refl
  order-at K.Closest = refl
  order-at K.Share = refl
  order-at K.End = refl

  after-at : (k : Kind) → after_at p e k (table k).stage ≡ after_kind p e k
  after-at K.Head = refl
  after-at (K.Enter φ) = refl
  after-at (K.Leave φ) = refl
  after-at (K.Graze φ) = refl
  after-at (K.Open φ) = refl
  after-at K.Closest = refl
  after-at K.Share = refl
  after-at K.End = refl

  -- so at a stage that the row is known to have
  pub order-by : (s : Stage) → s ≡ (table e.kind).stage → order_at p e e.kind s ≡ kind_in_order p e e.kind
  order-by s q = ap (order_at p e e.kind) q ∙ order-at e.kind

  pub after-by : (s : Stage) → s ≡ (table e.kind).stage → after_at p e e.kind s ≡ after_kind p e e.kind
  after-by s q = ap (after_at p e e.kind) q ∙ after-at e.kind

-- ---- the same in fewer tests

-- after an entry of the same phase one may come
pub within_may : (s : Stage) (φ : Phase) → is_within s φ ≡ true → may_come s (S.Phase φ) ≡ true
within_may S.Start φ e = e
within_may S.Head φ e = refl
within_may (S.Phase φ) ψ e = rw (same-is φ ψ e) (own_phase ψ)
within_may S.Closest φ e = e
within_may S.StarClosest φ e = e
within_may S.Share φ e = e
within_may S.End φ e = e
