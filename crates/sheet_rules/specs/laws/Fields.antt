-- The rules of the fields as the code asks them: an entry by the stage of its kind, so that the four kinds of a phase
-- go one way; and that these are the rules of its row (`rule-by`).
use Rattle.std.specs.Prelude.{ℕ, ◌≤◌, ◌≡◌, refl, Bool, true, false, cond, ◌&&◌, leb}
use Rattle.std.proofs.Common.{sym, ap, ◌∙◌, arith, leb-true, le-leb}
use Rattle.std.proofs.Math.Bool.{and-true}
use Rattle.rounding.specs.laws.Tests.{both}
use Rattle.sheet_format.specs.declared.kinds.Kind.{Kind}
use Rattle.sheet_format.specs.declared.kinds.Kind.TheVariants as K
use Rattle.sheet_format.specs.declared.kinds.Stage.{Stage}
use Rattle.sheet_format.specs.declared.kinds.Stage.TheVariants as S
use Rattle.sheet_format.specs.declared.kinds.Progress.{Progress}
use Rattle.sheet_format.specs.declared.kinds.Entry.{Entry}
use Rattle.sheet_format.specs.Kinds.{table}
use Rattle.sheet_format.specs.FieldRules.{head_holds, span_holds, open_holds, is_direction, closest_holds, shareHolds}

-- ---- what a kind of a phase asks

abbrev pub is_open : Kind → Bool
is_open K.Head = false
is_open (K.Enter φ) = false
is_open (K.Leave φ) = false
is_open (K.Graze φ) = false
is_open (K.Open φ) = true
is_open K.Closest = false
is_open K.Share = false
is_open K.End = false

abbrev pub direction_holds : Kind → ℕ → Bool
direction_holds K.Head direction = true
direction_holds (K.Enter φ) direction = is_direction direction
direction_holds (K.Leave φ) direction = is_direction direction
direction_holds (K.Graze φ) direction = true
direction_holds (K.Open φ) direction = true
direction_holds K.Closest direction = true
direction_holds K.Share direction = true
direction_holds K.End direction = true

abbrev pub phase_holds : Progress → Kind → ℕ → ℕ → ℕ → Bool
phase_holds p k from to direction = cond (is_open k) (open_holds p from to) (span_holds p from to && direction_holds k direction)

-- ---- an entry by the stage of its kind

abbrev pub rule_at : Progress → Entry → Kind → Stage → Bool
rule_at p e k S.Start = false
rule_at p e k S.Head = head_holds e.a e.b e.c e.d
rule_at p e k (S.Phase φ) = phase_holds p k e.a e.b e.c
rule_at p e k S.Closest = closest_holds p e.a e.b
rule_at p e k S.StarClosest = false
rule_at p e k S.Share = shareHolds e.a
rule_at p e k S.End = true

-- at the stage of the kind's row this is the rule
module _ (p : Progress) (e : Entry) where
  rule-at : (k : Kind) → rule_at p e k (table k).stage ≡ (table k).rule p e
  rule-at K.Head = refl
  rule-at (K.Enter φ) = refl
  rule-at (K.Leave φ) = refl
  rule-at (K.Graze φ) = and-true (span_holds p e.a e.b)
  rule-at (K.Open φ) = refl
  rule-at K.Closest = refl
  rule-at K.Share = refl
  rule-at K.End = refl

  -- so at a stage that the row is known to have
  pub rule-by : (s : Stage) → s ≡ (table e.kind).stage → rule_at p e e.kind s ≡ (table e.kind).rule p e
  rule-by s q = ap (rule_at p e e.kind) q ∙ rule-at e.kind

-- ---- the same in fewer tests

-- what lies from the first second to the last lies within both ways
same : (x y : Bool) → (x ≡ true → y ≡ true) → (y ≡ true → x ≡ true) → x ≡ y
same true y f g = sym (f refl)
same false true f g = g refl
same false false f g = refl

pub both-within : (first last from to : ℕ) (t : Bool) → (t ≡ true → from ≤ to)
    → (leb first from && t && leb to last) ≡ ((leb first from && leb from last) && (leb first to && leb to last) && t)
both-within first last from to t h = same _ _ forth back
  where
    forth : (leb first from && t && leb to last) ≡ true → ((leb first from && leb from last) && (leb first to && leb to last) && t) ≡ true
    forth q =
        let u = both (leb first from && t) (leb to last) q in
        let v = both (leb first from) t u.0 in
        let a = leb-true first from v.0 in
        let b = h v.1 in
        let c = leb-true to last u.1 in
        rw (v.0, le-leb from last (omega arith), le-leb first to (omega arith), u.1, v.1)

    back : ((leb first from && leb from last) && (leb first to && leb to last) && t) ≡ true → (leb first from && t && leb to last) ≡ true
    back q =
        let u = both ((leb first from && leb from last) && (leb first to && leb to last)) t q in
        let v = both (leb first from && leb from last) (leb first to && leb to last) u.0 in
        rw ((both (leb first from) (leb from last) v.0).0, u.1, (both (leb first to) (leb to last) v.1).1)

-- an angle is a direction, and where the kind has none nothing is asked
pub angle-holds : (k : Kind) (d : ℕ) → leb d 3599 ≡ true → direction_holds k d ≡ true
angle-holds K.Head d e = refl
angle-holds (K.Enter φ) d e = rw e
angle-holds (K.Leave φ) d e = rw e
angle-holds (K.Graze φ) d e = refl
angle-holds (K.Open φ) d e = refl
angle-holds K.Closest d e = refl
angle-holds K.Share d e = refl
angle-holds K.End d e = refl
