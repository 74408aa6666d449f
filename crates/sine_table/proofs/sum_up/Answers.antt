use Rattle.std.proofs.Common.{◌≡◌, ℕ, suc, ◌<◌, List, ℤ, pos, ◌+ℤ◌, nat_abs, to_z, of_z, get_or, drop, length, T, ap, subst, ◌∙◌, arith, add-one}
use Rattle.std.proofs.Math.Seq.{drop-cons}
use lib.Signed.{non_neg}
use mir.Syntax.{w16, w32, w64}
use mir.Val.{Fits, SFits}
use mir.ValLaws.{to_z-of_z}
use Rattle.rounding.specs.Parts.{sum}
use Rattle.rounding.specs.laws.Order.{nat_abs_by, ≡-parts, fits64}
use Rattle.rounding.specs.laws.Code.{read_result}
use Rattle.sine_table.specs.Table.{S}
use Rattle.sine_table.specs.laws.TableLaws.{entry-small}
use Rattle.sine_table.specs.Room.{Gives}
use Rattle.sine_table.specs.laws.RoomLaws.{gives-entry, gives_second, gives-next, Begun, begun_more, begun_all}
use Rattle.sine_table.proofs.sum_up.Goals as goal

-- ---- entries and steps fit
stored : (k : ℕ) (z : ℤ) → k < 901 → z ≡ pos (S k) → T (non_neg z) × Fits w32 (nat_abs z)
stored k z h e = rw e (tt, record { fits = omega (arith, entry-small k h) })

entry-fits : (k : ℕ) (z : ℤ) → k < 901 → z ≡ pos (S k) → SFits w64 z
entry-fits k z h e = fits64 z (omega (arith, ap nat_abs e, entry-small k h))

-- a step is from an entry to the next
step_fits : (k : ℕ) (e s : ℤ) (ds : List ℤ) → Gives k e s ds → SFits w64 s
step_fits k e s ds g =
    let here = ≡-parts (gives-entry k e s ds g) in
    let there = ≡-parts (gives_second k e s ds g) in
    let small = entry-small k (omega (arith, g.size)) in
    let next_small = entry-small (suc k) (omega (arith, g.size)) in
    fits64 s (nat_abs_by s (omega (arith, (sum e s).is)) (omega (arith, (sum e s).is)))

gives_as : (k : ℕ) (e f s t : ℤ) (ds : List ℤ) → e ≡ f → s ≡ t → Gives k f t ds → Gives k e s ds
gives_as k e f s t ds p q g = rw (p, q) g

-- ---- a turn
module _ (c : goal.After-from-step) where
  abbrev k : ℕ
  k = c.loop-k.k

  abbrev entry : ℤ
  entry = to_z w64 c.loop-k.entry-bits

  abbrev step : ℤ
  step = to_z w64 c.loop-k.step-bits

  abbrev differences : List ℤ
  differences = c.args.differences.now

  -- the k-th difference, read from its bits
  d-is : to_z w64 (of_z w64 c.from-step.result) ≡ get_or differences k (pos 0)
  d-is =
      read_result c.from-step.result c.from-step.type_inv ∙ c.from-step.ensures
      ∙ to_z-of_z w16 _ (record { sfits = omega arith })

  within : k < length differences
  within = c.loop-k-test.true

  next : Gives (suc k) (entry +ℤ step) (step +ℤ get_or differences k (pos 0)) (drop (suc k) differences)
  next =
      gives-next k entry step _ _
      (subst (Gives k entry step) (drop-cons differences k (pos 0) within) c.loop-k.invariant.1)

pub overflow_cast-room : goal.overflow_cast-room
overflow_cast-room c = let l = c.loop-k in stored l.k _ (omega (arith, c.requires.0.size)) (gives-entry _ _ _ _ l.invariant.1)

pub overflow_add-entry : goal.overflow_add-entry
overflow_add-entry c = let l = c.loop-k in entry-fits (suc l.k) _ (omega (arith, c.requires.0.size)) (gives_second _ _ _ _ l.invariant.1)

pub overflow_add-step : goal.overflow_add-step
overflow_add-step c = rw (d-is c) (step_fits _ _ _ _ (next c))

pub loop-k-preserved : goal.loop-k-preserved
loop-k-preserved c =
    let l = c.loop-k in
    let g = next c in
    rw add-one (
      begun_more _ l.k _ _ (omega (arith, c.requires.0.size)) c.requires.1 (ap nat_abs (gives-entry _ _ _ _ l.invariant.1)) l.invariant.0,
      gives_as _ _ _ _ _ _ (to_z-of_z w64 _ (entry-fits _ _ (omega (arith, c.requires.0.size)) (gives-entry _ _ _ _ g)))
          (ap (λ z. to_z w64 (of_z w64 (step c +ℤ z))) (d-is c) ∙ to_z-of_z w64 _ (step_fits _ _ _ _ g)) g,
    )

-- ---- the last two entries
pub overflow_cast-room-2 : goal.overflow_cast-room-2
overflow_cast-room-2 c = let l = c.loop-k in stored l.k _ (omega (arith, c.requires.0.size)) (gives-entry _ _ _ _ l.invariant.1)

pub overflow_add-room : goal.overflow_add-room
overflow_add-room c = let l = c.loop-k in entry-fits (suc l.k) _ (omega (arith, c.requires.0.size)) (gives_second _ _ _ _ l.invariant.1)

pub overflow_cast-room-3 : goal.overflow_cast-room-3
overflow_cast-room-3 c =
    let l = c.loop-k in
    let h : suc l.k < 901 = omega (arith, c.requires.0.size) in
    let e = gives_second _ _ _ _ l.invariant.1 in
    stored (suc l.k) _ h (to_z-of_z w64 _ (entry-fits (suc l.k) _ h e) ∙ e)

pub returns : goal.returns
returns c =
    let l = c.loop-k in
    let old = c.args.room.now in
    let h = c.requires.1 in
    let z : l.k ≡ 899 = omega (arith, c.requires.0.size) in
    let e : to_z w64 l.entry-bits ≡ pos (S 899) = gives-entry _ _ _ _ l.invariant.1 ∙ ap (λ n. pos (S n)) z in
    let f : to_z w64 l.entry-bits +ℤ to_z w64 l.step-bits ≡ pos (S 900) =
    gives_second _ _ _ _ l.invariant.1 ∙ ap (λ n. pos (S (suc n))) z in
    let r = to_z-of_z w64 _ (entry-fits 900 _ (omega arith) f) ∙ f in
    begun_all _ _
    (begun_more old 900 _ _ (omega arith) h (ap nat_abs r)
    (begun_more old 899 _ _ (omega arith) h (ap nat_abs e) (subst (λ n. Begun n old l.room) z l.invariant.0)))
