-- Second, run and side are at every turn a cursor with the same entries left: a sure stride at the window's start, or
-- after a second of its own side, adds none. Nor does an unsure spell, so at the first sure second after it the last
-- sure second is still the one before the spell.
use Prim.Native.Nat.{ℕ, ◌+◌, ◌-◌, ◌≤◌, ◌<◌}
use mathlib.Core.Path.{◌≡◌, refl, sym, ap, ◌∙◌}
use mathlib.Core.List.{List}
use mathlib.Core.Logic.{⊎_elim}
use native.Mathlib.Omega.{arith}
use borrow.Author.Rules.{rules}
use lib.ListN.{length, get_or}
use Rattle.run_length.specs.Runs.{decoded}
use Rattle.contacts.specs.Entries.{side}
use Rattle.contacts.specs.Step.{entries_from, last_before, Stands, At}
use Rattle.contacts.proofs.Seconds.{walk_from, as-walk, run-there, stands_after, first-state, last-state}
use Rattle.contacts.proofs.Seconds.{at_after, past-spell, past-quiet, done, between-found, open-start, open-end}
use Rattle.contacts.proofs.step.Statement.{statement}
use Rattle.contacts.proofs.step.Tie as tie
use Rattle.contacts.proofs.step.Lts.{then-stride-gt1+then-loop-ahead-test+then-next-le1, else-stride-gt1+then-second-gt0+then-stride-was}

abbrev invariant-seconds : tie.invariant-seconds
invariant-seconds runs phase seconds second₀ run₀ was₀ second run was =
    (was ≤ 1) × (second₀ ≤ second) × At phase runs (record { at = second; run = run; was = was })
    × (entries_from (decoded phase runs) second₀ ≡ entries_from (decoded phase runs) second)

abbrev decreases-seconds : tie.decreases-seconds
decreases-seconds runs phase seconds second₀ run₀ was₀ second run was = seconds - second

abbrev invariant-loop : tie.invariant-loop-ahead
invariant-loop runs phase seconds second run₀ was ahead₀ run ahead =
    let s = decoded phase runs in
    (second < ahead) × Stands phase runs ahead run × (1 < get_or s (ahead - 1) 0)
    × (entries_from s second ≡ walk_from s (last_before s second) ahead)

abbrev decreases-loop : tie.decreases-loop-ahead
decreases-loop runs phase seconds second run₀ was ahead₀ run ahead = seconds - ahead

-- the places before
abbrev start : tie.At-seconds invariant-loop decreases-loop invariant-seconds decreases-seconds → tie.Start invariant-loop decreases-loop invariant-seconds decreases-seconds
start c = c.before.before.before

abbrev turn : tie.After-run_at-stride invariant-loop decreases-loop invariant-seconds decreases-seconds
    → tie.At-seconds invariant-loop decreases-loop invariant-seconds decreases-seconds
turn c = c.before.before

abbrev spell : tie.At-loop-ahead invariant-loop decreases-loop invariant-seconds decreases-seconds
    → tie.After-run_at-stride invariant-loop decreases-loop invariant-seconds decreases-seconds
spell c = c.before.before.before.before

abbrev left : tie.Joined-stride-gt1 invariant-loop decreases-loop invariant-seconds decreases-seconds → tie.At-seconds invariant-loop decreases-loop invariant-seconds decreases-seconds
left c = turn c.before.before

abbrev joined : tie.After-row_known-1 invariant-loop decreases-loop invariant-seconds decreases-seconds
    → tie.Joined-stride-gt1 invariant-loop decreases-loop invariant-seconds decreases-seconds
joined c = c.before.before.before

-- the next stride stands where one ends: of the loop over seconds, of the search inside
past : (c : tie.After-run_at-stride invariant-loop decreases-loop invariant-seconds decreases-seconds) →
    let a = (start (turn c)).args in
    Stands a.phase a.runs.now ((turn c).seconds.second + c.run_at-stride.result.seconds) c.run_at-stride.result.after
past c = stands_after _ _ _ _ (turn c).seconds.invariant.2.stands _ c.run_at-stride.ensures

further : (c : tie.After-run_at-next invariant-loop decreases-loop invariant-seconds decreases-seconds) →
    let l = c.before.before in
    let a = (start (turn (spell l))).args in
    Stands a.phase a.runs.now (l.loop-ahead.ahead + c.run_at-next.result.seconds) c.run_at-next.result.after
further c = stands_after _ _ _ _ c.loop-ahead.invariant.1 _ c.run_at-next.ensures

-- what is known of the second that the loop is left with, where it was at `second`
record Left (k : ℕ) (bytes : List ℕ) (second was to run : ℕ) : Type 0 where
  stands : Stands k bytes to run
  within : to < length (decoded k bytes)
  reached : second ≤ to
  is-sure : get_or (decoded k bytes) to 0 ≤ 1
  walked : entries_from (decoded k bytes) second ≡ walk_from (decoded k bytes) (last_before (decoded k bytes) second) to
  first : second ≡ 0 → 0 < to
  same : was ≡ get_or (decoded k bytes) to 0 → second < to

-- by whichever way it was left
exited : (c : tie.Joined-stride-gt1 invariant-loop decreases-loop invariant-seconds decreases-seconds) →
    let a = (start (left c)).args in
    let i = (left c).seconds in
    Left a.phase a.runs.now i.second i.was c.if-stride-gt1.to c.if-stride-gt1.run
exited c =
    let i = (left c).seconds in
    let h = c.run_at-stride in
    let n = (start (left c)).requires.0 in
    elim c.if-stride-gt1.branch as (λ _.
    Left (start (left c)).args.phase (start (left c)).args.runs.now i.second i.was c.if-stride-gt1.to c.if-stride-gt1.run) [
      | then-stride-gt1+then-loop-ahead-test+then-next-le1 w ↦
          let l = w.loop-ahead.invariant in
          let f = first-state _ _ _ _ l.1 _ w.run_at-next.ensures in
          rw (w.run-is, w.to-is)
          record {
            stands = l.1;
            within = omega (arith, w.loop-ahead-test.true, n);
            reached = omega (arith, l.0);
            is-sure = omega (arith, f, w.if-next-le1.true);
            walked = l.3;
            first = λ _. omega (arith, l.0);
            same = λ _. l.0;
          }
      | else-stride-gt1+then-second-gt0+then-stride-was w ↦
          let f = first-state _ _ _ _ i.invariant.2.stands _ h.ensures in
          rw (w.run-is, w.to-is)
          record {
            stands = i.invariant.2.stands;
            within = omega (arith, i.invariant.2.stands.second, c.if-second-seconds.false, n);
            reached = omega arith;
            is-sure = omega (arith, f, w.if-stride-gt1.false);
            walked = as-walk _ _;
            first = λ z. absurd (omega (arith, z, w.if-second-gt0.true));
            same = λ q. absurd (w.if-stride-was.true (sym (q ∙ f)));
          }
    ]

seconds-holds : tie.Need-seconds-init invariant-loop decreases-loop invariant-seconds decreases-seconds
seconds-holds c =
    let p = c.requires.1 in
    let w = c.side_of-was.ensures in
    (w.0, omega arith, record { stands = p.stands; before = λ h. p.before h ∙ sym w.1; start = p.start }, refl)

returns : tie.Need-returns-then-second-seconds invariant-loop decreases-loop invariant-seconds decreases-seconds
returns c = done _ _ _ _ c.seconds.invariant.3 (c.if-second-seconds.true ∙ sym (start c.before).requires.0)

run-at-requires : tie.Need-run_at-stride-requires invariant-loop decreases-loop invariant-seconds decreases-seconds
run-at-requires c κs =
    let s = c.seconds.invariant.2.stands in
    (run-there _ _ _ _ s (omega (arith, s.second, c.if-second-seconds.false, (start c.before).requires.0)), s.whole)

add-ahead : tie.Need-overflow_add-ahead invariant-loop decreases-loop invariant-seconds decreases-seconds
add-ahead c =
    let o = c.before.before.before in
    omega (arith, (past o).second, (start (turn o)).requires.0)

loop-holds : tie.Need-loop-ahead-init invariant-loop decreases-loop invariant-seconds decreases-seconds
loop-holds c =
    let o = c.before.before.before in
    let h = o.run_at-stride.ensures in
    let i = (turn o).seconds.invariant.2.stands in
    let u = c.if-stride-gt1.true in
    let l = last-state _ _ _ _ i _ h in
    (omega (arith, h.some), past o, omega (arith, l, u), as-walk _ _ ∙ past-spell _ _ _ _ i _ h _ u)

run-at-requires-2 : tie.Need-run_at-next-requires invariant-loop decreases-loop invariant-seconds decreases-seconds
run-at-requires-2 c κs =
    let s = c.loop-ahead.invariant.1 in
    (run-there _ _ _ _ s (omega (arith, c.loop-ahead-test.true, (start (turn (spell c.before))).requires.0)), s.whole)

add-ahead-2 : tie.Need-overflow_add-ahead-in-loop-ahead invariant-loop decreases-loop invariant-seconds decreases-seconds
add-ahead-2 c =
    let o = c.before.before.before in
    let a = start (turn (spell o.before.before)) in
    omega (arith, (further o).second, a.requires.0, a.ranges.seconds)

loop-less : tie.Need-loop-ahead-smaller invariant-loop decreases-loop invariant-seconds decreases-seconds
loop-less c =
    let o = c.before.before.before in
    omega (arith, o.run_at-next.ensures.some, (further o).second, (start (turn (spell o.before.before))).requires.0)

loop-again : tie.Need-loop-ahead-preserved invariant-loop decreases-loop invariant-seconds decreases-seconds
loop-again c =
    let o = c.before.before.before in
    let l = o.loop-ahead.invariant in
    let h = o.run_at-next.ensures in
    let u : 1 < o.run_at-next.result.state = omega (arith, c.if-next-le1.false) in
    let e = last-state _ _ _ _ l.1 _ h in
    (omega (arith, l.0), further o, omega (arith, e, u), l.3 ∙ past-spell _ _ _ _ l.1 _ h _ u)

sub-to : tie.Need-overflow_sub-to invariant-loop decreases-loop invariant-seconds decreases-seconds
sub-to c =
    let l = c.loop-ahead.invariant in
    omega (arith, l.0, l.1.second, (start (turn (spell c.before.before))).requires.0)

returns-2 : tie.Need-returns-then-stride-gt1 invariant-loop decreases-loop invariant-seconds decreases-seconds
returns-2 c =
    let o = c.before.before in
    let l = o.loop-ahead.invariant in
    let i = (turn (spell o)).seconds.invariant in
    let a = start (turn (spell o)) in
    let n = a.requires.0 in
    let e : o.loop-ahead.ahead ≡ a.args.seconds = omega (arith, l.1.second, c.loop-ahead-test.false, n) in
    rw (c.second_before-from.ensures, ← e)
    (open-end _ _ _ _ _ _ (i.3 ∙ l.3) i.1 l.0 l.1 l.2 (omega (arith, e, n)))

add-second : tie.Need-overflow_add-second invariant-loop decreases-loop invariant-seconds decreases-seconds
add-second c =
    let o = c.before.before.before.before in
    omega (arith, (past o).second, (start (turn o)).requires.0)

seconds-less : tie.Need-seconds-smaller invariant-loop decreases-loop invariant-seconds decreases-seconds
seconds-less c =
    let o = c.before.before.before.before in
    omega (arith, o.run_at-stride.ensures.some, (past o).second, (start (turn o)).requires.0)

seconds-again : tie.Need-seconds-preserved invariant-loop decreases-loop invariant-seconds decreases-seconds
seconds-again c =
    let o = c.before.before.before.before in
    let i = (turn o).seconds.invariant in
    let h = o.run_at-stride.ensures in
    let u = c.if-stride-gt1.false in
    let was = (turn o).seconds.was in
    let same : 0 < (turn o).seconds.second → o.run_at-stride.result.state ≡ was =
    λ p. ⊎_elim (λ w. w.1) (λ w. absurd (omega arith)) c.else-second-gt0.either in (
      u,
      omega (arith, i.1),
      at_after _ _ _ _ i.2.stands _ h,
      i.3 ∙ past-quiet _ _ _ _ i.2.stands _ h u (λ p. i.2.before p ∙ ap side (sym (same p))),
    )

run-at-requires-3 : tie.Need-run_at-last-requires invariant-loop decreases-loop invariant-seconds decreases-seconds
run-at-requires-3 c κs = let l = exited c in (run-there _ _ _ _ l.stands l.within, l.stands.whole)

add-end : tie.Need-overflow_add-end invariant-loop decreases-loop invariant-seconds decreases-seconds
add-end c =
    let j = joined c in
    let p = stands_after _ _ _ _ (exited j).stands _ c.run_at-last.ensures in
    omega (arith, p.second, (start (left j)).requires.0)

returns-3 : tie.Need-returns-then-second-eq0 invariant-loop decreases-loop invariant-seconds decreases-seconds
returns-3 c =
    let j = joined c.before in
    let l = exited j in
    let i = (left j).seconds.invariant in
    let r = c.run_at-last.ensures in
    let f = first-state _ _ _ _ l.stands _ r in
    open-start _ _ _ _ _ _ (i.3 ∙ l.walked) i.1 l.reached l.stands _ r (omega (arith, f, l.is-sure))
    c.if-second-eq0.true (l.first c.if-second-eq0.true)

entry-between-requires : tie.Need-entry_between-found-requires invariant-loop decreases-loop invariant-seconds decreases-seconds
entry-between-requires c κs =
    let j = joined c.before in
    let l = exited j in
    let f = first-state _ _ _ _ l.stands _ c.run_at-last.ensures in
    ((left j).seconds.invariant.0, omega (arith, f, l.is-sure), λ q. omega (arith, l.same (q ∙ sym f), c.if-second-eq0.false))

returns-4 : tie.Need-returns invariant-loop decreases-loop invariant-seconds decreases-seconds
returns-4 c =
    let j = joined c.before.before in
    let l = exited j in
    let i = (left j).seconds.invariant in
    let r = c.run_at-last.ensures in
    let f = first-state _ _ _ _ l.stands _ r in
    let h : 0 < (left j).seconds.second = omega (arith, c.if-second-eq0.false) in
    between-found _ _ _ _ _ _ (i.3 ∙ l.walked) i.1 l.reached l.stands _ r (omega (arith, f, l.is-sure))
    (left j).seconds.was _ h (i.2.before h) c.entry_between-found.ensures

pub step_spec : {M : Type 1} → statement M
step_spec =
    tie.close
    (tie.spec invariant-loop decreases-loop invariant-seconds decreases-seconds (λ c κs. search rules) seconds-holds returns
    run-at-requires add-ahead loop-holds run-at-requires-2 add-ahead-2 loop-less loop-again
    (λ c κs. search rules) sub-to returns-2 add-second seconds-less seconds-again run-at-requires-3 add-end
    returns-3 (λ c. omega (arith, c.if-second-eq0.false)) entry-between-requires returns-4)
