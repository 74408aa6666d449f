-- The order of a sheet: what may come after what came last.
use Rattle.std.specs.Prelude.{Bool, true, false, cond}
use Rattle.sheet_types.specs.declared.phases.Phase.{Phase}
use Rattle.sheet_types.specs.declared.phases.Phase.TheVariants.{Penumbra, Central, Star}
use Rattle.sheet_format.specs.declared.kinds.Stage.{Stage}
use Rattle.sheet_format.specs.declared.kinds.Stage.TheVariants as S
use Rattle.sheet_format.specs.declared.kinds.Crossing.{Crossing}
use Rattle.sheet_format.specs.declared.kinds.Crossing.TheVariants as C
use Rattle.sheet_format.specs.FieldRules.{is_within}

-- "penumbra by time, central by time": entries of a phase follow its own and an earlier phase's. Document 02, wish 7:
-- "The reader's order has the star family in place of penumbra and central"; "8 for a sheet with star and eclipse
-- entries"
abbrev pub phase_follows : Phase → Phase → Bool
phase_follows Penumbra Penumbra = true
phase_follows Penumbra Central = true
phase_follows Penumbra Star = false
phase_follows Central Penumbra = false
phase_follows Central Central = true
phase_follows Central Star = false
phase_follows Star Penumbra = false
phase_follows Star Central = false
phase_follows Star Star = true

-- what came last: nothing
abbrev pub nothing_came : Stage → Bool
nothing_came S.Start = true
nothing_came S.Head = false
nothing_came (S.Phase φ) = false
nothing_came S.Closest = false
nothing_came S.StarClosest = false
nothing_came S.Share = false
nothing_came S.End = false

-- the head, or an entry of a phase that entries of ψ may follow
abbrev pub phase_may_come : Stage → Phase → Bool
phase_may_come S.Start ψ = false
phase_may_come S.Head ψ = true
phase_may_come (S.Phase φ) ψ = phase_follows φ ψ
phase_may_come S.Closest ψ = false
phase_may_come S.StarClosest ψ = false
phase_may_come S.Share ψ = false
phase_may_come S.End ψ = false

-- the head, or an entry of any phase
abbrev pub head_or_phase_came : Stage → Bool
head_or_phase_came S.Start = false
head_or_phase_came S.Head = true
head_or_phase_came (S.Phase φ) = true
head_or_phase_came S.Closest = false
head_or_phase_came S.StarClosest = false
head_or_phase_came S.Share = false
head_or_phase_came S.End = false

-- closest, after no entry of a star
abbrev pub closest_came : Stage → Bool
closest_came S.Start = false
closest_came S.Head = false
closest_came (S.Phase φ) = false
closest_came S.Closest = true
closest_came S.StarClosest = false
closest_came S.Share = false
closest_came S.End = false

-- any closest, or the share after it
abbrev pub closest_or_share_came : Stage → Bool
closest_or_share_came S.Start = false
closest_or_share_came S.Head = false
closest_or_share_came (S.Phase φ) = false
closest_or_share_came S.Closest = true
closest_or_share_came S.StarClosest = true
closest_or_share_came S.Share = true
closest_or_share_came S.End = false

-- "Order: head, penumbra by time, central by time, closest, end; head, closest and end exactly once";
-- document 02, wish 4: "A new kind 31 .. stands once, directly after closest .. sheets without it still read well";
-- wish 7: "8 for a sheet .. with a star entry and kind 31";
-- "A record that stands where another is due breaks order": whether an entry of a stage may come after what came last
abbrev pub may_come : Stage → Stage → Bool
may_come last S.Start = false
may_come last S.Head = nothing_came last
may_come last (S.Phase φ) = phase_may_come last φ
may_come last S.Closest = head_or_phase_came last
may_come last S.StarClosest = false
may_come last S.Share = closest_came last
may_come last S.End = closest_or_share_came last

-- document 02, wish 7: "8 for a sheet .. with a star entry and kind 31": closest after a star's entry is a stage of
-- its own
abbrev pub closest_after : Stage → Stage
closest_after last = cond (is_within last Star) S.StarClosest S.Closest

-- "no enter next to an enter or leave next to a leave": after the last crossing, this one
abbrev pub repeats : Crossing → Crossing → Bool
repeats last C.Neither = false
repeats C.Neither C.Enter = false
repeats C.Enter C.Enter = true
repeats C.Leave C.Enter = false
repeats C.Neither C.Leave = false
repeats C.Enter C.Leave = false
repeats C.Leave C.Leave = true
