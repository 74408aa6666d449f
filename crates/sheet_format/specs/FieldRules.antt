-- The rules of an entry's fields, in the window of its sheet: "A reader also asks: station 1..999; first ≤ last ≤
-- 21,600; every second inside the window; from < to (open: from ≤ to, and from is the first second or to the last);
-- direction 0..3599 or 65,535; magnitude ≤ 1,300,000." Of the head's guard document 02, wish 9, asks 16 to 1,000. Of a
-- share document 02, wish 4, asks: "It lies from 0 to 1,000,000". Of a magnitude after a star's entry document 02,
-- wish 7, asks 0.
use Rattle.std.specs.Prelude.{ℕ, Bool, false, cond, ◌&&◌, ◌||◌, leb, ltb, eqb}
use Rattle.sheet_types.specs.declared.phases.Phase.{Phase}
use Rattle.sheet_types.specs.declared.phases.Phase.TheVariants.{Star}
use Rattle.sheet_types.specs.Phases.{same}
use Rattle.sheet_format.specs.declared.kinds.Stage.{Stage}
use Rattle.sheet_format.specs.declared.kinds.Stage.TheVariants as S
use Rattle.sheet_format.specs.declared.kinds.Progress.{Progress}

-- document 02, wish 9: "a guard of 16 to 1,000"
abbrev pub guard_holds : ℕ → Bool
guard_holds guard = leb 16 guard && leb guard 1000

-- "station 1..999; first ≤ last ≤ 21,600", and the guard
abbrev pub head_holds : ℕ → ℕ → ℕ → ℕ → Bool
head_holds station first last guard = leb 1 station && leb station 999 && leb first last && leb last 21600 && guard_holds guard

-- "every second inside the window"
abbrev pub in_window : Progress → ℕ → Bool
in_window p x = leb p.first x && leb x p.last

-- "from < to", both inside the window
abbrev pub span_holds : Progress → ℕ → ℕ → Bool
span_holds p from to = in_window p from && in_window p to && ltb from to

-- "open: from ≤ to, and from is the first second or to the last", both inside the window
abbrev pub open_holds : Progress → ℕ → ℕ → Bool
open_holds p from to = in_window p from && in_window p to && leb from to && (eqb from p.first || eqb to p.last)

-- "direction 0..3599 or 65,535"
abbrev pub is_direction : ℕ → Bool
is_direction direction = leb direction 3599 || eqb direction 65535

-- an entry of that phase came last
abbrev pub is_within : Stage → Phase → Bool
is_within S.Start ψ = false
is_within S.Head ψ = false
is_within (S.Phase φ) ψ = same φ ψ
is_within S.Closest ψ = false
is_within S.StarClosest ψ = false
is_within S.Share ψ = false
is_within S.End ψ = false

-- "magnitude ≤ 1,300,000"; document 02, wish 7: "7 for a magnitude above 0 after a star entry"
abbrev pub greatestMagnitude : Stage → ℕ
greatestMagnitude last = cond (is_within last Star) 0 1300000

abbrev pub closest_holds : Progress → ℕ → ℕ → Bool
closest_holds p second magnitude = in_window p second && leb magnitude (greatestMagnitude p.stage)

-- document 02, wish 4: "7 for a share above 1,000,000"
abbrev pub shareHolds : ℕ → Bool
shareHolds share = leb share 1000000
