-- `shadow::magnitude_at` meets its contract: the shadow and its states are the second's, so its magnitude is too.
use mathlib.Core.Path.{◌∙◌}
use Rattle.rounding.specs.laws.Code.{read_back, read-size}
use Rattle.shadow.specs.Shadow.{IsShadow}
use Rattle.shadow.specs.laws.SecondLaws.{states_of_second}
use Rattle.shadow.proofs.Letters.{sizes, magnitude-asks, magnitude-is}
use Rattle.shadow.proofs.magnitude_at.Statement.{statement}
use Rattle.shadow.proofs.magnitude_at.Tie as tie

seen : (c : tie.After-shadow_at-s) → IsShadow c.args.e c.args.place c.args.t c.shadow_at-s.result
seen c =
    let a = c.before.before in
    rw (read_back a.args.t a.requires.3 tt) at c.shadow_at-s.ensures

shadow-at-requires : tie.Need-shadow_at-s-requires
shadow-at-requires c κs =
    let a = c.before in
    (a.requires.0, a.requires.1, a.requires.2, read-size a.args.t 10800 a.requires.3 tt)

states-of-requires : tie.Need-states_of-w-requires
states-of-requires c κs =
    let a = c.before.before in
    (read-size a.args.guard 1000 a.requires.4 tt, sizes a.args.e a.requires.1 a.args.place a.requires.2 a.args.t a.requires.3 c.shadow_at-s.result (seen c))

magnitude-requires : tie.Need-magnitude-requires
magnitude-requires c κs =
    let s = c.before.before.before.before in
    let a = s.before.before in
    magnitude-asks a.args.e a.requires.1 a.args.place a.requires.2 a.args.t a.requires.3 s.shadow_at-s.result (seen s)

returns : tie.Need-returns
returns c =
    let j = c.before.before.before.before in
    let s = j.before in
    let a = s.before.before in
    c.magnitude.ensures.0
    ∙ magnitude-is a.args.e a.requires.1 a.args.place a.requires.2 a.args.t a.requires.3 s.shadow_at-s.result (seen s) a.args.guard j.states_of-w.result
    (states_of_second (seen s) (rw (read_back a.args.guard a.requires.4 tt) at j.states_of-w.ensures))

pub magnitude_at_spec : {M : Type 1} → statement M
magnitude_at_spec = tie.close (tie.spec shadow-at-requires states-of-requires magnitude-requires returns)
