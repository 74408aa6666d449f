-- `shadow::second_at` meets its contract: the shadow is the second's, so its states, magnitude and direction are too.
use mathlib.Core.Path.{◌∙◌}
use Rattle.rounding.specs.laws.Code.{read_back, read-size}
use Rattle.shadow.specs.Shadow.{IsShadow}
use Rattle.shadow.specs.Second.{IsStates}
use Rattle.shadow.specs.laws.SecondLaws.{states_of_second}
use Rattle.shadow.proofs.Letters.{sizes, magnitude-asks, magnitude-is, direction-asks, direction-is}
use Rattle.shadow.proofs.second_at.Statement.{statement}
use Rattle.shadow.proofs.second_at.Tie as tie

seen : (c : tie.After-shadow_at-s) → IsShadow c.args.e c.args.place c.args.t c.shadow_at-s.result
seen c =
    let a = c.before.before in
    rw (read_back a.args.t a.requires.3 tt) at c.shadow_at-s.ensures

states : (c : tie.After-states_of-w)
    → IsStates c.args.guard c.args.e c.args.place c.args.t c.states_of-w.result
states c =
    let a = c.before.before.before in
    states_of_second (seen c.before) (rw (read_back a.args.guard a.requires.4 tt) at c.states_of-w.ensures)

shadow-at-requires : tie.Need-shadow_at-s-requires
shadow-at-requires c κs =
    let a = c.before in
    (a.requires.0, a.requires.1, a.requires.2, read-size a.args.t 10800 a.requires.3 tt)

states-of-requires : tie.Need-states_of-w-requires
states-of-requires c κs =
    let a = c.before.before in
    (read-size a.args.guard 1000 a.requires.4 tt, sizes a.args.e a.requires.1 a.args.place a.requires.2 a.args.t a.requires.3 c.shadow_at-s.result (seen c))

magnitude-requires : tie.Need-magnitude-magnitude-requires
magnitude-requires c κs =
    let s = c.before.before.before.before in
    let a = s.before.before in
    magnitude-asks a.args.e a.requires.1 a.args.place a.requires.2 a.args.t a.requires.3 s.shadow_at-s.result (seen s)

direction-requires : tie.Need-direction-direction-requires
direction-requires c κs =
    let s = c.before.before.before.before.before.before.before in
    let a = s.before.before in
    let d = direction-asks a.args.e a.requires.1 a.args.place a.requires.2 a.args.t a.requires.3 s.shadow_at-s.result (seen s) in
    (a.requires.0, d.0, d.1)

returns : tie.Need-returns
returns c =
    let j = c.before.before.before.before.before.before.before in
    let s = j.before in
    let a = s.before.before in
    let x = s.shadow_at-s.result in
    record {
      shadow = seen s;
      penumbra = (states j).penumbra;
      central = (states j).central;
      magnitude = c.magnitude-magnitude.ensures.0
          ∙ magnitude-is a.args.e a.requires.1 a.args.place a.requires.2 a.args.t a.requires.3 x (seen s) a.args.guard j.states_of-w.result (states j);
      direction = c.direction-direction.ensures ∙ direction-is a.args.e a.requires.1 a.args.place a.requires.2 a.args.t a.requires.3 x (seen s);
    }

pub second_at_spec : {M : Type 1} → statement M
second_at_spec =
    tie.close
    (tie.spec shadow-at-requires states-of-requires magnitude-requires direction-requires returns)
