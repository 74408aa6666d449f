-- Up to 90 degrees the sine is the first quadrant's.
use Rattle.std.proofs.Common.{sym, ◌∙◌}
use Rattle.sine.specs.laws.SineLaws.{sine-first}
use Rattle.sine.proofs.Values.{is-sine, kept}
use Rattle.sine.proofs.s.Goals as goal

pub returns : goal.returns
returns c =
    let q = c.first_quadrant in
    is-sine (kept q.type_inv q.ensures ∙ sym (sine-first c.args.a c.requires.1))
