-- Up to 90 degrees the cosine is the sine of 90 degrees less the angle.
use Rattle.std.proofs.Common.{sym, ◌∙◌}
use Rattle.sine.specs.laws.SineLaws.{cosine-first}
use Rattle.sine.proofs.Values.{is-cosine, kept}
use Rattle.sine.proofs.c.Goals as goal

pub returns : goal.returns
returns c =
    let q = c.first_quadrant in
    is-cosine (kept q.type_inv q.ensures ∙ sym (cosine-first c.args.a c.requires.1))
