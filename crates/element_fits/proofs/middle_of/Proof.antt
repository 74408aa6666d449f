-- `element_fits::middle_of` meets its contract: the middle row's turn.
use mathlib.Core.Path.{ap₂, ◌∙◌}
use lib.Dec.{lit≤}
use lib.IntN.{ℤ, pos}
use Rattle.rounding.specs.laws.Code.{read_back, read-size}
use Rattle.element_fits.specs.FromTables.{turn, middleOf}
use Rattle.element_fits.proofs.middle_of.Statement.{statement}
use Rattle.element_fits.proofs.middle_of.Tie as tie

returns : tie.Need-returns
unfolding middleOf
returns c =
    let s = c.before.before.before.before in
    let g = s.args.g.v3 in
    let a = s.args.h.h3.ascension in
    record {
      value =
          read_back c.turn.result c.turn.ensures.size tt ∙ c.turn.ensures.value
          ∙ ap₂ (λ (y z : ℤ). turn y z (pos 0)) (read_back g s.requires.1.v3 tt) (read_back a s.requires.0.h3.ascension tt);
      size = read-size c.turn.result 765_000_000 c.turn.ensures.size tt;
    }

turn-requires : tie.Need-turn-requires
turn-requires c κs =
    let s = c.before.before.before in (
      read-size s.args.g.v3 360_000_000 s.requires.1.v3 tt,
      read-size s.args.h.h3.ascension 360_000_000 s.requires.0.h3.ascension tt,
      lit≤ tt,
    )

pub middle_of_spec : {M : Type 1} → statement M
middle_of_spec = tie.close (tie.spec turn-requires returns)
