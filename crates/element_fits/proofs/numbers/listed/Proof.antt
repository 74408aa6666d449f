-- `element_fits::numbers::listed` meets its contract: each number is read back from its bits.
use borrow.Author.Rules.{rules}
use Rattle.rounding.specs.laws.Code.{read_result}
use Rattle.besselian_rows.specs.Tables.{number}
use Rattle.element_fits.specs.Numbers.{numbers_of}
use Rattle.element_fits.proofs.numbers.listed.Statement.{statement}
use Rattle.element_fits.proofs.numbers.listed.Tie as tie

returns : tie.Need-returns
unfolding numbers_of
returns c =
    let f8 = c.before in
    let f7 = f8.before in
    let f6 = f7.before in
    let f5 = f6.before in
    let f4 = f5.before in
    let f3 = f4.before in
    let f2 = f3.before in
    let f1 = f2.before in
    let f0 = f1.before in
    let k = f0.args.radii.now in
    let g = f0.args.sidereal.now in
    rw (
      read_result (number k 0) f0.k0-1.given,
      read_result (number k 1) f1.k1-1.given,
      read_result (number k 2) f2.k2-1.given,
      read_result (number g 0) f3.g0-1.given,
      read_result (number g 1) f4.g1-1.given,
      read_result (number g 2) f5.g2-1.given,
      read_result (number g 3) f6.g3-1.given,
      read_result (number g 4) f7.g4-1.given,
      read_result (number g 5) f8.g5-1.given,
      read_result (number g 6) c.g6-1.given,
    )

pub listed_spec : {M : Type 1} → statement M
listed_spec =
    tie.close
    (tie.spec (λ c. search rules) (λ c. search rules) (λ c. search rules) (λ c. search rules)
    (λ c. search rules) (λ c. search rules) (λ c. search rules) (λ c. search rules) (λ c. search rules)
    (λ c. search rules) returns)
