-- Each turn takes one word (`StationLaws`).
use Rattle.std.specs.Prelude.{◌≡◌, Ok, Err}
use Rattle.std.proofs.Common.{rules, refl, sym, ◌∙◌}
use Rattle.std.proofs.Math.Path.{ap}
use Rattle.rounding.specs.laws.Code.{read_back}
use Rattle.network_text.specs.declared.Said.TheVariants as Said
use Rattle.network_text.specs.laws.StationLaws.{word_small, rowed-start, rowed-all, rowed-more, rowed-turn, rowed-fault}
use Rattle.network_text.proofs.stations.of_station.Goals as goal

pub loop-k-init : goal.loop-k-init
loop-k-init c = rowed-start _ _ refl

pub returns-in_err-row : goal.returns-in_err-row
returns-in_err-row c =
    let told : c.from_residual.result ≡ Err c.in_err-row.field-0.0 = search rules in
    told
    ∙ rowed-fault _ _ _ _ c.loop-k.invariant c.loop-k-test.true _ c.run-gap.ensures.0 _ c.run-size.ensures.0 _ c.word_of.ensures _ c.in_err-row.was

pub loop-k-preserved : goal.loop-k-preserved
loop-k-preserved c =
    rw (read_back c.in_ok-row.field-0 (word_small _ _ c.in_ok-row.field-0 (sym c.word_of.ensures ∙ c.in_ok-row.was)) tt)
    (rowed-turn _ _ _ _ c.loop-k.invariant c.loop-k-test.true _ c.run-gap.ensures.0 _ c.run-size.ensures.0 _ c.word_of.ensures c.in_ok-row.field-0 c.in_ok-row.was)

pub returns-then-not-bare : goal.returns-then-not-bare
returns-then-not-bare c = rowed-more _ _ _ _ c.loop-k.invariant c.loop-k-test.false (sym c.all-bare.ensures ∙ c.if-not-bare.true)

pub returns : goal.returns
returns c =
    ap (λ n. Ok (Said.Station n)) c.node_of.ensures
    ∙ rowed-all _ _ _ _ c.loop-k.invariant c.loop-k-test.false (sym c.all-bare.ensures ∙ c.if-not-bare.false)
