-- `request_text::of_value` meets its contract: the word ends where its run does, and blanks alone follow.
use mathlib.Core.Path.{sym, ◌∙◌}
use lib.Seq.{length-take-le}
use Rattle.request_text.specs.laws.LineLaws.{value-crowded, value-alone}
use borrow.Author.Rules.{rules}
use Rattle.request_text.proofs.of_value.Statement.{statement}
use Rattle.request_text.proofs.of_value.Tie as tie

returns : tie.Need-returns-then-not-bare
returns c = value-crowded _ _ _ _ c.run-length.ensures.0 (sym c.all-bare.ensures ∙ c.if-not-bare.true)

slice-aggregate-value-of : tie.Need-slice_bounds-value_of-end
slice-aggregate-value-of c = sym (length-take-le _ _ c.run-length.ensures.1)

returns-2 : tie.Need-returns
returns-2 c = c.value_of.ensures
    ∙ value-alone _ _ _ _ c.run-length.ensures.0
    (sym c.all-bare.ensures ∙ c.if-not-bare.false)

pub of_value_spec : {M : Type 1} → statement M
of_value_spec =
    tie.close
    (tie.spec (λ c κs. search rules) (λ c. search rules) (λ c. search rules) (λ c. search rules)
    (λ c κs. search rules) returns slice-aggregate-value-of (λ c κs. search rules) returns-2)
