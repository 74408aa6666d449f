-- `request_text::instants::read` meets its contract: the words are cut out one after the other, and tested together.
use mathlib.Core.Path.{ap, ◌∙◌}
use borrow.Author.Rules.{rules}
use Rattle.request_text.specs.Instants.{in_scale}
use Rattle.request_text.specs.laws.InstantLaws.{read-not, read_is}
use Rattle.request_text.proofs.instants.read.Statement.{statement}
use Rattle.request_text.proofs.instants.read.Tie as tie

returns : tie.Need-returns-then-not-right
returns c =
    let t = c.before in
    let b = t.before.before in
    let w = b.before.before.before in
    read-not _ _ _ _ _ _ _ _ _ w.word_in-date.ensures w.after_word-timed.ensures w.word_in-time.ensures
    b.after_word-scaled.ensures b.after_word.ensures t.is_date.ensures t.is_time.ensures b.all-bare.ensures
    c.if-not-right.true

returns-2 : tie.Need-returns
returns-2 c =
    let t = c.before.before.before in
    let b = t.before.before in
    let w = b.before.before.before in
    c.in_scale.ensures ∙ ap (in_scale _ _) c.word_in.ensures
    ∙ read_is _ _ _ _ _ _ _ _ _ w.word_in-date.ensures w.after_word-timed.ensures w.word_in-time.ensures
    b.after_word-scaled.ensures b.after_word.ensures t.is_date.ensures t.is_time.ensures b.all-bare.ensures
    c.if-not-right.false

pub read_spec : {M : Type 1} → statement M
read_spec =
    tie.close
    (tie.spec (λ c κs. search rules) (λ c κs. search rules) (λ c κs. search rules) (λ c κs. search rules)
    (λ c κs. search rules) (λ c κs. search rules) (λ c κs. search rules) (λ c κs. search rules) returns
    (λ c κs. search rules) (λ c κs. search rules) returns-2)
