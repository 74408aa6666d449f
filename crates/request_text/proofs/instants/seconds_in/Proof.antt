-- `request_text::instants::seconds_in` meets its contract: the word is cut out, and its tests are the definition's.
use Rattle.request_text.specs.laws.InstantLaws.{seconds-none, seconds_some}
use borrow.Author.Rules.{rules}
use Rattle.request_text.proofs.instants.seconds_in.Statement.{statement}
use Rattle.request_text.proofs.instants.seconds_in.Tie as tie

returns : tie.Need-returns-then-not-right
returns c =
    let t = c.before in
    let f = t.before in
    let a = f.before.before in
    let w = a.before in
    seconds-none _ _ _ _ _ _ w.word_in-word.ensures w.after_word.ensures a.all-bare.ensures f.has_form-form.ensures t.two_at-seconds.ensures.0
    c.if-not-right.true

returns-2 : tie.Need-returns
returns-2 c =
    let t = c.before in
    let f = t.before in
    let a = f.before.before in
    let w = a.before in
    seconds_some _ _ _ _ _ _ w.word_in-word.ensures w.after_word.ensures a.all-bare.ensures f.has_form-form.ensures t.two_at-seconds.ensures.0
    c.if-not-right.false

pub seconds_in_spec : {M : Type 1} → statement M
seconds_in_spec =
    tie.close
    (tie.spec (λ c κs. search rules) (λ c κs. search rules) (λ c κs. search rules) (λ c κs. search rules) (λ c κs. search rules) returns returns-2)
