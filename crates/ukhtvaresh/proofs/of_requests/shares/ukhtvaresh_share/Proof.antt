-- `ukhtvaresh::of_requests::shares::ukhtvaresh_share` meets its contract: the share as it is asked for, as numbers; what it means
-- follows from the answer.
use mathlib.Core.Path.{◌≡◌, sym, subst, ap, ◌∙◌}
use borrow.Author.Rules.{rules}
use mir.Syntax.{w64}
use mir.ValLaws.{to_z-of_z}
use Rattle.request_format.specs.declared.fields.Shape.TheVariants.{Eclipse}
use Rattle.request_format.specs.Input.{input_of}
use Rattle.ukhtvaresh.specs.declared.replies.Reply.{Reply}
use Rattle.obscuration.specs.Answer.{share_by}
use Rattle.obscuration.specs.AnswerLaws.{AnsweredSizes}
use Rattle.request_answers.specs.Second.{wish, second_asked, sines_asked}
use Rattle.ukhtvaresh.specs.Shares.{share_reply}
use Rattle.request_answers.specs.laws.ShareLaws.{asked_sizes, asked_means}
use Rattle.ukhtvaresh.proofs.of_requests.shares.ukhtvaresh_share.Statement.{statement}
use Rattle.ukhtvaresh.proofs.of_requests.shares.ukhtvaresh_share.Tie as tie

module _ (c : tie.After-asked-found) where
  abbrev start : tie.Start
  start = c.before.before.before.before

  -- what is asked for, second being read back from its bits
  found-is : c.asked-found.result ≡ second_asked (wish Eclipse start.args.request.now) start.args.second start.args.sines.now
  found-is =
      c.asked-found.ensures.0
      ∙ ap (λ τ. second_asked (wish Eclipse start.args.request.now) τ start.args.sines.now) (to_z-of_z w64 start.args.second start.ranges.second)

of-second-requires : tie.Need-of_second-share-requires
of-second-requires c κs =
    let got = c.before.before in
    let a = (start got).args in
    subst AnsweredSizes (sym (found-is got)) (asked_sizes (input_of a.request.now) a.second a.sines.now)

returns : tie.Need-returns
returns c =
    let got = c.before.before.before.before in
    let a = (start got).args in
    let e = c.share_reply-reply.ensures ∙ ap share_reply (c.of_second-share.ensures ∙ ap share_by (found-is got)) in
    let left = got.asked-found.ensures.1
    ∙ ap (λ τ. sines_asked (wish Eclipse a.request.now) τ a.sines.now) (to_z-of_z w64 a.second (start got).ranges.second) in
    (ap (λ (x : Reply). x.number) e, (ap (λ (x : Reply). x.value) e, (left, asked_means a.request.now a.second a.sines.now)))

pub ukhtvaresh_share_spec : {M : Type 1} → statement M
ukhtvaresh_share_spec = tie.close (tie.spec (λ c κs. search rules) of-second-requires (λ c κs. search rules) (λ c. search rules) returns)
