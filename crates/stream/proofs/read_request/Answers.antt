-- `stream::read_request` meets its contract: the request's first byte, and behind it the others.
use Rattle.std.specs.Prelude.{ℕ, ◌≤◌, ◌+◌, List, length, Result, Ok, Err, OnErr}
use Rattle.std.proofs.Common.{rules, ap, sym, subst, ◌≡◌, ◌∙◌, take, ◌++◌}
use Rattle.std.specs.Io.KnownBytes.{Consumes}
use Rattle.std.specs.declared.option.Option.{Option}
use borrow.Rule.Slice.PartMut.{put_mid}
use lib.Seq.{take-append-le}
use Rattle.program_io.proofs.Filled.{consumes_more}
use Rattle.stream.proofs.read_request.Goals as goal

-- the bytes read behind the first one, however many
behind_first : (a b c : Option (List ℕ)) (k got n : ℕ) (first after part : List ℕ) → got ≡ 1 → 1 ≤ length first → n ≤ length part
    → Consumes a b (take got first) → Consumes b c (take n part) → Consumes a c (take (1 + n) (put_mid 1 k (first ++ after) part))
behind_first a b c k got n first after part one within fits before read =
    let same : take got first ≡ take 1 (first ++ after) = ap (λ n. take n first) one ∙ sym (take-append-le 1 first after within) in
    consumes_more a b c 1 k n (first ++ after) part (search rules) fits (subst (Consumes a b) same before) read

on_any_error : {T E P : Type 0} (r : Result T E) → P → OnErr r P
on_any_error (Ok _) p = tt
on_any_error (Err _) p = p

pub returns-clause-rest : goal.returns-clause-rest
returns-clause-rest g c =
    behind_first _ _ _ _ _ _ _ _ _ (search rules) (search rules) c.in_ok-more.ensures.counts.0 c.in_ok-got.ensures.rest c.in_ok-more.ensures.rest

pub returns-in_err-more-clause-failed : goal.returns-in_err-more-clause-failed
returns-in_err-more-clause-failed g c =
    let lost = c.in_err-more.ensures.failed in
    let rest = behind_first _ _ _ _ _ _ _ _ _ (search rules) (search rules) lost.1.0 c.in_ok-got.ensures.rest lost.2 in
    on_any_error c.from_residual-in_err-more.result (1 + lost.0, search rules, rest)
