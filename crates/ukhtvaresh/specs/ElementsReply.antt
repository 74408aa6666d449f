-- What a caller from outside gets for elements from rows: the refusal's number and place, or 0 and 22, how many elements
-- there are.
use Rattle.std.specs.Prelude.{Result, Ok, Err}
use Rattle.ukhtvaresh.specs.declared.replies.Reply.{Reply}
use Rattle.element_fits.specs.declared.Fits.{Fits}
use Rattle.sheet_types.specs.declared.refusals.Refusal.{Refusal}
use Rattle.ukhtvaresh.specs.Replies.{refused_reply}

abbrev pub elements_reply : Result Fits Refusal → Reply
elements_reply (Ok f) = record { number = 0; value = 22 }
elements_reply (Err r) = refused_reply r
