-- `listings::put_listing` meets its contract: the listing with no clock is the sheet's own.
use mathlib.Core.Path.{ap}
use lib.IntN.{pos}
use Rattle.decimal_text.specs.laws.RowLaws.{put_as}
use Rattle.listings.specs.Listings.{printed}
use Rattle.listings.specs.laws.ListingLaws.{timed-off}
use borrow.Author.Rules.{rules}
use Rattle.listings.proofs.put_listing.Statement.{statement}
use Rattle.listings.proofs.put_listing.Tie as tie

returns : tie.Need-returns
returns c = put_as _ _ _ _ _ _ (ap printed (timed-off (pos 0) _)) c.put_timed_listing.ensures

pub put_listing_spec : {M : Type 1} → statement M
put_listing_spec = tie.close (tie.spec (λ c κs. search rules) (λ c. search rules) returns)
