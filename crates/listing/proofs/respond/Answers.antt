-- `listing::respond` meets its contract: an input that fills the array is too long, and any other was read whole.
use Rattle.std.proofs.Common.{arith}
use Rattle.listing.specs.laws.PrintedLaws.{long-out, listing-out}
use Rattle.listing.proofs.respond.Goals as goal

pub returns-then-length-ge327680-clause-text : goal.returns-then-length-ge327680-clause-text
returns-then-length-ge327680-clause-text c = (long-out _ _ _ _ (omega arith) (omega arith) _ c.if-length-ge327680.true c.requires.0 c.put_text-told.ensures).0

pub returns-then-length-ge327680-clause-counts : goal.returns-then-length-ge327680-clause-counts
returns-then-length-ge327680-clause-counts c = (long-out _ _ _ _ (omega arith) (omega arith) _ c.if-length-ge327680.true c.requires.0 c.put_text-told.ensures).1

pub returns-clause-text : goal.returns-clause-text
returns-clause-text c = listing-out _ _ _ _ (omega arith) (omega arith) _ _ c.if-length-ge327680.false c.requires.0 c.put_listing-end.ensures c.clipped.ensures.value
