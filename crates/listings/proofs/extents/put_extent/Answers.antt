-- `listings::extents::put_extent` meets its contract, case by case.
use Rattle.listings.specs.laws.ExtentLaws.{put-sheet, put-refused-extent}
use Rattle.listings.proofs.extents.put_extent.Goals as goal

pub returns-in-Ok : goal.returns-in-Ok
returns-in-Ok c = put-sheet _ _ _ _ _ _ _ c.in-Ok.is c.put_numbered.ensures

pub returns-in-Err : goal.returns-in-Err
returns-in-Err c = put-refused-extent _ _ _ _ _ _ c.in-Err.is c.put_refusal.ensures
