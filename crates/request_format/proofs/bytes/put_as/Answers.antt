-- `request_format::bytes::put_as` meets its contract: what was laid is handed over where all fits; else nothing is
-- touched.
use Rattle.request_format.specs.laws.PutLaws.{put-done, put-unfit}
use Rattle.request_format.proofs.bytes.put_as.Goals as goal

pub returns-in_err-lay-clause-bytes : goal.returns-in_err-lay-clause-bytes
returns-in_err-lay-clause-bytes g c = (put-unfit _ _ _ _ _ c.lay.ensures _ c.in_err-lay.was).1

pub returns-clause-bytes : goal.returns-clause-bytes
returns-clause-bytes g c = (put-done _ _ _ _ _ c.lay.ensures c.in_ok-lay.was).1
