-- The four bytes that std gives of a number are those of its two halves.
use Rattle.std.proofs.Common.{◌≡◌, ◌+◌, ◌-◌, ◌/◌, ◌∙◌, arith}
use Rattle.big_endian.specs.Numbers.{four}
use Rattle.big_endian.proofs.Parts.{put_part}
use Rattle.big_endian.proofs.put_four.Goals as goal

pub returns : goal.returns
returns c =
    let a = c.args in
    let k : 4 ≡ a.at + 4 - a.at = omega arith in
    let e : a.v / 65536 / 256 ≡ a.v / 16777216 = omega arith in
    let b : c.copy_from_slice.new.self ≡ four a.v = rw e (c.copy_from_slice.ensures.after ∙ c.to_be_bytes.ensures) in
    rw b (put_part a.at (a.at + 4 - a.at) a.buf.now (four a.v) k (omega arith))
