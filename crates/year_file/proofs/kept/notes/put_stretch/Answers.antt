-- `year_file::kept::notes::put_stretch` meets its contract: nothing for no bytes; else the start, then the length.
use Rattle.std.proofs.Common.{◌≡◌, ◌/◌, ◌%◌, ◌∙◌, ℕ, ◌∷◌, [], sym, refl, arith}
use Rattle.std.proofs.Math.Nat.{div-div-eq-div-mul}
use Rattle.big_endian.specs.Numbers.{eight}
use Rattle.decimal_text.specs.laws.TextLaws.{put_nil, put_then}
use Rattle.year_file.proofs.laws.NoteLaws.{ended-none, ended_note}
use Rattle.year_file.proofs.kept.notes.put_stretch.Goals as goal

-- the bytes that std gives of a number are the document's
bytes_are : (n : ℕ)
    → n / 72057594037927936 % 256
    ∷ n / 281474976710656 % 256
    ∷ n / 1099511627776 % 256
    ∷ n / 4294967296 % 256
    ∷ n / 16777216 % 256
    ∷ n / 65536 % 256
    ∷ n / 256 % 256
    ∷ n % 256
    ∷ []
    ≡ eight n
bytes_are n =
    rw (
      sym (div-div-eq-div-mul (n / 4294967296) 65536 256 ∙ div-div-eq-div-mul n 4294967296 16777216),
      sym (div-div-eq-div-mul n 4294967296 65536),
      sym (div-div-eq-div-mul n 4294967296 256),
      sym (div-div-eq-div-mul n 65536 256),
    )
    refl

pub returns-then-lost-eq0 : goal.returns-then-lost-eq0
returns-then-lost-eq0 c = let a = c.args in rw (ended-none a.end a.lost c.if-lost-eq0.true) (put_nil _ _ (omega arith))

pub returns : goal.returns
returns c =
    let a = c.args in
    rw (ended_note a.end a.lost c.if-lost-eq0.false)
    (put_then _ _ _ _ _ _ _ _ (omega arith) (rw (c.to_be_bytes.ensures ∙ bytes_are _) at c.put_text-next.ensures) (rw (c.to_be_bytes-2.ensures ∙ bytes_are _) at c.put_text.ensures))
