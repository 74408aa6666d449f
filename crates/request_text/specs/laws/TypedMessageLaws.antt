-- The instant's message put part by part, and how long it is at most.
use Rattle.std.specs.Prelude.{ℕ, ◌≤◌, ◌<◌, ◌≡◌, List, ◌++◌, length}
use Rattle.std.proofs.Common.{arith, length-append}
use Rattle.request_text.specs.declared.instants.Wrong.{Wrong}
use Rattle.request_text.specs.declared.instants.Wrong.TheVariants as W
use Rattle.decimal_text.specs.Decimals.{decimal}
use Rattle.decimal_text.specs.laws.DecimalLaws.{decimal_64}
use Rattle.decimal_text.specs.Texts.{letters, Put}
use Rattle.decimal_text.specs.laws.TextLaws.{put_then}
use Rattle.request_text.specs.TypedMessages.{wrong_text, instant_message}

pub put_wrong : (x y : Wrong) (old : List ℕ) (at : ℕ) (new : List ℕ) (r : ℕ) → x ≡ y → Put old at (wrong_text y) new r → Put old at (wrong_text x) new r
put_wrong x y old at new r e p = rw e p

pub put_parts : (line : ℕ) (wrong : Wrong) (old one two new : List ℕ) (at p q r : ℕ) → length old < 18446744073709551616 → Put old at (letters "line ") one p
    → Put one p (decimal line) two q → Put two q (wrong_text wrong) new r → Put old at (instant_message line wrong) new r
unfolding instant_message
put_parts line wrong old one two new at p q r h a b c = put_then old two new at q r _ _ h (put_then old one two at p q _ _ h a b) c

wrong_le : (wrong : Wrong) → length (wrong_text wrong) ≤ 58
wrong_le W.Malformed = omega arith
wrong_le W.Twice = omega arith
wrong_le W.NotSeconds = omega arith
wrong_le W.OffsetTwice = omega arith
wrong_le W.NeedsInstant = omega arith

pub instant_le : (i : ℕ) (wrong : Wrong) → i < 18446744073709551616 → length (instant_message i wrong) ≤ 83
unfolding instant_message
instant_le i wrong h =
    omega (
      arith,
      length-append (letters "line ") (decimal i),
      length-append (letters "line " ++ decimal i) (wrong_text wrong),
      decimal_64 i h,
      wrong_le wrong,
    )
