-- A message put part by part.
use Rattle.std.specs.Prelude.{ℕ, zero, suc, ◌≤◌, ◌<◌, ◌≡◌, refl, List, [], ◌∷◌, ◌++◌, length, get_or}
use Rattle.std.proofs.Common.{ap, arith}
use Rattle.request_format.specs.declared.fields.Field.{Field}
use Rattle.request_format.specs.declared.fields.Shape.{Shape}
use Rattle.request_format.specs.Fields.{countOf}
use Rattle.request_format.specs.Rows.{rows, rowAt, name_of, none}
use Rattle.request_format.specs.laws.RowLaws.{rows-count}
use Rattle.request_text.specs.declared.Fault.{Fault}
use Rattle.decimal_text.specs.Decimals.{decimal}
use Rattle.decimal_text.specs.Texts.{letters, Put}
use Rattle.decimal_text.specs.laws.TextLaws.{put_then}
use Rattle.request_text.specs.Messages.{line_of, word_of, name_at, fault_text, message_of}

-- a number past the last field has no name
pub name_none : (shape : Shape) (k : ℕ) → countOf shape ≤ k → name_at shape k ≡ []
unfolding name_at rowAt
name_none shape k h = ap name_of (past (rows shape) k none (omega (arith, rows-count shape)))
  where
    past : (l : List Field) (k : ℕ) (d : Field) → length l ≤ k → get_or l k d ≡ d
    past [] k d h = refl
    past (x ∷ l) zero d h = absurd (omega arith)
    past (x ∷ l) (suc k) d h = past l k d (omega arith)

pub name-is : (shape : Shape) (k : ℕ) (f : Field) → f ≡ rowAt shape k → name_of f ≡ name_at shape k
unfolding name_at
name-is shape k f e = ap name_of e

-- the same text in the same buffer
pub put_as : (room old : List ℕ) (at : ℕ) (x y new : List ℕ) (r : ℕ) → room ≡ old → x ≡ y → Put room at x new r → Put old at y new r
put_as room old at x y new r q e p = rw (← q, ← e) p

module _ (shape : Shape) (l old : List ℕ) (at : ℕ) (new : List ℕ) (r : ℕ) where
  -- what is wrong with a field
  abbrev Wrong : ℕ → List ℕ → Type 0
  Wrong k wrong = Put old at (name_at shape k ++ wrong) new r

  -- each fault in its words
  abbrev Told : Fault → Type 0
  Told f = Put old at (fault_text shape f l) new r

  pub put-unknown : Put old at (letters "unknown name " ++ word_of l) new r → Told Fault.Unknown
  unfolding fault_text
  put-unknown p = p

  module _ (k : ℕ) where
    pub put-not-number : Wrong k (letters " is not a number") → Told (Fault.NotNumber k)
    unfolding fault_text
    put-not-number p = p

    pub put-not-whole : Wrong k (letters " has too many decimals for a whole number of units") → Told (Fault.NotWhole k)
    unfolding fault_text
    put-not-whole p = p

    pub put-unfit : Wrong k (letters " is too large for its bytes") → Told (Fault.Unfit k)
    unfolding fault_text
    put-unfit p = p

    pub put-twice : Wrong k (letters " is given twice") → Told (Fault.Twice k)
    unfolding fault_text
    put-twice p = p

    pub put-missing : Wrong k (letters " is missing") → Told (Fault.Missing k)
    unfolding fault_text
    put-missing p = p

  pub put-told : (f g : Fault) → f ≡ g → Told g → Told f
  put-told f g e p = rw e p

-- the parts of a message, one after the other
pub put_parts : (shape : Shape) (text : List ℕ) (line : ℕ) (fault : Fault) (l old one two three four new : List ℕ) (at p q t u r : ℕ)
    → length old < 18446744073709551616 → l ≡ line_of text line → Put old at (letters "line ") one p → Put one p (decimal line) two q
    → Put two q (letters ": ") three t → Put three t (fault_text shape fault l) four u → Put four u (letters "\n") new r
    → Put old at (message_of shape text line fault) new r
unfolding message_of
put_parts shape text line fault l old one two three four new at p q t u r h is a b c d e =
    let two-parts = put_then old one two at p q _ _ h a b in
    let three-parts = put_then old two three at q t _ _ h two-parts c in
    rw (← is) (put_then old four new at u r _ _ h (put_then old three four at t u _ _ h three-parts d) e)
