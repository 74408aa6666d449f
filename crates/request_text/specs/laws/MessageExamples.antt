-- A message of each shape: each is computed.
use Rattle.std.specs.Prelude.{◌≡◌, refl}
use Rattle.request_format.specs.declared.fields.Shape.TheVariants as S
use Rattle.request_format.specs.Rows.{rows, rowAt}
use Rattle.tokens.specs.Text.{run_of, lines_of}
use Rattle.request_text.specs.declared.Fault.TheVariants as Fault
use Rattle.decimal_text.specs.Decimals.{digits_of, decimal}
use Rattle.decimal_text.specs.Texts.{letters}
use Rattle.request_text.specs.Messages.{word_of, name_at, fault_text, message_of}

pub unknown : message_of S.Eclipse (letters "x0 1\n\tbogus 5 # a comment\nx1 2\n") 2 Fault.Unknown ≡ letters "line 2: unknown name bogus\n"
unfolding message_of fault_text word_of run_of lines_of decimal digits_of
unknown = refl

pub missing : message_of S.Eclipse (letters "x0 1\n") 2 (Fault.Missing 20) ≡ letters "line 2: tan f1 is missing\n"
unfolding message_of fault_text name_at rowAt rows decimal digits_of
missing = refl

pub star-missing : message_of S.Star (letters "radius 1\n") 2 (Fault.Missing 9) ≡ letters "line 2: mu0 is missing\n"
unfolding message_of fault_text name_at rowAt rows decimal digits_of
star-missing = refl
