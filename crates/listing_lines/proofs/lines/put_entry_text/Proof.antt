-- `listing_lines::lines::put_entry_text` meets its contract: each arm has the text of its kind.
use native.Mathlib.Omega.{arith}
use Rattle.decimal_text.specs.laws.TextLaws.{put_nil}
use Rattle.listing_lines.specs.laws.LineLaws.{put_kind}
use borrow.Author.Rules.{rules}
use Rattle.listing_lines.proofs.lines.put_entry_text.Statement.{statement}
use Rattle.listing_lines.proofs.lines.put_entry_text.Tie as tie

returns : tie.Need-returns-in-Head
returns c = put_kind _ _ c.in-Head.is _ _ _ _ c.put_head.ensures

returns-2 : tie.Need-returns-in-Enter
returns-2 c = put_kind _ _ c.in-Enter.is _ _ _ _ c.put_contact.ensures

returns-3 : tie.Need-returns-in-Leave
returns-3 c = put_kind _ _ c.in-Leave.is _ _ _ _ c.put_contact-in-Leave.ensures

returns-4 : tie.Need-returns-in-Graze
returns-4 c = put_kind _ _ c.in-Graze.is _ _ _ _ c.put_unsure.ensures

returns-5 : tie.Need-returns-in-Open
returns-5 c = put_kind _ _ c.in-Open.is _ _ _ _ c.put_unsure-in-Open.ensures

returns-6 : tie.Need-returns-in-Closest
returns-6 c = put_kind _ _ c.in-Closest.is _ _ _ _ c.put_closest.ensures

returns-7 : tie.Need-returns-in-Share
returns-7 c = put_kind _ _ c.in-Share.is _ _ _ _ c.put_share.ensures

returns-8 : tie.Need-returns-in-End
returns-8 c = put_kind _ _ c.in-End.is _ _ _ _ (put_nil _ _ (omega arith))

pub put_entry_text_spec : {M : Type 1} → statement M
put_entry_text_spec =
    tie.close
    (tie.spec (λ c. search rules) (λ c κs. search rules) (λ c. search rules) (λ c κs. search rules) (λ c. search rules) (λ c κs. search rules) (λ c. search rules) (λ c κs. search rules) (λ c. search rules) (λ c κs. search rules) (λ c. search rules) (λ c κs. search rules) (λ c. search rules) (λ c κs. search rules) (λ c. search rules) (λ c. search rules) returns (λ c. search rules) returns-2 (λ c. search rules) returns-3 (λ c. search rules) returns-4 (λ c. search rules) returns-5 (λ c. search rules) returns-6 (λ c. search rules) returns-7 returns-8)
