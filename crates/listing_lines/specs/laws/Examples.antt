-- Document 01's hand-worked listing, and a line of each other kind: each is computed.
use Rattle.std.specs.Prelude.{◌≡◌, refl, [], ◌∷◌}
use Rattle.sheet_types.specs.declared.phases.Phase.TheVariants.{Penumbra, Central, Star}
use Rattle.sheet_format.specs.Entries.{head, enter, leave, graze, opened, closest, share, end}
use Rattle.decimal_text.specs.Decimals.{digits_of, decimal, signed}
use Rattle.decimal_text.specs.Texts.{letters}
use Rattle.decimal_text.specs.Patterns.{piece, filled}
use Rattle.listing_lines.specs.Lines.{text_of, end_for, line_of, lines_of, refusal_text, refusal_line}

pub hand_worked : lines_of (
    head 7 4800 16800 16 ∷ enter Penumbra 5399 5401 2700 ∷ leave Penumbra 16199 16201 900
    ∷ enter Central 10699 10701 2700 ∷ leave Central 10899 10901 900 ∷ closest 10800 1037735 ∷ end ∷ []
    )
    ≡ letters "station 7 from -6000 to 6000\nenter penumbra -5401 -5399 2700\nleave penumbra 5399 5401 900\nenter central -101 -99 2700\nleave central 99 101 900\nclosest 0 1037735\n"
unfolding lines_of line_of text_of end_for filled piece signed decimal digits_of
hand_worked = refl

pub others : lines_of (opened Penumbra 16200 16201 ∷ graze Central 10799 10801 ∷ share 405728 ∷ [])
    ≡ letters "open penumbra 5400 5401\ngraze central -1 1\nshare 405728\n"
unfolding lines_of line_of text_of end_for filled piece signed decimal digits_of
others = refl

-- the four lines of a star, and its closest
pub of_a_star : lines_of (
    head 7 4800 16800 16 ∷ opened Star 4800 4801 ∷ enter Star 7321 7323 655 ∷ graze Star 8000 8002 ∷ leave Star 10807 10809 3077 ∷ closest 9065 0 ∷ end ∷ []
    )
    ≡ letters "station 7 from -6000 to 6000\nopen star -6000 -5999\nenter star -3479 -3477 655\ngraze star -2800 -2798\nleave star 7 9 3077\nclosest -1735 0\n"
unfolding lines_of line_of text_of end_for filled piece signed decimal digits_of
of_a_star = refl

-- document 02, wish 9: "with 45 and 44 bytes for 43 and 42": a buffer of 44 bytes gives refusal 4 with place 45
pub refused : refusal_line 4 45 ≡ letters "refused 4 45\n"
unfolding refusal_line refusal_text decimal digits_of
refused = refl
