-- The hand-worked sheet of document 01, as entries: well formed, 45 bytes long, and read back from its bytes. It shows
-- how the laws build a sheet up.
use Rattle.std.specs.Prelude.{◌≡◌, refl, List, [], ◌∷◌, length}
use Rattle.std.proofs.Common.{arith}
use Rattle.sheet_types.specs.declared.phases.Phase.TheVariants.{Penumbra, Central}
use Rattle.sheet_format.specs.declared.kinds.Crossing.TheVariants as C
use Rattle.sheet_format.specs.declared.kinds.Entry.{Entry}
use Rattle.sheet_format.specs.Entries.{head, enter, leave, closest, end}
use Rattle.sheet_format.specs.RecordEntries.{bytes_of}
use Rattle.sheet_rules.specs.Rules.{start}
use Rattle.sheet_codec.specs.Sheets.{sheet, read_whole}
use Rattle.sheet_codec.specs.laws.WellFormed.{WellFormed}
use Rattle.sheet_codec.specs.laws.WellFormedLaws.{well_step, step-head, step-enter, step-leave, well_first, well_later, well_closest}
use Rattle.sheet_codec.specs.RoundTrip.{read-whole_back}

-- "station 7 from -6000 to 6000", its enters and leaves, "closest 0 1037735"; each second plus 10,800
pub listing : List Entry
listing =
    head 7 4800 16800 16 ∷ enter Penumbra 5399 5401 2700 ∷ leave Penumbra 16199 16201 900
    ∷ enter Central 10699 10701 2700 ∷ leave Central 10899 10901 900 ∷ closest 10800 1037735 ∷ end ∷ []

pub listing_well : WellFormed start listing
unfolding listing
listing_well =
    well_step _ (step-head 7 4800 16800 16 (omega arith) (omega arith) (omega arith) (omega arith) (omega arith) (omega arith))
    (well_first Penumbra 4800 16800 _
    (well_step _ (step-enter Penumbra 4800 16800 0 C.Neither 5399 5401 (omega arith) (omega arith) (omega arith) 2700 refl (omega arith) refl)
    (well_step _ (step-leave Penumbra 4800 16800 5401 C.Enter 16199 16201 (omega arith) (omega arith) (omega arith) 900 refl (omega arith) refl)
    (well_later Penumbra Central 4800 16800 16201 C.Leave refl refl _
    (well_step _ (step-enter Central 4800 16800 0 C.Neither 10699 10701 (omega arith) (omega arith) (omega arith) 2700 refl (omega arith) refl)
    (well_step _ (step-leave Central 4800 16800 10701 C.Enter 10899 10901 (omega arith) (omega arith) (omega arith) 900 refl (omega arith) refl)
    (well_closest Central 4800 16800 10901 C.Leave 10800 1037735 (omega arith) (omega arith) (omega arith))))))))

-- document 02, wish 9: "the cases in document 01 use guard 16, with 45 and 44 bytes for 43 and 42": a buffer of 45
-- bytes succeeds
pub listing_length : length (bytes_of listing) ≡ 45
unfolding listing bytes_of
listing_length = refl

pub listing_read : read_whole (bytes_of listing) ≡ sheet listing (length (bytes_of listing))
listing_read = read-whole_back listing listing_well
