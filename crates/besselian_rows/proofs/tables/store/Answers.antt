-- `besselian_rows::tables::store` meets its contract: the part from `at` on is the eight values, each read back from its
-- bits.
use Rattle.std.proofs.Common.{refl, ◌≡◌, rules}
use Rattle.besselian_rows.specs.Tables.{eight}
use Rattle.besselian_rows.proofs.laws.TablesLaws.{pasted}
use Rattle.besselian_rows.proofs.tables.store.Goals as goal

pub returns : goal.returns
returns c =
    let e : c.copy_from_slice.new.self ≡ eight c.args.b = search rules in
    pasted _ _ _ c.args.at 8 refl c.requires e
