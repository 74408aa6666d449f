-- `elements::stars::listed` meets its contract: each number is read back from its bits.
use mathlib.Core.Path.{refl}
use Rattle.elements.proofs.Lists.{cons_back}
use Rattle.elements.proofs.stars.listed.Statement.{statement}
use Rattle.elements.proofs.stars.listed.Tie as tie

returns : tie.Need-returns
returns c =
    let x = c.struct_told-1.given in
    let y = c.struct_told-2-1.given in
    let d = c.struct_told-3-1.given in
    let mu = c.struct_told-4-1.given in
    cons_back _ x.0.1 (cons_back _ x.1.0.1 (cons_back _ x.1.1.0.1 (cons_back _ x.1.1.1.0.1
    (cons_back _ y.0.1 (cons_back _ y.1.0.1 (cons_back _ y.1.1.0.1 (cons_back _ y.1.1.1.0.1
    (cons_back _ d.1.1.0.1
    (cons_back _ mu.0.1 (cons_back _ mu.1.0.1 (cons_back _ mu.1.1.0.1 refl)))))))))))

pub listed_spec : {M : Type 1} → statement M
listed_spec = tie.close (tie.spec returns)
