-- `put_map` writes the kinds of lines in their order.
use Rattle.std.proofs.Common.{rules}
use Rattle.clashes.proofs.Arrays.{length_mapped}
use Rattle.lines.proofs.Counts.{take-used}
use Rattle.text.specs.Lines.{each}
use Rattle.text.specs.Text.{map_parts, map_text}
use Rattle.text.proofs.Bounds.{map-fits}
use Rattle.text.proofs.Wrote.{nothing, then}
use Rattle.text.proofs.put_map.Goals as goal

pub returns-clause-wrote : goal.returns-clause-wrote
unfolding map_text map_parts each
returns-clause-wrote c =
    let eios = take-used c.args.map.eios c.args.map.eiocount _ (search (rules, length_mapped)) c.used.ensures.value in
    let bios = take-used c.args.map.bios c.args.map.biocount _ (search (rules, length_mapped)) c.used-2.ensures.value in
    let msis = take-used c.args.map.msis c.args.map.msicount _ (search (rules, length_mapped)) c.used-3.ensures.value in
    then c.version.ensures
    (then c.cores.ensures
    (then (rw c.said_lio.ensures at c.tell.ensures)
    (then (rw c.said_ht.ensures at c.tell-2.ensures)
    (then (rw eios at c.each.ensures)
    (then (rw bios at c.each-2.ensures)
    (then (rw msis at c.each-3.ensures)
    (then (rw c.said_lpc.ensures at c.tell-3.ensures)
    (then (rw c.route.ensures at c.sci.ensures) (nothing _)))))))))

pub returns-clause-fits : goal.returns-clause-fits
returns-clause-fits c = map-fits _ _ _ c.requires (search rules) (search (rules, length_mapped)) (search (rules, length_mapped)) (search (rules, length_mapped))
