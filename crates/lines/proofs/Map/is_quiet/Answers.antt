-- `Map::is_quiet` tests the structures kind by kind.
use Rattle.std.proofs.Common.{◌&&◌, true, not, rules}
use Rattle.kinds.specs.declared.Eio.{Eio}
use Rattle.kinds.specs.declared.Bio.{Bio}
use Rattle.kinds.specs.declared.Msi.{Msi}
use Rattle.clashes.specs.Apart.{apart}
use Rattle.clashes.specs.Rules.{is_missing}
use Rattle.parts.specs.Claims.{lio_claim, eio_claim, bio_claim, msi_claim}
use Rattle.lines.specs.Says.{says}
use Rattle.lines.specs.Hubs.{nodes}
use Rattle.lines.specs.Quiet.{far_from, eios_quiet, bios_quiet, msis_quiet, quiet}
use Rattle.lines.proofs.Map.is_quiet.Goals as goal

pub returns : goal.returns
unfolding quiet eios_quiet bios_quiet msis_quiet
returns c =
    let said = says c.args.self.now in
    rw (
      c.still_each-eios.ensures (λ (e : Eio). apart (lio_claim said.lio 0) (eio_claim e 0)) (λ x r p. search rules),
      c.still_each-bios.ensures (λ (b : Bio). not (is_missing b.node (nodes said)) && far_from msi_claim (bio_claim b 0) said.msis) (λ x r p. search rules),
      c.still_each-msis.ensures (λ (m : Msi). true) (λ x r p. search rules),
      c.eios.ensures,
      c.bios.ensures,
      c.msis.ensures,
    )
