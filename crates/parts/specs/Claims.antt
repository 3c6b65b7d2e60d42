-- What each structure of a map claims for itself; what it does not claim is empty. The LPC claims nothing; nor does the HT, which "enters
-- the LIO and no core vector itself" (W-201 of document 02), and whose vectors are its sources'.
use Rattle.std.specs.Prelude.{ℕ}
use Rattle.kinds.specs.declared.Lio.{Lio}
use Rattle.kinds.specs.declared.Eio.{Eio}
use Rattle.kinds.specs.declared.Bio.{Bio}
use Rattle.kinds.specs.declared.Msi.{Msi}
use Rattle.clashes.specs.Rules.{no_node}
use Rattle.clashes.specs.declared.Run.{Run}
use Rattle.clashes.specs.declared.Claim.{Claim}

-- no numbers at all
abbrev pub no_run : Run
no_run = record { first = 0; count = 0 }

-- "An unused LIO half enters nowhere": what is said of it is 0
abbrev pub lio_claim : Lio → ℕ → Claim
lio_claim lio place =
    record {
      place = place;
      numbers = no_run;
      vectors = no_run;
      node = no_node;
      hub = no_node;
      low = lio.low.cascade;
      high = lio.high.cascade;
    }

-- its node and its core vector
abbrev pub eio_claim : Eio → ℕ → Claim
eio_claim eio place =
    record {
      place = place;
      numbers = no_run;
      vectors = no_run;
      node = eio.node;
      hub = no_node;
      low = eio.cascade;
      high = 0;
    }

-- the global numbers of its inputs from b on, and as many vectors from 0 on of the hub of its node
abbrev pub bio_claim : Bio → ℕ → Claim
bio_claim bio place =
    record {
      place = place;
      numbers = record { first = bio.base; count = bio.pins };
      vectors = record { first = 0; count = bio.pins };
      node = no_node;
      hub = bio.node;
      low = 0;
      high = 0;
    }

-- "slot s, from start to start + count - 1, is a source on every EIO", or on the HT
abbrev pub msi_claim : Msi → ℕ → Claim
msi_claim msi place =
    record {
      place = place;
      numbers = no_run;
      vectors = record { first = msi.start; count = msi.count };
      node = no_node;
      hub = no_node;
      low = 0;
      high = 0;
    }
